-- Acts whose reads show that their update fits.
use Rattle.std.specs.Prelude.{◌≡◌, ◌⊎◌, ℕ, List, [], ◌∷◌, Option, Some, None, false, ◌≢◌}
use Rattle.iot_tree.specs.Tree.{Path}
use Rattle.iot_tree.specs.declared.updates.Update.{Update}
use Rattle.iot_tree.specs.declared.acts.Act.{Act}
use Rattle.iot_tree.specs.declared.acts.Read.{Read}
use Rattle.iot_tree.specs.declared.questions.Question.{Question}
use Rattle.iot_tree.specs.declared.questions.Question.TheVariants.{Kind, Content, Names, Mode}
use Rattle.iot_tree.specs.declared.questions.Answer.{Answer}
use Rattle.iot_tree.specs.declared.questions.Answer.TheVariants as answers
use Rattle.iot_tree.specs.declared.updates.Update.TheVariants.{Put, MakeDir, Remove, Move, SetMode}
use Rattle.iot_acts.specs.Paths.{parent_path, is_at_or_below}

-- the question was asked among the reads, and had this answer
abbrev pub Asked : List Read → Question → Answer → Type 0
Asked [] question answer = ⊥
Asked (read ∷ reads) question answer = (read ≡ record { question = question; answer = answer }) ⊎ Asked reads question answer

-- p is free: the reads say that nothing is at p, and that its parent is a directory
pub record AskedFree (reads : List Read) (p : Path) : Type 0 where
  pub absent : Asked reads (Kind p) answers.Absent
  pub parent : Asked reads (Kind (parent_path p)) answers.IsDir

-- the reads say that a file is at p, or what its contents are, or that p is free
pub data GuardsPut (reads : List Read) (p : Path) : Type 0 where
  over_file : Asked reads (Kind p) answers.IsFile → GuardsPut reads p
  over_contents : (bytes : List ℕ) → Asked reads (Content p) (answers.Bytes bytes) → GuardsPut reads p
  in_free : AskedFree reads p → GuardsPut reads p

-- the reads say that a file is at p, or that p is a directory with no name in it
pub data GuardsRemove (reads : List Read) (p : Path) : Type 0 where
  file_goes : Asked reads (Kind p) answers.IsFile → GuardsRemove reads p
  empty_goes : Asked reads (Names p) (answers.Names []) → GuardsRemove reads p

-- the reads say that p and q are files, or that p is a directory and q one with no name in it, or that something is at p and q is free
pub data GuardsMove (reads : List Read) (p q : Path) : Type 0 where
  file_to_file : Asked reads (Kind p) answers.IsFile → Asked reads (Kind q) answers.IsFile → GuardsMove reads p q
  dir_to_empty : Asked reads (Kind p) answers.IsDir → Asked reads (Names q) (answers.Names []) → GuardsMove reads p q
  any_to_free : (Asked reads (Kind p) answers.IsDir ⊎ Asked reads (Kind p) answers.IsFile) → AskedFree reads q → GuardsMove reads p q

-- the reads say whether the file at p is executable
pub data GuardsSetMode (reads : List Read) (p : Path) : Type 0 where
  over_on : Asked reads (Mode p) answers.On → GuardsSetMode reads p
  over_off : Asked reads (Mode p) answers.Off → GuardsSetMode reads p

-- what is removed is not the root, and the reads say that it can go
pub record MayRemove (reads : List Read) (p : Path) : Type 0 where
  pub not_root : p ≢ []
  pub guard : GuardsRemove reads p

-- what is moved is not the root, goes neither to the root nor to itself or below, and the reads say that it can
pub record MayMove (reads : List Read) (p q : Path) : Type 0 where
  pub from_not_root : p ≢ []
  pub to_not_root : q ≢ []
  pub apart : is_at_or_below q p ≡ false
  pub guard : GuardsMove reads p q

-- the reads guard the update: they say what it needs to fit
abbrev pub Guards : List Read → Update → Type 0
Guards reads (Put p bytes) = GuardsPut reads p
Guards reads (MakeDir p) = AskedFree reads p
Guards reads (Remove p) = MayRemove reads p
Guards reads (Move p q) = MayMove reads p q
Guards reads (SetMode p mode) = GuardsSetMode reads p

-- there is no update, or the reads guard it
abbrev pub GuardsIfAny : List Read → Option Update → Type 0
GuardsIfAny reads None = Unit {0}
GuardsIfAny reads (Some update) = Guards reads update

-- an act is guarded if its own reads guard its update
abbrev pub IsGuarded : Act → Type 0
IsGuarded act = GuardsIfAny act.reads act.update

-- each act is guarded
abbrev pub AllGuarded : List Act → Type 0
AllGuarded [] = Unit {0}
AllGuarded (act ∷ acts) = IsGuarded act × AllGuarded acts
