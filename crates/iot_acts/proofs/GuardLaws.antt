-- What is guarded by a tree's answers fits that tree.
use Rattle.std.proofs.Common.{◌≡◌, ◌≢◌, ◌⊎◌, ℕ, Bool, true, false, ◌||◌, IsSome, List, [], ◌∷◌, ◌++◌, Option, Some, None, refl, sym, ap}
use Rattle.std.proofs.Common.{subst, ◌∙◌, inl, inr, bytes_eq, unwrap_or, option_and_then, map}
use Rattle.std.proofs.lemmas.Bool.{both_ways}
use Rattle.std.specs.FinMap.{get}
use Rattle.std.specs.Cmp.Lexicographic.{pointwise, lists_equiv, nat_list_eq_equiv}
use Rattle.iot_text.specs.Paths.{IsBelow, is_below}
use Rattle.iot_text.proofs.PathsLaws.{is_below-of, parent_of-push}
use Rattle.iot_tree.specs.Tree.{Path, Nodes, IsTree, parent_node}
use Rattle.iot_tree.specs.Questions.{answer_of, is_far_above, is_far_dir, children_of}
use Rattle.iot_tree.specs.Updates.{FitsPut, FitsRemove, FitsMove, FitsSetMode, Fits, IsLeaf}
use Rattle.iot_tree.specs.declared.nodes.Node.TheVariants.{Dir, FarDir}
use Rattle.iot_tree.specs.declared.questions.Question.{Question}
use Rattle.iot_tree.specs.declared.questions.Question.TheVariants.{Kind, Content, Names, Mode}
use Rattle.iot_tree.specs.declared.questions.Answer.{Answer}
use Rattle.iot_tree.specs.declared.questions.Answer.TheVariants as answers
use Rattle.iot_tree.specs.declared.updates.Update.{Update}
use Rattle.iot_tree.specs.declared.updates.Update.TheVariants.{Put, MakeDir, Remove, Move, SetMode}
use Rattle.iot_tree.specs.declared.acts.Read.{Read}
use Rattle.iot_tree.specs.declared.acts.Act.{Act}
use Rattle.iot_tree.proofs.AncestorLaws.{ends, at_root, in_name, any_above}
use Rattle.iot_tree.proofs.TreeLaws.{none_some, none_not_some}
use Rattle.iot_tree.proofs.ReadLaws.{IsFileRow, IsDirRow, known_dir, far_dir, file_row, dir_row, no_row, bytes_row, names_row, file_some}
use Rattle.iot_tree.proofs.ReadLaws.{on_row, off_row, file_shown}
use Rattle.iot_tree.proofs.ReadLaws.{dir_some, file_no_dir, file_no_far_dir, file_row_not_root, absent_not_root, leaf_of, empty_leaf}
use Rattle.iot_acts.specs.Paths.{parent_path, is_at_or_below}
use Rattle.iot_acts.specs.Guards.{Asked, AskedFree, GuardsPut, GuardsRemove, GuardsMove, GuardsSetMode, MayMove, Guards, GuardsIfAny}
use Rattle.iot_acts.specs.Guards.{over_on, over_off}
use Rattle.iot_acts.specs.Guards.{over_file, over_contents, in_free, file_goes, empty_goes, file_to_file, dir_to_empty, any_to_free}
use Rattle.iot_acts.specs.Guards.{IsGuarded, AllGuarded}
use Rattle.iot_acts.specs.Traces.{ReadsHold, FitsIfAny, after_update}
use Rattle.iot_acts.specs.Turns.{turns, AllAnswer}
use Rattle.iot_acts.specs.Fitting.{FitsByReads, HoldByReads}
use Rattle.iot_acts.proofs.TraceLaws.{tree_after}

-- what was asked is the tree's answer
pub asked_answer : (t : Nodes) (before : List Read) → ReadsHold t before → (question : Question) (answer : Answer)
    → Asked before question answer → answer_of t question ≡ answer
asked_answer t [] hold question answer is = absurd is
asked_answer t (read ∷ before) hold question answer is = elim is [
  | inl here ↦ ap (answer_of t) (sym (ap (λ (read : Read). read.question) here)) ∙ hold.0 ∙ ap (λ (read : Read). read.answer) here
  | inr later ↦ asked_answer t before hold.1 question answer later
]

either_false : (a b : Bool) → (a || b) ≡ false → (a ≡ false) × (b ≡ false)
either_false true b is = absurd cc
either_false false b is = (refl, is)

-- a path that is not at or below another
module _ (q p : Path) (is_apart : is_at_or_below q p ≡ false) where
  apart_differ : p ≢ q
  apart_differ is =
      both_ways _ (either_false (pointwise bytes_eq q p) (is_below q p) is_apart).0
      (ap (pointwise bytes_eq q) is ∙ (lists_equiv nat_list_eq_equiv).refl q)

  apart_below : ¬ (IsBelow q p)
  apart_below below = both_ways _ (either_false (pointwise bytes_eq q p) (is_below q p) is_apart).1 (is_below-of q p below)

-- ---- a free path

module _ (t : Nodes) (tree : IsTree t) where
  known_by : (q front : Path) (last : List ℕ) → q ≡ front ++ last ∷ [] → is_far_above t q ≡ false → IsDirRow (get t front)
      → get t front ≡ Some Dir
  known_by q front last is none (known_dir dir) = dir
  known_by q front last is none (far_dir dir) =
      absurd (both_ways _ none (ap (is_far_above t) is ∙ any_above (λ above. is_far_dir (get t above)) front last [] (ap is_far_dir dir)))

  known_parent : (q front : Path) (last : List ℕ) → q ≡ front ++ last ∷ [] → answer_of t (Kind q) ≡ answers.Absent
      → answer_of t (Kind (parent_path q)) ≡ answers.IsDir → parent_node t q ≡ Some Dir
  known_parent q front last is absent parent =
      let parent_is : parent_path q ≡ front = ap parent_path is ∙ ap (λ o. unwrap_or o []) (parent_of-push front last) in
      let dir : IsDirRow (get t front) =
      dir_row (get t front) (is_far_above t front) (ap (λ (path : Path). answer_of t (Kind path)) (sym parent_is) ∙ parent) in
      ap (parent_node t) is ∙ ap (option_and_then (get t)) (parent_of-push front last)
      ∙ known_by q front last is (no_row (get t q) (is_far_above t q) absent).1 dir

  -- a directory that is asked above a free path is a known one
  free_parent : (q : Path) → answer_of t (Kind q) ≡ answers.Absent → answer_of t (Kind (parent_path q)) ≡ answers.IsDir
      → parent_node t q ≡ Some Dir
  free_parent q absent parent = elim (ends q) [
    | at_root is ↦ absurd (absent_not_root t tree q absent is)
    | in_name front last is ↦ known_parent q front last is absent parent
  ]

module _ (t : Nodes) (tree : IsTree t) (reads : List Read) (hold : ReadsHold t reads) where
  file_at : (p : Path) → Asked reads (Kind p) answers.IsFile → IsFileRow (get t p)
  file_at p asked = file_row (get t p) (is_far_above t p) (asked_answer t reads hold (Kind p) answers.IsFile asked)

  dir_at : (p : Path) → Asked reads (Kind p) answers.IsDir → IsDirRow (get t p)
  dir_at p asked = dir_row (get t p) (is_far_above t p) (asked_answer t reads hold (Kind p) answers.IsDir asked)

  none_at : (p : Path) → AskedFree reads p → get t p ≡ None
  none_at p free = (no_row (get t p) (is_far_above t p) (asked_answer t reads hold (Kind p) answers.Absent free.absent)).0

  parent_at : (p : Path) → AskedFree reads p → parent_node t p ≡ Some Dir
  parent_at p free =
      free_parent t tree p (asked_answer t reads hold (Kind p) answers.Absent free.absent)
      (asked_answer t reads hold _ answers.IsDir free.parent)

  empty_at : (p : Path) → Asked reads (Names p) (answers.Names []) → get t p ≡ Some Dir
  empty_at p asked =
      (names_row (get t p) (is_far_above t p) (children_of t p) [] (asked_answer t reads hold (Names p) (answers.Names []) asked)).0

  leaf_at : (p : Path) → Asked reads (Names p) (answers.Names []) → IsLeaf t p
  leaf_at p asked = empty_leaf t tree p (asked_answer t reads hold (Names p) (answers.Names []) asked)

  over_row : (p : Path) → IsFileRow (get t p) → FitsPut t p
  over_row p row = record {
    parent = tree.parents p (file_row_not_root t tree p row) (file_some (get t p) row);
    no_dir = file_no_dir (get t p) row;
    no_far_dir = file_no_far_dir (get t p) row;
  }

  put_fits : (p : Path) → GuardsPut reads p → FitsPut t p
  put_fits p (over_file asked) = over_row p (file_at p asked)
  put_fits p (over_contents bytes asked) =
      over_row p (bytes_row (get t p) (is_far_above t p) bytes (asked_answer t reads hold (Content p) (answers.Bytes bytes) asked))
  put_fits p (in_free free) = record {
    parent = parent_at p free;
    no_dir = λ is. none_not_some _ Dir (none_at p free) is;
    no_far_dir = λ is. none_not_some _ FarDir (none_at p free) is;
  }

  some_dir : (p : Path) → get t p ≡ Some Dir → IsSome (get t p)
  some_dir p is = subst IsSome (sym is) refl

  remove_fits : (p : Path) → p ≢ [] → GuardsRemove reads p → FitsRemove t p
  remove_fits p not_root (file_goes asked) = record {
    mapped = file_some (get t p) (file_at p asked);
    below_root = not_root;
    leaf = leaf_of t tree p (file_no_dir (get t p) (file_at p asked));
  }
  remove_fits p not_root (empty_goes asked) =
      record { mapped = some_dir p (empty_at p asked); below_root = not_root; leaf = leaf_at p asked }

  -- the target of a move has nothing below it
  module _ (p q : Path) (may : MayMove reads p q) where
    moved_from : IsSome (get t p) → IsLeaf t q → parent_node t q ≡ Some Dir → FitsMove t p q
    moved_from mapped leaf parent = record {
      mapped = mapped;
      from_below_root = may.from_not_root;
      to_below_root = may.to_not_root;
      differ = apart_differ q p may.apart;
      from_apart = λ below. none_some (get t p) (leaf p below) mapped;
      to_apart = apart_below q p may.apart;
      parent = parent;
      leaf = leaf;
    }

    any_row : (Asked reads (Kind p) answers.IsDir ⊎ Asked reads (Kind p) answers.IsFile) → IsSome (get t p)
    any_row asked = elim asked [
      | inl dir ↦ dir_some (get t p) (dir_at p dir)
      | inr file ↦ file_some (get t p) (file_at p file)
    ]

    move_fits : GuardsMove reads p q → FitsMove t p q
    move_fits (file_to_file from to) =
        moved_from (file_some (get t p) (file_at p from)) (leaf_of t tree q (file_no_dir (get t q) (file_at q to)))
        (tree.parents q may.to_not_root (file_some (get t q) (file_at q to)))
    move_fits (dir_to_empty from to) =
        moved_from (dir_some (get t p) (dir_at p from)) (leaf_at q to) (tree.parents q may.to_not_root (some_dir q (empty_at q to)))
    move_fits (any_to_free from free) =
        moved_from (any_row from) (leaf_of t tree q (λ is. none_not_some _ Dir (none_at q free) is)) (parent_at q free)

  moded_row : (p : Path) → GuardsSetMode reads p → IsFileRow (get t p)
  moded_row p (over_on asked) = on_row (get t p) (is_far_above t p) (asked_answer t reads hold (Mode p) answers.On asked)
  moded_row p (over_off asked) = off_row (get t p) (is_far_above t p) (asked_answer t reads hold (Mode p) answers.Off asked)

  mode_fits : (p : Path) → GuardsSetMode reads p → FitsSetMode t p
  mode_fits p guard = record { file = file_shown (get t p) (moded_row p guard) }

  fits : (update : Update) → Guards reads update → Fits t update
  fits (Put p bytes) guard = put_fits p guard
  fits (MakeDir p) guard = record { absent = none_at p guard; parent = parent_at p guard }
  fits (Remove p) guard = remove_fits p guard.not_root guard.guard
  fits (Move p q) guard = move_fits p q guard guard.guard
  fits (SetMode p mode) guard = mode_fits p guard

  -- what is guarded by a tree's answers fits that tree
  pub guarded_fits : (update : Option Update) → GuardsIfAny reads update → FitsIfAny t update
  guarded_fits None guard = tt
  guarded_fits (Some update) guard = fits update guard

-- a guarded act fits every tree whose answers its reads are
pub guarded_act : (act : Act) → IsGuarded act → FitsByReads act
guarded_act act guard u tree hold = guarded_fits u tree act.reads hold act.update guard

-- ---- guarded acts

reads_first : (u : Nodes) (reads : List Read) (rest : List (Nodes × Read)) → AllAnswer (map (λ read. (u, read)) reads ++ rest)
    → ReadsHold u reads × AllAnswer rest
reads_first u [] rest answers = (tt, answers)
reads_first u (read ∷ reads) rest answers =
    let more = reads_first u reads rest answers.1 in
    ((answers.0, more.0), more.1)

-- guarded acts hold on every tree where each of their reads is the answer of its turn
pub guarded_hold : (acts : List Act) → AllGuarded acts → HoldByReads acts
guarded_hold [] guarded u tree answers = tt
guarded_hold (act ∷ acts) guarded u tree answers =
    let here = reads_first u act.reads (turns (after_update u act.update) acts) answers in
    let fits = guarded_act act guarded.0 u tree here.0 in
    (here.0, fits, guarded_hold acts guarded.1 (after_update u act.update) (tree_after u act.update tree fits) here.1)
