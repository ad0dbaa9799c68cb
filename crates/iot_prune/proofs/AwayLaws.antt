-- Where a tree has no answer.
use Rattle.std.proofs.Common.{◌≡◌, ◌≢◌, ◌⊎◌, ℕ, Bool, true, false, List, Option, Some, None, refl, sym, ap, ◌∙◌, inl, inr}
use Rattle.std.specs.FinMap.{get}
use Rattle.iot_tree.specs.Questions.{is_far_above, kind_at, kind_answer, content_answer, names_answer, mode_answer, mode_told, answer_of}
use Rattle.iot_tree.specs.Snapshots.{is_away}
use Rattle.iot_tree.specs.Tree.{Path, Nodes, IsTree}
use Rattle.iot_tree.specs.declared.kinds.Kind.{Kind}
use Rattle.iot_tree.specs.declared.nodes.Mode.{Mode}
use Rattle.iot_tree.specs.declared.nodes.Mode.TheVariants as modes
use Rattle.iot_tree.specs.declared.nodes.Node.{Node}
use Rattle.iot_tree.specs.declared.nodes.Node.TheVariants.{Dir, File, FarDir, FarFile}
use Rattle.iot_tree.specs.declared.questions.Question.{Question}
use Rattle.iot_tree.specs.declared.questions.Question.TheVariants as asks
use Rattle.iot_tree.proofs.TreeLaws.{no_far_above}

module _ (t : Nodes) (tree : IsTree t) (p : Path) (node : Node) (here : get t p ≡ Some node) where
  near : is_far_above t p ≡ false
  near = no_far_above t tree p (rw here refl)

  -- an object that is there has contents, or is known to have none, unless it is a far file
  pub content_known : ((mode : Mode) → node ≢ FarFile mode) → false ≡ is_away (content_answer (get t p) (is_far_above t p))
  content_known known = rw (near, here) (by node known)
    where
      by : (n : Node) → ((mode : Mode) → n ≢ FarFile mode) → false ≡ is_away (content_answer (Some n) false)
      by Dir is = refl
      by (File bytes mode) is = refl
      by FarDir is = refl
      by (FarFile mode) is = absurd (is mode refl)

  -- it has names, or is known to have none, unless it is a far directory
  pub names_known : (names : List (List ℕ × Kind)) → node ≢ FarDir → false ≡ is_away (names_answer (get t p) (is_far_above t p) names)
  names_known names known = rw (near, here) (by node known)
    where
      by : (n : Node) → n ≢ FarDir → false ≡ is_away (names_answer (Some n) false names)
      by Dir is = refl
      by (File bytes mode) is = refl
      by FarDir is = absurd (is refl)
      by (FarFile mode) is = refl

told_known : (mode : Mode) → false ≡ is_away (mode_told mode)
told_known modes.Off = refl
told_known modes.On = refl

mode_unknown : (o : Option Node) (far : Bool) → is_away (kind_answer (kind_at o far)) ≡ is_away (mode_answer o far)
mode_unknown None true = refl
mode_unknown None false = refl
mode_unknown (Some Dir) far = refl
mode_unknown (Some (File bytes mode)) far = told_known mode
mode_unknown (Some FarDir) far = refl
mode_unknown (Some (FarFile mode)) far = told_known mode

-- the mode of what is at a path is known exactly if its kind is
pub kind_or_mode : (t : Nodes) (p : Path) (question : Question) → (question ≡ asks.Kind p) ⊎ (question ≡ asks.Mode p)
    → is_away (answer_of t (asks.Kind p)) ≡ is_away (answer_of t question)
kind_or_mode t p question (inl is) = ap (λ (question : Question). is_away (answer_of t question)) (sym is)
kind_or_mode t p question (inr is) =
    mode_unknown (get t p) (is_far_above t p) ∙ ap (λ (question : Question). is_away (answer_of t question)) (sym is)
