-- A question about a path, with a row or without.
use Rattle.std.proofs.Common.{◌≡◌, ◌↔◌, ◌∙◌, ℕ, Bool, IsTrue, List, None, sym, ap}
use Rattle.std.specs.FinMap.{entries, same_entries_map}
use Rattle.iot_tree.specs.Place.{IsGap}
use Rattle.iot_tree.specs.Questions.{answer_of, kind_answer, kind_at, is_far_above}
use Rattle.iot_tree.specs.Rows.{map_of, AreTreeRows}
use Rattle.iot_tree.specs.Tree.{Nodes, Path, Row}
use Rattle.iot_tree.specs.declared.questions.Question.{Question}
use Rattle.iot_tree.specs.declared.questions.Question.TheVariants as asks
use Rattle.iot_tree.specs.declared.questions.Answer.{Answer}
use Rattle.iot_tree.proofs.AnswerLaws.{kind_in_gap, content_in_gap, names_in_gap, mode_in_gap}
use Rattle.iot_tree.proofs.RowLaws.{entries_rows}
use Rattle.iot_certify.specs.Asked.{path_in, about}

-- a test for one of two equal answers
pub of_equal : (test : Bool) (x y answer : Answer) → x ≡ y → (IsTrue test ↔ (x ≡ answer)) → IsTrue test ↔ (y ≡ answer)
of_equal test x y answer is tests = ((λ yes. sym is ∙ tests.0 yes), (λ same. tests.1 (is ∙ same)))

-- the tree of its own rows
pub tree_is : (t : Nodes) (rows : List Row) → AreTreeRows rows → rows ≡ entries t → map_of rows ≡ t
tree_is t rows all is = same_entries_map (map_of rows) t (entries_rows rows all.rising ∙ is)

-- without a row each question has the same answer
pub gap_answer : (rows : List Row) → AreTreeRows rows → (question : Question) (gap : ℕ) → IsGap rows (path_in question) gap
    → kind_answer (kind_at None (is_far_above (map_of rows) (path_in question))) ≡ answer_of (map_of rows) question
gap_answer rows all (asks.Kind p) gap is = ap kind_answer (sym (kind_in_gap rows all p gap is))
gap_answer rows all (asks.Content p) gap is = sym (content_in_gap rows all p gap is)
gap_answer rows all (asks.Names p) gap is = names_in_gap rows all p gap is _
gap_answer rows all (asks.Mode p) gap is = sym (mode_in_gap rows all p gap is)
