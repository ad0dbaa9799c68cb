use Rattle.std.proofs.Common.{◌≡◌, ◌∙◌, sym, ap, subst, IsTrue, List, ℕ, Result, Ok, Err}
use Rattle.std.specs.Result.{IfOk}
use Rattle.std.specs.List.{filter_map}
use Rattle.std.specs.FinMap.{entries, is_sorted}
use Rattle.iot_text.specs.Paths.{path_cmp}
use Rattle.iot_tree.specs.Tree.{Nodes, Path}
use Rattle.iot_stamp.specs.Stamps.{Stamps, Entry}
use Rattle.iot_stamp.specs.Refresh.{known_stamp, known_with_stamps}
use Rattle.iot_stamp.proofs.ChangesLaws.{count_is, paired_is}
use Rattle.iot_stamp.proofs.KnownLaws.{known_rising}
use Rattle.iot_stamp.proofs.stamped.Stamped.known_with_stamps.Goals as goal

value_for : {E : Type 0} (m : Stamps) (all : List Entry) (r : Result (List (Path × ℕ)) E) → all ≡ entries m
    → IfOk r (λ known. known ≡ filter_map known_stamp all) → IfOk r (λ known. known ≡ known_with_stamps m)
value_for m all (Ok known) is gives = gives ∙ ap (filter_map known_stamp) is
value_for m all (Err fault) is gives = gives

rising_for : {E : Type 0} (m : Stamps) (r : Result (List (Path × ℕ)) E) → IfOk r (λ known. known ≡ known_with_stamps m)
    → IfOk r (λ known. IsTrue (is_sorted path_cmp known))
rising_for m (Ok known) gives = subst (λ (es : List (Path × ℕ)). IsTrue (is_sorted path_cmp es)) (sym gives) (known_rising m)
rising_for m (Err fault) gives = gives

pub known_entries-requires : goal.known_entries-requires
known_entries-requires c =
    count_is c.args.self.now c.as_slice.result.now c.stamps.result.now
    (c.as_slice.ensures ∙ c.rows.ensures.rows ∙ ap (λ (t : Nodes). entries t) c.tree.ensures.value) c.stamps.ensures

pub returns-clause-value : goal.returns-clause-value
returns-clause-value c =
    value_for c.args.self.now _ c.known_entries.result
    (paired_is c.args.self.now c.as_slice.result.now c.stamps.result.now
    (c.as_slice.ensures ∙ c.rows.ensures.rows ∙ ap (λ (t : Nodes). entries t) c.tree.ensures.value) c.stamps.ensures)
    c.known_entries.ensures.value

pub returns-clause-rising : goal.returns-clause-rising
returns-clause-rising c =
    rising_for c.args.self.now c.known_entries.result
    (value_for c.args.self.now _ c.known_entries.result
    (paired_is c.args.self.now c.as_slice.result.now c.stamps.result.now
    (c.as_slice.ensures ∙ c.rows.ensures.rows ∙ ap (λ (t : Nodes). entries t) c.tree.ensures.value) c.stamps.ensures)
    c.known_entries.ensures.value)
