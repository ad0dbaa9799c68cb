use Rattle.std.proofs.Common.{◌≡◌, ◌≢◌, ◌∙◌, sym, ap, subst, IsTrue, List, ℕ, Result, Ok, Err}
use Rattle.std.specs.Result.{IfOk, IfErr}
use Rattle.std.specs.FinMap.{is_sorted, from_sorted, entries}
use Rattle.iot_text.specs.Paths.{path_cmp}
use Rattle.iot_tree.specs.Tree.{Row, IsTree}
use Rattle.iot_stamp.specs.Mapped.{mapped}
use Rattle.iot_stamp.specs.Refresh.{zeroed}
use Rattle.iot_stamp.specs.Stamps.{Entry, Stamps, nodes_of}
use Rattle.iot_stamp.specs.Pairing.{AreStamps, paired}
use Rattle.iot_held.specs.declared.merging.MergeFault.{MergeFault}
use Rattle.iot_held.specs.declared.merging.MergeFault.TheVariants as faults
use Rattle.iot_held.proofs.OutcomeLaws.{zeroed_in, are_stamps, rows_rise_in, nodes_sorted, map_of_entries, paired_zeroed}
use Rattle.iot_stamp.proofs.ChangesLaws.{rows_in}
use Rattle.iot_held.proofs.merging.stamped.Goals as goal

stamps_for : (es : List Entry) (rows : List Row) (stamps : List ℕ) → rows ≡ rows_in es → stamps ≡ zeroed_in es → AreStamps rows stamps
stamps_for es rows stamps r s = rw (r, s) (are_stamps es)

ok_for : (es : List Entry) (rows : List Row) (stamps : List ℕ) → rows ≡ rows_in es → stamps ≡ zeroed_in es
    → IsTrue (is_sorted path_cmp es) → (r : Result Stamps MergeFault) → IfOk r (λ t. entries t ≡ paired rows stamps)
    → IfOk r (λ t. t ≡ mapped zeroed (from_sorted es))
ok_for es rows stamps r s rising (Ok t) is = map_of_entries t es rising (is ∙ (λ i. paired (r i) (s i)) ∙ paired_zeroed es)
ok_for es rows stamps r s rising (Err fault) is = is

err_for : (es : List Entry) (rows : List Row) → rows ≡ rows_in es → IsTrue (is_sorted path_cmp es) → (r : Result Stamps MergeFault)
    → IfErr r (λ fault. fault ≢ faults.NoMemory → IsTree (from_sorted rows) → ⊥)
    → IfErr r (λ fault. fault ≢ faults.NoMemory → IsTree (nodes_of (mapped zeroed (from_sorted es))) → ⊥)
err_for es rows r rising (Ok t) is = is
err_for es rows r rising (Err fault) is = λ other tree. is other (subst IsTree (nodes_sorted es rising ∙ ap from_sorted (sym r)) tree)

pub from_parts-requires-clause-stamps : goal.from_parts-requires-clause-stamps
from_parts-requires-clause-stamps c =
    stamps_for c.args.entries c.in_ok-rows.rows c.in_ok-rows.stamps.items c.in_ok-rows.ensures.0 c.in_ok-rows.ensures.1

pub from_parts-requires-clause-rising : goal.from_parts-requires-clause-rising
from_parts-requires-clause-rising c =
    subst (λ (rows : List Row). IsTrue (is_sorted path_cmp rows)) (sym c.in_ok-rows.ensures.0) (rows_rise_in c.args.entries c.requires)

pub returns-clause-ok : goal.returns-clause-ok
returns-clause-ok c =
    ok_for c.args.entries c.in_ok-rows.rows c.in_ok-rows.stamps.items c.in_ok-rows.ensures.0 c.in_ok-rows.ensures.1 c.requires
    c.from_parts.result
    c.from_parts.ensures.ok

pub returns-clause-no_tree : goal.returns-clause-no_tree
returns-clause-no_tree c =
    err_for c.args.entries c.in_ok-rows.rows c.in_ok-rows.ensures.0 c.requires c.from_parts.result c.from_parts.ensures.no_tree
