use Rattle.std.proofs.Common.{◌≡◌, cond, map}
use Rattle.iot_tree.specs.Snapshots.{is_known}
use Rattle.iot_stamp.specs.Stamps.{Entry}
use Rattle.iot_held.proofs.merging.split.Given as goal

abbrev pub invariant-entries : goal.invariant-entries
invariant-entries l =
    (l.rows ≡ map (λ (e : Entry). (e.0, e.1.0)) l.yielded) × (l.stamps.items ≡ map (λ (e : Entry). cond (is_known e.1.0) e.1.1 0) l.yielded)
