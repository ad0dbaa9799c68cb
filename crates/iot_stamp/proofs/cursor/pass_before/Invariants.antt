use Rattle.std.proofs.Common.{◌≡◌, ◌++◌, drop, map}
use Rattle.std.specs.List.{AllByRecursion}
use Rattle.iot_text.specs.Paths.{IsPath}
use Rattle.iot_stamp.specs.Passes.{before_key, from_key}
use Rattle.iot_stamp.proofs.cursor.pass_before.Given as goal

abbrev pub invariant-entries : goal.invariant-entries
invariant-entries l =
    (from_key l.path l.entries ≡ from_key l.path (drop l.at l.entries))
    × (l.initial.passed ++ map (λ e. e.0) (before_key l.path l.entries) ≡ l.passed ++ map (λ e. e.0) (before_key l.path (drop
    l.at l.entries)))
    × (AllByRecursion IsPath l.initial.passed → AllByRecursion IsPath l.passed)
