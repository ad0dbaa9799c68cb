use Rattle.std.proofs.Common.{◌≡◌, ◌++◌, take, map}
use Rattle.std.specs.List.{AllByRecursion}
use Rattle.iot_text.specs.Paths.{IsPath}
use Rattle.iot_stamp.proofs.cursor.pass_all.Given as goal

abbrev pub invariant-entries : goal.invariant-entries
invariant-entries l =
    (l.passed ≡ l.initial.passed ++ map (λ e. e.0) (take l.entry-index l.entries))
    × (AllByRecursion IsPath l.initial.passed → AllByRecursion IsPath l.passed)
