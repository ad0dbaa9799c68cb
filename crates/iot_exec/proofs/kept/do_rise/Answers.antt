use Rattle.std.proofs.Common.{rules}
use Rattle.std.proofs.lemmas.Fn.{always_returns_same}
use Rattle.std.specs.Ordering.{is_lt}
use Rattle.iot_text.specs.Paths.{path_cmp}
use Rattle.iot_exec.proofs.KeptLaws.{Row, rising_is}
use Rattle.iot_exec.proofs.kept.do_rise.Goals as goal

-- the closure compares the paths of two files
pub returns : goal.returns
returns c =
    rising_is c.args.files.now _
    (c.is_sorted_by.ensures.cases (λ (one next : Row). is_lt (path_cmp one.0 next.0))
    (always_returns_same _ _ _ (λ a r f' called. (search rules, search rules))))
