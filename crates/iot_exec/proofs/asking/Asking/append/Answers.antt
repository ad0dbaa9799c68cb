use Rattle.std.proofs.Common.{sym, ◌∙◌}
use Rattle.iot_exec.proofs.CommandLaws.{append_large}
use Rattle.iot_exec.proofs.asking.Asking.append.Goals as goal

pub returns-then-are_too_large : goal.returns-then-are_too_large
returns-then-are_too_large c =
    append_large _ _ c.args.path c.args.more.now c.in_ok-bytes.bytes.now _ c.in_ok-bytes.ensures
    (sym c.are_too_large.ensures ∙ c.if-are_too_large.true) c.fail.ensures
