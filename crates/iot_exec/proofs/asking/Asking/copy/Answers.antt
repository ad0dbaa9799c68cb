use Rattle.std.proofs.Common.{◌∙◌}
use Rattle.iot_exec.proofs.CommandLaws.{copied}
use Rattle.iot_exec.proofs.asking.Asking.copy.Goals as goal

pub returns : goal.returns
returns c =
    copied _ _ _ c.args.from.now c.args.to c.in_ok-bytes.bytes.now _ _ c.in_ok-bytes.ensures
    (c.in_ok-copy.ensures ∙ c.in_ok-from_slice.ensures.items) c.write.ensures
