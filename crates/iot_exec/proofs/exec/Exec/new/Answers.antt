use Rattle.std.proofs.Common.{refl, ap}
use Rattle.iot_exec.specs.Commands.{kept_files}
use Rattle.iot_exec.proofs.ExecLaws.{starts}
use Rattle.iot_exec.proofs.exec.Exec.new.Goals as goal

pub returns : goal.returns
returns c = λ t. record {
  kept_same = ap kept_files c.new-kept.ensures;
  counted = refl;
  after =
      starts c.args.script.value (kept_files c.args.kept) t _ _ c.new.result (c.start.ensures.here c.args.script.value)
      (c.start.ensures.around c.args.script.value) c.new.ensures;
}
