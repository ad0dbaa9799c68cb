use Rattle.std.proofs.Common.{rules, ◌≡◌}
use Rattle.iot_lang.specs.Code.{script_lines}
use Rattle.iot_lang.specs.Print.{printed}
use Rattle.iot_lang.proofs.PrintLaws.{printed_spells}
use Rattle.iot_lang.proofs.printing.print.Goals as goal

pub returns : goal.returns
returns c =
    let text : c.put_block.new.out ≡ printed (script_lines c.args.script.now) = search rules in
    rw text (printed_spells c.args.script.now c.block.ensures.script)
