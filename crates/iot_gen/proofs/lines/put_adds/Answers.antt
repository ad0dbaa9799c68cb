use Rattle.iot_gen.specs.Generated.{add_lines}
use Rattle.iot_gen.proofs.TextsLaws.{some_more}
use Rattle.iot_gen.proofs.lines.put_adds.Goals as goal

pub loop-file-preserved : goal.loop-file-preserved
loop-file-preserved c =
    some_more add_lines c.args.files.now c.loop-file.file-index _ _ _ c.loop-file-test.true c.in_ok-put_add.ensures c.loop-file.invariant
