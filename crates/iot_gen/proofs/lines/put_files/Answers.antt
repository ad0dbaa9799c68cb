use Rattle.iot_gen.specs.Generated.{file_line}
use Rattle.iot_gen.proofs.TextsLaws.{one_more}
use Rattle.iot_gen.proofs.lines.put_files.Goals as goal

pub loop-file-preserved : goal.loop-file-preserved
loop-file-preserved c =
    one_more file_line c.args.files.now c.loop-file.file-index _ _ _ c.loop-file-test.true c.in_ok-put_file.ensures c.loop-file.invariant
