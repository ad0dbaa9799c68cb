use Rattle.std.proofs.Common.{length}
use Rattle.iot_codec.specs.Spelling.{number_spelling, pair_spelling}
use Rattle.iot_text.proofs.TextsLaws.{on_err, part_of_list}
use Rattle.iot_codec.proofs.tables.put_table.Goals as goal

pub returns-in_err-put_pair-clause-err : goal.returns-in_err-put_pair-clause-err
returns-in_err-put_pair-clause-err g c =
    on_err _
    (part_of_list (pair_spelling g.K.Spelled.spelling g.V.Spelled.spelling) c.args.pairs.now c.pairs.pair-index c.pair-item.result
    (number_spelling (length c.args.pairs.now)) c.args.out.now c.pairs.out c.put_pair.new.out
    c.pairs-test.true c.pair-item.is c.pairs.invariant c.in_err-put_pair.ensures.err)
