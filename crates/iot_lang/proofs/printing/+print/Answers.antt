use Rattle.std.proofs.Common.{arith, ap, rules}
use Rattle.iot_lang.specs.Code.{size_of}
use Rattle.iot_lang.proofs.PrintLaws.{statement_within}
use Rattle.iot_lang.proofs.PrintLaws.{printed_block}
use Rattle.iot_lang.proofs.printing.+print.Goals as goal

pub put_block-put_statement-requires : goal.put_block-put_statement-requires
put_block-put_statement-requires t c =
    let within =
    statement_within c.statements-statement-items.result.now c.statements.statement-index c.statement-item.result c.statements-test.true
    c.statement-item.is in
    let same = ap size_of c.statements-statement-items.ensures in
    (omega (arith, within, same, c.decreases), tt)

pub put_block-returns : goal.put_block-returns
put_block-returns t c =
    printed_block c.statements-statement-items.result.now c.statements.statement-index c.args.block.now c.args.out.now c.statements.out
    (search rules) c.statements-statement-items.ensures c.statements.invariant
