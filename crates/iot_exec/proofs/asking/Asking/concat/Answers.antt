use Rattle.std.proofs.Common.{sym, ◌∙◌}
use Rattle.iot_exec.proofs.CommandLaws.{second_missing, both_large, both_written}
use Rattle.iot_exec.proofs.asking.Asking.concat.Goals as goal

pub returns-in_err-two : goal.returns-in_err-two
returns-in_err-two c =
    second_missing _ c.args.to c.args.first.now c.args.second.now _ c.in_ok-one.one.now c.in_ok-one.ensures _ _ c.in_err-two.ensures _
    c.from_residual-in_err-two.ensures.1

pub returns-then-are_too_large : goal.returns-then-are_too_large
returns-then-are_too_large c =
    both_large _ c.args.to c.args.first.now c.args.second.now _ c.in_ok-one.one.now c.in_ok-one.ensures _ c.in_ok-two.two.now
    c.in_ok-two.ensures _ (sym c.are_too_large.ensures ∙ c.if-are_too_large.true) c.fail.ensures

pub returns : goal.returns
returns c =
    both_written _ c.args.to c.args.first.now c.args.second.now _ c.in_ok-one.one.now c.in_ok-one.ensures _ c.in_ok-two.two.now
    c.in_ok-two.ensures _ _ _ (sym c.are_too_large.ensures ∙ c.if-are_too_large.false) c.in_ok-both.ensures c.write.ensures
