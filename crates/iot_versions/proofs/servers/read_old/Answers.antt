use Rattle.std.proofs.Common.{arith, sym, ◌∙◌}
use Rattle.iot_versions.proofs.ServersLaws.{server_none, server_new, server_read}
use Rattle.iot_versions.proofs.RespellingLaws.{respelled_now}
use Rattle.iot_versions.proofs.servers.read_old.Goals as goal

pub returns-in_default : goal.returns-in_default
returns-in_default c =
    server_none c.args.bytes.now c.as_bytes.result.now (omega arith)
    (respelled_now c.in_ok-respell.field-0 c.args.bytes.now c.new-text.result c.respell.new.out c.as_bytes.result.now
    c.if-not-branch.false c.new-text.ensures c.as_bytes.ensures c.in_ok-respell.ensures)
    (rw c.in_default.is at c.in_ok-body.ensures)

pub returns-then-not-is_old : goal.returns-then-not-is_old
returns-then-not-is_old c =
    server_new c.args.bytes.now c.as_bytes.result.now c.in-Some.body (omega arith) (omega arith)
    (respelled_now c.in_ok-respell.field-0 c.args.bytes.now c.new-text.result c.respell.new.out c.as_bytes.result.now
    c.if-not-branch.false c.new-text.ensures c.as_bytes.ensures c.in_ok-respell.ensures)
    (rw c.in-Some.is at c.in_ok-body.ensures) (sym c.is_old.ensures ∙ c.if-not-is_old.true)

pub returns : goal.returns
returns c =
    server_read c.args.bytes.now c.as_bytes.result.now c.in-Some.body (omega arith)
    (respelled_now c.in_ok-respell.field-0 c.args.bytes.now c.new-text.result c.respell.new.out c.as_bytes.result.now
    c.if-not-branch.false c.new-text.ensures c.as_bytes.ensures c.in_ok-respell.ensures)
    (rw c.in-Some.is at c.in_ok-body.ensures) (sym c.is_old.ensures ∙ c.if-not-is_old.false)
