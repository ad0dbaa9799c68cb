use Rattle.std.proofs.Common.{arith}
use Rattle.iot_wire.specs.Lent.{request_seen}
use Rattle.iot_wire.proofs.SpellingLaws.{request_laws}
use Rattle.iot_wire.proofs.MessagesLaws.{view_found, view_only, call_one}
use Rattle.iot_wire.proofs.lent.lend_request.Goals as goal

pub returns-clause-found : goal.returns-clause-found
returns-clause-found c =
    view_found _ _ _ request_laws request_seen c.args.bytes.now c.lend_whole.result (λ i. omega (arith, c.type_inv.bytes i))
    c.lend_whole.ensures

pub returns-clause-only : goal.returns-clause-only
returns-clause-only c =
    view_only _ _ _ request_laws request_seen c.args.bytes.now c.lend_whole.result (omega arith) c.lend_whole.ensures

pub returns-clause-one : goal.returns-clause-one
returns-clause-one c = call_one _ _ _ request_laws c.args.bytes.now (omega arith)
