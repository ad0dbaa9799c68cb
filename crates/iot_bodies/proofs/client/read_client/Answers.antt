use Rattle.std.proofs.Common.{arith}
use Rattle.iot_wire.proofs.MessagesLaws.{call_found, call_only, call_one}
use Rattle.iot_bodies.proofs.ClientLaws.{client_laws}
use Rattle.iot_bodies.proofs.client.read_client.Goals as goal

pub returns-clause-found : goal.returns-clause-found
returns-clause-found c =
    call_found _ _ _ client_laws c.args.bytes.now c.read_whole.result (λ i. omega (arith, c.type_inv.bytes i)) c.read_whole.ensures

pub returns-clause-only : goal.returns-clause-only
returns-clause-only c = call_only _ _ _ client_laws c.args.bytes.now c.read_whole.result (omega arith) c.read_whole.ensures

pub returns-clause-one : goal.returns-clause-one
returns-clause-one c = call_one _ _ _ client_laws c.args.bytes.now (omega arith)
