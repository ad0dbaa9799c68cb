use Rattle.std.proofs.Common.{arith}
use Rattle.iot_codec.proofs.OutcomesLaws.{call_found, call_only, call_alone}
use Rattle.iot_changes.proofs.ResolutionsLaws.{resolution_laws}
use Rattle.iot_changes.proofs.resolutions.read_resolution.Goals as goal

pub returns-clause-found : goal.returns-clause-found
returns-clause-found c =
    call_found _ _ _ resolution_laws c.args.bytes.now c.args.at c.decode_resolution.result (λ i. omega (arith, c.type_inv.bytes i))
    c.decode_resolution.ensures

pub returns-clause-only : goal.returns-clause-only
returns-clause-only c =
    call_only _ _ _ resolution_laws c.args.bytes.now c.args.at c.decode_resolution.result (omega arith) c.decode_resolution.ensures

pub returns-clause-one : goal.returns-clause-one
returns-clause-one c = call_alone _ _ _ resolution_laws c.args.bytes.now c.args.at (omega arith)
