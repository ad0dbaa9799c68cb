use Rattle.std.proofs.Common.{arith}
use Rattle.iot_codec.specs.Laws.Profiles.{walk_limit_laws}
use Rattle.iot_codec.proofs.OutcomesLaws.{call_found, call_only, call_alone}
use Rattle.iot_codec.proofs.walks.read_walk_limit.Goals as goal

pub returns-clause-found : goal.returns-clause-found
returns-clause-found c =
    call_found _ _ _ walk_limit_laws c.args.bytes.now c.args.at c.walk_limit_at.result
    (λ i. omega (arith, c.type_inv.bytes i)) c.walk_limit_at.ensures

pub returns-clause-only : goal.returns-clause-only
returns-clause-only c =
    call_only _ _ _ walk_limit_laws c.args.bytes.now c.args.at c.walk_limit_at.result (omega arith) c.walk_limit_at.ensures

pub returns-clause-one : goal.returns-clause-one
returns-clause-one c = call_alone _ _ _ walk_limit_laws c.args.bytes.now c.args.at (omega arith)
