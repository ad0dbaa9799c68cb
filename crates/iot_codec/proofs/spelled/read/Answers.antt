use Rattle.std.proofs.Common.{arith}
use Rattle.iot_codec.proofs.OutcomesLaws.{call_found, call_only, call_alone}
use Rattle.iot_codec.proofs.spelled.read.Goals as goal

pub returns-clause-found : goal.returns-clause-found
returns-clause-found g c =
    call_found _ _ _ g.met.T.Spelled.laws c.args.bytes.now c.args.at c.read.result (λ i. omega (arith, c.type_inv.bytes i))
    c.read.ensures

pub returns-clause-only : goal.returns-clause-only
returns-clause-only g c = call_only _ _ _ g.met.T.Spelled.laws c.args.bytes.now c.args.at c.read.result (omega arith) c.read.ensures

pub returns-clause-one : goal.returns-clause-one
returns-clause-one g c = call_alone _ _ _ g.met.T.Spelled.laws c.args.bytes.now c.args.at (omega arith)
