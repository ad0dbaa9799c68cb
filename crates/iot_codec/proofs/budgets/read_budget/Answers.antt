use Rattle.std.proofs.Common.{arith}
use Rattle.iot_codec.specs.Laws.Options.{budget_laws}
use Rattle.iot_codec.proofs.OutcomesLaws.{call_found, call_only, call_alone}
use Rattle.iot_codec.proofs.budgets.read_budget.Goals as goal

pub returns-clause-found : goal.returns-clause-found
returns-clause-found c =
    call_found _ _ _ budget_laws c.args.bytes.now c.args.at c.budget_at.result (λ i. omega (arith, c.type_inv.bytes i)) c.budget_at.ensures

pub returns-clause-only : goal.returns-clause-only
returns-clause-only c = call_only _ _ _ budget_laws c.args.bytes.now c.args.at c.budget_at.result (omega arith) c.budget_at.ensures

pub returns-clause-one : goal.returns-clause-one
returns-clause-one c = call_alone _ _ _ budget_laws c.args.bytes.now c.args.at (omega arith)
