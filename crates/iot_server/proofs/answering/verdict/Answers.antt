use Rattle.std.proofs.Common.{subst}
use Rattle.std.specs.Prelude.{IfOk}
use Rattle.iot_certify.specs.Verdicts.{IsVerdictOnAccess}
use Rattle.iot_tree.specs.declared.access.Access.{Access}
use Rattle.iot_server.proofs.answering.verdict.Goals as goal

pub returns : goal.returns
returns c =
    subst (λ (access : Access). IfOk c.certify_view.result (IsVerdictOnAccess c.args.t.now access)) c.access.ensures
    c.certify_view.ensures.verdict
