use Rattle.std.proofs.Common.{subst, sym}
use Rattle.iot_access.specs.Access.{AreNumbers}
use Rattle.iot_views.specs.Rules.{IsAccess}
use Rattle.iot_limits.proofs.AccessLaws.{access_spelled}
use Rattle.iot_tree.specs.declared.access.Access.{Access}
use Rattle.iot_limits.proofs.TreesLaws.{tree_spelled}
use Rattle.iot_client.proofs.requests.commit.Goals as goal

pub submission-requires-clause-access : goal.submission-requires-clause-access
submission-requires-clause-access c =
    let is = c.in_ok-access.ensures.is in
    subst IsAccess (sym is)
    (access_spelled c.args.item.now.acts c.args.held.now c.requires.spelled.acts.each (tree_spelled c.args.held.now c.requires.held)
    (subst (λ (access : Access). AreNumbers access.places) is c.in_ok-access.ensures.numbers))
