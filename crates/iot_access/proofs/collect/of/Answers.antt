use Rattle.std.proofs.Common.{◌∙◌, ap, subst, sym}
use Rattle.iot_access.proofs.AccessLaws.{access_is, fit_in_turn}
use Rattle.iot_access.proofs.CollectLaws.{is_of, places_of}
use Rattle.iot_access.proofs.BeforeLaws.{held_before}
use Rattle.iot_access.specs.Access.{FitInTurn, updates_of}
use Rattle.iot_access.proofs.collect.of.Goals as goal

pub returns-clause-is : goal.returns-clause-is
returns-clause-is c =
    is_of c.in_ok-access.access c.args.acts.now c.as_slice.result.now c.args.before.now c.as_slice.ensures c.in_ok-access.ensures.even
    c.in_ok-access.ensures.bases c.in_ok-access.ensures.updates

pub returns-clause-access : goal.returns-clause-access
returns-clause-access c =
    access_is c.args.acts.now c.as_slice.result.now c.args.before.now c.in_ok-access.access.reads c.in_ok-access.access.places
    c.in_ok-access.access.updates c.rows-tree.ensures.tree c.requires.guarded c.requires.hold c.as_slice.ensures
    c.in_ok-access.ensures.even c.in_ok-access.ensures.bases c.in_ok-access.ensures.updates

pub returns-clause-places : goal.returns-clause-places
returns-clause-places c =
    places_of c.in_ok-access.access.places c.in_ok-access.access.reads c.as_slice.result.now c.args.before.now
    c.in_ok-access.ensures.even c.in_ok-access.ensures.bases

pub returns-clause-before : goal.returns-clause-before
returns-clause-before c =
    held_before c.args.acts.now c.as_slice.result.now c.args.before.now c.in_ok-access.access.reads c.in_ok-access.access.places
    c.rows-tree.ensures.tree c.requires.guarded c.requires.hold c.as_slice.ensures c.in_ok-access.ensures.even c.in_ok-access.ensures.bases

pub returns-clause-fit : goal.returns-clause-fit
returns-clause-fit c =
    subst (FitInTurn c.args.before.now) (sym (c.in_ok-access.ensures.updates ∙ ap updates_of c.as_slice.ensures))
    (fit_in_turn c.args.acts.now c.args.before.now c.requires.hold)
