use Rattle.std.proofs.Common.{◌≡◌, length, ◌∙◌, ap, sym, subst}
use Rattle.iot_access.specs.Access.{FitInTurn}
use Rattle.iot_stamp.specs.Stamps.{nodes_of}
use Rattle.iot_store.specs.Stamps.{next_stamp, stamped_all}
use Rattle.iot_store.specs.States.{State, after_commit}
use Rattle.iot_stamp.proofs.ActingLaws.{nodes_after_all}
use Rattle.iot_store.proofs.commits.Commits.add.Goals as goal

pub returns-clause-made : goal.returns-clause-made
returns-clause-made c =
    let before = c.self.inside in
    let access = c.args.access.now in
    let listed = c.in_ok-list.ensures in
    let number : c.in_ok-stamp.stamp ≡ next_stamp (length before.labels) =
    c.in_ok-stamp.ensures.0 ∙ ap (λ (s : State). next_stamp (length s.labels)) (sym c.self.view_is) in
    let made = c.in_ok-apply_all.ensures ∙ ap (λ updates. stamped_all before.tree updates c.in_ok-stamp.stamp) c.as_slice.ensures
    ∙ ap (stamped_all before.tree access.updates) number in
    let tree = listed.tree ∙ ap nodes_of made ∙ nodes_after_all _ before.tree access.updates in
    subst (λ (s : State). c.list.new.self ≡ after_commit s c.args.label access) c.self.view_is
    (λ i. record { tree = tree i; labels = listed.labels i; stamps = (listed.stamps ∙ made) i })

pub apply_all-requires : goal.apply_all-requires
apply_all-requires c =
    subst (λ (s : State). FitInTurn s.tree c.as_slice.result.now) (sym c.self.view_is)
    (subst (FitInTurn c.args.self.now.tree) (sym c.as_slice.ensures) c.requires.follows.fit)
