use Rattle.std.proofs.Common.{◌≡◌, false, true≢false, [], ◌∷◌, ◌++◌, length, ◌∙◌, ap, sym, subst}
use Rattle.iot_access.specs.Access.{FitInTurn}
use Rattle.iot_acts.specs.Traces.{ReadsHold}
use Rattle.std.specs.List.{list_any}
use Rattle.iot_tree.specs.Tree.{Nodes}
use Rattle.iot_tree.specs.declared.labels.Label.{Label}
use Rattle.iot_stamp.specs.Stamps.{nodes_of}
use Rattle.iot_store.specs.Commits.{MakesAllIf}
use Rattle.iot_store.specs.Stamps.{next_stamp, stamped_all}
use Rattle.iot_store.specs.States.{State, is_of, CanFollow, after_commit}
use Rattle.iot_stamp.proofs.ActingLaws.{nodes_after_all}
use Rattle.iot_store.proofs.commits.Commits.replay.Goals as goal

pub returns-then-has-clause-adds : goal.returns-then-has-clause-adds
returns-then-has-clause-adds c = λ follows. true≢false (c.if-has.ensures ∙ follows.is_new)

pub returns-clause-adds : goal.returns-clause-adds
returns-clause-adds c =
    let label = c.args.commit.now.0 in
    let access = c.args.commit.now.1.0 in
    let before = c.self.inside in
    let made = subst (λ b. MakesAllIf b c.as_slice.result.now c.in_ok-stamp.stamp before.tree c.make_all.new.tree)
    c.if-not-branch-2.false c.in_ok-make_all.ensures in
    let listed = c.in_ok-list.ensures in
    let updates : c.as_slice.result.now ≡ access.updates = c.as_slice.ensures ∙ c.in_ok-label.ensures.updates in
    let number : c.in_ok-stamp.stamp ≡ next_stamp (length before.labels) =
    c.in_ok-stamp.ensures.0 ∙ ap (λ (s : State). next_stamp (length s.labels)) (sym c.self.view_is) in
    let stamped = made.1 ∙ ap (λ us. stamped_all before.tree us c.in_ok-stamp.stamp) updates
    ∙ ap (stamped_all before.tree access.updates) number in
    let tree = listed.tree ∙ ap nodes_of stamped ∙ nodes_after_all _ before.tree access.updates in
    let labels = listed.labels ∙ ap (λ (l : Label). before.labels ++ l ∷ []) c.in_ok-label.ensures.label in
    let is_new : list_any (is_of label.client label.tid) before.labels ≡ false =
    ap (λ (s : State). list_any (is_of label.client label.tid) s.labels) c.self.view_is ∙ sym c.if-has.ensures in
    let held : ReadsHold c.tree.result.now access.reads = c.in_ok-holds.ensures.0 c.if-not-branch.false in
    let here : c.tree.result.now ≡ nodes_of before.tree = c.tree.ensures ∙ ap (λ (s : State). s.tree) (sym c.self.view_is) in
    subst (λ (s : State). CanFollow s label access × (c.list.new.self ≡ after_commit s label access)) c.self.view_is (
      record {
        is_new = is_new;
        holds = subst (λ (t : Nodes). ReadsHold t access.reads) here held;
        fit = subst (FitInTurn (nodes_of before.tree)) updates made.0;
      },
      λ i. record { tree = tree i; labels = labels i; stamps = (listed.stamps ∙ stamped) i },
    )
