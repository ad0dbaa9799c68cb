use Rattle.std.proofs.Common.{◌≡◌, ◌≢◌, ◌∙◌, sym, subst, refl, Result, Ok, Err}
use Rattle.std.specs.Result.{OnOk, OnErr, IfErr}
use Rattle.iot_tree.specs.Tree.{IsTree}
use Rattle.iot_stamp.specs.Agreement.{Agrees}
use Rattle.iot_stamp.specs.Refresh.{merged}
use Rattle.iot_stamp.specs.Stamps.{Stamps, nodes_of}
use Rattle.iot_stamp.proofs.AgreementLaws.{agrees_pruned}
use Rattle.iot_held.proofs.OutcomeLaws.{cut_is, cut_tree, merged_nothing}
use Rattle.iot_held.specs.declared.merging.MergeFault.{MergeFault}
use Rattle.iot_held.specs.declared.merging.MergeFault.TheVariants.{NoMemory, NoTree}
use Rattle.iot_held.proofs.held.Held.merge.Goals as goal

-- what is so of the outcome if the call is done is so of one that is equal to it
moved : (r : Result (Unit {0}) MergeFault) (P Q : Type 0) → OnOk r P → (P → Q) → OnOk r Q
moved (Ok done) P Q is on = on is
moved (Err fault) P Q is on = is

erred : (r : Result (Unit {0}) MergeFault) (P Q : Type 0) → OnErr r P → (P → Q) → OnErr r Q
erred (Ok done) P Q is on = is
erred (Err fault) P Q is on = on is

only_memory : (r : Result (Unit {0}) MergeFault) (P : Type 0) → IfErr r (λ fault. fault ≢ NoMemory → P → ⊥) → P
    → IfErr r (λ fault. fault ≡ NoMemory)
only_memory (Ok done) P is tree = is
only_memory (Err NoMemory) P is tree = refl
only_memory (Err NoTree) P is tree = absurd (is (λ same. cc) tree)

pub returns-clause-refreshed : goal.returns-clause-refreshed
returns-clause-refreshed c = λ s k is.
    moved c.merge_changes-done.result _ _ c.merge_changes-done.ensures.ok (λ ok.
    ok ∙ (λ i. merged (c.self.view_is i) c.args.changes.rows c.args.changes.gone)
    ∙ cut_is c.args.self.now s k c.args.changes.rows c.args.changes.gone c.tree-before.ensures.tree c.tree-before.ensures.far is)

pub returns-clause-agrees : goal.returns-clause-agrees
returns-clause-agrees c = λ s k is positive.
    moved c.merge_changes-done.result _ _ (returns-clause-refreshed c s k is) (λ same.
    subst (λ (t : Stamps). Agrees t s) (sym same) (agrees_pruned s k positive))

pub returns-clause-only_memory : goal.returns-clause-only_memory
returns-clause-only_memory c = λ s k is.
    only_memory c.merge_changes-done.result _ c.merge_changes-done.ensures.no_tree
    (subst (λ (t : Stamps). IsTree (nodes_of (merged t c.args.changes.rows c.args.changes.gone))) (sym c.self.view_is)
    (cut_tree c.args.self.now s k c.args.changes.rows c.args.changes.gone c.tree-before.ensures.tree
    c.tree-before.ensures.far is))

unchanged : (r : Result (Unit {0}) MergeFault) (old new : Stamps) → OnOk r (new ≡ old) → OnErr r (new ≡ old) → new ≡ old
unchanged (Ok done) old new ok err = ok
unchanged (Err fault) old new ok err = err

pub returns-clause-nothing : goal.returns-clause-nothing
returns-clause-nothing c = λ rows gone.
    let none : merged c.args.self.now c.args.changes.rows c.args.changes.gone ≡ c.args.self.now =
    (λ i. merged c.args.self.now (rows i) (gone i)) ∙ merged_nothing c.args.self.now c.tree-before.ensures.far in
    unchanged c.merge_changes-done.result _ _
    (moved c.merge_changes-done.result _ _ c.merge_changes-done.ensures.ok (λ ok.
    ok ∙ (λ i. merged (c.self.view_is i) c.args.changes.rows c.args.changes.gone) ∙ none))
    (erred c.merge_changes-done.result _ _ c.merge_changes-done.ensures.err (λ same. same ∙ c.self.view_is))
