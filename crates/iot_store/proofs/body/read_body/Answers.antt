use Rattle.std.proofs.Common.{◌≡◌, true, false, List, ℕ, IfOk, IfSome, sym, ap, ◌∙◌, subst, arith, length}
use Rattle.std.specs.FinMap.{entries}
use Rattle.iot_stamp.specs.Pairing.{AreStamps, stamps_of}
use Rattle.iot_versions.specs.Versions.{ReadsAs, SpellsServer}
use Rattle.iot_store.specs.States.{State}
use Rattle.iot_store.proofs.BodiesLaws.{AreMade, fit_same, parts_fit, read_found, read_only, read_sound, spells_parts, state_with_parts}
use Rattle.iot_store.proofs.RowsLaws.{fit_are}
use Rattle.iot_store.proofs.body.read_body.Goals as goal

pub returns-in_default-clause-only : goal.returns-in_default-clause-only
returns-in_default-clause-only c = λ state is.
    spells_parts c.args.version c.args.body.now state is (subst
    (ReadsAs (SpellsServer c.args.version c.args.body.now)) c.in_default.is c.in_ok-parts.ensures)

pub returns-then-not-are_stamps-clause-only : goal.returns-then-not-are_stamps-clause-only
returns-then-not-are_stamps-clause-only c = λ state is.
    let parts = c.in-Some.parts in
    let m = subst (ReadsAs (SpellsServer c.args.version c.args.body.now)) c.in-Some.is c.in_ok-parts.ensures in
    let fit =
    fit_same _ _ _ _ _ _ (sym (c.as_slice.ensures ∙ c.rows.ensures.rows)) (sym c.as_slice-2.ensures) (sym c.len.ensures)
    (parts_fit c.args.version c.args.body.now state is (omega arith) parts m) in
    let clash : false ≡ true = sym c.if-not-are_stamps.true ∙ c.are_stamps.ensures.1 fit in
    absurd cc

pub from_tree-tree-requires : goal.from_tree-tree-requires
from_tree-tree-requires c =
    let parts = c.in-Some.parts in
    let fit =
    fit_same _ (entries parts.tree) _ parts.stamps _ (length parts.labels) (c.as_slice.ensures ∙ c.rows.ensures.rows) c.as_slice-2.ensures
    c.len.ensures (c.are_stamps.ensures.0 c.if-not-are_stamps.false) in
    subst (λ (stamps : List ℕ). AreStamps (entries parts.tree) stamps) (sym c.into_vec.ensures) (fit_are _ _ _ fit)

pub returns : goal.returns
returns c =
    let body = c.args.body.now in
    let parts = c.in-Some.parts in
    let m = subst (ReadsAs (SpellsServer c.args.version body)) c.in-Some.is c.in_ok-parts.ensures in
    let fit =
    fit_same _ (entries parts.tree) _ parts.stamps _ (length parts.labels) (c.as_slice.ensures ∙ c.rows.ensures.rows) c.as_slice-2.ensures
    c.len.ensures (c.are_stamps.ensures.0 c.if-not-are_stamps.false) in
    let made = c.with_labels.ensures in
    let are : AreMade c.with_labels.result parts =
    record {
      made =
          subst (λ (s : State). IfOk c.with_labels.result (λ read. IfSome read (λ (state : State). state ≡ s)))
          (state_with_parts parts c.from_tree-tree.result
          (c.from_tree-tree.ensures ∙ ap (λ (stamps : List ℕ). stamps_of (entries parts.tree) stamps) c.into_vec.ensures)) made.made;
      apart = made.apart;
      none = made.none;
      few = made.few;
    } in
    let found = read_found c.args.version body parts m c.with_labels.result fit are in
    record {
      found = found;
      only = λ state is. read_only c.args.version body parts m c.with_labels.result (omega arith) are state is;
      sound = read_sound c.args.version body c.with_labels.result found;
    }
