use Rattle.std.proofs.Common.{◌≡◌, ◌∙◌, sym, ap, subst, Ok, Err, OnOk}
use Rattle.std.specs.FinMap.{entries, get, insert}
use Rattle.iot_tree.specs.Place.{IsPlace}
use Rattle.iot_tree.specs.Tree.{Nodes}
use Rattle.iot_tree.specs.Updates.{mode_in}
use Rattle.iot_tree.specs.declared.nodes.Mode.{Mode}
use Rattle.iot_tree.specs.declared.nodes.Node.TheVariants.{File}
use Rattle.iot_tree.proofs.RowLaws.{place_in_tree, get_in_gap, get_here}
use Rattle.iot_tree.proofs.grown.Grown.put_file.Goals.{in-Ok, in-Err}
use Rattle.iot_tree.proofs.grown.Grown.put_file.Goals as goal

pub put_at-requires-clause-place : goal.put_at-requires-clause-place
put_at-requires-clause-place c =
    let stands : IsPlace c.self.inside.rows c.args.path.now c.place_of-place.result =
    rw (c.as_slice.ensures, c.names.ensures.value) at c.place_of-place.ensures in
    let same : c.match-place.place ≡ c.place_of-place.result = elim c.match-place.branch [
      | in-Ok w ↦ w.place-is ∙ sym w.in-Ok.is
      | in-Err w ↦ w.place-is
    ] in
    subst (IsPlace (entries c.args.self.now) c.args.path.now) (sym same)
    (place_in_tree c.self.inside.rows c.self.invariant.rising c.args.self.now c.self.view_is c.args.path.now c.place_of-place.result stands)

mode_is : (c : goal.After-put_at) → c.match-place.mode ≡ mode_in (get c.args.self.now c.args.path.now)
mode_is c = elim c.match-place.branch [
  | in-Ok w ↦
      let stands : IsPlace c.self.inside.rows c.args.path.now (Ok w.in-Ok.at) =
      rw (w.in-Ok.is, c.as_slice.ensures, c.names.ensures.value) at c.place_of-place.ensures in
      let mode = rw w.as_slice-in-Ok.ensures at w.mode-mode.ensures in
      let row = get_here c.self.inside.rows c.self.invariant.rising c.args.path.now w.in-Ok.at stands w.index-as_slice-at.result in
      w.mode-is ∙ mode ∙ ap mode_in (sym row ∙ ap (λ (t : Nodes). get t c.args.path.now) c.self.view_is)
  | in-Err w ↦
      let gap : IsPlace c.self.inside.rows c.args.path.now (Err w.in-Err.field-0) =
      rw (w.in-Err.is, c.as_slice.ensures, c.names.ensures.value) at c.place_of-place.ensures in
      let none = get_in_gap c.self.inside.rows c.self.invariant.rising c.args.path.now w.in-Err.field-0 gap in
      w.mode-is ∙ ap mode_in (sym none ∙ ap (λ (t : Nodes). get t c.args.path.now) c.self.view_is)
]

pub returns-clause-ok : goal.returns-clause-ok
returns-clause-ok c =
    subst (λ (mode : Mode). OnOk c.put_at.result (c.put_at.new.self ≡ insert c.args.self.now c.args.path.now (File c.args.bytes mode)))
    (mode_is c) c.put_at.ensures.ok
