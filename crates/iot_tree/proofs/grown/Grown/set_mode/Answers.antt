use Rattle.std.proofs.Common.{◌≡◌, ◌∙◌, ℕ, List, [], sym, ap, get_or}
use Rattle.iot_text.specs.Paths.{path_cmp}
use Rattle.std.specs.FinMap.Entries.{put}
use Rattle.iot_tree.specs.Place.{IsRowAt, IsGap}
use Rattle.iot_tree.specs.Rows.{AreTreeRows, map_of}
use Rattle.iot_tree.specs.Tree.{Path, Row}
use Rattle.iot_tree.specs.Updates.{FitsSetMode, updated, with_mode}
use Rattle.iot_tree.specs.declared.nodes.Mode.{Mode}
use Rattle.iot_tree.specs.declared.updates.Update.TheVariants.{SetMode}
use Rattle.iot_tree.proofs.FitsLaws.{file_there, mode_fits_put, mode_inserts}
use Rattle.iot_tree.proofs.RowLaws.{get_here, get_in_gap, put_here, put_inserts, put_tree}
use Rattle.iot_tree.proofs.TreeLaws.{none_not_some}
use Rattle.iot_tree.proofs.grown.Grown.set_mode.Goals as goal

-- rows with one that got a mode are those of a tree, and of the tree after the update
module _ (rows : List Row) (all : AreTreeRows rows) (p : Path) (mode : Mode) (at : ℕ) (stands : IsRowAt rows p at) (d : Row) where
  abbrev new : List Row
  new = put path_cmp p (with_mode mode (get_or rows at d).1) rows

  new_tree : FitsSetMode (map_of rows) p → AreTreeRows new
  new_tree fits =
      let put = mode_fits_put (map_of rows) all.tree p fits in
      put_tree rows all p (with_mode mode (get_or rows at d).1) put.parent put.no_dir

  new_map : map_of new ≡ updated (map_of rows) (SetMode p mode)
  new_map =
      put_inserts rows all.rising p (with_mode mode (get_or rows at d).1)
      ∙ sym (mode_inserts (map_of rows) p mode (get_or rows at d).1 (get_here rows all.rising p at stands d))

at_row : (c : goal.After-set_value) → IsRowAt c.self.inside.rows c.args.path.now c.in-Ok.at
at_row c = rw (c.in-Ok.is, c.as_slice.ensures, c.names.ensures.value) at c.place_of.ensures

rows_are : (c : goal.After-set_value)
    → c.set_value.new.self
    ≡ new c.self.inside.rows c.self.invariant c.args.path.now c.args.mode c.in-Ok.at (at_row c) c.index-as_slice-at.result
rows_are c =
    let node = rw c.as_slice-in-Ok.ensures at c.in_ok-node.ensures in
    c.set_value.ensures ([], c.in_ok-node.node)
    ∙ put_here c.self.inside.rows c.self.invariant c.args.path.now c.in_ok-node.node c.in-Ok.at (at_row c) ([], c.in_ok-node.node)
    ∙ ap (λ node. put path_cmp c.args.path.now node c.self.inside.rows) node

pub invariant_of-self : goal.invariant_of-self
invariant_of-self c =
    rw (rows_are c)
    (new_tree c.self.inside.rows c.self.invariant c.args.path.now c.args.mode c.in-Ok.at (at_row c) c.index-as_slice-at.result
    (rw c.self.view_is c.requires))

pub returns-in_ok-node-clause-ok : goal.returns-in_ok-node-clause-ok
returns-in_ok-node-clause-ok c =
    rw (rows_are c, ← c.self.view_is)
    (new_map c.self.inside.rows c.self.invariant c.args.path.now c.args.mode c.in-Ok.at (at_row c) c.index-as_slice-at.result)

pub returns-in_default-clause-ok : goal.returns-in_default-clause-ok
returns-in_default-clause-ok c =
    let gap : IsGap c.self.inside.rows c.args.path.now c.in_default.field-0 =
    rw (c.as_slice.ensures, c.names.ensures.value) at c.in_default.ensures in
    let there = file_there c.args.self.now c.args.path.now c.requires in
    absurd
    (none_not_some _ there.0 (get_in_gap c.self.inside.rows c.self.invariant.rising c.args.path.now c.in_default.field-0 gap)
    (rw c.self.view_is there.1))
