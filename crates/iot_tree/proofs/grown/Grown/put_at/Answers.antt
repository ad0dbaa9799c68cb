use Rattle.std.proofs.Common.{◌≡◌, ◌≢◌, ℕ, ◌∙◌, sym, ap, subst, List, [], Result, Ok, Err, OnOk, OnErr, Some}
use Rattle.iot_text.specs.Paths.{path_cmp}
use Rattle.std.specs.List.{insert}
use Rattle.std.specs.FinMap.Entries.{put}
use Rattle.std.specs.FinMap.{entries, get}
use Rattle.iot_tree.specs.Place.{IsRowAt, IsGap, IsPlace}
use Rattle.iot_tree.specs.Rows.{AreTreeRows, map_of}
use Rattle.iot_tree.specs.Tree.{Nodes, parent_node, Path, Row}
use Rattle.iot_tree.specs.declared.nodes.Node.{Node}
use Rattle.iot_tree.specs.declared.nodes.Node.TheVariants.{Dir}
use Rattle.iot_tree.proofs.RowLaws.{place_in_rows, put_tree, put_here, put_in_gap, put_inserts}
use Rattle.iot_tree.proofs.grown.Grown.put_at.Goals as goal

-- what an insert leaves that may have no memory
either : {E : Type 0} (r : Result (Unit {0}) E) (new old target : List Row) → OnOk r (new ≡ target) → OnErr r (new ≡ old) → AreTreeRows old
    → AreTreeRows target → AreTreeRows new
either (Ok x) new old target ok err before after = subst AreTreeRows (sym ok) after
either (Err e) new old target ok err before after = subst AreTreeRows (sym err) before

on_ok : {E : Type 0} (r : Result (Unit {0}) E) (new target : List Row) (t : Nodes) → OnOk r (new ≡ target) → map_of target ≡ t
    → OnOk r (map_of new ≡ t)
on_ok (Ok x) new target t ok is = ap map_of ok ∙ is
on_ok (Err e) new target t ok is = ok

-- the rows of the tree with the row put among them are those of a tree
new_tree : (rows : List Row) (all : AreTreeRows rows) (t : Nodes) → map_of rows ≡ t → (p : Path) (node : Node) → parent_node t p ≡ Some Dir
    → get t p ≢ Some Dir → AreTreeRows (put path_cmp p node rows)
new_tree rows all t is p node parent no_dir =
    put_tree rows all p node (subst (λ (t : Nodes). parent_node t p ≡ Some Dir) (sym is) parent)
    (subst (λ (t : Nodes). get t p ≢ Some Dir) (sym is) no_dir)

-- the place among these rows
placed : (rows : List Row) → AreTreeRows rows → (t : Nodes) → map_of rows ≡ t → (p : Path) (place found : Result ℕ ℕ) → place ≡ found
    → IsPlace (entries t) p place → IsPlace rows p found
placed rows all t is p place found same stands = subst (IsPlace rows p) same (place_in_rows rows all.rising t is p place stands)

-- the new rows, if the path had one
rows_here : (c : goal.After-set_value) → c.set_value.new.self ≡ put path_cmp c.args.path.now c.args.node c.self.inside.rows
rows_here c =
    let stands : IsRowAt c.self.inside.rows c.args.path.now c.in-Ok.at =
    placed _ c.self.invariant _ c.self.view_is c.args.path.now c.args.place (Ok c.in-Ok.at) c.in-Ok.is c.requires.place in
    c.set_value.ensures ([], c.args.node)
    ∙ put_here c.self.inside.rows c.self.invariant c.args.path.now c.args.node c.in-Ok.at stands ([], c.args.node)

-- the new rows, if it had none
rows_in_gap : (c : goal.After-insert)
    → insert c.self.inside.rows c.in-Err.gap (c.in_ok-copy-in-Err.copy, c.args.node)
    ≡ put path_cmp c.args.path.now c.args.node c.self.inside.rows
rows_in_gap c =
    let gap : IsGap c.self.inside.rows c.args.path.now c.in-Err.gap =
    placed _ c.self.invariant _ c.self.view_is c.args.path.now c.args.place (Err c.in-Err.gap) c.in-Err.is c.requires.place in
    rw (c.in_ok-copy-in-Err.ensures) (put_in_gap c.self.inside.rows c.self.invariant c.args.path.now c.args.node c.in-Err.gap gap)

pub set_value-requires : goal.set_value-requires
set_value-requires c =
    (placed _ c.self.invariant _ c.self.view_is c.args.path.now c.args.place (Ok c.in-Ok.at) c.in-Ok.is c.requires.place).in_range

pub insert-requires : goal.insert-requires
insert-requires c =
    (placed _ c.self.invariant _ c.self.view_is c.args.path.now c.args.place (Err c.in-Err.gap) c.in-Err.is c.requires.place).in_range

pub invariant_of-self : goal.invariant_of-self
invariant_of-self c =
    rw (rows_here c) (new_tree _ c.self.invariant _ c.self.view_is c.args.path.now c.args.node c.requires.parent c.requires.no_dir)

pub returns-in-Ok-clause-ok : goal.returns-in-Ok-clause-ok
returns-in-Ok-clause-ok c =
    rw (rows_here c, ← c.self.view_is) (put_inserts c.self.inside.rows c.self.invariant.rising c.args.path.now c.args.node)

pub invariant_of-self-in-Err : goal.invariant_of-self-in-Err
invariant_of-self-in-Err c =
    either c.insert.result _ _ _ c.insert.ensures.ok c.insert.ensures.err c.self.invariant
    (rw (rows_in_gap c) (new_tree _ c.self.invariant _ c.self.view_is c.args.path.now c.args.node c.requires.parent c.requires.no_dir))

pub returns-in_ok-copy-in-Err-clause-ok : goal.returns-in_ok-copy-in-Err-clause-ok
returns-in_ok-copy-in-Err-clause-ok c =
    on_ok c.insert.result _ _ _ c.insert.ensures.ok
    (rw (rows_in_gap c, ← c.self.view_is) (put_inserts c.self.inside.rows c.self.invariant.rising c.args.path.now c.args.node))
