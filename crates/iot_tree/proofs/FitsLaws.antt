-- When a file can be put at a path that has a row, or get a mode.
use Rattle.std.proofs.Common.{◌≡◌, ◌≢◌, [], sym, subst, refl, IsTrue, Some, None, Option, option_map, IsSome, inl, inr, ap, ◌∙◌}
use Rattle.std.specs.Prelude.{not}
use Rattle.std.specs.FinMap.{get, insert}
use Rattle.iot_tree.specs.Questions.{is_dir, node_kind}
use Rattle.iot_tree.specs.Tree.{Path, Nodes, IsTree}
use Rattle.iot_tree.specs.Updates.{FitsPut, FitsSetMode, with_mode, mode_set, updated}
use Rattle.iot_tree.specs.declared.kinds.Kind.TheVariants as kinds
use Rattle.iot_tree.specs.declared.nodes.Mode.{Mode}
use Rattle.iot_tree.specs.declared.nodes.Node.{Node}
use Rattle.iot_tree.specs.declared.nodes.Node.TheVariants.{Dir, File, FarDir, FarFile}
use Rattle.iot_tree.specs.declared.updates.Update.TheVariants.{SetMode}

-- the root is a directory
not_root : (t : Nodes) → IsTree t → (p : Path) (node : Node) → get t p ≡ Some node → node ≢ Dir → node ≢ FarDir → p ≢ []
not_root t tree p node here no_dir no_far_dir root = elim tree.root [
  | inl dir ↦ no_dir cc
  | inr far ↦ no_far_dir cc
]

-- what has a row and is no directory is in a known one
in_known_dir : (t : Nodes) → IsTree t → (p : Path) (node : Node) → get t p ≡ Some node → node ≢ Dir → node ≢ FarDir → FitsPut t p
in_known_dir t tree p node here no_dir no_far_dir = record {
  parent = tree.parents p (not_root t tree p node here no_dir no_far_dir) (subst IsSome (sym here) refl);
  no_dir = λ dir. no_dir cc;
  no_far_dir = λ far. no_far_dir cc;
}

pub fits_here : (t : Nodes) → IsTree t → (p : Path) (node : Node) → get t p ≡ Some node → IsTrue (not (is_dir node)) → FitsPut t p
fits_here t tree p Dir here free = absurd cc
fits_here t tree p FarDir here free = absurd cc
fits_here t tree p (File bytes mode) here free = in_known_dir t tree p (File bytes mode) here (λ dir. cc) (λ far. cc)
fits_here t tree p (FarFile mode) here free = in_known_dir t tree p (FarFile mode) here (λ dir. cc) (λ far. cc)

pub is_no_dir : (t : Nodes) (p : Path) (node : Node) → get t p ≡ Some node → FitsPut t p → IsTrue (not (is_dir node))
is_no_dir t p Dir here fits = absurd (fits.no_dir here)
is_no_dir t p FarDir here fits = absurd (fits.no_far_dir here)
is_no_dir t p (File bytes mode) here fits = refl
is_no_dir t p (FarFile mode) here fits = refl

-- ---- modes

-- what has the kind of a file is no directory
kind_file : (node : Node) → option_map node_kind (Some node) ≡ Some kinds.IsFile → IsTrue (not (is_dir node))
kind_file Dir is = absurd cc
kind_file FarDir is = absurd cc
kind_file (File bytes mode) is = refl
kind_file (FarFile mode) is = refl

-- the file that can get a mode
pub file_there : (t : Nodes) (p : Path) → FitsSetMode t p → (node : Node) × (get t p ≡ Some node) × IsTrue (not (is_dir node))
file_there t p fits = by (get t p) refl
  where
    by : (o : Option Node) → get t p ≡ o → (node : Node) × (get t p ≡ Some node) × IsTrue (not (is_dir node))
    by None is = let never : None ≡ Some kinds.IsFile = sym (ap (option_map node_kind) is) ∙ fits.file in absurd cc
    by (Some node) is = (node, is, kind_file node (sym (ap (option_map node_kind) is) ∙ fits.file))

-- with a mode it is a file still
pub still_file : (mode : Mode) (node : Node) → IsTrue (not (is_dir node)) → IsTrue (not (is_dir (with_mode mode node)))
still_file mode Dir is = absurd cc
still_file mode FarDir is = absurd cc
still_file mode (File bytes old) is = refl
still_file mode (FarFile old) is = refl

-- a file can be put there, too
pub mode_fits_put : (t : Nodes) → IsTree t → (p : Path) → FitsSetMode t p → FitsPut t p
mode_fits_put t tree p fits = let there = file_there t p fits in fits_here t tree p there.0 there.1 there.2

-- what is there gets the mode
pub mode_inserts : (t : Nodes) (p : Path) (mode : Mode) (node : Node) → get t p ≡ Some node
    → updated t (SetMode p mode) ≡ insert t p (with_mode mode node)
mode_inserts t p mode node is = ap (mode_set t p mode) is
