-- Rows without the modes of files: what kinds, contents and names are told by.
use Rattle.std.proofs.Common.{◌≡◌, Bool, List, Option, Some, None, option_map, refl, sym, ap, ◌∙◌}
use Rattle.std.specs.FinMap.{get}
use Rattle.iot_tree.specs.Tree.{Nodes, Path}
use Rattle.iot_tree.specs.Questions.{is_far_dir, kind_at, kind_answer, content_answer, names_answer}
use Rattle.iot_tree.specs.declared.nodes.Mode.{Mode}
use Rattle.iot_tree.specs.declared.nodes.Mode.TheVariants.{Off}
use Rattle.iot_tree.specs.declared.nodes.Node.{Node}
use Rattle.iot_tree.specs.declared.nodes.Node.TheVariants.{Dir, File, FarDir, FarFile}
use Rattle.iot_tree.proofs.ChildKindLaws.{Child, SameKind, row_kind}

-- the object as if its mode were off
abbrev pub modeless : Node → Node
modeless Dir = Dir
modeless (File bytes mode) = File bytes Off
modeless FarDir = FarDir
modeless (FarFile mode) = FarFile Off

-- the row at a path without its mode
abbrev pub row_at : Nodes → Path → Option Node
row_at t k = option_map modeless (get t k)

kind_modeless : (o : Option Node) → row_kind (option_map modeless o) ≡ row_kind o
kind_modeless None = refl
kind_modeless (Some Dir) = refl
kind_modeless (Some (File bytes mode)) = refl
kind_modeless (Some FarDir) = refl
kind_modeless (Some (FarFile mode)) = refl

-- rows that are the same without their modes are of one kind
pub same_kind_of : (t u : Nodes) (k : Path) → row_at t k ≡ row_at u k → SameKind t u k
same_kind_of t u k same = sym (kind_modeless (get t k)) ∙ ap row_kind same ∙ kind_modeless (get u k)

-- what is told without modes is the same of such rows
pub told : {A : Type 0} (f : Option Node → A) → ((o : Option Node) → f (option_map modeless o) ≡ f o) → (a b : Option Node)
    → option_map modeless a ≡ option_map modeless b → f a ≡ f b
told f modeless_is a b same = sym (modeless_is a) ∙ ap f same ∙ modeless_is b

pub kind_told : (far : Bool) (o : Option Node) → kind_answer (kind_at (option_map modeless o) far) ≡ kind_answer (kind_at o far)
kind_told far None = refl
kind_told far (Some Dir) = refl
kind_told far (Some (File bytes mode)) = refl
kind_told far (Some FarDir) = refl
kind_told far (Some (FarFile mode)) = refl

pub content_told : (far : Bool) (o : Option Node) → content_answer (option_map modeless o) far ≡ content_answer o far
content_told far None = refl
content_told far (Some Dir) = refl
content_told far (Some (File bytes mode)) = refl
content_told far (Some FarDir) = refl
content_told far (Some (FarFile mode)) = refl

pub names_told : (far : Bool) (names : List Child) (o : Option Node)
    → names_answer (option_map modeless o) far names ≡ names_answer o far names
names_told far names None = refl
names_told far names (Some Dir) = refl
names_told far names (Some (File bytes mode)) = refl
names_told far names (Some FarDir) = refl
names_told far names (Some (FarFile mode)) = refl

far_dir_told : (o : Option Node) → is_far_dir (option_map modeless o) ≡ is_far_dir o
far_dir_told None = refl
far_dir_told (Some Dir) = refl
far_dir_told (Some (File bytes mode)) = refl
far_dir_told (Some FarDir) = refl
far_dir_told (Some (FarFile mode)) = refl

pub same_far_dir : (a b : Option Node) → option_map modeless a ≡ option_map modeless b → is_far_dir a ≡ is_far_dir b
same_far_dir a b same = told is_far_dir far_dir_told a b same

-- a known directory is one without its mode, and no other row is
dir_of : (o : Option Node) → option_map modeless o ≡ Some Dir → o ≡ Some Dir
dir_of None is = absurd cc
dir_of (Some Dir) is = refl
dir_of (Some (File bytes mode)) is = absurd cc
dir_of (Some FarDir) is = absurd cc
dir_of (Some (FarFile mode)) is = absurd cc

pub same_dir : (a b : Option Node) → option_map modeless a ≡ option_map modeless b → a ≡ Some Dir → b ≡ Some Dir
same_dir a b same is = dir_of b (sym same ∙ ap (option_map modeless) is)

-- the same of far rows
pub far_dir_of : (o : Option Node) → option_map modeless o ≡ Some FarDir → o ≡ Some FarDir
far_dir_of None is = absurd cc
far_dir_of (Some Dir) is = absurd cc
far_dir_of (Some (File bytes mode)) is = absurd cc
far_dir_of (Some FarDir) is = refl
far_dir_of (Some (FarFile mode)) is = absurd cc

pub far_file_of : (o : Option Node) → option_map modeless o ≡ Some (FarFile Off) → (mode : Mode) × (o ≡ Some (FarFile mode))
far_file_of None is = absurd cc
far_file_of (Some Dir) is = absurd cc
far_file_of (Some (File bytes mode)) is = absurd cc
far_file_of (Some FarDir) is = absurd cc
far_file_of (Some (FarFile mode)) is = (mode, refl)
