-- What a tree answers.
use Rattle.std.specs.Prelude.{ℕ, ◌+◌, ◌==◌, ◌&&◌, Bool, true, false, List, length, bytes_eq, if◌then◌else◌, Option, Some, None, option_map}
use Rattle.std.specs.FinMap.{get, entries}
use Rattle.std.specs.List.{list_any, filter_map, starts_with}
use Rattle.iot_text.specs.Paths.{last_of}
use Rattle.iot_tree.specs.Ancestors.{proper_prefixes}
use Rattle.iot_tree.specs.Tree.{Nodes, Path, Row}
use Rattle.iot_tree.specs.declared.nodes.Node.{Node}
use Rattle.iot_tree.specs.declared.nodes.Node.TheVariants.{Dir, File, FarDir, FarFile}
use Rattle.iot_tree.specs.declared.nodes.Mode.{Mode}
use Rattle.iot_tree.specs.declared.nodes.Mode.TheVariants as modes
use Rattle.iot_tree.specs.declared.kinds.Kind.{Kind}
use Rattle.iot_tree.specs.declared.kinds.Kind.TheVariants as kinds
use Rattle.iot_tree.specs.declared.questions.Question.{Question}
use Rattle.iot_tree.specs.declared.questions.Question.TheVariants as asks
use Rattle.iot_tree.specs.declared.questions.Answer.{Answer}
use Rattle.iot_tree.specs.declared.questions.Answer.TheVariants.{Away, Absent, IsDir, IsFile, Bytes, Names, On, Off}

-- whether the node is a directory, whose names may be known or not
abbrev pub is_dir : Node → Bool
is_dir Dir = true
is_dir FarDir = true
is_dir (File bytes mode) = false
is_dir (FarFile mode) = false

-- whether the node is a directory whose names are known
abbrev pub is_known_dir : Node → Bool
is_known_dir Dir = true
is_known_dir FarDir = false
is_known_dir (File bytes mode) = false
is_known_dir (FarFile mode) = false

-- whether a path's row says that its names are not known
abbrev pub is_far_dir : Option Node → Bool
is_far_dir (Some FarDir) = true
is_far_dir (Some Dir) = false
is_far_dir (Some (File bytes mode)) = false
is_far_dir (Some (FarFile mode)) = false
is_far_dir None = false

-- whether a path above p is a far directory
abbrev pub is_far_above : Nodes → Path → Bool
is_far_above t p = list_any (λ above. is_far_dir (get t above)) (proper_prefixes p)

-- the kind of an object, whether its inside is known or not
abbrev pub node_kind : Node → Kind
node_kind Dir = kinds.IsDir
node_kind FarDir = kinds.IsDir
node_kind (File bytes mode) = kinds.IsFile
node_kind (FarFile mode) = kinds.IsFile

-- the kind that a path's row shows; without a row it is away below a far directory, else absent
abbrev pub kind_at : Option Node → Bool → Kind
kind_at (Some node) far = node_kind node
kind_at None true = kinds.Away
kind_at None false = kinds.Absent

-- what is at the path
abbrev pub kind_of : Nodes → Path → Kind
kind_of t p = kind_at (get t p) (is_far_above t p)

-- the contents that a path's row shows
abbrev pub content_at : Option Node → Option (List ℕ)
content_at (Some (File bytes mode)) = Some bytes
content_at (Some Dir) = None
content_at (Some FarDir) = None
content_at (Some (FarFile mode)) = None
content_at None = None

-- the contents of the file at the path, if they are known
abbrev pub content_of : Nodes → Path → Option (List ℕ)
content_of t p = content_at (get t p)

-- a kind as an answer
abbrev pub kind_answer : Kind → Answer
kind_answer kinds.Away = Away
kind_answer kinds.Absent = Absent
kind_answer kinds.IsDir = IsDir
kind_answer kinds.IsFile = IsFile

-- what is answered if there is no such thing: away below a far directory, else absent
abbrev pub no_content : Bool → Answer
no_content true = Away
no_content false = Absent

-- the contents that a path's row shows, as an answer
abbrev pub content_answer : Option Node → Bool → Answer
content_answer (Some (File bytes mode)) far = Bytes bytes
content_answer (Some (FarFile mode)) far = Away
content_answer (Some Dir) far = no_content far
content_answer (Some FarDir) far = no_content far
content_answer None far = no_content far

-- a mode as an answer
abbrev pub mode_told : Mode → Answer
mode_told modes.Off = Off
mode_told modes.On = On

-- the mode that a path's row shows, as an answer; a directory has none
abbrev pub mode_answer : Option Node → Bool → Answer
mode_answer (Some (File bytes mode)) far = mode_told mode
mode_answer (Some (FarFile mode)) far = mode_told mode
mode_answer (Some Dir) far = Absent
mode_answer (Some FarDir) far = Absent
mode_answer None far = no_content far

-- whether the row is at or below p
abbrev pub is_within : Path → Row → Bool
is_within p row = starts_with bytes_eq row.0 p

-- whether the path is p with one name more
abbrev pub is_child : Path → Path → Bool
is_child p path = (length path == length p + 1) && starts_with bytes_eq path p

-- the name of a row in the directory p, with the kind of its object; nothing of any other row
abbrev pub child_of : Path → Row → Option (List ℕ × Kind)
child_of p row = if is_child p row.0 then option_map (λ name. (name, node_kind row.1)) (last_of row.0) else None

-- the names in the directory p with their kinds, in order of name
abbrev pub children_of : Nodes → Path → List (List ℕ × Kind)
children_of t p = filter_map (child_of p) (entries t)

-- the names that a path's row shows, as an answer
abbrev pub names_answer : Option Node → Bool → List (List ℕ × Kind) → Answer
names_answer (Some Dir) far children = Names children
names_answer (Some FarDir) far children = Away
names_answer (Some (File bytes mode)) far children = no_content far
names_answer (Some (FarFile mode)) far children = no_content far
names_answer None far children = no_content far

-- what the tree answers to the question
abbrev pub answer_of : Nodes → Question → Answer
answer_of t (asks.Kind p) = kind_answer (kind_of t p)
answer_of t (asks.Content p) = content_answer (get t p) (is_far_above t p)
answer_of t (asks.Names p) = names_answer (get t p) (is_far_above t p) (children_of t p)
answer_of t (asks.Mode p) = mode_answer (get t p) (is_far_above t p)
