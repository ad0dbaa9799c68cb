-- The one spelling of each value.
use Rattle.std.specs.Prelude.{ℕ, List, [], ◌∷◌, ◌++◌, length, Option, Some, None}
use Rattle.std.specs.FinMap.{entries}
use Rattle.std.specs.List.{flat_map, zip}
use Rattle.std.specs.Int.{w64, to_be_bytes}
use Rattle.iot_tree.specs.declared.questions.Question.{Question}
use Rattle.iot_tree.specs.declared.questions.Question.TheVariants as asks
use Rattle.iot_tree.specs.declared.questions.Answer.{Answer}
use Rattle.iot_tree.specs.declared.questions.Answer.TheVariants as answers
use Rattle.iot_tree.specs.declared.kinds.Kind as object
use Rattle.iot_tree.specs.declared.kinds.Kind.TheVariants as kinds
use Rattle.iot_tree.specs.declared.updates.Update.{Update}
use Rattle.iot_tree.specs.declared.updates.Update.TheVariants.{Put, MakeDir, Remove, Move, SetMode}
use Rattle.iot_tree.specs.declared.acts.Read.{Read}
use Rattle.iot_tree.specs.declared.access.Access.{Access}
use Rattle.iot_tree.specs.declared.acts.Act.{Act}
use Rattle.iot_tree.specs.declared.labels.Label.{Label}
use Rattle.iot_tree.specs.declared.labels.OnConflict.{OnConflict}
use Rattle.iot_tree.specs.declared.labels.OnConflict.TheVariants.{Reexec, Resolver, Abort, Manual}
use Rattle.iot_tree.specs.declared.labels.Way.{Way}
use Rattle.iot_tree.specs.declared.labels.Way.TheVariants.{Certified, Reexecuted, Resolved}
use Rattle.iot_tree.specs.declared.changes.Changes.{Changes}
use Rattle.iot_tree.specs.declared.nodes.Mode.{Mode}
use Rattle.iot_tree.specs.declared.nodes.Mode.TheVariants as modes
use Rattle.iot_tree.specs.declared.nodes.Node.{Node}
use Rattle.iot_tree.specs.declared.nodes.Node.TheVariants.{Dir, File, FarDir, FarFile}
use Rattle.iot_tree.specs.declared.profile.Reach.{Reach}
use Rattle.iot_tree.specs.declared.profile.Reach.TheVariants as reaches
use Rattle.iot_tree.specs.declared.profile.Wish.{Wish}
use Rattle.iot_tree.specs.declared.want.Want.{Want}
use Rattle.iot_tree.specs.declared.want.Want.TheVariants as wants
use Rattle.iot_tree.specs.Profiles.{Profile}
use Rattle.iot_tree.specs.Tree.{Nodes, Path, Row}

-- a number: 8 bytes, most significant first
unfoldable pub number_spelling : ℕ → List ℕ
number_spelling n = to_be_bytes w64 n

-- bytes: their number, and then the bytes
abbrev pub counted : List ℕ → List ℕ
counted bytes = number_spelling (length bytes) ++ bytes

-- a list: the number of its elements, and then the elements
abbrev pub list_spelling : {X : Type 0} → (X → List ℕ) → List X → List ℕ
list_spelling spelling xs = number_spelling (length xs) ++ flat_map spelling xs

-- a pair: the key, and then the value
abbrev pub pair_spelling : {K V : Type 0} → (K → List ℕ) → (V → List ℕ) → K × V → List ℕ
pair_spelling key value pair = key pair.0 ++ value pair.1

-- a table: the list of its pairs
abbrev pub table_spelling : {K V : Type 0} → (K → List ℕ) → (V → List ℕ) → List (K × V) → List ℕ
table_spelling key value pairs = list_spelling (pair_spelling key value) pairs

-- a name: its bytes
abbrev pub name_spelling : List ℕ → List ℕ
name_spelling name = counted name

-- a path: the list of its names
abbrev pub path_spelling : List (List ℕ) → List ℕ
path_spelling path = list_spelling name_spelling path

-- the contents of a file: their bytes
abbrev pub contents_spelling : List ℕ → List ℕ
contents_spelling contents = counted contents

-- a line: its bytes
abbrev pub line_spelling : List ℕ → List ℕ
line_spelling line = counted line

abbrev pub lines_spelling : List (List ℕ) → List ℕ
lines_spelling lines = list_spelling line_spelling lines

-- files: the table of their paths and contents
abbrev pub files_spelling : List (List (List ℕ) × List ℕ) → List ℕ
files_spelling files = table_spelling path_spelling contents_spelling files

-- the kind of an object in a directory: the tag that it has as an answer
unfoldable pub kind_spelling : object.Kind → List ℕ
kind_spelling kinds.Away = 1 ∷ []
kind_spelling kinds.Absent = 2 ∷ []
kind_spelling kinds.IsDir = 3 ∷ []
kind_spelling kinds.IsFile = 4 ∷ []

-- what is in a directory: the table of the names and kinds
abbrev pub children_spelling : List (List ℕ × object.Kind) → List ℕ
children_spelling children = table_spelling name_spelling kind_spelling children

-- a question: its tag, and then the path
unfoldable pub question_spelling : Question → List ℕ
question_spelling (asks.Kind path) = 1 ∷ path_spelling path
question_spelling (asks.Content path) = 2 ∷ path_spelling path
question_spelling (asks.Names path) = 3 ∷ path_spelling path
question_spelling (asks.Mode path) = 4 ∷ path_spelling path

-- an answer: its tag, and then what it holds
unfoldable pub answer_spelling : Answer → List ℕ
answer_spelling answers.Away = 1 ∷ []
answer_spelling answers.Absent = 2 ∷ []
answer_spelling answers.IsDir = 3 ∷ []
answer_spelling answers.IsFile = 4 ∷ []
answer_spelling (answers.Bytes contents) = 5 ∷ contents_spelling contents
answer_spelling (answers.Names children) = 6 ∷ children_spelling children
answer_spelling answers.On = 7 ∷ []
answer_spelling answers.Off = 8 ∷ []

-- a read: the question, and then the answer
unfoldable pub read_spelling : Read → List ℕ
read_spelling read = question_spelling read.question ++ answer_spelling read.answer

abbrev pub reads_spelling : List Read → List ℕ
reads_spelling reads = list_spelling read_spelling reads

-- a mode
unfoldable pub mode_spelling : Mode → List ℕ
mode_spelling modes.Off = 0 ∷ []
mode_spelling modes.On = 1 ∷ []

-- an update: its tag, and then what it holds
unfoldable pub update_spelling : Update → List ℕ
update_spelling (Put path contents) = 1 ∷ (path_spelling path ++ contents_spelling contents)
update_spelling (MakeDir path) = 2 ∷ path_spelling path
update_spelling (Remove path) = 3 ∷ path_spelling path
update_spelling (Move path other) = 4 ∷ (path_spelling path ++ path_spelling other)
update_spelling (SetMode path mode) = 5 ∷ (path_spelling path ++ mode_spelling mode)

-- no update, which is 0, or an update
unfoldable pub optional_update_spelling : Option Update → List ℕ
optional_update_spelling None = 0 ∷ []
optional_update_spelling (Some update) = update_spelling update

-- an act: its reads, its update and its lines
unfoldable pub act_spelling : Act → List ℕ
act_spelling act = reads_spelling act.reads ++ (optional_update_spelling act.update ++ lines_spelling act.lines)

abbrev pub acts_spelling : List Act → List ℕ
acts_spelling acts = list_spelling act_spelling acts

-- the way of a commit
unfoldable pub way_spelling : Way → List ℕ
way_spelling Certified = 1 ∷ []
way_spelling Reexecuted = 2 ∷ []
way_spelling Resolved = 3 ∷ []

-- whose run a label is of: the client, the transaction and the script
abbrev pub transaction_spelling : Label → List ℕ
transaction_spelling label = number_spelling label.client ++ (number_spelling label.tid ++ name_spelling label.script)

-- and how it was run: the budget, the way and the kept files
abbrev pub run_spelling : Label → List ℕ
run_spelling label = number_spelling label.budget ++ (way_spelling label.way ++ files_spelling label.kept)

unfoldable pub label_spelling : Label → List ℕ
label_spelling label = transaction_spelling label ++ run_spelling label

-- what is done with a transaction that conflicts: its tag, and then the name of a resolver
unfoldable pub option_spelling : OnConflict → List ℕ
option_spelling Reexec = 1 ∷ []
option_spelling (Resolver script) = 2 ∷ name_spelling script
option_spelling Abort = 3 ∷ []
option_spelling Manual = 4 ∷ []

-- a base read: the read, and then its place
abbrev pub base_spelling : Read × ℕ → List ℕ
base_spelling base = pair_spelling read_spelling number_spelling base

-- base reads: the list of the reads with their places
abbrev pub bases_spelling : List Read × List ℕ → List ℕ
bases_spelling bases = list_spelling base_spelling (zip bases.0 bases.1)

abbrev pub updates_spelling : List Update → List ℕ
updates_spelling updates = list_spelling update_spelling updates

-- an access: its base reads, and its updates
unfoldable pub access_spelling : Access → List ℕ
access_spelling access = bases_spelling (access.reads, access.places) ++ updates_spelling access.updates

-- paths: the list of them
abbrev pub paths_spelling : List (List (List ℕ)) → List ℕ
paths_spelling paths = list_spelling path_spelling paths

-- a node: its tag, and then the mode of a file, and its contents if they are known
unfoldable pub node_spelling : Node → List ℕ
node_spelling Dir = 1 ∷ []
node_spelling (File contents mode) = 2 ∷ (mode_spelling mode ++ contents_spelling contents)
node_spelling FarDir = 3 ∷ []
node_spelling (FarFile mode) = 4 ∷ mode_spelling mode

-- rows: the table of their paths and nodes
abbrev pub rows_spelling : List Row → List ℕ
rows_spelling rows = table_spelling path_spelling node_spelling rows

-- a tree: its rows in the order of their paths
abbrev pub tree_spelling : Nodes → List ℕ
tree_spelling tree = rows_spelling (entries tree)

-- a want: its tag, and then the path
unfoldable pub want_spelling : Want → List ℕ
want_spelling wants.Nothing = 1 ∷ []
want_spelling (wants.Path path) = 2 ∷ path_spelling path
want_spelling (wants.Below path) = 3 ∷ path_spelling path

-- what a client knows: the table of the paths and their stamps
abbrev pub known_spelling : List (Path × ℕ) → List ℕ
known_spelling known = table_spelling path_spelling number_spelling known

-- a node with its stamp
abbrev pub stamped_node_spelling : Node × ℕ → List ℕ
stamped_node_spelling row = pair_spelling node_spelling number_spelling row

-- rows with their stamps: the table of the paths, and of the nodes with the stamps
abbrev pub stamped_rows_spelling : List (Path × (Node × ℕ)) → List ℕ
stamped_rows_spelling rows = table_spelling path_spelling stamped_node_spelling rows

-- changes: the rows, and then the paths that are gone
unfoldable pub changes_spelling : Changes → List ℕ
changes_spelling changes = stamped_rows_spelling changes.rows ++ paths_spelling changes.gone

-- how far a wish reaches
unfoldable pub reach_spelling : Reach → List ℕ
reach_spelling reaches.Path = 0 ∷ []
reach_spelling reaches.Below = 1 ∷ []

-- a wish: its priority, its path, and how far it reaches
unfoldable pub wish_spelling : Wish → List ℕ
wish_spelling wish = number_spelling wish.priority ++ (path_spelling wish.path ++ reach_spelling wish.reach)

-- a profile: the list of its wishes
abbrev pub profile_spelling : Profile → List ℕ
profile_spelling profile = list_spelling wish_spelling profile
