-- The lines that say what nodes hold.
use Rattle.std.specs.Prelude.{ℕ, ◌+◌, ◌<◌, ◌==◌, Bool, true, false, List}
use Rattle.std.specs.Prelude.{[], ◌∷◌, ◌++◌, length, codes, decimal, slice_index_or, if◌then◌else◌}
use Rattle.std.specs.Prelude.{All}
use Rattle.std.specs.FinMap.{entries}
use Rattle.std.specs.List.{flat_map}
use Rattle.iot_text.specs.Paths.{path_text}
use Rattle.iot_text.specs.Quotes.{quoted}
use Rattle.iot_tree.specs.Tree.{Nodes}
use Rattle.iot_tree.specs.declared.limits.TheConstants.{ACT_LIMIT}
use Rattle.iot_tree.specs.declared.nodes.Mode.{Mode}
use Rattle.iot_tree.specs.declared.nodes.Mode.TheVariants.{Off, On}
use Rattle.iot_tree.specs.declared.nodes.Node.{Node}
use Rattle.iot_tree.specs.declared.nodes.Node.TheVariants.{Dir, File, FarDir, FarFile}
use Rattle.iot_tree.specs.declared.acts.Act.{Act}
use Rattle.iot_tree.specs.declared.acts.Read.{Read}
use Rattle.iot_tree.specs.declared.kinds.Kind.{Kind}
use Rattle.iot_tree.specs.declared.kinds.Kind.TheVariants as kinds
use Rattle.iot_tree.specs.declared.questions.Question.{Question}
use Rattle.iot_tree.specs.declared.questions.Question.TheVariants as asks
use Rattle.iot_tree.specs.declared.questions.Answer.{Answer}
use Rattle.iot_tree.specs.declared.questions.Answer.TheVariants as answers
use Rattle.iot_tree.specs.declared.labels.Way.{Way}
use Rattle.iot_tree.specs.declared.labels.Way.TheVariants as ways
use Rattle.iot_tree.specs.declared.labels.OnConflict.{OnConflict}
use Rattle.iot_tree.specs.declared.labels.OnConflict.TheVariants as options
use Rattle.iot_tree.specs.declared.labels.Label.{Label}
use Rattle.iot_queue.specs.declared.items.Item.{Item}
use Rattle.iot_queue.specs.declared.items.Stage.{Stage}
use Rattle.iot_queue.specs.declared.items.Stage.TheVariants as stages
use Rattle.iot_inspect.specs.declared.waiting.RunLine.{RunLine}

-- a line ends with a newline
abbrev pub line : List ℕ → List ℕ
line text = text ++ 10 ∷ []

-- these lines, or `empty` if there are none
abbrev pub or_empty : List ℕ → List ℕ
or_empty [] = line (codes "empty")
or_empty (b ∷ bs) = b ∷ bs

-- the name of a transaction: its client's name, a dot and its number there
abbrev pub transaction_name : List ℕ → ℕ → List ℕ
transaction_name client number = client ++ 46 ∷ decimal number

-- ---- trees

-- what is said of a file's mode
abbrev pub mode_text : Mode → List ℕ
mode_text Off = []
mode_text On = codes " x"

-- a row of a tree
abbrev pub row_text : List (List ℕ) → Node → List ℕ
row_text path Dir = codes "dir " ++ path_text path
row_text path (File contents mode) = codes "file " ++ path_text path ++ 32 ∷ quoted contents ++ mode_text mode
row_text path FarDir = codes "dir " ++ path_text path ++ codes " far"
row_text path (FarFile mode) = codes "file " ++ path_text path ++ codes " far" ++ mode_text mode

abbrev pub row_line : List (List ℕ) → Node → List ℕ
row_line path node = line (row_text path node)

abbrev pub rows_text : List (List (List ℕ) × Node) → List ℕ
rows_text rows = flat_map (λ row. row_line row.0 row.1) rows

-- all rows in order of their paths
abbrev pub tree_text : Nodes → List ℕ
tree_text tree = rows_text (entries tree)

-- ---- queues

abbrev pub option_text : OnConflict → List ℕ
option_text options.Reexec = codes "reexec"
option_text (options.Resolver script) = codes "resolver " ++ script
option_text options.Abort = codes "abort"
option_text options.Manual = codes "manual"

abbrev pub stage_text : Stage → List ℕ
stage_text stages.Waiting = codes "waiting"
stage_text stages.Conflict = codes "conflict"
stage_text stages.Manual = codes "manual"
stage_text (stages.Resolved resolution) = codes "resolved"

-- whether fewer acts were allowed than there may be
abbrev pub cut_text : (budget : ℕ) → List ℕ
cut_text budget = if budget == ACT_LIMIT then [] else codes " cut"

-- a transaction that waits
abbrev pub item_line : List ℕ → Item → List ℕ
item_line client item = line (
    codes "item " ++ transaction_name client item.tid ++ 32 ∷ item.script ++ 32 ∷ option_text item.option ++ 32 ∷ stage_text item.stage
    ++ 32 ∷ decimal (length item.acts) ++ codes " acts" ++ cut_text item.budget
    )

abbrev pub class_text : (first : Bool) → List ℕ
class_text true = codes "first"
class_text false = codes "second"

-- a transaction that runs
abbrev pub running_line : List ℕ → RunLine → List ℕ
running_line client run = line (
    codes "running " ++ transaction_name client run.tid ++ 32 ∷ run.script ++ 32 ∷ class_text run.first ++ 32 ∷ decimal run.acts
    ++ codes " acts"
    )

-- the transactions of a client that wait, and then those that run
abbrev pub queue_text : List ℕ → List Item → List RunLine → List ℕ
queue_text client items running = or_empty (flat_map (item_line client) items ++ flat_map (running_line client) running)

-- ---- reads

abbrev pub question_text : Question → List ℕ
question_text (asks.Kind p) = codes "kind " ++ path_text p
question_text (asks.Content p) = codes "content " ++ path_text p
question_text (asks.Names p) = codes "names " ++ path_text p
question_text (asks.Mode p) = codes "mode " ++ path_text p

-- a name in a directory, with a `/` after that of a directory
abbrev pub child_text : List ℕ × Kind → List ℕ
child_text (name, kinds.IsDir) = name ++ codes "/"
child_text (name, kinds.IsFile) = name
child_text (name, kinds.Absent) = name
child_text (name, kinds.Away) = name

-- names, each after a space
abbrev pub others_text : List (List ℕ × Kind) → List ℕ
others_text children = flat_map (λ child. 32 ∷ child_text child) children

-- names, with a space between them
abbrev pub children_text : List (List ℕ × Kind) → List ℕ
children_text [] = []
children_text (child ∷ others) = child_text child ++ others_text others

abbrev pub answer_text : Answer → List ℕ
answer_text answers.Away = codes "away"
answer_text answers.Absent = codes "none"
answer_text answers.IsDir = codes "dir"
answer_text answers.IsFile = codes "file"
answer_text (answers.Bytes bytes) = quoted bytes
answer_text (answers.Names children) = codes "[" ++ children_text children ++ codes "]"
answer_text answers.On = codes "on"
answer_text answers.Off = codes "off"

-- the read of this number
abbrev pub read_line : ℕ → Read → List ℕ
read_line number read = line (codes "read " ++ decimal number ++ 32 ∷ question_text read.question ++ codes " = " ++ answer_text read.answer)

-- reads, of which the first has this number
abbrev pub reads_from : ℕ → List Read → List ℕ
reads_from number [] = []
reads_from number (read ∷ reads) = read_line number read ++ reads_from (number + 1) reads

-- the reads of acts, in order
abbrev pub reads_of : List Act → List Read
reads_of acts = flat_map (λ act. act.reads) acts

-- what a transaction read in its first run, numbered from 1
abbrev pub reads_text : Item → List ℕ
reads_text item = or_empty (reads_from 1 (reads_of item.acts))

-- ---- commits

abbrev pub way_text : Way → List ℕ
way_text ways.Certified = codes "certified"
way_text ways.Reexecuted = codes "reexecuted"
way_text ways.Resolved = codes "resolved"

-- the commit of this number; clients are named by their places
abbrev pub log_line : List (List ℕ) → ℕ → Label → List ℕ
log_line clients number label = line (
    codes "log " ++ decimal number ++ 32 ∷ transaction_name (slice_index_or clients label.client []) label.tid ++ 32 ∷ label.script
    ++ 32 ∷ way_text label.way
    )

-- commits, of which the first has this number
abbrev pub log_from : List (List ℕ) → ℕ → List Label → List ℕ
log_from clients number [] = []
log_from clients number (label ∷ labels) = log_line clients number label ++ log_from clients (number + 1) labels

-- all commits, numbered from 1
abbrev pub log_text : List (List ℕ) → List Label → List ℕ
log_text clients labels = or_empty (log_from clients 1 labels)

-- the client of each label is a place among these names
abbrev pub AreOf : (clients : List (List ℕ)) → List Label → Type 0
AreOf clients labels = All (λ label. label.client < length clients) labels
