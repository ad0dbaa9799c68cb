-- The lines that events print. Those that say what nodes hold are of the crate that looks at nodes, and passed on.
use Rattle.std.specs.Prelude.{ℕ, Bool, true, false, List, [], ◌∷◌, ◌++◌, codes, decimal, length}
use Rattle.std.specs.List.{flat_map}
use Rattle.iot_text.specs.Paths.{path_text}
use Rattle.iot_tree.specs.Snapshots.{known}
use Rattle.iot_tree.specs.Tree.{Nodes}
use Rattle.iot_hoard.specs.Sizes.{size_within}
use Rattle.iot_disk.specs.declared.disk.Pick.{Pick}
use Rattle.iot_disk.specs.declared.disk.Pick.TheVariants.{Old, New, Fill}
use Rattle.iot_link.specs.declared.passages.Loss.{Loss}
use Rattle.iot_link.specs.declared.passages.Loss.TheVariants.{Request, Reply}
use Rattle.iot_tree.specs.declared.acts.Act.{Act}
use Rattle.iot_tree.specs.declared.questions.Question.{Question}
use Rattle.iot_tree.specs.declared.labels.Way.{Way}
pub use Rattle.iot_inspect.specs.Texts.{line, transaction_name, row_text, row_line, rows_text, tree_text}
pub use Rattle.iot_inspect.specs.Texts.{class_text, question_text, way_text}
pub use Rattle.iot_inspect.specs.Texts.{queue_text, reads_text, log_text}

-- an output line of a script, after a bar
abbrev pub output_line : List ℕ → List ℕ
output_line text = line (124 ∷ text)

-- the output lines of a script
abbrev pub output : List (List ℕ) → List ℕ
output lines = flat_map output_line lines

-- what these acts print
abbrev pub acts_output : List Act → List ℕ
acts_output acts = output (flat_map (λ act. act.lines) acts)

abbrev pub end_line : List ℕ → List ℕ
end_line tid = line (codes "end " ++ tid)

abbrev pub commit_line : ℕ → List ℕ → Way → List ℕ
commit_line number tid way = line (codes "commit " ++ decimal number ++ 32 ∷ tid ++ 32 ∷ way_text way)

abbrev pub settled_line : List ℕ → ℕ → List ℕ
settled_line tid number = line (codes "settled " ++ tid ++ 32 ∷ decimal number)

abbrev pub client_line : List ℕ → List ℕ
client_line name = line (codes "client " ++ name)

abbrev pub hoard_line : List ℕ → List (List ℕ) → List ℕ
hoard_line name path = line (codes "hoard " ++ name ++ 32 ∷ path_text path)

abbrev pub refresh_line : List ℕ → List ℕ
refresh_line name = line (codes "refresh " ++ name)

-- so many paths are known, and take so much
abbrev pub walk_line : List ℕ → (held : Nodes) → List ℕ
walk_line name held =
    line (codes "walk " ++ name ++ 32 ∷ decimal (length (known held)) ++ codes " paths " ++ decimal (size_within held (known held))
    ++ codes " bytes")

abbrev pub begin_line : List ℕ → List ℕ → (first : Bool) → List ℕ
begin_line tid script first = line (codes "begin " ++ tid ++ 32 ∷ script ++ 32 ∷ class_text first)

abbrev pub away_text : (away : Bool) → List ℕ
away_text true = codes " away"
away_text false = []

abbrev pub fetch_line : List (List ℕ) → (away : Bool) → List ℕ
fetch_line path away = line (codes "fetch " ++ path_text path ++ away_text away)

-- so many acts were done; and this is said of the place
abbrev pub step_line : List ℕ → ℕ → List ℕ → List ℕ
step_line tid acts place = line (codes "step " ++ tid ++ 32 ∷ decimal acts ++ codes " acts" ++ place)

abbrev pub conflict_line : List ℕ → ℕ → Question → List ℕ
conflict_line tid read question = line (codes "conflict " ++ tid ++ codes " read " ++ decimal read ++ 32 ∷ question_text question)

-- it begins anew
abbrev pub again_line : List ℕ → ℕ → Question → List ℕ
again_line tid read question = line (codes "again " ++ tid ++ codes " read " ++ decimal read ++ 32 ∷ question_text question)

abbrev pub abort_line : List ℕ → List ℕ
abort_line tid = line (codes "abort " ++ tid)

abbrev pub manual_line : List ℕ → List ℕ
manual_line tid = line (codes "manual " ++ tid)

-- by its own script again, or by the script of this name
abbrev pub resolve_line : List ℕ → List ℕ → List ℕ
resolve_line tid by = line (codes "resolve " ++ tid ++ 32 ∷ by)

abbrev pub repair_line : List ℕ → List ℕ → List ℕ
repair_line tid script = line (codes "repair " ++ tid ++ 32 ∷ script)

abbrev pub discard_line : List ℕ → List ℕ
discard_line tid = line (codes "discard " ++ tid)

-- it was cut off after so many acts
abbrev pub cut_line : List ℕ → ℕ → List ℕ
cut_line tid acts = line (codes "cut " ++ tid ++ 32 ∷ decimal acts ++ codes " acts")

abbrev pub pending_line : List ℕ → List ℕ
pending_line tid = line (codes "pending " ++ tid)

abbrev pub connect_line : List ℕ → List ℕ
connect_line name = line (codes "connect " ++ name)

abbrev pub disconnect_line : List ℕ → List ℕ
disconnect_line name = line (codes "disconnect " ++ name)

abbrev pub loss_text : Loss → List ℕ
loss_text Request = codes "request"
loss_text Reply = codes "reply"

abbrev pub lose_line : List ℕ → Loss → List ℕ
lose_line name loss = line (codes "lose " ++ name ++ 32 ∷ loss_text loss)

-- ---- stops

-- a node has stopped
abbrev pub stopped_line : List ℕ → List ℕ
stopped_line name = line (name ++ codes " stopped")

-- the words of the line of a node that came back by `restart`
abbrev pub restart_words : (name : List ℕ) → List ℕ
restart_words name = codes "restart " ++ name

-- those of a server that came back from its backup
abbrev pub promote_words : List ℕ
promote_words = codes "promote"

-- a node came back, and the record that was in doubt was kept
abbrev pub kept_as : (words : List ℕ) → List ℕ
kept_as words = line (words ++ codes " kept")

-- or it was lost
abbrev pub lost_as : (words : List ℕ) → List ℕ
lost_as words = line (words ++ codes " lost")

abbrev pub kept_line : (name : List ℕ) → List ℕ
kept_line name = kept_as (restart_words name)

abbrev pub lost_line : (name : List ℕ) → List ℕ
lost_line name = lost_as (restart_words name)

abbrev pub pick_text : Pick → List ℕ
pick_text Old = codes "old"
pick_text New = codes "new"
pick_text (Fill byte) = decimal byte

-- its disk is to fail at this device call from now on
abbrev pub stop_line : List ℕ → (calls : ℕ) → Pick → List ℕ
stop_line name calls pick = line (codes "stop " ++ name ++ 32 ∷ decimal calls ++ 32 ∷ pick_text pick)
