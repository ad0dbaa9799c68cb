-- What is said besides stops and commits, by its forms. Nodes and transactions have the names that they have in the ledger, while paths,
-- the names of scripts, and what scripts print may be any.
use Rattle.std.specs.Prelude.{◌≡◌, ℕ, Bool, List, [], ◌∷◌, ◌++◌, Some, codes, slice_get}
use Rattle.iot_disk.specs.declared.disk.Pick.{Pick}
use Rattle.iot_inspect.specs.declared.waiting.RunLine.{RunLine}
use Rattle.iot_link.specs.declared.passages.Loss.{Loss}
use Rattle.iot_queue.specs.declared.items.Item.{Item}
use Rattle.iot_tree.specs.Tree.{Nodes, Path}
use Rattle.iot_tree.specs.declared.acts.Act.{Act}
use Rattle.iot_tree.specs.declared.questions.Question.{Question}
use Rattle.iot_machine.specs.Clients.{Next}
use Rattle.iot_machine.specs.Events.{place_text}
use Rattle.iot_machine.specs.Recorded.{labels_of}
use Rattle.iot_machine.specs.Serving.{backup_name}
use Rattle.iot_machine.specs.Texts.{line, stopped_line, kept_line, lost_line, stop_line, lose_line, hoard_line, walk_line, fetch_line, begin_line}
use Rattle.iot_machine.specs.Texts.{step_line, again_line, cut_line, settled_line, conflict_line, resolve_line, repair_line, acts_output}
use Rattle.iot_machine.specs.Texts.{tree_text, queue_text, reads_text, log_text}
use Rattle.iot_lasting.specs.Ledger.{Ledger, names_of, IsNode, IsTransaction}

-- it is one of these
pub record IsAmong (words : List (List ℕ)) (word : List ℕ) : Type 0 where
  pub place : ℕ
  pub is : slice_get words place ≡ Some word

-- alone in a line
abbrev pub answer_words : List (List ℕ)
answer_words =
    codes "up" ∷ codes "down" ∷ codes "busy" ∷ codes "idle" ∷ codes "pending" ∷ codes "nothing" ∷ codes "away" ∷ codes "not manual"
    ∷ codes "not at end" ∷ codes "promote" ∷ codes "promote kept" ∷ codes "promote lost" ∷ []

-- before the name of a node
abbrev pub node_words : List (List ℕ)
node_words =
    codes "crash " ∷ codes "restart " ∷ codes "client " ∷ codes "connect " ∷ codes "disconnect " ∷ codes "refresh " ∷ []

-- before the name of a transaction
abbrev pub transaction_words : List (List ℕ)
transaction_words = codes "end " ∷ codes "pending " ∷ codes "abort " ∷ codes "manual " ∷ codes "discard " ∷ []

pub data IsOther (l : Ledger) (text : List ℕ) : Type 0 where
  word : (word : List ℕ) → IsAmong answer_words word → text ≡ line word → IsOther l text
  -- of a node
  of_node : (word name : List ℕ) → IsAmong node_words word → IsNode l name → text ≡ line (word ++ name) → IsOther l text
  kept : (name : List ℕ) → IsNode l name → text ≡ kept_line name → IsOther l text
  lost : (name : List ℕ) → IsNode l name → text ≡ lost_line name → IsOther l text
  stop : (name : List ℕ) (calls : ℕ) (pick : Pick) → IsNode l name → text ≡ stop_line name calls pick → IsOther l text
  stop_backup : (calls : ℕ) (pick : Pick) → text ≡ stop_line backup_name calls pick → IsOther l text
  lose : (name : List ℕ) (loss : Loss) → IsNode l name → text ≡ lose_line name loss → IsOther l text
  -- of objects
  hoard : (name : List ℕ) (path : Path) → IsNode l name → text ≡ hoard_line name path → IsOther l text
  walk : (name : List ℕ) (held : Nodes) → IsNode l name → text ≡ walk_line name held → IsOther l text
  fetch : (path : Path) (away : Bool) → text ≡ fetch_line path away → IsOther l text
  -- of a transaction
  of_transaction : (word tid : List ℕ) → IsAmong transaction_words word → IsTransaction l tid → text ≡ line (word ++ tid) → IsOther l text
  begin : (tid script : List ℕ) (first : Bool) → IsTransaction l tid → text ≡ begin_line tid script first → IsOther l text
  step : (tid : List ℕ) (acts : ℕ) (next : Next) → IsTransaction l tid → text ≡ step_line tid acts (place_text next) → IsOther l text
  again : (tid : List ℕ) (read : ℕ) (question : Question) → IsTransaction l tid → text ≡ again_line tid read question → IsOther l text
  cut : (tid : List ℕ) (acts : ℕ) → IsTransaction l tid → text ≡ cut_line tid acts → IsOther l text
  settled : (tid : List ℕ) (number : ℕ) → IsTransaction l tid → text ≡ settled_line tid number → IsOther l text
  conflict : (tid : List ℕ) (read : ℕ) (question : Question) → IsTransaction l tid → text ≡ conflict_line tid read question
      → IsOther l text
  resolve : (tid by : List ℕ) → IsTransaction l tid → text ≡ resolve_line tid by → IsOther l text
  repair : (tid script : List ℕ) → IsTransaction l tid → text ≡ repair_line tid script → IsOther l text
  -- what acts print, and what nodes hold
  output : (acts : List Act) → text ≡ acts_output acts → IsOther l text
  tree : (t : Nodes) → text ≡ tree_text t → IsOther l text
  queue : (name : List ℕ) (items : List Item) (running : List RunLine) → IsNode l name → text ≡ queue_text name items running
      → IsOther l text
  reads : (item : Item) → text ≡ reads_text item → IsOther l text
  log : text ≡ log_text (names_of l) (labels_of l.commits) → IsOther l text
  -- an event of a client that there is not may stop it, and there is no name to say
  undeclared : text ≡ stopped_line [] → IsOther l text
