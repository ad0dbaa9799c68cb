-- The forms of event lines.
use Rattle.std.specs.Prelude.{ℕ, ◌&&◌, not, List, [], ◌∷◌, Option, Some, None, codes, bytes_eq, if◌then◌else◌}
use Rattle.std.specs.Option.{option_map, option_or, option_and_then}
use Rattle.iot_text.specs.Names.{is_name}
use Rattle.iot_text.specs.Paths.{path_of}
use Rattle.iot_link.specs.declared.passages.Loss.{Loss}
use Rattle.iot_link.specs.declared.passages.Loss.TheVariants.{Request, Reply}
use Rattle.iot_tree.specs.declared.limits.TheConstants.{WALK_LIMIT}
use Rattle.iot_disk.specs.declared.disk.Pick.{Pick}
use Rattle.iot_disk.specs.declared.disk.Pick.TheVariants.{Old, New, Fill}
use Rattle.iot_event.specs.Numbers.{number_of, byte_of}
use Rattle.iot_event.specs.declared.form.TheConstants.{STEP_LIMIT, TRANSACTION_LIMIT, READS_LIMIT, STOP_LIMIT}
use Rattle.iot_event.specs.declared.event.Choice.{Choice}
use Rattle.iot_event.specs.declared.event.Choice.TheVariants.{Reexec, Resolver, Abort, Manual}
use Rattle.iot_event.specs.declared.event.NodeEvent.{NodeEvent}
use Rattle.iot_event.specs.declared.event.NodeEvent.TheVariants.{Show, Stop, Crash, Restart}
use Rattle.iot_event.specs.declared.event.LinkEvent.{LinkEvent}
use Rattle.iot_event.specs.declared.event.LinkEvent.TheVariants.{Connect, Disconnect, Lose}
use Rattle.iot_event.specs.declared.event.Task as tasks
use Rattle.iot_event.specs.declared.event.Task.TheVariants.{Run, Hoard, Refresh, Walk, Begin, Step, End}
use Rattle.iot_event.specs.declared.event.Task.TheVariants.{Sync, Drain, Repair, Discard, Queue, Reads}
use Rattle.iot_event.specs.declared.event.ClientEvent.{ClientEvent}
use Rattle.iot_event.specs.declared.event.ClientEvent.TheVariants.{Node, Link, Task}
use Rattle.iot_event.specs.declared.form.Form.{Form}
use Rattle.iot_event.specs.declared.form.Form.TheVariants.{Client, Script, Profile, At, Server, Promote, StopBackup, Log}

-- `log` or `promote`
abbrev pub one_word : List ℕ → Option Form
one_word word =
    if bytes_eq word (codes "log") then Some Log
    else if bytes_eq word (codes "promote") then Some Promote
    else None

-- ---- what one word says of a node, of a link or of a client

abbrev pub node_event : List ℕ → Option NodeEvent
node_event word =
    if bytes_eq word (codes "show") then Some Show
    else if bytes_eq word (codes "crash") then Some Crash
    else if bytes_eq word (codes "restart") then Some Restart
    else None

abbrev pub link_event : List ℕ → Option LinkEvent
link_event word =
    if bytes_eq word (codes "connect") then Some Connect
    else if bytes_eq word (codes "disconnect") then Some Disconnect
    else None

abbrev pub lone_task : List ℕ → Option (tasks.Task (List ℕ) (List ℕ))
lone_task word =
    if bytes_eq word (codes "refresh") then Some Refresh
    else if bytes_eq word (codes "step") then Some (Step 1 None)
    else if bytes_eq word (codes "end") then Some (End None)
    else if bytes_eq word (codes "sync") then Some Sync
    else if bytes_eq word (codes "drain") then Some Drain
    else if bytes_eq word (codes "discard") then Some Discard
    else if bytes_eq word (codes "queue") then Some Queue
    else None

abbrev pub lone_event : List ℕ → Option (ClientEvent (List ℕ) (List ℕ))
lone_event word =
    option_or (option_map (λ what. Node what) (node_event word))
    (option_or (option_map (λ what. Link what) (link_event word)) (option_map (λ what. Task what) (lone_task word)))

-- ---- lines of two words

-- `show server`, `crash server` or `restart server`
abbrev pub server_form : List ℕ → List ℕ → Option Form
server_form first second = if bytes_eq second (codes "server") then option_map (λ what. Server what) (node_event first) else None

-- `client N`, or an event of a client that one word says
abbrev pub client_form : List ℕ → (client : List ℕ) → Option Form
client_form first client =
    if bytes_eq first (codes "client") then Some (Client client) else option_map (λ what. At client what) (lone_event first)

-- what is done with the server, else what is done with a client
abbrev pub two_words : List ℕ → List ℕ → Option Form
two_words first second = option_or (server_form first second) (if is_name second then client_form first second else None)

-- ---- lines of three words

-- `request` or `reply`
abbrev pub loss_of : List ℕ → Option Loss
loss_of word =
    if bytes_eq word (codes "request") then Some Request
    else if bytes_eq word (codes "reply") then Some Reply
    else None

-- `step C k`, `end C N`, `reads C i`, `lose C request`, `lose C reply` or `repair C S`, without the client
abbrev pub event_with : List ℕ → List ℕ → Option (ClientEvent (List ℕ) (List ℕ))
event_with first word =
    if bytes_eq first (codes "step") then option_map (λ count. Task (Step count None)) (number_of word STEP_LIMIT)
    else if bytes_eq first (codes "end") then option_map (λ number. Task (End (Some number))) (number_of word TRANSACTION_LIMIT)
    else if bytes_eq first (codes "reads") then option_map (λ item. Task (Reads item)) (number_of word READS_LIMIT)
    else if bytes_eq first (codes "lose") then option_map (λ loss. Link (Lose loss)) (loss_of word)
    else if bytes_eq first (codes "repair") then (if is_name word then Some (Task (Repair word)) else None)
    else None

-- the same, or `hoard C P`
abbrev pub event_of_words : List ℕ → List ℕ → Option (ClientEvent (List ℕ) (List ℕ))
event_of_words first word =
    if bytes_eq first (codes "hoard") then option_map (λ path. Task (Hoard path)) (path_of word) else event_with first word

-- `script N {`, `profile N {`, or an event of a client that two words say
abbrev pub three_words : List ℕ → List ℕ → List ℕ → Option Form
three_words first second third =
    if not (is_name second) then None
    else if bytes_eq first (codes "script") && bytes_eq third (codes "{") then Some (Script second)
    else if bytes_eq first (codes "profile") && bytes_eq third (codes "{") then Some (Profile second)
    else option_map (λ what. At second what) (event_of_words first third)

-- ---- lines of four and five words

-- `reexec`, `abort` or `manual`
abbrev pub plain_choice : List ℕ → Option (Choice (List ℕ))
plain_choice word =
    if bytes_eq word (codes "reexec") then Some Reexec
    else if bytes_eq word (codes "abort") then Some Abort
    else if bytes_eq word (codes "manual") then Some Manual
    else None

-- `resolver S`
abbrev pub resolver_choice : List ℕ → (script : List ℕ) → Option (Choice (List ℕ))
resolver_choice word script = if bytes_eq word (codes "resolver") && is_name script then Some (Resolver script) else None

-- `run C S` or `begin C S`, with its option, without the client
abbrev pub script_task : List ℕ → (script : List ℕ) → Choice (List ℕ) → Option (tasks.Task (List ℕ) (List ℕ))
script_task first script option =
    if bytes_eq first (codes "run") then Some (Run script option)
    else if bytes_eq first (codes "begin") then Some (Begin script option)
    else None

abbrev pub script_form : List ℕ → (client script : List ℕ) → Choice (List ℕ) → Option Form
script_form first client script option = option_map (λ what. At client (Task what)) (script_task first script option)

-- the same, if the client and the script are names and the option is one
abbrev pub choosing_form : List ℕ → (client script : List ℕ) → Option (Choice (List ℕ)) → Option Form
choosing_form first client script option =
    if is_name client && is_name script then option_and_then (λ choice. script_form first client script choice) option else None

-- `old`, `new`, or a byte
abbrev pub pick_of : List ℕ → Option Pick
pick_of word =
    if bytes_eq word (codes "old") then Some Old
    else if bytes_eq word (codes "new") then Some New
    else option_map (λ byte. Fill byte) (byte_of word)

-- the disk of the server, of its backup or of a client is to fail
abbrev pub stop_form : (node : List ℕ) → (calls : ℕ) → Pick → Option Form
stop_form node calls pick =
    if bytes_eq node (codes "server") then Some (Server (Stop calls pick))
    else if bytes_eq node (codes "backup") then Some (StopBackup calls pick)
    else if is_name node then Some (At node (Node (Stop calls pick)))
    else None

-- `stop NODE k PICK`, if the number is one and the pick is
abbrev pub stopping_form : (node : List ℕ) → Option ℕ → Option Pick → Option Form
stopping_form node calls pick = option_and_then (λ k. option_and_then (λ p. stop_form node k p) pick) calls

abbrev pub stop_words : (node calls pick : List ℕ) → Option Form
stop_words node calls pick = stopping_form node (number_of calls STOP_LIMIT) (pick_of pick)

-- `step C k N`, if the client is a name and both numbers are
abbrev pub step_words : (client count transaction : List ℕ) → Option Form
step_words client count transaction =
    if is_name client
    then option_and_then (λ k. option_map (λ n. At client (Task (Step k (Some n)))) (number_of transaction TRANSACTION_LIMIT))
    (number_of count STEP_LIMIT)
    else None

-- `walk C N LIMIT`, if the client and the profile are names and the limit is a number
abbrev pub walk_words : (client profile limit : List ℕ) → Option Form
walk_words client profile limit =
    if is_name client && is_name profile then option_map (λ n. At client (Task (Walk profile n))) (number_of limit WALK_LIMIT) else None

-- `stop NODE k PICK`, `step C k N`, `walk C N LIMIT`, or `run C S OPTION` or `begin C S OPTION`, where the option is one word
abbrev pub four_words : List ℕ → List ℕ → List ℕ → List ℕ → Option Form
four_words first second third fourth =
    if bytes_eq first (codes "stop") then stop_words second third fourth
    else if bytes_eq first (codes "step") then step_words second third fourth
    else if bytes_eq first (codes "walk") then walk_words second third fourth
    else choosing_form first second third (plain_choice fourth)

-- `run C S OPTION` or `begin C S OPTION`, where the option is two words
abbrev pub five_words : List ℕ → List ℕ → List ℕ → List ℕ → List ℕ → Option Form
five_words first second third fourth fifth = choosing_form first second third (resolver_choice fourth fifth)

-- the form of a line with these words, if it has one
abbrev pub form_of : List (List ℕ) → Option Form
form_of (a ∷ []) = one_word a
form_of (a ∷ b ∷ []) = two_words a b
form_of (a ∷ b ∷ c ∷ []) = three_words a b c
form_of (a ∷ b ∷ c ∷ d ∷ []) = four_words a b c d
form_of (a ∷ b ∷ c ∷ d ∷ e ∷ []) = five_words a b c d e
form_of _ = None
