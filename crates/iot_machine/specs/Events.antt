-- What each event does to the plain machine, and what it prints.
use Rattle.std.specs.Prelude.{◌≡◌, ℕ, ◌-◌, ◌&&◌, not, Bool, true, false, List, [], ◌∷◌, ◌++◌, Option, None, Some, codes, map, slice_get}
use Rattle.std.specs.Prelude.{drop, length}
use Rattle.iot_disk.specs.declared.disk.Pick.{Pick}
use Rattle.iot_tree.specs.Profiles.{Profile}
use Rattle.iot_tree.specs.declared.want.Want.TheVariants as wanted
use Rattle.iot_event.specs.declared.event.Choice.{Choice}
use Rattle.iot_event.specs.declared.event.Choice.TheVariants as choices
use Rattle.iot_event.specs.declared.event.ClientEvent.{ClientEvent}
use Rattle.iot_event.specs.declared.event.ClientEvent.TheVariants as client_events
use Rattle.iot_event.specs.declared.event.Event.{Event}
use Rattle.iot_event.specs.declared.event.Event.TheVariants as events
use Rattle.iot_event.specs.declared.event.LinkEvent.{LinkEvent}
use Rattle.iot_event.specs.declared.event.LinkEvent.TheVariants as links
use Rattle.iot_event.specs.declared.event.NodeEvent.{NodeEvent}
use Rattle.iot_event.specs.declared.event.NodeEvent.TheVariants as nodes
use Rattle.iot_event.specs.declared.event.Task.{Task}
use Rattle.iot_event.specs.declared.event.Task.TheVariants as tasks
use Rattle.iot_link.specs.Links as link
use Rattle.iot_link.specs.Links.{connected, arming}
use Rattle.iot_link.specs.declared.passages.Loss.{Loss}
use Rattle.iot_inspect.specs.declared.waiting.RunLine.{RunLine}
use Rattle.iot_queue.specs.declared.items.Item as queue
use Rattle.iot_machine.specs.Calls.{Call, Part, Try, Gets, Asks, Answers, Does, Says, Nothing, Tells, Then, Goes, Repeats, Whole, At}
use Rattle.iot_machine.specs.Calls.{either, goes_on, OrSays}
use Rattle.iot_machine.specs.Clients.{Declared, Running, ClientState, numbered, Next, AtEnd, AtLimit, Acts, Fetches, IsLongest}
use Rattle.iot_machine.specs.Clients.{new_client, view, leave, repair, cut}
use Rattle.iot_machine.specs.Machine.{Machine, Client, first_of, client_at, node, cut_off, is_first, Pair, pair_at, kept, script_at}
use Rattle.iot_machine.specs.Machine.{server, tree_after, give_up, arm_backup}
use Rattle.iot_machine.specs.Nodes.{unopened}
use Rattle.iot_machine.specs.Options as options
use Rattle.iot_machine.specs.Options.{OnConflict}
use Rattle.iot_machine.specs.Recorded.{queue_kept, labels_of}
use Rattle.iot_machine.specs.Serving.{server_name, backup_name, kept_text}
use Rattle.iot_machine.specs.Serving as errands
use Rattle.iot_machine.specs.Stops.{OpensNode, ComesBack, ComesBackAs, Crashes, Restarts, ArmsDisk, Shows}
use Rattle.iot_machine.specs.Texts.{line, connect_line, disconnect_line, lose_line, promote_words, stop_line}
use Rattle.iot_machine.specs.Texts.{client_line, hoard_line, refresh_line, walk_line, begin_line, step_line, repair_line, discard_line}
use Rattle.iot_machine.specs.Texts.{transaction_name, tree_text, cut_line, queue_text, reads_text, log_text}
use Rattle.iot_machine.specs.Transactions.{Writes, Notes, Refuses, IfRoom, IfRuns, runs, pends, Takes, Begins, Steps, next_of, Ends}
use Rattle.iot_machine.specs.Transactions.{Syncs, SyncsAll, item_name, IfManual}

-- ---- declarations

-- a client of this name that was never started, over the next disk
abbrev pub client_of : List ℕ → Machine → Client
client_of name m = record { name = name; node = unopened new_client (first_of m.spare); link = link.opened; first = [] }

abbrev pub add_client : List ℕ → Machine → Machine
add_client name m = record m { clients = m.clients ++ client_of name m ∷ []; spare = drop 1 m.spare }

-- there is one more client, which starts
abbrev pub Declares : List ℕ → Part Machine
Declares name =
    Then (Gets (λ m. length m.clients) (add_client name)) (λ c.
    Then (At (client_at c) (At node (OpensNode name))) (goes_on (Says (λ _. client_line name))))

abbrev pub declare_script : Declared → Machine → Machine
declare_script script m = record m { scripts = m.scripts ++ script ∷ [] }

-- ---- a client's events

-- a line about the client, and all is done
abbrev pub Closes : (Pair → List ℕ) → Try Pair (Unit {0})
Closes text = Tells text (Some tt)

abbrev pub Hoards : List (List ℕ) → Try Pair (Unit {0})
Hoards path = Goes (Takes (errands.Refresh (wanted.Below path))) (λ _. Closes (λ pair. hoard_line pair.client.name path))

abbrev pub Refreshes : Try Pair (Unit {0})
Refreshes = Goes (Takes (errands.Refresh wanted.Nothing)) (λ _. Closes (λ pair. refresh_line pair.client.name))

-- what it knows then is what was picked, of which the line tells how many paths it is and how much they take
abbrev pub Walks : Profile → (limit : ℕ) → Try Pair (Unit {0})
Walks profile limit =
    Goes (Takes (errands.Walk profile limit)) (λ _. Closes (λ pair. walk_line pair.client.name (kept pair).held))

-- what is said of a running transaction
abbrev pub said_of : (Running → List ℕ) → Option Running → List ℕ
said_of text None = []
said_of text (Some it) = text it

-- of the one with this number
abbrev pub begin_text : (number : ℕ) → Pair → List ℕ
begin_text number pair =
    said_of (λ it. begin_line (transaction_name pair.client.name number) it.script.name (is_first number pair.client))
    (numbered number (kept pair))

abbrev pub BeginsAloud : Declared → OnConflict Declared → Try Pair (Unit {0})
BeginsAloud script option = Goes (Begins script option) (λ number. Closes (begin_text number))

abbrev pub place_text : Next → List ℕ
place_text AtEnd = codes ", at end"
place_text AtLimit = codes ", at limit"
place_text Acts = []
place_text (Fetches path) = []

abbrev pub step_text : (number : ℕ) → Pair → List ℕ
step_text number pair =
    said_of (λ it. step_line (transaction_name pair.client.name number) it.acts (place_text (next_of it pair)))
    (numbered number (kept pair))

-- at most so many single steps of the one that is meant, and how far it is then
abbrev pub StepsAloud : (most : ℕ) → (which : Option ℕ) → Try Pair (Unit {0})
StepsAloud most which =
    IfRuns which (λ it. Goes (Repeats most (Steps it.number true)) (λ _. Closes (step_text it.number)))

-- the single steps that one run makes
abbrev pub run_steps : ℕ
run_steps = 100000

-- steps of the one with this number, of which nothing is said, and its end
abbrev pub runs_through : (number : ℕ) → Try Pair (Unit {0})
runs_through number = Goes (Repeats run_steps (Steps number false)) (λ _. Ends (Some number))

-- over a link that is up, those that wait are synced first; then one begins, and is run through
abbrev pub Runs : Declared → OnConflict Declared → Try Pair (Unit {0})
Runs script option =
    IfRoom
    (Then (Asks (λ pair. pair.client.link.up)) (λ up.
    Goes (either SyncsAll (Answers (Some tt)) up) (λ _. Goes (Begins script option) runs_through)))

-- the first one that waits is synced
abbrev pub SyncsOnce : Try Pair (Unit {0})
SyncsOnce = Goes Syncs (λ _. Answers (Some tt))

-- the first one is to be resolved by this script
abbrev pub Repairs : Declared → Try Pair (Unit {0})
Repairs script =
    IfManual (λ item. Goes (Notes (repair script)) (λ _. Closes (λ pair. repair_line (item_name item pair) script.name)))

-- it is given up
abbrev pub Discards : Try Pair (Unit {0})
Discards = IfManual (λ item. Goes (Notes leave) (λ _. Closes (λ pair. discard_line (item_name item pair))))

-- whether nothing waits or runs, and the link is up
abbrev pub is_drained : Pair → Bool
is_drained pair = not (pends pair) && not (runs pair) && pair.client.link.up

-- all that wait are synced, and then what the client knows is brought anew
abbrev pub Drains : Try Pair (Unit {0})
Drains =
    OrSays (line (codes "nothing"))
    (Goes SyncsAll (λ _. Then (Asks is_drained) (either Refreshes (Answers (Some tt)))))

-- a running transaction, as a line says it
abbrev pub run_line : Client → Running → RunLine
run_line client it = record { tid = it.number; script = it.script.name; first = is_first it.number client; acts = it.acts }

abbrev pub running_in : Client → List RunLine
running_in client = map (run_line client) client.node.durable.running

-- its transactions: those that wait, and then those that run
abbrev pub Queues : Try Pair (Unit {0})
Queues = Closes (λ pair. queue_text pair.client.name (queue_kept (kept pair)) (running_in pair.client))

-- its transaction at this place of those that wait, from 1
abbrev pub waiting_at : (place : ℕ) → Pair → Option queue.Item
waiting_at place pair = slice_get (queue_kept (kept pair)) (place - 1)

abbrev pub says_reads : Option queue.Item → Try Pair (Unit {0})
says_reads None = Refuses (codes "nothing")
says_reads (Some item) = Closes (λ _. reads_text item)

-- what that one has read in its own run, if so many wait
abbrev pub ReadsOf : (place : ℕ) → Try Pair (Unit {0})
ReadsOf place = Then (Asks (waiting_at place)) says_reads

-- an event of a client that is alive
abbrev pub IfUp : {A : Type 0} → Try Pair A → Part Pair
IfUp call = Then (Asks (λ pair. pair.client.node.alive)) (either (Whole call) (Says (λ _. line (codes "down"))))

abbrev pub OfClient : {A : Type 0} → ℕ → Try Pair A → Part Machine
OfClient c call = At (pair_at c) (IfUp call)

-- ---- a client alone

abbrev pub Connects : Part Client
Connects = Does (λ client. connect_line client.name) (λ client. record client { link = connected true client.link })

abbrev pub Disconnects : Part Client
Disconnects = Does (λ client. disconnect_line client.name) cut_off

abbrev pub Loses : Loss → Part Client
Loses loss = Does (λ client. lose_line client.name loss) (λ client. record client { link = arming loss client.link })

-- it loses its memory
abbrev pub CrashesClient : Part Client
CrashesClient = Then (Asks (λ client. client.name)) (λ name. At node (Crashes name))

-- how many acts of a running transaction, from the first one on, have read what they would read on the view
abbrev pub FindsLongest : Running → Call Client ℕ
FindsLongest it client text acts n = (text ≡ []) × IsLongest (view client.node.durable) it acts × (n ≡ client)

-- what ran when it lost its memory is cut off, one after the other, each after these acts
abbrev pub cuts_off : List Running → Part Client
cuts_off [] = Nothing
cuts_off (it ∷ running) =
    Then (FindsLongest it) (λ acts.
    Then (Writes (cut acts)) (goes_on
    (Then (Says (λ client. cut_line (transaction_name client.name it.number) acts)) (λ _. cuts_off running))))

abbrev pub CutsOff : Part Client
CutsOff = Then (Asks (λ client. client.node.durable.running)) cuts_off

-- nothing follows the line of a client's record that was kept
abbrev pub no_text : ClientState → ClientState → List ℕ
no_text before after = []

-- it comes back with what it keeps
abbrev pub comes_back : (alive : Bool) → Part Client
comes_back true = Says (λ _. line (codes "up"))
comes_back false = Then (Asks (λ client. client.name)) (λ name. Then (At node (ComesBack name no_text)) (goes_on CutsOff))

abbrev pub RestartsClient : Part Client
RestartsClient = Then (Asks (λ client. client.node.alive)) comes_back

-- its disk is to fail
abbrev pub ArmsClient : (calls : ℕ) → Pick → Part Client
ArmsClient calls pick = Then (Asks (λ client. client.name)) (λ name. At node (ArmsDisk name calls pick))

-- ---- the server

-- the names of its clients
abbrev pub names_in : Machine → List (List ℕ)
names_in m = map (λ client. client.name) m.clients

-- one that was down has answered no request since
abbrev pub counts_anew : (was_alive : Bool) → Machine → Machine
counts_anew true m = m
counts_anew false m = record m { requests = 0 }

-- its commit that was in doubt, if it was kept, is printed now
abbrev pub RestartsServer : Part Machine
RestartsServer =
    Then (Asks (λ m. m.server.alive)) (λ alive.
    Then (Asks names_in) (λ names.
    Then (At server (Restarts server_name (kept_text names))) (λ _. Does (λ _. []) (counts_anew alive))))

-- From its backup, unless that was done before. The first disk is given up, also if the server stops in this.
abbrev pub promotes_unless : (promoted : Bool) → Part Machine
promotes_unless true = Says (λ _. line (codes "nothing"))
promotes_unless false =
    Then (Does (λ _. []) give_up) (λ _.
    Then (Asks names_in) (λ names.
    Then (At server (ComesBackAs promote_words server_name (kept_text names))) (λ _. Does (λ _. []) (counts_anew false))))

-- a server that is down comes back from its backup
abbrev pub Promotes : Part Machine
Promotes =
    Then (Asks (λ m. m.server.alive))
    (either (Says (λ _. line (codes "up"))) (Then (Asks (λ m. m.promoted)) promotes_unless))

-- the backup's disk is to fail
abbrev pub ArmsBackup : (calls : ℕ) → Pick → Part Machine
ArmsBackup calls pick = Does (λ _. stop_line backup_name calls pick) (λ m. arm_backup calls pick m.promoted m)

-- what was committed
abbrev pub Logs : Part Machine
Logs =
    Then (Asks (λ m. m.server.alive))
    (either (Says (λ m. log_text (names_in m) (labels_of m.server.durable))) (Says (λ _. line (codes "down"))))

-- ---- the events

-- what becomes of a transaction that conflicts, as an event says it, among these scripts
abbrev pub chosen : List Declared → Choice ℕ → OnConflict Declared
chosen scripts choices.Reexec = options.Reexec
chosen scripts (choices.Resolver script) = options.Resolver (script_at scripts script)
chosen scripts choices.Abort = options.Abort
chosen scripts choices.Manual = options.Manual

-- what a client does that is alive, among these scripts
abbrev pub task_part : List Declared → Task ℕ Profile → Try Pair (Unit {0})
task_part scripts (tasks.Run script option) = Runs (script_at scripts script) (chosen scripts option)
task_part scripts (tasks.Hoard path) = Hoards path
task_part scripts tasks.Refresh = Refreshes
task_part scripts (tasks.Walk profile limit) = Walks profile limit
task_part scripts (tasks.Begin script option) = BeginsAloud (script_at scripts script) (chosen scripts option)
task_part scripts (tasks.Step count transaction) = StepsAloud count transaction
task_part scripts (tasks.End transaction) = Ends transaction
task_part scripts tasks.Sync = SyncsOnce
task_part scripts tasks.Drain = Drains
task_part scripts (tasks.Repair script) = Repairs (script_at scripts script)
task_part scripts tasks.Discard = Discards
task_part scripts tasks.Queue = Queues
task_part scripts (tasks.Reads item) = ReadsOf item

-- what befalls a client's link
abbrev pub link_part : LinkEvent → Part Client
link_part links.Connect = Connects
link_part links.Disconnect = Disconnects
link_part (links.Lose loss) = Loses loss

-- what befalls its node
abbrev pub node_part : NodeEvent → Part Client
node_part nodes.Show = At node (Shows (λ state. tree_text (view state)))
node_part (nodes.Stop calls pick) = ArmsClient calls pick
node_part nodes.Crash = CrashesClient
node_part nodes.Restart = RestartsClient

abbrev pub client_part : List Declared → (client : ℕ) → ClientEvent ℕ Profile → Part Machine
client_part scripts c (client_events.Node what) = At (client_at c) (node_part what)
client_part scripts c (client_events.Link what) = At (client_at c) (link_part what)
client_part scripts c (client_events.Task what) = OfClient c (task_part scripts what)

-- what befalls the server
abbrev pub server_part : NodeEvent → Part Machine
server_part nodes.Show = At server (Shows (λ commits. tree_text (tree_after commits)))
server_part (nodes.Stop calls pick) = At server (ArmsDisk server_name calls pick)
server_part nodes.Crash = At server (Crashes server_name)
server_part nodes.Restart = RestartsServer

abbrev pub event_part : Event → Part Machine
event_part (events.Client name) = Declares name
event_part (events.Script name code) = Does (λ _. []) (declare_script (record { name = name; code = code }))
event_part (events.Profile name profile) = Nothing
event_part (events.At client what) = Then (Asks (λ m. m.scripts)) (λ scripts. client_part scripts client what)
event_part (events.Server what) = server_part what
event_part events.Promote = Promotes
event_part (events.StopBackup calls pick) = ArmsBackup calls pick
event_part events.Log = Logs
