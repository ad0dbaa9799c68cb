-- The machine's calls tell how they change the ledger.
use Rattle.std.proofs.Common.{◌≡◌, ℕ, ◌+◌, ◌*◌, Bool, true, false, List, [], ◌∷◌, ◌++◌, Option, Some, None}
use Rattle.std.proofs.Common.{slice_set, refl, sym, ap, subst, ◌∙◌, inl, inr, codes, not}
use Rattle.std.proofs.lemmas.List.{append-nil}
use Rattle.iot_tree.specs.Tree.{Nodes, Path}
use Rattle.iot_tree.specs.declared.acts.Act.{Act}
use Rattle.iot_tree.specs.declared.questions.Question.{Question}
use Rattle.iot_tree.specs.Profiles.{Profile}
use Rattle.iot_tree.specs.declared.want.Want.TheVariants as wanted
use Rattle.iot_event.specs.declared.event.LinkEvent.{LinkEvent}
use Rattle.iot_event.specs.declared.event.LinkEvent.TheVariants as links
use Rattle.iot_event.specs.declared.event.NodeEvent.{NodeEvent}
use Rattle.iot_event.specs.declared.event.NodeEvent.TheVariants as nodes
use Rattle.iot_event.specs.declared.event.Task.{Task}
use Rattle.iot_event.specs.declared.event.Task.TheVariants as tasks
use Rattle.iot_disk.specs.declared.disk.Pick.{Pick}
use Rattle.iot_link.specs.declared.passages.Passage.{Passage}
use Rattle.iot_link.specs.declared.passages.Passage.TheVariants as passages
use Rattle.iot_queue.specs.declared.items.Item as queue
use Rattle.iot_machine.specs.Calls.{Call, Try, Gets, Asks, Answers, Tells, Then, Goes, At}
use Rattle.iot_machine.specs.Clients as stages
use Rattle.iot_machine.specs.Clients.{Declared, Stage, Item, Running, ClientState, Next, AtEnd, AtLimit}
use Rattle.iot_machine.specs.Clients.{Acts, Fetches, Plan, new_client, view, so_far, numbered}
use Rattle.iot_machine.specs.Machine.{Commit, Client, Pair, its_client, its_server, node, kept, is_first, break_link, add_commit, script_at}
use Rattle.iot_machine.specs.Nodes.{Node, changed}
use Rattle.iot_machine.specs.Options as options
use Rattle.iot_machine.specs.Options.{OnConflict}
use Rattle.iot_machine.specs.Serving.{Submission, Verdict, Settled, Conflict, Errand, Lends, Judges, judged, Certifies, holds, conflicts, Commits}
use Rattle.iot_machine.specs.Serving as errands
use Rattle.iot_machine.specs.Serving.{committed, commit_text, server_name}
use Rattle.iot_machine.specs.Stops.{Appends, OpensNode, ComesBack, Crashes, ArmsDisk}
use Rattle.iot_machine.specs.Texts.{line, transaction_name, stopped_line, lose_line, cut_line, fetch_line, settled_line, conflict_line}
use Rattle.iot_machine.specs.Texts.{again_line, resolve_line, pending_line, hoard_line, refresh_line, walk_line, begin_line, step_line, repair_line}
use Rattle.iot_machine.specs.Texts.{reads_text, acts_output}
use Rattle.iot_machine.specs.Transactions as transactions
use Rattle.iot_machine.specs.Transactions.{Writes, Notes, unless_stopped, counted, Handles, received, exchange_by, Exchange}
use Rattle.iot_machine.specs.Transactions.{Refuses, IfIdle, IfRoom, IfNonePends, if_runs, IfRuns, Holds, took}
use Rattle.iot_machine.specs.Transactions.{Takes, Starts, starts_if, Begins, step_by, step_of, Steps, yield_if, Yields}
use Rattle.iot_machine.specs.Transactions.{Synced, Moved, Stays, Unanswered}
use Rattle.iot_machine.specs.Transactions.{NotesAloud, conflicted, told, resolved_on, resolves, Resolves, sync_at, sync_head, Syncs}
use Rattle.iot_machine.specs.Transactions.{moves, sync_if, SyncsAll, is_manual, if_manual, IfManual, Ended, waits_unless, syncs_or_waits}
use Rattle.iot_machine.specs.Transactions.{waits, joins, ended_of, Compared, Same, Differs, Compares, ends_by, certifies, end_by, Ends}
use Rattle.iot_machine.specs.Transactions.{item_name, next_of}
use Rattle.iot_machine.specs.Events.{Hoards, Refreshes, Walks, said_of, BeginsAloud, place_text, StepsAloud, run_steps, runs_through, Runs, Drains}
use Rattle.iot_machine.specs.Events.{Repairs, Discards, running_in, Queues, chosen, task_part, says_reads, ReadsOf, IfUp, FindsLongest}
use Rattle.iot_machine.specs.Events.{cuts_off, CutsOff, no_text, comes_back, RestartsClient, link_part, node_part}
use Rattle.iot_machine.specs.Recorded.{queue_kept}
use Rattle.iot_lasting.specs.Ledger.{Row, Ledger, row_of, row_at, IsNode, IsTransaction}
use Rattle.iot_lasting.specs.Sayings as forms
use Rattle.iot_lasting.specs.Sayings.{IsAmong, answer_words, node_words, transaction_words}
use Rattle.iot_lasting.specs.Telling.{CommitSaid}
use Rattle.iot_lasting.proofs.LedgerLaws.{Told, told_then, told_nothing, told_piece, told_other, name_set, server_stops, client_stops}
use Rattle.iot_lasting.proofs.TellsLaws.{TellsTo, Telling, gets_told, asks_told, answers_told, does_told, says_told, tells_told, then_told}
use Rattle.iot_lasting.proofs.TellsLaws.{asks_then, either_told, goes_told, repeats_told, whole_told, or_says_told, opens_told, arms_told}
use Rattle.iot_lasting.proofs.TellsLaws.{crashes_told, shows_told, appends_told, comes_told, silent, among, told_word}

-- ---- the server, among clients with these rows

module _ (rows : List Row) where
  abbrev pub server_book : Node (List Commit) → Ledger
  server_book node = record { stops = node.stops; clients = rows; commits = node.durable }

  abbrev CommitsTold : List ℕ → Commit → Type 0
  CommitsTold name commit = (node n : Node (List Commit)) (text : List ℕ) (verdict : Option Verdict)
      → Commits name commit node text verdict n → Told (server_book node) text (server_book n)

  commits_told : (name : List ℕ) (commit : Commit) → name ≡ transaction_name (row_at rows commit.entry.client).name commit.entry.number
      → CommitsTold name commit
  commits_told name commit named node n text verdict step =
      by_append step.second.answer step.second.first
      (subst (λ (said : List ℕ). committed said step.second.answer step.second.mid step.second.rest verdict n) step.first.1
      step.second.second)
    where
      said : List ℕ
      said = commit_text name commit node.durable

      starts : text ≡ step.second.front ++ step.second.rest
      starts = step.whole ∙ ap (λ (front : List ℕ). front ++ step.rest) step.first.0 ∙ step.second.whole

      says : Told (server_book node) said (server_book (changed (add_commit commit) node))
      says = rw named (told_piece (server_book node) (CommitSaid commit) tt)

      by_append : (on : Bool) → Appends server_name (add_commit commit) step.mid step.second.front on step.second.mid
          → committed said on step.second.mid step.second.rest verdict n → Told (server_book node) text (server_book n)
      by_append true (inl went) tail =
          let all : text ≡ said = starts ∙ ap (λ (front : List ℕ). front ++ step.second.rest) went.0 ∙ tail.whole
          ∙ ap (λ (front : List ℕ). front ++ tail.rest) tail.first.0 ∙ ap (λ (rest : List ℕ). said ++ rest) tail.second.0
          ∙ append-nil said in
          let is : n ≡ changed (add_commit commit) node =
          tail.second.2 ∙ tail.first.1 ∙ went.2 ∙ ap (changed (add_commit commit)) step.first.2 in
          rw (all, is) says
      by_append true (inr stopped) tail = absurd cc
      by_append false (inl went) tail = absurd cc
      by_append false (inr stopped) tail =
          let all : text ≡ stopped_line server_name = starts ∙ ap (λ (front : List ℕ). front ++ step.second.rest) stopped.0
          ∙ ap (λ (rest : List ℕ). stopped_line server_name ++ rest) tail.0 ∙ append-nil (stopped_line server_name) in
          rw (all, tail.2, stopped.2.is, step.first.2) (server_stops rows node.durable node.stops)

  -- it has its client's name
  abbrev pub IsNamed : Submission → Type 0
  IsNamed it = it.name ≡ transaction_name (row_at rows it.commit.entry.client).name it.commit.entry.number

  pub judges_told : (it : Submission) → IsNamed it → Telling server_book (λ _. Unit {0}) (Judges it)
  judges_told it named = asks_then by_number
    where
      certifies : (node n : Node (List Commit)) (text : List ℕ) (verdict : Option Verdict) → Certifies it node text verdict n
          → Told (server_book node) text (server_book n)
      certifies node n text verdict (holds reads commits) = commits_told it.name it.commit named node n text verdict commits
      certifies node n text verdict (conflicts parts nothing stays) =
          rw (nothing, stays) (told_nothing (server_book node) (server_book node) refl)

      by_number : (number : Option ℕ) → Telling server_book (λ _. Unit {0}) (judged it number)
      by_number (Some number) = answers_told
      by_number None = record { at = λ node n text verdict here step. (certifies node n text verdict step, tt) }

-- ---- the client at this place, among others with these rows

module _ (rows : List Row) (c : ℕ) where
  -- it has its name
  abbrev pub IsHere : Client → Type 0
  IsHere client = client.name ≡ (row_at rows c).name

  abbrev pub rows_with : Client → List Row
  rows_with client = slice_set rows c (row_of client)

  -- beside a server that has stopped so often, with these commits
  module _ (stops : ℕ) (commits : List Commit) where
    abbrev pub client_book : Client → Ledger
    client_book client = record { stops = stops; clients = rows_with client; commits = commits }

    abbrev tell : List ℕ → ClientState → ℕ → Ledger
    tell name s k = record { stops = stops; clients = slice_set rows c (record { name = name; stops = k }); commits = commits }

    stopping : (client : Client) → IsHere client → (s : ClientState) (k : ℕ)
        → Told (tell client.name s k) (stopped_line client.name) (tell client.name s (k + 1))
    stopping client here s k = client_stops rows c k client.name stops commits here

    -- its name is in the ledger
    is_node : (client : Client) → IsHere client → IsNode (client_book client) client.name
    is_node client here = record { who = Some c; is = sym (name_set rows c (row_of client) here) }

    is_named : (client : Client) → IsHere client → (s : ClientState) (k : ℕ) → IsNode (tell client.name s k) client.name
    is_named client here s k =
        record { who = Some c; is = sym (name_set rows c (record { name = client.name; stops = k }) here) }

    -- and so are those of its transactions
    is_transaction : (client : Client) → IsHere client → (number : ℕ)
        → IsTransaction (client_book client) (transaction_name client.name number)
    is_transaction client here number = record {
      client = c;
      number = number;
      is = ap (λ (name : List ℕ). transaction_name name number) (sym (name_set rows c (row_of client) here));
    }

    abbrev pub TellingOf : {A : Type 0} → Call Client A → Type 0
    TellingOf call = Telling client_book IsHere call

    -- a call of its node, which may go by its name
    abbrev pub TellsNode : {A : Type 0} → (List ℕ → Call (Node ClientState) A) → Type 0
    TellsNode {A} call = (client : Client) → IsHere client → (n : Node ClientState) (text : List ℕ) (a : A)
        → call client.name client.node text a n
        → Told (client_book client) text (client_book (record client { node = n }))

    pub on_node : {A : Type 0} (call : List ℕ → Call (Node ClientState) A) → TellsNode call → (name : List ℕ)
        → TellsTo client_book (λ client. IsHere client × (name ≡ client.name)) (At node (call name)) (λ _. IsHere)
    on_node call each name = record {
      at = λ client n text a here step. rw step.is (
        each client here.0 step.inner text a
            (subst (λ (name : List ℕ). call name client.node text a step.inner) here.1 step.step),
        here.0,
      );
    }

    pub writes_told : (change : ClientState → ClientState) → TellingOf (Writes change)
    writes_told change = record {
      at = λ client n text on here step. rw step.is (
        appends_told client.name (tell client.name) (is_named client here) (stopping client here) (λ s other k. refl) change client.node
            step.inner text on step.step,
        here,
      );
    }

    -- its name is asked for
    named : {B : Type 0} {next : List ℕ → Call Client B}
        → ((name : List ℕ) → TellsTo client_book (λ client. IsHere client × (name ≡ client.name)) (next name) (λ _. IsHere))
        → TellingOf (Then (Asks (λ client. client.name)) next)
    named each =
        then_told {Q = λ name client. IsHere client × (name ≡ client.name)} (asks_told (λ client here. (here, refl))) each

    comes_node : TellsNode (λ name. ComesBack name no_text)
    comes_node client here n text on step =
        comes_told client.name (tell client.name) (is_named client here) (stopping client here) (λ s other k. refl) no_text
        (λ s other. refl) client.node n text on step

    pub opens_node : TellsNode OpensNode
    opens_node client here n text on step =
        opens_told client.name (tell client.name) (is_named client here) (stopping client here) client.node n text on step

    crashes_node : TellsNode Crashes
    crashes_node client here n text a step =
        crashes_told client.name (tell client.name) (is_named client here) (stopping client here) client.node n text a step

    arms_node : (calls : ℕ) (pick : Pick) → TellsNode (λ name. ArmsDisk name calls pick)
    arms_node calls pick client here n text a step =
        arms_told client.name (tell client.name) (is_named client here) (stopping client here) calls pick client.node n text a step

    -- a line that the client says of itself
    says_of : (client : Client) → IsHere client → (word : List ℕ) → IsAmong node_words word
        → Told (client_book client) (line (word ++ client.name)) (client_book client)
    says_of client here word is = told_other (client_book client) _ (forms.of_node word client.name is (is_node client here) refl)

    pub does_link : (what : LinkEvent) → TellingOf (link_part what)
    does_link links.Connect = does_told (λ client here. (
      says_of client here (codes "connect ") (among 3 refl),
      here,
    ))
    does_link links.Disconnect = does_told (λ client here. (
      says_of client here (codes "disconnect ") (among 4 refl),
      here,
    ))
    does_link (links.Lose loss) = does_told (λ client here. (
      told_other (client_book client) (lose_line client.name loss) (forms.lose client.name loss (is_node client here) refl),
      here,
    ))

    cuts : TellingOf CutsOff
    cuts = asks_then by_running
      where
        finds : (it : Running) → TellingOf (FindsLongest it)
        finds it = record {
          at = λ client n text acts here step. rw (step.0, step.2) (told_nothing (client_book client) (client_book client) refl, here);
        }

        says_cut : (it : Running) (acts : ℕ) (client : Client) → IsHere client
            → Told (client_book client) (cut_line (transaction_name client.name it.number) acts) (client_book client)
        says_cut it acts client here = told_other (client_book client) _
            (forms.cut (transaction_name client.name it.number) acts (is_transaction client here it.number) refl)

        by_running : (running : List Running) → TellingOf (cuts_off running)
        by_running [] = silent
        by_running (it ∷ running) = then_told (finds it) (λ acts. then_told (writes_told _)
            (either_told (then_told (says_told (says_cut it acts)) (λ _. by_running running)) silent))

    restarts : TellingOf RestartsClient
    restarts = asks_then by_alive
      where
        by_alive : (alive : Bool) → TellingOf (comes_back alive)
        by_alive true = says_told (λ client here. told_word (client_book client) (codes "up") (among 0 refl))
        by_alive false = named (λ name. then_told (on_node (λ name. ComesBack name no_text) comes_node name)
            (either_told cuts silent))

    pub does_node : (what : NodeEvent) → TellingOf (node_part what)
    does_node nodes.Show = record {
      at = λ client n text a here step. rw step.is (
        shows_told client.name (tell client.name) (is_named client here) (stopping client here) view client.node step.inner text a
            step.step,
        here,
      );
    }
    does_node (nodes.Stop calls pick) = named (on_node (λ name. ArmsDisk name calls pick) (arms_node calls pick))
    does_node nodes.Crash = named (on_node Crashes crashes_node)
    does_node nodes.Restart = restarts

  -- ---- the client with the server

  abbrev pub AtPlace : Pair → Type 0
  AtPlace pair = (pair.place ≡ c) × IsHere pair.client

  abbrev pub pair_book : Pair → Ledger
  pair_book pair = client_book pair.server.stops pair.server.durable pair.client

  abbrev pub TellingWith : {A : Type 0} → Call Pair A → Type 0
  TellingWith call = Telling pair_book AtPlace call

  -- the ledger stays, by a text which may go by the pair
  abbrev Says : (Pair → List ℕ) → Type 0
  Says text = (pair : Pair) → AtPlace pair → Told (pair_book pair) (text pair) (pair_book pair)

  tells : {A : Type 0} {text : Pair → List ℕ} {a : A} → Says text → TellingWith (Tells text a)
  tells says = tells_told says

  one_word : (word : List ℕ) → IsAmong answer_words word → Says (λ _. line word)
  one_word word is pair at = told_word (pair_book pair) word is

  refuses : {A : Type 0} (word : List ℕ) → IsAmong answer_words word → TellingWith {A = Option A} (Refuses word)
  refuses word is = tells (one_word word is)

  -- the client's name, and those of its transactions, which stay
  node_here : (pair : Pair) → AtPlace pair → IsNode (pair_book pair) pair.client.name
  node_here pair at = is_node pair.server.stops pair.server.durable pair.client at.1

  transaction_here : (pair : Pair) → AtPlace pair → (number : ℕ)
      → IsTransaction (pair_book pair) (transaction_name pair.client.name number)
  transaction_here pair at number = is_transaction pair.server.stops pair.server.durable pair.client at.1 number

  record IsOwnName (tid : List ℕ) : Type 0 where
    number : ℕ
    is : tid ≡ transaction_name (row_at rows c).name number

  own_name : (pair : Pair) → AtPlace pair → (number : ℕ) → IsOwnName (transaction_name pair.client.name number)
  own_name pair at number =
      record { number = number; is = ap (λ (name : List ℕ). transaction_name name number) at.1 }

  own_here : (tid : List ℕ) → IsOwnName tid → (pair : Pair) → AtPlace pair → IsTransaction (pair_book pair) tid
  own_here tid own pair at = subst (IsTransaction (pair_book pair))
      (ap (λ (name : List ℕ). transaction_name name own.number) at.1 ∙ sym own.is) (transaction_here pair at own.number)

  -- a line of one word and the name of a transaction
  of_own : (word tid : List ℕ) → IsAmong transaction_words word → IsOwnName tid → Says (λ _. line (word ++ tid))
  of_own word tid is own pair at =
      told_other (pair_book pair) (line (word ++ tid)) (forms.of_transaction word tid is (own_here tid own pair at) refl)

  -- a fact that holds whatever the pair is
  knowing : {A : Type 0} {X : Type 0} {call : Call Pair A} → (X → TellingWith call)
      → TellsTo pair_book (λ pair. X × AtPlace pair) call (λ _. AtPlace)
  knowing each = record { at = λ pair n text a here step. (each here.0).at pair n text a here.1 step }

  answers : {A : Type 0} (a : A) → TellingWith (Answers a)
  answers a = answers_told

  -- whatever becomes of the link, the class and the number of requests
  others : {A : Type 0} {ask : Pair → A} {change : Pair → Pair}
      → ((pair : Pair) → AtPlace pair → (pair_book (change pair) ≡ pair_book pair) × AtPlace (change pair)) → TellingWith (Gets ask change)
  others f = gets_told f

  notes : (change : ClientState → ClientState) → TellingWith (Notes change)
  notes change = then_told (record { at = by_step }) (λ on. answers (unless_stopped on))
    where
      by_step : (pair n : Pair) (text : List ℕ) (on : Bool) → AtPlace pair → At its_client (Writes change) pair text on n
          → Told (pair_book pair) text (pair_book n) × AtPlace n
      by_step pair n text on at step =
          let it : Told (pair_book pair) text (client_book pair.server.stops pair.server.durable step.inner) × IsHere step.inner =
          (writes_told pair.server.stops pair.server.durable change).at pair.client step.inner text on at.1 step.step in
          rw step.is (it.0, (at.0, it.1))

  -- what a request tells among all clients
  abbrev TellsRequest : {A : Type 0} → Call (Node (List Commit)) (Option A) → Type 0
  TellsRequest request = (pair : Pair) → AtPlace pair → Telling (server_book (rows_with pair.client)) (λ _. Unit {0}) request

  exchanges : {A : Type 0} {request : Call (Node (List Commit)) (Option A)} → TellsRequest request → TellingWith (Exchange request)
  exchanges {A} {request} each = asks_then by_passage
    where
      by_step : (pair n : Pair) (text : List ℕ) (a : Option A) → AtPlace pair → At its_server request pair text a n
          → Told (pair_book pair) text (pair_book n) × AtPlace n
      by_step pair n text a at step = rw step.is (
        ((each pair at).at pair.server step.inner text a tt step.step).0,
        at,
      )

      counts : (answer : Option A) → TellingWith (counted answer)
      counts None = answers None
      counts (Some a) = others (λ pair at. (refl, at))

      handled : TellingWith (Handles request)
      handled = then_told (record { at = by_step }) counts

      breaks : TellingWith (Gets {A = Option A} (λ _. None) break_link)
      breaks = others (λ pair at. (refl, at))

      receives : (answer : Option A) → TellingWith (received answer)
      receives None = breaks
      receives (Some a) = answers (Some a)

      by_passage : (passage : Passage) → TellingWith (exchange_by request passage)
      by_passage passages.Away = others (λ pair at. (refl, at))
      by_passage passages.RequestLost = breaks
      by_passage passages.ReplyLost = then_told handled (λ _. breaks)
      by_passage passages.Both = then_told handled receives

  lends : (held : Nodes) (errand : Errand) → TellingWith (Exchange (Lends held errand))
  lends held errand = exchanges (λ pair at. gets_told (λ node here. (refl, tt)))

  -- a transaction of this client
  record IsOwn (it : Submission) : Type 0 where
    client : it.commit.entry.client ≡ c
    name : it.name ≡ transaction_name (row_at rows c).name it.commit.entry.number

  judges : (it : Submission) → IsOwn it → TellingWith (Exchange (Judges it))
  judges it own = exchanges (λ pair at. judges_told (rows_with pair.client) it (by_name pair at))
    where
      by_name : (pair : Pair) → AtPlace pair → IsNamed (rows_with pair.client) it
      by_name pair at = own.name ∙ ap (λ (name : List ℕ). transaction_name name it.commit.entry.number)
          (sym at.1 ∙ sym (name_set rows c (row_of pair.client) at.1)
          ∙ ap (λ (k : ℕ). (row_at (rows_with pair.client) k).name) (sym own.client))

  -- ---- tests

  if_idle : {A : Type 0} {call : Try Pair A} → TellingWith call → TellingWith (IfIdle call)
  if_idle call = asks_then (either_told (refuses (codes "busy") (among 2 refl)) call)

  if_room : {A : Type 0} {call : Try Pair A} → TellingWith call → TellingWith (IfRoom call)
  if_room call = asks_then (either_told (refuses (codes "busy") (among 2 refl)) call)

  if_none_pends : {A : Type 0} {call : Try Pair A} → TellingWith call → TellingWith (IfNonePends call)
  if_none_pends call = asks_then (either_told (refuses (codes "pending") (among 4 refl)) call)

  if_running : {A : Type 0} (which : Option ℕ) {call : Running → Try Pair A} → ((it : Running) → TellingWith (call it))
      → TellingWith (IfRuns which call)
  if_running which {call = call} each = asks_then by_running
    where
      by_running : (running : Option Running) → TellingWith (if_runs call running)
      by_running None = refuses (codes "idle") (among 3 refl)
      by_running (Some it) = each it

  by_hand : {A : Type 0} {call : Item → Try Pair A} → ((item : Item) → TellingWith (call item)) → TellingWith (IfManual call)
  by_hand {call = call} each = asks_then by_items
    where
      by_items : (items : List Item) → TellingWith (if_manual call items)
      by_items [] = refuses (codes "nothing") (among 5 refl)
      by_items (item ∷ items) =
          either_told (each item) (refuses (codes "not manual") (among 7 refl)) (is_manual item.stage)

  -- one after the other, unless the event is over
  goes : {A B : Type 0} {one : Try Pair A} {next : A → Try Pair B} → TellingWith one → ((a : A) → TellingWith (next a))
      → TellingWith (Goes one next)
  goes one next = goes_told one next

  -- ---- objects

  brings_and_holds : (change : Nodes → ClientState → ClientState) (errand : Errand) → TellingWith (Holds change errand)
  brings_and_holds change errand = then_told (asks_then (λ held. lends held errand)) by_answer
    where
      by_answer : (answer : Option Nodes) → TellingWith (transactions.holds change answer)
      by_answer None = answers (Some false)
      by_answer (Some t) = goes (notes _) (λ _. answers (Some true))

  takes : (errand : Errand) → TellingWith (Takes errand)
  takes errand = if_idle (if_none_pends (goes (brings_and_holds _ errand) by_came))
    where
      by_came : (came : Bool) → TellingWith (took came)
      by_came true = answers (Some tt)
      by_came false = refuses (codes "away") (among 6 refl)

  -- ---- begin and steps

  begins : (script : Declared) (option : OnConflict Declared) → TellingWith (Begins script option)
  begins script option = if_room (asks_then by_pending)
    where
      starts : (first : Bool) → TellingWith (Starts script option first)
      starts first = asks_then (λ number. goes (notes _) (λ _. others (λ pair at. (refl, at))))

      by_pending : (pends : Bool) → TellingWith (starts_if script option pends)
      by_pending true = starts false
      by_pending false = goes (brings_and_holds _ (errands.Refresh wanted.Nothing)) starts

  yields : (number : ℕ) → TellingWith (Yields number)
  yields number = does_told (λ pair at. by_pending (transactions.pends pair) pair at)
    where
      by_pending : (pends : Bool) (pair : Pair) → AtPlace pair
          → Told (pair_book pair) [] (pair_book (yield_if number pends pair)) × AtPlace (yield_if number pends pair)
      by_pending true pair at = (told_nothing (pair_book pair) (pair_book pair) refl, at)
      by_pending false pair at = (told_nothing (pair_book pair) (pair_book pair) refl, at)

  steps : (number : ℕ) (loud : Bool) → TellingWith (Steps number loud)
  steps number loud = then_told (yields number) (λ _. asks_then by_running)
    where
      says_fetch : (path : Path) (away : Bool) → Says (λ _. fetch_line path away)
      says_fetch path away pair at = told_other (pair_book pair) (fetch_line path away) (forms.fetch path away refl)

      by_next : (next : Next) → TellingWith (step_by number loud next)
      by_next AtEnd = answers (Some false)
      by_next AtLimit = answers (Some false)
      by_next Acts = goes (notes _) (λ _. answers (Some true))
      by_next (Fetches path) = goes (brings_and_holds _ (errands.Refresh (wanted.Path path)))
          (λ came. either_told (tells (says_fetch path (not came))) (answers (Some _)) loud)

      by_running : (running : Option Running) → TellingWith (step_of number loud running)
      by_running None = answers (Some false)
      by_running (Some it) = asks_then by_next

  -- ---- syncs

  nothing_came : Says (λ _. line (codes "away"))
  nothing_came = one_word (codes "away") (among 6 refl)

  aloud : (change : ClientState → ClientState) (text : List ℕ) (synced : Synced) → Says (λ _. text)
      → TellingWith (NotesAloud change text synced)
  aloud change text synced says = goes (notes _) (λ _. tells says)

  by_verdict : (name : List ℕ) → IsOwnName name → (option : OnConflict Declared) (verdict : Option Verdict)
      → TellingWith (transactions.told name option verdict)
  by_verdict name own option None = tells nothing_came
  by_verdict name own option (Some (Settled number)) = aloud _ _ _ (λ pair at.
      told_other (pair_book pair) (settled_line name number) (forms.settled name number (own_here name own pair at) refl))
  by_verdict name own option (Some (Conflict read question)) = by_option option
    where
      says_conflict : Says (λ _. conflict_line name read question)
      says_conflict pair at = told_other (pair_book pair) (conflict_line name read question)
          (forms.conflict name read question (own_here name own pair at) refl)

      -- and what becomes of it
      then_says : (word : List ℕ) → IsAmong transaction_words word → Says (λ _. conflict_line name read question ++ line (word ++ name))
      then_says word is pair at = told_then (pair_book pair) (pair_book pair) (pair_book pair) (conflict_line name read question)
          (line (word ++ name)) (conflict_line name read question ++ line (word ++ name)) refl (says_conflict pair at)
          (of_own word name is own pair at)

      by_option : (option : OnConflict Declared) → TellingWith (conflicted name (conflict_line name read question) option)
      by_option options.Abort = aloud _ _ _ (then_says (codes "abort ") (among 2 refl))
      by_option options.Manual = aloud _ _ _ (then_says (codes "manual ") (among 3 refl))
      by_option options.Reexec = aloud _ _ _ says_conflict
      by_option (options.Resolver script) = aloud _ _ _ says_conflict

  submits : (item : Item) → TellingWith (transactions.Submits item)
  submits item = then_told {Q = λ it pair. IsOwn it × AtPlace pair}
      (asks_told (λ pair at. (
        record { client = at.0; name = ap (λ (name : List ℕ). transaction_name name item.number) at.1 },
        at,
      )))
      (λ it. knowing (submitted it))
    where
      submitted : (it : Submission) → IsOwn it → TellingWith (transactions.submits item.option it)
      submitted it own = then_told (judges it own)
          (by_verdict it.name (record { number = it.commit.entry.number; is = own.name }) item.option)

  is_resolved : (item : Item) → TellingWith (Resolves item)
  is_resolved item = then_told {Q = λ name pair. IsOwnName name × AtPlace pair}
      (asks_told (λ pair at. (own_name pair at item.number, at)))
      (λ name. knowing (λ own. asks_then (by_plan name own)))
    where
      by_answer : (name : List ℕ) → IsOwnName name → (plan : Plan) (answer : Option Nodes) → TellingWith (resolved_on name plan answer)
      by_answer name own plan None = tells nothing_came
      by_answer name own plan (Some t) = aloud _ _ _ (λ pair at.
          told_other (pair_book pair) (resolve_line name plan.said) (forms.resolve name plan.said (own_here name own pair at) refl))

      by_plan : (name : List ℕ) → IsOwnName name → (plan : Option Plan) → TellingWith (resolves name plan)
      by_plan name own None = answers (Some Unanswered)
      by_plan name own (Some plan) = then_told (lends new_client.held (errands.Refresh (wanted.Below []))) (by_answer name own plan)

  syncs : TellingWith Syncs
  syncs = asks_then by_items
    where
      by_stage : (item : Item) (stage : Stage) → TellingWith (sync_at item stage)
      by_stage item stages.Waiting = submits item
      by_stage item (stages.Resolved it) = submits item
      by_stage item stages.Conflict = is_resolved item
      by_stage item stages.Manual = tells (λ pair at.
          of_own (codes "manual ") (item_name item pair) (among 3 refl) (own_name pair at item.number) pair at)

      by_items : (items : List Item) → TellingWith (sync_head items)
      by_items [] = tells (one_word (codes "nothing") (among 5 refl))
      by_items (item ∷ items) = by_stage item item.stage

  syncs_all : TellingWith SyncsAll
  syncs_all = asks_then (λ n. repeats_told (asks_then by_pending) (3 * n))
    where
      by_pending : (pends : Bool) → TellingWith (sync_if pends)
      by_pending true = goes syncs (λ synced. answers (Some (moves synced)))
      by_pending false = answers (Some false)

  -- ---- a client's events

  -- what is known of one that ends
  record IsEnded (gone : Ended) : Type 0 where
    name : IsOwnName gone.name
    acts : List Act
    printed : gone.printed ≡ acts_output acts

  ended : (pair : Pair) → AtPlace pair → (it : Running) → IsEnded (ended_of it pair)
  ended pair at it =
      record { name = own_name pair at it.number; acts = (so_far it).acts; printed = refl }

  compares : (it : Running) → TellingWith (Compares it)
  compares it = record { at = λ pair n text found at step. by_step pair n text found at step }
    where
      same_pair : (pair n : Pair) (text : List ℕ) → AtPlace pair → text ≡ [] → n ≡ pair
          → Told (pair_book pair) text (pair_book n) × AtPlace n
      same_pair pair n text at said is = rw (said, is) (told_nothing (pair_book pair) (pair_book pair) refl, at)

      by_step : (pair n : Pair) (text : List ℕ) (found : Compared) → AtPlace pair → Compares it pair text found n
          → Told (pair_book pair) text (pair_book n) × AtPlace n
      by_step pair n text found at (transactions.same is said answer stays) = same_pair pair n text at said stays
      by_step pair n text found at (transactions.parts read question differ said answer stays) = same_pair pair n text at said stays

  ends : (which : Option ℕ) → TellingWith (Ends which)
  ends which = if_running which (λ it. asks_then (by_next it))
    where
      says_waits : (gone : Ended) → IsEnded gone → TellingWith (waits gone)
      says_waits gone is = tells (λ pair at. told_then (pair_book pair) (pair_book pair) (pair_book pair) (pending_line gone.name)
          gone.printed (pending_line gone.name ++ gone.printed) refl
          (of_own (codes "pending ") gone.name (among 1 refl) is.name pair at)
          (told_other (pair_book pair) gone.printed (forms.output is.acts is.printed)))

      by_synced : (gone : Ended) → IsEnded gone → (synced : Synced) → TellingWith (waits_unless gone synced)
      by_synced gone is Unanswered = says_waits gone is
      by_synced gone is Moved = answers (Some tt)
      by_synced gone is Stays = answers (Some tt)

      by_class : (gone : Ended) → IsEnded gone → (first : Bool) → TellingWith (syncs_or_waits gone first)
      by_class gone is true = goes syncs (by_synced gone is)
      by_class gone is false = says_waits gone is

      queues : (gone : Ended) → IsEnded gone → TellingWith (joins gone)
      queues gone is = goes (notes _) (λ _.
          then_told (says_told (of_own (codes "end ") gone.name (among 0 refl) is.name))
          (λ _. by_class gone is gone.first))

      says_again : (gone : Ended) → IsEnded gone → (read : ℕ) (question : Question) → Says (λ _. again_line gone.name read question)
      says_again gone is read question pair at = told_other (pair_book pair) (again_line gone.name read question)
          (forms.again gone.name read question (own_here gone.name is.name pair at) refl)

      by_found : (gone : Ended) → IsEnded gone → (found : Compared) → TellingWith (ends_by gone found)
      by_found gone is Same = queues gone is
      by_found gone is (Differs read question) = goes (notes _) (λ _. tells (says_again gone is read question))

      ends_it : (it : Running) → TellingWith (certifies it)
      ends_it it = then_told (yields it.number) (λ _. then_told {Q = λ gone pair. IsEnded gone × AtPlace pair}
          (asks_told (λ pair at. (ended pair at it, at)))
          (λ gone. knowing (λ is. then_told (compares it) (by_found gone is))))

      by_next : (it : Running) (next : Next) → TellingWith (end_by it next)
      by_next it AtEnd = ends_it it
      by_next it AtLimit = ends_it it
      by_next it Acts = refuses (codes "not at end") (among 8 refl)
      by_next it (Fetches path) = refuses (codes "not at end") (among 8 refl)

  hoards : (path : Path) → TellingWith (Hoards path)
  hoards path = goes (takes (errands.Refresh (wanted.Below path))) (λ _. tells (λ pair at. told_other (pair_book pair) (hoard_line pair.client.name path)
      (forms.hoard pair.client.name path (node_here pair at) refl)))

  refreshes : TellingWith Refreshes
  refreshes = goes (takes (errands.Refresh wanted.Nothing)) (λ _. tells (λ pair at. told_other (pair_book pair) (refresh_line pair.client.name)
      (forms.of_node (codes "refresh ") pair.client.name (among 5 refl) (node_here pair at) refl)))

  walks : (profile : Profile) (limit : ℕ) → TellingWith (Walks profile limit)
  walks profile limit = goes (takes (errands.Walk profile limit)) (λ _. tells (λ pair at.
      told_other (pair_book pair) (walk_line pair.client.name (kept pair).held)
      (forms.walk pair.client.name (kept pair).held (node_here pair at) refl)))

  -- of the transaction with this number, if it runs
  says_running : (number : ℕ) (text : Pair → Running → List ℕ) → ((it : Running) → Says (λ pair. text pair it))
      → Says (λ pair. said_of (text pair) (numbered number (kept pair)))
  says_running number text each pair at = by_running (numbered number (kept pair))
    where
      by_running : (running : Option Running) → Told (pair_book pair) (said_of (text pair) running) (pair_book pair)
      by_running None = told_nothing (pair_book pair) (pair_book pair) refl
      by_running (Some it) = each it pair at

  begins_aloud : (script : Declared) (option : OnConflict Declared) → TellingWith (BeginsAloud script option)
  begins_aloud script option = goes (begins script option) (λ number. tells (says_running number
      (λ pair it. begin_line (transaction_name pair.client.name number) it.script.name (is_first number pair.client))
      (λ it pair at. told_other (pair_book pair) _
      (forms.begin (transaction_name pair.client.name number) it.script.name (is_first number pair.client)
      (transaction_here pair at number) refl))))

  steps_aloud : (most : ℕ) (which : Option ℕ) → TellingWith (StepsAloud most which)
  steps_aloud most which = if_running which (λ it. goes (repeats_told (steps it.number true) most) (λ _. tells (says_running it.number
      (λ pair now. step_line (transaction_name pair.client.name it.number) now.acts (place_text (next_of now pair)))
      (λ now pair at. told_other (pair_book pair) _
      (forms.step (transaction_name pair.client.name it.number) now.acts (next_of now pair) (transaction_here pair at it.number)
      refl)))))

  runs_it : (script : Declared) (option : OnConflict Declared) → TellingWith (Runs script option)
  runs_it script option = if_room (asks_then (λ up. goes (either_told syncs_all (answers (Some tt)) up) (λ _.
      goes (begins script option) through)))
    where
      through : (number : ℕ) → TellingWith (runs_through number)
      through number = goes (repeats_told (steps number false) run_steps) (λ _. ends (Some number))

  drains : TellingWith Drains
  drains = or_says_told (λ l. told_word l (codes "nothing") (among 5 refl))
      (goes syncs_all (λ _. asks_then (either_told refreshes (answers (Some tt)))))

  repairs : (script : Declared) → TellingWith (Repairs script)
  repairs script = by_hand (λ item. goes (notes _) (λ _. tells (λ pair at.
      told_other (pair_book pair) (repair_line (item_name item pair) script.name)
      (forms.repair (item_name item pair) script.name (transaction_here pair at item.number) refl))))

  discards : TellingWith Discards
  discards = by_hand (λ item. goes (notes _) (λ _. tells (λ pair at.
      of_own (codes "discard ") (item_name item pair) (among 4 refl) (own_name pair at item.number) pair at)))

  queues : TellingWith Queues
  queues = tells (λ pair at. told_other (pair_book pair) _ (forms.queue pair.client.name (queue_kept (kept pair))
      (running_in pair.client) (node_here pair at) refl))

  reads_of : (place : ℕ) → TellingWith (ReadsOf place)
  reads_of place = asks_then by_item
    where
      by_item : (item : Option queue.Item) → TellingWith (says_reads item)
      by_item None = refuses (codes "nothing") (among 5 refl)
      by_item (Some item) = tells (λ pair at. told_other (pair_book pair) (reads_text item) (forms.reads item refl))

  does_task : (scripts : List Declared) (task : Task ℕ Profile) → TellingWith (task_part scripts task)
  does_task scripts (tasks.Run script option) = runs_it (script_at scripts script) (chosen scripts option)
  does_task scripts (tasks.Hoard path) = hoards path
  does_task scripts tasks.Refresh = refreshes
  does_task scripts (tasks.Walk profile limit) = walks profile limit
  does_task scripts (tasks.Begin script option) = begins_aloud (script_at scripts script) (chosen scripts option)
  does_task scripts (tasks.Step count transaction) = steps_aloud count transaction
  does_task scripts (tasks.End transaction) = ends transaction
  does_task scripts tasks.Sync = goes syncs (λ _. answers (Some tt))
  does_task scripts tasks.Drain = drains
  does_task scripts (tasks.Repair script) = repairs (script_at scripts script)
  does_task scripts tasks.Discard = discards
  does_task scripts tasks.Queue = queues
  does_task scripts (tasks.Reads item) = reads_of item

  pub if_up : (scripts : List Declared) (task : Task ℕ Profile) → TellingWith (IfUp (task_part scripts task))
  if_up scripts task = asks_then (either_told (whole_told (does_task scripts task))
      (says_told (one_word (codes "down") (among 1 refl))))
