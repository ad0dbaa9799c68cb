-- Each event tells what it changes, and so does each transcript.
use Rattle.std.proofs.Common.{◌≡◌, ℕ, ◌+◌, Bool, true, false, List, [], ◌∷◌, Option, Some, None, inl, inr, length, map}
use Rattle.std.proofs.Common.{slice_index_or, slice_set, refl, sym, ap, ◌∙◌, codes}
use Rattle.std.proofs.lemmas.List.{append-nil}
use Rattle.std.specs.Prelude.{IfSome}
use Rattle.iot_event.specs.declared.event.ClientEvent.{ClientEvent}
use Rattle.iot_event.specs.declared.event.ClientEvent.TheVariants as client_events
use Rattle.iot_event.specs.declared.event.Event.{Event}
use Rattle.iot_event.specs.declared.event.Event.TheVariants as events
use Rattle.iot_event.specs.declared.event.NodeEvent.{NodeEvent}
use Rattle.iot_event.specs.declared.event.NodeEvent.TheVariants as nodes
use Rattle.iot_disk.specs.declared.disk.Pick.{Pick}
use Rattle.iot_machine.specs.Calls.{Call, Asks, Does, Says, Then, At}
use Rattle.iot_machine.specs.Clients.{Declared}
use Rattle.iot_machine.specs.Machine.{Machine, Client, Commit, Pair, handed, server, node, client_in, client_at}
use Rattle.iot_machine.specs.Machine.{pair_at, tree_after, add_commit, give_up, arm_backup}
use Rattle.iot_machine.specs.Nodes.{Node}
use Rattle.iot_machine.specs.Nodes as nodes_of
use Rattle.iot_tree.specs.Profiles.{Profile}
use Rattle.iot_machine.specs.Serving.{server_name, backup_name, commit_text, kept_text}
use Rattle.iot_machine.specs.Stops.{OpensNode, SettlesAs, ComesBackAs, Crashes, Restarts, ArmsDisk, Shows}
use Rattle.iot_machine.specs.Texts.{line, transaction_name, stopped_line, restart_words, promote_words, kept_as, lost_as, stop_line}
use Rattle.iot_machine.specs.Texts.{client_line, tree_text, log_text}
use Rattle.iot_machine.specs.Recorded.{labels_of}
use Rattle.iot_machine.specs.Events.{client_of, add_client, names_in, counts_anew, RestartsServer, Declares, client_part, server_part}
use Rattle.iot_machine.specs.Events.{promotes_unless, Promotes, ArmsBackup, event_part}
use Rattle.iot_machine.specs.Transcript.{Opening, InTurn}
use Rattle.iot_machine.proofs.KeptLaws.{kept_added, name_at}
use Rattle.iot_machine.proofs.MachinesLaws.{added_at}
use Rattle.iot_lasting.specs.Lasting.{AddsOne, IsGrowing}
use Rattle.iot_lasting.specs.Ledger.{Row, Ledger, row_of, ledger_of, row_at, names_of, IsNode}
use Rattle.iot_lasting.specs.Sayings as forms
use Rattle.iot_lasting.specs.Sayings.{IsAmong, answer_words}
use Rattle.iot_lasting.specs.Telling.{CommitSaid, Joins, name_of, stop_lines, stops_of, Accounts, EventTells, TranscriptTells}
use Rattle.iot_lasting.proofs.LedgerLaws.{Told, told_then, told_nothing, told_piece, told_other, rows_set, rows_itself, rows_at, rows_push}
use Rattle.iot_lasting.proofs.LedgerLaws.{name_set, rows_names, server_stops, stops_in, stops_noted, commits_noted}
use Rattle.iot_lasting.proofs.TellsLaws.{TellsTo, Telling, told_from, asks_told, does_told, says_told, silent, then_told, asks_then}
use Rattle.iot_lasting.proofs.TellsLaws.{either_told, among, told_word, stops_now, opens_told}
use Rattle.iot_lasting.proofs.TellsLaws.{arms_told, crashes_told, shows_told}
use Rattle.iot_lasting.proofs.TellingLaws.{server_book, IsHere, client_book, on_node, opens_node, does_link, does_node, AtPlace, pair_book}
use Rattle.iot_lasting.proofs.TellingLaws.{if_up}
use Rattle.iot_lasting.proofs.LastingLaws.{an_event_keeps_commits, transcripts_grow}

-- ---- a part of a machine

abbrev Any : {S : Type 0} → S → Type 0
Any s = Unit {0}

-- the same rows
told_rows : (s k : ℕ) (rows others later last : List Row) (x y : List Commit) (text : List ℕ) → rows ≡ others → later ≡ last
    → Told (record { stops = s; clients = others; commits = x }) text (record { stops = k; clients = last; commits = y })
    → Told (record { stops = s; clients = rows; commits = x }) text (record { stops = k; clients = later; commits = y })
told_rows s k rows others later last x y text before after it = rw (before, after) it

is_here : (m : Machine) (c : ℕ) → IsHere (map row_of m.clients) c (client_in m c)
is_here m c = sym (ap (λ (row : Row). row.name) (rows_at m.clients c))

at_client : {A : Type 0} {c : ℕ} {call : Call Client A} {P : Machine → Type 0}
    → ((m : Machine) (inner : Client) (text : List ℕ) (a : A) → P m → call (client_in m c) text a inner
    → Told (client_book (map row_of m.clients) c m.server.stops m.server.durable (client_in m c)) text
    (client_book (map row_of m.clients) c m.server.stops m.server.durable inner))
    → TellsTo ledger_of P (At (client_at c) call) (λ _. Any)
at_client {A} {c} {call} {P} each = record { at = by_step }
  where
    by_step : (m n : Machine) (text : List ℕ) (a : A) → P m → At (client_at c) call m text a n
        → Told (ledger_of m) text (ledger_of n) × Unit {0}
    by_step m n text a here step = rw step.is (
      told_rows m.server.stops m.server.stops (map row_of m.clients) _ (map row_of (slice_set m.clients c step.inner)) _ m.server.durable
          m.server.durable text (sym (rows_itself m.clients c)) (rows_set m.clients c step.inner)
          (each m step.inner text a here step.step),
      tt,
    )

-- a client alone
alone : {A : Type 0} {c : ℕ} {call : Call Client A}
    → ((m : Machine)
    → Telling (client_book (map row_of m.clients) c m.server.stops m.server.durable) (IsHere (map row_of m.clients) c) call)
    → TellsTo ledger_of Any (At (client_at c) call) (λ _. Any)
alone {c = c} each = at_client (λ m inner text a here step. ((each m).at (client_in m c) inner text a (is_here m c) step).0)

-- a client with the server
with_server : {A : Type 0} {c : ℕ} {call : Call Pair A}
    → ((m : Machine) → Telling (pair_book (map row_of m.clients) c) (AtPlace (map row_of m.clients) c) call)
    → TellsTo ledger_of Any (At (pair_at c) call) (λ _. Any)
with_server {A} {c} {call} each = record { at = by_step }
  where
    by_step : (m n : Machine) (text : List ℕ) (a : A) → Unit {0} → At (pair_at c) call m text a n
        → Told (ledger_of m) text (ledger_of n) × Unit {0}
    by_step m n text a here step = rw step.is (
      told_rows m.server.stops step.inner.server.stops (map row_of m.clients) _ (map row_of (slice_set m.clients c step.inner.client)) _
          m.server.durable step.inner.server.durable text (sym (rows_itself m.clients c)) (rows_set m.clients c step.inner.client)
          ((each m).at ((pair_at c).get m) step.inner text a (refl, is_here m c) step.step).0,
      tt,
    )

at_server : {A : Type 0} {P : Node (List Commit) → Type 0} {call : Call (Node (List Commit)) A}
    → ((m : Machine) → TellsTo (server_book (map row_of m.clients)) P call (λ _. Any))
    → TellsTo ledger_of (λ m. P m.server) (At server call) (λ _. Any)
at_server each = record {
  at = λ m n text a here step. rw step.is (((each m).at m.server step.inner text a here step.step).0, tt);
}

-- ---- the server

-- the lines of an event with these words at which it comes back are no stop lines and no commits
record AreOther (words : List ℕ) : Type 0 where
  back : (l : Ledger) → Told l (line words) l
  kept : (l : Ledger) → Told l (kept_as words) l
  lost : (l : Ledger) → Told l (lost_as words) l

by_restart : AreOther (restart_words server_name)
by_restart = record {
  back = λ l. told_other l _ (forms.of_node (codes "restart ") server_name (among 1 refl) (is_there l) refl);
  kept = λ l. told_other l _ (forms.kept server_name (is_there l) refl);
  lost = λ l. told_other l _ (forms.lost server_name (is_there l) refl);
}
  where
    is_there : (l : Ledger) → IsNode l server_name
    is_there l = record { who = None; is = refl }

by_promote : AreOther promote_words
by_promote = record {
  back = λ l. told_word l (codes "promote") (among 9 refl);
  kept = λ l. told_word l (codes "promote kept") (among 10 refl);
  lost = λ l. told_word l (codes "promote lost") (among 11 refl);
}

module _ (rows : List Row) where
  abbrev tell : List Commit → ℕ → Ledger
  tell commits k = record { stops = k; clients = rows; commits = commits }

  stopping : (commits : List Commit) (k : ℕ) → Told (tell commits k) (stopped_line server_name) (tell commits (k + 1))
  stopping commits k = server_stops rows commits k

  is_server : (commits : List Commit) (k : ℕ) → IsNode (tell commits k) server_name
  is_server commits k = record { who = None; is = refl }

  abbrev ServerTells : {A : Type 0} → Call (Node (List Commit)) A → Type 0
  ServerTells call = TellsTo (server_book rows) Any call (λ _. Any)

  opens : ServerTells (OpensNode server_name)
  opens = record { at = λ node n text on here step. (opens_told server_name tell is_server stopping node n text on step, tt) }

  shows : ServerTells (Shows (λ commits. tree_text (tree_after commits)))
  shows = record { at = λ node n text a here step. (shows_told server_name tell is_server stopping tree_after node n text a step, tt) }

  arms : (calls : ℕ) (pick : Pick) → ServerTells (ArmsDisk server_name calls pick)
  arms calls pick = record {
    at = λ node n text a here step. (arms_told server_name tell is_server stopping calls pick node n text a step, tt);
  }

  crashes : ServerTells (Crashes server_name)
  crashes = record { at = λ node n text a here step. (crashes_told server_name tell is_server stopping node n text a step, tt) }

  -- its clients have these names
  abbrev IsNames : List (List ℕ) → Type 0
  IsNames names = (c : ℕ) → slice_index_or names c [] ≡ (row_at rows c).name

  comes : (words : List ℕ) → AreOther words → (names : List (List ℕ)) → IsNames names
      → TellsTo (server_book rows) IsGrowing (ComesBackAs words server_name (kept_text names)) (λ _. Any)
  comes words said names are = record { at = λ node n text on growing step. (by_step node n text on growing step, tt) }
    where
      says : (node : Node (List Commit)) (commit : Commit)
          → kept_text names node.durable (add_commit commit node.durable)
          ≡ commit_text (name_of (server_book rows node) commit) commit node.durable
      says node commit = kept_added names node.durable commit
          ∙ ap (λ (name : List ℕ). commit_text (transaction_name name commit.entry.number) commit node.durable) (are commit.entry.client)

      settles : (node n : Node (List Commit)) (text : List ℕ) (doubt : Option (List Commit)) → IfSome doubt (AddsOne node.durable)
          → SettlesAs words (kept_text names) doubt node text n → Told (server_book rows node) text (server_book rows n)
      settles node n text None one step = rw (step.0, step.1) (said.back (server_book rows node))
      settles node n text (Some after) one (inr step) = rw (step.0, step.1) (said.lost (server_book rows node))
      settles node n text (Some after) one (inl step) = rw step.1
          (told_then (server_book rows node) (server_book rows node) (server_book rows (nodes_of.back after node))
          (kept_as words) (kept_text names node.durable after) text step.0
          (said.kept (server_book rows node))
          (rw (one.is, says node one.commit) (told_piece (server_book rows node) (CommitSaid one.commit) tt)))

      by_step : (node n : Node (List Commit)) (text : List ℕ) (on : Bool) → IsGrowing node
          → ComesBackAs words server_name (kept_text names) node text on n → Told (server_book rows node) text (server_book rows n)
      by_step node n text on growing (inl step) = settles node n text node.doubt growing.adds step.1
      by_step node n text on growing (inr step) = rw step.0 (stops_now server_name tell is_server stopping node n step.2)

  restarts : (names : List (List ℕ)) → IsNames names
      → TellsTo (server_book rows) IsGrowing (Restarts server_name (kept_text names)) (λ _. Any)
  restarts names are = asks_then (either_told
      (told_from (λ node here. here) (says_told (λ node here. told_word (server_book rows node) (codes "up") (among 0 refl))))
      (then_told (comes (restart_words server_name) by_restart names are) (λ _. silent)))

-- the same of a machine, which knows the names of its clients; and then its requests may be counted anew
by_names : {A : Type 0} {call : List (List ℕ) → Call (Node (List Commit)) A} (alive : Bool)
    → ((rows : List Row) (names : List (List ℕ)) → IsNames rows names → TellsTo (server_book rows) IsGrowing (call names) (λ _. Any))
    → TellsTo ledger_of (λ m. IsGrowing m.server)
    (Then (Asks names_in) (λ names. Then (At server (call names)) (λ _. Does (λ _. []) (counts_anew alive)))) (λ _. Any)
by_names {call = call} alive each =
    then_told {Q = λ names m. IsGrowing m.server × (names ≡ names_in m)} (asks_told (λ m here. (here, refl)))
    (λ names. then_told {Q = λ _. Any} (called names) (λ _. does_told (counts alive)))
  where
    counts : (alive : Bool) (m : Machine) → Unit {0} → Told (ledger_of m) [] (ledger_of (counts_anew alive m)) × Unit {0}
    counts true m here = (told_nothing (ledger_of m) (ledger_of m) refl, tt)
    counts false m here = (told_nothing (ledger_of m) (ledger_of m) refl, tt)

    named : (m : Machine) (names : List (List ℕ)) → names ≡ names_in m → IsNames (map row_of m.clients) names
    named m names is c = ap (λ (names : List (List ℕ)). slice_index_or names c []) is ∙ name_at m c
        ∙ sym (ap (λ (row : Row). row.name) (rows_at m.clients c))

    called : (names : List (List ℕ))
        → TellsTo ledger_of (λ m. IsGrowing m.server × (names ≡ names_in m)) (At server (call names)) (λ _. Any)
    called names = record {
      at = λ m n text a here step. rw step.is (
        ((each (map row_of m.clients) names (named m names here.1)).at m.server step.inner text a here.0 step.step).0,
        tt,
      );
    }

restarts_server : TellsTo ledger_of (λ m. IsGrowing m.server) RestartsServer (λ _. Any)
restarts_server = asks_then (λ alive. by_names {call = λ names. Restarts server_name (kept_text names)} alive restarts)

says_it : (word : List ℕ) → IsAmong answer_words word
    → TellsTo ledger_of (λ m. IsGrowing m.server) (Says (λ _. line word)) (λ _. Any)
says_it word is = told_from (λ m here. here) (says_told (λ m here. told_word (ledger_of m) word is))

promotes_server : TellsTo ledger_of (λ m. IsGrowing m.server) Promotes (λ _. Any)
promotes_server = asks_then (either_told (says_it (codes "up") (among 0 refl)) (asks_then unless))
  where
    gives_up : (m : Machine) → IsGrowing m.server → Told (ledger_of m) [] (ledger_of (give_up m)) × IsGrowing (give_up m).server
    gives_up m growing =
        (told_nothing (ledger_of m) (ledger_of m) refl, record { sure = growing.sure; adds = growing.adds })

    unless : (promoted : Bool) → TellsTo ledger_of (λ m. IsGrowing m.server) (promotes_unless promoted) (λ _. Any)
    unless true = says_it (codes "nothing") (among 5 refl)
    unless false = then_told (does_told gives_up) (λ _.
        by_names {call = λ names. ComesBackAs promote_words server_name (kept_text names)} false
        (λ rows. comes rows promote_words by_promote))

arms_backup : (calls : ℕ) (pick : Pick) → TellsTo ledger_of Any (ArmsBackup calls pick) (λ _. Any)
arms_backup calls pick = does_told (λ m here. (arms_it m.promoted m, tt))
  where
    arms_it : (promoted : Bool) (m : Machine)
        → Told (ledger_of m) (stop_line backup_name calls pick) (ledger_of (arm_backup calls pick promoted m))
    arms_it true m = told_other (ledger_of m) _ (forms.stop_backup calls pick refl)
    arms_it false m = told_other (ledger_of m) _ (forms.stop_backup calls pick refl)

-- ---- the events

client_told : (scripts : List Declared) (c : ℕ) (what : ClientEvent ℕ Profile) → TellsTo ledger_of Any (client_part scripts c what) (λ _. Any)
client_told scripts c (client_events.Node what) = alone (λ m. does_node (map row_of m.clients) c m.server.stops m.server.durable what)
client_told scripts c (client_events.Link what) = alone (λ m. does_link (map row_of m.clients) c m.server.stops m.server.durable what)
client_told scripts c (client_events.Task what) = with_server (λ m. if_up (map row_of m.clients) c scripts what)

declares_told : (name : List ℕ) → TellsTo ledger_of Any (Declares name) (λ _. Any)
declares_told name = then_told {Q = λ c m. name ≡ (client_in m c).name} (record { at = joins })
    (λ c. then_told {Q = λ _ m. IsNode (ledger_of m) name} (opens_it c)
    (λ on. told_from (λ m here. here) (either_told (says_told says_client) silent on)))
  where
    joins : (m n : Machine) (text : List ℕ) (c : ℕ) → Unit {0} → (text ≡ []) × (c ≡ length m.clients) × (n ≡ add_client name m)
        → Told (ledger_of m) text (ledger_of n) × (name ≡ (client_in n c).name)
    joins m n text c here step = rw (step.0, step.1, step.2) (
      record {
        pieces = Joins name ∷ [];
        fit = (tt, tt);
        whole = refl;
        is = ap (λ (rows : List Row). record { stops = m.server.stops; clients = rows; commits = m.server.durable })
            (rows_push m.clients (client_of name m));
      },
      sym (ap (λ (client : Client). client.name) (added_at name m)),
    )

    opens_it : (c : ℕ) → TellsTo ledger_of (λ m. name ≡ (client_in m c).name) (At (client_at c) (At node (OpensNode name)))
        (λ _ m. IsNode (ledger_of m) name)
    opens_it c = record {
      at = λ m n text on named step. (((at_client tells_it).at m n text on named step).0, is_named m n text on named step);
    }
      where
        tells_it : (m : Machine) (inner : Client) (text : List ℕ) (on : Bool) → name ≡ (client_in m c).name
            → At node (OpensNode name) (client_in m c) text on inner
            → Told (client_book (map row_of m.clients) c m.server.stops m.server.durable (client_in m c)) text
            (client_book (map row_of m.clients) c m.server.stops m.server.durable inner)
        tells_it m inner text on named step =
            ((on_node (map row_of m.clients) c m.server.stops m.server.durable OpensNode
            (opens_node (map row_of m.clients) c m.server.stops m.server.durable) name).at (client_in m c) inner text on
            (is_here m c, named) step).0

        is_named : (m n : Machine) (text : List ℕ) (on : Bool) → name ≡ (client_in m c).name
            → At (client_at c) (At node (OpensNode name)) m text on n → IsNode (ledger_of n) name
        is_named m n text on named step =
            let same : step.inner.name ≡ (client_in m c).name = ap (λ (client : Client). client.name) step.step.is in
            rw step.is (record {
              who = Some c;
              is = named ∙ sym same ∙ sym (name_set (map row_of m.clients) c (row_of step.inner) (same ∙ is_here m c))
                  ∙ sym (ap (λ (rows : List Row). (row_at rows c).name) (rows_set m.clients c step.inner));
            })

    says_client : (m : Machine) → IsNode (ledger_of m) name → Told (ledger_of m) (client_line name) (ledger_of m)
    says_client m is = told_other (ledger_of m) (client_line name) (forms.of_node (codes "client ") name (among 2 refl) is refl)

anyhow : {A : Type 0} {call : Call Machine A} → TellsTo ledger_of Any call (λ _. Any)
    → TellsTo ledger_of (λ m. IsGrowing m.server) call (λ _. Any)
anyhow tells = told_from (λ m here. tt) tells

server_does : (what : NodeEvent) → TellsTo ledger_of (λ m. IsGrowing m.server) (server_part what) (λ _. Any)
server_does nodes.Show = anyhow (at_server {P = Any} (λ m. shows (map row_of m.clients)))
server_does (nodes.Stop calls pick) = anyhow (at_server {P = Any} (λ m. arms (map row_of m.clients) calls pick))
server_does nodes.Crash = anyhow (at_server {P = Any} (λ m. crashes (map row_of m.clients)))
server_does nodes.Restart = restarts_server

event_told : (event : Event) → TellsTo ledger_of (λ m. IsGrowing m.server) (event_part event) (λ _. Any)
event_told (events.Client name) = anyhow (declares_told name)
event_told (events.Script name code) = anyhow (does_told (λ m here. (told_nothing (ledger_of m) (ledger_of m) refl, tt)))
event_told (events.Profile name profile) =
    anyhow (does_told (λ m here. (told_nothing (ledger_of m) (ledger_of m) refl, tt)))
event_told (events.At c what) = anyhow (asks_then (λ scripts. client_told scripts c what))
event_told (events.Server what) = server_does what
event_told events.Promote = promotes_server
event_told (events.StopBackup calls pick) = anyhow (arms_backup calls pick)
event_told events.Log = anyhow (asks_then (either_told
    (says_told (λ m here. told_other (ledger_of m) _ (forms.log (logged m))))
    (says_told (λ m here. told_word (ledger_of m) (codes "down") (among 1 refl)))))
  where
    logged : (m : Machine)
        → log_text (names_in m) (labels_of m.server.durable) ≡ log_text (names_of (ledger_of m)) (labels_of m.server.durable)
    logged m = ap (λ (names : List (List ℕ)). log_text names (labels_of m.server.durable)) (rows_names m.clients)

-- ---- the laws

accounts : (m n : Machine) (text : List ℕ) → Told (ledger_of m) text (ledger_of n) → Accounts m n text
accounts m n text it = record {
  pieces = it.pieces;
  fit = it.fit;
  whole = it.whole;
  ledger = it.is;
  stops = λ who. in_ledger who n ∙ ap (stops_in who) it.is ∙ stops_noted (ledger_of m) it.pieces it.fit who
      ∙ ap (λ (k : ℕ). k + stop_lines who it.pieces) (sym (in_ledger who m));
  commits = ap (λ (l : Ledger). l.commits) it.is ∙ commits_noted (ledger_of m) it.pieces;
}
  where
    in_ledger : (who : Option ℕ) (m : Machine) → stops_of who m ≡ stops_in who (ledger_of m)
    in_ledger None m = refl
    in_ledger (Some c) m = sym (ap (λ (row : Row). row.stops) (rows_at m.clients c))

pub an_event_tells : EventTells
an_event_tells event m n text growing step = accounts m n text ((event_told event).at m n text tt growing step).0

pub a_transcript_tells : TranscriptTells
a_transcript_tells counts events text m step = accounts (handed counts) m text
    (told_then (ledger_of (handed counts)) (ledger_of step.mid) (ledger_of m) step.front step.rest text step.whole
    (opening.at (handed counts) step.mid step.front tt tt step.first).0
    (in_turn events step.mid step.rest (transcripts_grow counts [] step.front step.mid (record {
      mid = step.mid;
      front = step.front;
      rest = [];
      answer = tt;
      first = step.first;
      second = (refl, refl);
      whole = sym (append-nil step.front);
    })) step.second))
  where
    opening : TellsTo ledger_of Any Opening (λ _. Any)
    opening = then_told {Q = λ _. Any} (at_server {P = Any} (λ m. opens (map row_of m.clients))) (λ _. silent)

    in_turn : (events : List Event) (mid : Machine) (text : List ℕ) → IsGrowing mid.server → InTurn events mid text tt m
        → Told (ledger_of mid) text (ledger_of m)
    in_turn [] mid text growing step = rw (step.0, step.1) (told_nothing (ledger_of mid) (ledger_of mid) refl)
    in_turn (event ∷ events) mid text growing step =
        told_then (ledger_of mid) (ledger_of step.mid) (ledger_of m) step.front step.rest text step.whole
        ((event_told event).at mid step.mid step.front tt growing step.first).0
        (in_turn events step.mid step.rest (an_event_keeps_commits event mid step.mid step.front growing step.first).growing step.second)
