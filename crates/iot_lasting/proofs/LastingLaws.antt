-- Commits last: each event keeps what the server's list begins with.
use Rattle.std.proofs.Common.{◌≡◌, ℕ, List, [], ◌∷◌, ◌++◌, None, refl, sym, ap, ◌∙◌}
use Rattle.std.proofs.lemmas.List.{append_assoc}
use Rattle.iot_event.specs.declared.event.ClientEvent.{ClientEvent}
use Rattle.iot_event.specs.declared.event.ClientEvent.TheVariants as client_events
use Rattle.iot_event.specs.declared.event.Event.{Event}
use Rattle.iot_event.specs.declared.event.Event.TheVariants as events
use Rattle.iot_event.specs.declared.event.NodeEvent.{NodeEvent}
use Rattle.iot_event.specs.declared.event.NodeEvent.TheVariants as nodes
use Rattle.iot_machine.specs.Calls.{Part, Then}
use Rattle.iot_machine.specs.Clients.{Declared}
use Rattle.iot_machine.specs.Machine.{Machine, Commit, handed}
use Rattle.iot_machine.specs.Nodes.{Node}
use Rattle.iot_machine.specs.Serving.{server_name}
use Rattle.iot_machine.specs.Events.{client_part, server_part, event_part}
use Rattle.iot_machine.specs.Transcript.{Opening, InTurn}
use Rattle.iot_machine.proofs.KeepsLaws.{Keeps, keeps_does, stays_says, keeps_then, stays_then, asks_then, keeps_either}
use Rattle.iot_machine.proofs.PossiblyLaws.{possibly_as}
use Rattle.iot_lasting.specs.Lasting.{IsGrowing, EventKeepsCommits, TranscriptsSplit, TranscriptsGrow, CommitsLast, CommitsKeepTheirNumbers}
use Rattle.iot_tree.specs.Profiles.{Profile}
use Rattle.iot_lasting.proofs.FrontLaws.{stands_on, possibly_front, lasts_itself, lasts_same, crashes_last, opens_last}
use Rattle.iot_lasting.proofs.KeepingLaws.{KeptIn, KeepingIn, does_task, of_client, alone, at_server, restarts_server, promotes}
use Rattle.iot_lasting.proofs.KeepingLaws.{arms_backup, declares}

-- ---- the events

module _ (b : Node (List Commit)) where
  client_keeping : (scripts : List Declared) (c : ℕ) (what : ClientEvent ℕ Profile) → KeepingIn b (client_part scripts c what)
  client_keeping scripts c (client_events.Node what) = alone b
  client_keeping scripts c (client_events.Link what) = alone b
  client_keeping scripts c (client_events.Task what) = of_client b (does_task b scripts what)

  server_keeping : (what : NodeEvent) → KeepingIn b (server_part what)
  server_keeping nodes.Show = at_server b (asks_then (keeps_either stays_says stays_says))
  server_keeping (nodes.Stop calls pick) = at_server b (keeps_does (λ node here. lasts_same b node _ refl refl (λ up. up) here))
  server_keeping nodes.Crash = at_server b (crashes_last b server_name)
  server_keeping nodes.Restart = restarts_server b

  event_keeping : (event : Event) → KeepingIn b (event_part event)
  event_keeping (events.Client name) = declares b name
  event_keeping (events.Script name code) = keeps_does (λ m here. here)
  event_keeping (events.Profile name profile) = stays_says
  event_keeping (events.At c what) = asks_then (λ scripts. client_keeping scripts c what)
  event_keeping (events.Server what) = server_keeping what
  event_keeping events.Promote = promotes b
  event_keeping (events.StopBackup calls pick) = arms_backup b calls pick
  event_keeping events.Log = asks_then (keeps_either stays_says stays_says)

  pub list_keeping : (events : List Event) → KeepingIn b (InTurn events)
  list_keeping [] = stays_says
  list_keeping (event ∷ events) = stays_then (event_keeping event) (λ _. list_keeping events)

-- ---- the laws

pub an_event_keeps_commits : EventKeepsCommits
an_event_keeps_commits event m n text growing step =
    (event_keeping m.server event).at m n text tt (lasts_itself m.server growing) step

-- the first two of three
regroup : {one two three : Part Machine} (m mid n : Machine) (front rest text : List ℕ) → one m front tt mid
    → Then two (λ _. three) mid rest tt n → text ≡ front ++ rest → Then (Then one (λ _. two)) (λ _. three) m text tt n
regroup m mid n front rest text first step whole = record {
  mid = step.mid;
  front = front ++ step.front;
  rest = step.rest;
  answer = tt;
  first = record { mid = mid; front = front; rest = step.front; answer = tt; first = first; second = step.first; whole = refl };
  second = step.second;
  whole = whole ∙ ap (λ (rest : List ℕ). front ++ rest) step.whole ∙ sym (append_assoc front step.front step.rest);
}

pub transcripts_split : TranscriptsSplit
transcripts_split counts events later text n step =
    let two : Then (Then Opening (λ _. InTurn events)) (λ _. InTurn later) (handed counts) text tt n =
    regroup (handed counts) step.mid n step.front step.rest text step.first (in_turn events step.mid step.rest step.second) step.whole in
    record { mid = two.mid; front = two.front; rest = two.rest; before = two.first; after = two.second; whole = two.whole }
  where
    in_turn : (events : List Event) (m : Machine) (text : List ℕ) → InTurn (events ++ later) m text tt n
        → Then (InTurn events) (λ _. InTurn later) m text tt n
    in_turn [] m text step =
        record { mid = m; front = []; rest = text; answer = tt; first = (refl, refl); second = step; whole = refl }
    in_turn (event ∷ events) m text step =
        regroup m step.mid n step.front step.rest text step.first (in_turn events step.mid step.rest step.second) step.whole

pub transcripts_grow : TranscriptsGrow
transcripts_grow counts events text m step = (keeps.at (handed counts) m text tt (lasts_itself _ fresh, refl) step).growing
  where
    b : Node (List Commit)
    b = (handed counts).server

    fresh : IsGrowing b
    fresh = record { sure = λ up. refl; adds = tt }

    opening : Keeps (λ m. KeptIn b m × (m.server.doubt ≡ None)) Opening (λ _. KeptIn b)
    opening = keeps_then (at_server b (opens_last b)) (λ _. stays_says)

    keeps : Keeps (λ m. KeptIn b m × (m.server.doubt ≡ None)) (Then Opening (λ _. InTurn events)) (λ _. KeptIn b)
    keeps = keeps_then opening (λ _. list_keeping b events)

pub commits_last : CommitsLast
commits_last counts events later m n text rest before step =
    possibly_front m.server n.server
    ((list_keeping m.server later).at m n rest tt (lasts_itself m.server (transcripts_grow counts events text m before)) step)

pub commits_keep_their_numbers : CommitsKeepTheirNumbers
commits_keep_their_numbers counts events later m n text rest before step place commit stands =
    possibly_as n.server (λ list front. stands_on place commit m.server.durable list front stands)
    (commits_last counts events later m n text rest before step)
