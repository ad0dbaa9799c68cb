-- Runs whose events are done while nothing is written, and what is written then.
use Rattle.std.proofs.Common.{◌≡◌, ℕ, suc, ◌≤◌, List, [], ◌∷◌, ◌++◌, length, map, drop, slice_set, get_or}
use Rattle.std.proofs.Common.{refl, sym, ap, subst, ◌∙◌, arith}
use Rattle.std.specs.Prelude.{Result, Ok, Err, IfOk, IfErr, Option, None, Some}
use Rattle.std.proofs.lemmas.List.{length-append, take_all}
use Rattle.iot_count.specs.Counts.{Counted, Stayed, Rose}
use Rattle.iot_disk.specs.Disk.{Medium, CountsFault, SameImages}
use Rattle.iot_disk.specs.declared.disk.DiskFault.{DiskFault}
use Rattle.iot_disk.specs.declared.disk.DiskFault.TheVariants as reading
use Rattle.iot_event.specs.declared.event.Event.{Event}
use Rattle.iot_machine.specs.Machine.{Machine, Commit}
use Rattle.iot_machine.specs.Nodes.{Counts}
use Rattle.iot_machine.specs.Transcript.{Transcript}
use Rattle.iot_words.specs.declared.jobs.Run.{Run}
use Rattle.iot_words.specs.declared.jobs.Run.TheVariants.{Transcript as Plays, Json, Generate, Save}
use Rattle.std.proofs.Common.{◌<◌, Bool, true, false, slice_get}
use Rattle.std.proofs.Math.Seq.{get_or-append_seam, set-append_seam}
use Rattle.iot_world.specs.Disks.{AreFresh, CountsServer, ServerBegins, counts_on, other_of, own_of, place_of, with_ends}
use Rattle.iot_world.specs.Holding.{DisksHold, HoldsServer, KeepsClient}
use Rattle.iot_world.proofs.BeginsLaws.{begins_or}
use Rattle.iot_world.proofs.PlacesLaws.{ends_length}
use Rattle.iot_world.specs.World.{StandsFor, IsWorldOfSome}
use Rattle.iot_world.specs.declared.world.World.{World}
use Rattle.iot_world.proofs.ListLaws.{each_length}
use Rattle.iot_app.specs.Counting.{HasCounted}
use Rattle.iot_app.specs.Doing.{Did}
use Rattle.iot_app.specs.Faults.{ended_by_read}
use Rattle.iot_app.specs.Job.{TextEnds}
use Rattle.iot_app.specs.Keeping.{DisksKeep, DisksKeepAt, DisksKeepUnread, DisksStay, promotes_next}
use Rattle.iot_app.specs.Outputs.{output_of}
use Rattle.iot_app.specs.Played.{RanAll, Reported, DidFirst, WroteFront, Played}
use Rattle.iot_app.specs.Running.{told_of, tells, RanIn, StaysIn, IsTold}
use Rattle.iot_app.specs.Saving.{reads_if, server_reads}
use Rattle.iot_app.specs.Summary.{tally_of}
use Rattle.iot_app.specs.declared.tally.Tally.{Tally}
use Rattle.iot_app.specs.declared.status.Status.{Status}
use Rattle.iot_app.specs.declared.status.Status.TheVariants as statuses
use Rattle.iot_app.proofs.EndingsLaws.{by_text}
use Rattle.iot_app.proofs.PlayedLaws.{PlaysOn, whole_transcript, since_then, stays_as, two_same, unarmed, reported_as}

-- ---- runs in other words

module _ (handed : List Counts) (one : Machine → Type 0) (events : List Event) (ran : RanAll handed one events) where
  pub ran_as : (other : Machine → Type 0) → ((m : Machine) → one m → other m) → RanAll handed other events
  ran_as other means = record { text = ran.text; machine = ran.machine; transcript = ran.transcript; kept = means ran.machine ran.kept }

  -- memory ran out after all events
  pub all_did : (stays : List Event → Machine → Type 0) → ((later : List Event) (m : Machine) → one m → stays later m)
      → DidFirst handed stays events
  all_did stays means = record {
    done = length events;
    text = ran.text;
    machine = ran.machine;
    transcript =
        subst (λ (es : List Event). Transcript handed es ran.text ran.machine) (sym (take_all (length events) events (omega arith)))
        ran.transcript;
    stayed = means (drop (length events) events) ran.machine ran.kept;
  }

module _ {T E : Type 0} (result : Result T E) where
  -- what is said of an answer, and of a fault
  pub if_ok : (P : T → Type 0) (t : T) → result ≡ Ok t → IfOk result P → P t
  if_ok P t is so = subst (λ (r : Result T E). IfOk r P) is so

  pub if_err : (P : E → Type 0) (e : E) → result ≡ Err e → IfErr result P → P e
  if_err P e is so = subst (λ (r : Result T E). IfErr r P) is so

  -- what is so whatever the fault
  pub any_err : (P : Type 0) → P → IfErr result (λ _. P)
  any_err P so = any result
    where
      any : (r : Result T E) → IfErr r (λ _. P)
      any (Ok t) = tt
      any (Err e) = so

-- what is told of a run, if the disks hold it in other words
pub told_as : {E : Type 0} (handed : List Counts) (told : Result (List ℕ) E) (says : List ℕ → Machine → List ℕ)
    (one other : Machine → Type 0) (events : List Event) → ((m : Machine) → one m → other m)
    → IfOk told (λ text. Reported handed (λ said. text ≡ said) one says events)
    → IfOk told (λ text. Reported handed (λ said. text ≡ said) other says events)
told_as handed (Ok text) says one other events means reported =
    reported_as handed (λ said. text ≡ said) one other events means says reported
told_as handed (Err fault) says one other events means none = none

-- and what is so of one that failed
pub failed_as : {T E : Type 0} (told : Result T E) (one other : Type 0) → (one → other) → IfErr told (λ _. one) → IfErr told (λ _. other)
failed_as (Ok text) one other means none = none
failed_as (Err fault) one other means did = means did

-- ---- a run in a world

module _ {D : Type 0} (medium : Medium D) (handed : List Counts) (events : List Event) (w : World D) where
  -- all are done and counted
  pub ran_in : (counts last : Tally) (rest : List ℕ) (done : ℕ)
      → PlaysOn medium handed (HasCounted counts rest) events w done → length events ≤ done
      → ((transcript : List ℕ) → HasCounted counts rest transcript → last ≡ tally_of transcript)
      → RanIn medium handed events last w
  ran_in counts last rest done plays whole counted = record {
    text = plays.text;
    machine = plays.machine;
    transcript = whole_transcript medium handed (HasCounted counts rest) events w done plays whole;
    counted = counted plays.text plays.said;
    stands = plays.stands;
  }

  module _ (counts : Tally) (ran : RanIn medium handed events counts w) where
    pub ran_some : IsWorldOfSome medium w
    ran_some = record { machine = ran.machine; stands = ran.stands }

    -- what the job has to say of it
    pub ran_told : (job : Run) (text : List ℕ) → ((m : Machine) → StandsFor medium w m → text ≡ told_of job counts m)
        → Reported handed (λ told. text ≡ told) (StandsFor medium w) (tells job) events
    ran_told job text told = record {
      ran = record { text = ran.text; machine = ran.machine; transcript = ran.transcript; kept = ran.stands.stands };
      written =
          told ran.machine ran.stands.stands
          ∙ ap (λ (c : Tally). told_of job c ran.machine) ran.counted;
    }

    -- memory ran out when that was to be said
    pub ran_untold : ((disk : D) → medium.may_leave disk (medium.reads disk)) → DidFirst handed (StaysIn medium w) events
    ran_untold is_image =
        all_did handed (StandsFor medium w) events
        (record { text = ran.text; machine = ran.machine; transcript = ran.transcript; kept = ran.stands.stands }) (StaysIn medium w)
        (λ later m stands. stays_as medium is_image w m stands later)

-- ---- writing it

module _ (handed : List Counts) (wrote : List ℕ → Type 0) (holds : Machine → Type 0) (stays : List Event → Machine → Type 0)
    (unread : Machine → Type 0) (disk : Machine → List ℕ) (events : List Event) where
  abbrev Does : Run → Status → Type 0
  Does job status = Did handed wrote holds stays unread disk job status events

  -- what was to be written was written, or a front of it
  reported_by : (so : List ℕ → Type 0) (text : List ℕ) (says other : List ℕ → Machine → List ℕ)
      → ((transcript : List ℕ) (m : Machine) → says transcript m ≡ other transcript m)
      → Reported handed (λ told. text ≡ told) holds says events → so text → Reported handed so holds other events
  reported_by so text says other same told written = record {
    ran = told.ran;
    written = subst so (told.written ∙ same told.ran.text told.ran.machine) written;
  }

  pub text_did : (job : Run) (text : List ℕ) (status : Status) (f e : Counted) → IsTold job
      → Reported handed (λ told. text ≡ told) holds (tells job) events → TextEnds statuses.Done text status wrote f e
      → Does job status
  text_did Plays text status f e is told ends = absurd is
  text_did Json text status f e is told ends =
      by_text statuses.Done text status wrote f e (Does Json) ends
      (λ written. reported_by wrote text (tells Json) (output_of Json disk) (λ transcript m. refl) told written)
      (λ written. reported_by (WroteFront wrote) text (tells Json) (output_of Json disk) (λ transcript m. refl) told written)
  text_did (Generate n) text status f e is told ends =
      by_text statuses.Done text status wrote f e (Does (Generate n)) ends
      (λ written. reported_by wrote text (tells (Generate n)) (output_of (Generate n) disk) (λ transcript m. refl) told written)
      (λ written. reported_by (WroteFront wrote) text (tells (Generate n)) (output_of (Generate n) disk) (λ transcript m. refl) told
      written)
  text_did Save text status f e is told ends = absurd is

  -- nothing was written, since memory ran out
  pub nothing_did : (job : Run) → IsTold job → DidFirst handed stays events → wrote [] → Does job statuses.NoMemory
  nothing_did Plays is did written = absurd is
  nothing_did Json is did written = record { did = did; written = written }
  nothing_did (Generate n) is did written = record { did = did; written = written }
  nothing_did Save is did written = absurd is

  -- what the server's disk reads as was written, or a front of it
  module _ (one : Machine → Type 0) (ran : RanAll handed one events) (means : (m : Machine) → one m → holds m) where
    saved_by : (so : List ℕ → Type 0) (bytes : List ℕ) → bytes ≡ disk ran.machine → so bytes
        → Reported handed so holds (output_of Save disk) events
    saved_by so bytes is written = record {
      ran = record { text = ran.text; machine = ran.machine; transcript = ran.transcript; kept = means ran.machine ran.kept };
      written = subst so is written;
    }

    pub saved_did : (bytes : List ℕ) (status : Status) (f e : Counted) → bytes ≡ disk ran.machine
        → TextEnds statuses.Done bytes status wrote f e → Does Save status
    saved_did bytes status f e is ends =
        by_text statuses.Done bytes status wrote f e (Does Save) ends (saved_by wrote bytes is) (saved_by (WroteFront wrote) bytes is)

  -- a transcript
  pub played_did : (status : Status) → Played handed status wrote holds stays events → Does Plays status
  played_did statuses.Done played = played
  played_did statuses.Refused played = absurd played
  played_did statuses.Usage played = absurd played
  played_did statuses.ReadFailed played = absurd played
  played_did statuses.WriteFailed played = played
  played_did statuses.NoMemory played = played
  played_did statuses.SaveFailed played = absurd played

-- ---- reading the server's disk

get_last : {A : Type 0} (xs : List A) (x : A) → slice_get (xs ++ x ∷ []) (length xs) ≡ Some x
get_last [] x = refl
get_last (y ∷ xs) x = get_last xs x

-- the first and the last, if the server's own is this one
abbrev first_after : {A : Type 0} → (promoted : Bool) → (now first : A) → A
first_after false now first = now
first_after true now first = first

abbrev last_after : {A : Type 0} → (promoted : Bool) → (now last : A) → A
last_after false now last = last
last_after true now last = now

own_after : {A : Type 0} (promoted : Bool) (now first last : A)
    → own_of promoted (first_after promoted now first) (last_after promoted now last) ≡ now
own_after false now first last = refl
own_after true now first last = refl

other_after : {A : Type 0} (promoted : Bool) (now first last : A)
    → other_of promoted (first_after promoted now first) (last_after promoted now last) ≡ other_of promoted first last
other_after false now first last = refl
other_after true now first last = refl

-- ten of which it stands at its place
module _ {A : Type 0} (first last : A) (others : List A) (eight : length others ≡ 8) where
  nine : 9 ≡ suc (length others)
  nine = omega (arith, eight)

  set_own : (promoted : Bool) (now : A) → slice_set (with_ends first last others) (place_of promoted) now
      ≡ with_ends (first_after promoted now first) (last_after promoted now last) others
  set_own false now = refl
  set_own true now =
      ap (λ (n : ℕ). slice_set (with_ends first last others) n now) nine
      ∙ ap (λ (xs : List A). first ∷ xs) (set-append_seam others last [] now)

  own_there : (promoted : Bool) (was : A) → get_or (with_ends first last others) (place_of promoted) was ≡ own_of promoted first last
  own_there false was = refl
  own_there true was =
      ap (λ (n : ℕ). get_or (with_ends first last others) n was) nine ∙ get_or-append_seam others last [] was

  got_own : (promoted : Bool) → slice_get (with_ends first last others) (place_of promoted) ≡ Some (own_of promoted first last)
  got_own false = refl
  got_own true = ap (λ (n : ℕ). slice_get (with_ends first last others) n) nine ∙ get_last others last

place_within : (promoted : Bool) → place_of promoted < 10
place_within false = omega arith
place_within true = omega arith

module _ {D : Type 0} (medium : Medium D) (handed old : List D) (fresh : AreFresh medium handed) (m : Machine)
    (keeps : DisksKeep medium handed old m) where
  abbrev held : DisksHold medium handed old m
  held = keeps.holds

  eight_held : length (held.clients ++ held.spare) ≡ 8
  eight_held =
      omega (
        arith,
        ap length held.was,
        ends_length held.first_handed held.last_handed (held.front ++ held.spare),
        length-append held.front held.spare,
        length-append held.clients held.spare,
        held.aligned,
        fresh.ten,
      )

  -- the place is one of theirs
  pub place_inside : (place : ℕ) → place ≡ place_of m.promoted → place < length old
  place_inside place at =
      let ten : length old ≡ 10 =
      omega (arith, ap length held.is, ends_length held.first held.last (held.clients ++ held.spare), eight_held) in
      subst (λ (n : ℕ). n < length old) (sym at) (subst (λ (n : ℕ). place_of m.promoted < n) (sym ten) (place_within m.promoted))

-- after a run the disk at the place of the server's own is another one, with the same images and arms
module _ {D : Type 0} (medium : Medium D) (handed old : List D) (fresh : AreFresh medium handed) (place : ℕ) (was now : D)
    (here : was ≡ get_or old place was) (images : SameImages (medium.may_leave was) (medium.may_leave now))
    (arms : (counts_on medium now).arms ≡ (counts_on medium was).arms) (m : Machine) (at : place ≡ place_of m.promoted)
    (keeps : DisksKeep medium handed old m) where
  abbrev before : DisksHold medium handed old m
  before = keeps.holds

  abbrev rest : List D
  rest = before.clients ++ before.spare

  abbrev first : D
  first = first_after m.promoted now before.first

  abbrev last : D
  last = last_after m.promoted now before.last

  changed : slice_set old place now ≡ with_ends first last rest
  changed =
      (λ i. slice_set (before.is i) (at i) now)
      ∙ set_own before.first before.last rest (eight_held medium handed old fresh m keeps) m.promoted now

  was_own : was ≡ own_of m.promoted before.first before.last
  was_own =
      here ∙ (λ i. get_or (before.is i) (at i) was)
      ∙ own_there before.first before.last rest (eight_held medium handed old fresh m keeps) m.promoted was

  list_now : (promoted : Bool) (one other : D) (commits : List Commit) (doubt : Option (List Commit))
      → was ≡ own_of promoted one other → HoldsServer promoted (medium.may_leave one) (medium.may_leave other) commits doubt
      → HoldsServer promoted (medium.may_leave (first_after promoted now one)) (medium.may_leave (last_after promoted now other)) commits
      doubt
  list_now false one other commits None own holds =
      (λ image leaves. holds.0 image (subst (λ (d : D). medium.may_leave d image) own (images.was image leaves)), holds.1)
  list_now false one other commits (Some after) own holds =
      λ image second leaves there.
      holds image second (subst (λ (d : D). medium.may_leave d image) own (images.was image leaves)) there
  list_now true one other commits None own holds =
      λ image leaves. holds image (subst (λ (d : D). medium.may_leave d image) own (images.was image leaves))
  list_now true one other commits (Some after) own holds =
      λ image leaves. holds image (subst (λ (d : D). medium.may_leave d image) own (images.was image leaves))

  abbrev holds_changed : DisksHold medium handed (slice_set old place now) m
  holds_changed = record {
    first = first;
    clients = before.clients;
    spare = before.spare;
    last = last;
    is = changed;
    list = list_now m.promoted before.first before.last m.server.durable m.server.doubt was_own before.list;
    longer = before.longer;
    each = before.each;
    first_handed = before.first_handed;
    front = before.front;
    last_handed = before.last_handed;
    was = before.was;
    aligned = before.aligned;
  }

  -- if the two begin with these commits, they still do
  begins_now : (promoted : Bool) (one other : D) (commits : List Commit) → was ≡ own_of promoted one other
      → ServerBegins medium promoted commits one other
      → ServerBegins medium promoted commits (first_after promoted now one) (last_after promoted now other)
  begins_now false one other commits own begins = record {
    of_last = begins.of_last;
    of_first = λ none. record { each = λ image leaves. (rw (← own) at (begins.of_first none)).each image (images.was image leaves) };
  }
  begins_now true one other commits own begins = record {
    of_last = record { each = λ image leaves. (rw (← own) at begins.of_last).each image (images.was image leaves) };
    of_first = begins.of_first;
  }

  other_is : counts_on medium (other_of m.promoted before.first before.last) ≡ counts_on medium (other_of m.promoted first last)
  other_is = ap (counts_on medium) (sym (other_after m.promoted now before.first before.last))

  own_is : own_of m.promoted first last ≡ now
  own_is = own_after m.promoted now before.first before.last

  counts_as : (own : Counts) → counts_on medium (own_of m.promoted before.first before.last) ≡ own
      → CountsServer own (counts_on medium (other_of m.promoted first last)) m
  counts_as own is =
      subst (λ (c : Counts × Counts). CountsServer c.0 c.1 m) (λ i. (is i, other_is i)) keeps.counted.server

  -- no read of it failed
  pub keeps_read : Stayed (counts_on medium was).faults (counts_on medium now).faults
      → DisksKeep medium handed (slice_set old place now) m
  keeps_read stayed =
      let same : counts_on medium now ≡ counts_on medium was = (λ i. record { faults = stayed i; arms = arms i }) in
      record {
        holds = holds_changed;
        counted = record {
          server = counts_as (counts_on medium (own_of m.promoted first last))
              (ap (counts_on medium) (sym was_own) ∙ sym same ∙ ap (counts_on medium) (sym own_is));
          between = keeps.counted.between;
        };
      }

  pub begins_read : (stayed : Stayed (counts_on medium was).faults (counts_on medium now).faults)
      → ServerBegins medium m.promoted m.server.durable before.first before.last
      → ServerBegins medium m.promoted m.server.durable (keeps_read stayed).holds.first (keeps_read stayed).holds.last
  unfolding keeps_read
  begins_read stayed begins = begins_now m.promoted before.first before.last m.server.durable was_own begins

  -- or one did
  pub keeps_unread : Rose (counts_on medium was).faults (counts_on medium now).faults
      → DisksKeepUnread medium handed (slice_set old place now) m
  keeps_unread rose = record {
    holds = holds_changed;
    before = medium.faults was;
    rose = subst (λ (d : D). Rose (medium.faults was) (medium.faults d)) (sym own_is) rose;
    server = counts_as (record { faults = medium.faults was; arms = medium.arms (own_of m.promoted first last) })
        (ap (counts_on medium) (sym was_own)
        ∙ (λ i. record { faults = medium.faults was; arms = (sym arms ∙ ap medium.arms (sym own_is)) i }));
    between = keeps.counted.between;
  }

  pub reads_changed : medium.reads now ≡ server_reads medium (slice_set old place now) m
  reads_changed =
      sym (
      ap (λ (ds : List D). server_reads medium ds m) changed
      ∙ ap (reads_if medium) (got_own first last rest (eight_held medium handed old fresh m keeps) m.promoted)
      ∙ ap medium.reads own_is
      )

-- memory ran out later
pub keeps_stay : {D : Type 0} (medium : Medium D) (handed back : List D) (later : List Event) (m : Machine)
    (keeps : DisksKeep medium handed back m)
    → ServerBegins medium m.promoted m.server.durable keeps.holds.first keeps.holds.last → DisksStay medium handed back later m
keeps_stay medium handed back later m keeps begins =
    let holds = keeps.holds in
    let others = holds.clients ++ holds.spare in
    record {
      first = holds.first;
      used = holds.clients;
      spare = holds.spare;
      last = holds.last;
      is = holds.is;
      counted =
          since_then medium m holds.first holds.last holds.first holds.last (two_same medium holds.first holds.last) others others
          keeps.counted (unarmed medium others);
      begins =
          begins_or medium m.server.durable m.promoted (promotes_next later) holds.first holds.last begins;
      first_handed = holds.first_handed;
      front = holds.front;
      last_handed = holds.last_handed;
      was = holds.was;
      aligned = holds.aligned;
      few = omega (arith, each_length (KeepsClient medium) holds.clients m.clients holds.each);
    }

-- and then the disk could not be read
module _ {D : Type 0} (medium : Medium D) (handed old : List D)
    (fresh : AreFresh medium handed) (place : ℕ) (was now : D) (here : was ≡ get_or old place was)
    (images : SameImages (medium.may_leave was) (medium.may_leave now)) (arms : (counts_on medium now).arms ≡ (counts_on medium was).arms)
    (wrote : List ℕ → Type 0) (disk : Machine → List ℕ) (events : List Event)
    (ran : RanAll (map (counts_on medium) handed) (DisksKeepAt medium handed old place) events) (written : wrote []) where
  abbrev now_in : List D
  now_in = slice_set old place now

  pub unsaved_did : (T : Type 0) (fault : DiskFault)
      → CountsFault {T = T} (Err fault) (counts_on medium was).faults (counts_on medium now).faults
      → Did (map (counts_on medium) handed) wrote (DisksKeep medium handed now_in) (DisksStay medium handed now_in)
      (DisksKeepUnread medium handed now_in) disk Save (ended_by_read fault) events
  unsaved_did T reading.NoMemory stayed = record {
    did =
        all_did (map (counts_on medium) handed) (DisksKeepAt medium handed old place) events ran (DisksStay medium handed now_in)
        (λ later m it.
        keeps_stay medium handed now_in later m (keeps_read medium handed old fresh place was now here images arms m it.at it.keeps stayed)
        (begins_read medium handed old fresh place was now here images arms m it.at it.keeps stayed it.begins));
    written = written;
  }
  unsaved_did T reading.Failed rose = record {
    ran =
        ran_as (map (counts_on medium) handed) (DisksKeepAt medium handed old place) events ran (DisksKeepUnread medium handed now_in)
        (λ m it. keeps_unread medium handed old fresh place was now here images arms m it.at it.keeps rose);
    written = written;
  }
