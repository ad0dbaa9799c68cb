-- Events that are done one by one.
use Rattle.std.proofs.Common.{◌≡◌, ℕ, suc, ◌+◌, ◌<◌, ◌≤◌, List, [], ◌∷◌, ◌++◌, length, map, take, drop, slice_index_or}
use Rattle.std.proofs.Common.{Option, Some, None, true}
use Rattle.std.proofs.Common.{refl, sym, ap, subst, ◌∙◌, append_assoc, add-one, inl, inr, arith}
use Rattle.std.proofs.lemmas.List.{append-nil, drop_more, length-append, length-map, take_all, take-append-drop}
use Rattle.std.proofs.Common.{◌||◌, Bool, false}
use Rattle.std.proofs.Math.Seq.{drop-cons, take-suc}
use Rattle.std.specs.Io.KnownBytes.{Appends}
use Rattle.std.proofs.KnownBytes.{Appends-trans}
use Rattle.iot_disk.specs.Disk.{Medium}
use Rattle.iot_event.specs.Declarations.{AreDeclared}
use Rattle.iot_event.specs.declared.event.Event.{Event}
use Rattle.iot_machine.specs.Machine.{Machine, handed as before_all}
use Rattle.iot_machine.specs.Nodes.{Counts, opened}
use Rattle.iot_machine.specs.Events.{event_part}
use Rattle.iot_machine.specs.Transcript.{Opening, InTurn, Transcript}
use Rattle.iot_world.specs.Allowed.{IsAllowed}
use Rattle.iot_world.specs.Disks.{AreFresh, AreTwoUnarmed, CountOn, HasEnds, ServerBegins, counts_between, counts_on, other_of, own_of}
use Rattle.iot_world.specs.Disks.{with_ends, SameOrRose, IsUnarmed}
use Rattle.iot_world.specs.Allowed.{promotes}
use Rattle.iot_world.specs.World.{StandsFor, IsWorldOf, IsWorldOfSome, EventSteps, DeclaredOn, client_count, script_names, disks_of}
use Rattle.iot_world.specs.World.{Each, Opens, KeepsDisks, SameArms, GivesBack, joined_by}
use Rattle.iot_world.specs.declared.world.World.{World}
use Rattle.iot_world.proofs.AllowedLaws as worlds
use Rattle.iot_world.proofs.BeginsLaws.{begins_or}
use Rattle.iot_world.proofs.HoldingLaws.{used_first, eight_spare, eight_counts, disks_hold, disks_count, placed_in}
use Rattle.iot_world.proofs.HoldingLaws.{still_begins_at, world_begins}
use Rattle.iot_world.proofs.PlacesLaws.{ends_as, server_list}
use Rattle.iot_world.specs.Disks.{CountsServer, place_of}
use Rattle.iot_world.specs.Prelude.{Client, HasPlaces}
use Rattle.iot_world.specs.World.{with_clients}
use Rattle.iot_world.proofs.DeclaringLaws.{handed_are}
use Rattle.iot_world.proofs.HoldingLaws.{clients_before}
use Rattle.iot_world.proofs.ListLaws.{each_length}
use Rattle.iot_app.specs.Keeping.{DisksKeep, DisksKeepAt, DisksSince, CountsSince, DisksStay, ServerSince, promotes_next}
use Rattle.iot_app.specs.Played.{Reported, DidFirst, WroteFirst, WroteCut, CutsOpening, Played}
use Rattle.iot_app.specs.Running.{IsOpened, StaysIn}
use Rattle.iot_app.specs.declared.status.Status.{Status}
use Rattle.iot_app.specs.declared.status.Status.TheVariants as statuses

-- one more event in turn
InTurn-append : (events : List Event) (event : Event) (m n o : Machine) (text more : List ℕ)
    → InTurn events m text tt n → event_part event n more tt o → InTurn (events ++ event ∷ []) m (text ++ more) tt o
InTurn-append [] event m n o text more front last = record {
  mid = o;
  front = more;
  rest = [];
  answer = tt;
  second = (refl, refl);
  first = subst (λ (s : Machine). event_part event s more tt o) front.1 last;
  whole = ap (λ (t : List ℕ). t ++ more) front.0 ∙ sym (append-nil more);
}
InTurn-append (first ∷ events) event m n o text more front last = record {
  mid = front.mid;
  front = front.front;
  rest = front.rest ++ more;
  answer = front.answer;
  first = front.first;
  second = InTurn-append events event front.mid n o front.rest more front.second last;
  whole = ap (λ (t : List ℕ). t ++ more) front.whole ∙ append_assoc front.front front.rest more;
}

-- one more event of a transcript
transcript_more : (handed : List Counts) (events : List Event) (event : Event) (m n : Machine) (text more : List ℕ)
    → Transcript handed events text m → event_part event m more tt n → Transcript handed (events ++ event ∷ []) (text ++ more) n
transcript_more handed events event m n text more told last = record {
  mid = told.mid;
  front = told.front;
  rest = told.rest ++ more;
  answer = told.answer;
  first = told.first;
  second = InTurn-append events event told.mid m n told.rest more told.second last;
  whole = ap (λ (t : List ℕ). t ++ more) told.whole ∙ append_assoc told.front told.rest more;
}

-- a transcript of no events is what the opening says
transcript_none : (handed : List Counts) (m : Machine) (text : List ℕ) → Opening (before_all handed) text tt m
    → Transcript handed [] text m
transcript_none handed m text opens = record {
  mid = m;
  front = text;
  rest = [];
  answer = tt;
  first = opens;
  second = (refl, refl);
  whole = sym (append-nil text);
}

-- ---- the disks meanwhile

swapped : (a b c d : ℕ) → SameOrRose (a + b) (c + d) → SameOrRose (b + a) (d + c)
swapped a b c d it =
    let one : a + b ≡ b + a = omega arith in
    let other : c + d ≡ d + c = omega arith in
    subst (λ (n : ℕ). SameOrRose n (d + c)) one (subst (λ (n : ℕ). SameOrRose (a + b) n) other it)

counts_eight : (m : Machine) → length m.clients + length m.spare ≡ 8 → length (counts_between m) ≡ 8
counts_eight m eight =
    length-append (map (λ (client : Client). client.node.counts) m.clients) m.spare
    ∙ ap (λ (n : ℕ). n + length m.spare) (length-map m.clients (λ (client : Client). client.node.counts)) ∙ eight

-- the server's two are the first and the last
server_there : {D : Type 0} (medium : Medium D) (world : World D) → HasPlaces world.server
    → (first : D) × (last : D) × (disks_of world ≡ with_ends first last (with_clients world.clients.items [] ++ world.spare.items))
server_there medium world it = (
  it.first,
  it.last,
  server_list medium world.server it.promoted it.first it.last it.has (with_clients world.clients.items world.spare.items)
      ∙ ap (λ (ds : List _). with_ends it.first it.last ds) (clients_before world.clients.items world.spare.items),
)

-- nothing was done to them
pub keeps_same : {D : Type 0} (world : World D) → KeepsDisks world world
keeps_same world = record { has = λ had. had; taken = []; spare = refl }

-- they were kept, and then kept again
pub keeps_then : {D : Type 0} (old mid new : World D) → KeepsDisks old mid → KeepsDisks mid new → KeepsDisks old new
keeps_then old mid new first second = record {
  has = λ had. second.has (first.has had);
  taken = first.taken ++ second.taken;
  spare = first.spare ∙ ap (λ ds. first.taken ++ ds) second.spare ∙ sym (append_assoc first.taken second.taken new.spare.items);
}

module _ {D : Type 0} (medium : Medium D) where
  each_since : (was now : List D) → Each (IsUnarmed medium) was now → Each (CountsSince medium) (map (counts_on medium) was) now
  each_since [] [] all = tt
  each_since [] (d ∷ ds) all = absurd all
  each_since (d ∷ ds) [] all = absurd all
  each_since (d ∷ ds) (e ∷ es) all = (record { arms = all.0.arms; faults = all.0.faults }, each_since ds es all.1)

  pub unarmed : (disks : List D) → Each (IsUnarmed medium) disks disks
  unarmed [] = tt
  unarmed (d ∷ ds) = (record { arms = refl; faults = inl refl }, unarmed ds)

  pub two_same : (first last : D) → AreTwoUnarmed medium first last first last
  two_same first last = record { first_arms = refl; last_arms = refl; faults = inl refl }

  -- the server's two have counted this, and were not armed since
  module _ (m : Machine) (first last new_first new_last : D) (two : AreTwoUnarmed medium first last new_first new_last) where
    server_by : (promoted : Bool)
        → CountsServer (counts_on medium (own_of promoted first last)) (counts_on medium (other_of promoted first last)) m
        → ServerSince medium (own_of promoted new_first new_last) (other_of promoted new_first new_last) m
    server_by false counted = record {
      arms = two.first_arms ∙ ap (λ (c : Counts). c.arms) (sym counted.both);
      beside = two.last_arms ∙ sym counted.beside;
      faults = subst (λ (n : ℕ). SameOrRose n (medium.faults new_first + medium.faults new_last))
          (ap (λ (c : Counts). c.faults) (sym counted.both)) two.faults;
    }
    server_by true counted = record {
      arms = two.last_arms ∙ ap (λ (c : Counts). c.arms) (sym counted.both);
      beside = two.first_arms ∙ sym counted.beside;
      faults = subst (λ (n : ℕ). SameOrRose n (medium.faults new_last + medium.faults new_first))
          (ap (λ (c : Counts). c.faults) (sym counted.both))
          (swapped (medium.faults first) (medium.faults last) (medium.faults new_first) (medium.faults new_last) two.faults);
    }

    pub since_then : (was now : List D) → CountOn medium m first last was → Each (IsUnarmed medium) was now
        → DisksSince medium m new_first new_last now
    since_then was now counted each = record {
      server = server_by m.promoted counted.server;
      between = subst (λ (cs : List Counts). Each (CountsSince medium) cs now) counted.between (each_since was now each);
    }

  module _ (is_image : (disk : D) → medium.may_leave disk (medium.reads disk)) (world : World D) (m : Machine)
      (stands : StandsFor medium world m) where
    abbrev others : List D
    others = with_clients world.clients.items [] ++ world.spare.items

    abbrev first : D
    first = (placed_in medium world m stands).first

    abbrev last : D
    last = (placed_in medium world m stands).last

    counted : CountOn medium m first last others
    counted = disks_count medium world m stands

    -- memory ran out between two events
    pub stays_as : (later : List Event) → StaysIn medium world later m
    stays_as later = record {
      ends = record { first = first; last = last; others = others; is = used_first medium world m stands };
      counted = since_then m first last first last (two_same first last) others others counted (unarmed others);
      begins =
          begins_or medium m.server.durable m.promoted (promotes_next later) first last (world_begins medium world m stands is_image);
      eight = eight_counts medium world m stands;
      spare = omega (arith, eight_spare medium world m stands);
    }

    -- or in the next one
    pub still_stays : (new : World D) (event : Event) (later : List Event)
        → SameArms medium (joined_by event) (promotes event) world new → StaysIn medium new (event ∷ later) m
    still_stays new event later arms =
        let was : CountOn medium m arms.each.was.first arms.each.was.last arms.each.was.others =
        ends_as (CountOn medium m) first last arms.each.was.first arms.each.was.last others arms.each.was.others
        (sym (used_first medium world m stands) ∙ arms.each.was.is) counted in
        record {
          ends = arms.each.now;
          counted =
              since_then m arms.each.was.first arms.each.was.last arms.each.now.first arms.each.now.last arms.each.server
              arms.each.was.others arms.each.now.others was arms.each.each;
          begins =
              still_begins_at medium is_image world new m (joined_by event) (promotes event) stands arms arms.each.now.first
              arms.each.now.last arms.each.now.others arms.each.now.is;
          eight = eight_counts medium world m stands;
          spare = omega (arith, eight_spare medium world m stands, arms.spare);
        }

-- a new world has opened over its disks
pub opened_on : {D : Type 0} (medium : Medium D) (disks : List D) (before after : List ℕ) (world : World D) → before ≡ []
    → Opens medium disks before after world → IsOpened medium (map (counts_on medium) disks) after world
opened_on medium disks before after world none opens = record {
  machine = opens.machine;
  step =
      subst (λ (t : List ℕ). Opening (before_all (map (counts_on medium) disks)) t tt opens.machine)
      (sym (opens.wrote ∙ ap (λ (t : List ℕ). t ++ opens.text) none)) opens.step;
  stands = opens.stands;
  no_clients = opens.no_clients;
  no_scripts = opens.no_scripts;
}

module _ {D : Type 0} (medium : Medium D) (disks : List D) (before world : World D) (x y : List ℕ)
    (opens : Opens medium disks x y before) (same : KeepsDisks before world) where
  -- those between the server's two
  abbrev others_now : List D
  others_now = with_clients world.clients.items [] ++ world.spare.items

  -- what its disks hold and have counted later
  pub disks_keep : ((disk : D) → medium.may_leave disk (medium.reads disk)) → (m : Machine) → StandsFor medium world m
      → DisksKeep medium disks (disks_of world) m
  disks_keep is_image m here = record {
    holds = disks_hold medium world m here is_image opens same;
    counted = disks_count medium world m here;
  }

  pub disks_keep_at : ((disk : D) → medium.may_leave disk (medium.reads disk)) → (place : ℕ)
      → ((m : Machine) → StandsFor medium world m → place ≡ place_of m.promoted) → (m : Machine) → StandsFor medium world m
      → DisksKeepAt medium disks (disks_of world) place m
  unfolding disks_keep
  disks_keep_at is_image place at m here = record {
    keeps = disks_keep is_image m here;
    at = at m here;
    begins = world_begins medium world m here is_image;
  }

  -- and what is known of them if memory ran out
  pub disks_stay : (later : List Event) (m : Machine) → StaysIn medium world later m → DisksStay medium disks (disks_of world) later m
  disks_stay later m stays =
      let it = server_there medium world (same.has opens.has).server in
      let is = it.2 in
      let counted : DisksSince medium m it.0 it.1 others_now =
      ends_as (DisksSince medium m) stays.ends.first stays.ends.last it.0 it.1 stays.ends.others others_now (sym stays.ends.is ∙ is)
      stays.counted in
      let between = each_length (CountsSince medium) (counts_between m) others_now counted.between in
      record {
        first = it.0;
        used = with_clients world.clients.items [];
        spare = world.spare.items;
        last = it.1;
        is = is;
        counted = counted;
        begins =
            ends_as (λ (one other : D) (xs : List D). ServerBegins medium (m.promoted || promotes_next later) m.server.durable one other)
            stays.ends.first stays.ends.last it.0 it.1 stays.ends.others others_now (sym stays.ends.is ∙ is) stays.begins;
        first_handed = opens.first;
        front = same.taken;
        last_handed = opens.last;
        was = opens.were ∙ ap (λ (ds : List D). with_ends opens.first opens.last ds) same.spare;
        aligned =
            omega (
              arith,
              between,
              counts_eight m stays.eight,
              length-append (with_clients world.clients.items []) world.spare.items,
              opens.stands.stands.eight,
              opens.no_clients,
              ap length same.spare,
              length-append same.taken world.spare.items,
            );
        few =
            omega (
              arith,
              between,
              counts_eight m stays.eight,
              length-append (with_clients world.clients.items []) world.spare.items,
              stays.spare,
            );
      }

-- ---- events in turn

-- the first so many events are done, and of what the opening and they say this holds
pub record PlaysOn {D : Type 0} (medium : Medium D) (handed : List Counts) (so : List ℕ → Type 0) (events : List Event) (world : World D)
    (done : ℕ) : Type 0 where
  pub text : List ℕ
  pub machine : Machine
  pub transcript : Transcript handed (take done events) text machine
  pub stands : IsWorldOf medium world machine
  pub said : so text
  pub declared : DeclaredOn (drop done events) world

-- nothing is done yet
pub plays_none : {D : Type 0} (medium : Medium D) (handed : List Counts) (so : List ℕ → Type 0) (events : List Event) (opening : List ℕ)
    (world : World D)
    → IsOpened medium handed opening world → AreDeclared events 0 [] → so opening → PlaysOn medium handed so events world 0
plays_none medium handed so events opening world is declared said = record {
  text = opening;
  machine = is.machine;
  transcript = transcript_none handed is.machine opening is.step;
  stands = is.stands;
  said = said;
  declared = rw (is.no_clients, is.no_scripts) declared;
}

-- the event that is done next, and the text that it is added to
module _ {D : Type 0} (medium : Medium D) (handed : List Counts) (so : List ℕ → Type 0) (events : List Event)
    (old new : World D) (done : ℕ) (event : Event) (before after : List ℕ)
    (plays : PlaysOn medium handed so events old done) (within : done < length events)
    (here : event ≡ slice_index_or events done event)
    (refines : EventSteps medium event old new before after) where
  front : take (done + 1) events ≡ take done events ++ event ∷ []
  front =
      ap (λ (k : ℕ). take k events) (add-one done) ∙ take-suc events done event within
      ∙ ap (λ (e : Event). take done events ++ e ∷ []) (sym here)

  rest : drop done events ≡ event ∷ drop (done + 1) events
  rest = drop_more events done event within ∙ ap (λ (e : Event). e ∷ drop (done + 1) events) (sym here)

  record Next : Type 0 where
    says : List ℕ
    machine : Machine
    is : after ≡ before ++ says
    last : event_part event plays.machine says tt machine
    stands : IsWorldOf medium new machine

  next : Next
  next =
      let step = refines.step plays.machine plays.stands in
      record { says = step.0; machine = step.1; is = step.2; last = step.3; stands = step.4 }

  -- it is done, and what it says is added
  pub plays_more : (so_then : List ℕ → Type 0)
      → ((later : List Event) → DeclaredOn (event ∷ later) old → DeclaredOn later new)
      → ((text says : List ℕ) → after ≡ before ++ says → so text → so_then (text ++ says))
      → PlaysOn medium handed so_then events new (done + 1)
  plays_more so_then declares adds = record {
    text = plays.text ++ next.says;
    machine = next.machine;
    transcript =
        subst (λ (es : List Event). Transcript handed es (plays.text ++ next.says) next.machine) (sym front)
        (transcript_more handed (take done events) event plays.machine next.machine plays.text next.says plays.transcript next.last);
    stands = next.stands;
    said = adds plays.text next.says next.is plays.said;
    declared = worlds.rest_declared events done event old plays.declared within here new declares;
  }

  -- it is done, and of its text, which is all that there is, only a front is written
  pub plays_cut : (wrote : List ℕ → Type 0) (count : ℕ) → before ≡ [] → count < length after
      → ((text : List ℕ) → so text → wrote (text ++ take count after))
      → WroteCut handed wrote (StandsFor medium new) events
  plays_cut wrote count none cut adds = record {
    earlier = take done events;
    event = event;
    later = drop (done + 1) events;
    split = sym (take-append-drop done events) ∙ ap (λ (es : List Event). take done events ++ es) rest;
    text = plays.text;
    before = plays.machine;
    transcript = plays.transcript;
    says = after;
    machine = next.machine;
    last =
        subst (λ (t : List ℕ). event_part event plays.machine t tt next.machine)
        (sym (next.is ∙ ap (λ (t : List ℕ). t ++ next.says) none)) next.last;
    count = count;
    cut = cut;
    written = adds plays.text plays.said;
    kept = next.stands.stands;
  }

module _ {D : Type 0} (medium : Medium D) (handed : List Counts) (so : List ℕ → Type 0) (events : List Event) (world : World D) where
  -- in other words of what holds of the text
  pub plays_as : (so_then : List ℕ → Type 0) (done : ℕ) → ((text : List ℕ) → so text → so_then text)
      → PlaysOn medium handed so events world done → PlaysOn medium handed so_then events world done
  plays_as so_then done means plays = record {
    text = plays.text;
    machine = plays.machine;
    transcript = plays.transcript;
    stands = plays.stands;
    said = means plays.text plays.said;
    declared = plays.declared;
  }

  -- some are done, and the world is of no more use
  plays_did : (done : ℕ) (plays : PlaysOn medium handed so events world done) (new : World D)
      → StaysIn medium new (drop done events) plays.machine → DidFirst handed (StaysIn medium new) events
  plays_did done plays new stays = record {
    done = done;
    text = plays.text;
    machine = plays.machine;
    transcript = plays.transcript;
    stayed = stays;
  }

  -- memory ran out in the next one
  module _ (is_image : (disk : D) → medium.may_leave disk (medium.reads disk)) (done : ℕ) (event : Event) (new : World D)
      (plays : PlaysOn medium handed so events world done) (within : done < length events)
      (here : event ≡ slice_index_or events done event) (arms : SameArms medium (joined_by event) (promotes event) world new) where
    pub plays_failed : DidFirst handed (StaysIn medium new) events
    plays_failed =
        plays_did done plays new
        (subst (λ (es : List Event). StaysIn medium new es plays.machine)
        (sym (drop-cons events done event within ∙ ap (λ (e : Event). e ∷ drop (suc done) events) (sym here)))
        (still_stays medium is_image world plays.machine plays.stands.stands new event (drop (suc done) events) arms))

    -- what was written before it is a transcript of those before it
    pub plays_first : WroteFirst handed so (StaysIn medium new) events
    unfolding plays_failed plays_did
    plays_first = record { did = plays_failed; written = plays.said }

  -- memory ran out after them
  pub plays_ended : ((disk : D) → medium.may_leave disk (medium.reads disk)) → (done : ℕ) → PlaysOn medium handed so events world done
      → DidFirst handed (StaysIn medium world) events
  plays_ended is_image done plays =
      plays_did done plays world (stays_as medium is_image world plays.machine plays.stands.stands (drop done events))

  -- all are done
  pub whole_transcript : (done : ℕ) (plays : PlaysOn medium handed so events world done) → length events ≤ done
      → Transcript handed events plays.text plays.machine
  whole_transcript done plays whole =
      subst (λ (es : List Event). Transcript handed es plays.text plays.machine) (take_all done events whole) plays.transcript

  pub plays_all : (done : ℕ) → length events ≤ done → PlaysOn medium handed so events world done
      → Reported handed so (StandsFor medium world) (λ transcript m. transcript) events
  plays_all done whole plays = record {
    ran = record {
      text = plays.text;
      machine = plays.machine;
      transcript = whole_transcript done plays whole;
      kept = plays.stands.stands;
    };
    written = plays.said;
  }

  -- the next event may come
  pub next_allowed : (done : ℕ) (event : Event) → PlaysOn medium handed so events world done → done < length events
      → event ≡ slice_index_or events done event
      → IsAllowed event (client_count world) (script_names world)
  next_allowed done event plays within here = worlds.next_allowed events done event world plays.declared within here

  -- in a world that stands for a machine
  pub plays_some : (done : ℕ) → PlaysOn medium handed so events world done → IsWorldOfSome medium world
  plays_some done plays = record { machine = plays.machine; stands = plays.stands }

-- ---- what is written

pub appends_none : (written : Option (List ℕ)) → Appends written written []
appends_none None = tt
appends_none (Some bytes) = sym (append-nil bytes)

-- when the opening was written, this is what was written with it, from the start
abbrev pub Follows : (opened : Option (List ℕ)) (opening : List ℕ) (now : Option (List ℕ)) → List ℕ → Type 0
Follows opened opening now text = (first : Option (List ℕ)) → Appends first opened opening → Appends first now text

-- what an event says is written behind what those before it said
pub appends_more : (first mid last : Option (List ℕ)) (before after : List ℕ) → before ≡ [] → Appends mid last after
    → (text says : List ℕ) → after ≡ before ++ says → Appends first mid text → Appends first last (text ++ says)
appends_more first mid last before after none written text says is earlier =
    Appends-trans first mid last text says earlier
    (subst (Appends mid last) (is ∙ ap (λ (t : List ℕ). t ++ says) none) written)

pub follows_more : (opened : Option (List ℕ)) (opening : List ℕ) (mid last : Option (List ℕ)) (before after : List ℕ) → before ≡ []
    → Appends mid last after → (text says : List ℕ) → after ≡ before ++ says → Follows opened opening mid text
    → Follows opened opening last (text ++ says)
follows_more opened opening mid last before after none written text says is earlier =
    λ first had. appends_more first mid last before after none written text says is (earlier first had)

-- ---- how it ends

-- the machine whose server has started over disks that count this, and has not stopped in that
abbrev started : List Counts → Machine
started counts = record (before_all counts) { server = opened (before_all counts).server }

starts : (counts : List Counts) → Transcript counts [] [] (started counts)
starts counts =
    transcript_none counts (started counts) []
    (record {
      mid = started counts;
      front = [];
      rest = [];
      answer = true;
      first = record { inner = opened (before_all counts).server; step = inl (refl, refl, refl); is = refl };
      second = (refl, refl);
      whole = refl;
    })

-- no event was done, and the disks came back
module _ {D : Type 0} (medium : Medium D) (disks back : List D) (events : List Event) (fresh : AreFresh medium disks)
    (gives : GivesBack medium disks back) where
  -- what they counted at first
  abbrev counts : List Counts
  counts = map (counts_on medium) disks

  abbrev was : HasEnds disks
  was = gives.unarmed.was

  abbrev now : HasEnds back
  now = gives.unarmed.now

  started_counts : (was : HasEnds disks) → CountOn medium (started counts) was.first was.last was.others
  started_counts was =
      let server = handed_are medium disks was.first was.last was.others was.is fresh in
      record {
        server = record {
          both = ap (λ (m : Machine). m.server.counts) server;
          beside = ap (λ (m : Machine). m.beside) server;
        };
        between = ap (λ (m : Machine). m.spare) (sym server);
      }

  pub none_did : DidFirst counts (DisksStay medium disks back) events
  none_did = record {
    done = 0;
    text = [];
    machine = started counts;
    transcript = starts counts;
    stayed = record {
      first = now.first;
      used = [];
      spare = now.others;
      last = now.last;
      is = now.is;
      counted =
          since_then medium (started counts) was.first was.last now.first now.last gives.unarmed.server was.others now.others
          (started_counts was) gives.unarmed.each;
      begins = record { of_last = gives.begins.of_last; of_first = λ none. gives.begins.of_first refl };
      first_handed = was.first;
      front = [];
      last_handed = was.last;
      was = was.is ∙ ap (λ (ds : List D). with_ends was.first was.last ds) (sym gives.same);
      aligned = refl;
      few = omega arith;
    };
  }

  pub none_played : (written : Option (List ℕ))
      → WroteFirst counts (Appends written written) (DisksStay medium disks back) events
  unfolding none_did
  none_played written = record { did = none_did; written = appends_none written }

-- what is known of the disks, in other words
pub did_as : (handed : List Counts) (one other : List Event → Machine → Type 0) (events : List Event)
    → ((later : List Event) (m : Machine) → one later m → other later m) → DidFirst handed one events → DidFirst handed other events
did_as handed one other events means did = record {
  done = did.done;
  text = did.text;
  machine = did.machine;
  transcript = did.transcript;
  stayed = means (drop did.done events) did.machine did.stayed;
}

-- what they hold, in other words
module _ (handed : List Counts) (wrote : List ℕ → Type 0) (one other : Machine → Type 0) (events : List Event)
    (means : (m : Machine) → one m → other m) where
  pub reported_as : (says : List ℕ → Machine → List ℕ) → Reported handed wrote one says events → Reported handed wrote other says events
  reported_as says reported = record {
    ran = record {
      text = reported.ran.text;
      machine = reported.ran.machine;
      transcript = reported.ran.transcript;
      kept = means reported.ran.machine reported.ran.kept;
    };
    written = reported.written;
  }

  cut_as : WroteCut handed wrote one events → WroteCut handed wrote other events
  cut_as cut = record {
    earlier = cut.earlier;
    event = cut.event;
    later = cut.later;
    split = cut.split;
    text = cut.text;
    before = cut.before;
    transcript = cut.transcript;
    says = cut.says;
    machine = cut.machine;
    last = cut.last;
    count = cut.count;
    cut = cut.cut;
    written = cut.written;
    kept = means cut.machine cut.kept;
  }

  opening_as : CutsOpening handed wrote one → CutsOpening handed wrote other
  opening_as cut = record {
    says = cut.says;
    machine = cut.machine;
    opens = cut.opens;
    front = cut.front;
    kept = means cut.machine cut.kept;
  }

pub holds_as : (handed : List Counts) (status : Status) (wrote : List ℕ → Type 0) (one other : Machine → Type 0)
    (stays so : List Event → Machine → Type 0) (events : List Event)
    → ((m : Machine) → one m → other m) → ((later : List Event) (m : Machine) → stays later m → so later m)
    → Played handed status wrote one stays events → Played handed status wrote other so events
unfolding did_as
holds_as handed statuses.Done wrote one other stays so events means after played =
    reported_as handed wrote one other events means (λ transcript m. transcript) played
holds_as handed statuses.Refused wrote one other stays so events means after played = absurd played
holds_as handed statuses.Usage wrote one other stays so events means after played = absurd played
holds_as handed statuses.ReadFailed wrote one other stays so events means after played = absurd played
holds_as handed statuses.WriteFailed wrote one other stays so events means after (inl played) =
    inl (opening_as handed wrote one other events means played)
holds_as handed statuses.WriteFailed wrote one other stays so events means after (inr played) =
    inr (cut_as handed wrote one other events means played)
holds_as handed statuses.NoMemory wrote one other stays so events means after played =
    record { did = did_as handed stays so events after played.did; written = played.written }
holds_as handed statuses.SaveFailed wrote one other stays so events means after played = absurd played
