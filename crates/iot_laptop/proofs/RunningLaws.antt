-- A call on a transaction that runs first makes it yield; and how one begins, makes a step, and ends.
use Rattle.{std.proofs.Common.◌+◌, iot_acts.specs.Traces.ActsHold}
use Rattle.iot_changes.specs.declared.changes.Change.TheVariants.{Acted, Again, Begun, Ended}
use Rattle.iot_client.specs.Calls.{CanAct, CutsOffEnd, CutsOffNext, Differs, EndIs, IsSoOfRun}
use Rattle.iot_client.specs.Calls.{StepIs, joining, lives_after, next_acts, other_lives, starting, with_live, yielded, yielded_to}
use Rattle.iot_client.specs.declared.{ended.Ended.Ended as EndedIs, steps.Step.Step}
use Rattle.iot_kept.{proofs.SyncedLaws.synced_numbered, specs.States.view}
use Rattle.iot_laptop.proofs.CallsLaws.{Called, Known, answered_so, from_known, goes_trails, known_was, notes_at, notes_halt, unless_done}
use Rattle.iot_laptop.proofs.Common.{Asks, Bool, CanFollow, ChangesClasses, Client, ClientFault, ClientStands, Code, CutsOff, Declared}
use Rattle.iot_laptop.proofs.Common.{EndsAlone, Err, Halt, IfOk, IfOk-at_ok, IfOk-weaker, IsErrOf, IsScript, Item, KeepsTrails, KeptLive}
use Rattle.iot_laptop.proofs.Common.{Laptop, LaptopStands, List, Live, Medium, NoMemory, None, Notes, NotesAlone, Ok, OnOk, Option, Over}
use Rattle.iot_laptop.proofs.Common.{Reclassed, Result, Some, State, StateKept, StepsTo, Stopped, Transaction, UnlessNoMemory, acts_output}
use Rattle.iot_laptop.proofs.Common.{after, answers, ap, append-nil, arith, asks, at_each, at_one, bind, disk_of, does, done, false, joined}
use Rattle.iot_laptop.proofs.Common.{live_in, live_numbered, live_of, numbered, quiet, records_of, refl, rules, same_Some, second_class}
use Rattle.iot_laptop.proofs.Common.{stamps_by, stamps_in, stamps_of, stands_so, state_by, state_in, state_of, subst, sym, transaction_name}
use Rattle.iot_laptop.proofs.{Common.true, Common.ℕ, Common.[], Common.◌++◌, Common.◌∙◌, Common.◌∷◌, Common.◌≡◌, NodesLaws.reclasses}
use Rattle.iot_laptop.specs.Alone.{CertifiesAlone, ComparesAlone, StartsAlone, YieldsAlone, change_by, set_class, yielding}
use Rattle.iot_laptop.specs.Below.{Compared, Same, has_any, option_map}
use Rattle.iot_laptop.specs.Calls.{Begins, IsGoneIfAny, NextIs, TakesStep, acts_by, certified_if, compared_if}
use Rattle.iot_machine.{proofs.StepsLaws.gets, specs.Calls.Answers, specs.Calls.unless_over, specs.Clients.act_once, specs.Clients.begin}
use Rattle.{iot_machine.specs.Machine.classed, iot_node.specs.Steps.EndsBy, iot_standing.proofs.KeptLaws.acted_live}
use Rattle.iot_standing.proofs.KeptLaws.{again_live, begun_live, ended_live, parts as reads_part, same_reads, yielded_live, yields}
use Rattle.iot_standing.proofs.RunsLaws.{SoOf, kept_as, kept_both, number_found, own_number, so_of}
use Rattle.iot_standing.proofs.StatesLaws.{acts_is, next_is, one_is}
use Rattle.iot_standing.specs.{Kept.RunningKept, States.RunningStands}
use Rattle.iot_tree.specs.declared.{acts.Act.Act, labels.OnConflict.OnConflict as OnConflictNamed, questions.Question.Question}
use Rattle.iot_machine.specs.Clients as clients
use Rattle.iot_machine.specs.Machine as machine
use Rattle.iot_client.proofs.TrailsLaws as client
use Rattle.iot_client.specs.declared.steps.Step.TheVariants as steps
use Rattle.iot_client.specs.declared.ended.Ended.TheVariants as ends
use Rattle.iot_machine.specs.Transactions as compares
use Rattle.iot_laptop.specs.Alone as alones

-- ---- one yields

-- those of first class then
abbrev pub first_then : (number : ℕ) → machine.Client → List ℕ
first_then number m = yields number (has_any m.node.durable.items) m.first

-- one that is first class then has yielded to none
second_of : (number : ℕ) (running : List Transaction) (lives : List Live) (live : Live)
    → live_numbered number running (with_live number second_class running lives) ≡ Some live → live.first ≡ false
second_of number (it ∷ running) (one ∷ lives) live found = grind (arith, second_of number running lives live)
second_of number running lives live found = absurd cc

pub none_waits : (items : List Item) (number : ℕ) (running : List Transaction) (lives : List Live) (live : Live)
    → live_numbered number running (yielded_to items number running lives) ≡ Some live → live.first ≡ true → items ≡ []
none_waits [] number running lives live found first = refl
none_waits (item ∷ items) number running lives live found first = cc (second_of number running lives live found)

-- ---- it begins

module _ {D : Type 0} {medium : Medium D} {laptop : Laptop D} {was now : Client D} {answer : Result ℕ ClientFault} {new : Laptop D}
    {x y : List ℕ} {result : Result ℕ Halt} (call : Called medium laptop was now answer new x y result) where
  abbrev given : ℕ
  given = (state_of was).last + 1

  pub begins : (script : Declared) (option : OnConflictNamed) (first : Bool) → IsScript script.code
      → IfOk answer (λ number. number ≡ (state_of was).last + 1) → IfOk answer (λ number. Notes (Begun number script.name option) was now)
      → OnOk answer (live_of now ≡ live_of was ++ record { first = first; code = Some script.code } ∷ [])
      → (IsErrOf answer Stopped → CutsOff (Begun given script.name option) (state_of was) (records_of was) (medium.may_leave (disk_of now)))
      → Begins medium script option first laptop new x y result
  begins script option first script_is numbers notes lives stops scripts on_conflict named has same = record { is = by result refl }
    where
      later : List Live
      later = live_of was ++ record { first = first; code = Some script.code } ∷ []

      kept : (m : machine.Client) → Known medium scripts (state_of was) (live_of was) laptop m
          → CanFollow (state_of was) (Begun given script.name option)
          → KeptLive scripts (after (state_of was) (Begun given script.name option)) later (classed given first m.first)
          (begin script on_conflict m.node.durable)
      kept m here follows =
          subst (λ (n : ℕ). KeptLive scripts (after (state_of was) (Begun given script.name option)) later (classed n first m.first)
          (begin script on_conflict m.node.durable)) (sym (ap (λ (n : ℕ). n + 1) here.kept.kept.last))
          (begun_live here.kept (synced_numbered medium was.kept call.was_tied.synced) given script option first on_conflict follows
          script_is same named has)

      asked : StepsTo (LaptopStands medium scripts) (LaptopStands medium scripts) (Asks (λ m. m.node.durable.last + 1)) laptop laptop x x
          given
      asked = asks (λ m here. ap (λ (n : ℕ). n + 1) (known_was call scripts m here).kept.kept.last)

      by : (r : Result ℕ Halt) → result ≡ r
          → EndsBy (LaptopStands medium scripts) (ClientStands medium scripts) (StartsAlone script on_conflict first) laptop new x y r
      by (Ok t) is =
          let ok = answered_so call t is in
          let its : t ≡ given = IfOk-at_ok _ ok numbers in
          rw its
          (bind {a = given} asked
          (bind {a = (Some tt)}
          (from_known call scripts new y (Some tt)
          (notes_at call scripts (live_of was) later (begin script on_conflict) (classed given first) (Begun given script.name option) kept
          t is (rw its at (IfOk-at_ok _ ok notes)) (IfOk-at_ok _ ok lives)))
          (gets (λ m here. (refl, here)))))
      by (Err NoMemory) is = tt
      by (Err Over) is =
          bind {a = given} asked
          (bind {a = None}
          (from_known call scripts new y None
          (notes_halt call scripts (live_of was) later (begin script on_conflict) (classed given first) (Begun given script.name option)
          kept is (stops (call.goes.stopped is))))
          (answers (λ m here. here)))

-- ---- a call on one that runs, which is first to yield

module _ {D : Type 0} (was : Client D) (number : ℕ) where
  abbrev s : State
  s = state_of was

  abbrev known : List Live
  known = yielded number s (live_of was)

  abbrev OfRun : (Transaction → Bool → Code → Type 0) → Type 0
  OfRun Is = SoOf Is (numbered number s.running) (live_numbered number s.running known)

  module _ {T : Type 0} {medium : Medium D} {laptop : Laptop D} {now : Client D} {answer : Result T ClientFault} {new : Laptop D}
      {x y : List ℕ} {result : Result T Halt} (call : Called medium laptop was now answer new x y result) where
    module _ (scripts : List Declared) (m : machine.Client) (here : LaptopStands medium scripts laptop m) where
      -- what is known of it, once it has yielded in the client of the machine
      pub known_then : KeptLive scripts s known (first_then number m) m.node.durable
      known_then = yielded_live (known_was call scripts m here).kept number (synced_numbered medium was.kept call.was_tied.synced)

      -- so it is if the client of the machine has yielded, and the laptop has not yet
      pub known_yielded : Known medium scripts s known laptop (yielding number m)
      known_yielded = search (rules, known_then)

      -- one that the client finds is the one that the machine finds
      pub found_then : (it : clients.Running) → clients.numbered number m.node.durable ≡ Some it → (own : Transaction) (live : Live)
          → numbered number s.running ≡ Some own → live_numbered number s.running known ≡ Some live
          → RunningStands own live (first_then number m) it
      found_then it runs own live is lives =
          let run = one_is s known (first_then number m) m.node.durable (stands_so known_then) number it runs in
          rw (← same_Some run.own own (sym run.is ∙ is), ← same_Some run.besides live (sym run.lives ∙ lives)) run.stands

    pub yields_at : (scripts : List Declared)
        → StepsTo (LaptopStands medium scripts) (Known medium scripts s known) (YieldsAlone number) laptop laptop x x tt
    yields_at scripts = does (λ m here. (sym (append-nil x), known_yielded scripts m here))

  -- ---- it makes a step

  module _ {medium : Medium D} {laptop : Laptop D} {now : Client D} {answer : Result Step ClientFault} {new : Laptop D} {x y : List ℕ}
      {result : Result Step Halt} (call : Called medium laptop was now answer new x y result)
      (does : IfOk answer (λ step. IsSoOfRun (λ it first code. StepIs was it first code step now) number s (live_of was)))
      (lives : OnOk answer (live_of now ≡ known))
      (stops : IsErrOf answer Stopped → IsSoOfRun (λ it first code. CutsOffNext it first code s (records_of was)
      (medium.may_leave (disk_of now))) number s (live_of was)) where
    -- an act of what runs
    acts : {Is : Transaction → Bool → Code → Type 0} (it : OfRun Is) (act : Act) → CanAct it.own it.besides.first it.code
        → next_acts it.own it.code ≡ act ∷ [] → (scripts : List Declared) (m : machine.Client) → Known medium scripts s known laptop m
        → CanFollow s (Acted it.own.number act)
        → KeptLive scripts (after s (Acted it.own.number act)) known m.first (act_once number m.node.durable)
    acts it act can next scripts m here follows = acted_live here.kept number it.own it.besides it.code it.is it.lives it.has act can next

    -- the step that was done, of what ran
    stepped : (step : Step) → result ≡ Ok step → OfRun (λ it first code. StepIs was it first code step now)
    stepped step ok = so_of _ _ _ (IfOk-at_ok _ (answered_so call step ok) does)

    -- the act in which it stopped
    halted : result ≡ Err Over → OfRun (λ it first code. CutsOffNext it first code s (records_of was) (medium.may_leave (disk_of now)))
    halted same = so_of _ _ _ (stops (call.goes.stopped same))

    -- nothing but its class is another
    stays : (step : Step) → result ≡ Ok step → ChangesClasses was now → Reclassed medium (yielding number) laptop new × (y ≡ x)
    stays step ok same =
        let done : answer ≡ Ok step = answered_so call step ok in (
          rw (IfOk-at_ok _ ok call.goes.same) (reclasses call.up same (IfOk-at_ok _ done call.tied) (first_then number)
              (λ scripts m here. IfOk-at_ok _ done lives ∙ (known_then call scripts m here).runs)),
          IfOk-at_ok _ ok call.goes.silent,
        )

    pub steps_by : (r : Result Step Halt) → result ≡ r → TakesStep medium number laptop new x y r
    steps_by (Ok (steps.Acted acts_done ended)) same =
        let it = stepped (steps.Acted acts_done ended) same in λ scripts.
        let notes = notes_at call scripts known known (act_once number) (λ b. b) (Acted it.own.number it.so.act)
        (acts it it.so.act it.so.can it.so.next scripts) _ same it.so.notes (IfOk-at_ok _ (answered_so call _ same) lives) in
        record { is = bind {a = tt} (yields_at call scripts) notes }
    steps_by (Ok (steps.Fetch request path)) same =
        let it = stepped (steps.Fetch request path) same in
        let kept = stays (steps.Fetch request path) same it.so.1.stays in
        let after : live_in new ≡ known = ap live_in (IfOk-at_ok _ same call.goes.same) ∙ IfOk-at_ok _ (answered_so call _ same) lives in
        let state : state_in new ≡ s = kept.0.state ∙ ap state_by call.up in
        let stamps : stamps_in new ≡ stamps_of was = kept.0.stamps ∙ ap stamps_by call.up in (
          kept.0,
          kept.1,
          rw (kept.0.place, ← call.placed, stamps) it.so.0,
          rw (state, after, it.lives) it.so.1.first_class,
          ap (λ (s : State). s.items) state ∙ none_waits s.items number s.running (live_of was) it.besides it.lives it.so.1.first_class,
        )
    steps_by (Ok (steps.AtEnd acts)) same = stays (steps.AtEnd acts) same (stepped (steps.AtEnd acts) same).so.2
    steps_by (Ok (steps.AtLimit acts)) same = stays (steps.AtLimit acts) same (stepped (steps.AtLimit acts) same).so.3
    steps_by (Err NoMemory) same = λ scripts. record { is = tt }
    steps_by (Err Over) same =
        let it = halted same in λ scripts.
        let halts = notes_halt call scripts known known (act_once number) (λ b. b) (Acted it.own.number it.so.act)
        (acts it it.so.act it.so.can it.so.next scripts) same it.so.cuts_off in
        record { is = bind {a = tt} (yields_at call scripts) halts }

    -- so is what the machine does next
    pub next_by : (r : Result Step Halt) → result ≡ r → NextIs medium number laptop r
    next_by (Ok step) same = λ scripts m it here runs.
        let so = stepped step same in
        next_is so.own so.besides (first_then number m) it
        (found_then call scripts m here it runs so.own so.besides so.is so.lives) so.code so.has was now step so.so
    next_by (Err NoMemory) same = tt
    next_by (Err Over) same = λ scripts m it here runs.
        let so = halted same in
        acts_is so.own so.besides (first_then number m) it
        (found_then call scripts m here it runs so.own so.besides so.is so.lives) so.code so.has so.so.can

    -- a server's stamps are kept
    pub step_trails : UnlessNoMemory (done result) (KeepsTrails laptop new)
    step_trails = unless_done _ result (goes_trails call (IfOk-weaker answer _ _ (λ step is.
        let so : OfRun (λ it first code. StepIs was it first code step now) = so_of _ _ _ is in
        client.step_trails medium was now so.own so.besides.first so.code step call.was_tied so.so) does) result refl)

  -- ---- it ends

  module _ {medium : Medium D} {laptop : Laptop D} {now : Client D} {answer : Result EndedIs ClientFault} {new : Laptop D} {x y : List ℕ}
      {result : Result EndedIs Halt} (call : Called medium laptop was now answer new x y result) (output : List ℕ)
      (does : IfOk answer (λ ended. IsSoOfRun (λ it first code. EndIs was it first code ended now) number s (live_of was)))
      (lives : IfOk answer (λ ended. live_of now ≡ lives_after ended number s.running known))
      (stops : IsErrOf answer Stopped → IsSoOfRun (λ it first code. CutsOffEnd it code s (records_of was)
      (medium.may_leave (disk_of now))) number s (live_of was)) where
    did : (ended : EndedIs) → result ≡ Ok ended → OfRun (λ it first code. EndIs was it first code ended now)
    did ended ok = so_of _ _ _ (IfOk-at_ok _ (answered_so call ended ok) does)

    module _ (scripts : List Declared) (own : Transaction) (found : numbered number s.running ≡ Some own) where
      -- the one that is certified is the one that the machine finds; it is compared with what is kept, and what was found is noted
      certifies : {after_it : Laptop D → machine.Client → Type 0} {z : List ℕ} {end : Laptop D} (what : Compared)
          (noted : Option (Unit {0}))
          → ((k : machine.Client) → StateKept s k.node.durable → (it : clients.Running) → RunningKept own it
          → ComparesAlone it k [] what k)
          → StepsTo (Known medium scripts s known) after_it (NotesAlone (change_by number what)) laptop end x z noted
          → StepsTo (LaptopStands medium scripts) after_it (CertifiesAlone number) laptop end x z (option_map (λ _. what) noted)
      certifies {after_it} {z} {end} what noted makes notes = at_each (λ m here.
          let there : Known medium scripts s known laptop (yielding number m) = known_yielded call scripts m here in
          let kept = there.kept.kept in
          let k = kept_as number s.running m.node.durable.running kept.running own found in
          joined (quiet {P = LaptopStands medium scripts} {a = Some k.it} m (refl, sym k.is, refl) here)
          (rw (number_found number m.node.durable.running k.it k.is)
          (joined (quiet {P = Known medium scripts s known} {a = tt} (yielding number m) (refl, refl) there)
          (joined (quiet {P = Known medium scripts s known} {a = what} (yielding number m) (makes _ kept k.it k.kept) there)
          (at_one (bind {a = noted} notes (goes noted)) there)))))
        where
          goes : (a : Option (Unit {0}))
              → StepsTo after_it after_it (unless_over (λ _. Answers (Some what)) a) end end z z (option_map (λ _. what) a)
          goes None = answers (λ m here. here)
          goes (Some u) = answers (λ m here. here)

      -- what holds on the view, ..
      same_there : CanFollow s (Ended own.number) → (k : machine.Client) → StateKept s k.node.durable → (it : clients.Running)
          → RunningKept own it → ComparesAlone it k [] Same k
      same_there follows k kept it run =
          let holds : ActsHold (view s) own.acts = rw (own_number number s.running own found, found) at follows in
          alones.same (same_reads s k.node.durable kept own it run holds) refl refl refl

      -- .. and what parts there
      parts_there : (read : ℕ) (question : Question) → Differs (view s) own read question → (k : machine.Client)
          → StateKept s k.node.durable → (it : clients.Running) → RunningKept own it
          → ComparesAlone it k [] (compares.Differs read question) k
      parts_there read question differs k kept it run =
          alones.parts read question (reads_part s k.node.durable kept own it run read question differs) refl refl refl

    -- it is certified, or stops in that
    pub ends_by : (r : Result EndedIs Halt) → result ≡ r → (scripts : List Declared)
        → EndsAlone medium scripts (CertifiesAlone number) laptop new x y (compared_if (certified_if laptop.name output r))
    ends_by (Ok (ends.Joined tid class)) ok scripts =
        let so = did (ends.Joined tid class) ok in
        let notes = notes_at call scripts known (other_lives number s.running known) (clients.end number) (λ b. b) (Ended so.own.number)
        (λ m here. ended_live here.kept number so.own so.besides so.code so.is so.lives so.has so.so.2.may) _ ok so.so.2.notes
        (IfOk-at_ok _ (answered_so call _ ok) lives) in
        record { is = certifies scripts so.own so.is Same (Some tt) (same_there scripts so.own so.is so.so.2.notes.follows) notes }
    ends_by (Ok (ends.Again read question)) ok scripts =
        let so = did (ends.Again read question) ok in
        let there = parts_there scripts so.own so.is read question so.so.differs in
        let notes = notes_at call scripts known known (clients.again number) (λ b. b) (Again so.own.number)
        (λ m here follows. again_live here.kept number so.own so.is) _ ok so.so.notes (IfOk-at_ok _ (answered_so call _ ok) lives) in
        record { is = certifies scripts so.own so.is (compares.Differs read question) (Some tt) there notes }
    ends_by (Err NoMemory) over scripts = record { is = tt }
    ends_by (Err Over) over scripts = record { is = by so.so }
      where
        so : OfRun (λ it first code. CutsOffEnd it code s (records_of was) (medium.may_leave (disk_of now)))
        so = so_of _ _ _ (stops (call.goes.stopped over))

        by : CutsOffEnd so.own so.code s (records_of was) (medium.may_leave (disk_of now))
            → StepsTo (LaptopStands medium scripts) (ClientStands medium scripts) (CertifiesAlone number) laptop new x y None
        by (joining may cut) =
            certifies scripts so.own so.is Same None (same_there scripts so.own so.is cut.follows)
            (notes_halt call scripts known (other_lives number s.running known) (clients.end number) (λ b. b) (Ended so.own.number)
            (λ m here. ended_live here.kept number so.own so.besides so.code so.is so.lives so.has may) over cut)
        by (starting read question may differs cut) =
            certifies scripts so.own so.is (compares.Differs read question) None (parts_there scripts so.own so.is read question differs)
            (notes_halt call scripts known known (clients.again number) (λ b. b) (Again so.own.number)
            (λ m here follows. again_live here.kept number so.own so.is) over cut)

    -- ---- what is told of one that waits then

    pub is_gone : output ≡ acts_output (acts_by (numbered number (state_in laptop).running)) → (r : Result EndedIs Halt) → result ≡ r
        → IfOk (certified_if laptop.name output r) (IsGoneIfAny medium number laptop)
    is_gone printed (Ok (ends.Joined tid class)) ok = λ scripts m it here runs.
        let so = did (ends.Joined tid class) ok in
        let same = kept_both number s.running m.node.durable.running (known_then call scripts m here).kept.running so.own so.is it runs in
        let stands = found_then call scripts m here it runs so.own so.besides so.is so.lives in
        record {
          name = λ i. transaction_name (here.name i) ((so.so.0 ∙ same.number) i);
          class = so.so.1 ∙ stands.class;
          did = (rw (call.up, so.is) at printed) ∙ ap acts_output same.acts;
        }
    is_gone printed other is = tt

    -- a server's stamps are kept
    pub end_trails : UnlessNoMemory (compared_if (certified_if laptop.name output result)) (KeepsTrails laptop new)
    end_trails = by _ result (goes_trails call (IfOk-weaker answer _ _ (λ ended is.
        let so : OfRun (λ it first code. EndIs was it first code ended now) = so_of _ _ _ is in
        client.end_trails medium was now so.own so.besides.first so.code ended call.was_tied so.so) does) result refl)
      where
        by : (P : Type 0) (r : Result EndedIs Halt) → UnlessNoMemory r P
            → UnlessNoMemory (compared_if (certified_if laptop.name output r)) P
        by P (Ok (ends.Joined tid class)) so = so
        by P other so = so
