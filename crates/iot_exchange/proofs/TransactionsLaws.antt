-- Transactions begin, are stepped and end as those of the machine: which one is meant, what it does, having yielded if transactions wait,
-- and what one sees of it.
use Rattle.std.proofs.lemmas.{Bool.eq-eqb, Bool.leb-false, Bool.leb-true, Option.slice_get_past, Option.slice_get_read}
use Rattle.std.specs.{Prelude.if◌then◌else◌, Prelude.leb, Prelude.option_map, Slice.IsItemAt}
use Rattle.iot_client.specs.{Calls.is_over_if_any, Calls.live_numbered, Calls.may_end_if_any, Ties.Live}
use Rattle.iot_exchange.proofs.Common.{Answers, Asks, Bool, Bor, Both, Client}
use Rattle.iot_exchange.proofs.Common.{ClientState, Compared, Declared, Does, DoesFrom, Err, Goes, Halt, IsErrAnd, Item, ItemsStand, Keeps}
use Rattle.iot_exchange.proofs.Common.{KeepsDisk, KeepsDisks, Laptop, LaptopStands, List, Medium, NoMemory, Nodes, None, Notes, Ok, Option}
use Rattle.iot_exchange.proofs.Common.{Over, Pair, Reclassed, Repeats, Result, Same, ServerNode, Some, Stage, Step, Steps, Tells, Then}
use Rattle.iot_exchange.proofs.Common.{Try, UpStands, Yields, act_once, after_acts, ap, append-nil, codes, disk_in, done, false, find, kept}
use Rattle.iot_exchange.proofs.Common.{length, line, line_of, map, not, option_copied, pends, refl, same_Some, slice_get, state_in, subst}
use Rattle.iot_exchange.proofs.Common.{sym, transaction_name, true, two, unless_over, yield_if, yielding, ℕ, [], ◌++◌, ◌-◌, ◌∙◌, ◌∷◌, ◌≡◌}
use Rattle.iot_exchange.proofs.DoesLaws.{Certifying, OfEach, answers, asks_then, by_client, certifying, each_from, goes_from, goes_then}
use Rattle.iot_exchange.proofs.DoesLaws.{hands_on, in_place, keeps_more, keeps_then, no_memory, noted, still, tells, then_does, yields_pair}
use Rattle.iot_exchange.proofs.{DoesLaws.yields_then, FirstLaws.SameStage, FirstLaws.resolved, FirstLaws.same_stage}
use Rattle.iot_exchange.proofs.StepsLaws.{also_from, answers_from, asks_from, gets_from, refuses_from, says_from}
use Rattle.iot_exchange.specs.{Queues.EndsAloud, Queues.ended_as, Saying.place_said}
use Rattle.iot_inspect.specs.declared.waiting.RunLine.{RunLine}
use Rattle.iot_judging.proofs.NextLaws.{is_at_end, is_at_limit, is_next}
use Rattle.iot_kept.specs.{Memory.classes_of, Memory.transaction, Memory.transactions, States.Transaction, States.numbered}
use Rattle.iot_laptop.specs.Calls.{IsGoneIfAny, IsNext, NextIs, TakesStep, meant_in}
use Rattle.iot_laptop.specs.{Laptops.live_in, declared.needs.Gone.Gone}
use Rattle.iot_machine.proofs.GroupingLaws.{looked, looks, regrouped, then_also}
use Rattle.iot_machine.specs.Clients.{Acts, AtEnd, AtLimit, Next, Running, has_number, meant, next_away, next_by, next_step, so_far}
use Rattle.iot_machine.specs.Events.{Closes, ReadsOf, StepsAloud, place_text, run_line, running_in, said_of, says_reads, step_text}
use Rattle.iot_machine.specs.{Machine.is_first, Recorded.items_kept, Recorded.queue_kept, Recorded.stage_kept, Texts.again_line}
use Rattle.iot_machine.specs.{Texts.begin_line, Texts.end_line, Texts.fetch_line, Texts.queue_text, Texts.step_line, Transactions.Differs}
use Rattle.iot_machine.specs.Transactions.{Ended, Ends, Refuses, certifies, end_by, ended_of, ends_by, fetched, next_of, step_by, step_of}
use Rattle.{iot_machine.specs.Transactions.syncs_or_waits, iot_standing.proofs.RunsLaws.RunsAs, iot_standing.proofs.RunsLaws.number_found}
use Rattle.iot_standing.proofs.StatesLaws.{ended_is, first_is, found_stands, may_end_is, none_is, none_yields, numbered_is}
use Rattle.iot_standing.specs.States.{IsOver, IsUnended, RunStand, next_as}
use Rattle.iot_tree.specs.{Tree.Path, declared.limits.TheConstants.ACT_LIMIT, declared.questions.Question.Question}
use Rattle.iot_queue.specs.declared.items.Stage.TheVariants as stages
use Rattle.iot_machine.specs.Clients as clients
use Rattle.iot_kept.specs.declared.running.Running as kept_running
use Rattle.iot_laptop.specs.declared.needs.Certified.TheVariants as told
use Rattle.iot_machine.proofs.StepsLaws as calls

-- ---- the transactions that wait

stage_is : {stage : Stage} {m : clients.Stage} → SameStage stage m → stage ≡ stage_kept m
stage_is (resolved it) = (λ i. stages.Resolved (record { script = it.name i; budget = it.budget i; kept = it.kept i; acts = it.acts i }))
stage_is same = refl

items_are : (items : List Item) (t : Nodes) (ms : List clients.Item) → ItemsStand items t ms → items ≡ items_kept t ms
items_are [] t [] it = refl
items_are (item ∷ items) t (m ∷ ms) it =
    let rest = items_are items (after_acts t item.acts) ms it.1 ∙ ap (λ (u : Nodes). items_kept u ms) it.0.tree in
    let stage = stage_is (same_stage item.stage m.stage it.0.stage) in
    rw (← rest, ← it.0.acts, ← it.0.number, ← it.0.name, ← it.0.budget, ← it.0.option, ← stage)
items_are items t ms it = absurd it

pub queue_are : (items : List Item) (t : Nodes) (m : ClientState) → t ≡ m.held → ItemsStand items t m.items → items ≡ queue_kept m
queue_are items t m held it = items_are items t m.items it ∙ ap (λ (u : Nodes). items_kept u m.items) held

-- ---- those that run

-- a line for each
lines_are : (rs : List kept_running.Running) (lives : List Live) (m : Client) (ms : List clients.Running)
    → classes_of rs ≡ map (λ live. live.first) lives → RunStand (transactions rs) lives m.first ms → map line_of rs ≡ map (run_line m) ms
lines_are [] [] m [] classes stand = refl
lines_are (r ∷ rs) (live ∷ lives) m (it ∷ ms) classes stand =
    let here = stand.0 in
    let rest = lines_are rs lives m ms (cc) stand.1 in
    cc
lines_are rs lives m ms classes stand = absurd stand

-- an element that is lent is the one at its place
lent_element : {A : Type 0} (xs : List A) (place : ℕ) (o : Option (Bor A)) → IsItemAt xs place o → option_copied o ≡ slice_get xs place
lent_element xs place None it = sym (slice_get_past xs place it.3)
lent_element xs place (Some x) it = sym (slice_get_read xs (length xs) place x.now refl it.3.0 it.1)

queue_is : {D : Type 0} {medium : Medium D} {scripts : List Declared} {laptop : Laptop D} {m : Client}
    → LaptopStands medium scripts laptop m → (state_in laptop).items ≡ queue_kept m.node.durable
queue_is {laptop = laptop} {m} here =
    queue_are (state_in laptop).items (state_in laptop).held m.node.durable here.state.held here.state.items

-- all of them are said
pub says_queue : {D : Type 0} (medium : Medium D) (laptop : Laptop D) (x : List ℕ) {y : List ℕ} (rs : List kept_running.Running)
    (lines : List RunLine) → transactions rs ≡ (state_in laptop).running → classes_of rs ≡ map (λ live. live.first) (live_in laptop)
    → lines ≡ map line_of rs → y ≡ x ++ queue_text laptop.name (state_in laptop).items lines → (scripts : List Declared) (m : Client)
    → LaptopStands medium scripts laptop m → y ≡ x ++ queue_text m.name (queue_kept m.node.durable) (running_in m)
says_queue medium laptop x rs lines run classes are wrote scripts m here =
    let its_lines = are ∙ lines_are rs (live_in laptop) m m.node.durable.running classes (rw run here.state.running) in
    wrote ∙ (λ i. x ++ queue_text (here.name i) (queue_is here i) (its_lines i))

-- the one at this place of those that wait, if so many do
pub reads_at : {D : Type 0} {medium : Medium D} {scripts : List Declared} {u v : Both D} {x y : List ℕ} {o : Option Item} (place : ℕ)
    {result : Result (Unit {0}) Halt} (items : List Item) (lent : Option (Bor Item)) → items ≡ (state_in u.laptop).items
    → IsItemAt items (place - 1) lent → option_copied lent ≡ o → Does medium scripts (says_reads o) u v x y result
    → Does medium scripts (ReadsOf place) u v x y result
reads_at place items lent are at is it = asks_then {next = says_reads} (λ names c pair here.
    sym is ∙ lent_element items (place - 1) lent at ∙ (λ i. slice_get ((are ∙ queue_is here.client.is) i) (place - 1))) it

-- ---- what was missed

module _ {D : Type 0} {medium : Medium D} {scripts : List Declared} {u v : Both D} {x : List ℕ} {loud : Bool} (path : Path)
    (keeps : KeepsDisks medium u v) where
  -- a run goes on
  pub fetched_quiet : (came : Bool) → loud ≡ false → Does medium scripts (fetched loud path came) v v x x (Ok true)
  fetched_quiet true quiet = rw quiet (answers keeps)
  fetched_quiet false quiet = rw quiet (answers keeps)

  -- steps that are asked for do if it came
  pub fetched_loud : {y : List ℕ} (came : Bool) → loud ≡ true → y ≡ x ++ fetch_line path (not came)
      → Does medium scripts (fetched loud path came) v v x y (Ok came)
  fetched_loud true aloud wrote = rw aloud (tells keeps (λ names c pair here. wrote))
  fetched_loud false aloud wrote = rw aloud (tells keeps (λ names c pair here. wrote))

-- ---- what is said of a transaction that runs

limit_by : (first : Bool) (it : clients.Running) (full : Bool) → full ≡ leb ACT_LIMIT it.acts → (so_far it).ended ≡ false
    → place_text (next_step first it) ≡ (if full then codes ", at limit" else [])
limit_by first it true is on = ap place_text (is_at_limit first it on (leb-true ACT_LIMIT it.acts (sym is)))
limit_by first it false is on =
    ap place_text (is_next first it on (leb-false ACT_LIMIT it.acts (sym is))) ∙ by first (next_away it)
  where
    by : (first : Bool) (away : Option Path) → place_text (next_by first away) ≡ []
    by true None = refl
    by first away = refl

place_by : (first : Bool) (it : clients.Running) (ended : Bool) → ended ≡ (so_far it).ended
    → place_text (next_step first it) ≡ place_said ended it.acts
place_by first it true is = ap place_text (is_at_end first it (sym is))
place_by first it false is = limit_by first it (leb ACT_LIMIT it.acts) refl (sym is)

module _ {D : Type 0} {medium : Medium D} {scripts : List Declared} {laptop : Laptop D} {m : Client}
    (here : LaptopStands medium scripts laptop m) (number : ℕ) (x y : List ℕ) where
  -- nothing is, if none has this number
  pub none_said : (text : clients.Running → List ℕ) → numbered number (state_in laptop).running ≡ None → y ≡ x
      → y ≡ x ++ said_of text (clients.numbered number m.node.durable)
  none_said text none same = rw (none_is _ _ _ _ here.state number none) (same ∙ sym (append-nil x))

  module _ (r : Transaction) (is : numbered number (state_in laptop).running ≡ Some r) where
    abbrev run_found : RunsAs number r (state_in laptop).running (live_in laptop) m.first m.node.durable.running
    run_found = found_stands _ _ _ _ here.state number r is

    pub begun_said : (first : Bool)
        → Some first ≡ option_map (λ live. live.first) (live_numbered number (state_in laptop).running (live_in laptop))
        → y ≡ x ++ begin_line (transaction_name laptop.name number) r.script first
        → y ≡ x ++ said_of (λ it. begin_line (transaction_name m.name number) it.script.name (is_first number m))
        (clients.numbered number m.node.durable)
    begun_said first class wrote =
        let k = run_found in
        let its_class : first ≡ is_first number m = same_Some _ _ (rw k.lives at class)
        ∙ (rw (number_found number m.node.durable.running k.it k.is) at k.stands.class) in
        rw k.is (wrote ∙ (λ i. x ++ begin_line (transaction_name (here.name i) number) (k.stands.name i) (its_class i)))

    pub stepped_said : y ≡ x ++ step_line (transaction_name laptop.name number) (length r.acts)
        (place_said (is_over_if_any (numbered number (state_in laptop).running)
        (live_numbered number (state_in laptop).running (live_in laptop))) (length r.acts))
        → y ≡ x ++ said_of (λ it. step_line (transaction_name m.name number) it.acts
        (place_text (next_step (is_first it.number m) it))) (clients.numbered number m.node.durable)
    stepped_said wrote =
        let k = run_found in
        rw k.is (cc (place_by (is_first k.it.number m) k.it _ (ended_is _ _ _ _ here.state number k.it k.is)))

-- ---- in a list

first_found : (it : Running) (running : List Running) → slice_get running 0 ≡ Some it → find (has_number it.number) running ≡ Some it
first_found it [] is = absurd cc
first_found it (first ∷ running) is = rw (same_Some first it is, eq-eqb it.number it.number refl)

meant_found : (which : Option ℕ) (s : ClientState) (it : Running) → meant which s ≡ Some it → clients.numbered it.number s ≡ Some it
meant_found (Some k) s it is = rw (← number_found k s.running it is) at is
meant_found None s it is = first_found it s.running is

-- the one that is meant is the one with its number
meant_as : (which : Option ℕ) (number : ℕ) (s : ClientState) (o : Option Running) → meant which s ≡ o
    → option_map (λ it. it.number) o ≡ Some number
    → (it : Running) × (meant which s ≡ Some it) × (clients.numbered number s ≡ Some it) × (it.number ≡ number)
meant_as which number s None is named = absurd cc
meant_as which number s (Some it) is named =
    let same = same_Some it.number _ named in (it, is, rw (← same) (meant_found which s it is), same)

none_named : (o : Option Running) → option_map (λ it. it.number) o ≡ None → o ≡ None
none_named None named = refl
none_named (Some it) named = absurd cc

-- ---- in each pair

module _ {D : Type 0} {medium : Medium D} {scripts : List Declared} {laptop : Laptop D} {m : Client}
    (here : LaptopStands medium scripts laptop m) where
  meant_is : (which : Option ℕ) → meant_in which (state_in laptop).running ≡ option_map (λ it. it.number) (meant which m.node.durable)
  meant_is (Some number) = numbered_is _ _ _ _ here.state number
  meant_is None = first_is _ _ _ _ here.state

module _ {D : Type 0} {medium : Medium D} {scripts : List Declared} {u : Both D} where
  -- none is meant
  pub none_meant : (which : Option ℕ) → meant_in which (state_in u.laptop).running ≡ None
      → OfEach medium scripts u (λ pair. None ≡ meant which (kept pair))
  none_meant which none names c pair here = sym (none_named (meant which (kept pair)) (sym (meant_is here.client.is which) ∙ none))

  -- this one is, in each pair for which the two stand
  pub for_meant : {A : Type 0} (which : Option ℕ) {number : ℕ} {next : Option Running → Try Pair A} {v : Both D} {x y : List ℕ}
      {result : Result A Halt} → meant_in which (state_in u.laptop).running ≡ Some number → KeepsDisks medium u v
      → ((names : List (List ℕ)) (c : ℕ) (pair : Pair) (it : Running) → UpStands medium scripts names c u pair
      → clients.numbered number (kept pair) ≡ Some it → it.number ≡ number
      → DoesFrom medium scripts names c (next (Some it)) pair v x y result)
      → Does medium scripts (Then (Asks (λ pair. meant which (kept pair))) next) u v x y result
  for_meant which is keeps each = each_from keeps (λ names c pair here.
      let r = meant_as which _ (kept pair) _ refl (sym (meant_is here.client.is which) ∙ is) in
      asks_from (sym r.1) (each names c pair r.0 here r.2 r.3))

-- ---- one that is lent

pub lent_run : {o p : Option (Bor kept_running.Running)} {q : Option Transaction} → option_map transaction (option_copied o) ≡ q → o ≡ p
    → q ≡ option_map transaction (option_copied p)
lent_run running is = sym running ∙ ap (λ o. option_map transaction (option_copied o)) is

-- ---- a pair that yields

-- only classes change
yields_of : {A : Type 0} (of : ClientState → A) (number : ℕ) (pair : Pair) (pends : Bool)
    → of (kept (yield_if number pends pair)) ≡ of (kept pair)
yields_of of number pair true = refl
yields_of of number pair false = refl

-- its next step then
next_yielded : (it : Running) (number : ℕ) (pair : Pair)
    → next_of it (yield_if number (pends pair) pair) ≡ next_step (is_first it.number (yielding number pair.client)) it
next_yielded it number pair = ap (next_of it) (sym (yields_pair number pair))

module _ {D : Type 0} {medium : Medium D} {old new : Laptop D} {server : ServerNode D} where
  -- so does the client
  pub yields_there : {scripts : List Declared} {names : List (List ℕ)} {c : ℕ} {pair : Pair} (number : ℕ)
      → Reclassed medium (yielding number) old new → UpStands medium scripts names c (two old server) pair
      → UpStands medium scripts names c (two new server) (yield_if number (pends pair) pair)
  yields_there {scripts} {names} {c} {pair} number it here =
      subst (UpStands medium scripts names c (two new server)) (yields_pair number pair)
      (in_place here (it.stands scripts pair.client here.client.is) it.place refl (rw it.stamps here.follows))

-- ---- steps

module _ {D : Type 0} {medium : Medium D} {scripts : List Declared} (number : ℕ) (loud : Bool) where
  -- none has this number
  module _ {u : Both D} where
    none_yielded : {names : List (List ℕ)} {c : ℕ} {pair : Pair} → clients.numbered number (kept pair) ≡ None
        → UpStands medium scripts names c u pair → UpStands medium scripts names c u (yield_if number (pends pair) pair)
    none_yielded {names} {c} {pair} none here =
        let it = here.client.is in
        let state = none_yields _ _ _ _ it.state number none in
        elim (pends pair) as (λ b. UpStands medium scripts names c u (yield_if number b pair)) [
          | false ↦ here
          | true ↦ in_place here
              (record { name = it.name; link = it.link; alive = it.alive; node = it.node; state = state; named = it.named })
              refl refl here.follows
        ]

    pub steps_none : {x : List ℕ} → numbered number (state_in u.laptop).running ≡ None → KeepsDisks medium u u
        → Does medium scripts (Steps number loud) u u x x (Ok false)
    steps_none none keeps = each_from keeps (λ names c pair here.
        let is = none_is _ _ _ _ here.client.is.state number none in
        gets_from tt _ (refl, refl)
        (asks_from (sym (yields_of (clients.numbered number) number pair (pends pair) ∙ is)) (answers_from (none_yielded is here))))

  module _ {old new : Laptop D} {server : ServerNode D} {r : Transaction} (runs : numbered number (state_in old).running ≡ Some r) where
    -- it only yields, and then the next step follows
    pub steps_by : {answer : Result Step Halt} {it step : Step} {w : Both D} {x y z : List ℕ} {result : Result Bool Halt} → answer ≡ Ok it
        → it ≡ step → NextIs medium number old answer → TakesStep medium number old new x y answer
        → (TakesStep medium number old new x y (Ok step) → Reclassed medium (yielding number) old new × (y ≡ x))
        → KeepsDisks medium (two old server) (two old server) → KeepsDisk medium (disk_in old) (disk_in new)
        → Does medium scripts (step_by number loud (next_as step)) (two new server) w y z result
        → Does medium scripts (Steps number loud) (two old server) w x z result
    steps_by was is next did only keeps more does = each_from (keeps_then (keeps_more keeps more) does.disks) (λ names c pair here.
        let one = found_stands _ _ _ _ here.client.is.state number r runs in
        let yielded = only (rw (was, is) at did) in
        let follows = (rw (was, is) at next) scripts pair.client one.it here.client.is one.is in
        gets_from tt _ (refl, refl)
        (asks_from {next = step_of number loud} (sym (yields_of (clients.numbered number) number pair (pends pair) ∙ one.is))
        (asks_from (sym (next_yielded one.it number pair ∙ follows))
        ((rw yielded.1 at does).step _ _ _ (yields_there number yielded.0 here)))))

    -- it does its next act, having yielded; or it stops in that
    pub acts_by : {x y : List ℕ} {result : Result Bool Halt} → IsNext medium number old Acts
        → Does medium scripts (Goes (Then (Yields number) (λ _. Notes (act_once number))) (λ _. Answers (Some true)))
        (two old server) (two new server) x y result → Does medium scripts (Steps number loud) (two old server) (two new server) x y result
    acts_by is does = each_from does.disks (λ names c pair here.
        let one = found_stands _ _ _ _ here.client.is.state number r runs in
        also_from (λ text o n step. then_also {other = λ _. Then (Asks (λ pair. clients.numbered number (kept pair))) (step_of number loud)}
        (λ a front rest mid yields acts.
        let found : clients.numbered number (kept mid) ≡ Some one.it =
        rw yields.1 (yields_of (clients.numbered number) number pair (pends pair) ∙ one.is) in
        let next : next_of one.it mid ≡ Acts =
        ap (next_of one.it) yields.1 ∙ next_yielded one.it number pair ∙ is scripts pair.client one.it here.client.is one.is in
        looks {next = step_of number loud} (sym found) (looks {next = step_by number loud} (sym next) acts)) (regrouped step))
        (does.step _ _ _ here))

    -- it stopped in an act, or memory ran out
    pub step_halted : {x y : List ℕ} {result : Result Step Halt} {outer : Result Bool Halt} {fault : Halt} → result ≡ Err fault
        → NextIs medium number old result → IsErrAnd outer (λ other. other ≡ fault) → KeepsDisks medium (two old server) (two old server)
        → Keeps medium old new (done result) → TakesStep medium number old new x y result
        → Does medium scripts (Steps number loud) (two old server) (two new server) x y outer
    step_halted {fault = NoMemory} was next is keeps own did = no_memory is (keeps_more keeps own.disk)
    step_halted {fault = Over} was next is keeps own did = acts_by (rw was at next) (hands_on refl is
        (by_client (yields_then number (act_once number)) keeps (rw was at own) ((rw was at did) scripts)))

-- the steps of the one that is meant, and what is said of it then
module _ {D : Type 0} {medium : Medium D} {scripts : List Declared} {u : Both D} (which : Option ℕ) {number : ℕ} (most : ℕ)
    (is : meant_in which (state_in u.laptop).running ≡ Some number) {v : Both D} {x : List ℕ} where
  pub aloud_by : {z : List ℕ} {result : Result (Unit {0}) Halt}
      → Does medium scripts (Goes (Repeats most (Steps number true)) (λ _. Closes (step_text number))) u v x z result
      → Does medium scripts (StepsAloud most which) u v x z result
  aloud_by does = for_meant which is does.disks (λ names c pair it here found same. rw same (does.step _ _ _ here))

-- ---- what becomes of one that is certified

-- that it ends is said, and it is synced or waits by its class
pub ends_aloud : {D : Type 0} {medium : Medium D} {scripts : List Declared} {u w : Both D} {x y z : List ℕ}
    {result : Result (Unit {0}) Halt} (gone : Gone) {b : Bool} → KeepsDisks medium u u → y ≡ x ++ end_line (ended_as gone).name
    → gone.first ≡ b → Does medium scripts (syncs_or_waits (ended_as gone) b) u w y z result
    → Does medium scripts (EndsAloud (ended_as gone)) u w x z result
ends_aloud {u = u} {x = x} {y} gone keeps wrote is it = then_does (λ names c. calls.says (λ pair here. wrote)) keeps (rw (← is) at it)

abbrev pub after_found : Ended → Compared → Try Pair (Unit {0})
after_found gone Same = EndsAloud gone
after_found gone (Differs read question) = Tells (λ _. again_line gone.name read question) (Some tt)

told_after : {pair n : Pair} {text : List ℕ} {b : Option (Unit {0})} (gone : Ended) (found : Compared) (o : Option (Unit {0}))
    → Then (unless_over (λ (_ : Unit {0}). Answers (Some found)) o) (unless_over (after_found gone)) pair text b n
    → unless_over (λ (_ : Unit {0}). after_found gone found) o pair text b n
told_after gone found None it = looked {next = unless_over (after_found gone)} refl it
told_after gone found (Some done) it = looked {next = unless_over (after_found gone)} refl it

-- what was found is noted, and then told
ends_noted : {pair n : Pair} {text : List ℕ} {b : Option (Unit {0})} (gone : Ended) (found : Compared)
    → Then (noted gone.number found) (unless_over (after_found gone)) pair text b n → ends_by gone found pair text b n
ends_noted gone Same it = then_also (λ o front rest mid first second. told_after gone Same o second) (regrouped it)
ends_noted gone (Differs read question) it =
    then_also (λ o front rest mid first second. told_after gone (Differs read question) o second) (regrouped it)

module _ {pair n : Pair} {text : List ℕ} {b : Option (Unit {0})} (number : ℕ) (it : Running)
    (found : clients.numbered number (kept pair) ≡ Some it) where
  certified : Goes (Certifying number) (after_found (ended_of it (yield_if it.number (pends pair) pair))) pair text b n
      → certifies it pair text b n
  certified whole =
      then_also (λ a front rest mid yields second.
      let here = rw (← yields.1) at second in
      looks refl (then_also (λ what front rest last compares more. ends_noted (ended_of it mid) what more) (regrouped here)))
      (regrouped (looked
      {next = λ o. Then (certifying o) (unless_over (after_found (ended_of it (yield_if it.number (pends pair) pair))))} found
      (regrouped whole)))

over_at : (it : Running) (next : Next) → IsOver next → end_by it next ≡ certifies it
over_at it AtEnd is = refl
over_at it AtLimit is = refl
over_at it next is = absurd is

unended_at : (it : Running) (next : Next) → IsUnended next → end_by it next ≡ Refuses (codes "not at end")
unended_at it AtEnd is = absurd is
unended_at it AtLimit is = absurd is
unended_at it next is = refl

module _ {D : Type 0} {medium : Medium D} {scripts : List Declared} {u : Both D} (which : Option ℕ) {number : ℕ}
    (is : meant_in which (state_in u.laptop).running ≡ Some number) {x : List ℕ} where
  -- it is not at its end
  pub not_ended : {y : List ℕ} → may_end_if_any (numbered number (state_in u.laptop).running)
      (live_numbered number (state_in u.laptop).running (live_in u.laptop)) ≡ false
      → KeepsDisks medium u u → y ≡ x ++ line (codes "not at end") → Does medium scripts (Ends which) u u x y (Err Over)
  not_ended may keeps wrote = for_meant which is keeps (λ names c pair it here found same.
      asks_from refl (rw (unended_at it (next_of it pair) ((may_end_is _ _ _ _ here.client.is.state number it found).1 may
      (is_first it.number pair.client))) (refuses_from wrote (still here))))

  module _ (may : may_end_if_any (numbered number (state_in u.laptop).running)
      (live_numbered number (state_in u.laptop).running (live_in u.laptop)) ≡ true) where
    -- it is certified, and this follows in each pair
    pub certified_then : {v : Both D} {z : List ℕ} {result : Result (Unit {0}) Halt} → KeepsDisks medium u v
        → ((names : List (List ℕ)) (c : ℕ) (pair : Pair) (it : Running) → UpStands medium scripts names c u pair
        → clients.numbered number (kept pair) ≡ Some it → it.number ≡ number → DoesFrom medium scripts names c
        (Goes (Certifying number) (after_found (ended_of it (yield_if it.number (pends pair) pair)))) pair v x z result)
        → Does medium scripts (Ends which) u v x z result
    certified_then keeps each = for_meant which is keeps (λ names c pair it here found same.
        asks_from refl (rw (over_at it (next_of it pair)
        ((may_end_is _ _ _ _ here.client.is.state number it found).0 may (is_first it.number pair.client)))
        (also_from (λ text o n step. certified number it found step) (each names c pair it here found same))))

    -- it has ended, this is what it was, and that is said
    pub end_joined : {v w : Both D} {y z : List ℕ} (gone : Gone) {inner : Result Compared Halt} {result : Result (Unit {0}) Halt}
        → inner ≡ Ok Same → IsGoneIfAny medium number u.laptop (told.Joined gone) → Does medium scripts (Certifying number) u v x y inner
        → Does medium scripts (EndsAloud (ended_as gone)) v w y z result → Does medium scripts (Ends which) u w x z result
    end_joined {v} {w} {y} {z} gone {result = result} was is_gone did more =
        certified_then (keeps_then did.disks more.disks) (λ names c pair it here found same.
        let e = is_gone scripts pair.client it here.client.is found in
        let told_as : Ended = ended_as gone in
        let yielded = ap (ended_of it) (yields_pair it.number pair) in
        let class = e.class ∙ ap (λ (n : ℕ). is_first it.number (yielding n pair.client)) (sym same) in
        let gone_is : (record told_as { number = it.number }) ≡ ended_of it (yield_if it.number (pends pair) pair) = cc in
        (goes_then {next = after_found (ended_of it (yield_if it.number (pends pair) pair))} was did
        (subst (λ (g : Ended). Does medium scripts (EndsAloud g) v w y z result) gone_is more)).step _ _ _ here)

    -- it starts again, which is said
    pub end_again : {v : Both D} {y z : List ℕ} (read : ℕ) (question : Question) {inner : Result Compared Halt}
        → inner ≡ Ok (Differs read question) → Does medium scripts (Certifying number) u v x y inner
        → z ≡ y ++ again_line (transaction_name v.laptop.name number) read question → Does medium scripts (Ends which) u v x z (Ok tt)
    end_again {v} {y} {z} read question was did wrote = certified_then did.disks (λ names c pair it here found same.
        goes_from {next = after_found (ended_of it (yield_if it.number (pends pair) pair))} was did here (λ after there.
        let yielded = yields_pair it.number pair in says_from (cc) there))
