-- What the state of a live client tells of the client of the machine for which it stands.
use Rattle.std.proofs.Common.{◌≡◌, ◌==◌, ◌≤◌, ◌<◌, ◌+◌, ◌||◌, ℕ, zero, suc, Bool, true, false, List, [], ◌∷◌, length, map, drop}
use Rattle.std.proofs.Common.{Option, Some, None, option_map, option_and_then, slice_get, refl, sym, ap, subst, ◌∙◌, arith}
use Rattle.std.proofs.lemmas.Bool.{leb-true, leb-false}
use Rattle.std.specs.List.{list_any}
use Rattle.std.specs.Prelude.{leb, option_map, unwrap_or}
use Rattle.std.specs.FinMap.{empty}
use Rattle.iot_tree.specs.Tree.{Nodes, Path}
use Rattle.iot_tree.specs.declared.acts.Act.{Act}
use Rattle.iot_tree.specs.declared.limits.TheConstants.{ACT_LIMIT}
use Rattle.iot_lang.specs.Code.{Code}
use Rattle.iot_acts.specs.Traces.{after_acts}
use Rattle.iot_exec.specs.Misses.{first_away}
use Rattle.iot_exec.specs.Runs.{run}
use Rattle.iot_exec.specs.declared.ran.Ran.{Ran}
use Rattle.iot_queue.specs.declared.items.Item.{Item}
use Rattle.iot_kept.specs.States.{Transaction, State, numbered, after_each, view}
use Rattle.iot_client.specs.Calls.{has_ended, may_end, by_code, is_over_if_any, may_end_if_any, live_numbered, second_class}
use Rattle.iot_client.specs.Calls.{CanAct, next_acts, missed, StepIs}
use Rattle.iot_client.specs.Ties.{Live, run_of}
use Rattle.iot_client.specs.declared.client.Client.{Client}
use Rattle.iot_client.specs.declared.steps.Step.{Step}
use Rattle.iot_machine.specs.Clients.{ClientState, plain_run, so_far, next_step, Acts, next_away, next_by}
use Rattle.iot_machine.specs.Machine.{classed}
use Rattle.iot_machine.specs.Transactions.{has_any}
use Rattle.iot_judging.proofs.NextLaws.{is_at_end, is_at_limit, is_next, ended_waits, full_waits}
use Rattle.iot_standing.specs.Kept.{ItemStands, ItemsStand}
use Rattle.iot_standing.specs.States.{RunningStands, StateStands, waits_of, IsOver, IsUnended, next_as}
use Rattle.iot_standing.proofs.RunsLaws.{FoundStand, found_stand, first_stand, found_number, Running, running_is, RunsAs, runs_as}
use Rattle.iot_standing.proofs.RunsLaws.{none_there, many_stand, any_stand, run_second, run_unyielded}
use Rattle.iot_machine.specs.Clients as clients
use Rattle.iot_client.specs.declared.steps.Step.TheVariants as steps

-- ---- the transactions that wait

pub items_are : (items : List Item) (t : Nodes) (ms : List clients.Item) → ItemsStand items t ms
    → after_each t items ≡ clients.after_items t ms
items_are [] t [] stand = refl
items_are (item ∷ items) t (m ∷ ms) stand =
    items_are items (after_acts t item.acts) ms stand.1 ∙ ap (λ (u : Nodes). clients.after_items u ms) stand.0.tree
items_are items t ms stand = absurd stand

pub waits_by : (items : List Item) (t : Nodes) (ms : List clients.Item) → ItemsStand items t ms → waits_of items ≡ has_any ms
waits_by [] t [] stand = refl
waits_by (item ∷ items) t (m ∷ ms) stand = refl
waits_by items t ms stand = absurd stand

pub view_of : (s : State) (m : ClientState) → s.held ≡ m.held → ItemsStand s.items s.held m.items → view s ≡ clients.view m
view_of s m held stand = items_are s.items s.held m.items stand ∙ ap (λ (t : Nodes). clients.after_items t m.items) held

-- the first item is the first transaction, and the others are the others
pub record HeadStands (t : Nodes) (item : Item) (items : List Item) (ms : List clients.Item) : Type 0 where
  pub first : clients.Item
  pub later : List clients.Item
  pub split : ms ≡ first ∷ later
  pub stands : ItemStands t item first
  pub rest : ItemsStand items (after_acts t item.acts) later

-- ---- the next step of a running transaction

-- one that has ended, or is at its limit, is over
over_by : (class : Bool) (it : clients.Running) (ended : Bool) → ended ≡ (so_far it).ended
    → (ended || leb ACT_LIMIT it.acts) ≡ true → IsOver (next_step class it)
over_by class it true is may = subst IsOver (sym (is_at_end class it (sym is))) tt
over_by class it false is may = subst IsOver (sym (is_at_limit class it (sym is) (leb-true ACT_LIMIT it.acts may))) tt

next_unended : (class : Bool) (away : Option Path) → IsUnended (next_by class away)
next_unended true (Some path) = tt
next_unended class away = tt

unended_by : (class : Bool) (it : clients.Running) (ended : Bool) → ended ≡ (so_far it).ended
    → (ended || leb ACT_LIMIT it.acts) ≡ false → IsUnended (next_step class it)
unended_by class it true is may = absurd cc
unended_by class it false is may =
    subst IsUnended (sym (is_next class it (sym is) (leb-false ACT_LIMIT it.acts may))) (next_unended class (next_away it))

waits_by_end : (it : clients.Running) (ended : Bool) → ended ≡ (so_far it).ended → (ended || leb ACT_LIMIT it.acts) ≡ true
    → it.acts ≤ ACT_LIMIT → plain_run it.script it.base ACT_LIMIT ≡ so_far it
waits_by_end it true is may few = ended_waits it (sym is) few
waits_by_end it false is may few = full_waits it (omega (arith, few, leb-true ACT_LIMIT it.acts may))

missed_is : (acts : List Act) (n : ℕ) → missed (drop n acts) ≡ option_and_then (λ act. first_away act.reads) (slice_get acts n)
missed_is [] zero = refl
missed_is [] (suc n) = refl
missed_is (act ∷ acts) zero = refl
missed_is (act ∷ acts) (suc n) = missed_is acts n

acts_next : (class : Bool) (away : Option Path) → (class ≡ true → away ≡ None) → next_by class away ≡ Acts
acts_next true away known = ap (next_by true) (known refl)
acts_next false away known = refl

-- of one with its base and as many acts
module _ (own : Transaction) (it : clients.Running) (base : own.base ≡ it.base) (acts : length own.acts ≡ it.acts) where
  run_is : (n : ℕ) → run_of own it.script.code n ≡ plain_run it.script it.base n
  run_is n = ap (λ (t : Nodes). run it.script.code empty t n) base

  pub so_far_is : run_of own it.script.code (length own.acts) ≡ so_far it
  so_far_is = run_is (length own.acts) ∙ ap (plain_run it.script it.base) acts

  pub has_ended_is : has_ended own it.script.code ≡ (so_far it).ended
  has_ended_is = ap (λ (ran : Ran). ran.ended) so_far_is

  pub next_acts_are : next_acts own it.script.code ≡ drop it.acts (plain_run it.script it.base (it.acts + 1)).acts
  next_acts_are =
      ap (λ (ran : Ran). drop (length own.acts) ran.acts) (run_is (length own.acts + 1))
      ∙ ap (λ (n : ℕ). drop n (plain_run it.script it.base (n + 1)).acts) acts

  may_is : may_end own it.script.code ≡ (has_ended own it.script.code || leb ACT_LIMIT it.acts)
  may_is = ap (λ (n : ℕ). has_ended own it.script.code || leb ACT_LIMIT n) acts

  -- if it may end, its next step is none, of whichever class it is
  pub is_over : may_end own it.script.code ≡ true → (class : Bool) → IsOver (next_step class it)
  is_over may class = over_by class it (has_ended own it.script.code) has_ended_is (sym may_is ∙ may)

  pub is_unended : may_end own it.script.code ≡ false → (class : Bool) → IsUnended (next_step class it)
  is_unended may class = unended_by class it (has_ended own it.script.code) has_ended_is (sym may_is ∙ may)

  -- if it may end, it does no more as one that waits
  pub over_waits : may_end own it.script.code ≡ true → it.acts ≤ ACT_LIMIT → plain_run it.script it.base ACT_LIMIT ≡ so_far it
  over_waits may few = waits_by_end it (has_ended own it.script.code) has_ended_is (sym may_is ∙ may) few

  away : missed (next_acts own it.script.code) ≡ next_away it
  away = ap missed next_acts_are ∙ missed_is (plain_run it.script it.base (it.acts + 1)).acts it.acts

  -- as it is of this class
  module _ (class : Bool) where
    on_to : has_ended own it.script.code ≡ false → length own.acts < ACT_LIMIT → next_step class it ≡ next_by class (next_away it)
    on_to on within = is_next class it (sym has_ended_is ∙ on) (subst (λ (n : ℕ). n < ACT_LIMIT) acts within)

    -- one that can act does so next
    acts_as : CanAct own class it.script.code → next_step class it ≡ Acts
    acts_as can = on_to can.goes_on can.within ∙ acts_next class (next_away it) (λ is. sym away ∙ can.known is)

    fetches_as : (path : Path) → has_ended own it.script.code ≡ false → length own.acts < ACT_LIMIT → class ≡ true
        → missed (next_acts own it.script.code) ≡ Some path → next_step class it ≡ clients.Fetches path
    fetches_as path on within is miss =
        on_to on within ∙ ap (λ (f : Bool). next_by f (next_away it)) is ∙ ap (next_by true) (sym away ∙ miss)

    at_limit_as : has_ended own it.script.code ≡ false → length own.acts ≡ ACT_LIMIT → next_step class it ≡ clients.AtLimit
    at_limit_as on full =
        is_at_limit class it (sym has_ended_is ∙ on) (subst (λ (n : ℕ). ACT_LIMIT ≤ n) (sym full ∙ acts) (omega arith))

    step_as : {D : Type 0} (old new : Client D) (step : Step) → StepIs old own class it.script.code step new
        → next_step class it ≡ next_as step
    step_as old new (steps.Acted acts over) is = acts_as is.can
    step_as old new (steps.Fetch request path) is = fetches_as path is.1.goes_on is.1.within is.1.first_class is.1.miss
    step_as old new (steps.AtEnd acts) is = is_at_end class it (sym has_ended_is ∙ is.0)
    step_as old new (steps.AtLimit acts) is = at_limit_as is.0 is.2

-- of one that stands for another, with the class that it has there
module _ (own : Transaction) (live : Live) (first : List ℕ) (it : clients.Running) (stands : RunningStands own live first it)
    (code : Code) (has : live.code ≡ Some code) where
  pub code_is : code ≡ it.script.code
  code_is = ap (λ (o : Option Code). by_default code o) (sym has ∙ stands.code)
    where
      by_default : Code → Option Code → Code
      by_default code None = code
      by_default code (Some other) = other

  pub next_is : {D : Type 0} (old new : Client D) (step : Step) → StepIs old own live.first code step new
      → next_step (list_any (λ n. n == it.number) first) it ≡ next_as step
  next_is old new step is =
      subst (λ (class : Bool). next_step class it ≡ next_as step) stands.class
      (step_as own it stands.base stands.acts live.first old new step
      (subst (λ (code : Code). StepIs old own live.first code step new) code_is is))

  pub acts_is : CanAct own live.first code → next_step (list_any (λ n. n == it.number) first) it ≡ Acts
  acts_is can =
      subst (λ (class : Bool). next_step class it ≡ Acts) stands.class
      (acts_as own it stands.base stands.acts live.first (subst (CanAct own live.first) code_is can))

  pub over_is : may_end own code ≡ true → (class : Bool) → IsOver (next_step class it)
  over_is may = is_over own it stands.base stands.acts (ap (may_end own) (sym code_is) ∙ may)

-- ---- a state

module _ (s : State) (lives : List Live) (first : List ℕ) (m : ClientState) (here : StateStands s lives first m) where
  -- what it sees
  pub view_is : view s ≡ clients.view m
  view_is = view_of s m here.held here.items

  pub waits_is : waits_of s.items ≡ has_any m.items
  waits_is = waits_by s.items s.held m.items here.items

  pub head_stands : (item : Item) (items : List Item) → s.items ≡ item ∷ items → HeadStands s.held item items m.items
  head_stands item items is = by m.items (subst (λ (queue : List Item). ItemsStand queue s.held m.items) is here.items)
    where
      by : (ms : List clients.Item) → ItemsStand (item ∷ items) s.held ms → HeadStands s.held item items ms
      by [] stand = absurd stand
      by (m ∷ ms) stand = record { first = m; later = ms; split = refl; stands = stand.0; rest = stand.1 }

  -- ---- those that run

  pub runs_is : has_any s.running ≡ has_any m.running
  runs_is = any_stand s.running lives first m.running here.running

  pub many_is : length s.running ≡ length m.running
  many_is = many_stand s.running lives first m.running here.running

  -- the first of them has the same number, ..
  pub first_is : option_map (λ (it : Transaction). it.number) (slice_get s.running 0)
      ≡ option_map (λ (it : clients.Running). it.number) (slice_get m.running 0)
  first_is =
      found_number (slice_get s.running 0) (slice_get lives 0) first (slice_get m.running 0)
      (first_stand s.running lives first m.running here.running)

  -- .. all are second class, ..
  pub second_stands : StateStands s (map second_class lives) [] m
  second_stands = record {
    held = here.held;
    items = here.items;
    running = run_second s.running lives first m.running here.running;
    last = here.last;
    tree = here.tree;
    spelled = here.spelled;
    access = here.access;
  }

  -- .. or one yields that does not run
  pub none_yields : (number : ℕ) → clients.numbered number m ≡ None → StateStands s lives (classed number false first) m
  none_yields number none = record {
    held = here.held;
    items = here.items;
    running = run_unyielded number s.running lives first m.running here.running none;
    last = here.last;
    tree = here.tree;
    spelled = here.spelled;
    access = here.access;
  }

  module _ (number : ℕ) where
    pub found_is : FoundStand (numbered number s.running) (live_numbered number s.running lives) first (clients.numbered number m)
    found_is = found_stand number s.running lives first m.running here.running

    pub numbered_is : option_map (λ (it : Transaction). it.number) (numbered number s.running)
        ≡ option_map (λ (it : clients.Running). it.number) (clients.numbered number m)
    numbered_is =
        found_number (numbered number s.running) (live_numbered number s.running lives) first (clients.numbered number m) found_is

    pub none_is : numbered number s.running ≡ None → clients.numbered number m ≡ None
    none_is none = none_there number s.running lives first m.running here.running none

    pub found_stands : (own : Transaction) → numbered number s.running ≡ Some own → RunsAs number own s.running lives first m.running
    found_stands own found = runs_as number s.running lives first m.running here.running own found

    module _ (it : clients.Running) (runs : clients.numbered number m ≡ Some it) where
      pub one_is : Running number s.running lives first it
      one_is = running_is number s.running lives first m.running here.running it runs

      by_code_is : (by : Transaction → Code → Bool)
          → by_code by (numbered number s.running) (live_numbered number s.running lives) ≡ by one_is.own it.script.code
      by_code_is by =
          (λ i. by_code by (one_is.is i) (one_is.lives i))
          ∙ ap (λ (code : Option Code). unwrap_or (option_map (by one_is.own) code) false) one_is.stands.code

      -- whether its script has ended, ..
      pub ended_is : is_over_if_any (numbered number s.running) (live_numbered number s.running lives) ≡ (so_far it).ended
      ended_is = by_code_is has_ended ∙ has_ended_is one_is.own it one_is.stands.base one_is.stands.acts

      -- .. and whether it may end
      pub may_end_is : (may_end_if_any (numbered number s.running) (live_numbered number s.running lives) ≡ true
          → (class : Bool) → IsOver (next_step class it))
          × (may_end_if_any (numbered number s.running) (live_numbered number s.running lives) ≡ false
          → (class : Bool) → IsUnended (next_step class it))
      may_end_is = (
        (λ may. is_over one_is.own it one_is.stands.base one_is.stands.acts (sym (by_code_is may_end) ∙ may)),
        (λ may. is_unended one_is.own it one_is.stands.base one_is.stands.acts (sym (by_code_is may_end) ∙ may)),
      )
