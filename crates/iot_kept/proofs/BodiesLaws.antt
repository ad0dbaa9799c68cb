-- Bodies of checkpoints and the states that they spell.
use Rattle.std.proofs.Common.{◌≡◌, ◌<◌, ◌^◌, ℕ, List, [], ◌∷◌, map, length, Option, Some, None, Result, Ok, Err, refl, sym, ap, ◌∙◌}
use Rattle.std.proofs.Common.{subst}
use Rattle.std.specs.List.{AllByRecursion}
use Rattle.std.specs.Prelude.{IfOk, IfSome}
use Rattle.iot_durable.specs.Rules.{IsThis}
use Rattle.iot_stamp.specs.Stamps.{nodes_of, unstamped}
use Rattle.iot_tree.specs.Tree.{Nodes}
use Rattle.iot_bodies.specs.Rules.{waiting_of}
use Rattle.iot_bodies.specs.Spelling.{client_spelling}
use Rattle.iot_bodies.specs.declared.client.ClientBody.{ClientBody}
use Rattle.iot_slots.specs.declared.version.Version.{Version}
use Rattle.iot_slots.specs.declared.version.Version.TheVariants.{Two}
use Rattle.iot_kept.specs.Bodies.{IsBody, IsState, body_of, running_of}
use Rattle.iot_kept.specs.Memory.{memory_state, durable_state, transaction, transactions, StandsOn, classes_of, AreSecond}
use Rattle.iot_kept.specs.Memory.{IfOnView}
use Rattle.iot_kept.specs.Reading.{IsResumed, IsMadeOf, IsChecked, SuitOwn, Passes, state_from, transaction_from}
use Rattle.iot_kept.specs.Rules.{IsMemory, IsStarted}
use Rattle.iot_kept.specs.States.{State, view}
use Rattle.iot_kept.specs.Versions.{SpellsClient}
use Rattle.iot_kept.specs.declared.durable.Durable.{Durable}
use Rattle.iot_kept.specs.declared.memory.Memory.{Memory}
use Rattle.iot_kept.specs.declared.running.Ground.{Ground}
use Rattle.iot_kept.specs.declared.running.Running.{Running}
use Rattle.iot_kept.proofs.PartsLaws.{parts_again, parts_state, state_again, state_parts, state_passes, state_suits}
use Rattle.iot_kept.proofs.VersionsLaws.{client_has, client_one}

-- ---- a state whose whole the bytes spell

module _ (version : Version) (body : List ℕ) (state : State) (is : IsBody version body state) where
  -- they are not those of no parts
  pub spells_parts : ((parts : ClientBody) → SpellsClient version body parts → ⊥) → ⊥
  spells_parts none = none (body_of state) is.spelled

  -- and whatever parts they spell make it
  module _ (short : length body < 2 ^ 64) (parts : ClientBody) (m : SpellsClient version body parts) where
    state_is : state_from parts ≡ state
    state_is =
        let same = client_one version body parts (body_of state) short m is.spelled in
        ap state_from same ∙ state_again state is.value.head

    pub parts_suit : AllByRecursion SuitOwn (map transaction_from parts.running)
    parts_suit = subst (λ (s : State). AllByRecursion SuitOwn s.running) (sym state_is) (state_suits state is.value).running

    parts_pass : Passes (state_from parts)
    parts_pass = subst Passes (sym state_is) (state_passes state is.value)

-- bytes spell the whole of one state at most
pub body_alone : (version : Version) (body : List ℕ) (one other : State) → length body < 2 ^ 64 → IsBody version body one
    → IsBody version body other → one ≡ other
body_alone version body one other short is also =
    sym (state_again one is.value.head) ∙ state_is version body other also short (body_of one) is.spelled

runs_again : (running : List Running) → map running_of (transactions running) ≡ map (λ (it : Running). running_of (transaction it)) running
runs_again [] = refl
runs_again (it ∷ running) = ap (λ later. running_of (transaction it) ∷ later) (runs_again running)

-- what is spelled of memory spells the whole of its state
pub body_spelled : (body : List ℕ) (memory : Memory) → IsState (memory_state memory)
    → client_spelling (record {
      held = nodes_of memory.durable.held;
      items = waiting_of memory.durable.queue memory.durable.access;
      running = map (λ (it : Running). running_of (transaction it)) memory.durable.running.items;
      last = memory.durable.last;
    }) ≡ body
    → IsBody Two body (memory_state memory)
body_spelled body memory is spelled = record {
  value = is;
  spelled = record {
    value = state_parts (memory_state memory) is;
    spelled = (λ i. client_spelling (record {
      held = nodes_of memory.durable.held;
      items = waiting_of memory.durable.queue memory.durable.access;
      running = runs_again memory.durable.running.items i;
      last = memory.durable.last;
    })) ∙ spelled;
  };
}

-- ---- those that run

resumed_suit : (running : List Running) → AllByRecursion IsResumed running → AllByRecursion SuitOwn (transactions running)
resumed_suit [] all = tt
resumed_suit (it ∷ running) all = let is : IsResumed it = all.0 in (is.suit, resumed_suit running all.1)

resumed_second : (running : List Running) → AllByRecursion IsResumed running → AreSecond (classes_of running)
resumed_second [] all = tt
resumed_second (it ∷ running) all = let is : IsResumed it = all.0 in (is.class, resumed_second running all.1)

resumed_stands : (t : Nodes) (running : List Running) → AllByRecursion IsResumed running → AllByRecursion (StandsOn t) running
resumed_stands t [] all = tt
resumed_stands t (it ∷ running) all =
    let is : IsResumed it = all.0 in (
      record { own = is.own; base = subst (λ (g : Ground). IfOnView g (it.base ≡ t)) (sym is.on) tt },
      resumed_stands t running all.1,
    )

-- ---- what is read

module _ (version : Version) (body : List ℕ) (parts : ClientBody) (m : SpellsClient version body parts) (durable : Durable)
    (made : IsMadeOf parts durable) where
  own_suit : AllByRecursion SuitOwn (map transaction_from parts.running)
  own_suit =
      subst (λ (s : State). AllByRecursion SuitOwn s.running) made.state (resumed_suit durable.running.items made.running)

  memory_is : (memory : Memory) → memory.durable ≡ durable → memory_state memory ≡ state_from parts
  memory_is memory same = ap durable_state same ∙ made.state

  memory_has : (memory : Memory) → memory.durable ≡ durable → Passes (durable_state durable) → IsState (memory_state memory)
  memory_has memory same passes =
      subst IsState (sym (memory_is memory same))
      (parts_state parts (client_has version body parts m) own_suit (subst Passes made.state passes))

  module _ {E : Type 0} where
    pub read_found : (result : Result (Option Memory) E) → IfOk result (IsChecked durable)
        → IfOk result (λ read. IfSome read (λ memory. IsBody version body (memory_state memory)))
    read_found (Ok (Some memory)) checked =
        let again : body_of (state_from parts) ≡ parts =
        parts_again parts (client_has version body parts m) (subst Passes made.state checked.0).waits in
        record {
          value = memory_has memory checked.1 checked.0;
          spelled = subst (SpellsClient version body) (sym (ap body_of (memory_is memory checked.1) ∙ again)) m;
        }
    read_found (Ok None) checked = tt
    read_found (Err fault) checked = tt

    pub read_only : (result : Result (Option Memory) E) → IfOk result (IsChecked durable) → length body < 2 ^ 64 → (state : State)
        → IsBody version body state → IfOk result (IsThis memory_state state)
    read_only (Ok (Some memory)) checked short state is = memory_is memory checked.1 ∙ state_is version body state is short parts m
    read_only (Ok None) checked short state is = checked (subst Passes (sym made.state) (parts_pass version body state is short parts m))
    read_only (Err fault) checked short state is = tt

    pub read_sound : (result : Result (Option Memory) E) → IfOk result (IsChecked durable) → IfOk result (λ read. IfSome read IsMemory)
    read_sound (Ok (Some memory)) checked = record {
      state = memory_has memory checked.1 checked.0;
      sees = record {
        view = checked.2 ∙ ap (λ (d : Durable). view (durable_state d)) (sym checked.1);
        running = subst (λ (d : Durable). AllByRecursion (StandsOn memory.view) d.running.items) (sym checked.1)
            (resumed_stands memory.view durable.running.items made.running);
      };
    }
    read_sound (Ok None) checked = tt
    read_sound (Err fault) checked = tt

    pub read_fresh : (result : Result (Option Memory) E) → IfOk result (IsChecked durable) → IfOk result (λ read. IfSome read IsStarted)
    read_fresh (Ok (Some memory)) checked = record {
      stamps = subst (λ (d : Durable). d.held ≡ unstamped (nodes_of d.held)) (sym checked.1) made.stamps;
      class = subst (λ (d : Durable). AreSecond (classes_of d.running.items)) (sym checked.1)
          (resumed_second durable.running.items made.running);
    }
    read_fresh (Ok None) checked = tt
    read_fresh (Err fault) checked = tt
