-- A restart cuts off what ran, one after the other.
use Rattle.{iot_changes.specs.declared.changes.Change.TheVariants.Cut, iot_client.proofs.TrailsLaws.cut_trails, iot_client.specs.Calls.Cuts}
use Rattle.{iot_client.specs.Calls.CutsIfAny, iot_client.specs.Calls.CutsOffCut, iot_laptop.proofs.CallsLaws.Called}
use Rattle.iot_laptop.proofs.{CallsLaws.answered_so, CallsLaws.goes_at, CallsLaws.goes_trails, CallsLaws.halts_at, Common.AreNamed}
use Rattle.iot_laptop.proofs.Common.{Before, CanFollow, Client, ClientFault, ClientStands, ClientState, CutsAll, Declared, Err, Halt, IfOk}
use Rattle.iot_laptop.proofs.Common.{IfOk-at_ok, IfOk-weaker, IsErrOf, KeepsTrails, Laptop, List, Medium, NoMemory, None, Ok, OnOk, Option}
use Rattle.iot_laptop.proofs.Common.{Over, Part, Result, Returned, RunKept, Some, State, StateKept, StepFrom, Stopped, Then, Transaction}
use Rattle.iot_laptop.proofs.Common.{UnlessNoMemory, Writes, after, ap, arith, at_each, at_one, bind, disk_of, goes_on, joined, quiet}
use Rattle.iot_laptop.proofs.Common.{records_of, refl, rules, same_Some, state_in, state_of, subst, sym, transaction_name, true, ℕ, []}
use Rattle.iot_laptop.proofs.{Common.◌++◌, Common.◌∙◌, Common.◌∷◌, Common.◌≡◌, NodesLaws.awake, NodesLaws.awake_at, NodesLaws.kept_up}
use Rattle.iot_laptop.{proofs.NodesLaws.none_up, specs.Below.cut_line, specs.Calls.Back, specs.Calls.CutsFirst, specs.Calls.RunFewer}
use Rattle.iot_machine.{proofs.StepsLaws.nothing, proofs.StepsLaws.says, specs.Calls.Says, specs.Clients.cut, specs.Events.cuts_off}
use Rattle.iot_standing.proofs.KeptLaws.{cut_kept, cut_named, idle_is, longest}
use Rattle.iot_kept.specs.Changes as records
use Rattle.iot_machine.specs.Clients as clients
use Rattle.iot_machine.specs.Machine as machine

-- what is left of a cut once it is known how many acts are kept
abbrev cuts_it : clients.Running → (acts : ℕ) → (later : List clients.Running) → Part machine.Client
cuts_it it acts later =
    Then (Writes (cut acts)) (goes_on
    (Then (Says (λ client. cut_line (transaction_name client.name it.number) acts)) (λ _. cuts_off later)))

-- ---- a call that cuts off the first

module _ {D : Type 0} {medium : Medium D} {laptop : Laptop D} {was now : Client D} {answer : Result (Option (ℕ × ℕ)) ClientFault}
    {new : Laptop D} {x y : List ℕ} {result : Result (Option (ℕ × ℕ)) Halt} (call : Called medium laptop was now answer new x y result)
    (cuts : IfOk answer (λ told. CutsIfAny (state_of was).running told was now))
    (stops : IsErrOf answer Stopped
    → CutsOffCut (state_of was).running (state_of was) (records_of was) (medium.may_leave (disk_of now))) where
  abbrev s : State
  s = state_of was

  kept_in : (scripts : List Declared) (m : machine.Client) → Before medium laptop scripts m → StateKept s m.node.durable
  kept_in scripts m here = rw call.up at (kept_up medium laptop.place laptop.post m.node here.node here.alive)

  kept_then : (number acts : ℕ) (scripts : List Declared) (m : machine.Client) → Before medium laptop scripts m
      → CanFollow s (Cut number acts)
      → StateKept (after s (Cut number acts)) (cut acts m.node.durable) × AreNamed scripts (cut acts m.node.durable)
  kept_then number acts scripts m here follows =
      (cut_kept s m.node.durable (kept_in scripts m here) number acts follows, cut_named scripts acts m.node.durable here.named)

  -- what it answered, by what ran
  did : (told : Option (ℕ × ℕ)) → result ≡ Ok told → CutsIfAny s.running told was now
  did told ok = IfOk-at_ok (λ told. CutsIfAny s.running told was now) (answered_so call told ok) cuts

  -- ---- none ran

  none_ran : (running : List Transaction) → CutsIfAny running None was now → (running ≡ []) × (now ≡ was)
  none_ran [] is = (refl, is.1)
  none_ran (it ∷ running) is = let clash : None ≡ Some (it.number, is.acts) = is.is in absurd cc

  left_so : result ≡ Ok None → (s.running ≡ []) × (new ≡ laptop) × (y ≡ x)
  left_so ok =
      let none = none_ran s.running (did None ok) in
      (none.0, rw (IfOk-at_ok _ ok call.goes.same, none.1) (λ i. record laptop { post = sym call.up i }), IfOk-at_ok _ ok call.goes.silent)

  -- nothing is done then
  none_cut : s.running ≡ [] → CutsAll medium laptop laptop x x
  none_cut none scripts [] = at_each (λ m h.
      let runs = none_up medium laptop.place laptop.post m.node h.here.node h.here.alive m.first (rw call.up none) in
      quiet m (refl, refl) (awake
      (awake_at medium scripts laptop m h.here.name h.here.link laptop.post m.node h.here.node h.here.alive m.first runs h.here.named)))
  none_cut none scripts (it ∷ later) = at_each (λ m h.
      let clash : it ∷ later ≡ [] = sym h.runs ∙ idle_is s m.node.durable none (kept_in scripts m h.here) in absurd cc)

  -- ---- the first of those that ran

  -- the machine finds how many of its acts hold, of the one that runs first there
  finds : (own : Transaction) (rest : List Transaction) → s.running ≡ own ∷ rest → (acts : ℕ) → CanFollow s (Cut own.number acts)
      → (last : Laptop D) (z : List ℕ)
      → ((scripts : List Declared) (it : clients.Running) (later : List clients.Running) → own.number ≡ it.number → (m : machine.Client)
      → Back medium scripts (it ∷ later) laptop m → StepFrom (ClientStands medium scripts) (cuts_it it acts later) m last x z tt)
      → CutsAll medium laptop last x z
  finds own rest ran acts follows last z each scripts [] = at_each {P = Back medium scripts []} (λ m h.
      let none : RunKept (own ∷ rest) [] = rw (ran, h.runs) at (kept_in scripts m h.here).running in absurd none)
  finds own rest ran acts follows last z each scripts (it ∷ later) = at_each {P = Back medium scripts (it ∷ later)} (λ m h.
      let found = longest s m.node.durable (kept_in scripts m h.here) own.number acts follows it later h.runs in
      joined (quiet {P = Back medium scripts (it ∷ later)} {a = acts} m (refl, found.1, refl) h) (each scripts it later found.0 m h))

  -- this one was cut
  record FirstCut (told : ℕ × ℕ) : Type 0 where
    own : Transaction
    rest : List Transaction
    ran : s.running ≡ own ∷ rest
    it : Cuts own (Some told) was now

  first_cut : (told : ℕ × ℕ) → result ≡ Ok (Some told) → FirstCut told
  first_cut told ok = by s.running refl (did (Some told) ok)
    where
      by : (running : List Transaction) → s.running ≡ running → CutsIfAny running (Some told) was now → FirstCut told
      by [] ran is = let clash : Some told ≡ None = is.0 in absurd cc
      by (own ∷ rest) ran is = record { own = own; rest = rest; ran = ran; it = is }

  -- it is cut off
  abbrev IsCut : (scripts : List Declared) → ClientState → (acts : ℕ) → Laptop D → machine.Client → Type 0
  IsCut scripts before acts l m = Before medium l scripts m × (m.node.durable ≡ cut acts before)

  writes : (told : ℕ × ℕ) (ok : result ≡ Ok (Some told)) (scripts : List Declared) (m : machine.Client) → Before medium laptop scripts m
      → StepFrom (IsCut scripts m.node.durable (first_cut told ok).it.acts) (Writes (cut (first_cut told ok).it.acts)) m new x y true
  writes told ok scripts m here =
      let first = first_cut told ok in
      let acts : ℕ = first.it.acts in
      goes_at call scripts m here (cut acts) (Cut first.own.number acts) (kept_then first.own.number acts scripts m here)
      {after_it = IsCut scripts m.node.durable acts} (Some told) ok first.it.notes (λ post there live.
      let named = cut_named scripts acts m.node.durable here.named in (search rules, refl))

  -- ---- by what it answered

  pub cut_by : (r : Result (Option (ℕ × ℕ)) Halt) → result ≡ r → CutsFirst medium laptop new x y r
  cut_by (Ok (Some told)) ok = λ last z all.
      let first = first_cut told ok in
      let same = same_Some told (first.own.number, first.it.acts) first.it.is in
      finds first.own first.rest first.ran first.it.acts first.it.notes.follows last z (λ scripts it later named m h.
      let it_is = writes told ok scripts m h.here in
      let back : Back medium scripts later new it_is.next = record { here = it_is.stands.0; runs = rw (it_is.stands.1, h.runs) refl } in
      joined it_is (at_one (bind {a = tt}
      (says (λ k h.
      λ i. y ++ cut_line (transaction_name (h.here.name i) ((ap (λ (t : ℕ × ℕ). t.0) same ∙ named) i)) ((same i).1)))
      (all scripts later)) back))
  cut_by (Ok None) ok = let none = left_so ok in rw (none.1, none.2) (none_cut none.0)
  cut_by (Err NoMemory) over = tt
  cut_by (Err Over) over = by s.running refl (stops (call.goes.stopped over))
    where
      by : (running : List Transaction) → s.running ≡ running
          → CutsOffCut running s (records_of was) (medium.may_leave (disk_of now)) → CutsAll medium laptop new x y
      by [] ran cut = absurd cut
      by (own ∷ rest) ran off =
          finds own rest ran off.acts off.cuts_off.follows new y (λ scripts it later named m h.
          let s = halts_at call scripts m h.here (cut off.acts) (Cut own.number off.acts)
          (kept_then own.number off.acts scripts m h.here) over off.cuts_off in joined s (at_one nothing s.stands))

  -- it has come back still
  pub returns_by : Returned medium laptop → (r : Result (Option (ℕ × ℕ)) Halt) → result ≡ r → OnOk r (Returned medium new)
  returns_by back (Ok None) ok = subst (Returned medium) (sym (left_so ok).1) back
  returns_by back (Ok (Some told)) ok =
      record { scripts = _; machine = _; stands = (writes told ok back.scripts back.machine back.stands).stands.0 }
  returns_by back (Err halt) over = tt

  -- and one less runs
  pub fewer_by : (r : Result (Option (ℕ × ℕ)) Halt) → result ≡ r
      → IfOk r (λ told. RunFewer told (state_in laptop).running (state_in new).running)
  fewer_by (Ok (Some told)) ok =
      let first = first_cut told ok in
      let left : (state_of now).running ≡ first.rest = ap (λ (s : State). s.running) first.it.notes.state
      ∙ ap (λ (running : List Transaction). (records.cut first.it.acts running s).running) first.ran in
      rw (IfOk-at_ok _ ok call.goes.same, call.up, left, first.ran) (omega arith)
  fewer_by other is = tt

  -- a server's stamps are kept
  pub cut_keeps : UnlessNoMemory result (KeepsTrails laptop new)
  cut_keeps = goes_trails call (IfOk-weaker answer _ _ (cut_trails was now s.running) cuts) result refl
