-- A call that first changes nothing but classes does what it does then.
use Rattle.std.proofs.Common.{◌≡◌, ℕ, Bool, List, Option, Some, None, ap, subst, sym, ◌∙◌}
use Rattle.std.proofs.lemmas.Result.{IfOk-weaker}
use Rattle.std.specs.Prelude.{IsSomeAnd, IfErr, IfOk, OnOk, Result, Ok, Err}
use Rattle.iot_disk.specs.Disk.{Medium}
use Rattle.iot_lang.specs.Code.{Code}
use Rattle.iot_slots.specs.Cells.{next}
use Rattle.iot_stamp.specs.Stamps.{Stamps}
use Rattle.iot_tree.specs.declared.want.Want.TheVariants as wants
use Rattle.iot_changes.specs.declared.changes.Change.{Change}
use Rattle.iot_kept.specs.Changes.{CanFollow, after}
use Rattle.iot_kept.specs.Stamps.{StampsBy}
use Rattle.iot_kept.specs.Standing.{EachStands}
use Rattle.iot_kept.specs.States.{Transaction, State, numbered, view}
use Rattle.iot_wire.specs.Meanings.{IsRefresh}
use Rattle.iot_client.specs.Calls.{ChangesClasses, Notes, Stays, Refuses, StepIs, EndIs, IsSoOf, IsSoOfRun, Differs, yielded, live_numbered}
use Rattle.iot_client.specs.Calls.{lives_after}
use Rattle.iot_client.specs.Doing.{IsSoOfOne}
use Rattle.iot_client.specs.Faults.{MayFail}
use Rattle.iot_client.specs.Ties.{Live, AreBegun, state_of, stamps_of, place_of, records_of, disk_of, live_of}
use Rattle.iot_client.specs.declared.client.Client.{Client}
use Rattle.iot_client.specs.declared.ended.Ended.{Ended}
use Rattle.iot_client.specs.declared.ended.Ended.TheVariants as ends
use Rattle.iot_client.specs.declared.fault.ClientFault.{ClientFault}
use Rattle.iot_client.specs.declared.steps.Step.{Step}
use Rattle.iot_client.specs.declared.steps.Step.TheVariants as steps
use Rattle.iot_client.proofs.LivesLaws.{begun_yielded, begun_after}

-- ---- what is so of one that runs

so_known : (P Q : Code → Type 0) (code : Option Code) → ((code : Code) → P code → Q code) → IsSomeAnd code P → IsSomeAnd code Q
so_known P Q None goes is = is
so_known P Q (Some code) goes is = goes code is

pub so_weaker : (P Q : Transaction → Bool → Code → Type 0) (it : Option Transaction) (live : Option Live)
    → ((it : Transaction) (first : Bool) (code : Code) → P it first code → Q it first code) → IsSoOf P it live → IsSoOf Q it live
so_weaker P Q None live goes is = absurd is
so_weaker P Q (Some it) None goes is = absurd is
so_weaker P Q (Some it) (Some live) goes is = so_known (P it live.first) (Q it live.first) live.code (goes it live.first) is

-- ---- those that are left at an end

pub begun_left : {D E : Type 0} (old new : Client D) (number : ℕ) (result : Result Ended E) → AreBegun (live_of old)
    → IfOk result (λ ended. live_of new
    ≡ lives_after ended number (state_of old).running (yielded number (state_of old) (live_of old)))
    → OnOk result (AreBegun (live_of new))
begun_left old new number (Ok ended) begun is =
    let state = state_of old in
    subst AreBegun (sym is)
    (begun_after number ended state.running (yielded number state (live_of old))
    (begun_yielded number state.items state.running (live_of old) begun))
begun_left old new number (Err fault) begun is = tt

-- ---- what is so from the second state is so from the first

module _ {D : Type 0} (old mid : Client D) (same : ChangesClasses old mid) where
  pub notes_from : (new : Client D) (change : Change) → Notes change mid new → Notes change old new
  notes_from new change notes = record {
    follows = subst (λ (state : State). CanFollow state change) same.state notes.follows;
    state = notes.state ∙ ap (λ (state : State). after state change) same.state;
    stamps =
        subst (λ (state : State). StampsBy change state.items (stamps_of old) (stamps_of new)) same.state
        (subst (λ (held : Stamps). StampsBy change (state_of mid).items held (stamps_of new)) same.stamps notes.stamps);
    place = notes.place ∙ same.place;
    records = notes.records ∙ ap next same.records;
  }

  classes_from : (new : Client D) → ChangesClasses mid new → ChangesClasses old new
  classes_from new stays = record {
    state = stays.state ∙ same.state;
    stamps = stays.stamps ∙ same.stamps;
    place = stays.place ∙ same.place;
    disk = stays.disk ∙ same.disk;
    records = stays.records ∙ same.records;
  }

  step_from : (new : Client D) (step : Step) (it : Transaction) (first : Bool) (code : Code) → StepIs mid it first code step new
      → StepIs old it first code step new
  step_from new (steps.Acted acts ended) it first code is = record {
    can = is.can;
    act = is.act;
    next = is.next;
    notes = notes_from new _ is.notes;
    counted = is.counted;
    ends = is.ends;
  }
  step_from new (steps.Fetch request path) it first code is = (
    subst (λ (place : ℕ). IsRefresh place (stamps_of old) (wants.Path path) request) same.place
        (subst (λ (held : Stamps). IsRefresh (place_of mid) held (wants.Path path) request) same.stamps is.0),
    record {
      goes_on = is.1.goes_on;
      within = is.1.within;
      first_class = is.1.first_class;
      miss = is.1.miss;
      stays = classes_from new is.1.stays;
    },
  )
  step_from new (steps.AtEnd acts) it first code is = (is.0, is.1, classes_from new is.2)
  step_from new (steps.AtLimit acts) it first code is = (is.0, is.1, is.2, classes_from new is.3)

  end_from : (new : Client D) (ended : Ended) (it : Transaction) (first : Bool) (code : Code) → EndIs mid it first code ended new
      → EndIs old it first code ended new
  end_from new (ends.Joined tid class) it first code is = (
    is.0,
    is.1,
    record {
      notes = notes_from new _ is.2.notes;
      whole_acts = is.2.whole_acts;
      whole_tree = is.2.whole_tree;
      may = is.2.may;
    },
  )
  end_from new (ends.Again read question) it first code is = record {
    notes = notes_from new _ is.notes;
    differs = subst (λ (state : State). Differs (view state) it read question) same.state is.differs;
    may = is.may;
  }

  pub stays_from : (medium : Medium D) (new : Client D) → Stays medium mid new → Stays medium old new
  stays_from medium new stays =
      subst (λ (state : State). EachStands (medium.may_leave (disk_of new)) (records_of old) state) same.state
      (subst (λ (records : ℕ). EachStands (medium.may_leave (disk_of new)) records (state_of mid)) same.records stays)

  -- of the one with a number, which has the class that it then has
  module _ (number : ℕ) (live : live_of mid ≡ yielded number (state_of old) (live_of old)) where
    pub so_from : (Is : Transaction → Bool → Code → Type 0) → IsSoOfOne Is number (state_of mid).running (live_of mid)
        → IsSoOfRun Is number (state_of old) (live_of old)
    so_from Is is =
        subst (λ (all : List Live). IsSoOfOne Is number (state_of old).running all) live
        (subst (λ (state : State). IsSoOfOne Is number state.running (live_of mid)) same.state is)

    -- what is so once it has that class
    pub so_into : (Is : Transaction → Bool → Code → Type 0) → IsSoOfRun Is number (state_of old) (live_of old)
        → IsSoOfOne Is number (state_of mid).running (live_of mid)
    so_into Is is =
        subst (λ (state : State). IsSoOfOne Is number state.running (live_of mid)) (sym same.state)
        (subst (λ (all : List Live). IsSoOfOne Is number (state_of old).running all) (sym live) is)

    -- what is known of those that run after it ended
    pub lives_from : {E : Type 0} (new : Client D) (result : Result Ended E)
        → IfOk result (λ ended. live_of new ≡ lives_after ended number (state_of mid).running (live_of mid))
        → IfOk result (λ ended. live_of new
        ≡ lives_after ended number (state_of old).running (yielded number (state_of old) (live_of old)))
    lives_from new result is =
        IfOk-weaker result _ _ (λ ended known. known ∙ (λ k. lives_after ended number (same.state k).running (live k))) is

    abbrev AreSo : (Transaction → Bool → Code → Type 0) → Type 0
    AreSo Is = IsSoOfOne Is number (state_of mid).running (live_of mid)

    weaker_from : (P Q : Transaction → Bool → Code → Type 0)
        → ((it : Transaction) (first : Bool) (code : Code) → P it first code → Q it first code) → AreSo P
        → IsSoOfRun Q number (state_of old) (live_of old)
    weaker_from P Q goes is =
        so_from Q
        (so_weaker P Q (numbered number (state_of mid).running) (live_numbered number (state_of mid).running (live_of mid)) goes is)

    pub steps_from : {E : Type 0} (new : Client D) (result : Result Step E)
        → IfOk result (λ step. AreSo (λ it first code. StepIs mid it first code step new))
        → IfOk result (λ step. IsSoOfRun (λ it first code. StepIs old it first code step new) number (state_of old) (live_of old))
    steps_from new result is =
        IfOk-weaker result _ _
        (λ step. weaker_from (λ it first code. StepIs mid it first code step new) (λ it first code. StepIs old it first code step new)
        (step_from new step))
        is

    pub ends_from : {E : Type 0} (new : Client D) (result : Result Ended E)
        → IfOk result (λ ended. AreSo (λ it first code. EndIs mid it first code ended new))
        → IfOk result (λ ended. IsSoOfRun (λ it first code. EndIs old it first code ended new) number (state_of old) (live_of old))
    ends_from new result is =
        IfOk-weaker result _ _
        (λ ended. weaker_from (λ it first code. EndIs mid it first code ended new) (λ it first code. EndIs old it first code ended new)
        (end_from new ended))
        is

    -- what was cut off besides
    pub cut_from : (Is : Transaction → Bool → Code → State → ℕ → Type 0)
        → AreSo (λ it first code. Is it first code (state_of mid) (records_of mid))
        → IsSoOfRun (λ it first code. Is it first code (state_of old) (records_of old)) number (state_of old) (live_of old)
    cut_from Is is =
        weaker_from (λ it first code. Is it first code (state_of mid) (records_of mid))
        (λ it first code. Is it first code (state_of old) (records_of old))
        (λ it first code here.
        subst (Is it first code (state_of old)) same.records
        (subst (λ (state : State). Is it first code state (records_of mid)) same.state here))
        is

-- ---- a call that nothing refuses

pub none_refuses : {D T : Type 0} (refusal : Option ClientFault) (old new : Client D) (result : Result T ClientFault) → refusal ≡ None
    → IfErr result MayFail → Refuses refusal old new result
none_refuses {D} {T} refusal old new result none fails =
    subst (λ (r : Option ClientFault). Refuses r old new result) (sym none) (by result fails)
  where
    by : (result : Result T ClientFault) → IfErr result MayFail → Refuses None old new result
    by (Ok value) fails = tt
    by (Err fault) fails = fails
