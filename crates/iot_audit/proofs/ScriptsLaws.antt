-- The scripts of events, one after the other.
use Rattle.std.proofs.Common.{◌≡◌, ◌∙◌, ◌<◌, ◌≤◌, ◌+◌, ℕ, Bool, true, false, cond, refl, sym, ap, subst, List, [], ◌∷◌, ◌++◌, length, get_or, take}
use Rattle.std.proofs.Common.{Option, Some, None, bytes_eq, is_some}
use Rattle.std.proofs.lemmas.List.{take_all, take_more}
use Rattle.std.proofs.lemmas.Slice.Eq.{bytes_eq-Decides}
use Rattle.std.specs.BTreeMap.{BTreeMap, get}
use Rattle.std.specs.Cmp.Lexicographic.{slice_cmp, texts_ties}
use Rattle.std.specs.Ordering.{is_eq, nat_cmp}
use Rattle.std.specs.Option.{option_or}
use Rattle.std.specs.Prelude.{if◌then◌else◌, option_map}
use Rattle.iot_audit.specs.Scripts.{code_named}
use Rattle.iot_event.specs.declared.event.Event.{Event}
use Rattle.iot_event.specs.declared.event.Event.TheVariants.{Client, Script, Profile, At, Server, Promote, StopBackup, Log}
use Rattle.iot_lang.specs.Code.{Code}
use Rattle.iot_lang.specs.Scripts.{IsScript}

-- the last of several events is looked at if no other declares the name
named_push : (name : List ℕ) (front : List Event) (event : Event)
    → code_named name (front ++ event ∷ []) ≡ option_or (code_named name front) (code_named name (event ∷ []))
named_push name [] event = refl
named_push name (Client other ∷ front) event = named_push name front event
named_push name (Script other code ∷ front) event = by (bytes_eq other name) (named_push name front event)
  where
    by : (same : Bool)
        → code_named name (front ++ event ∷ []) ≡ option_or (code_named name front) (code_named name (event ∷ []))
        → (if same then Some code else code_named name (front ++ event ∷ []))
        ≡ option_or (if same then Some code else code_named name front) (code_named name (event ∷ []))
    by true more = refl
    by false more = more
named_push name (Profile other profile ∷ front) event = named_push name front event
named_push name (At client what ∷ front) event = named_push name front event
named_push name (Server what ∷ front) event = named_push name front event
named_push name (Promote ∷ front) event = named_push name front event
named_push name (StopBackup calls pick ∷ front) event = named_push name front event
named_push name (Log ∷ front) event = named_push name front event

or_none : (code : Option Code) → option_or code None ≡ code
or_none None = refl
or_none (Some code) = refl

-- names that tie are the same bytes
tie_is : (one other : List ℕ) → bytes_eq one other ≡ is_eq (slice_cmp nat_cmp one other)
tie_is one other = texts_ties one other

module _ {V : Type 0} (code_of : V → Code) where
  -- a map has the scripts of these events, and some lines spell each
  pub record Named (events : List Event) (by_name : BTreeMap (List ℕ) V) : Type 0 where
    pub named : (name : List ℕ) → option_map code_of (get (slice_cmp nat_cmp) by_name name) ≡ code_named name events
    pub each : (name : List ℕ) (code : Code) → code_named name events ≡ Some code → IsScript code

  -- a map that has none
  pub named_none : (by_name : BTreeMap (List ℕ) V) → ((name : List ℕ) → get (slice_cmp nat_cmp) by_name name ≡ None) → Named [] by_name
  named_none by_name none = record { named = λ name. ap (option_map code_of) (none name); each = λ name code is. absurd cc }

  module _ (front : List Event) (by_name : BTreeMap (List ℕ) V) (it : Named front by_name) where
    -- an event that declares no script changes nothing
    pub passed : (event : Event) → ((name : List ℕ) → code_named name (event ∷ []) ≡ None) → Named (front ++ event ∷ []) by_name
    passed event none =
        let same : (name : List ℕ) → code_named name (front ++ event ∷ []) ≡ code_named name front =
        λ name. named_push name front event ∙ ap (option_or (code_named name front)) (none name) ∙ or_none (code_named name front) in
        record {
          named = λ name. it.named name ∙ sym (same name);
          each = λ name code is. it.each name code (sym (same name) ∙ is);
        }

    module _ (other : List ℕ) (code : Code) (script : IsScript code) where
      pushed_each : (name : List ℕ) (found : Code) → code_named name (front ++ Script other code ∷ []) ≡ Some found → IsScript found
      pushed_each name found is =
          by (code_named name front) refl (bytes_eq other name) (sym (named_push name front (Script other code)) ∙ is)
        where
          by : (before : Option Code) → code_named name front ≡ before → (same : Bool)
              → option_or before (if same then Some code else None) ≡ Some found → IsScript found
          by (Some known) there same is = it.each name found (there ∙ is)
          by None there true is = let here : code ≡ found = cc in subst IsScript here script
          by None there false is = absurd cc

      -- nor does a script of a name that is there
      pub known : is_some (get (slice_cmp nat_cmp) by_name other) ≡ true → Named (front ++ Script other code ∷ []) by_name
      known some = record {
        named = λ name. it.named name ∙ by name (bytes_eq other name) refl;
        each = pushed_each;
      }
        where
          there : (found : Option V) → is_some found ≡ true → (before : Option Code) → option_map code_of found ≡ before
              → before ≡ option_or before (Some code)
          there None some before is = absurd cc
          there (Some v) some None is = absurd cc
          there (Some v) some (Some before) is = refl

          by : (name : List ℕ) (same : Bool) → bytes_eq other name ≡ same
              → code_named name front ≡ code_named name (front ++ Script other code ∷ [])
          by name true is =
              let here : other ≡ name = (bytes_eq-Decides other name).0 is in
              subst (λ (n : List ℕ). code_named n front ≡ option_or (code_named n front) (Some code)) here
              (there (get (slice_cmp nat_cmp) by_name other) some (code_named other front) (it.named other))
              ∙ sym (named_push name front (Script other code)
              ∙ ap (λ (b : Bool). option_or (code_named name front) (if b then Some code else None)) is)
          by name false is =
              sym (named_push name front (Script other code)
              ∙ ap (λ (b : Bool). option_or (code_named name front) (if b then Some code else None)) is
              ∙ or_none (code_named name front))

      -- a script of another name is put beside the others
      pub put : is_some (get (slice_cmp nat_cmp) by_name other) ≡ false → (v : V) → code_of v ≡ code → (new : BTreeMap (List ℕ) V)
          → ((name : List ℕ) → get (slice_cmp nat_cmp) new name
          ≡ cond (is_eq (slice_cmp nat_cmp other name)) (Some v) (get (slice_cmp nat_cmp) by_name name))
          → Named (front ++ Script other code ∷ []) new
      put none v is new puts = record {
        named = λ name. ap (option_map code_of) (puts name) ∙ by name (is_eq (slice_cmp nat_cmp other name)) refl;
        each = pushed_each;
      }
        where
          nothing : (found : Option V) → is_some found ≡ false → option_map code_of found ≡ None
          nothing None none = refl
          nothing (Some v) none = absurd cc

          pushed : (name : List ℕ) (same : Bool) → bytes_eq other name ≡ same
              → code_named name (front ++ Script other code ∷ [])
              ≡ option_or (code_named name front) (if same then Some code else None)
          pushed name same is =
              named_push name front (Script other code)
              ∙ ap (λ (b : Bool). option_or (code_named name front) (if b then Some code else None)) is

          by : (name : List ℕ) (same : Bool) → is_eq (slice_cmp nat_cmp other name) ≡ same
              → option_map code_of (cond same (Some v) (get (slice_cmp nat_cmp) by_name name))
              ≡ code_named name (front ++ Script other code ∷ [])
          by name true same =
              let here : other ≡ name = (bytes_eq-Decides other name).0 (tie_is other name ∙ same) in
              let before : code_named name front ≡ None =
              subst (λ (n : List ℕ). code_named n front ≡ None) here
              (sym (it.named other) ∙ nothing (get (slice_cmp nat_cmp) by_name other) none) in
              ap Some is ∙ sym (pushed name true ((bytes_eq-Decides other name).1 here)
              ∙ ap (λ (c : Option Code). option_or c (Some code)) before)
          by name false same =
              it.named name ∙ sym (pushed name false (tie_is other name ∙ same) ∙ or_none (code_named name front))

-- ---- an event of a loop

-- it declares no script
no_script : (event : Event) → ((name : List ℕ) (code : Code) → event ≡ Script name code → ⊥) → (name : List ℕ)
    → code_named name (event ∷ []) ≡ None
no_script (Client other) never name = refl
no_script (Script other code) never name = absurd (never other code refl)
no_script (Profile other profile) never name = refl
no_script (At client what) never name = refl
no_script (Server what) never name = refl
no_script Promote never name = refl
no_script (StopBackup calls pick) never name = refl
no_script Log never name = refl

module _ {V : Type 0} (code_of : V → Code) (front : List Event) (by_name : BTreeMap (List ℕ) V) (it : Named code_of front by_name)
    (event : Event) (new : BTreeMap (List ℕ) V) where
  pub event_passed : ((name : List ℕ) (code : Code) → event ≡ Script name code → ⊥) → new ≡ by_name
      → Named code_of (front ++ event ∷ []) new
  event_passed never same =
      subst (Named code_of (front ++ event ∷ [])) (sym same) (passed code_of front by_name it event (no_script event never))

  module _ (other : List ℕ) (code : Code) (is : event ≡ Script other code) (script : IsScript code) (has : Bool)
      (has_is : has ≡ is_some (get (slice_cmp nat_cmp) by_name other)) where
    pub event_known : has ≡ true → new ≡ by_name → Named code_of (front ++ event ∷ []) new
    event_known some same =
        subst (λ (e : Event). Named code_of (front ++ e ∷ []) new) (sym is)
        (subst (Named code_of (front ++ Script other code ∷ [])) (sym same)
        (known code_of front by_name it other code script (sym has_is ∙ some)))

    pub event_put : has ≡ false → (v : V) → code_of v ≡ code → (put_in : BTreeMap (List ℕ) V)
        → ((name : List ℕ) → get (slice_cmp nat_cmp) put_in name
        ≡ cond (is_eq (slice_cmp nat_cmp other name)) (Some v) (get (slice_cmp nat_cmp) by_name name))
        → new ≡ put_in → Named code_of (front ++ event ∷ []) new
    event_put none v v_is put_in puts same =
        subst (λ (e : Event). Named code_of (front ++ e ∷ []) new) (sym is)
        (subst (Named code_of (front ++ Script other code ∷ [])) (sym same)
        (put code_of front by_name it other code script (sym has_is ∙ none) v v_is put_in puts))

-- ---- a loop over events

module _ {V : Type 0} (code_of : V → Code) (events : List Event) (i : ℕ) (by_name : BTreeMap (List ℕ) V) where
  pub one_more : (event : Event) → i < length events → event ≡ get_or events i event → Named code_of (take i events ++ event ∷ []) by_name
      → Named code_of (take (i + 1) events) by_name
  one_more event within is =
      subst (λ (front : List Event). Named code_of front by_name)
      (sym (take_more events i event within ∙ ap (λ (e : Event). take i events ++ e ∷ []) (sym is)))

  pub all_named : length events ≤ i → Named code_of (take i events) by_name → Named code_of events by_name
  all_named past = subst (λ (front : List Event). Named code_of front by_name) (take_all i events past)
