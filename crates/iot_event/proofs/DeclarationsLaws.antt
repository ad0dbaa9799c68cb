-- What an input gives names only what it declared.
use Rattle.std.proofs.Common.{◌≡◌, ℕ, ◌+◌, ◌<◌, ◌||◌, not, nat_lt, true, List, [], ◌∷◌, ◌++◌, length, bytes_eq}
use Rattle.std.proofs.Common.{Option, Some, None, Result, Ok, Err, is_some}
use Rattle.std.proofs.Common.{refl, sym, subst, arith, length-append}
use Rattle.std.specs.Option.{option_to_list}
use Rattle.std.proofs.lemmas.List.Quantifiers.{position-Some}
use Rattle.std.proofs.lemmas.Bool.{cond_both}
use Rattle.std.proofs.lemmas.Bool.Decides.{nat_tests}
use Rattle.iot_lines.specs.Lines.{lines}
use Rattle.iot_lines.specs.Words.{words, is_skipped}
use Rattle.iot_lang.specs.Code.{Code}
use Rattle.iot_tree.specs.Profiles.{Profile as Wishes, IsProfile}
use Rattle.iot_event.specs.declared.declared.TheConstants.{CLIENT_LIMIT, SCRIPT_LIMIT, PROFILE_LIMIT}
use Rattle.iot_event.specs.declared.event.Choice.{Choice}
use Rattle.iot_event.specs.declared.event.Choice.TheVariants.{Reexec, Resolver, Abort, Manual}
use Rattle.iot_event.specs.declared.event.Task.{Task}
use Rattle.iot_event.specs.declared.event.Task.TheVariants as tasks
use Rattle.iot_event.specs.declared.event.ClientEvent.{ClientEvent}
use Rattle.iot_event.specs.declared.event.ClientEvent.TheVariants as client_events
use Rattle.iot_event.specs.declared.event.Event.{Event}
use Rattle.iot_event.specs.declared.event.Event.TheVariants.{Client, Script, Profile, At}
use Rattle.iot_event.specs.declared.fault.EventFault.{EventFault}
use Rattle.iot_event.specs.declared.fault.EventFault.TheVariants as faults
use Rattle.iot_event.specs.declared.form.Form.{Form}
use Rattle.iot_event.specs.declared.form.Form.TheVariants as forms
use Rattle.iot_event.specs.Bytes.{fits_line}
use Rattle.iot_event.specs.Forms.{form_of}
use Rattle.iot_event.specs.Closing.{Closed, closed_by, first_closing}
use Rattle.iot_event.specs.Profiles.{profile_of}
use Rattle.iot_event.specs.Meanings.{Scope, nothing_declared, Meaning, Refused, Skipped, Says, Opens, Lists, is_declared, place_of}
use Rattle.iot_event.specs.Meanings.{profile_named, choice_of, script_with, task_of, event_of}
use Rattle.iot_event.specs.Meanings.{is_servers, client_line, script_line, profile_line, if_known, at_line, meaning_of_form, meaning_of}
use Rattle.iot_event.specs.Events.{Stops, Goes, with_profile, profile_step, IsStepOf, Outcome, Events, Fault, after_events}
use Rattle.iot_event.specs.Events.{LinesGive, at_end, stop, go, Gives}
use Rattle.iot_event.specs.Events as steps
use Rattle.iot_event.specs.Declarations.{AreDeclared, ResolverIsDeclared, TaskIsDeclared, ClientEventIsDeclared}
use Rattle.iot_event.proofs.FormsLaws.{Fits, none_fits, some_fits, map_fits, then_fits, TaskFits, EventFits, FormFits, form_fits}
use Rattle.iot_event.proofs.ProfilesLaws.{is_profile, AreProfiles, are_profiles-push, named_fits}

-- the events are declared, after so much as the scope says
abbrev Allows : Scope → List Event → Type 0
Allows scope events = AreDeclared events (length scope.clients) scope.scripts

-- the event may come, and leaves this scope, whose profiles are profiles
record Leads (scope : Scope) (event : Event) (after : Scope) : Type 0 where
  allows : (later : List Event) → Allows after later → Allows scope (event ∷ later)
  are : AreProfiles after.profiles

-- a line of this meaning is an event that may come, if any
abbrev IsSound : Scope → Meaning → Type 0
IsSound scope (Refused fault) = Unit {0}
IsSound scope Skipped = Unit {0}
IsSound scope (Says event after) = Leads scope event after
IsSound scope (Opens name script after) = (code : Code) → Leads scope (Script name code) after
IsSound scope (Lists name block) =
    (profile : Wishes) → IsProfile profile → Leads scope (Profile name profile) (with_profile scope name profile)

-- ---- what names stand for

one_more : (names : List (List ℕ)) (name : List ℕ) → length (names ++ name ∷ []) ≡ length names + 1
one_more names name = length-append names (name ∷ [])

below_limit : (n limit : ℕ) → nat_lt n limit ≡ true → n < limit
below_limit n limit is = grind (arith, nat_tests)

within : (name : List ℕ) (names : List (List ℕ)) (place : Option ℕ) → place_of name names ≡ place → Fits (λ i. i < length names) place
within name names None is = none_fits
within name names (Some i) is = record { fits = (position-Some (bytes_eq name) names i [] is).0 }

module _ (scripts : List (List ℕ)) (profiles : List (List ℕ × Wishes)) (are : AreProfiles profiles) where
  choice_declared : (option : Choice (List ℕ)) → Fits (λ choice. ResolverIsDeclared choice (length scripts)) (choice_of option scripts)
  choice_declared Reexec = some_fits Reexec tt
  choice_declared (Resolver script) = map_fits _ _ (within script scripts (place_of script scripts) refl) (λ s few. few)
  choice_declared Abort = some_fits Abort tt
  choice_declared Manual = some_fits Manual tt

  script_declared : (script : List ℕ) (option : Choice (List ℕ)) (task : ℕ → Choice ℕ → Task ℕ Wishes)
      → ((s : ℕ) (o : Choice ℕ) → s < length scripts → ResolverIsDeclared o (length scripts) → TaskIsDeclared (task s o) (length scripts))
      → Fits (λ it. TaskIsDeclared it (length scripts)) (script_with script option scripts task)
  script_declared script option task may =
      then_fits _ _ (within script scripts (place_of script scripts) refl)
      (λ s few. map_fits _ _ (choice_declared option) (λ o resolves. may s o few resolves))

  task_declared : (task : Task (List ℕ) (List ℕ)) → TaskFits task → Fits (λ it. TaskIsDeclared it (length scripts)) (task_of task scripts profiles)
  task_declared (tasks.Run script option) fit =
      script_declared script option (λ s o. tasks.Run s o) (λ s o few resolves. (few, resolves))
  task_declared (tasks.Hoard path) fit = some_fits (tasks.Hoard path) fit
  task_declared tasks.Refresh fit = some_fits tasks.Refresh tt
  task_declared (tasks.Walk profile limit) fit = map_fits _ _ (named_fits profile profiles are) (λ p is. (is, fit))
  task_declared (tasks.Begin script option) fit =
      script_declared script option (λ s o. tasks.Begin s o) (λ s o few resolves. (few, resolves))
  task_declared (tasks.Step count transaction) fit = some_fits (tasks.Step count transaction) fit
  task_declared (tasks.End transaction) fit = some_fits (tasks.End transaction) fit
  task_declared tasks.Sync fit = some_fits tasks.Sync tt
  task_declared tasks.Drain fit = some_fits tasks.Drain tt
  task_declared (tasks.Repair script) fit = map_fits _ _ (within script scripts (place_of script scripts) refl) (λ s few. few)
  task_declared tasks.Discard fit = some_fits tasks.Discard tt
  task_declared tasks.Queue fit = some_fits tasks.Queue tt
  task_declared (tasks.Reads item) fit = some_fits (tasks.Reads item) fit

  event_declared : (what : ClientEvent (List ℕ) (List ℕ)) → EventFits what
      → Fits (λ it. ClientEventIsDeclared it (length scripts)) (event_of what scripts profiles)
  event_declared (client_events.Node what) fit = some_fits (client_events.Node what) fit
  event_declared (client_events.Link what) fit = some_fits (client_events.Link what) tt
  event_declared (client_events.Task what) fit = map_fits _ _ (task_declared what fit) (λ it may. may)

-- ---- what a line of each form means

module _ (scope : Scope) (number : ℕ) (profiles : AreProfiles scope.profiles) where
  client_sound : (name : List ℕ) → IsSound scope (client_line scope number name)
  client_sound name =
      let after : Scope = record scope { clients = scope.clients ++ name ∷ [] } in
      cond_both (is_servers name || is_declared name scope.clients) (Refused (faults.Twice number)) _ (IsSound scope)
      (λ is. tt)
      (λ is. cond_both (nat_lt (length scope.clients) CLIENT_LIMIT) (Says (Client name) after) (Refused (faults.TooMany number))
      (IsSound scope)
      (λ few. record {
        allows = λ events are. (
          below_limit (length scope.clients) CLIENT_LIMIT few,
          subst (λ (n : ℕ). AreDeclared events n scope.scripts) (one_more scope.clients name) are,
        );
        are = profiles;
      })
      (λ many. tt))

  script_sound : (name : List ℕ) (script : Option Closed) → IsSound scope (script_line scope number name script)
  script_sound name None = tt
  script_sound name (Some script) =
      let after : Scope = record scope { scripts = scope.scripts ++ name ∷ [] } in
      cond_both (is_declared name scope.scripts) (Refused (faults.Twice number)) _ (IsSound scope)
      (λ is. tt)
      (λ is. cond_both (nat_lt (length scope.scripts) SCRIPT_LIMIT) (Opens name script after) (Refused (faults.TooMany number))
      (IsSound scope)
      (λ few code. record {
        allows = λ events are. (
          below_limit (length scope.scripts) SCRIPT_LIMIT few,
          is,
          are,
        );
        are = profiles;
      })
      (λ many. tt))

  profile_sound : (name : List ℕ) (block : Option Closed) → IsSound scope (profile_line scope number name block)
  profile_sound name None = tt
  profile_sound name (Some block) =
      cond_both (is_some (profile_named name scope.profiles)) (Refused (faults.Twice number)) _ (IsSound scope)
      (λ is. tt)
      (λ is. cond_both (nat_lt (length scope.profiles) PROFILE_LIMIT) (Lists name block) (Refused (faults.TooMany number)) (IsSound scope)
      (λ few profile it. record {
        allows = λ events are. (it, are);
        are = are_profiles-push scope.profiles name profile profiles it;
      })
      (λ many. tt))

  known_sound : {X : Type 0} {P : X → Type 0} (known : Option X) (says : X → Meaning) → Fits P known
      → ((x : X) → P x → IsSound scope (says x)) → IsSound scope (if_known known number says)
  known_sound None says fit sound = tt
  known_sound (Some x) says fit sound = sound x fit.fits

  at_sound : (client : List ℕ) (what : ClientEvent (List ℕ) (List ℕ)) → EventFits what → IsSound scope (at_line scope number client what)
  at_sound client what fit =
      known_sound (place_of client scope.clients) _ (within client scope.clients (place_of client scope.clients) refl)
      (λ c few. known_sound (event_of what scope.scripts scope.profiles) (λ it. Says (At c it) scope)
      (event_declared scope.scripts scope.profiles profiles what fit)
      (λ it may. record { allows = λ events are. (few, may, are); are = profiles }))

  form_sound : (form : Option Form) → Fits FormFits form → (later : List (List ℕ)) → IsSound scope (meaning_of_form form scope number later)
  form_sound None fit later = tt
  form_sound (Some (forms.Client name)) fit later = client_sound name
  form_sound (Some (forms.Script name)) fit later = script_sound name (closed_by later 0)
  form_sound (Some (forms.Profile name)) fit later = profile_sound name (first_closing later)
  form_sound (Some (forms.At client what)) fit later = at_sound client what fit.fits
  form_sound (Some (forms.Server what)) fit later = record { allows = λ events are. (fit.fits, are); are = profiles }
  form_sound (Some forms.Promote) fit later = record { allows = λ events are. are; are = profiles }
  form_sound (Some (forms.StopBackup calls pick)) fit later = record { allows = λ events are. (fit.fits, are); are = profiles }
  form_sound (Some forms.Log) fit later = record { allows = λ events are. are; are = profiles }

-- ---- each line

line_sound : (scope : Scope) (number : ℕ) (line : List ℕ) (later : List (List ℕ)) → AreProfiles scope.profiles
    → IsSound scope (meaning_of scope number line later)
line_sound scope number line later profiles =
    cond_both (not (fits_line line)) (Refused (faults.BadLine number)) _ (IsSound scope)
    (λ unfit. tt)
    (λ fits. cond_both (is_skipped line) Skipped (meaning_of_form (form_of (words line)) scope number later) (IsSound scope)
    (λ skipped. tt)
    (λ said. form_sound scope number profiles (form_of (words line)) (form_fits (words line)) later))

-- ---- each step, and all

-- the events of a step may come, and leave this scope, whose profiles are profiles
record Advances (scope : Scope) (event : Option Event) (after : Scope) : Type 0 where
  allows : (later : List Event) → Allows after later → Allows scope (option_to_list event ++ later)
  are : AreProfiles after.profiles

-- the same of a step as data
abbrev StepAdvances : Scope → steps.Step → Type 0
StepAdvances scope (Stops fault) = Unit {0}
StepAdvances scope (Goes event after rest number) = Advances scope event after

profile_advances : (name : List ℕ) (block : Closed) (scope : Scope) (first : ℕ) (result : Result Wishes EventFault) (event : Option Event)
    (after : Scope) (rest : List (List ℕ)) (next : ℕ)
    → IsSound scope (Lists name block) → profile_of block first ≡ result
    → Goes event after rest next ≡ profile_step name block scope first result → Advances scope event after
profile_advances name block scope first (Err fault) event after rest next sound found is = absurd cc
profile_advances name block scope first (Ok profile) event after rest next sound found is =
    let leads : Leads scope (Profile name profile) (with_profile scope name profile) =
    sound profile (is_profile block first profile found) in
    subst (StepAdvances scope) (sym is) (record { allows = leads.allows; are = leads.are })

step_advances : (meaning : Meaning) (scope : Scope) (number : ℕ) (later : List (List ℕ)) (event : Option Event) (after : Scope)
    (rest : List (List ℕ)) (next : ℕ)
    → AreProfiles scope.profiles → IsSound scope meaning → IsStepOf meaning scope number later (Goes event after rest next)
    → Advances scope event after
step_advances (Refused fault) scope number later event after rest next profiles sound is = absurd cc
step_advances Skipped scope number later event after rest next profiles sound is =
    subst (StepAdvances scope) (sym is) (record { allows = λ events are. are; are = profiles })
step_advances (Says said then_) scope number later event after rest next profiles sound is =
    subst (StepAdvances scope) (sym is) (record { allows = sound.allows; are = sound.are })
step_advances (Opens name script then_) scope number later event after rest next profiles sound (code, spells, is) =
    subst (StepAdvances scope) (sym is) (record { allows = (sound code).allows; are = (sound code).are })
step_advances (Lists name block) scope number later event after rest next profiles sound is =
    profile_advances name block scope (number + 1) (profile_of block (number + 1)) event after rest next sound refl is

-- events that are given after others
given_after : (front : List Event) (outcome : Outcome) (events : List Event) → after_events front outcome ≡ Events events
    → (later : List Event) × (outcome ≡ Events later) × (events ≡ front ++ later)
given_after front (Events later) events is = (later, refl, cc)
given_after front (Fault fault) events is = absurd cc

lines_declare : (ls : List (List ℕ)) (scope : Scope) (number : ℕ) (outcome : Outcome) → LinesGive ls scope number outcome
    → AreProfiles scope.profiles → (events : List Event) → outcome ≡ Events events → Allows scope events
lines_declare _ _ _ _ (at_end scope number) profiles events is =
    let none : [] ≡ events = cc in
    subst (Allows scope) none tt
lines_declare _ _ _ _ (stop line later scope number fault step) profiles events is = absurd cc
lines_declare _ _ _ _ (go line later scope number event after rest next outcome step give) profiles events is =
    let parts = given_after (option_to_list event) outcome events is in
    let advances : Advances scope event after =
    step_advances (meaning_of scope number line later) scope number later event after rest next profiles
    (line_sound scope number line later profiles) step in
    subst (Allows scope) (sym parts.2)
    (advances.allows parts.0 (lines_declare rest after next outcome give advances.are parts.0 parts.1))

-- the events that an input gives are declared
pub are_declared : (input : List ℕ) (events : List Event) → Gives input (Events events) → AreDeclared events 0 []
are_declared input events give = lines_declare (lines input) nothing_declared 1 (Events events) give tt events refl
