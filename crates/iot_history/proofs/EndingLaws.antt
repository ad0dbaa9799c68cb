-- How a run ends: whose input is refused, or whose input is recorded.
use Rattle.std.proofs.Common.{◌≡◌, ℕ, List, [], ◌∷◌, ◌++◌, sym, subst, refl, inl, inr}
use Rattle.std.specs.List.{concat}
use Rattle.iot_event.specs.Events.{Gives, Events}
use Rattle.iot_event.specs.declared.event.Event.{Event}
use Rattle.iot_journal.specs.Decoding.{Encodes}
use Rattle.iot_journal.specs.Images.{EachDecodes}
use Rattle.iot_app.specs.Played.{WroteFront}
use Rattle.iot_app.specs.Refusals.{too_long_line}
use Rattle.iot_history.specs.Continuing.{Continued}
use Rattle.iot_history.specs.Ending.{Effects, DidNothing, OnRefusal, OnEvents, LineEnds, RefusalEnds, Ends}
use Rattle.iot_history.specs.Input.{TookText, TookFor, IsRefused, too_long, no_script, told_after}
use Rattle.iot_history.specs.Past.{GivesSome, marks_in}
use Rattle.iot_history.specs.declared.input.InputFault.{InputFault}
use Rattle.iot_history.specs.declared.input.InputFault.TheVariants as inputs
use Rattle.iot_history.specs.declared.status.Status.{Status}
use Rattle.iot_history.specs.declared.status.Status.TheVariants as statuses

module _ (it : Effects) (bodies : List (List ℕ)) (found : it.found ≡ Encodes bodies) (kept : EachDecodes it.images it.found) where
  nothing : it.wrote [] → DidNothing it
  nothing written = record { kept = kept; wrote = written }

  on_refusal : (wrote : List ℕ → Type 0) (line : List ℕ) → IsRefused (concat bodies) it.took it.at_end line → wrote line → OnRefusal it wrote
  on_refusal wrote line refused written = record {
    bodies = bodies;
    found = found;
    line = line;
    refused = refused;
    kept = kept;
    written = written;
  }

  by_line : (line : List ℕ) (status : Status) → IsRefused (concat bodies) it.took it.at_end line → LineEnds line it.wrote status
      → Ends it status
  by_line line statuses.Done refused ends = absurd ends
  by_line line statuses.Refused refused ends = on_refusal it.wrote line refused ends
  by_line line statuses.ReadFailed refused ends = absurd ends
  by_line line statuses.WriteFailed refused ends = inl (on_refusal (WroteFront it.wrote) line refused ends)
  by_line line statuses.NoMemory refused ends = inl (nothing ends)
  by_line line statuses.Stopped refused ends = absurd ends
  by_line line statuses.NoJournal refused ends = absurd ends
  by_line line statuses.NoHistory refused ends = absurd ends

  by_fault : (fault : InputFault) (status : Status) → TookFor (concat bodies) fault it.took it.at_end
      → RefusalEnds (concat bodies) fault it.wrote status → Ends it status
  by_fault inputs.NoMemory status took ends = subst (λ (s : Status). Ends it s) (sym ends.0) (inl (nothing ends.1))
  by_fault inputs.Failed status took ends = subst (λ (s : Status). Ends it s) (sym ends.0) (nothing ends.1)
  by_fault inputs.TooLong status took ends = by_line too_long_line status (too_long took refl) ends
  by_fault (inputs.NoScript fault) status took ends =
      by_line (told_after (concat bodies) fault) status (no_script fault took refl) ends

  -- an input after this text of the earlier ones is refused
  pub refused_ends : (past : List ℕ) (fault : InputFault) (status : Status) → past ≡ concat bodies → TookFor past fault it.took it.at_end
      → RefusalEnds past fault it.wrote status → Ends it status
  refused_ends past fault status is took ends =
      by_fault fault status (subst (λ (p : List ℕ). TookFor p fault it.took it.at_end) is took)
      (subst (λ (p : List ℕ). RefusalEnds p fault it.wrote status) is ends)

by_status : (it : Effects) (status : Status) → OnEvents it status → Ends it status
by_status it statuses.Done on = on
by_status it statuses.Refused on = absurd on.continued
by_status it statuses.ReadFailed on = absurd on.continued
by_status it statuses.WriteFailed on = inr on
by_status it statuses.NoMemory on = inr on
by_status it statuses.Stopped on = inr (inr on)
by_status it statuses.NoJournal on = absurd on.continued
by_status it statuses.NoHistory on = absurd on.continued

-- an input is recorded after these bodies, and the events of all are done but for what was said
pub recorded_ends : (it : Effects) (bodies now : List (List ℕ)) (past text : List ℕ) (old : ℕ) (events did : List Event) (status : Status)
    → it.found ≡ Encodes bodies → GivesSome bodies → TookText it.took it.at_end text → past ≡ concat bodies
    → Gives (past ++ text) (Events events) → now ≡ bodies ++ text ∷ [] → old ≡ marks_in bodies → did ≡ events
    → Continued it.handed it.images now it.wrote old did status → Ends it status
recorded_ends it bodies now past text old events did status found some taken past_is gives now_is old_is did_is continued =
    by_status it status (record {
      bodies = bodies;
      found = found;
      past = some;
      text = text;
      taken = taken;
      events = events;
      gives = subst (λ (p : List ℕ). Gives (p ++ text) (Events events)) past_is gives;
      continued =
          subst (λ (bs : List (List ℕ)). Continued it.handed it.images bs it.wrote (marks_in bodies) events status) now_is
          (subst (λ (n : ℕ). Continued it.handed it.images now it.wrote n events status) old_is
          (subst (λ (es : List Event). Continued it.handed it.images now it.wrote old es status) did_is continued));
    })
