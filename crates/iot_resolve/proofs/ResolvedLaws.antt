-- What a resolution keeps.
use Rattle.std.proofs.Common.{◌≡◌, ℕ, zero, suc, Bool, true, false, List, [], Option, Some, None, if◌then◌else◌, refl, sym, ap, ◌∙◌}
use Rattle.std.specs.FinMap.{get, get-empty}
use Rattle.std.specs.List.{cons_option}
use Rattle.iot_text.specs.Paths.{path_cmp}
use Rattle.iot_tree.specs.Tree.{Path, Nodes}
use Rattle.iot_tree.specs.Questions.{content_of}
use Rattle.iot_tree.specs.declared.acts.Act.{Act}
use Rattle.iot_lang.specs.Code.{Code}
use Rattle.iot_acts.specs.Traces.{after_update}
use Rattle.iot_exec.specs.Commands.{Kept, kept_files}
use Rattle.iot_exec.specs.Plans.{Performed, perform, Effect}
use Rattle.iot_exec.specs.Places.{Place, Over, At, start, plan_at}
use Rattle.iot_exec.specs.Finding.{wanted_in, if_kept, found_of, found_from, found_in, is_among, files_among, AreFound}
use Rattle.iot_exec.specs.Runs.{run, ran_on}
use Rattle.iot_exec.specs.declared.ran.Ran.{Ran}
use Rattle.iot_exec.specs.declared.ran.Acted.{Acted}
use Rattle.iot_queue.specs.declared.items.Resolution.{Resolution}
use Rattle.iot_resolve.specs.declared.plan.Plan.{Plan}
use Rattle.iot_resolve.specs.Files.{offered}
use Rattle.iot_resolve.specs.Resolved.{found, resolved, KeepsFound}
use Rattle.iot_resolve.proofs.FilesLaws.{offers_files}

-- ---- a run finds nothing if no file is offered to it

abbrev no_files : Kept
no_files = kept_files []

finds_nothing : (wanted : Option Path) → found_of no_files wanted ≡ None
finds_nothing None = refl
finds_nothing (Some p) = ap (if_kept p) (get-empty path_cmp p)

none_found : (n : ℕ) (place : Place) (t : Nodes) → found_from no_files n place t ≡ []
none_found zero place t = refl
none_found (suc n) Over t = refl
none_found (suc n) (At code frames env) t =
    let performed : Performed (Effect Place) = perform t (plan_at no_files code frames env) in
    let u : Nodes = after_update t performed.result.update in
    ap (λ (o : Option Path). cons_option o (found_from no_files n performed.result.result u)) (finds_nothing (wanted_in env code))
    ∙ none_found n performed.result.result u

-- ---- what is kept

kept_at : (keeps : Bool) (code : Code) (local server : Nodes) (budget : ℕ) (files : List (Path × List ℕ))
    → AreFound code (offered keeps local) files server budget → (p : Path)
    → get (kept_files files) p
    ≡ (if is_among p (found_in code (kept_files (offered keeps local)) server budget) then content_of local p else None)
kept_at true code local server budget files are p =
    are.each p
    ∙ ap (λ (o : Option (List ℕ)). if is_among p (found_in code (kept_files (offered true local)) server budget) then o else None)
    ((offers_files true local).each p)
kept_at false code local server budget files are p =
    let none : found_in code no_files server budget ≡ [] = none_found budget (start code) server in
    are.each p
    ∙ ap (λ (paths : List Path). if is_among p paths then get no_files p else None) none
    ∙ sym (ap (λ (paths : List Path). if is_among p paths then content_of local p else None) none)

pub keeps_found : (plan : Plan) (code : Code) (local server : Nodes) (files : List (Path × List ℕ))
    → AreFound code (offered plan.keeps local) files server plan.budget → KeepsFound plan code local server files
keeps_found plan code local server files are = record {
  rising = are.rising (offers_files plan.keeps local).rising;
  each = kept_at plan.keeps code local server plan.budget files are;
}

-- ---- a run on what is offered and on the server's tree is the resolution

pub acts_there : (code : Code) (files : List (Path × List ℕ)) (t u server : Nodes) (budget : ℕ) (acted : Acted)
    → ran_on acted u ≡ run code (kept_files files) t budget → t ≡ server
    → acted.acts ≡ (run code (kept_files files) server budget).acts
acts_there code files t u server budget acted is same =
    ap (λ (ran : Ran). ran.acts) is ∙ ap (λ (t : Nodes). (run code (kept_files files) t budget).acts) same

abbrev resolution : Plan → List (Path × List ℕ) → List Act → Resolution
resolution plan files acts = record { script = plan.script; budget = plan.budget; kept = files; acts = acts }

pub resolved_is : (plan : Plan) (code : Code) (local server t : Nodes) (files : List (Path × List ℕ)) (acts : List Act)
    → files ≡ files_among (found_in code (kept_files (offered plan.keeps local)) t plan.budget) (offered plan.keeps local) → t ≡ server
    → acts ≡ (run code (kept_files (offered plan.keeps local)) server plan.budget).acts
    → resolution plan files acts ≡ resolved plan code local server
resolved_is plan code local server t files acts kept same done =
    ap (λ (files : List (Path × List ℕ)). resolution plan files acts)
    (kept
    ∙ ap (λ (t : Nodes). files_among (found_in code (kept_files (offered plan.keeps local)) t plan.budget) (offered plan.keeps local)) same)
    ∙ ap (λ (acts : List Act). resolution plan (files_among (found plan code local server) (offered plan.keeps local)) acts) done
