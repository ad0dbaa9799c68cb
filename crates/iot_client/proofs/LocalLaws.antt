-- A run in the place of a transaction, and the tree whose files it keeps.
use Rattle.std.proofs.Common.{◌≡◌, ℕ, Bool, true, false, List, [], ◌∷◌, Option, Some, refl, sym, ap, subst}
use Rattle.std.proofs.lemmas.Option.{same_Some}
use Rattle.iot_tree.specs.Tree.{Path, Nodes}
use Rattle.iot_acts.specs.Traces.{after_acts}
use Rattle.iot_lang.specs.Code.{Code}
use Rattle.iot_exec.specs.Commands.{kept_files}
use Rattle.iot_exec.specs.Runs.{run}
use Rattle.iot_exec.specs.Finding.{found_in, files_among}
use Rattle.iot_queue.specs.Queues.{head_of}
use Rattle.iot_queue.specs.declared.items.Item.{Item}
use Rattle.iot_queue.specs.declared.items.Resolution.{Resolution}
use Rattle.iot_resolve.specs.declared.plan.Plan.{Plan}
use Rattle.iot_resolve.specs.Files.{offered}
use Rattle.iot_resolve.specs.Plans.{plan_of}
use Rattle.iot_resolve.specs.Resolved.{resolved}
use Rattle.iot_client.specs.Calls.{IsPlannedRun, IsHeadsRun}

offers_same : (keeps : Bool) (one other : Nodes) → (keeps ≡ true → one ≡ other) → offered keeps one ≡ offered keeps other
offers_same true one other same = ap (offered true) (same refl)
offers_same false one other same = refl

-- a run that keeps no files does not depend on the tree
pub same_run : (plan : Plan) (code : Code) (one other server : Nodes) → (plan.keeps ≡ true → one ≡ other)
    → resolved plan code one server ≡ resolved plan code other server
same_run plan code one other server same = ap (λ (files : List (Path × List ℕ)). by files) (offers_same plan.keeps one other same)
  where
    by : List (Path × List ℕ) → Resolution
    by files =
        record {
          script = plan.script;
          budget = plan.budget;
          kept = files_among (found_in code (kept_files files) server plan.budget) files;
          acts = (run code (kept_files files) server plan.budget).acts;
        }

-- the planned run for the head is the one for the first that waits
pub heads_run : (held : Nodes) (items : List Item) (item : Item) (plan : Plan) (code : Code) (server : Nodes) (done : Resolution)
    → Some item ≡ head_of items → plan_of item ≡ Some plan → done ≡ resolved plan code (after_acts held item.acts) server
    → IsHeadsRun held items code server done
heads_run held [] item plan code server done first is run = absurd cc
heads_run held (head ∷ items) item plan code server done first is run =
    subst (λ (it : Item). IsPlannedRun (plan_of it) code (after_acts held it.acts) server done) (same_Some _ _ first)
    (subst (λ (p : Option Plan). IsPlannedRun p code (after_acts held item.acts) server done) (sym is) run)
