-- Whether the transaction with a number runs, and what that says of a call.
use Rattle.std.proofs.Common.{◌≡◌, ℕ, Bool, false, List, [], Option, Some, None, sym, ap}
use Rattle.iot_tree.specs.Tree.{Nodes}
use Rattle.iot_changes.specs.declared.changes.Change.TheVariants.{Fetched}
use Rattle.iot_kept.specs.Changes.{CanFollow}
use Rattle.iot_kept.specs.States.{Transaction, numbered}
use Rattle.iot_client.specs.Calls.{idle, is_over_if_any, unended}
use Rattle.iot_client.specs.Doing.{IsAt}
use Rattle.iot_client.specs.Ties.{AreRuns, Live, state_of, classes_in}
use Rattle.iot_client.specs.declared.client.Client.{Client}
use Rattle.iot_client.specs.declared.fault.ClientFault.TheVariants.{Idle}
use Rattle.iot_client.proofs.PlaceLaws.{Here, here_in, run_here}

-- ---- it does not run

module _ (number : ℕ) (running : List Transaction) (none : numbered number running ≡ None) where
  pub is_idle : Some Idle ≡ idle (numbered number running)
  is_idle = ap idle (sym none)

  pub is_unended : (over : Bool) → Some Idle ≡ unended (numbered number running) over
  is_unended over = ap (λ (it : Option Transaction). unended it over) (sym none)

  pub is_not_over : (live : Option Live) → false ≡ is_over_if_any (numbered number running) live
  is_not_over live = ap (λ (it : Option Transaction). is_over_if_any it live) (sym none)

-- ---- it runs

module _ {D : Type 0} (old : Client D) (number at : ℕ) (runs : AreRuns (state_of old).running old.interpreters.items)
    (is : IsAt number (state_of old).running at) where
  h : Here number at (state_of old).running (classes_in old) old.interpreters.items
  h = here_in old number at runs is

  pub not_idle : idle (numbered number (state_of old).running) ≡ None
  not_idle = ap idle h.found

  -- a tree may be fetched for it
  pub fetch_follows : (t : Nodes) → (state_of old).items ≡ [] → CanFollow (state_of old) (Fetched number t)
  fetch_follows t alone = (run_here (λ it. Unit {0}) number (state_of old).running h.it h.found tt, alone)
