-- The next step of a client's transaction, and the transaction as one that waits.
use Rattle.std.proofs.Common.{◌≡◌, ◌<◌, ◌≤◌, Bool, true, false, refl, sym, ap}
use Rattle.std.proofs.lemmas.Bool.{le-ltb, lt-ltb}
use Rattle.std.specs.FinMap.{empty}
use Rattle.iot_tree.specs.declared.limits.TheConstants.{ACT_LIMIT}
use Rattle.iot_machine.specs.Clients.{Running, so_far, plain_run, AtEnd, AtLimit, next_away, next_by, next_step}
use Rattle.iot_judging.proofs.BudgetLaws.{ended_stays}

-- ---- the next step

module _ (first : Bool) (it : Running) where
  pub is_at_end : (so_far it).ended ≡ true → next_step first it ≡ AtEnd
  is_at_end is = rw is refl

  pub is_at_limit : (so_far it).ended ≡ false → ACT_LIMIT ≤ it.acts → next_step first it ≡ AtLimit
  is_at_limit is full = rw (is, le-ltb it.acts ACT_LIMIT full) refl

  pub is_next : (so_far it).ended ≡ false → it.acts < ACT_LIMIT → next_step first it ≡ next_by first (next_away it)
  is_next is below = rw (is, lt-ltb it.acts ACT_LIMIT below) refl

-- ---- as one that waits

module _ (it : Running) where
  -- with the budget of one that waits it does nothing more, if it has ended
  pub ended_waits : (so_far it).ended ≡ true → it.acts ≤ ACT_LIMIT → plain_run it.script it.base ACT_LIMIT ≡ so_far it
  ended_waits is within = ended_stays it.script.code empty it.base it.acts ACT_LIMIT within is

  -- or if it is at its limit
  pub full_waits : it.acts ≡ ACT_LIMIT → plain_run it.script it.base ACT_LIMIT ≡ so_far it
  full_waits full = ap (plain_run it.script it.base) (sym full)
