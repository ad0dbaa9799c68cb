-- What is run in the place of a transaction that conflicts.
use Rattle.std.specs.Prelude.{ℕ, List, true, false, Option, Some, None}
use Rattle.iot_tree.specs.declared.limits.TheConstants.{ACT_LIMIT}
use Rattle.iot_tree.specs.declared.labels.OnConflict.{OnConflict}
use Rattle.iot_tree.specs.declared.labels.OnConflict.TheVariants.{Reexec, Resolver, Abort, Manual}
use Rattle.iot_queue.specs.declared.items.Item.{Item}
use Rattle.iot_resolve.specs.declared.plan.Plan.{Plan}

-- its own script with its own budget, which finds no files; or its resolver with the budget of a transaction, which finds files
abbrev pub plan_for : List ℕ → ℕ → OnConflict → Option Plan
plan_for script budget Reexec = Some (record { script = script; budget = budget; keeps = false })
plan_for script budget (Resolver other) = Some (record { script = other; budget = ACT_LIMIT; keeps = true })
plan_for script budget Abort = None
plan_for script budget Manual = None

abbrev pub plan_of : Item → Option Plan
plan_of item = plan_for item.script item.budget item.option
