-- How a sync went, and what is said of how far a transaction is and of how it is resolved.
use Rattle.std.specs.Prelude.{if◌then◌else◌, leb, ◌++◌}
use Rattle.iot_exchange.specs.Words.{Bool, Err, Halt, List, Ok, Result, Verdict, codes, false, length, true, ℕ, []}
use Rattle.iot_exchange.specs.declared.queues.Synced.{Synced, TheVariants.Moved, TheVariants.Stays, TheVariants.Unanswered}
use Rattle.{iot_inspect.specs.declared.waiting.RunLine.RunLine, iot_kept.specs.declared.running.Running.Running}
use Rattle.iot_machine.specs.{Serving.Conflict, Serving.Settled, Texts.abort_line, Texts.conflict_line, Texts.manual_line}
use Rattle.{iot_machine.specs.Texts.settled_line, iot_resolve.specs.declared.plan.Plan.Plan}
use Rattle.iot_tree.specs.declared.labels.OnConflict.{OnConflict, TheVariants.Abort, TheVariants.Manual}
use Rattle.iot_tree.specs.declared.limits.TheConstants.{ACT_LIMIT}
use Rattle.iot_machine.specs.Transactions as machine

-- how a sync went, as the machine says it
abbrev pub synced_of : Synced → machine.Synced
synced_of Moved = machine.Moved
synced_of Stays = machine.Stays
synced_of Unanswered = machine.Unanswered

abbrev pub synced_by : Result Synced Halt → Result machine.Synced Halt
synced_by (Ok synced) = Ok (synced_of synced)
synced_by (Err halt) = Err halt

-- its script has ended, or it may do no more acts
abbrev pub place_said : (at_end : Bool) → (acts : ℕ) → List ℕ
place_said true acts = codes ", at end"
place_said false acts = if leb ACT_LIMIT acts then codes ", at limit" else []

-- what a line says of a transaction that runs
abbrev pub line_of : Running → RunLine
line_of it = record { tid = it.tid; script = it.script; first = it.first; acts = length it.acts }

-- what a resolution is said to be by: the own script again, or the resolver's name
abbrev pub resolver_said : Plan → List ℕ
resolver_said plan = if plan.keeps then plan.script else codes "reexec"

-- what a client is told of a transaction, as it is said, and how the sync went
abbrev pub told_text : (name : List ℕ) → Verdict → OnConflict → List ℕ
told_text name (Settled number) option = settled_line name number
told_text name (Conflict read question) Abort = conflict_line name read question ++ abort_line name
told_text name (Conflict read question) Manual = conflict_line name read question ++ manual_line name
told_text name (Conflict read question) option = conflict_line name read question

abbrev pub told_synced : Verdict → OnConflict → machine.Synced
told_synced (Conflict read question) Manual = machine.Stays
told_synced verdict option = machine.Moved
