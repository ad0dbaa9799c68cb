-- What a client keeps, what it sees, and how that changes.
use Rattle.std.specs.Prelude.{◌≡◌, ◌≤◌, ℕ, ◌+◌, ◌==◌, Bool, true, false, List, [], ◌∷◌, ◌++◌, find}
use Rattle.std.specs.Prelude.{Option, Some, None, option_and_then, slice_get, nat_lt, if◌then◌else◌, codes}
use Rattle.std.specs.FinMap.{empty}
use Rattle.iot_tree.specs.Tree.{Nodes, Path, root_alone}
use Rattle.iot_tree.specs.Snapshots.{has, known, widen, prune}
use Rattle.iot_tree.specs.declared.acts.Act.{Act}
use Rattle.iot_tree.specs.declared.limits.TheConstants.{ACT_LIMIT}
use Rattle.iot_tree.specs.declared.labels.Way.{Way}
use Rattle.iot_tree.specs.declared.labels.Way.TheVariants as ways
use Rattle.iot_tree.specs.declared.nodes.Node.TheVariants.{FarDir}
use Rattle.iot_tree.specs.declared.want.Want.{Want}
use Rattle.iot_tree.specs.declared.acts.Read.{Read}
use Rattle.iot_acts.specs.Turns.{reads_of}
use Rattle.iot_lang.specs.Code.{Code}
use Rattle.iot_exec.specs.Commands.{Kept, kept_files}
use Rattle.iot_exec.specs.Files.{files_of}
use Rattle.iot_exec.specs.Finding.{found_in, files_among}
use Rattle.iot_exec.specs.Misses.{first_away}
use Rattle.iot_exec.specs.Runs.{run}
use Rattle.iot_exec.specs.declared.ran.Ran.{Ran}
use Rattle.iot_machine.specs.Options as options
use Rattle.iot_machine.specs.Options.{OnConflict}

-- a script as it was declared
pub record Declared : Type 0 where
  pub name : List ℕ
  pub code : Code

-- what was run in the place of a transaction that conflicted: the script, how many acts it had, the files that its `keep` commands
-- found, and the server's whole tree on which it ran
pub record Resolution : Type 0 where
  pub script : Declared
  pub budget : ℕ
  pub kept : Kept
  pub tree : Nodes

-- How far a transaction is that waits: it is to be certified with its own run; or it conflicts, and is to be resolved, or waits for
-- a decision by hand; or it was resolved, and is to be certified with its resolution.
pub data Stage : Type 0 where
  Waiting : Stage
  Conflict : Stage
  Manual : Stage
  Resolved : (resolution : Resolution) → Stage

-- a transaction that waits for the server: its number, its script, how many acts it has, what becomes of it if it conflicts, and
-- how far it is
pub record Item : Type 0 where
  pub number : ℕ
  pub script : Declared
  pub budget : ℕ
  pub option : OnConflict Declared
  pub stage : Stage

-- a transaction that runs: its number, its script, what becomes of it if it conflicts, the tree on which it began, and how many acts
-- were done
pub record Running : Type 0 where
  pub number : ℕ
  pub script : Declared
  pub option : OnConflict Declared
  pub base : Nodes
  pub acts : ℕ

-- what a client keeps: the tree that it holds, the transactions that wait, those that run, by number, and the number of its last one
pub record ClientState : Type 0 where
  pub held : Nodes
  pub items : List Item
  pub running : List Running
  pub last : ℕ

-- as many may run
abbrev pub most_running : ℕ
most_running = 4

-- a new client holds a root whose names it does not know
abbrev pub new_client : ClientState
new_client = record { held = root_alone FarDir; items = []; running = []; last = 0 }

-- ---- what it sees

-- the run of a script for which `keep` finds nothing
abbrev pub plain_run : Declared → Nodes → ℕ → Ran
plain_run script t budget = run script.code empty t budget

-- the own run of a transaction that waits, which no resolution changes
abbrev pub local_run : Nodes → Item → Ran
local_run t item = plain_run item.script t item.budget

abbrev pub after_items : Nodes → List Item → Nodes
after_items t [] = t
after_items t (item ∷ items) = after_items (local_run t item).tree items

-- the tree after the transactions that wait
abbrev pub view : ClientState → Nodes
view s = after_items s.held s.items

-- ---- a transaction that runs

-- its run so far, whose tree is its own view
abbrev pub so_far : Running → Ran
so_far it = plain_run it.script it.base it.acts

-- the one with this number, if it runs
abbrev pub has_number : ℕ → Running → Bool
has_number number it = it.number == number

abbrev pub numbered : ℕ → ClientState → Option Running
numbered number s = find (has_number number) s.running

-- the one that is meant: the one with this number, or without a number the first one
abbrev pub meant : Option ℕ → ClientState → Option Running
meant (Some number) s = numbered number s
meant None s = slice_get s.running 0

-- its next act
abbrev pub next_act : Running → Option Act
next_act it = slice_get (plain_run it.script it.base (it.acts + 1)).acts it.acts

-- the path of the first question of its next act that is away
abbrev pub next_away : Running → Option Path
next_away it = option_and_then (λ act. first_away act.reads) (next_act it)

pub data Next : Type 0 where
  AtEnd : Next
  AtLimit : Next
  Acts : Next
  Fetches : (path : Path) → Next

-- one of first class fetches what is away
abbrev pub next_by : (first : Bool) → Option Path → Next
next_by true (Some path) = Fetches path
next_by true None = Acts
next_by false away = Acts

abbrev pub next_step : (first : Bool) → Running → Next
next_step first it =
    if (so_far it).ended then AtEnd
    else if nat_lt it.acts ACT_LIMIT then next_by first (next_away it)
    else AtLimit

-- what it has read, and what its script reads on this tree in as many acts
abbrev pub reads_here : Running → List Read
reads_here it = reads_of (so_far it).acts

abbrev pub reads_on : Nodes → Running → List Read
reads_on t it = reads_of (plain_run it.script t it.acts).acts

-- it has read what it would read on this tree
abbrev pub ReadsSame : Nodes → Running → Type 0
ReadsSame t it = reads_on t it ≡ reads_here it

-- it, as it was after so many acts
abbrev pub back_to : ℕ → Running → Running
back_to acts it = record it { acts = acts }

-- so many of its acts, from the first one on, have read what they would read on this tree, and no more have
pub record IsLongest (t : Nodes) (it : Running) (m : ℕ) : Type 0 where
  pub few : m ≤ it.acts
  pub same : ReadsSame t (back_to m it)
  pub most : (n : ℕ) → n ≤ it.acts → ReadsSame t (back_to n it) → n ≤ m

-- ---- what the first transaction submits

-- a script with its budget, the way on which it comes, and the files that it keeps
pub record Attempt : Type 0 where
  pub script : Declared
  pub budget : ℕ
  pub way : Way
  pub kept : Kept

-- the way of a resolution, by the option; the last two resolve nothing
abbrev pub way_of : OnConflict Declared → Way
way_of options.Reexec = ways.Reexecuted
way_of (options.Resolver script) = ways.Resolved
way_of options.Abort = ways.Certified
way_of options.Manual = ways.Certified

-- one that was resolved submits its resolution, and another one its own run
abbrev pub attempt_by : Item → Stage → Attempt
attempt_by item (Resolved it) = record { script = it.script; budget = it.budget; way = way_of item.option; kept = it.kept }
attempt_by item other = record { script = item.script; budget = item.budget; way = ways.Certified; kept = empty }

abbrev pub attempt_of : Item → Attempt
attempt_of item = attempt_by item item.stage

-- the tree on which that ran: the one that is held, or the resolution's
abbrev pub ground : (held : Nodes) → Stage → Nodes
ground held (Resolved it) = it.tree
ground held other = held

abbrev pub attempted : (held : Nodes) → Item → Ran
attempted held item =
    run (attempt_of item).script.code (attempt_of item).kept (ground held item.stage) (attempt_of item).budget

-- ---- resolutions

-- what is to be run in the place of a transaction: what is said of it, the script, how many acts it has, and the files that are
-- offered to its `keep` commands
pub record Plan : Type 0 where
  pub said : List ℕ
  pub script : Declared
  pub budget : ℕ
  pub offered : List (Path × List ℕ)

-- its own script with its own budget, to which no files are offered; or its resolver with the budget of a transaction, to which the
-- files of the held tree after its own run are offered
abbrev pub plan_by : (held : Nodes) → Item → OnConflict Declared → Option Plan
plan_by held item options.Reexec =
    Some (record { said = codes "reexec"; script = item.script; budget = item.budget; offered = [] })
plan_by held item (options.Resolver script) =
    Some (record { said = script.name; script = script; budget = ACT_LIMIT; offered = files_of (local_run held item).tree })
plan_by held item options.Abort = None
plan_by held item options.Manual = None

abbrev pub plan_of : (held : Nodes) → Item → Option Plan
plan_of held item = plan_by held item item.option

-- the files that its run on this tree finds, of those that are offered
abbrev pub found_by : Plan → Nodes → List (Path × List ℕ)
found_by plan t = files_among (found_in plan.script.code (kept_files plan.offered) t plan.budget) plan.offered

-- its run on the server's tree, which keeps exactly the files that it finds
abbrev pub resolution_of : Plan → (server : Nodes) → Resolution
resolution_of plan server =
    record { script = plan.script; budget = plan.budget; kept = kept_files (found_by plan server); tree = server }

-- ---- how it changes, a record each

abbrev pub hold : Nodes → ClientState → ClientState
hold t s = record s { held = t }

-- its next transaction begins, on its view
abbrev pub begun : Declared → OnConflict Declared → ClientState → Running
begun script option s = record { number = s.last + 1; script = script; option = option; base = view s; acts = 0 }

abbrev pub begin : Declared → OnConflict Declared → ClientState → ClientState
begin script option s = record s { running = s.running ++ begun script option s ∷ []; last = s.last + 1 }

-- a change of the running transaction with this number
abbrev pub with_running : ℕ → (Running → Running) → List Running → List Running
with_running number change [] = []
with_running number change (it ∷ running) =
    if has_number number it then change it ∷ running else it ∷ with_running number change running

-- it begins anew, on this tree
abbrev pub anew : Nodes → Running → Running
anew t it = record it { base = t; acts = 0 }

-- it begins anew, on the view
abbrev pub again : (number : ℕ) → ClientState → ClientState
again number s = record s { running = with_running number (anew (view s)) s.running }

-- another tree is held, and it begins anew
abbrev pub fetch : (number : ℕ) → Nodes → ClientState → ClientState
fetch number t s = again number (hold t s)

abbrev pub one_more : Running → Running
one_more it = record it { acts = it.acts + 1 }

-- it does one act more
abbrev pub act_once : (number : ℕ) → ClientState → ClientState
act_once number s = record s { running = with_running number one_more s.running }

-- a running transaction, as one that waits with so many acts
abbrev pub waiting : (budget : ℕ) → Running → Item
waiting budget it = record { number = it.number; script = it.script; budget = budget; option = it.option; stage = Waiting }

-- it ended, so it may do all that its script does
abbrev pub item_of : Running → Item
item_of it = waiting ACT_LIMIT it

abbrev pub joined : List Item → Option Running → List Item
joined items None = items
joined items (Some it) = items ++ item_of it ∷ []

-- those that run without it
abbrev pub others : ℕ → List Running → List Running
others number [] = []
others number (it ∷ running) = if has_number number it then running else it ∷ others number running

-- the running transaction with this number ends, and waits
abbrev pub end : (number : ℕ) → ClientState → ClientState
end number s = record s { items = joined s.items (numbered number s); running = others number s.running }

-- the first of those that run was cut off, and waits: it is so many of its acts, wherever it is run from now on
abbrev pub cut_by : (acts : ℕ) → List Running → ClientState → ClientState
cut_by acts [] s = s
cut_by acts (it ∷ running) s = record s { items = s.items ++ waiting acts it ∷ []; running = running }

abbrev pub cut : (acts : ℕ) → ClientState → ClientState
cut acts s = cut_by acts s.running s

-- the first transaction leaves: what it did itself stays in the tree that is held
abbrev pub leave_by : List Item → ClientState → ClientState
leave_by [] s = s
leave_by (item ∷ items) s = record s { held = (local_run s.held item).tree; items = items }

abbrev pub leave : ClientState → ClientState
leave s = leave_by s.items s

-- a change of the first transaction
abbrev pub with_first : (Item → Item) → List Item → List Item
with_first change [] = []
with_first change (item ∷ items) = change item ∷ items

abbrev pub change_first : (Item → Item) → ClientState → ClientState
change_first change s = record s { items = with_first change s.items }

-- it is at this stage
abbrev pub at_stage : Stage → Item → Item
at_stage stage item = record item { stage = stage }

abbrev pub reach : Stage → ClientState → ClientState
reach stage s = change_first (at_stage stage) s

-- it is to be resolved by this script
abbrev pub resolved_by : Declared → Item → Item
resolved_by script item = record item { option = options.Resolver script; stage = Conflict }

abbrev pub repair : Declared → ClientState → ClientState
repair script s = change_first (resolved_by script) s

-- ---- objects of the server

-- the server's tree, cut down to what the held tree knows and what is wanted besides
abbrev pub snapshot : (held : Nodes) → Want → (server : Nodes) → Nodes
snapshot held want server = prune server (widen (has (known held)) server want)
