-- What contracts see of a client, and what ties its state to the run of its script.
use Rattle.std.specs.Prelude.{◌≡◌, ℕ, ◌≤◌, Bool, false, List, [], ◌∷◌, length, Option, Some, None, IsSome}
use Rattle.std.specs.FinMap.{empty}
use Rattle.std.specs.List.{AllByRecursion}
use Rattle.iot_disk.specs.Disk.{Medium}
use Rattle.iot_tree.specs.declared.limits.TheConstants.{ACT_LIMIT}
use Rattle.iot_lang.specs.Code.{Code}
use Rattle.iot_lang.specs.Scripts.{IsScript}
use Rattle.iot_exec.specs.Runs.{run}
use Rattle.iot_exec.specs.Execs.{IsRunning}
use Rattle.iot_exec.specs.declared.ran.Ran.{Ran}
use Rattle.iot_stamp.specs.Stamps.{Stamps}
use Rattle.iot_kept.specs.Kept as kept
use Rattle.iot_kept.specs.States.{Transaction, State, own_view}
use Rattle.iot_client.specs.declared.client.Client.{Client}
use Rattle.iot_client.specs.declared.interpreter.Interpreter.{Interpreter}

-- ---- what contracts see

-- what is durable
abbrev pub state_of : {D : Type 0} → Client D → State
state_of client = kept.state_of client.kept

-- the held tree with the server's stamps, which no disk keeps
abbrev pub stamps_of : {D : Type 0} → Client D → Stamps
stamps_of client = kept.stamps_of client.kept

-- the client's place
abbrev pub place_of : {D : Type 0} → Client D → ℕ
place_of client = client.me

-- the disk
abbrev pub disk_of : {D : Type 0} → Client D → D
disk_of client = kept.disk_of client.kept

-- the number of records ever appended, modulo 2 ^ 64
abbrev pub records_of : {D : Type 0} → Client D → ℕ
records_of client = kept.records_of client.kept

-- whether those that run are first class, in their order
abbrev pub classes_in : {D : Type 0} → Client D → List Bool
classes_in client = kept.classes_in client.kept

-- what is known of a running transaction besides what is durable: whether it is first class; and its script, if it was begun since the
-- start
pub record Live : Type 0 where
  pub first : Bool
  pub code : Option Code

abbrev pub code_in : Option Interpreter → Option Code
code_in None = None
code_in (Some interpreter) = Some interpreter.script.value

-- of each in turn
abbrev pub lives : List Bool → List (Option Interpreter) → List Live
lives (first ∷ classes) (interpreter ∷ interpreters) = record { first = first; code = code_in interpreter } ∷ lives classes interpreters
lives _ _ = []

abbrev pub live_of : {D : Type 0} → Client D → List Live
live_of client = lives (classes_in client) client.interpreters.items

-- it was begun since the start: one that the start found is only to be cut
abbrev pub IsBegun : Live → Type 0
IsBegun live = IsSome live.code

abbrev pub AreBegun : List Live → Type 0
AreBegun lives = AllByRecursion IsBegun lives

-- the start found it: it is second class, and has no script
pub record IsFound (live : Live) : Type 0 where
  pub second : live.first ≡ false
  pub none : live.code ≡ None

abbrev pub AreFound : List Live → Type 0
AreFound lives = AllByRecursion IsFound lives

-- ---- runs

-- the run of a transaction's script with nothing kept, on its base, with a budget of n acts
abbrev pub run_of : Transaction → Code → ℕ → Ran
run_of it code n = run code empty it.base n

-- the run with as many acts as were done has the recorded acts, and its tree is the transaction's own view
pub record IsOwnRun (it : Transaction) (code : Code) : Type 0 where
  pub acts : (run_of it code (length it.acts)).acts ≡ it.acts
  pub tree : (run_of it code (length it.acts)).tree ≡ own_view it

abbrev pub IsOwnRunIfAny : Transaction → Option Code → Type 0
IsOwnRunIfAny it None = Unit {0}
IsOwnRunIfAny it (Some code) = IsOwnRun it code

-- of all that run, each with what is known of it
abbrev pub AreOwnRuns : List Transaction → List Live → Type 0
AreOwnRuns [] [] = Unit {0}
AreOwnRuns (it ∷ running) (live ∷ lives) = IsOwnRunIfAny it live.code × AreOwnRuns running lives
AreOwnRuns _ _ = ⊥

-- ---- the tie

-- the interpreter has done the transaction's acts from its base on, whose tree is its own view now
pub record IsRun (it : Transaction) (interpreter : Interpreter) : Type 0 where
  pub run : IsRunning interpreter.script.value empty it.base (length it.acts) it.acts interpreter.exec (own_view it)
  pub few : length it.acts ≤ ACT_LIMIT
  pub script : IsScript interpreter.script.value

-- one that the start found has none
abbrev pub IsRunIfAny : Transaction → Option Interpreter → Type 0
IsRunIfAny it None = Unit {0}
IsRunIfAny it (Some interpreter) = IsRun it interpreter

-- so it is of each in turn
abbrev pub AreRuns : List Transaction → List (Option Interpreter) → Type 0
AreRuns [] [] = Unit {0}
AreRuns (it ∷ running) (interpreter ∷ interpreters) = IsRunIfAny it interpreter × AreRuns running interpreters
AreRuns _ _ = ⊥

-- what each call keeps: nothing is under way on the disk, which stands for the state; and the interpreters run what runs
pub record IsTied {D : Type 0} (medium : Medium D) (client : Client D) : Type 0 where
  pub synced : kept.IsSynced medium client.kept
  pub runs : AreRuns (state_of client).running client.interpreters.items
