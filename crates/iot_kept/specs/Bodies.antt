-- The whole of what is durable of a client, as the body of a checkpoint.
use Rattle.std.specs.Prelude.{◌≡◌, ◌≢◌, ◌≤◌, ◌<◌, ℕ, List, [], ◌∷◌, ◌++◌, length, map, Some}
use Rattle.std.specs.List.{AllByRecursion}
use Rattle.iot_access.specs.Access.{no_access}
use Rattle.iot_tree.specs.declared.access.Access.{Access}
use Rattle.iot_tree.specs.declared.labels.OnConflict.{OnConflict}
use Rattle.iot_queue.specs.declared.items.Item.{Item}
use Rattle.iot_queue.specs.declared.items.Stage.{Stage}
use Rattle.iot_queue.specs.declared.items.Stage.TheVariants as stages
use Rattle.iot_bodies.specs.Rules.{IsStage, waiting_of}
use Rattle.iot_bodies.specs.declared.client.ClientBody.{ClientBody}
use Rattle.iot_bodies.specs.declared.client.Running.{Running}
use Rattle.iot_bodies.specs.declared.running.TheConstants.{RUN_LIMIT}
use Rattle.iot_slots.specs.declared.version.Version.{Version}
use Rattle.iot_kept.specs.Changes.{stage_by}
use Rattle.iot_kept.specs.Spelled.{IsSpelledState}
use Rattle.iot_kept.specs.States.{Transaction, State, AllHold, AreGuarded}
use Rattle.iot_kept.specs.Versions.{SpellsClient}

-- ---- which states a client may have

-- the numbers of the transactions that wait, and of those that run
abbrev pub tids : List Item → List ℕ
tids items = map (λ (item : Item). item.tid) items

abbrev pub run_numbers : List Transaction → List ℕ
run_numbers running = map (λ (it : Transaction). it.number) running

abbrev pub numbers_of : List Item → List Transaction → List ℕ
numbers_of items running = tids items ++ run_numbers running

-- none of these is there twice
abbrev pub AreApart : List ℕ → Type 0
AreApart [] = Unit {0}
AreApart (n ∷ ns) = AllByRecursion (λ m. m ≢ n) ns × AreApart ns

-- none is above this one
abbrev pub AreUpTo : ℕ → List ℕ → Type 0
AreUpTo last ns = AllByRecursion (λ n. n ≤ last) ns

-- each is less than those behind it
abbrev pub Rise : List ℕ → Type 0
Rise [] = Unit {0}
Rise (n ∷ ns) = AllByRecursion (λ m. n < m) ns × Rise ns

-- each transaction has a number of its own, which is not above the last one; and those that run stand by their numbers
pub record AreNumbered (state : State) : Type 0 where
  pub apart : AreApart (numbers_of state.items state.running)
  pub last : AreUpTo state.last (numbers_of state.items state.running)
  pub rise : Rise (run_numbers state.running)

-- a transaction with this option may be in this stage
abbrev pub Allows : OnConflict → Stage → Type 0
Allows option stages.Waiting = Unit {0}
Allows option stages.Conflict = stage_by option ≡ Some stages.Conflict
Allows option stages.Manual = stage_by option ≡ Some stages.Manual
Allows option (stages.Resolved done) = stage_by option ≡ Some stages.Conflict

-- only the first may be in another stage than Waiting, one that its option allows; and only if it is Resolved there is an access
abbrev pub HeadStands : List Item → Access → Type 0
HeadStands [] access = access ≡ no_access
HeadStands (item ∷ items) access =
    Allows item.option item.stage × IsStage item.stage access × AllByRecursion (λ other. other.stage ≡ stages.Waiting) items

-- All parts have spellings. The acts of those that wait hold in turn, those of one that runs hold on its base, and all are guarded by their
-- reads. Not too many run.
pub record IsState (state : State) : Type 0 where
  pub spelled : IsSpelledState state
  pub hold : AllHold state
  pub guarded : AreGuarded state
  pub few : length state.running ≤ RUN_LIMIT
  pub numbered : AreNumbered state
  pub head : HeadStands state.items state.access

-- ---- its spelling

abbrev pub running_of : Transaction → Running
running_of it = record { tid = it.number; script = it.script; option = it.option; base = it.base; acts = it.acts }

-- its parts as they are spelled
abbrev pub body_of : State → ClientBody
body_of state = record {
  held = state.held;
  items = waiting_of state.items state.access;
  running = map running_of state.running;
  last = state.last;
}

-- the body spells the whole of this state, in this version
pub record IsBody (version : Version) (body : List ℕ) (state : State) : Type 0 where
  pub value : IsState state
  pub spelled : SpellsClient version body (body_of state)
