-- States whose parts have spellings: what runs, what readers accept and what changes bring keep within the limits.
use Rattle.std.specs.Prelude.{List}
use Rattle.std.specs.List.{AllByRecursion}
use Rattle.iot_text.specs.Names.{IsName}
use Rattle.iot_views.specs.Rules.{IsAccess, IsNumber, IsOption, IsBudget, AreActs, IsTreeOfRows}
use Rattle.iot_changes.specs.Rules.{IsResolution}
use Rattle.iot_queue.specs.declared.items.Item.{Item}
use Rattle.iot_queue.specs.declared.items.Stage.{Stage}
use Rattle.iot_queue.specs.declared.items.Stage.TheVariants as stages
use Rattle.iot_kept.specs.States.{Transaction, State}

-- a resolution has a spelling
abbrev pub IsSpelledStage : Stage → Type 0
IsSpelledStage stages.Waiting = Unit {0}
IsSpelledStage stages.Conflict = Unit {0}
IsSpelledStage stages.Manual = Unit {0}
IsSpelledStage (stages.Resolved done) = IsResolution done

-- a transaction that waits: its acts are not too many, and each has a spelling
pub record IsSpelledItem (item : Item) : Type 0 where
  pub number : IsNumber item.tid
  pub script : IsName item.script
  pub budget : IsBudget item.budget
  pub acts : AreActs item.acts
  pub option : IsOption item.option
  pub stage : IsSpelledStage item.stage

abbrev pub AreSpelledItems : List Item → Type 0
AreSpelledItems items = AllByRecursion IsSpelledItem items

-- one that runs: its base is a tree that has a spelling, its acts so far are not too many, and each has one
pub record IsSpelledRunning (running : Transaction) : Type 0 where
  pub number : IsNumber running.number
  pub script : IsName running.script
  pub option : IsOption running.option
  pub base : IsTreeOfRows running.base
  pub acts : AreActs running.acts

abbrev pub AreSpelledRunning : List Transaction → Type 0
AreSpelledRunning running = AllByRecursion IsSpelledRunning running

-- the held tree is one and has a spelling, and so have the transactions, the last number and the access
pub record IsSpelledState (state : State) : Type 0 where
  pub held : IsTreeOfRows state.held
  pub items : AreSpelledItems state.items
  pub running : AreSpelledRunning state.running
  pub last : IsNumber state.last
  pub access : IsAccess state.access
