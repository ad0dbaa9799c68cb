-- Which changes have a spelling.
use Rattle.iot_queue.specs.declared.items.Resolution.{Resolution}
use Rattle.iot_text.specs.Names.{IsName}
use Rattle.iot_views.specs.Rules.{IsAccess, IsNumber, IsOption, IsBudget, AreFiles, AreActs, IsAct, IsTreeOfRows}
use Rattle.iot_changes.specs.declared.changes.Change.{Change}
use Rattle.iot_changes.specs.declared.changes.Change.TheVariants.{Held, Begun, Fetched, Acted, Ended, Cut, Conflicted, Resolved}
use Rattle.iot_changes.specs.declared.changes.Change.TheVariants.{Repaired, Left, Again}

-- a resolution: a budget of not too many acts, files whose paths rise, and not too many acts
pub record IsResolution (resolution : Resolution) : Type 0 where
  pub script : IsName resolution.script
  pub budget : IsBudget resolution.budget
  pub kept : AreFiles resolution.kept
  pub acts : AreActs resolution.acts

abbrev pub IsChange : Change → Type 0
IsChange (Held tree) = IsTreeOfRows tree
IsChange (Begun number script option) = IsNumber number × (IsName script × IsOption option)
IsChange (Fetched number tree) = IsNumber number × IsTreeOfRows tree
IsChange (Acted number act) = IsNumber number × IsAct act
IsChange (Ended number) = IsNumber number
IsChange (Cut number acts) = IsNumber number × IsNumber acts
IsChange Conflicted = Unit {0}
IsChange (Resolved resolution access) = IsResolution resolution × IsAccess access
IsChange (Repaired script) = IsName script
IsChange Left = Unit {0}
IsChange (Again number) = IsNumber number
