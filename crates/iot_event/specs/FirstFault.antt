-- Which of two faults of a script comes first.
use Rattle.std.specs.Prelude.{ℕ, ◌+◌, ◌<◌, ◌^◌, nat_le, Option, Some, None, if◌then◌else◌}
use Rattle.iot_lang.specs.declared.faults.LangFault.{LangFault}
use Rattle.iot_lang.specs.declared.faults.LangFault.TheVariants as language
use Rattle.iot_event.specs.declared.fault.EventFault.{EventFault}
use Rattle.iot_event.specs.declared.fault.EventFault.TheVariants.{NoMemory, BadLine, BadStatement, TooDeep}

-- the number of a line at this place fits, if lines are counted from this one
abbrev pub FitsPlace : Option ℕ → ℕ → Type 0
FitsPlace None first = Unit {0}
FitsPlace (Some place) first = first + place < 2 ^ 64

abbrev pub place_of_fault : LangFault → Option ℕ
place_of_fault language.NoMemory = None
place_of_fault (language.BadStatement line) = Some line
place_of_fault (language.TooDeep line) = Some line

abbrev pub FitsNumbers : LangFault → Option ℕ → ℕ → Type 0
FitsNumbers refused unfit first = FitsPlace (place_of_fault refused) first × FitsPlace unfit first

-- the fault that the language finds at a place, unless a line up to there breaks the rule on bytes and length
abbrev pub unless_unfit : Option ℕ → ℕ → ℕ → EventFault → EventFault
unless_unfit None line first fault = fault
unless_unfit (Some place) line first fault = if nat_le place line then BadLine (first + place) else fault

abbrev pub first_fault : LangFault → Option ℕ → ℕ → EventFault
first_fault language.NoMemory unfit first = NoMemory
first_fault (language.BadStatement line) unfit first = unless_unfit unfit line first (BadStatement (first + line))
first_fault (language.TooDeep line) unfit first = unless_unfit unfit line first (TooDeep (first + line))
