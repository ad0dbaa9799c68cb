-- Which fault a text has that is no script.
use Rattle.std.specs.Prelude.{ℕ, ◌≡◌, ◌⊎◌, List, Result, Err}
use Rattle.iot_lang.specs.Code.{Code}
use Rattle.iot_lang.specs.Scripts.{IsTooDeep, IsBadStatement, IsOpen}
use Rattle.iot_lang.specs.declared.faults.LangFault.{LangFault}
use Rattle.iot_lang.specs.declared.faults.LangFault.TheVariants as faults
use Rattle.iot_lang.specs.declared.faults.LineFault.{LineFault}
use Rattle.iot_lang.specs.declared.faults.LineFault.TheVariants as line_faults
use Rattle.iot_lang.specs.declared.faults.PartFault.{PartFault}
use Rattle.iot_lang.specs.declared.faults.PartFault.TheVariants as part_faults

-- the lines have this fault, unless it is want of memory
abbrev pub HasFault : List (List ℕ) → LangFault → Type 0
HasFault texts faults.NoMemory = Unit {0}
HasFault texts (faults.BadStatement line) = IsBadStatement texts line ⊎ IsOpen texts line
HasFault texts (faults.TooDeep line) = IsTooDeep texts line

-- the answer is this one, or memory ran out
abbrev pub UnlessMemory : Result Code LangFault → Result Code LangFault → Type 0
UnlessMemory result answer = (result ≡ answer) ⊎ (result ≡ Err faults.NoMemory)

-- the fault of a line that is refused
abbrev pub fault_at : LineFault → ℕ → LangFault
fault_at line_faults.NoMemory line = faults.NoMemory
fault_at line_faults.BadStatement line = faults.BadStatement line
fault_at line_faults.TooDeep line = faults.TooDeep line

-- a line with a malformed part is no statement
abbrev pub line_fault : PartFault → LineFault
line_fault part_faults.NoMemory = line_faults.NoMemory
line_fault part_faults.Malformed = line_faults.BadStatement
