-- The lines with which a run is refused.
use Rattle.std.specs.Prelude.{ℕ, List, [], ◌++◌, codes, decimal}
use Rattle.iot_event.specs.declared.fault.EventFault.{EventFault}
use Rattle.iot_event.specs.declared.fault.EventFault.TheVariants as faults
use Rattle.iot_machine.specs.Texts.{line}

abbrev pub usage_line : List ℕ
usage_line = line (codes "usage: iot [--json | --gen N | --save | --image | --upgrade | --audit]")

abbrev pub too_long_line : List ℕ
too_long_line = line (codes "input too long")

-- what is wrong in a line
abbrev pub fault_line : ℕ → List ℕ → List ℕ
fault_line number what = line (codes "line " ++ decimal number ++ codes ": " ++ what)

-- the fault of the first bad line; running out of memory is none
abbrev pub refusal_line : EventFault → List ℕ
refusal_line faults.NoMemory = []
refusal_line (faults.BadLine number) = fault_line number (codes "bad line")
refusal_line (faults.UnknownName number) = fault_line number (codes "unknown name")
refusal_line (faults.Twice number) = fault_line number (codes "named twice")
refusal_line (faults.TooMany number) = fault_line number (codes "too many")
refusal_line (faults.BadStatement number) = fault_line number (codes "bad statement")
refusal_line (faults.TooDeep number) = fault_line number (codes "nested too deep")
