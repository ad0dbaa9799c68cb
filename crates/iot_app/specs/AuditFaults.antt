-- Faults of the parts and of parsing, as refusals of an audit.
use Rattle.iot_event.specs.declared.fault.EventFault.{EventFault}
use Rattle.iot_app.specs.InputFaults.{of_parsing}
use Rattle.iot_app.specs.declared.audit.Refusal.{Refusal}
use Rattle.iot_app.specs.declared.audit.Refusal.TheVariants.{Input, Short}
use Rattle.iot_app.specs.declared.input.InputFault.TheVariants as inputs
use Rattle.iot_app.specs.declared.parts.PartsFault.{PartsFault}
use Rattle.iot_app.specs.declared.parts.PartsFault.TheVariants as parts

abbrev pub of_parts : PartsFault → Refusal
of_parts parts.TooLong = Input inputs.TooLong
of_parts parts.Short = Short

abbrev pub of_script : EventFault → Refusal
of_script fault = Input (of_parsing fault)
