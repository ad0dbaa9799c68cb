-- Faults of reading and of parsing, as faults of the input.
use Rattle.iot_io.specs.declared.faults.ReadFault.{ReadFault}
use Rattle.iot_io.specs.declared.faults.ReadFault.TheVariants as reading
use Rattle.iot_event.specs.declared.fault.EventFault.{EventFault}
use Rattle.iot_event.specs.declared.fault.EventFault.TheVariants as parsing
use Rattle.iot_app.specs.declared.input.InputFault.{InputFault}
use Rattle.iot_app.specs.declared.input.InputFault.TheVariants.{NoMemory, Failed, TooLong, NoScript}

abbrev pub of_reading : ReadFault → InputFault
of_reading reading.NoMemory = NoMemory
of_reading reading.Failed = Failed
of_reading reading.TooLong = TooLong

abbrev pub of_parsing : EventFault → InputFault
of_parsing parsing.NoMemory = NoMemory
of_parsing fault = NoScript fault
