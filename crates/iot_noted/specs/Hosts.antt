-- What a file of the system was asked.
use Rattle.std.specs.Prelude.{List}
use Rattle.iot_noted.specs.Events.{Event}
use Rattle.iot_noted.specs.declared.host.Host.{Host}

-- the newest first
abbrev pub asked : Host → List Event
asked host = host.log.events
