-- Faults of a call: which of them a disk is part of, and those of replies and of the disk as a client's own.
use Rattle.std.specs.Prelude.{ℕ, Result, Ok, Err}
use Rattle.iot_count.specs.Counts.{Rose, Stayed}
use Rattle.iot_codec.specs.declared.faults.CodecFault.{CodecFault}
use Rattle.iot_codec.specs.declared.faults.CodecFault.TheVariants as codec
use Rattle.iot_disk.specs.declared.faults.JournalFault.{JournalFault}
use Rattle.iot_disk.specs.declared.faults.JournalFault.TheVariants as journal
use Rattle.iot_client.specs.declared.fault.ClientFault.{ClientFault}
use Rattle.iot_client.specs.declared.fault.ClientFault.TheVariants.{NoMemory, Stopped, Busy, Pending, Idle, NotAtEnd, Nothing}
use Rattle.iot_client.specs.declared.fault.ClientFault.TheVariants.{NotManual, BadReply}

-- a reply is bad where its reader finds its first fault
abbrev pub of_codec : CodecFault → ClientFault
of_codec codec.NoMemory = NoMemory
of_codec (codec.Malformed at) = BadReply at

-- the disk failed, or memory ran out
abbrev pub of_journal : JournalFault → ClientFault
of_journal journal.NoMemory = NoMemory
of_journal journal.Stopped = Stopped

-- a call that appends a record, and that nothing refuses, fails in these ways alone
abbrev pub MayFail : ClientFault → Type 0
MayFail NoMemory = Unit {0}
MayFail Stopped = Unit {0}
MayFail Busy = ⊥
MayFail Pending = ⊥
MayFail Idle = ⊥
MayFail NotAtEnd = ⊥
MayFail Nothing = ⊥
MayFail NotManual = ⊥
MayFail (BadReply at) = ⊥

-- the disk has no part in it
abbrev pub IsNoStop : ClientFault → Type 0
IsNoStop NoMemory = Unit {0}
IsNoStop Stopped = ⊥
IsNoStop Busy = Unit {0}
IsNoStop Pending = Unit {0}
IsNoStop Idle = Unit {0}
IsNoStop NotAtEnd = Unit {0}
IsNoStop Nothing = Unit {0}
IsNoStop NotManual = Unit {0}
IsNoStop (BadReply at) = Unit {0}

-- the disk's count of faults, before and after a call with this answer: it rises if the call was stopped, and only then
abbrev pub CountsFault : {T : Type 0} → Result T ClientFault → ℕ → ℕ → Type 0
CountsFault (Ok _) before now = Stayed before now
CountsFault (Err NoMemory) before now = Stayed before now
CountsFault (Err Stopped) before now = Rose before now
CountsFault (Err Busy) before now = Stayed before now
CountsFault (Err Pending) before now = Stayed before now
CountsFault (Err Idle) before now = Stayed before now
CountsFault (Err NotAtEnd) before now = Stayed before now
CountsFault (Err Nothing) before now = Stayed before now
CountsFault (Err NotManual) before now = Stayed before now
CountsFault (Err (BadReply at)) before now = Stayed before now
