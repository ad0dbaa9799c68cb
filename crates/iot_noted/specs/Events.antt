-- What a file was asked, and what it holds by that.
use Rattle.std.specs.Prelude.{◌≡◌, ℕ, zero, suc, ◌+◌, List, [], ◌∷◌, length, slice_index}
use Rattle.iot_disk.specs.Disk.{Torn, overwritten}

pub data Event : Type 0 where
  -- it was made durable as it stood, and then read as these bytes
  Opened : (bytes : List ℕ) → Event
  -- these bytes were to be written from a place on, and all of them were, or some, or none
  Wrote : (at : ℕ) (bytes : List ℕ) → Event
  -- what was written was made durable
  Synced : Event

-- the event with this number, which `Record::note` is given
abbrev pub event_with : (kind at : ℕ) (bytes : List ℕ) → Event
event_with zero at bytes = Opened bytes
event_with (suc zero) at bytes = Wrote at bytes
event_with (suc (suc more)) at bytes = Synced

abbrev pub event_of : (numbers bytes : List ℕ) → Event
event_of numbers bytes = event_with (slice_index numbers 0) (slice_index numbers 1) bytes

-- the bytes of the file, if each write was whole; the newest event comes first
abbrev pub written : List Event → List ℕ
written [] = []
written (Opened bytes ∷ earlier) = bytes
written (Wrote at bytes ∷ earlier) = overwritten (written earlier) at bytes
written (Synced ∷ earlier) = written earlier

-- what the file may hold, and may be found to hold after a kill or a power cut: since the last sync, any bytes in the ranges that were
-- to be written, and no others
abbrev pub MayHold : List Event → List ℕ → Type 0
MayHold [] image = image ≡ []
MayHold (Opened bytes ∷ earlier) image = image ≡ bytes
MayHold (Wrote at bytes ∷ earlier) image = (before : List ℕ) × MayHold earlier before × Torn at (at + length bytes) before image
MayHold (Synced ∷ earlier) image = image ≡ written earlier
