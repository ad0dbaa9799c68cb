-- Frames: the number of bytes that follow, as eight bytes, and these bytes.
use Rattle.std.specs.Prelude.{◌≡◌, ◌<◌, ◌≤◌, ℕ, ◌+◌, List, [], ◌++◌, length, take, Vec, Option, Some, None, Result, Ok, Err}
use Rattle.std.specs.declared.alloc.Global.{Global}
use Rattle.iot_records.specs.Bytes.{number, number_in}
use Rattle.iot_keep_app.specs.declared.fault.ServeFault.{ServeFault}
use Rattle.iot_keep_app.specs.declared.fault.ServeFault.TheVariants.{NoMemory, ReadFailed, Cut, TooLong, WriteFailed}
use Rattle.iot_keep_app.specs.declared.frames.TheConstants.{FRAME_LIMIT}

-- the frame of these bytes
abbrev pub frame : List ℕ → List ℕ
frame bytes = number (length bytes) ++ bytes

-- fewer bytes than the number has and says; if there are not eight, that is so whatever they say. If the number is there, it is within the
-- limit.
pub record IsShort (part : List ℕ) : Type 0 where
  pub short : length part < 8 + number_in part
  pub limit : 8 ≤ length part → number_in part ≤ FRAME_LIMIT

-- no more bytes than the number has and says, which is within the limit if any byte follows it
pub record IsFront (part : List ℕ) : Type 0 where
  pub within : length part ≤ 8 + number_in part
  pub limit : 8 < length part → number_in part ≤ FRAME_LIMIT

-- fewer bytes than that, and some
pub record IsCut (part : List ℕ) : Type 0 where
  pub some : 0 < length part
  pub short : IsShort part

-- a number over the limit, and nothing more
pub record IsOver (part : List ℕ) : Type 0 where
  pub alone : length part ≡ 8
  pub over : FRAME_LIMIT < number_in part

-- such bytes were taken
pub record TookPart (took : List ℕ → Type 0) (Is : List ℕ → Type 0) : Type 0 where
  pub part : List ℕ
  pub taken : took part
  pub is : Is part

-- the frame of these bytes was taken, which is within the limit
pub record TookFrame (took : List ℕ → Type 0) (bytes : List ℕ) : Type 0 where
  pub taken : took (frame bytes)
  pub limit : length bytes ≤ FRAME_LIMIT

-- so many bytes of those that were wanted were taken before this fault
abbrev pub IsFilledBefore : ServeFault → (most count : ℕ) → Type 0
IsFilledBefore NoMemory most count = count ≤ most
IsFilledBefore ReadFailed most count = count < most
IsFilledBefore other most count = ⊥

-- by the fault, what was taken of a frame that was not read to its end, and whether the input has ended
abbrev pub FrameFails : (took : List ℕ → Type 0) → (at_end : Type 0) → ServeFault → Type 0
FrameFails took at_end NoMemory = TookPart took IsFront
FrameFails took at_end ReadFailed = TookPart took IsShort
FrameFails took at_end Cut = TookPart took IsCut × at_end
FrameFails took at_end TooLong = TookPart took IsOver
FrameFails took at_end other = ⊥

-- how reading a frame ends: with the frame of these bytes, with none at the end of the input, or with a fault
abbrev pub FrameEnds : (took : List ℕ → Type 0) → (at_end : Type 0) → Result (Option (Vec ℕ Global)) ServeFault → Type 0
FrameEnds took at_end (Ok (Some bytes)) = TookFrame took bytes.items
FrameEnds took at_end (Ok None) = took [] × at_end
FrameEnds took at_end (Err fault) = FrameFails took at_end fault

-- a front of the text was written, and not all of it
pub record WroteFront (wrote : List ℕ → Type 0) (text : List ℕ) : Type 0 where
  pub count : ℕ
  pub cut : count < length text
  pub written : wrote (take count text)

-- how writing a text ends
abbrev pub WriteEnds : {T : Type 0} → (wrote : List ℕ → Type 0) → List ℕ → Result T ServeFault → Type 0
WriteEnds wrote text (Ok _) = wrote text
WriteEnds wrote text (Err WriteFailed) = WroteFront wrote text
WriteEnds wrote text (Err other) = ⊥
