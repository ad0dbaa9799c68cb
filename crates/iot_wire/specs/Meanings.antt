-- What messages say of stamped trees and reads.
use Rattle.std.specs.Prelude.{◌≡◌, ℕ, ◌-◌, ◌≤◌, List, slice_get, Some}
use Rattle.iot_stamp.specs.Refresh.{known_with_stamps}
use Rattle.iot_stamp.specs.Stamps.{Stamps}
use Rattle.iot_tree.specs.Profiles.{Profile}
use Rattle.iot_tree.specs.declared.acts.Read.{Read}
use Rattle.iot_tree.specs.declared.questions.Answer.{Answer}
use Rattle.iot_tree.specs.declared.want.Want.{Want}
use Rattle.iot_wire.specs.Messages.{IsMessage}
use Rattle.iot_wire.specs.Rules.{IsRequest, IsReply}
use Rattle.iot_wire.specs.Spelling.{request_spelling, reply_spelling}
use Rattle.iot_wire.specs.declared.requests.Request.TheVariants.{Refresh, Walk}
use Rattle.iot_wire.specs.declared.replies.Reply.{Reply}
use Rattle.iot_wire.specs.declared.replies.Reply.TheVariants.{Conflict}

-- the bytes are the spelling of the request for what changed of what the held tree knows, and for what is wanted
abbrev pub IsRefresh : ℕ → Stamps → Want → List ℕ → Type 0
IsRefresh client held want bytes = IsMessage IsRequest request_spelling bytes (Refresh client (known_with_stamps held) want)

-- the bytes are the spelling of the request for what the profile takes along within the limit
abbrev pub IsWalk : ℕ → Profile → ℕ → List ℕ → Type 0
IsWalk client profile limit bytes = IsMessage IsRequest request_spelling bytes (Walk client profile limit)

-- the bytes are the spelling of the reply
abbrev pub Spells : List ℕ → Reply → Type 0
Spells bytes reply = IsMessage IsReply reply_spelling bytes reply

-- the reply is that these reads part at this place, counted from 1, where this is asked
pub record SpellsConflict (reads : List Read) (bytes : List ℕ) (place : ℕ) (read : Read) : Type 0 where
  pub answer : Answer
  pub spelled : Spells bytes (Conflict place answer)
  pub first : 1 ≤ place
  pub at : slice_get reads (place - 1) ≡ Some read
