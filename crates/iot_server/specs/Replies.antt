-- What the server answers.
use Rattle.std.specs.Prelude.{◌≡◌, ◌⊎◌, ℕ, ◌+◌, List, [], length, Option, Some, None}
use Rattle.iot_access.specs.Access.{FitInTurn}
use Rattle.iot_backup.specs.Parts.{Changes}
use Rattle.iot_certify.specs.Verdicts.{IsVerdictOnAccess}
use Rattle.iot_certify.specs.declared.verdict.Verdict.{Verdict}
use Rattle.iot_certify.specs.declared.verdict.Verdict.TheVariants.{Holds, Differs}
use Rattle.iot_disk.specs.Disk.{Medium}
use Rattle.iot_hoard.specs.Picking.{IsPick}
use Rattle.iot_slots.specs.Decoding.{State as Encoded}
use Rattle.iot_slots.specs.Slots.{state_on}
use Rattle.iot_stamp.specs.Refresh.{changes_for, changes_on}
use Rattle.iot_store.specs.Numbers.{number_in}
use Rattle.iot_store.specs.Standing.{IsGrown}
use Rattle.iot_store.specs.States.{State, after_commit}
use Rattle.iot_store.specs.Store.{encoded_on, second_of, state_of}
use Rattle.iot_store.specs.declared.store.Store.{Store}
use Rattle.iot_tree.specs.Snapshots.{has}
use Rattle.iot_tree.specs.Tree.{Path}
use Rattle.iot_tree.specs.declared.access.Access.{Access}
use Rattle.iot_tree.specs.declared.labels.Label.{Label}
use Rattle.iot_tree.specs.declared.questions.Answer.TheVariants.{Away}
use Rattle.iot_wire.specs.Messages.{IsMessage}
use Rattle.iot_wire.specs.Rules.{IsRequest, IsReply}
use Rattle.iot_wire.specs.Spelling.{request_spelling, reply_spelling}
use Rattle.iot_wire.specs.declared.requests.Request.{Request}
use Rattle.iot_wire.specs.declared.requests.Request.TheVariants.{Refresh, Commit, Walk}
use Rattle.iot_wire.specs.declared.replies.Reply.{Reply}
use Rattle.iot_wire.specs.declared.replies.Reply.TheVariants.{Objects, Committed, Already, Conflict}

-- one whose updates fit in turn is committed, under the next number; no client asks for one whose updates do not, which is told as a
-- read after all the base reads, whose answer is away
abbrev pub CommitsIfFit : State → Label → Access → Reply → State → Type 0
CommitsIfFit before label access reply after =
    (FitInTurn before.tree access.updates × (reply ≡ Committed (length before.labels + 1)) × (after ≡ after_commit before label access))
    ⊎ ((¬ FitInTurn before.tree access.updates) × (reply ≡ Conflict (length access.reads + 1) Away) × (after ≡ before))

-- by the verdict: one whose base reads hold is committed if it fits; else the first that does not hold is told, and its answer now
abbrev pub FollowsVerdict : Verdict → State → Label → Access → Reply → State → Type 0
FollowsVerdict Holds before label access reply after = CommitsIfFit before label access reply after
FollowsVerdict (Differs read answer) before label access reply after = (reply ≡ Conflict read answer) × (after ≡ before)

-- by the number of the transaction among the labels: one that has a number gets it again; one that has none is judged
abbrev pub Submits : Option ℕ → State → Label → Access → Reply → State → Type 0
Submits (Some number) before label access reply after = (reply ≡ Already number) × (after ≡ before)
Submits None before label access reply after =
    (verdict : Verdict) × IsVerdictOnAccess before.tree access verdict × FollowsVerdict verdict before label access reply after

-- the reply to a request, by the state before, and the state after it
abbrev pub Answers : State → Request → Reply → State → Type 0
Answers before (Refresh client known want) reply after =
    (reply ≡ Objects (changes_for before.stamps known want)) × (after ≡ before)
Answers before (Commit label access lines) reply after =
    Submits (number_in before.labels label.client label.tid) before label access reply after
Answers before (Walk client profile limit) reply after =
    (paths : List Path) × IsPick before.tree profile limit paths × (reply ≡ Objects (changes_on before.stamps [] (has paths)))
    × (after ≡ before)

-- what the disk encodes after it: a commit that was made has one record more, its own
abbrev pub EncodesAfter : Request → Reply → State → (was now : Encoded) → Type 0
EncodesAfter (Commit label access lines) (Committed number) before was now =
    IsGrown was before (record { label = label; access = access; lines = lines }) now
EncodesAfter request reply before was now = now ≡ was

-- the bytes are the spelling of the reply to the request
pub record IsAnswered (before : State) (was : Encoded) (request : Request) (bytes : List ℕ) (after : State) (now : Encoded) : Type 0 where
  pub reply : Reply
  pub answers : Answers before request reply after
  pub encodes : EncodesAfter request reply before was now
  pub spelled : IsMessage IsReply reply_spelling bytes reply

-- the same over the disks of a store
pub record AreAnswered {D : Type 0} (medium : Medium D) (request : Request) (bytes : List ℕ) (old new : Store D) : Type 0 where
  pub first : IsAnswered (state_of old) (encoded_on medium old) request bytes (state_of new) (encoded_on medium new)
  pub second : Changes (λ was now. IsAnswered (state_of old) (state_on medium was) request bytes (state_of new) (state_on medium now))
      (second_of old) (second_of new)

-- bytes that are the spelling of a request are answered by bytes that are the spelling of its reply
pub record IsHandled (before : State) (was : Encoded) (asked bytes : List ℕ) (after : State) (now : Encoded) : Type 0 where
  pub request : Request
  pub is : IsMessage IsRequest request_spelling asked request
  pub answered : IsAnswered before was request bytes after now
