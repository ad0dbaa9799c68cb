-- Decoding messages, with the first fault from the left.
use Rattle.std.specs.Prelude.{[], ◌∷◌}
use Rattle.iot_views.specs.Decoders.{Decoder, ◌>>=◌, done, number_at, at_most, tagged}
use Rattle.iot_views.specs.Decoding.{known_at, want_at, label_at, bases_at, updates_at, access_at, lines_at, changes_at, answer_at}
use Rattle.iot_views.specs.Decoding.{profile_at, walk_limit_at}
use Rattle.iot_wire.specs.declared.effects.Effects.{Effects}
use Rattle.iot_wire.specs.declared.requests.Request.{Request}
use Rattle.iot_wire.specs.declared.requests.Request.TheVariants.{Refresh, Commit, Walk}
use Rattle.iot_wire.specs.declared.replies.Reply.{Reply}
use Rattle.iot_wire.specs.declared.replies.Reply.TheVariants.{Objects, Committed, Already, Conflict}

unfoldable pub refresh_at : Decoder Request
refresh_at = do
  client ← at_most 7
  known ← known_at
  want ← want_at
  done (Refresh client known want)

-- what a commit changes: its base reads and its lines are passed over
unfoldable pub effects_at : Decoder Effects
effects_at = do
  label ← label_at
  bases ← bases_at
  updates ← updates_at
  done (record { label = label; updates = updates })

unfoldable pub commit_at : Decoder Request
commit_at = do
  label ← label_at
  access ← access_at
  lines ← lines_at
  done (Commit label access lines)

unfoldable pub walk_at : Decoder Request
walk_at = do
  client ← at_most 7
  profile ← profile_at
  limit ← walk_limit_at
  done (Walk client profile limit)

-- a request: what a tag is followed by
unfoldable pub request_at : Decoder Request
request_at = tagged ((1, refresh_at) ∷ (2, commit_at) ∷ (3, walk_at) ∷ [])

unfoldable pub objects_at : Decoder Reply
objects_at = do
  changes ← changes_at
  done (Objects changes)

unfoldable pub committed_at : Decoder Reply
committed_at = do
  number ← number_at
  done (Committed number)

unfoldable pub already_at : Decoder Reply
already_at = do
  number ← number_at
  done (Already number)

unfoldable pub conflict_at : Decoder Reply
conflict_at = do
  read ← number_at
  answer ← answer_at
  done (Conflict read answer)

-- a reply: what a tag is followed by
unfoldable pub reply_at : Decoder Reply
reply_at = tagged ((1, objects_at) ∷ (2, committed_at) ∷ (3, already_at) ∷ (4, conflict_at) ∷ [])
