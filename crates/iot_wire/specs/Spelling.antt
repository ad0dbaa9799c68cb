-- The one spelling of each message.
use Rattle.std.specs.Prelude.{ℕ, List, ◌∷◌, ◌++◌}
use Rattle.iot_codec.specs.Spelling.{number_spelling, known_spelling, want_spelling, label_spelling, access_spelling, lines_spelling}
use Rattle.iot_codec.specs.Spelling.{changes_spelling, answer_spelling, profile_spelling}
use Rattle.iot_wire.specs.declared.requests.Request.{Request}
use Rattle.iot_wire.specs.declared.requests.Request.TheVariants.{Refresh, Commit, Walk}
use Rattle.iot_wire.specs.declared.replies.Reply.{Reply}
use Rattle.iot_wire.specs.declared.replies.Reply.TheVariants.{Objects, Committed, Already, Conflict}

-- a request: its tag, and then its parts
unfoldable pub request_spelling : Request → List ℕ
request_spelling (Refresh client known want) = 1 ∷ (number_spelling client ++ (known_spelling known ++ want_spelling want))
request_spelling (Commit label access lines) = 2 ∷ (label_spelling label ++ (access_spelling access ++ lines_spelling lines))
request_spelling (Walk client profile limit) = 3 ∷ (number_spelling client ++ (profile_spelling profile ++ number_spelling limit))

-- a reply: its tag, and then its parts
unfoldable pub reply_spelling : Reply → List ℕ
reply_spelling (Objects changes) = 1 ∷ changes_spelling changes
reply_spelling (Committed number) = 2 ∷ number_spelling number
reply_spelling (Already number) = 3 ∷ number_spelling number
reply_spelling (Conflict read answer) = 4 ∷ (number_spelling read ++ answer_spelling answer)
