-- Which messages have a spelling.
use Rattle.std.specs.Prelude.{◌≤◌}
use Rattle.iot_tree.specs.Profiles.{IsProfile, IsWalkLimit}
use Rattle.iot_views.specs.Rules.{IsNumber, AreKnown, IsWant, IsLabel, IsAccess, AreLines, AreChanges, IsAnswer}
use Rattle.iot_wire.specs.declared.requests.Request.{Request}
use Rattle.iot_wire.specs.declared.requests.Request.TheVariants.{Refresh, Commit, Walk}
use Rattle.iot_wire.specs.declared.replies.Reply.{Reply}
use Rattle.iot_wire.specs.declared.replies.Reply.TheVariants.{Objects, Committed, Already, Conflict}

-- one of 8 clients asks; the paths that it knows rise
abbrev pub IsRequest : Request → Type 0
IsRequest (Refresh client known want) = (client ≤ 7) × (AreKnown known × IsWant want)
IsRequest (Commit label access lines) = IsLabel label × (IsAccess access × AreLines lines)
IsRequest (Walk client profile limit) = (client ≤ 7) × (IsProfile profile × IsWalkLimit limit)

abbrev pub IsReply : Reply → Type 0
IsReply (Objects changes) = AreChanges changes
IsReply (Committed number) = IsNumber number
IsReply (Already number) = IsNumber number
IsReply (Conflict read answer) = IsNumber read × IsAnswer answer
