use Rattle.std.proofs.Common.{◌≡◌, ◌-◌, drop, slice_get}
use Rattle.iot_acts.specs.Turns.{reads_of}
use Rattle.iot_client.proofs.questions.question_at.Given as goal

-- the read at the place among all is the one at what is left among the rest
abbrev pub invariant-acts : goal.invariant-acts
invariant-acts l = slice_get (reads_of (drop l.act-index l.acts)) l.left ≡ slice_get (reads_of l.acts) (l.place - 1)
