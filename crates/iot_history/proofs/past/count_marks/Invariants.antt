use Rattle.std.proofs.Common.{◌≡◌, ◌+◌, length}
use Rattle.iot_history.specs.Past.{marks_in}
use Rattle.iot_history.proofs.past.count_marks.Given as goal

-- the texts so far are taken off, and the iterator has the other bodies
abbrev pub invariant-bodies : goal.invariant-bodies
invariant-bodies l = l.marks + marks_in l.body-iterator ≡ marks_in l.bodies + length l.body-iterator
