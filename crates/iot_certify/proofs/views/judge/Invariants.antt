use Rattle.std.specs.List.{zip}
use Rattle.iot_certify.proofs.BasesLaws.{IsLeft}
use Rattle.iot_certify.proofs.views.judge.Given as goal

-- the base reads so far hold
abbrev pub invariant-bases : goal.invariant-bases
invariant-bases l = IsLeft l.t (zip l.access.reads l.access.places) l.base-iterator
