use Rattle.std.proofs.Common.{◌≡◌, ◌+◌, drop, length}
use Rattle.iot_acts.specs.Turns.{reads_of}
use Rattle.iot_certify.proofs.acts.misfit.Given as goal

abbrev pub invariant-acts : goal.invariant-acts
invariant-acts l = l.place + length (reads_of (drop l.act-index l.acts)) ≡ length (reads_of l.acts) + 1
