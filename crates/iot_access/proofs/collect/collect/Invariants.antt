use Rattle.std.proofs.Common.{◌≡◌, drop, length}
use Rattle.std.specs.List.{zip}
use Rattle.iot_access.specs.Access.{AreNumbers}
use Rattle.iot_access.specs.Asked.{is_asked}
use Rattle.iot_access.proofs.CollectLaws.{Collected}
use Rattle.iot_access.proofs.collect.collect.Given as goal

abbrev pub invariant-acts : goal.invariant-acts
invariant-acts l = record {
  even : length l.access.places ≡ length l.access.reads;
  numbers : AreNumbers l.access.places;
  kept : Collected l.acts (drop l.act-index l.acts) l.before l.place (zip l.access.places l.access.reads)
      (is_asked l.asked) l.access.updates
      l.origins;
}
