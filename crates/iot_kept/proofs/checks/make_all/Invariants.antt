use Rattle.iot_tree.specs.declared.acts.Act.{Act}
use Rattle.iot_acts.specs.Traces.{after_update}
use Rattle.iot_kept.specs.Reading.{Suits}
use Rattle.iot_kept.proofs.TurnsLaws.{OnWay}
use Rattle.iot_kept.proofs.checks.make_all.Given as goal

abbrev pub invariant-acts : goal.invariant-acts
invariant-acts l = OnWay Suits (λ t (act : Act). after_update t act.update) l.acts l.initial.tree l.act-index l.tree
