use Rattle.iot_audit.proofs.WalksLaws.{ServedSo}
use Rattle.iot_audit.proofs.serving.serve.Given as goal

abbrev pub invariant-labels : goal.invariant-labels
invariant-labels l = ServedSo l.fn.scripts l.fn.image l.label-index l.records l.number l.later l.tree
