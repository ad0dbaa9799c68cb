use Rattle.iot_inspect.proofs.PlainLaws.{pushed_plain}
use Rattle.iot_inspect.proofs.snapshot.Json.add.Goals as goal

pub invariant_of-self-in-Ok : goal.invariant_of-self-in-Ok
invariant_of-self-in-Ok c = record {
  plain =
      pushed_plain c.args.self.now.clients.items c.push-2.new.self.items c.args.value
      c.in-Ok.ensures.items c.args.self.now.plain c.requires;
}
