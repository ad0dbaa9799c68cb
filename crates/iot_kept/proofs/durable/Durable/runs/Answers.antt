use Rattle.iot_kept.proofs.PlaceLaws.{runs_at}
use Rattle.iot_kept.proofs.durable.Durable.runs.Goals as goal

pub returns-in-Some : goal.returns-in-Some
returns-in-Some c = runs_at c.args.number c.args.self.now.running.items c.in-Some.field-0 c.in-Some.ensures.place
