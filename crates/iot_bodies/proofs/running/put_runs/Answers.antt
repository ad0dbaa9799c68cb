use Rattle.iot_bodies.proofs.RunsLaws.{runs_appended}
use Rattle.iot_bodies.proofs.running.put_runs.Goals as goal

pub returns : goal.returns
returns g c =
    runs_appended g.R.Runs.run c.args.running.now c.running.it-index c.args.out.now c.running.out c.running-test.false
    c.running.invariant
