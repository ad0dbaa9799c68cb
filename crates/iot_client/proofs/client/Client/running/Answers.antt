use Rattle.std.proofs.Common.{◌∙◌, sym}
use Rattle.iot_client.specs.Ties.{state_of, classes_in}
use Rattle.iot_client.proofs.LivesLaws.{classes_known}
use Rattle.iot_client.proofs.PlaceLaws.{count_is, runs_count}
use Rattle.iot_client.proofs.StepsLaws.{own_runs}
use Rattle.iot_client.proofs.client.Client.running.Goals as goal

pub returns-clause-classes : goal.returns-clause-classes
returns-clause-classes g c =
    let self = c.args.self.now in
    c.running.ensures.class
    ∙ classes_known (classes_in self) self.interpreters.items
    (count_is self ∙ sym (runs_count (state_of self).running self.interpreters.items c.requires.runs))

pub returns-clause-runs : goal.returns-clause-runs
returns-clause-runs g c =
    let self = c.args.self.now in
    own_runs (state_of self).running (classes_in self) self.interpreters.items (count_is self) c.requires.runs
