use Rattle.std.proofs.Common.{◌∙◌}
use Rattle.iot_client.specs.Ties.{state_of}
use Rattle.iot_client.proofs.AgainLaws.{within_there}
use Rattle.iot_client.proofs.FoundLaws.{is_not_over}
use Rattle.iot_client.proofs.PauseLaws.{none_over, over_there}
use Rattle.iot_client.proofs.client.Client.at_end.Goals as goal

pub index-requires : goal.index-requires
index-requires g c = within_there c.args.self.now c.args.number c.in-Some.at c.requires.runs c.in-Some.ensures

pub returns-in_default : goal.returns-in_default
returns-in_default g c = is_not_over c.args.number (state_of c.args.self.now).running c.in_default.ensures _

pub returns-in-Some-index : goal.returns-in-Some-index
returns-in-Some-index g c =
    c.at_end.ensures
    ∙ over_there c.args.self.now c.args.number c.in-Some.at c.requires.runs c.in-Some.ensures c.index.result.now c.index.ensures
    c.in-Some-index.interpreter c.in-Some-index.is

pub returns-in-None : goal.returns-in-None
returns-in-None g c =
    none_over c.args.self.now c.args.number c.in-Some.at c.requires.runs c.in-Some.ensures c.index.result.now c.index.ensures c.in-None.is
