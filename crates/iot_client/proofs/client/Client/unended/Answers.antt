use Rattle.std.proofs.Common.{◌∙◌}
use Rattle.iot_client.specs.Ties.{state_of}
use Rattle.iot_client.proofs.AgainLaws.{within_there}
use Rattle.iot_client.proofs.FoundLaws.{is_unended}
use Rattle.iot_client.proofs.PauseLaws.{not_begun, unended_there}
use Rattle.iot_client.proofs.client.Client.unended.Goals as goal

pub index-requires : goal.index-requires
index-requires g c = within_there c.args.self.now c.args.number c.in-Some.at c.requires.tied.runs c.in-Some.ensures

pub returns-in_default-clause-cause : goal.returns-in_default-clause-cause
returns-in_default-clause-cause g c = is_unended c.args.number (state_of c.args.self.now).running c.in_default.ensures _

pub returns-in-Some-index-clause-cause : goal.returns-in-Some-index-clause-cause
returns-in-Some-index-clause-cause g c =
    c.not_at_end.ensures.cause
    ∙ unended_there c.args.self.now c.args.number c.in-Some.at c.requires.tied.runs c.in-Some.ensures c.index.result.now c.index.ensures
    c.in-Some-index.interpreter c.in-Some-index.is

pub returns-in-None-clause-cause : goal.returns-in-None-clause-cause
returns-in-None-clause-cause g c =
    absurd
    (not_begun c.args.self.now c.args.number c.in-Some.at c.requires.tied.runs c.in-Some.ensures c.index.result.now c.index.ensures
    c.in-None.is c.requires.begun)
