use Rattle.std.proofs.Common.{sym, ◌∙◌}
use Rattle.iot_certify.proofs.SilentLaws.{all_silent}
use Rattle.iot_certify.proofs.updates.is_unseen.Goals as goal

pub returns : goal.returns
returns c = λ silent. all_silent c.args.later.now (sym c.are_silent.ensures ∙ silent)
