use Rattle.std.proofs.Common.{sym, ap, ◌∙◌}
use Rattle.iot_kept.specs.Guarding.{guards}
use Rattle.iot_kept.proofs.GuardingLaws.{guards_from, guards_to}
use Rattle.iot_kept.proofs.guards.is_guarded.Goals as goal

pub returns : goal.returns
returns c =
    let act = c.args.act.now in
    let is = c.guards.ensures ∙ ap (λ reads. guards reads act.update) c.as_slice.ensures in (
      λ passes. guards_from act.reads act.update (sym is ∙ passes),
      λ guarded. is ∙ guards_to act.reads act.update guarded,
    )
