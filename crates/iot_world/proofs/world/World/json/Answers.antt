use Rattle.iot_world.proofs.{Common.ap, Common.state_of, Common.◌∙◌, LookingLaws.are_of}
use Rattle.iot_world.proofs.world.World.json.Goals as goal

pub finish-requires : goal.finish-requires
finish-requires g c =
    are_of _ _ _ _ c.in-Some.server.now c.requires
    (c.in_ok-json.ensures c.requires.machine c.requires.stands.stands).names
    (c.labels.ensures ∙ ap (λ s. (state_of s).labels) c.store.ensures) c.in-Some.ensures.lent
