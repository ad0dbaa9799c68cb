use Rattle.iot_world.proofs.{Common.ap, Common.state_of, Common.◌∙◌, LookingLaws.are_of, LookingLaws.logs_up, LookingLaws.names_are}
use Rattle.iot_world.proofs.world.World.log.Goals as goal

pub log-requires : goal.log-requires
log-requires g c =
    are_of _ _ _ _ c.in-Some.server.now c.requires.sound
    (c.as_slice.ensures.value ∙ c.in_ok-names-in-Some.ensures
    ∙ names_are _ c.args.self.now c.requires.sound.machine c.requires.sound.stands.stands)
    (c.labels.ensures ∙ ap (λ s. (state_of s).labels) c.store.ensures) c.in-Some.ensures.lent

pub returns-in_ok-log-in-Some : goal.returns-in_ok-log-in-Some
returns-in_ok-log-in-Some g c =
    logs_up _ _ _ _ _ _ c.in-Some.server.now
    (c.as_slice.ensures.value ∙ c.in_ok-names-in-Some.ensures) (c.labels.ensures ∙ ap (λ s. (state_of s).labels) c.store.ensures)
    c.in-Some.ensures.lent c.in_ok-log-in-Some.ensures.ok
