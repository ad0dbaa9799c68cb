use Rattle.std.specs.FinMap.{entries}
use Rattle.iot_world.proofs.Common.{ap, length, state_of, ◌∙◌}
use Rattle.iot_world.proofs.world.World.server_rows.Goals as goal

pub returns-in-Some : goal.returns-in-Some
returns-in-Some g c = λ m here.
    let lent = c.in-Some.ensures.lent m here in
    rw lent.alive
    (c.len.ensures ∙ ap length (c.rows.ensures.rows
    ∙ ap entries (c.tree.ensures ∙ ap (λ s. (state_of s).tree) c.store.ensures ∙ lent.tree)))
