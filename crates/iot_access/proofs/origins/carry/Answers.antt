use Rattle.std.proofs.Common.{◌≡◌, Some, None, subst, ◌∙◌}
use Rattle.iot_tree.specs.Tree.{Path}
use Rattle.iot_access.specs.Entries.{Clears, Carries, Sets}
use Rattle.iot_access.specs.Origins.{entries}
use Rattle.iot_access.proofs.OriginsLaws.{changed}
use Rattle.iot_access.proofs.EntriesLaws.{tells_carried}
use Rattle.iot_access.proofs.origins.carry.Goals as goal

pub returns : goal.returns
returns c =
    let from : c.in_ok-old.old.items ≡ c.args.from.now = c.in_ok-old.ensures.items ∙ c.names.ensures.value in
    let to : c.in_ok-new.new.items ≡ c.args.to.now = c.in_ok-new.ensures.items ∙ c.names-2.ensures.value in
    let first = entries c.args.index.now in
    let one = entries c.clear_below.new.index in
    let two = entries c.carry_below.new.index in
    let three = entries c.insert.new.self in
    let four = entries c.insert-2.new.self in
    λ s tells.
    tells_carried first one two three four c.args.from.now c.args.to.now c.requires
    (subst (λ (q : Path). Clears first one q) to c.in_ok-clear_below.ensures)
    (subst (λ (q : Path). Carries one two c.args.from.now q) c.names-3.ensures.value
    (subst (λ (p : Path). Carries one two p c.names-3.result.now) from c.in_ok-carry_below.ensures))
    s tells
    (subst (λ (q : Path). Sets two three q (Some (s c.args.from.now))) to
    (subst (λ o. Sets two three c.in_ok-new.new.items (Some o)) (c.in_ok-source.ensures s tells)
    (changed c.carry_below.new.index c.insert.new.self c.in_ok-new.new.items (Some c.in_ok-source.source)
    c.in_ok-insert.ensures.updates)))
    (subst (λ (p : Path). Sets three four p (Some None)) from
    (changed c.insert.new.self c.insert-2.new.self c.in_ok-old.old.items (Some None) c.in_ok-insert-2.ensures.updates))
