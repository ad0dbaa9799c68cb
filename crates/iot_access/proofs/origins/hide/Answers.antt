use Rattle.std.proofs.Common.{◌≡◌, Some, None, subst, ◌∙◌}
use Rattle.iot_tree.specs.Tree.{Path}
use Rattle.iot_access.specs.Entries.{Clears, Sets}
use Rattle.iot_access.specs.Origins.{entries}
use Rattle.iot_access.proofs.OriginsLaws.{changed}
use Rattle.iot_access.proofs.EntriesLaws.{tells_hidden}
use Rattle.iot_access.proofs.origins.hide.Goals as goal

pub returns : goal.returns
returns c =
    let at : c.in_ok-names.names.items ≡ c.args.path.now = c.in_ok-names.ensures.items ∙ c.names.ensures.value in
    tells_hidden (entries c.args.index.now) (entries c.clear_below.new.index) (entries c.insert.new.self) c.args.path.now
    (subst (λ (p : Path). Clears (entries c.args.index.now) (entries c.clear_below.new.index) p) at c.in_ok-clear_below.ensures)
    (subst (λ (p : Path). Sets (entries c.clear_below.new.index) (entries c.insert.new.self) p (Some None)) at
    (changed c.clear_below.new.index c.insert.new.self c.in_ok-names.names.items (Some None) c.in_ok-insert.ensures.updates))
