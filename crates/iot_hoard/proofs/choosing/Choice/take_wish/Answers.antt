use Rattle.std.proofs.Common.{◌∙◌, List, sym, ap, subst}
use Rattle.iot_tree.specs.Ancestors.{proper_prefixes}
use Rattle.iot_tree.specs.Place.{IsGap}
use Rattle.iot_tree.specs.Rows.{map_of}
use Rattle.iot_tree.specs.Tree.{Path}
use Rattle.iot_hoard.specs.Choosing.{Taken, IsChoice, take_paths}
use Rattle.iot_hoard.proofs.BelowLaws.{none_taken, wish_parts}
use Rattle.iot_hoard.proofs.choosing.Choice.take_wish.Goals as goal

pub returns-in-Ok-clause-takes : goal.returns-in-Ok-clause-takes
returns-in-Ok-clause-takes c = λ so_far is.
    let above : Taken = take_paths (map_of c.args.rows.now) (proper_prefixes c.names-names.result.now) so_far in
    subst (λ (taken : Taken). IsChoice c.args.rows.now taken c.take_rows.new.self)
    (ap (λ (paths : List Path). take_paths (map_of c.args.rows.now) paths above) c.end_of.ensures.rows
    ∙ wish_parts c.args.rows.now c.requires.tree c.names-names.result.now c.args.wish.now c.names-names.ensures.value so_far)
    (c.take_rows.ensures.takes above (c.take_above.ensures.takes so_far is))

pub returns-in-Err-clause-takes : goal.returns-in-Err-clause-takes
returns-in-Err-clause-takes c = λ so_far is.
    let gap : IsGap c.args.rows.now c.names-names.result.now c.in-Err.field-0 = c.in-Err.ensures in
    let above : Taken = take_paths (map_of c.args.rows.now) (proper_prefixes c.names-names.result.now) so_far in
    subst (λ (taken : Taken). IsChoice c.args.rows.now taken c.take_above.new.self)
    (sym (none_taken c.args.rows.now c.requires.tree c.names-names.result.now c.in-Err.field-0 gap c.args.wish.now.reach above)
    ∙ wish_parts c.args.rows.now c.requires.tree c.names-names.result.now c.args.wish.now c.names-names.ensures.value so_far)
    (c.take_above.ensures.takes so_far is)
