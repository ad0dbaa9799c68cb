use Rattle.std.proofs.Common.{◌≡◌, true, false, bytes_eq, refl, sym, ◌∙◌}
use Rattle.std.specs.List.{starts_with}
use Rattle.iot_access.proofs.OriginsLaws.{none_after, none_within, taken, begins, Begins}
use Rattle.iot_access.proofs.origins.take_below.Goals as goal

pub returns-in_default : goal.returns-in_default
returns-in_default c = (
  none_after c.args.index.now c.args.path.now ((c.range.ensures.in_range tt).5 c.in_default.ensures.steps.0),
  refl,
)

pub returns-then-not-starts_with : goal.returns-then-not-starts_with
returns-then-not-starts_with c =
    let first : Begins c.args.index.now c.args.path.now c.in-Some.first.now c.in-Some.field-0-1.now =
    begins c.args.index.now c.args.path.now c.in-Some.first.now c.in-Some.field-0-1.now _ _ (c.range.ensures.in_range tt)
    c.in-Some.ensures.steps in
    let out : starts_with bytes_eq c.in-Some.first.now.items c.args.path.now.items ≡ false =
    rw (c.as_slice.ensures.value, c.as_slice-2.ensures.value) at (sym c.starts_with.ensures.value ∙ c.if-not-starts_with.true) in
    (none_within c.args.index.now c.args.path.now c.in-Some.first.now first.after out first.least, refl)

pub returns : goal.returns
returns c =
    let first : Begins c.args.index.now c.args.path.now c.in-Some.first.now c.in-Some.field-0-1.now =
    begins c.args.index.now c.args.path.now c.in-Some.first.now c.in-Some.field-0-1.now _ _ (c.range.ensures.in_range tt)
    c.in-Some.ensures.steps in
    let within : starts_with bytes_eq c.in-Some.first.now.items c.args.path.now.items ≡ true =
    rw (c.as_slice.ensures.value, c.as_slice-2.ensures.value) at (sym c.starts_with.ensures.value ∙ c.if-not-starts_with.false) in
    let names : c.as_slice-4.result.now ≡ c.in-Some.first.now.items =
    c.as_slice-4.ensures.value ∙ c.in_ok-first.ensures.items ∙ c.as_slice-3.ensures.value in
    let e = c.remove_entry.ensures in
    taken c.args.index.now c.remove_entry.new.self c.args.path.now.items c.as_slice-4.result.now c.in-Some.field-0-1.now
    (rw names first.after) (rw names within) (rw names first.has) c.remove_entry.result e.key e.value e.same_key e.updates e.entries
