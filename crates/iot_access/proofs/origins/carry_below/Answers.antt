use Rattle.std.proofs.Common.{◌≡◌, ◌++◌, Some, None, ℕ, drop, sym, ap, subst, ◌∙◌, arith}
use Rattle.std.proofs.lemmas.List.{take_rest}
use Rattle.iot_tree.specs.Tree.{Path}
use Rattle.iot_access.specs.Entries.{Carries}
use Rattle.iot_access.specs.Origins.{Index, Takes, entries, count_within}
use Rattle.iot_access.proofs.OriginsLaws.{carrying_none, carrying_taken, carried_all, changed, count_inserted, out_of}
use Rattle.iot_access.proofs.origins.carry_below.Goals as goal

pub below-init : goal.below-init
below-init c = carrying_none (entries c.args.index.now) c.args.from.now.items c.args.to.now c.requires.free

pub below-smaller : goal.below-smaller
below-smaller c =
    let takes : Takes c.below.index c.take_below.new.index c.args.from.now.items (Some (c.in-Some.path, c.in-Some.origin)) =
    rw c.in-Some.is at c.in_ok-path.ensures in
    let same : count_within c.args.from.now.items c.insert.new.self.entries
    ≡ count_within c.args.from.now.items c.take_below.new.index.entries =
    ap (count_within c.args.from.now.items) c.in_ok-insert.ensures.entries
    ∙ count_inserted c.args.from.now.items c.take_below.new.index.entries c.in_ok-names.names c.in-Some.origin
    (out_of c.args.from.now.items c.args.to.now c.in_ok-names.names.items _ c.requires.apart c.in_ok-names.ensures) in
    let less = takes.3 in
    omega (arith, same, less)

pub below-preserved : goal.below-preserved
below-preserved c =
    carrying_taken (entries c.args.index.now) c.below.index c.take_below.new.index c.insert.new.self c.args.from.now.items
    c.args.to.now c.in_ok-names.names.items (c.in-Some.path, c.in-Some.origin) c.requires.apart c.below.invariant
    (rw c.in-Some.is at c.in_ok-path.ensures)
    (c.in_ok-names.ensures
    ∙ ap (λ (rest : Path). c.args.to.now ++ rest)
    (take_rest c.deref.result.now c.len.result
    ∙ ap (drop c.len.result) c.deref.ensures.value ∙ ap (λ (n : ℕ). drop n c.in-Some.path.items) (c.len.ensures ∙ c.args.from.now.ok.0)))
    (changed c.take_below.new.index c.insert.new.self c.in_ok-names.names.items (Some c.in-Some.origin) c.in_ok-insert.ensures.updates)

pub returns : goal.returns
returns c =
    let takes : Takes c.below.index c.take_below.new.index c.args.from.now.items None = rw c.in_default.is at c.in_ok-path.ensures in
    subst (λ (index : Index). Carries (entries c.args.index.now) (entries index) c.args.from.now.items c.args.to.now) (sym takes.1)
    (carried_all (entries c.args.index.now) (entries c.below.index) c.args.from.now.items c.args.to.now c.below.invariant takes.0)
