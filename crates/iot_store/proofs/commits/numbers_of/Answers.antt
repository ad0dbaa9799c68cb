use Rattle.std.proofs.Common.{sym, ◌∙◌, arith}
use Rattle.iot_store.proofs.NumbersLaws.{all_apart, all_indexed, label_put, label_twice}
use Rattle.iot_store.proofs.commits.numbers_of.Goals as goal

pub returns-then-contains_key-clause-none : goal.returns-then-contains_key-clause-none
returns-then-contains_key-clause-none c = λ _ apart.
    label_twice c.args.labels.now c.labels.place c.labels.numbers c.labels.invariant c.index-labels-place.result c.labels-test.true
    c.index-labels-place.is
    (sym c.contains_key.ensures ∙ c.if-contains_key.true) apart

pub labels-preserved : goal.labels-preserved
labels-preserved c =
    label_put c.args.labels.now c.labels.place c.labels.numbers c.labels.invariant c.index-labels-place.result c.labels-test.true
    c.index-labels-place.is
    (sym c.contains_key.ensures ∙ c.if-contains_key.false) _ _ (omega arith) c.in-Ok.ensures.updates.0

pub returns-clause-index : goal.returns-clause-index
returns-clause-index c = all_indexed c.args.labels.now c.labels.place c.labels.numbers c.labels.invariant c.labels-test.false

pub returns-clause-apart : goal.returns-clause-apart
returns-clause-apart c = all_apart c.args.labels.now c.labels.place c.labels.numbers c.labels.invariant c.labels-test.false
