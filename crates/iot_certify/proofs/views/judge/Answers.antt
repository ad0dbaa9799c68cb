use Rattle.std.proofs.Common.{◌∷◌, [], sym, subst, ℕ, List}
use Rattle.std.specs.List.{zip}
use Rattle.iot_tree.specs.Questions.{answer_of}
use Rattle.iot_tree.specs.declared.acts.Read.{Read}
use Rattle.iot_views.specs.Seen.{base_seen}
use Rattle.iot_acts.specs.Traces.{ReadsHold}
use Rattle.iot_acts.specs.Turns.{Answers}
use Rattle.iot_certify.specs.Verdicts.{FailsAt}
use Rattle.iot_certify.proofs.BasesLaws.{IsLeft, firsts_zip, turned_zip, one_fails, not_so}
use Rattle.iot_certify.proofs.views.judge.Goals as goal

pub returns-in_err-answer-clause-memory : goal.returns-in_err-answer-clause-memory
returns-in_err-answer-clause-memory c =
    let t = c.args.t.now in
    let reads = c.args.access.now.reads in
    let places = c.args.access.now.places in
    let base = base_seen c.in-Some.base in
    let stands : IsLeft t (zip reads places) (base ∷ c.next.new.self) = rw c.in-Some.ensures.steps at c.bases.invariant in
    let fails =
    one_fails t (zip reads places) base c.next.new.self (not_so c.answers.result (Answers t base.0) c.answers.ensures c.if-not-answers.true)
    stands in
    λ hold. absurd (fails.1 (subst (ReadsHold t) (sym (firsts_zip reads places c.reads-base-items.ensures.even)) hold))

pub returns-then-not-answers-clause-memory : goal.returns-then-not-answers-clause-memory
returns-then-not-answers-clause-memory c =
    let t = c.args.t.now in
    let reads = c.args.access.now.reads in
    let places = c.args.access.now.places in
    let base = base_seen c.in-Some.base in
    let stands : IsLeft t (zip reads places) (base ∷ c.next.new.self) = rw c.in-Some.ensures.steps at c.bases.invariant in
    let fails =
    one_fails t (zip reads places) base c.next.new.self (not_so c.answers.result (Answers t base.0) c.answers.ensures c.if-not-answers.true)
    stands in
    λ hold. absurd (fails.1 (subst (ReadsHold t) (sym (firsts_zip reads places c.reads-base-items.ensures.even)) hold))

pub returns-then-not-answers-clause-verdict : goal.returns-then-not-answers-clause-verdict
returns-then-not-answers-clause-verdict c =
    let t = c.args.t.now in
    let reads = c.args.access.now.reads in
    let places = c.args.access.now.places in
    let base = base_seen c.in-Some.base in
    let stands : IsLeft t (zip reads places) (base ∷ c.next.new.self) = rw c.in-Some.ensures.steps at c.bases.invariant in
    let fails =
    one_fails t (zip reads places) base c.next.new.self (not_so c.answers.result (Answers t base.0) c.answers.ensures c.if-not-answers.true)
    stands in
    rw c.in_ok-answer.ensures
    (subst (λ (bases : List (ℕ × Read)). FailsAt t bases base.1 (answer_of t base.0.question)) (turned_zip reads places) fails.0)

pub returns-clause-verdict : goal.returns-clause-verdict
returns-clause-verdict c =
    let reads = c.args.access.now.reads in
    let places = c.args.access.now.places in
    let none : IsLeft c.args.t.now (zip reads places) [] = rw c.in-None.ensures.steps.0 at c.bases.invariant in
    subst (ReadsHold c.args.t.now) (firsts_zip reads places c.reads-base-items.ensures.even) (none.hold.0 tt)
