use Rattle.std.proofs.Common.{◌≡◌, ◌∙◌, refl, sym, ap, subst, length, drop, ℕ, arith}
use Rattle.std.specs.Ordering.{is_lt}
use Rattle.std.proofs.lemmas.List.{take_rest}
use Rattle.iot_stamp.specs.Passes.{from_key}
use Rattle.iot_stamp.proofs.PassesLaws.{from_skip, from_stop, from_end, passed_skip, passed_stop, passed_end}
use Rattle.iot_stamp.proofs.cursor.pass_before.Goals as goal

pub entries-preserved : goal.entries-preserved
entries-preserved c =
    let less = ap is_lt (sym c.cmp.ensures) ∙ sym c.is_lt.ensures ∙ c.if-not-is_lt.false in (
      c.entries.invariant.0
          ∙ from_skip c.args.path.now c.args.entries.now c.entries.at c.index-entries-at.result c.entries-test.true c.index-entries-at.is
          less,
      passed_skip c.args.path.now c.args.entries.now c.entries.at c.index-entries-at.result _ c.args.passed.now c.entries.passed
          c.push_path.new.paths c.entries-test.true c.index-entries-at.is less refl c.entries.invariant.1 c.in_ok-push_path.ensures.pushed,
      λ all. c.in_ok-push_path.ensures.each (c.entries.invariant.2 all),
    )

pub returns-then-not-is_lt-clause-rest : goal.returns-then-not-is_lt-clause-rest
returns-then-not-is_lt-clause-rest c =
    take_rest c.args.entries.now c.entries.at
    ∙ sym
    (c.entries.invariant.0
    ∙ from_stop c.args.path.now c.args.entries.now c.entries.at c.index-entries-at.result c.entries-test.true c.index-entries-at.is
    (ap is_lt (sym c.cmp.ensures) ∙ sym c.is_lt.ensures ∙ c.if-not-is_lt.true))

pub returns-then-not-is_lt-clause-passed : goal.returns-then-not-is_lt-clause-passed
returns-then-not-is_lt-clause-passed c =
    passed_stop c.args.path.now c.args.entries.now c.entries.at c.index-entries-at.result c.args.passed.now c.entries.passed
    c.entries-test.true c.index-entries-at.is (ap is_lt (sym c.cmp.ensures) ∙ sym c.is_lt.ensures ∙ c.if-not-is_lt.true)
    c.entries.invariant.1

pub returns-clause-rest : goal.returns-clause-rest
returns-clause-rest c =
    let at_end : c.entries.at ≡ length c.args.entries.now = omega (arith, c.entries-test.false, c.entries.auto.at-end) in
    take_rest c.args.entries.now (length c.args.entries.now)
    ∙ sym
    (subst (λ (n : ℕ). from_key c.args.path.now c.args.entries.now ≡ from_key c.args.path.now (drop n c.args.entries.now)) at_end
    c.entries.invariant.0
    ∙ from_end c.args.path.now c.args.entries.now)

pub returns-clause-passed : goal.returns-clause-passed
returns-clause-passed c =
    passed_end c.args.path.now c.args.entries.now c.args.passed.now c.entries.passed c.entries.at c.entries-test.false
    c.entries.auto.at-end c.entries.invariant.1

pub returns-then-not-is_lt-clause-each : goal.returns-then-not-is_lt-clause-each
returns-then-not-is_lt-clause-each c = c.entries.invariant.2

pub returns-clause-each : goal.returns-clause-each
returns-clause-each c = c.entries.invariant.2
