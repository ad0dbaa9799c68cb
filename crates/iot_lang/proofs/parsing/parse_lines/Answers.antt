use Rattle.std.proofs.Common.{take, length, sym, subst, ◌∙◌, ap, Err, inr, arith}
use Rattle.iot_lines.specs.Lines.{lines}
use Rattle.iot_lang.specs.Scripts.{Spell, IsOpen}
use Rattle.iot_lang.specs.Nesting.{HasTaken}
use Rattle.iot_lang.proofs.NestingLaws.{begun}
use Rattle.iot_lang.proofs.ScriptsLaws.{at_line, fault_found, all_taken, count_is}
use Rattle.iot_lang.proofs.parsing.parse_lines.Goals as goal

pub returns-in-Err-clause-fault : goal.returns-in-Err-clause-fault
returns-in-Err-clause-fault c =
    let texts = lines c.args.text.now in
    let line = c.in-Some.line.now in
    let later = c.next.new.self in
    let taken = c.lines.invariant.taken in
    let here = at_line texts c.lines.at line later (c.lines.invariant.left ∙ c.in-Some.ensures.steps) in
    rw c.at.ensures (fault_found c.in-Err.fault texts c.lines.at line later here (begun _ _ taken)
    (λ e. c.in-Err.ensures.bad (ap Err e) (take c.lines.at texts) taken)
    (λ e. c.in-Err.ensures.deep (ap Err e) (take c.lines.at texts) taken))

pub lines-preserved : goal.lines-preserved
lines-preserved c =
    let texts = lines c.args.text.now in
    let here = at_line texts c.lines.at c.in-Some.line.now c.next.new.self (c.lines.invariant.left ∙ c.in-Some.ensures.steps) in
    record {
      taken = subst (λ ts. HasTaken c.take_line.new.nesting ts) (sym here.taken)
          (c.in-Ok.ensures.ok (take c.lines.at texts) c.lines.invariant.taken);
      left = here.left;
      within = omega (arith, here.there);
    }

pub returns-in-Some-finish-clause-found : goal.returns-in-Some-finish-clause-found
returns-in-Some-finish-clause-found c =
    let texts = lines c.args.text.now in
    let all = all_taken texts c.lines.at (c.lines.invariant.left ∙ c.in-None.ensures.steps.0) in
    subst (λ ts. Spell ts c.in-Some-finish.script) all (c.in-Some-finish.ensures.found (take c.lines.at texts) c.lines.invariant.taken)

pub returns-in-None-finish-clause-fault : goal.returns-in-None-finish-clause-fault
returns-in-None-finish-clause-fault c =
    let texts = lines c.args.text.now in
    let left = c.lines.invariant.left ∙ c.in-None.ensures.steps.0 in
    let open_ = subst (λ ts. IsOpen ts (length ts)) (all_taken texts c.lines.at left)
    (c.in-None-finish.ensures.none (take c.lines.at texts) c.lines.invariant.taken) in
    inr (subst (λ n. IsOpen texts n) (sym (count_is texts c.lines.at left c.lines.invariant.within)) open_)
