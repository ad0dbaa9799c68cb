use Rattle.std.proofs.Common.{true, false, sym, ap, ◌∙◌, is_eq}
use Rattle.iot_exec.proofs.KeptLaws.{next_file, none_left}
use Rattle.iot_exec.proofs.kept.scan.Goals as goal

pub returns-then-is_eq : goal.returns-then-is_eq
returns-then-is_eq c =
    sym
    (next_file c.args.files.now c.args.path.now c.files.at-index c.files-item.result true c.files-test.true
    c.files-item.is (ap is_eq (sym c.cmp.ensures) ∙ sym c.is_eq.ensures ∙ c.if-is_eq.true))
    ∙ c.files.invariant

pub files-preserved : goal.files-preserved
files-preserved c =
    sym
    (next_file c.args.files.now c.args.path.now c.files.at-index c.files-item.result false c.files-test.true
    c.files-item.is (ap is_eq (sym c.cmp.ensures) ∙ sym c.is_eq.ensures ∙ c.if-is_eq.false))
    ∙ c.files.invariant

pub returns : goal.returns
returns c = sym (none_left c.args.files.now c.args.path.now c.files.at-index c.files-test.false) ∙ c.files.invariant
