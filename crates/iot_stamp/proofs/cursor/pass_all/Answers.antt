use Rattle.std.proofs.Common.{refl, sym}
use Rattle.std.proofs.lemmas.List.{append-nil}
use Rattle.iot_stamp.proofs.PassesLaws.{path_taken, paths_taken}
use Rattle.iot_stamp.proofs.cursor.pass_all.Goals as goal

pub entries-init : goal.entries-init
entries-init c = (sym (append-nil c.args.passed.now), λ all. all)

pub entries-preserved : goal.entries-preserved
entries-preserved c = (
  path_taken c.args.passed.now c.args.entries.now c.entries.entry-index c.entry-item.result _ c.entries.passed c.push_path.new.paths
      c.entries-test.true c.entry-item.is refl c.entries.invariant.0 c.in_ok-push_path.ensures.pushed,
  λ all. c.in_ok-push_path.ensures.each (c.entries.invariant.1 all),
)

pub returns-clause-passed : goal.returns-clause-passed
returns-clause-passed c =
    paths_taken c.args.passed.now c.args.entries.now c.entries.entry-index c.entries.passed c.entries-test.false
    c.entries.auto.entry-index-end c.entries.invariant.0

pub returns-clause-each : goal.returns-clause-each
returns-clause-each c = c.entries.invariant.1
