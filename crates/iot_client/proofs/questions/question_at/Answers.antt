use Rattle.std.proofs.Common.{◌-◌, List, length, slice_get, drop, ◌+◌, sym, ap, ◌∙◌}
use Rattle.std.proofs.lemmas.Option.{same_Some}
use Rattle.std.proofs.lemmas.Result.{IfOk-weaker}
use Rattle.iot_acts.specs.Turns.{reads_of}
use Rattle.iot_tree.specs.declared.acts.Read.{Read}
use Rattle.iot_client.proofs.ReadPlaceLaws.{read_here, read_later, no_read, is_there}
use Rattle.iot_client.proofs.questions.question_at.Goals as goal

pub returns-then-left-reads : goal.returns-then-left-reads
returns-then-left-reads c =
    IfOk-weaker c.copy.result _ _
    (λ question same read found.
    same ∙ ap (λ (read : Read). read.question) (sym c.index-reads-left.is)
    ∙ ap (λ (read : Read). read.question)
    (same_Some c.index-reads-left.result read
    (sym
    (read_here c.args.acts.now c.acts.act-index c.act-item.result c.acts-test.true c.act-item.is c.acts.left c.as_slice-reads.result.now
    c.index-reads-left.result c.as_slice-reads.ensures c.if-left-reads.true c.index-reads-left.is)
    ∙ c.acts.invariant ∙ found)))
    c.copy.ensures

pub acts-preserved : goal.acts-preserved
acts-preserved c =
    ap
    (λ (reads : List Read).
    slice_get (reads_of (drop (c.acts.act-index + 1) c.args.acts.now)) (c.acts.left - length reads)) c.as_slice-reads.ensures
    ∙ sym
    (read_later c.args.acts.now c.acts.act-index c.act-item.result c.acts-test.true c.act-item.is c.acts.left
    (rw (sym c.as_slice-reads.ensures) c.if-left-reads.false))
    ∙ c.acts.invariant

pub unreachable-requires : goal.unreachable-requires
unreachable-requires c =
    is_there (reads_of c.args.acts.now) (c.args.place - 1) c.requires.within
    (sym c.acts.invariant ∙ no_read c.args.acts.now c.acts.act-index c.acts.left c.acts-test.false)
