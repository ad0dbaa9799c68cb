use Rattle.iot_laptop.proofs.CallsLaws.{was_ok, was_stopped}
use Rattle.iot_laptop.proofs.Common.{IfOk-weaker, no_text, refl, sym, ◌∙◌}
use Rattle.iot_laptop.proofs.laptop.Laptop.goes_on.Goals as goal

pub returns-clause-goes : goal.returns-clause-goes
returns-clause-goes g c = record {
  step = λ was now change node is up appends counted.
      rw (sym c.journaled.ensures, sym c.as_bytes.ensures.value)
      (c.take.ensures.step c.args.self.now.place was now no_text change node is up (rw c.journaled.ensures appends)
      (record { count = λ n s here. counted ∙ here.counted; lines = λ n s here. c.new-lines.ensures }));
  answers = IfOk-weaker c.take.result _ _ (λ t is. was_ok c.args.answer t (sym c.journaled.ensures ∙ is)) c.take.ensures.answers;
  same = IfOk-weaker c.take.result _ _ (λ _ is. rw is) c.take.ensures.same;
  silent = c.take.ensures.silent;
  down = c.take.ensures.off;
  stopped = λ over. was_stopped c.args.answer (sym c.journaled.ensures ∙ c.take.ensures.stopped over);
  rest = refl;
}
