use Rattle.std.proofs.Common.{◌≡◌, ◌∙◌, ◌++◌, ◌∷◌, [], List, Option, None, length, sym, ap, subst, arith}
use Rattle.std.proofs.lemmas.List.{length-map, replicate_more}
use Rattle.iot_kept.specs.Kept as kept
use Rattle.iot_kept.specs.Memory.{transaction}
use Rattle.iot_kept.specs.States.{Transaction}
use Rattle.iot_client.specs.Ties.{lives, AreFound, AreRuns}
use Rattle.iot_client.specs.declared.interpreter.Interpreter.{Interpreter}
use Rattle.iot_client.proofs.LivesLaws.{are_found}
use Rattle.iot_client.proofs.TiesLaws.{runs_found}
use Rattle.iot_client.proofs.client.Client.seated.Goals as goal

pub interpreters-preserved : goal.interpreters-preserved
interpreters-preserved g c =
    c.in-Ok.ensures.items
    ∙ ap (λ (all : List (Option Interpreter)). all ++ None ∷ []) c.interpreters.invariant
    ∙ replicate_more c.interpreters.counter None

pub returns-clause-tied : goal.returns-clause-tied
returns-clause-tied g c =
    let lent = c.running-end.result.now in
    let same : c.interpreters.counter ≡ length lent = omega (arith, c.interpreters-test.false, c.interpreters.auto.counter-end) in
    record {
      synced = c.requires.synced;
      runs = subst (AreRuns (kept.state_of c.args.kept).running) (sym c.interpreters.invariant)
          (runs_found (kept.state_of c.args.kept).running c.interpreters.counter
          (same ∙ sym (length-map lent transaction)
          ∙ ap (λ (running : List Transaction). length running) c.running-end.ensures.running));
    }

pub returns-clause-live : goal.returns-clause-live
returns-clause-live g c =
    subst (λ (all : List (Option Interpreter)). AreFound (lives (kept.classes_in c.args.kept) all)) (sym c.interpreters.invariant)
    (are_found (kept.classes_in c.args.kept) c.interpreters.counter c.requires.second)
