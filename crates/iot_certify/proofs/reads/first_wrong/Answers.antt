use Rattle.std.proofs.Common.{rules, tests}
use Rattle.std.proofs.lemmas.Iterator.{IsFirst-from_position, YieldsList-from_slice}
use Rattle.iot_acts.specs.Turns.{Answers}
use Rattle.iot_certify.proofs.ReadsLaws.{first_of}
use Rattle.iot_certify.proofs.reads.first_wrong.Goals as goal

pub returns-clause-first : goal.returns-clause-first
returns-clause-first c =
    first_of c.args.t.now c.args.reads.now _
    (IsFirst-from_position _ _ _ (λ read. ¬ Answers c.args.t.now read) (Answers c.args.t.now) c.position.ensures.ran
    (YieldsList-from_slice c.args.reads.now cc) (λ x q k. search (rules, tests)) (λ x q k. search (rules, tests)))
