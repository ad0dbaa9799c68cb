use Rattle.iot_exchange.proofs.Common.{refl, sym, ◌∙◌}
use Rattle.iot_exchange.proofs.FirstLaws.{decided, first_of, is_undecided, none_waits, syncs_away, syncs_by_hand, syncs_none}
use Rattle.iot_exchange.proofs.queues.sync.Goals as goal

pub returns-in_default : goal.returns-in_default
returns-in_default g c =
    syncs_none (none_waits c.args.laptop.now _ (sym c.head.ensures ∙ c.in_default.is)) c.requires.ready.keeps c.in_ok-say.ensures

pub submit-requires-clause-first : goal.submit-requires-clause-first
submit-requires-clause-first g c = first_of _ refl (sym c.head.ensures ∙ c.in-Some.is) (rw c.in-Verdict.is at c.in_ok-submitted.ensures)

pub resolve-requires-clause-first : goal.resolve-requires-clause-first
resolve-requires-clause-first g c = first_of _ refl (sym c.head.ensures ∙ c.in-Some.is) (rw c.in-Tree.is at c.in_ok-submitted.ensures)

pub returns-in_ok-say_of-in-Ok : goal.returns-in_ok-say_of-in-Ok
returns-in_ok-say_of-in-Ok g c =
    syncs_by_hand (decided c.args.laptop.now _ refl (sym c.decision.ensures ∙ c.in-Ok.is)) c.requires.ready.keeps
    c.in_ok-say_of-in-Ok.ensures

pub returns-in_ok-say-in-Err : goal.returns-in_ok-say-in-Err
returns-in_ok-say-in-Err g c =
    let named = sym c.head.ensures ∙ c.in-Some.is in
    syncs_away (first_of _ refl named (is_undecided c.args.laptop.now _ named (sym c.decision.ensures ∙ c.in-Err.is)))
    c.miss.ensures.disks c.miss.ensures.all c.in_ok-say-in-Err.ensures

pub returns-in_ok-say_of-in-Decision : goal.returns-in_ok-say_of-in-Decision
returns-in_ok-say_of-in-Decision g c =
    syncs_by_hand (first_of _ refl (sym c.head.ensures ∙ c.in-Some.is) (rw c.in-Decision.is at c.in_ok-submitted.ensures))
    c.requires.ready.keeps c.in_ok-say_of-in-Decision.ensures

pub returns-in-Verdict : goal.returns-in-Verdict
returns-in-Verdict g c = c.submit.ensures _
