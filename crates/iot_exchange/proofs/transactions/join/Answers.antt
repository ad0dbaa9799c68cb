use Rattle.iot_exchange.proofs.Common.{ap, inl, inr, synced_by}
use Rattle.iot_exchange.proofs.{DoesLaws.answers, DoesLaws.goes_then, DoesLaws.hands_on, DoesLaws.tells, TransactionsLaws.ends_aloud}
use Rattle.iot_exchange.proofs.transactions.join.Goals as goal

pub returns-then-not-gone : goal.returns-then-not-gone
returns-then-not-gone g c =
    ends_aloud c.args.gone.now c.requires.ready.keeps c.in_ok-say_of.ensures c.if-not-gone.true
    (tells c.requires.ready.keeps (λ names at pair here. c.in_ok-say_pending.ensures))

pub returns-in_err-sync : goal.returns-in_err-sync
returns-in_err-sync g c =
    ends_aloud c.args.gone.now c.requires.ready.keeps c.in_ok-say_of.ensures c.if-not-gone.false
    (hands_on (ap synced_by c.in_err-sync.was) c.from_residual-in_err-sync.ensures.1 c.sync.ensures)

pub returns-in_ok-say_pending-in-Unanswered : goal.returns-in_ok-say_pending-in-Unanswered
returns-in_ok-say_pending-in-Unanswered g c =
    ends_aloud c.args.gone.now c.requires.ready.keeps c.in_ok-say_of.ensures c.if-not-gone.false
    (goes_then (ap synced_by (rw c.in-Unanswered.is at c.in_ok-sync.was)) c.sync.ensures
    (tells c.sync.ensures.disks (λ names at pair here. c.in_ok-say_pending-in-Unanswered.ensures)))

pub returns-in-Moved : goal.returns-in-Moved
returns-in-Moved g c =
    ends_aloud c.args.gone.now c.requires.ready.keeps c.in_ok-say_of.ensures c.if-not-gone.false
    (elim c.in-Moved.is [
      | inl moved ↦ goes_then (ap synced_by (rw moved at c.in_ok-sync.was)) c.sync.ensures (answers c.sync.ensures.disks)
      | inr stays ↦ goes_then (ap synced_by (rw stays at c.in_ok-sync.was)) c.sync.ensures (answers c.sync.ensures.disks)
    ])
