use Rattle.std.proofs.Common.{◌≡◌, ◌-◌, ◌<◌, true, List, Some, Result, Ok, length, slice_get, subst, sym, rules}
use Rattle.std.specs.Prelude.{IfOk, IsErrOf}
use Rattle.iot_acts.specs.Turns.{reads_of}
use Rattle.iot_tree.specs.declared.acts.Act.{Act}
use Rattle.iot_tree.specs.declared.acts.Read.{Read}
use Rattle.iot_kept.proofs.SyncedLaws.{synced_guarded}
use Rattle.iot_client.specs.Ties.{state_of, live_of, records_of, disk_of}
use Rattle.iot_client.specs.Calls.{may_end, CutsOffEnd, EndIs}
use Rattle.iot_client.specs.Doing.{IsSoOfOne}
use Rattle.iot_client.specs.declared.client.Client.{Client}
use Rattle.iot_client.specs.declared.ended.Ended.{Ended}
use Rattle.iot_client.specs.declared.ended.Ended.TheVariants.{Again}
use Rattle.iot_client.specs.declared.fault.ClientFault.{ClientFault}
use Rattle.iot_client.specs.declared.fault.ClientFault.TheVariants.{Stopped}
use Rattle.iot_client.proofs.CertifyLaws.{again_follows, ends_follows, first_there, joining_there, starting_there, starts_there}
use Rattle.iot_client.proofs.CertifyLaws.{within_acts}
use Rattle.iot_client.proofs.DoingLaws.{same_fault}
use Rattle.iot_client.proofs.PlaceLaws.{lent_within, not_so}
use Rattle.iot_client.proofs.client.Client.certify.Goals.{in-Holds, in-Differs+in_ok-question-in-Differs+in_ok-start_again-in-Differs}
use Rattle.iot_client.proofs.client.Client.certify.Goals as goal

pub unreachable-requires : goal.unreachable-requires
unreachable-requires g c =
    not_so (λ it first code. may_end it code ≡ true) c.args.number (state_of c.args.self.now).running (live_of c.args.self.now)
    c.in_default.ensures c.requires.may

pub offset_bounds-running-at : goal.offset_bounds-running-at
offset_bounds-running-at g c =
    let less : c.in-Some.at < length c.running.result.now =
    lent_within c.args.number c.running.result.now (state_of c.args.self.now).running c.in-Some.at c.running.ensures.running
    c.in-Some.ensures in
    search rules

pub bounds-running-at : goal.bounds-running-at
bounds-running-at g c =
    lent_within c.args.number c.running.result.now (state_of c.args.self.now).running c.in-Some.at c.running.ensures.running
    c.in-Some.ensures

pub join-requires-clause-follows : goal.join-requires-clause-follows
join-requires-clause-follows g c =
    ends_follows c.args.self.now c.args.number c.in-Some.at c.requires.tied.runs c.in-Some.ensures c.requires.may c.running.result.now
    c.running.ensures.running c.index-running-at.result c.index-running-at.is c.view.result.now c.view.ensures
    c.in_ok-read.field-0 c.in_ok-read.ensures.holds c.in-Holds.is

-- one that is told of was not stopped
is_ended : (ended : Ended) (result : Result Ended ClientFault) → result ≡ Ok ended → IsErrOf result Stopped → ⊥
is_ended ended result is stopped = cc

-- what is so of equal ones
moved : {A B : Type 0} (P : A → B → Type 0) (a was : A) (b before : B) → a ≡ was → b ≡ before → P was before → P a b
moved P a was b before same like is = subst (λ x. P x b) (sym same) (subst (P was) (sym like) is)

pub returns-clause-stopped : goal.returns-clause-stopped
returns-clause-stopped g c =
    elim c.match-branch-2.branch [
      | in-Holds w ↦
          moved
          (λ (self : Client _) (result : Result Ended ClientFault). IsErrOf result Stopped
          → IsSoOfOne (λ it first code. CutsOffEnd it code (state_of c.args.self.now) (records_of c.args.self.now)
          (g.D.Disk.medium.may_leave (disk_of self))) c.args.number (state_of c.args.self.now).running (live_of c.args.self.now))
          c.match-branch-2.self w.join.new.self c.match-branch-2.result w.join.result w.self-is w.result-is
          (λ is.
          joining_there c.args.self.now c.args.number c.in-Some.at c.requires.tied.runs c.in-Some.ensures c.requires.may
          (records_of c.args.self.now) (g.D.Disk.medium.may_leave (disk_of w.join.new.self)) (w.join.ensures.stopped is))
      | in-Differs+in_ok-question-in-Differs+in_ok-start_again-in-Differs w ↦ (λ is. absurd (is_ended _ _ w.result-is is))
    ]

pub returns-clause-ends : goal.returns-clause-ends
returns-clause-ends g c =
    elim c.match-branch-2.branch [
      | in-Holds w ↦
          moved
          (λ (self : Client _) (result : Result Ended ClientFault). IfOk result (λ ended. IsSoOfOne
          (λ it first code. EndIs c.args.self.now it first code ended self) c.args.number (state_of c.args.self.now).running
          (live_of c.args.self.now)))
          c.match-branch-2.self w.join.new.self c.match-branch-2.result w.join.result w.self-is w.result-is w.join.ensures.ends
      | in-Differs+in_ok-question-in-Differs+in_ok-start_again-in-Differs w ↦
          moved
          (λ (self : Client _) (result : Result Ended ClientFault). IfOk result (λ ended. IsSoOfOne
          (λ it first code. EndIs c.args.self.now it first code ended self) c.args.number (state_of c.args.self.now).running
          (live_of c.args.self.now)))
          c.match-branch-2.self w.start_again.new.self c.match-branch-2.result
          (Ok (Again w.in-Differs.read w.in_ok-question-in-Differs.question)) w.self-is w.result-is
          (starts_there c.args.self.now c.args.number c.in-Some.at c.requires.tied.runs c.in-Some.ensures c.requires.may
          c.running.result.now
          c.running.ensures.running c.index-running-at.result c.index-running-at.is c.view.result.now c.view.ensures c.in_ok-read.field-0
          c.in_ok-read.ensures.holds w.in-Differs.read w.in-Differs.answer w.in-Differs.is c.in_ok-read.ensures.guarded
          (synced_guarded _ c.args.self.now.kept c.requires.tied.synced) w.in_ok-question-in-Differs.question
          (subst (λ (acts : List Act). (read : Read) → slice_get (reads_of acts) (w.in-Differs.read - 1) ≡ Some read
          → w.in_ok-question-in-Differs.question ≡ read.question) w.as_slice.ensures w.in_ok-question-in-Differs.ensures)
          w.start_again.new.self w.in_ok-start_again-in-Differs.ensures.notes)
    ]

pub question_at-requires-clause-first : goal.question_at-requires-clause-first
question_at-requires-clause-first g c =
    first_there c.args.self.now c.args.number c.in-Some.at c.requires.tied.runs c.in-Some.ensures c.requires.may c.running.result.now
    c.running.ensures.running c.index-running-at.result c.index-running-at.is c.view.result.now c.view.ensures
    c.in_ok-read.field-0 c.in_ok-read.ensures.holds c.in-Differs.read c.in-Differs.answer c.in-Differs.is
    c.in_ok-read.ensures.guarded (synced_guarded _ c.args.self.now.kept c.requires.tied.synced)

pub question_at-requires-clause-within : goal.question_at-requires-clause-within
question_at-requires-clause-within g c =
    subst (λ (acts : List Act). c.in-Differs.read - 1 < length (reads_of acts)) (sym c.as_slice.ensures)
    (within_acts c.args.self.now c.args.number c.in-Some.at c.requires.tied.runs c.in-Some.ensures c.requires.may c.running.result.now
    c.running.ensures.running c.index-running-at.result c.index-running-at.is c.view.result.now c.view.ensures
    c.in_ok-read.field-0 c.in_ok-read.ensures.holds c.in-Differs.read c.in-Differs.answer c.in-Differs.is
    c.in_ok-read.ensures.guarded (synced_guarded _ c.args.self.now.kept c.requires.tied.synced))

pub start_again-requires-clause-follows : goal.start_again-requires-clause-follows
start_again-requires-clause-follows g c =
    again_follows c.args.self.now c.args.number c.in-Some.at c.requires.tied.runs c.in-Some.ensures c.requires.may c.running.result.now
    c.running.ensures.running c.index-running-at.result c.index-running-at.is c.view.result.now c.view.ensures
    c.in_ok-read.field-0 c.in_ok-read.ensures.holds c.in-Differs.read c.in-Differs.answer c.in-Differs.is

pub returns-in_err-start_again-in-Differs-clause-stopped : goal.returns-in_err-start_again-in-Differs-clause-stopped
returns-in_err-start_again-in-Differs-clause-stopped g c = λ is.
    starting_there c.args.self.now c.args.number c.in-Some.at c.requires.tied.runs c.in-Some.ensures c.requires.may c.running.result.now
    c.running.ensures.running c.index-running-at.result c.index-running-at.is c.view.result.now c.view.ensures
    c.in_ok-read.field-0 c.in_ok-read.ensures.holds c.in-Differs.read c.in-Differs.answer c.in-Differs.is
    c.in_ok-read.ensures.guarded (synced_guarded _ c.args.self.now.kept c.requires.tied.synced) c.in_ok-question-in-Differs.question
    (subst (λ (acts : List Act). (read : Read) → slice_get (reads_of acts) (c.in-Differs.read - 1) ≡ Some read
    → c.in_ok-question-in-Differs.question ≡ read.question) c.as_slice.ensures c.in_ok-question-in-Differs.ensures)
    (records_of c.args.self.now) (g.D.Disk.medium.may_leave (disk_of c.start_again.new.self))
    (c.start_again.ensures.stopped
    (same_fault c.start_again.result c.from_residual-in_err-start_again-in-Differs.result c.in_err-start_again-in-Differs.field-0.0 Stopped
    c.in_err-start_again-in-Differs.was c.from_residual-in_err-start_again-in-Differs.ensures.1 is))
