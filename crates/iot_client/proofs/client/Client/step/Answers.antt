use Rattle.std.proofs.Common.{◌≤◌, ◌∙◌, ℕ, sym, ap, subst}
use Rattle.std.proofs.lemmas.Result.{on_ok_weaker}
use Rattle.iot_kept.specs.States.{State}
use Rattle.iot_client.specs.Calls.{CutsOffNext}
use Rattle.iot_client.specs.Doing.{IsAt}
use Rattle.iot_client.specs.Faults.{CountsFault}
use Rattle.iot_client.specs.Ties.{AreBegun, state_of, disk_of, live_of}
use Rattle.iot_client.proofs.ClassesLaws.{cut_from, none_refuses, stays_from, steps_from}
use Rattle.iot_client.proofs.FoundLaws.{not_idle}
use Rattle.iot_client.proofs.LivesLaws.{begun_yielded}
use Rattle.iot_client.proofs.client.Client.step.Goals as goal

pub go_on-requires-clause-begun : goal.go_on-requires-clause-begun
go_on-requires-clause-begun g c =
    subst AreBegun (sym c.yields.ensures.live)
    (begun_yielded c.args.number (state_of c.args.self.now).items (state_of c.args.self.now).running (live_of c.args.self.now)
    c.requires.begun)

pub go_on-requires-clause-place : goal.go_on-requires-clause-place
go_on-requires-clause-place g c = subst (λ (place : ℕ). place ≤ 7) (sym c.yields.ensures.same.place) c.requires.place

pub go_on-requires-clause-at : goal.go_on-requires-clause-at
go_on-requires-clause-at g c =
    subst (λ (state : State). IsAt c.args.number state.running c.in-Some.at) (sym c.yields.ensures.same.state) c.in-Some.ensures

pub returns-clause-step : goal.returns-clause-step
returns-clause-step g c =
    steps_from c.args.self.now c.yields.new.self c.yields.ensures.same c.args.number c.yields.ensures.live c.go_on.new.self c.go_on.result
    c.go_on.ensures.step

pub returns-clause-live : goal.returns-clause-live
returns-clause-live g c = on_ok_weaker c.go_on.result (λ same. same ∙ c.yields.ensures.live) c.go_on.ensures.live

pub returns-clause-begun : goal.returns-clause-begun
returns-clause-begun g c =
    on_ok_weaker c.go_on.result
    (λ same.
    subst AreBegun (sym (same ∙ c.yields.ensures.live))
    (begun_yielded c.args.number (state_of c.args.self.now).items (state_of c.args.self.now).running (live_of c.args.self.now)
    c.requires.begun)) c.go_on.ensures.live

pub returns-clause-refuses : goal.returns-clause-refuses
returns-clause-refuses g c =
    none_refuses _ c.args.self.now c.go_on.new.self c.go_on.result
    (not_idle c.args.self.now c.args.number c.in-Some.at c.requires.tied.runs c.in-Some.ensures) c.go_on.ensures.fails

pub returns-clause-counts : goal.returns-clause-counts
returns-clause-counts g c =
    subst (λ (before : ℕ). CountsFault c.go_on.result before (g.D.Disk.medium.faults (disk_of c.go_on.new.self)))
    (ap g.D.Disk.medium.faults c.yields.ensures.same.disk) c.go_on.ensures.counts

pub returns-clause-arms : goal.returns-clause-arms
returns-clause-arms g c = c.go_on.ensures.arms ∙ ap g.D.Disk.medium.arms c.yields.ensures.same.disk

pub returns-clause-stopped : goal.returns-clause-stopped
returns-clause-stopped g c = λ is.
    cut_from c.args.self.now c.yields.new.self c.yields.ensures.same c.args.number c.yields.ensures.live
    (λ it first code state records. CutsOffNext it first code state records (g.D.Disk.medium.may_leave (disk_of c.go_on.new.self)))
    (c.go_on.ensures.stopped is)

pub returns-clause-no_memory : goal.returns-clause-no_memory
returns-clause-no_memory g c = λ is.
    stays_from c.args.self.now c.yields.new.self c.yields.ensures.same g.D.Disk.medium c.go_on.new.self (c.go_on.ensures.no_memory is)
