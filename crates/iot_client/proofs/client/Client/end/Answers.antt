use Rattle.std.proofs.Common.{◌≡◌, ◌∙◌, ℕ, true, sym, ap, subst}
use Rattle.iot_kept.specs.States.{numbered}
use Rattle.iot_client.specs.Calls.{CutsOffEnd, live_numbered, may_end}
use Rattle.iot_client.specs.Faults.{CountsFault}
use Rattle.iot_client.specs.Ties.{state_of, disk_of, live_of}
use Rattle.iot_client.proofs.ClassesLaws.{begun_left, cut_from, ends_from, lives_from, none_refuses, so_into, stays_from}
use Rattle.iot_client.proofs.LivesLaws.{so_yielded}
use Rattle.iot_client.proofs.StepsLaws.{may_be_ended}
use Rattle.iot_client.proofs.client.Client.end.Goals as goal

pub certify-requires-clause-may : goal.certify-requires-clause-may
certify-requires-clause-may g c =
    let old = c.args.self.now in
    let state = state_of old in
    so_into old c.yields.new.self c.yields.ensures.same c.args.number c.yields.ensures.live (λ it first code. may_end it code ≡ true)
    (so_yielded (λ it code. may_end it code ≡ true) state.items c.args.number state.running (live_of old)
    (may_be_ended (numbered c.args.number state.running) (live_numbered c.args.number state.running (live_of old))
    c.in-None.ensures.cause))

pub returns-in-None-clause-ends : goal.returns-in-None-clause-ends
returns-in-None-clause-ends g c =
    ends_from c.args.self.now c.yields.new.self c.yields.ensures.same c.args.number c.yields.ensures.live c.certify.new.self
    c.certify.result c.certify.ensures.ends

pub returns-in-None-clause-live : goal.returns-in-None-clause-live
returns-in-None-clause-live g c =
    lives_from c.args.self.now c.yields.new.self c.yields.ensures.same c.args.number c.yields.ensures.live c.certify.new.self
    c.certify.result c.certify.ensures.live

pub returns-in-None-clause-begun : goal.returns-in-None-clause-begun
returns-in-None-clause-begun g c =
    begun_left c.args.self.now c.certify.new.self c.args.number c.certify.result c.requires.begun
    (lives_from c.args.self.now c.yields.new.self c.yields.ensures.same c.args.number c.yields.ensures.live c.certify.new.self
    c.certify.result c.certify.ensures.live)

pub returns-in-None-clause-refuses : goal.returns-in-None-clause-refuses
returns-in-None-clause-refuses g c =
    none_refuses _ c.args.self.now c.certify.new.self c.certify.result (sym c.in-None.ensures.cause) c.certify.ensures.fails

pub returns-in-None-clause-counts : goal.returns-in-None-clause-counts
returns-in-None-clause-counts g c =
    subst (λ (before : ℕ). CountsFault c.certify.result before (g.D.Disk.medium.faults (disk_of c.certify.new.self)))
    (ap g.D.Disk.medium.faults c.yields.ensures.same.disk) c.certify.ensures.counts

pub returns-in-None-clause-arms : goal.returns-in-None-clause-arms
returns-in-None-clause-arms g c = c.certify.ensures.arms ∙ ap g.D.Disk.medium.arms c.yields.ensures.same.disk

pub returns-in-None-clause-stopped : goal.returns-in-None-clause-stopped
returns-in-None-clause-stopped g c = λ is.
    cut_from c.args.self.now c.yields.new.self c.yields.ensures.same c.args.number c.yields.ensures.live
    (λ it first code state records. CutsOffEnd it code state records (g.D.Disk.medium.may_leave (disk_of c.certify.new.self)))
    (c.certify.ensures.stopped is)

pub returns-in-None-clause-no_memory : goal.returns-in-None-clause-no_memory
returns-in-None-clause-no_memory g c = λ is.
    stays_from c.args.self.now c.yields.new.self c.yields.ensures.same g.D.Disk.medium c.certify.new.self
    (c.certify.ensures.no_memory is)
