use Rattle.std.proofs.Common.{◌<◌, ℕ, List, Option, length, refl, sym, ap, subst, rules}
use Rattle.std.specs.Prelude.{Vec}
use Rattle.std.specs.declared.alloc.Global.{Global}
use Rattle.iot_tree.specs.Tree.{Path}
use Rattle.iot_tree.specs.declared.want.Want.TheVariants as wants
use Rattle.iot_kept.specs.Memory.{SeesOwn}
use Rattle.iot_kept.proofs.SyncedLaws.{synced_spelled}
use Rattle.iot_wire.specs.Meanings.{IsRefresh}
use Rattle.iot_client.specs.Ties.{state_of, stamps_of, records_of, disk_of}
use Rattle.iot_client.specs.declared.fault.ClientFault.TheVariants.{Stopped}
use Rattle.iot_client.specs.declared.interpreter.Interpreter.{Interpreter}
use Rattle.iot_client.proofs.ActLaws.{able_there, doubts_there, fetch_there, follows_there, live_still, live_there, spelled_there}
use Rattle.iot_client.proofs.ActLaws.{step_there, tied_still, tied_there}
use Rattle.iot_client.proofs.AgainLaws.{within_there}
use Rattle.iot_client.proofs.DoingLaws.{same_fault}
use Rattle.iot_client.proofs.PlaceLaws.{lent_sees, lent_within}
use Rattle.iot_client.proofs.client.Client.act.Goals as goal

abbrev items_of : Vec (Option Interpreter) Global → List (Option Interpreter)
items_of all = all.items

pub offset_bounds-running-at : goal.offset_bounds-running-at
offset_bounds-running-at g c =
    let less : c.args.at < length c.running.result.now =
    lent_within c.args.number c.running.result.now (state_of c.args.self.now).running c.args.at c.running.ensures.running c.requires.at in
    search rules

pub bounds-running-at : goal.bounds-running-at
bounds-running-at g c =
    lent_within c.args.number c.running.result.now (state_of c.args.self.now).running c.args.at c.running.ensures.running c.requires.at

pub index_mut-requires : goal.index_mut-requires
index_mut-requires g c = within_there c.args.self.now c.args.number c.args.at c.requires.tied.runs c.requires.at

pub view-requires : goal.view-requires
view-requires g c =
    subst SeesOwn (sym c.index-running-at.is)
    (lent_sees c.running.result.now c.args.at c.index-running-at.result
    (lent_within c.args.number c.running.result.now (state_of c.args.self.now).running c.args.at c.running.ensures.running c.requires.at)
    (c.running.ensures.sees c.requires.tied.synced))

pub decide_by-requires : goal.decide_by-requires
decide_by-requires g c =
    able_there c.args.self.now c.args.number c.args.at c.requires.tied.runs c.requires.at c.requires.goes c.index_mut.result.now
    c.index_mut.ensures.value

pub note-requires-clause-change : goal.note-requires-clause-change
note-requires-clause-change g c =
    let old = c.args.self.now in
    spelled_there old c.args.number c.args.at c.requires.tied.runs c.requires.at c.requires.goes c.index_mut.result.now
    c.index_mut.ensures.value c.running.result.now c.running.ensures.running c.running.ensures.class c.index-running-at.result
    c.index-running-at.is c.view.result.now c.view.ensures c.decide_by.new.interpreter c.in_ok-decided.decided c.in_ok-decided.ensures
    c.in-Did.done c.in-Did.is (synced_spelled _ old.kept c.requires.tied.synced)

pub note-requires-clause-follows : goal.note-requires-clause-follows
note-requires-clause-follows g c =
    let old = c.args.self.now in
    follows_there old c.args.number c.args.at c.requires.tied.runs c.requires.at c.requires.goes c.index_mut.result.now
    c.index_mut.ensures.value c.running.result.now c.running.ensures.running c.running.ensures.class c.index-running-at.result
    c.index-running-at.is c.view.result.now c.view.ensures c.decide_by.new.interpreter c.in_ok-decided.decided c.in_ok-decided.ensures
    c.in-Did.done c.in-Did.is

pub returns-in_ok-note-in-Did-clause-tied : goal.returns-in_ok-note-in-Did-clause-tied
returns-in_ok-note-in-Did-clause-tied g c =
    let old = c.args.self.now in
    record {
      synced = c.in_ok-note-in-Did.ensures.synced;
      runs = tied_there old c.args.number c.args.at c.requires.tied.runs c.requires.at c.requires.goes c.index_mut.result.now
          c.index_mut.ensures.value c.running.result.now c.running.ensures.running c.running.ensures.class c.index-running-at.result
          c.index-running-at.is c.view.result.now c.view.ensures c.decide_by.new.interpreter c.in_ok-decided.decided
          c.in_ok-decided.ensures c.in-Did.done c.in-Did.is _ c.note.new.self
          (record { state = refl; stamps = refl; place = refl; disk = refl; records = refl }) c.in_ok-note-in-Did.ensures.notes
          (ap items_of c.note.ensures.interpreters);
    }

pub returns-in_ok-note-in-Did-clause-live : goal.returns-in_ok-note-in-Did-clause-live
returns-in_ok-note-in-Did-clause-live g c =
    let old = c.args.self.now in
    live_there old c.args.number c.args.at c.requires.tied.runs c.requires.at c.requires.goes c.index_mut.result.now
    c.index_mut.ensures.value c.running.result.now c.running.ensures.running c.running.ensures.class c.index-running-at.result
    c.index-running-at.is c.view.result.now c.view.ensures c.decide_by.new.interpreter c.in_ok-decided.decided c.in_ok-decided.ensures
    c.in-Did.done c.in-Did.is _ c.note.new.self
    (record { state = refl; stamps = refl; place = refl; disk = refl; records = refl }) c.in_ok-note-in-Did.ensures.notes
    (ap items_of c.note.ensures.interpreters) c.in_ok-note-in-Did.ensures.classes

pub returns-in_ok-note-in-Did-clause-step : goal.returns-in_ok-note-in-Did-clause-step
returns-in_ok-note-in-Did-clause-step g c =
    let old = c.args.self.now in
    step_there old c.args.number c.args.at c.requires.tied.runs c.requires.at c.requires.goes c.index_mut.result.now
    c.index_mut.ensures.value c.running.result.now c.running.ensures.running c.running.ensures.class c.index-running-at.result
    c.index-running-at.is c.view.result.now c.view.ensures c.decide_by.new.interpreter c.in_ok-decided.decided c.in_ok-decided.ensures
    c.in-Did.done c.in-Did.is _ c.note.new.self
    (record { state = refl; stamps = refl; place = refl; disk = refl; records = refl }) c.in_ok-note-in-Did.ensures.notes
    (ap items_of c.note.ensures.interpreters)

pub returns-in_err-note-in-Did-clause-stopped : goal.returns-in_err-note-in-Did-clause-stopped
returns-in_err-note-in-Did-clause-stopped g c =
    let old = c.args.self.now in
    λ is.
    doubts_there old c.args.number c.args.at c.requires.tied.runs c.requires.at c.requires.goes c.index_mut.result.now
    c.index_mut.ensures.value c.running.result.now c.running.ensures.running c.running.ensures.class c.index-running-at.result
    c.index-running-at.is c.view.result.now c.view.ensures c.decide_by.new.interpreter c.in_ok-decided.decided c.in_ok-decided.ensures
    c.in-Did.done c.in-Did.is (records_of old) (g.D.Disk.medium.may_leave (disk_of c.note.new.self))
    (c.note.ensures.stopped
    (same_fault c.note.result c.from_residual-in_err-note-in-Did.result c.in_err-note-in-Did.field-0.0 Stopped c.in_err-note-in-Did.was
    c.from_residual-in_err-note-in-Did.ensures.1 is))

pub returns-in_ok-request-in-Missed-clause-step : goal.returns-in_ok-request-in-Missed-clause-step
returns-in_ok-request-in-Missed-clause-step g c =
    let old = c.args.self.now in
    let request : List ℕ = c.in_ok-request-in-Missed.request in
    fetch_there old c.args.number c.args.at c.requires.tied.runs c.requires.at c.requires.goes c.index_mut.result.now
    c.index_mut.ensures.value c.running.result.now c.running.ensures.running c.running.ensures.class c.index-running-at.result
    c.index-running-at.is c.view.result.now c.view.ensures c.decide_by.new.interpreter c.in_ok-decided.decided c.in_ok-decided.ensures
    c.in-Missed.path c.in-Missed.is _ request
    (subst (λ (p : Path). IsRefresh old.me (stamps_of old) (wants.Path p) request) c.in_ok-copy-in-Missed.ensures
    c.in_ok-request-in-Missed.ensures)
    (record { state = refl; stamps = refl; place = refl; disk = refl; records = refl })

pub returns-in_ok-request-in-Missed-clause-live : goal.returns-in_ok-request-in-Missed-clause-live
returns-in_ok-request-in-Missed-clause-live g c =
    let old = c.args.self.now in
    live_still old c.args.number c.args.at c.requires.tied.runs c.requires.at c.requires.goes c.index_mut.result.now
    c.index_mut.ensures.value c.running.result.now c.running.ensures.running c.running.ensures.class c.index-running-at.result
    c.index-running-at.is c.view.result.now c.view.ensures c.decide_by.new.interpreter c.in_ok-decided.decided c.in_ok-decided.ensures
    c.in-Missed.path c.in-Missed.is

pub returns-in_ok-request-in-Missed-clause-tied : goal.returns-in_ok-request-in-Missed-clause-tied
returns-in_ok-request-in-Missed-clause-tied g c =
    let old = c.args.self.now in
    record {
      synced = c.requires.tied.synced;
      runs = tied_still old c.args.number c.args.at c.requires.tied.runs c.requires.at c.requires.goes c.index_mut.result.now
          c.index_mut.ensures.value c.running.result.now c.running.ensures.running c.running.ensures.class c.index-running-at.result
          c.index-running-at.is c.view.result.now c.view.ensures c.decide_by.new.interpreter c.in_ok-decided.decided
          c.in_ok-decided.ensures c.in-Missed.path c.in-Missed.is;
    }
