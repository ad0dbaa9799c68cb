use Rattle.std.proofs.Common.{◌∙◌, ◌<◌, Option, length, slice_index_or, sym, ap, rules}
use Rattle.std.specs.List.{remove}
use Rattle.std.specs.Prelude.{Vec}
use Rattle.std.specs.declared.alloc.Global.{Global}
use Rattle.iot_kept.specs.States.{State}
use Rattle.iot_kept.specs.declared.running.Running.{Running}
use Rattle.iot_client.specs.Ties.{state_of, classes_in}
use Rattle.iot_client.specs.declared.interpreter.Interpreter.{Interpreter}
use Rattle.iot_client.proofs.AgainLaws.{within_same}
use Rattle.iot_client.proofs.GoingLaws.{joins_there, live_others, tied_others}
use Rattle.iot_client.proofs.PlaceLaws.{lent_within}
use Rattle.iot_client.proofs.client.Client.join.Goals as goal

pub offset_bounds-running-at : goal.offset_bounds-running-at
offset_bounds-running-at g c =
    let less : c.args.at < length c.running.result.now =
    lent_within c.args.number c.running.result.now (state_of c.args.self.now).running c.args.at c.running.ensures.running c.requires.at in
    search rules

pub bounds-running-at : goal.bounds-running-at
bounds-running-at g c =
    lent_within c.args.number c.running.result.now (state_of c.args.self.now).running c.args.at c.running.ensures.running c.requires.at

pub bounds-running-at-2 : goal.bounds-running-at-2
bounds-running-at-2 g c =
    lent_within c.args.number c.running.result.now (state_of c.args.self.now).running c.args.at c.running.ensures.running c.requires.at

pub remove-requires : goal.remove-requires
remove-requires g c =
    within_same c.args.self.now c.args.number c.args.at c.requires.tied.runs c.requires.at c.note.new.self.interpreters
    c.note.ensures.interpreters

pub returns-clause-tied : goal.returns-clause-tied
returns-clause-tied g c =
    record {
      synced = c.in_ok-note.ensures.synced;
      runs = tied_others c.args.self.now c.args.number c.args.at c.requires.tied.runs c.requires.at _ (classes_in c.note.new.self) _
          (c.remove.ensures.items
          ∙ ap (λ (all : Vec (Option Interpreter) Global). remove all.items c.args.at) c.note.ensures.interpreters)
          (ap (λ (state : State). state.running) c.in_ok-note.ensures.notes.state);
    }

pub returns-clause-live : goal.returns-clause-live
returns-clause-live g c =
    live_others c.args.self.now c.args.number c.args.at c.requires.tied.runs c.requires.at (state_of c.note.new.self).running _ _
    (c.remove.ensures.items
    ∙ ap (λ (all : Vec (Option Interpreter) Global). remove all.items c.args.at) c.note.ensures.interpreters)
    c.in_ok-note.ensures.classes

pub returns-clause-ends : goal.returns-clause-ends
returns-clause-ends g c =
    let notes = c.in_ok-note.ensures.notes in
    joins_there c.args.self.now c.args.number c.args.at c.requires.tied.runs c.requires.at c.requires.may c.running.result.now
    c.running.ensures.class c.index-running-at.result c.index-running-at.is
    (slice_index_or c.running.result.now c.args.at c.index-running-at.result).first
    (ap (λ (it : Running). it.first) (sym c.index-running-at.is))
    (record c.note.new.self { interpreters = c.remove.new.self })
    (record { follows = notes.follows; state = notes.state; stamps = notes.stamps; place = notes.place; records = notes.records })
