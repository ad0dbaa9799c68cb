use Rattle.std.proofs.Common.{◌∙◌, ◌+◌, ℕ, List, Option, ap}
use Rattle.std.specs.Prelude.{Vec}
use Rattle.std.specs.declared.alloc.Global.{Global}
use Rattle.iot_kept.specs.States.{State}
use Rattle.iot_client.specs.Ties.{state_of, classes_in}
use Rattle.iot_client.specs.declared.interpreter.Interpreter.{Interpreter}
use Rattle.iot_client.proofs.BegunLaws.{has_room, live_begun, tied_begun}
use Rattle.iot_client.proofs.client.Client.run.Goals as goal

abbrev items_of : Vec (Option Interpreter) Global → List (Option Interpreter)
items_of all = all.items

pub note-requires-clause-follows : goal.note-requires-clause-follows
note-requires-clause-follows g c = (
  has_room (state_of c.args.self.now).running c.requires.room,
  c.in_ok-number.ensures ∙ ap (λ (n : ℕ). n + 1) c.last.ensures,
)

pub returns-clause-tied : goal.returns-clause-tied
returns-clause-tied g c =
    record {
      synced = c.set_class.ensures.synced c.in_ok-note.ensures.synced;
      runs = tied_begun g.D.Disk.medium c.args.self.now c.requires.tied c.in_ok-number.number c.args.script c.args.option c.args.code.value
          c.in_ok-interpreter.interpreter c.in_ok-interpreter.ensures.same _ _
          (ap (λ (state : State). state.running) (c.set_class.ensures.state ∙ c.in_ok-note.ensures.notes.state))
          (ap items_of c.note.ensures.interpreters ∙ c.in-Ok.ensures.items) c.in_ok-interpreter.ensures.starts
          c.in_ok-interpreter.ensures.script;
    }

pub returns-clause-live : goal.returns-clause-live
returns-clause-live g c =
    live_begun g.D.Disk.medium c.args.self.now c.requires.tied c.in_ok-number.number c.args.script c.args.option c.args.code.value
    c.in_ok-interpreter.interpreter c.in_ok-interpreter.ensures.same _ _
    (ap (λ (state : State). state.running) c.in_ok-note.ensures.notes.state)
    (ap items_of c.note.ensures.interpreters ∙ c.in-Ok.ensures.items) (classes_in c.note.new.self) _ c.args.first
    (c.in_ok-number.ensures ∙ ap (λ (n : ℕ). n + 1) c.last.ensures) c.in_ok-note.ensures.classes
    c.set_class.ensures.class
