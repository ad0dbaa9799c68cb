use Rattle.std.proofs.Common.{Result, Ok, Err, ◌∙◌, List, Option, ap}
use Rattle.std.specs.Prelude.{OnOk, Vec}
use Rattle.std.specs.declared.alloc.Global.{Global}
use Rattle.std.proofs.lemmas.Result.{on_ok_weaker}
use Rattle.iot_kept.specs.States.{State, view}
use Rattle.iot_client.specs.Ties.{state_of, classes_in, lives}
use Rattle.iot_client.specs.declared.interpreter.Interpreter.{Interpreter}
use Rattle.iot_client.proofs.TiesLaws.{carried, classes_stay, running_stays, view_stays}
use Rattle.iot_client.proofs.client.Client.change_head.Goals as goal

both : {T E A B X : Type 0} (result : Result T E) → OnOk result A → OnOk result B → (A → B → X) → OnOk result X
both (Ok t) a b then_so = then_so a b
both (Err e) a b then_so = tt

abbrev items_of : Vec (Option Interpreter) Global → List (Option Interpreter)
items_of all = all.items

pub returns-clause-tied : goal.returns-clause-tied
returns-clause-tied g c =
    let old = c.args.self.now in
    let new = c.note.new.self in
    both c.note.result c.note.ensures.notes c.note.ensures.synced (λ notes synced. record {
      synced = synced;
      runs = carried (state_of old).running (state_of new).running old.interpreters.items new.interpreters.items
          (ap (λ (state : State). state.running) notes.state ∙ running_stays c.args.change (state_of old) c.requires.head)
          (ap items_of c.note.ensures.interpreters) c.requires.tied.runs;
    })

pub returns-clause-live : goal.returns-clause-live
returns-clause-live g c =
    let old = c.args.self.now in
    on_ok_weaker c.note.result
    (λ classes k. lives ((classes ∙ classes_stay c.args.change (state_of old).running (classes_in old) c.requires.head) k)
    (items_of (c.note.ensures.interpreters k)))
    c.note.ensures.classes

pub returns-clause-view : goal.returns-clause-view
returns-clause-view g c =
    on_ok_weaker c.note.result
    (λ notes. ap view notes.state ∙ view_stays c.args.change (state_of c.args.self.now) c.requires.head) c.note.ensures.notes
