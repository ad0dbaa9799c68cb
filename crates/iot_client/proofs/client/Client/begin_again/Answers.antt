use Rattle.std.proofs.Common.{Option, ap, slice_set}
use Rattle.std.specs.Prelude.{Vec}
use Rattle.std.specs.declared.alloc.Global.{Global}
use Rattle.iot_stamp.specs.Stamps.{nodes_of}
use Rattle.iot_kept.specs.Bringing.{brought}
use Rattle.iot_kept.specs.States.{State, after_each}
use Rattle.iot_client.specs.Ties.{state_of, stamps_of}
use Rattle.iot_client.specs.declared.interpreter.Interpreter.{Interpreter}
use Rattle.iot_client.proofs.AgainLaws.{live_anew, tied_anew, within_same, within_there}
use Rattle.iot_client.proofs.client.Client.begin_again.Goals as goal

pub index-requires : goal.index-requires
index-requires g c = within_there c.args.self.now c.args.number c.args.at c.requires.tied.runs c.requires.at

pub index_mut-requires : goal.index_mut-requires
index_mut-requires g c =
    within_same c.args.self.now c.args.number c.args.at c.requires.tied.runs c.requires.at c.bring.new.self.interpreters
    c.bring.ensures.interpreters

pub returns-clause-tied : goal.returns-clause-tied
returns-clause-tied g c =
    let old = c.args.self.now in
    let brings = c.in_ok-bring.ensures.brings in
    record {
      synced = c.in_ok-bring.ensures.synced;
      runs = tied_anew old c.args.number c.args.at c.requires.tied.runs c.requires.at c.index.result.now c.in_ok-again.again
          c.index.ensures c.in_ok-again.ensures (after_each (nodes_of (brought (stamps_of old) brings.changes)) (state_of old).items) _ _
          (ap (λ (state : State). state.running) brings.notes.state)
          (ap (λ (all : Vec (Option Interpreter) Global). slice_set all.items c.args.at c.in_ok-again.again)
          c.bring.ensures.interpreters);
    }

pub returns-clause-live : goal.returns-clause-live
returns-clause-live g c =
    live_anew c.args.self.now c.args.number c.args.at c.requires.tied.runs c.requires.at c.index.result.now c.in_ok-again.again
    c.index.ensures c.in_ok-again.ensures _ _ c.in_ok-bring.ensures.classes
    (ap (λ (all : Vec (Option Interpreter) Global). slice_set all.items c.args.at c.in_ok-again.again) c.bring.ensures.interpreters)
