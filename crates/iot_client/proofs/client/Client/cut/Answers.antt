use Rattle.std.proofs.Common.{◌∙◌, Option, ap, subst}
use Rattle.std.specs.List.{remove}
use Rattle.std.specs.Prelude.{Vec}
use Rattle.std.specs.declared.alloc.Global.{Global}
use Rattle.iot_tree.specs.Tree.{Nodes}
use Rattle.iot_certify.specs.Verdicts.{IsLongest}
use Rattle.iot_kept.specs.States.{State}
use Rattle.iot_client.specs.Ties.{records_of, disk_of}
use Rattle.iot_client.specs.declared.fault.ClientFault.TheVariants.{Stopped}
use Rattle.iot_client.specs.declared.interpreter.Interpreter.{Interpreter}
use Rattle.iot_client.proofs.CutLaws.{begun_none, cut_follows, cuts_first, cuts_none, cuts_off_first, first_within, live_later}
use Rattle.iot_client.proofs.CutLaws.{live_none, tied_later}
use Rattle.iot_client.proofs.DoingLaws.{same_fault}
use Rattle.iot_client.proofs.client.Client.cut.Goals as goal

pub returns-in_default-clause-cuts : goal.returns-in_default-clause-cuts
returns-in_default-clause-cuts g c =
    cuts_none c.args.self.now c.running.result.now c.running.ensures.running c.in_default.ensures.value

pub returns-in_default-clause-live : goal.returns-in_default-clause-live
returns-in_default-clause-live g c =
    live_none c.args.self.now c.running.result.now c.running.ensures.running c.in_default.ensures.value c.requires.runs

pub returns-in_default-clause-begun : goal.returns-in_default-clause-begun
returns-in_default-clause-begun g c = λ is.
    begun_none c.args.self.now c.running.result.now c.running.ensures.running c.in_default.ensures.value c.requires.runs

pub note-requires-clause-follows : goal.note-requires-clause-follows
note-requires-clause-follows g c =
    cut_follows c.args.self.now c.running.result.now c.running.ensures.running c.in-Some.it.now c.in-Some.ensures.value
    c.in_ok-acts.acts
    (subst (λ (t : Nodes). IsLongest t c.in-Some.it.now.acts c.in_ok-acts.acts) c.view.ensures c.in_ok-acts.ensures.longest)

pub remove-requires : goal.remove-requires
remove-requires g c =
    first_within c.args.self.now c.running.result.now c.running.ensures.running c.in-Some.it.now c.in-Some.ensures.value c.requires.runs
    c.note.new.self.interpreters c.note.ensures.interpreters

pub returns-clause-cuts : goal.returns-clause-cuts
returns-clause-cuts g c =
    let notes = c.in_ok-note.ensures.notes in
    cuts_first c.args.self.now c.running.result.now c.running.ensures.running c.in-Some.it.now c.in-Some.ensures.value c.in_ok-acts.acts
    (subst (λ (t : Nodes). IsLongest t c.in-Some.it.now.acts c.in_ok-acts.acts) c.view.ensures c.in_ok-acts.ensures.longest) _
    (record { follows = notes.follows; state = notes.state; stamps = notes.stamps; place = notes.place; records = notes.records })

pub returns-clause-begun : goal.returns-clause-begun
returns-clause-begun g c = λ is. absurd cc

pub returns-clause-live : goal.returns-clause-live
returns-clause-live g c =
    live_later c.args.self.now c.running.result.now c.running.ensures.running c.in-Some.it.now c.in-Some.ensures.value c.requires.runs _
    (c.remove.ensures.items ∙ ap (λ (all : Vec (Option Interpreter) Global). remove all.items 0) c.note.ensures.interpreters) _
    c.in_ok-note.ensures.classes

pub returns-clause-tied : goal.returns-clause-tied
returns-clause-tied g c =
    record {
      synced = c.in_ok-note.ensures.synced;
      runs = tied_later c.args.self.now c.running.result.now c.running.ensures.running c.in-Some.it.now c.in-Some.ensures.value
          c.requires.runs _
          (c.remove.ensures.items ∙ ap (λ (all : Vec (Option Interpreter) Global). remove all.items 0) c.note.ensures.interpreters)
          c.in_ok-acts.acts _ (ap (λ (state : State). state.running) c.in_ok-note.ensures.notes.state);
    }

pub returns-in_err-note-clause-stopped : goal.returns-in_err-note-clause-stopped
returns-in_err-note-clause-stopped g c = λ is.
    cuts_off_first c.args.self.now c.running.result.now c.running.ensures.running c.in-Some.it.now c.in-Some.ensures.value c.in_ok-acts.acts
    (subst (λ (t : Nodes). IsLongest t c.in-Some.it.now.acts c.in_ok-acts.acts) c.view.ensures c.in_ok-acts.ensures.longest)
    (records_of c.args.self.now) (g.D.Disk.medium.may_leave (disk_of c.note.new.self))
    (c.note.ensures.stopped
    (same_fault c.note.result c.from_residual-in_err-note.result c.in_err-note.field-0.0 Stopped c.in_err-note.was
    c.from_residual-in_err-note.ensures.1 is))
