use Rattle.std.proofs.Common.{arith, refl, subst, sym, Option, Err}
use Rattle.std.proofs.lemmas.Result.{on_ok_weaker}
use Rattle.iot_tree.specs.Tree.{IsTree}
use Rattle.iot_client.specs.Calls.{idle, RefusesReply}
use Rattle.iot_client.specs.Messages.{MakesTree}
use Rattle.iot_client.specs.Ties.{AreBegun, state_of, stamps_of}
use Rattle.iot_client.specs.declared.fault.ClientFault.{ClientFault}
use Rattle.iot_client.specs.declared.fault.ClientFault.TheVariants.{Idle}
use Rattle.iot_kept.specs.States.{numbered}
use Rattle.iot_client.proofs.FoundLaws.{fetch_follows, is_idle, not_idle}
use Rattle.iot_client.proofs.RepliesLaws.{only_objects, refuses_on}
use Rattle.iot_client.proofs.client.Client.fetched.Goals as goal

pub begin_again-requires-clause-follows : goal.begin_again-requires-clause-follows
begin_again-requires-clause-follows g c =
    fetch_follows c.args.self.now c.args.number c.in-Some.at c.requires.tied.runs c.in-Some.ensures (state_of c.args.self.now).held
    c.requires.alone

pub returns-in_default-clause-only : goal.returns-in_default-clause-only
returns-in_default-clause-only g c = only_objects c.args.reply.now (omega arith)

pub returns-in_default-clause-refuses : goal.returns-in_default-clause-refuses
returns-in_default-clause-refuses g c =
    subst
    (λ (refusal : Option ClientFault). RefusesReply {T = Unit {0}} refusal (MakesTree (stamps_of c.args.self.now) c.args.reply.now)
    c.args.self.now c.args.self.now (Err Idle))
    (is_idle c.args.number (state_of c.args.self.now).running c.in_default.ensures) (refl, refl)

pub returns-in_err-changes-clause-refuses : goal.returns-in_err-changes-clause-refuses
returns-in_err-changes-clause-refuses g c =
    refuses_on IsTree (stamps_of c.args.self.now) c.args.reply.now c.in_err-changes.field-0.0
    c.in_err-changes.ensures.reads c.args.self.now (idle (numbered c.args.number (state_of c.args.self.now).running))
    c.from_residual.result (sym (not_idle c.args.self.now c.args.number c.in-Some.at c.requires.tied.runs c.in-Some.ensures))
    c.from_residual.ensures.1

pub returns-clause-begun : goal.returns-clause-begun
returns-clause-begun g c =
    on_ok_weaker c.begin_again.result (λ same. subst AreBegun (sym same) c.requires.begun) c.begin_again.ensures.live

pub returns-clause-refuses : goal.returns-clause-refuses
returns-clause-refuses g c =
    subst
    (λ (refusal : Option ClientFault). RefusesReply refusal (MakesTree (stamps_of c.args.self.now) c.args.reply.now) c.args.self.now
    c.begin_again.new.self c.begin_again.result)
    (sym (not_idle c.args.self.now c.args.number c.in-Some.at c.requires.tied.runs c.in-Some.ensures)) c.begin_again.ensures.ends
