use Rattle.std.proofs.Common.{Err, sym, ap, subst}
use Rattle.iot_kept.specs.declared.kept.Kept.{Kept}
use Rattle.iot_kept.proofs.BringingLaws.{brings_spelled, follows_with, purpose_spelled}
use Rattle.iot_kept.proofs.SyncedLaws.{synced_spelled}
use Rattle.iot_kept.specs.Bringing.{base_for}
use Rattle.iot_client.specs.Calls.{EndsBy}
use Rattle.iot_client.specs.Messages.{MakesTree, made, no_tree}
use Rattle.iot_client.specs.Ties.{state_of, stamps_of}
use Rattle.iot_client.specs.declared.fault.ClientFault.{ClientFault}
use Rattle.iot_client.proofs.client.Client.bring.Goals as goal

pub returns-in-Ok-clause-ends : goal.returns-in-Ok-clause-ends
returns-in-Ok-clause-ends g c = (_, made c.args.changes c.requires.read c.in-Ok.ensures.tree)

pub returns-in-Err-Stopped-clause-ends : goal.returns-in-Err-Stopped-clause-ends
returns-in-Err-Stopped-clause-ends g c = (
  _,
  made c.args.changes c.requires.read
      (c.in-Err-Stopped.ensures.stopped (ap Err c.in-Err-Stopped.field-0-is)),
)

pub returns-in-Err-Stopped-clause-stopped : goal.returns-in-Err-Stopped-clause-stopped
returns-in-Err-Stopped-clause-stopped g c = λ is.
    let old = c.args.self.now in
    let done = c.in-Err-Stopped.ensures in
    let spelled = synced_spelled _ old.kept c.requires.synced in
    record {
      changes = c.args.changes;
      read = c.requires.read;
      spelled = c.requires.spelled;
      tree = done.stopped (ap Err c.in-Err-Stopped.field-0-is);
      cuts_off = record {
        spelled =
            brings_spelled (stamps_of old) c.args.changes spelled.held c.requires.spelled.value c.args.purpose
            (purpose_spelled c.args.purpose (state_of old) (state_of old).held spelled c.requires.follows)
            (done.stopped (ap Err c.in-Err-Stopped.field-0-is));
        follows = follows_with (state_of old) c.args.purpose _ _ c.requires.follows;
        either = done.images;
      };
    }

pub returns-in-Err-NoTree-clause-ends : goal.returns-in-Err-NoTree-clause-ends
returns-in-Err-NoTree-clause-ends g c =
    let old = c.args.self.now in
    subst
    (λ (fault : ClientFault). EndsBy {T = Unit {0}} (MakesTree (base_for c.args.purpose (stamps_of old)) c.args.reply.now) old
    (record old { kept = c.bring.new.self })
    (Err fault))
    (sym c.bad_at_its_end.ensures) (
      no_tree c.args.changes c.requires.read (c.in-Err-NoTree.ensures.no_tree (ap Err c.in-Err-NoTree.field-0-is)),
      ap (λ (kept : Kept _). record old { kept = kept }) (c.in-Err-NoTree.ensures.nothing (ap Err c.in-Err-NoTree.field-0-is)),
    )
