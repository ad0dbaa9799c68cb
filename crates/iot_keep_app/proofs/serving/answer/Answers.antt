use Rattle.std.proofs.Common.{[], inl, inr, refl, sym, ap, subst}
use Rattle.std.specs.Prelude.{Err}
use Rattle.std.specs.Io.KnownBytes.{Appends}
use Rattle.std.proofs.KnownBytes.{Appends-nil}
use Rattle.iot_server.specs.Faults.{IsNotMalformed}
use Rattle.iot_server.specs.Servers.{disk_of, second_of, state_of}
use Rattle.iot_server.specs.declared.fault.ServerFault.TheVariants.{Malformed, NoMemory, Stopped}
use Rattle.iot_store.proofs.PartsLaws.{changes_none}
use Rattle.iot_keep_app.proofs.DisksLaws.{counts_as, in_doubt, written_steady}
use Rattle.iot_keep_app.specs.Frames.{frame}
use Rattle.iot_keep_app.specs.Serving.{EachKeeps, kept_on}
use Rattle.iot_keep_app.proofs.ServingLaws.{reply_ends}
use Rattle.iot_keep_app.proofs.serving.answer.Goals as goal

pub returns-in-Ok-clause-ends : goal.returns-in-Ok-clause-ends
returns-in-Ok-clause-ends g c =
    let medium = g.D.Disk.medium in
    let sink = g.K.Sink in
    reply_ends _ (Appends (sink.written c.args.sink.now) (sink.written c.write_frame.new.sink))
    (medium.may_leave (disk_of c.handle.new.self))
    (kept_on medium c.args.server.now) (kept_on medium c.handle.new.self) c.args.request.now c.in-Ok.reply.items c.deref.result.now
    c.deref.ensures.value (inl c.in-Ok.ensures.replies) (record { count = _; stands = c.in-Ok.ensures.images }) c.write_frame.result
    c.write_frame.ensures.wrote

pub returns-in-Err-Malformed-clause-ends : goal.returns-in-Err-Malformed-clause-ends
returns-in-Err-Malformed-clause-ends g c =
    let medium = g.D.Disk.medium in
    let sink = g.K.Sink in
    let refused = c.in-Err-Malformed in
    let same = refused.ensures.malformed refused.field-0-0 (ap (λ f. Err f) refused.field-0-is) in
    reply_ends _ (Appends (sink.written c.args.sink.now) (sink.written c.write_frame-in-Err-Malformed.new.sink))
    (medium.may_leave (disk_of c.handle.new.self)) (kept_on medium c.args.server.now) (kept_on medium c.handle.new.self)
    c.args.request.now [] [] refl
    (inr (record {
      no_request = record { none = λ it is. subst (λ f. IsNotMalformed f) refused.field-0-is (refused.ensures.never it is) };
      empty = refl;
      same = ap (λ s. kept_on medium s) same;
    }))
    (subst (λ s. EachKeeps (medium.may_leave (disk_of s)) (state_of s)) (sym same) c.requires.keeps)
    c.write_frame-in-Err-Malformed.result c.write_frame-in-Err-Malformed.ensures.wrote

pub returns-in-Err-NoMemory-clause-ends : goal.returns-in-Err-NoMemory-clause-ends
returns-in-Err-NoMemory-clause-ends g c =
    let refused = c.in-Err-NoMemory in
    let lacks = refused.ensures.no_memory (ap (λ f. Err f) refused.field-0-is) in (
      Appends-nil (g.K.Sink.written c.args.sink.now),
      record { count = _; stands = (lacks.alone c.requires.alone).stands },
    )

pub returns-in-Err-Stopped-clause-ends : goal.returns-in-Err-Stopped-clause-ends
returns-in-Err-Stopped-clause-ends g c =
    let refused = c.in-Err-Stopped in (
      Appends-nil (g.K.Sink.written c.args.sink.now),
      in_doubt g.D.Disk.medium c.args.server.now c.handle.new.self c.args.request.now
          (refused.ensures.stopped (ap (λ f. Err f) refused.field-0-is)),
    )

-- ---- it has one disk still

pub returns-in-Ok-clause-alone : goal.returns-in-Ok-clause-alone
returns-in-Ok-clause-alone g c =
    changes_none _ (second_of c.args.server.now) (second_of c.handle.new.self) c.handle.ensures.second_arms c.requires.alone

pub returns-in-Err-Malformed-clause-alone : goal.returns-in-Err-Malformed-clause-alone
returns-in-Err-Malformed-clause-alone g c =
    changes_none _ (second_of c.args.server.now) (second_of c.handle.new.self) c.handle.ensures.second_arms c.requires.alone

pub returns-in-Err-NoMemory-clause-alone : goal.returns-in-Err-NoMemory-clause-alone
returns-in-Err-NoMemory-clause-alone g c =
    changes_none _ (second_of c.args.server.now) (second_of c.handle.new.self) c.handle.ensures.second_arms c.requires.alone

pub returns-in-Err-Stopped-clause-alone : goal.returns-in-Err-Stopped-clause-alone
returns-in-Err-Stopped-clause-alone g c =
    changes_none _ (second_of c.args.server.now) (second_of c.handle.new.self) c.handle.ensures.second_arms c.requires.alone

-- ---- its count of faults

pub returns-in-Ok-clause-disk_faults : goal.returns-in-Ok-clause-disk_faults
returns-in-Ok-clause-disk_faults g c =
    let sink = g.K.Sink in
    written_steady (Appends (sink.written c.args.sink.now) (sink.written c.write_frame.new.sink)) (frame c.deref.result.now)
    c.write_frame.result _ _ c.write_frame.ensures.wrote c.in-Ok.ensures.faults.0

pub returns-in-Err-Malformed-clause-disk_faults : goal.returns-in-Err-Malformed-clause-disk_faults
returns-in-Err-Malformed-clause-disk_faults g c =
    let refused = c.in-Err-Malformed in
    let sink = g.K.Sink in
    written_steady (Appends (sink.written c.args.sink.now) (sink.written c.write_frame-in-Err-Malformed.new.sink)) (frame [])
    c.write_frame-in-Err-Malformed.result _ _ c.write_frame-in-Err-Malformed.ensures.wrote
    (counts_as g.D.Disk.medium c.args.server.now c.handle.new.self _ (Malformed refused.field-0-0) refused.field-0-is c.requires.alone
    refused.ensures.faults)

pub returns-in-Err-NoMemory-clause-disk_faults : goal.returns-in-Err-NoMemory-clause-disk_faults
returns-in-Err-NoMemory-clause-disk_faults g c =
    let refused = c.in-Err-NoMemory in
    counts_as g.D.Disk.medium c.args.server.now c.handle.new.self _ NoMemory refused.field-0-is c.requires.alone refused.ensures.faults

pub returns-in-Err-Stopped-clause-disk_faults : goal.returns-in-Err-Stopped-clause-disk_faults
returns-in-Err-Stopped-clause-disk_faults g c =
    let refused = c.in-Err-Stopped in
    counts_as g.D.Disk.medium c.args.server.now c.handle.new.self _ Stopped refused.field-0-is c.requires.alone refused.ensures.faults
