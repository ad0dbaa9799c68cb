use Rattle.std.proofs.Common.{◌≡◌}
use Rattle.iot_disk.specs.Disk.{SameImages}
use Rattle.iot_durable.specs.Causes.{HasCause, TakesBytes}
use Rattle.iot_durable.specs.Standing.{EachOpens, IsFresh, StandWith}
use Rattle.iot_kept.specs.Kept as kept
use Rattle.iot_kept.specs.Rules.{rules}
use Rattle.iot_kept.specs.Spelled.{IsSpelledState}
use Rattle.iot_kept.specs.Standing.{EachStands, records_in}
use Rattle.iot_kept.specs.States.{AllHold, AreGuarded}
use Rattle.iot_records.specs.Records.{ChangesNothing}
use Rattle.iot_stamp.specs.Stamps.{unstamped}
use Rattle.iot_client.proofs.SeatedLaws.{kept_so, disk_so, back_so}
use Rattle.iot_client.proofs.client.Client.start.Goals as goal

pub returns-in-Ok-clause-stands : goal.returns-in-Ok-clause-stands
returns-in-Ok-clause-stands g c =
    kept_so (λ it. StandWith rules (g.D.Disk.medium.reads c.args.disk) (kept.records_of it) (kept.state_of it)) c.in-Ok.kept c.seated.result
    c.seated.ensures.made c.in-Ok.ensures.stands

pub returns-in-Ok-clause-only : goal.returns-in-Ok-clause-only
returns-in-Ok-clause-only g c = λ state stand.
    kept_so (λ it. kept.state_of it ≡ state) c.in-Ok.kept c.seated.result c.seated.ensures.made (c.in-Ok.ensures.only state stand)

pub returns-in-Ok-clause-stamps : goal.returns-in-Ok-clause-stamps
returns-in-Ok-clause-stamps g c =
    kept_so (λ it. kept.stamps_of it ≡ unstamped (kept.state_of it).held) c.in-Ok.kept c.seated.result c.seated.ensures.made
    c.in-Ok.ensures.stamps

pub returns-in-Ok-clause-hold : goal.returns-in-Ok-clause-hold
returns-in-Ok-clause-hold g c =
    kept_so (λ it. AllHold (kept.state_of it)) c.in-Ok.kept c.seated.result c.seated.ensures.made c.in-Ok.ensures.hold

pub returns-in-Ok-clause-guarded : goal.returns-in-Ok-clause-guarded
returns-in-Ok-clause-guarded g c =
    kept_so (λ it. AreGuarded (kept.state_of it)) c.in-Ok.kept c.seated.result c.seated.ensures.made c.in-Ok.ensures.guarded

pub returns-in-Ok-clause-spelled : goal.returns-in-Ok-clause-spelled
returns-in-Ok-clause-spelled g c =
    kept_so (λ it. IsSpelledState (kept.state_of it)) c.in-Ok.kept c.seated.result c.seated.ensures.made c.in-Ok.ensures.spelled

pub returns-in-Ok-clause-images : goal.returns-in-Ok-clause-images
returns-in-Ok-clause-images g c = λ state stand.
    disk_so (λ disk. EachStands (g.D.Disk.medium.may_leave disk) (records_in (g.D.Disk.medium.reads c.args.disk)) state) c.in-Ok.kept
    c.seated.result c.seated.ensures.made c.seated.ensures.back (c.in-Ok.ensures.images state stand)

pub returns-in-Ok-clause-never : goal.returns-in-Ok-clause-never
returns-in-Ok-clause-never g c = λ state stand.
    back_so (λ fault disk. TakesBytes fault) c.in-Ok.kept c.seated.result c.seated.ensures.back tt

pub returns-in-Ok-clause-steady : goal.returns-in-Ok-clause-steady
returns-in-Ok-clause-steady g c =
    kept_so (λ it. g.D.Disk.medium.faults (kept.disk_of it) ≡ g.D.Disk.medium.faults c.args.disk) c.in-Ok.kept c.seated.result
    c.seated.ensures.made c.in-Ok.ensures.steady

pub returns-in-Ok-clause-cause : goal.returns-in-Ok-clause-cause
returns-in-Ok-clause-cause g c =
    back_so
    (λ fault disk. HasCause rules fault (g.D.Disk.medium.reads c.args.disk) (g.D.Disk.medium.faults c.args.disk)
    (g.D.Disk.medium.faults disk)) c.in-Ok.kept c.seated.result c.seated.ensures.back c.in-Ok.ensures.steady

pub returns-in-Ok-clause-foreign : goal.returns-in-Ok-clause-foreign
returns-in-Ok-clause-foreign g c = λ is. absurd (c.in-Ok.ensures.foreign is)

pub returns-in-Ok-clause-damaged : goal.returns-in-Ok-clause-damaged
returns-in-Ok-clause-damaged g c = λ at is. absurd (c.in-Ok.ensures.damaged at is)

pub returns-in-Ok-clause-refused_reads : goal.returns-in-Ok-clause-refused_reads
returns-in-Ok-clause-refused_reads g c =
    back_so (λ fault disk. ChangesNothing fault (g.D.Disk.medium.reads disk ≡ g.D.Disk.medium.reads c.args.disk)) c.in-Ok.kept
    c.seated.result c.seated.ensures.back tt

pub returns-in-Ok-clause-refused_images : goal.returns-in-Ok-clause-refused_images
returns-in-Ok-clause-refused_images g c =
    back_so
    (λ fault disk. ChangesNothing fault (SameImages (g.D.Disk.medium.may_leave c.args.disk) (g.D.Disk.medium.may_leave disk)))
    c.in-Ok.kept c.seated.result c.seated.ensures.back tt

pub returns-in-Ok-clause-only_read : goal.returns-in-Ok-clause-only_read
returns-in-Ok-clause-only_read g c = λ started.
    disk_so (λ disk. g.D.Disk.medium.reads disk ≡ g.D.Disk.medium.reads c.args.disk) c.in-Ok.kept c.seated.result c.seated.ensures.made
    c.seated.ensures.back (c.in-Ok.ensures.only_read started)

pub returns-in-Ok-clause-only_read_images : goal.returns-in-Ok-clause-only_read_images
returns-in-Ok-clause-only_read_images g c = λ started.
    disk_so (λ disk. SameImages (g.D.Disk.medium.may_leave c.args.disk) (g.D.Disk.medium.may_leave disk)) c.in-Ok.kept c.seated.result
    c.seated.ensures.made c.seated.ensures.back (c.in-Ok.ensures.only_read_images started)

pub returns-in-Ok-clause-opens : goal.returns-in-Ok-clause-opens
returns-in-Ok-clause-opens g c = λ none.
    disk_so (λ disk. EachOpens rules (g.D.Disk.medium.may_leave disk)) c.in-Ok.kept c.seated.result c.seated.ensures.made
    c.seated.ensures.back (c.in-Ok.ensures.opens none)

pub returns-in-Ok-clause-fresh : goal.returns-in-Ok-clause-fresh
returns-in-Ok-clause-fresh g c = λ none.
    kept_so (λ it. IsFresh rules (g.D.Disk.medium.reads c.args.disk) (g.D.Disk.medium.reads (kept.disk_of it))) c.in-Ok.kept
    c.seated.result c.seated.ensures.made (c.in-Ok.ensures.fresh none)

pub returns-in-Ok-clause-arms : goal.returns-in-Ok-clause-arms
returns-in-Ok-clause-arms g c =
    disk_so (λ disk. g.D.Disk.medium.arms disk ≡ g.D.Disk.medium.arms c.args.disk) c.in-Ok.kept c.seated.result c.seated.ensures.made
    c.seated.ensures.back c.in-Ok.ensures.arms
