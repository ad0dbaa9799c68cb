use Rattle.std.proofs.Common.{ℕ, List, refl, sym, subst}
use Rattle.iot_slots.specs.Slots.{disk_of}
use Rattle.iot_backup.specs.Start.{MayBeBehind}
use Rattle.iot_backup.specs.Twin.{first_of}
use Rattle.iot_backup.proofs.StartLaws.{changes_matched, is_started, looked_again, no_change}
use Rattle.iot_backup.proofs.twin.Twin.start.Goals as goal

pub start_looked-requires-clause-behind : goal.start_looked-requires-clause-behind
start_looked-requires-clause-behind g c =
    subst (λ (bytes : List ℕ). MayBeBehind c.args.header c.args.body.now bytes (g.D.Disk.medium.reads c.args.second))
    (sym c.in-Ok.ensures.reads) c.requires.behind

pub returns-in-Ok-clause-second_images : goal.returns-in-Ok-clause-second_images
returns-in-Ok-clause-second_images g c = rw (sym c.in-Ok.ensures.reads) c.start_looked.ensures.second_images

pub returns-in-Ok-clause-only_read_images : goal.returns-in-Ok-clause-only_read_images
returns-in-Ok-clause-only_read_images g c started =
    changes_matched _ _ (λ made. g.D.Disk.medium.may_leave (disk_of (first_of made.0))) (λ refused. g.D.Disk.medium.may_leave refused.0)
    c.start_looked.result c.in-Ok.ensures.images
    (c.start_looked.ensures.only_read_images (is_started _ _ _ _ refl c.in-Ok.ensures.reads started))

pub returns-in-Err-clause-again : goal.returns-in-Err-clause-again
returns-in-Err-clause-again g c =
    looked_again c.args.header c.args.body.now _ _ _ _ _ _ c.requires.behind c.requires.first c.in-Err.ensures.images c.requires.second
    (no_change (g.D.Disk.medium.may_leave c.args.second))
