use Rattle.std.proofs.Common.{◌≡◌, List, map, sym, subst}
use Rattle.std.specs.Prelude.{IfOk}
use Rattle.std.proofs.lemmas.Result.{IfOk-weaker}
use Rattle.iot_world.specs.Disks.{counts_on}
use Rattle.iot_app.specs.Keeping.{DisksKeepAt}
use Rattle.iot_app.specs.Played.{Reported}
use Rattle.iot_app.specs.Running.{tells}
use Rattle.iot_app.proofs.PlayedLaws.{opened_on, disks_keep_at, disks_stay, did_as, none_did}
use Rattle.iot_app.proofs.RunningLaws.{told_as, failed_as}
use Rattle.iot_app.proofs.running.run_events.Goals as goal

pub into_disks-requires : goal.into_disks-requires
into_disks-requires g c = c.run_in-told.ensures.disks.has c.in-Ok.ensures.opens.has

pub run_in-told-requires-clause-opened : goal.run_in-told-requires-clause-opened
run_in-told-requires-clause-opened g c =
    let it = g.D.Disk.medium in
    let counts = map (counts_on it) c.args.disks.items in
    record {
      handed = counts;
      is = opened_on it c.args.disks.items c.new-opening.result c.new.new.out c.in-Ok.world c.new-opening.ensures c.in-Ok.ensures.opens;
    }

pub returns-in-Ok-clause-told : goal.returns-in-Ok-clause-told
returns-in-Ok-clause-told g c =
    let it = g.D.Disk.medium in
    let counts = map (counts_on it) c.args.disks.items in
    subst
    (λ (back : List g.row.D.Denot). IfOk c.run_in-told.result (λ text. Reported counts (λ told. text ≡ told)
    (DisksKeepAt it c.args.disks.items back c.server_place-place.result) (tells c.args.job) c.args.events.now))
    (sym c.into_disks.ensures)
    (told_as counts c.run_in-told.result (tells c.args.job) _ _ c.args.events.now
    (disks_keep_at it c.args.disks.items _ _ _ _ c.in-Ok.ensures.opens c.run_in-told.ensures.disks g.met.D.Disk.reads_is_image
    c.server_place-place.result c.server_place-place.ensures)
    (IfOk-weaker c.run_in-told.result _ _
    (λ text told. told counts
    (opened_on it c.args.disks.items c.new-opening.result c.new.new.out c.in-Ok.world c.new-opening.ensures c.in-Ok.ensures.opens))
    c.run_in-told.ensures.told))

pub returns-in-Ok-clause-failed : goal.returns-in-Ok-clause-failed
returns-in-Ok-clause-failed g c =
    let it = g.D.Disk.medium in
    let counts = map (counts_on it) c.args.disks.items in
    rw c.into_disks.ensures
    (failed_as c.run_in-told.result _ _
    (λ failed.
    did_as counts _ _ c.args.events.now
    (disks_stay it c.args.disks.items _ _ _ _ c.in-Ok.ensures.opens c.run_in-told.ensures.disks)
    (failed counts
    (opened_on it c.args.disks.items c.new-opening.result c.new.new.out c.in-Ok.world c.new-opening.ensures c.in-Ok.ensures.opens)))
    c.run_in-told.ensures.failed)

pub returns-in-Err-clause-failed : goal.returns-in-Err-clause-failed
returns-in-Err-clause-failed g c =
    let it = g.D.Disk.medium in
    none_did it c.args.disks.items c.in-Err.disks.items c.args.events.now c.requires.fresh c.in-Err.ensures.refused
