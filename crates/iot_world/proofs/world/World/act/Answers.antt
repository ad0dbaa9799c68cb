use Rattle.iot_world.proofs.Common.{append-nil, commits_same, on_ok_weaker, refl, rules, says, sym}
use Rattle.iot_world.proofs.{DecidingLaws.decides_server, DeclaringLaws.declares_script, DisksLaws.armed_leaves, DisksLaws.nothing_leaves}
use Rattle.iot_world.proofs.{DisksLaws.server_keeps, DisksLaws.server_leaves, PlacesLaws.beside_places, PlacesLaws.promoted_follows}
use Rattle.iot_world.proofs.WorldsLaws.{arms_backup, at_server, both_ok, promotes, restarts}
use Rattle.iot_event.specs.declared.event.Event.TheVariants as events
use Rattle.iot_event.specs.declared.event.NodeEvent.TheVariants as nodes
use Rattle.iot_node.specs.declared.comeback.Comeback.TheVariants as comebacks
use Rattle.iot_world.proofs.world.World.act.Goals as goal

pub returns-in_ok-push-in-Script-clause-step : goal.returns-in_ok-push-in-Script-clause-step
returns-in_ok-push-in-Script-clause-step g c =
    rw c.in-Script.is (declares_script _ _ _ _ _ _ (rw c.in-Script.is at c.requires.allowed) (search rules))

pub returns-in_ok-push-in-Script-clause-disks : goal.returns-in_ok-push-in-Script-clause-disks
returns-in_ok-push-in-Script-clause-disks g c = nothing_leaves g.D.Disk.medium _ _ _ c.requires.stands refl refl refl

pub returns-in_err-share-in-Script-clause-disks : goal.returns-in_err-share-in-Script-clause-disks
returns-in_err-share-in-Script-clause-disks g c = nothing_leaves g.D.Disk.medium _ _ _ c.requires.stands refl refl refl

pub returns-in_err-push-in-Script-clause-disks : goal.returns-in_err-push-in-Script-clause-disks
returns-in_err-push-in-Script-clause-disks g c = nothing_leaves g.D.Disk.medium _ _ _ c.requires.stands refl refl refl

pub returns-in-Profile-clause-step : goal.returns-in-Profile-clause-step
returns-in-Profile-clause-step g c = rw c.in-Profile.is (says (λ m here. sym (append-nil _)))

pub returns-in-Profile-clause-disks : goal.returns-in-Profile-clause-disks
returns-in-Profile-clause-disks g c = nothing_leaves g.D.Disk.medium _ _ _ c.requires.stands refl refl refl

pub returns-in-Log-clause-disks : goal.returns-in-Log-clause-disks
returns-in-Log-clause-disks g c = nothing_leaves g.D.Disk.medium _ _ _ c.requires.stands refl refl refl

pub returns-in-Show-clause-step : goal.returns-in-Show-clause-step
returns-in-Show-clause-step g c = rw (c.in-Server.is, c.in-Show.is)
    (on_ok_weaker _ (at_server _ _ _ (λ promoted arms had. had) (events.Server nodes.Show) _ _ refl) c.show.ensures)

pub returns-in-Show-clause-disks : goal.returns-in-Show-clause-disks
returns-in-Show-clause-disks g c = nothing_leaves g.D.Disk.medium _ _ _ c.requires.stands refl refl refl

pub returns-in-Stop-clause-step : goal.returns-in-Stop-clause-step
returns-in-Stop-clause-step g c = rw (c.in-Server.is, c.in-Stop.is)
    (on_ok_weaker _ (at_server _ _ _ c.arm.ensures.beside (events.Server (nodes.Stop _ _)) _ _ refl) c.arm.ensures.step)

pub returns-in-Stop-clause-disks : goal.returns-in-Stop-clause-disks
returns-in-Stop-clause-disks g c = rw (c.in-Server.is, c.in-Stop.is)
    (armed_leaves _ _ _ c.arm.result _ _ _ _ c.requires.stands (returns-in-Stop-clause-step g c) c.arm.ensures.same)

pub returns-in-Crash-clause-step : goal.returns-in-Crash-clause-step
returns-in-Crash-clause-step g c = rw (c.in-Server.is, c.in-Crash.is)
    (on_ok_weaker _ (at_server _ _ _ c.crash.ensures.beside (events.Server nodes.Crash) _ _ refl) c.crash.ensures.step)

pub returns-in-Crash-clause-disks : goal.returns-in-Crash-clause-disks
returns-in-Crash-clause-disks g c =
    let it = c.crash.ensures in
    server_leaves g.D.Disk.medium _ _ _ (server_keeps _ _ c.requires.stands _ it.beside it.disk (commits_same _ _ _ it.same))

pub returns-in-Restart-clause-step : goal.returns-in-Restart-clause-step
returns-in-Restart-clause-step g c =
    rw (c.in-Server.is, c.in-Restart.is) (on_ok_weaker _ (restarts _ _ _ c.restart.ensures.beside _ _) c.restart.ensures.step)

pub returns-in-Restart-clause-decided : goal.returns-in-Restart-clause-decided
returns-in-Restart-clause-decided g c = rw (c.in-Server.is, c.in-Restart.is)
    (on_ok_weaker c.restart.result (decides_server g.D.Disk.medium comebacks.Restart _ _ _ _ c.requires.stands) c.restart.ensures.came)

pub returns-in-Restart-clause-disks : goal.returns-in-Restart-clause-disks
returns-in-Restart-clause-disks g c =
    let it = c.restart.ensures in
    server_leaves g.D.Disk.medium _ _ _ (server_keeps _ _ c.requires.stands _ it.beside it.disk it.records)

pub returns-in-Promote-clause-step : goal.returns-in-Promote-clause-step
returns-in-Promote-clause-step g c =
    let it = c.promote.ensures in rw c.in-Promote.is (promotes _ _ _ c.promote.result _ _ it.up it.nothing it.stays it.step)

pub returns-in-Promote-clause-decided : goal.returns-in-Promote-clause-decided
returns-in-Promote-clause-decided g c = rw c.in-Promote.is
    (on_ok_weaker c.promote.result (λ came own. decides_server g.D.Disk.medium comebacks.Promote _ _ _ _ c.requires.stands (came own))
    c.promote.ensures.came)

pub returns-in-Promote-clause-disks : goal.returns-in-Promote-clause-disks
returns-in-Promote-clause-disks g c =
    let it = c.promote.ensures in
    rw c.in-Promote.is
    (server_leaves g.D.Disk.medium _ _ _ (record {
      follows = promoted_follows g.D.Disk.medium _ _ _ _ c.requires.stands.stands.stands.beside it.stays it.turns;
      commits = it.records;
      stays = λ no. absurd cc;
    }))

pub arm_backup-requires : goal.arm_backup-requires
arm_backup-requires g c = beside_places g.D.Disk.medium _ _ _ c.requires.stands.stands.stands.beside

pub returns-in-StopBackup-clause-step : goal.returns-in-StopBackup-clause-step
returns-in-StopBackup-clause-step g c = rw c.in-StopBackup.is
    (both_ok c.arm_backup.result c.arm_backup.ensures.said c.arm_backup.ensures.step
    (arms_backup g.D.Disk.medium _ _ c.in-StopBackup.calls c.in-StopBackup.pick _ _))

pub returns-in-StopBackup-clause-disks : goal.returns-in-StopBackup-clause-disks
returns-in-StopBackup-clause-disks g c =
    rw c.in-StopBackup.is (armed_leaves _ _ _ _ _ _ _ _ c.requires.stands (returns-in-StopBackup-clause-step g c) c.arm_backup.ensures.same)
