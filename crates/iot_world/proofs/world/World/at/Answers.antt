use Rattle.{iot_server_node.proofs.BeginningLaws.commits_kept, iot_world.proofs.Common.false}
use Rattle.iot_world.proofs.{Common.on_ok_weaker, Common.refl, DisksLaws.client_leaves, DisksLaws.server_keeps, DisksLaws.server_same}
use Rattle.iot_world.proofs.WorldsLaws.{at_client, at_task, both_ok, link_keeps, node_keeps}
use Rattle.iot_world.proofs.world.World.at.Goals as goal

pub returns-in-Node-clause-step : goal.returns-in-Node-clause-step
returns-in-Node-clause-step g c = rw c.in-Node.is
    (both_ok c.befall.result c.befall.ensures.trails c.befall.ensures.step (at_client _ _ _ _ _ _ _ _ (node_keeps c.in-Node.event)
    c.requires.inside c.index_mut-laptop.ensures.value refl c.befall.ensures.place))

pub returns-in-Node-clause-disks : goal.returns-in-Node-clause-disks
returns-in-Node-clause-disks g c = rw c.in-Node.is
    (client_leaves g.D.Disk.medium _ _ _ c.args.client _ _ c.requires.inside c.index_mut-laptop.ensures.value refl
    (server_same _ _ c.requires.stands) _ c.befall.result c.befall.ensures.disk)

pub returns-in-Link-clause-step : goal.returns-in-Link-clause-step
returns-in-Link-clause-step g c = rw c.in-Link.is
    (on_ok_weaker _ (at_client _ _ _ _ _ _ _ _ (link_keeps c.in-Link.event) c.requires.inside
    c.index_mut-laptop.ensures.value refl c.relink.ensures.place c.relink.ensures.trails)
    c.relink.ensures.step)

pub returns-in-Link-clause-disks : goal.returns-in-Link-clause-disks
returns-in-Link-clause-disks g c = rw c.in-Link.is
    (client_leaves g.D.Disk.medium _ _ _ c.args.client _ _ c.requires.inside c.index_mut-laptop.ensures.value refl
    (server_same _ _ c.requires.stands) false c.relink.result c.relink.ensures.disk)

pub returns-in-Task-clause-step : goal.returns-in-Task-clause-step
returns-in-Task-clause-step g c = rw c.in-Task.is
    (on_ok_weaker _ (at_task _ _ _ _ c.perform.ensures.disks.beside _ _ _ c.requires.inside
    c.index_mut-laptop.ensures.value refl _ _ _ _ c.as_slice.ensures.value) c.perform.ensures.step)

pub returns-in-Task-clause-disks : goal.returns-in-Task-clause-disks
returns-in-Task-clause-disks g c =
    let kept = c.perform.ensures.disks in
    rw c.in-Task.is
    (client_leaves g.D.Disk.medium _ _ _ c.args.client _ _ c.requires.inside c.index_mut-laptop.ensures.value refl
    (server_keeps _ _ c.requires.stands _ kept.beside kept.server (commits_kept _ _ _ kept.records)) false c.perform.result kept.client)
