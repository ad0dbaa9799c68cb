use Rattle.iot_world.proofs.Common.{refl, []}
use Rattle.iot_world.proofs.DeclaringLaws.{gives_back, opens, opens_has, opens_unarmed}
use Rattle.iot_world.proofs.world.World.new.Goals as goal

pub returns-in-Ok-clause-opens : goal.returns-in-Ok-clause-opens
returns-in-Ok-clause-opens g c =
    opens g.D.Disk.medium _ _ _ _ c.take_ends-first.ensures.items c.requires _ _ _ _ _ c.new.ensures.items c.new-2.ensures.items refl
    (c.unopened.ensures.stands [] 0) c.unopened.ensures.beside c.open.ensures.beside _ _ _ (c.in-Ok.ensures.step [] 0)
    c.take_ends-first.ensures.room

pub returns-in-Ok-clause-stands : goal.returns-in-Ok-clause-stands
returns-in-Ok-clause-stands g c =
    let made = returns-in-Ok-clause-opens g c in
    record { machine = made.machine; stands = made.stands }

pub returns-in-Ok-clause-has : goal.returns-in-Ok-clause-has
returns-in-Ok-clause-has g c = (returns-in-Ok-clause-opens g c).has

pub returns-in-Ok-clause-arms : goal.returns-in-Ok-clause-arms
returns-in-Ok-clause-arms g c =
    opens_unarmed g.D.Disk.medium _ _ _ _ c.take_ends-first.ensures.items c.requires _ _ c.new.result c.new-2.result
    c.take_ends-first.new.disks c.new.ensures.items c.new-2.ensures.items refl (c.unopened.ensures.stands [] 0)
    c.unopened.ensures.beside c.open.ensures.beside c.unopened.ensures.disk c.open.ensures.disk

pub into_disks-requires : goal.into_disks-requires
into_disks-requires g c =
    opens_has g.D.Disk.medium _ _ _ _ c.take_ends-first.ensures.items c.requires _ _ _ _ _ c.new.ensures.items c.new-2.ensures.items refl
    (c.unopened.ensures.stands [] 0) c.unopened.ensures.beside c.open.ensures.beside c.take_ends-first.ensures.room

pub returns-in-Err-clause-refused : goal.returns-in-Err-clause-refused
returns-in-Err-clause-refused g c = rw c.into_disks.ensures
    (gives_back g.D.Disk.medium _ _ _ _ c.take_ends-first.ensures.items c.requires _ _ c.new.result c.new-2.result
    c.take_ends-first.new.disks c.new.ensures.items c.new-2.ensures.items refl (c.unopened.ensures.stands [] 0)
    c.unopened.ensures.beside c.open.ensures.beside c.unopened.ensures.disk c.open.ensures.disk
    g.met.D.Disk.reads_is_image c.open.ensures.records)
