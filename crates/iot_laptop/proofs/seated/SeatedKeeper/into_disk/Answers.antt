use Rattle.iot_laptop.proofs.SeatsLaws.{seat_images}
use Rattle.iot_laptop.proofs.seated.SeatedKeeper.into_disk.Goals as goal

pub returns-clause-images : goal.returns-clause-images
returns-clause-images g c = λ place n s here.
    let medium = g.D.Disk.medium in
    rw c.into_disk.ensures.disk (seat_images medium place n c.args.self s here)
