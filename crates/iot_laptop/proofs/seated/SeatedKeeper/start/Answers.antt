use Rattle.iot_laptop.proofs.SeatsLaws.{seat_comes, seat_fails, seat_fresh}
use Rattle.iot_laptop.proofs.seated.SeatedKeeper.start.Goals as goal

pub returns-in-Ok-clause-comes : goal.returns-in-Ok-clause-comes
returns-in-Ok-clause-comes g c =
    seat_comes g.D.Disk.medium c.args.disk c.args.place c.in-Ok.client c.in-Ok.ensures.only c.in-Ok.ensures.stands c.in-Ok.ensures.tied
    c.in-Ok.ensures.place c.in-Ok.ensures.images c.in-Ok.ensures.steady c.in-Ok.ensures.arms

pub returns-in-Err-clause-fails : goal.returns-in-Err-clause-fails
returns-in-Err-clause-fails g c =
    let is = c.in-Err.ensures in
    seat_fails g.D.Disk.medium c.args.disk c.args.place c.in-Err.refused.1 c.in-Err.refused.0 c.requires.can is.never is.cause is.images
    is.arms

pub returns-in-Ok-clause-live : goal.returns-in-Ok-clause-live
returns-in-Ok-clause-live g c = seat_fresh g.D.Disk.medium c.args.disk c.in-Ok.client c.in-Ok.ensures.live c.in-Ok.ensures.stamps
