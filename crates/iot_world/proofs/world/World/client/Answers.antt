use Rattle.iot_world.proofs.ListLaws.{looked_up}
use Rattle.iot_world.proofs.LookingLaws.{lends_any, lends_disk, lends_none, lends_ready}
use Rattle.iot_world.proofs.world.World.client.Goals as goal

pub returns : goal.returns
returns g c =
    let get = looked_up _ _ _ _ c.deref.ensures.value c.in_ok-get.ensures.lookup.3.0 c.in_ok-get.ensures.lookup.1 in
    let lent = lends_any g.D.Disk.medium c.args.self.now c.args.place c.in_ok-get.field-0.now get _ c.lent.ensures.lent in
    record {
      lent = lent;
      ready = lends_ready g.D.Disk.medium c.args.self.now c.args.place _ lent;
      disk = lends_disk g.D.Disk.medium c.args.self.now c.args.place c.in_ok-get.field-0.now get _ c.lent.ensures.lent;
    }

pub returns-in_err-get-clause-lent : goal.returns-in_err-get-clause-lent
returns-in_err-get-clause-lent g c =
    rw c.from_residual.ensures (lends_none _ c.args.self.now c.args.place (rw c.deref.ensures.value at c.in_err-get.ensures.lookup.3))
