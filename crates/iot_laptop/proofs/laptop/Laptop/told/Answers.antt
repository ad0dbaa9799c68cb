use Rattle.iot_laptop.proofs.{Common.refl, Common.state_in, Common.sym, FindingLaws.first_of}
use Rattle.iot_laptop.proofs.laptop.Laptop.told.Goals as goal

pub returns : goal.returns
returns g c =
    let first = first_of (state_in c.args.self.now).items c.in-Some.item.now (cc) in
    record {
      verdict = λ told spells. c.in_ok-verdict_in.ensures told (rw (first, sym c.submitted.ensures) at spells);
      option = rw first refl;
    }
