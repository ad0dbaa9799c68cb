use Rattle.iot_laptop.proofs.{CallsLaws.Called, Common.refl, Common.rules}
use Rattle.iot_laptop.proofs.CuttingLaws.{cut_by, cut_keeps, fewer_by, returns_by}
use Rattle.iot_laptop.proofs.laptop.Laptop.cut.Goals as goal

pub returns : goal.returns
returns g c =
    let is = c.cut-answer.ensures in
    let it = rw c.in-Up.is at c.requires.stands.node in
    let goes = rw c.records-count.ensures at c.goes_on.ensures.goes in
    let call : Called g.D.Disk.medium c.args.self.now c.in-Up.seated.client c.cut-answer.new.self c.cut-answer.result c.goes_on.new.self
    c.args.out.now c.goes_on.new.out c.goes_on.result = search rules in
    let cuts = cut_by call is.cuts is.stopped c.goes_on.result refl in
    let returned = returns_by call is.cuts is.stopped c.requires c.goes_on.result refl in
    let fewer = fewer_by call is.cuts is.stopped c.goes_on.result refl in
    let trails = cut_keeps call is.cuts is.stopped in
    record { cuts = cuts; returned = returned; fewer = fewer; keeps = search rules }
