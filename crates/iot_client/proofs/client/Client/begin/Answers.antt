use Rattle.std.proofs.Common.{Some, refl, sym, subst}
use Rattle.std.proofs.lemmas.Result.{on_ok_weaker}
use Rattle.iot_client.specs.Ties.{AreBegun, live_of}
use Rattle.iot_client.proofs.LivesLaws.{begun_more}
use Rattle.iot_client.proofs.client.Client.begin.Goals as goal

pub returns-in-None-clause-begun : goal.returns-in-None-clause-begun
returns-in-None-clause-begun g c = λ begun.
    on_ok_weaker c.run.result
    (λ made.
    subst AreBegun (sym made)
    (begun_more (live_of c.args.self.now) (record { first = c.args.first; code = Some c.args.script.value }) refl begun)) c.run.ensures.live
