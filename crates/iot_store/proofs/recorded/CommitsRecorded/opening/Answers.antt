use Rattle.std.proofs.Common.{sym, subst}
use Rattle.std.proofs.lemmas.Result.{IfOk-weaker}
use Rattle.iot_store.specs.Bodies.{IsState}
use Rattle.iot_store.proofs.StatesLaws.{opening_is}
use Rattle.iot_store.proofs.recorded.CommitsRecorded.opening.Goals as goal

pub returns-clause-sound : goal.returns-clause-sound
returns-clause-sound c = IfOk-weaker c.new.result _ _ (λ commits is. subst IsState (sym is) opening_is) c.new.ensures
