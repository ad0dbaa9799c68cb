use Rattle.std.proofs.Common.{◌≡◌, sym, subst, Result, Ok, Err, IfOk}
use Rattle.iot_tree.specs.Tree.{Nodes}
use Rattle.iot_stamp.specs.Agreement.{Agrees, IsPositive}
use Rattle.iot_stamp.specs.Stamps.{Stamps, with_stamps}
use Rattle.iot_stamp.proofs.AgreementLaws.{agrees_zero}
use Rattle.iot_stamp.proofs.stamped.Stamped.unstamped.Goals as goal

agrees : {E : Type 0} (tree : Nodes) (r : Result Stamps E) → IfOk r (λ t. t ≡ with_stamps (λ k. 0) tree)
    → IfOk r (λ t. (s : Stamps) → IsPositive s → Agrees t s)
agrees tree (Ok t) is = λ s positive. subst (λ (m : Stamps). Agrees m s) (sym is) (agrees_zero tree s positive)
agrees tree (Err e) is = is

pub returns-clause-agrees : goal.returns-clause-agrees
returns-clause-agrees c = agrees c.args.tree c.with_stamp.result c.with_stamp.ensures
