-- A run is told by its access.
use Rattle.std.proofs.Common.{refl, sym, ap, ◌∙◌}
use Rattle.iot_access.specs.Access.{TakesPlace, access_of, lines_of}
use Rattle.iot_acts.specs.Traces.{ActsHold}
use Rattle.iot_exec.specs.Runs.{run}
use Rattle.iot_exec.specs.Traces.{IsAlike}
use Rattle.iot_exec.specs.declared.ran.Ran.{Ran}
use Rattle.iot_exec.proofs.RunLaws.{alike_is}
use Rattle.iot_judging.specs.Told.{ARunIsToldByItsAccess}
use Rattle.iot_judging.proofs.JudgingLaws.{takes_place_of}

pub is_told : ARunIsToldByItsAccess
is_told code kept budget t u here there whole =
    let ran : Ran = run code kept t budget in
    let takes : TakesPlace (access_of ran.acts t).reads (access_of ran.acts t).places (access_of ran.acts t).updates ran.acts u =
    takes_place_of code kept budget t u ran.acts refl here u there whole in
    let alike : IsAlike ran (run code kept u budget) u = alike_is code kept t u budget ran refl there in
    record {
      reads = ((λ hold. alike.exactly.0 (takes.exactly.0 hold)), (λ same. takes.exactly.1 (alike.exactly.1 same)));
      tree = λ hold.
          let acts : ActsHold u ran.acts = takes.exactly.0 hold in
          takes.after acts ∙ sym (ap (λ (ran : Ran). ran.tree) (alike.alike acts));
      lines = λ hold. ap (λ (ran : Ran). lines_of ran.acts) (alike.alike (takes.exactly.0 hold));
    }
