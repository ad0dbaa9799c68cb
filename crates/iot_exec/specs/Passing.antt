-- What passing over a block does.
use Rattle.std.specs.Prelude.{◌≡◌, ◌<◌, Bool, true, false, ◌∷◌}
use Rattle.iot_lang.specs.Code.{Code, End}
use Rattle.iot_exec.specs.Places.{Rest, Over, reached}
use Rattle.iot_exec.specs.Positions.{here, around, weight}
use Rattle.iot_exec.specs.declared.env.Env.{Env}
use Rattle.iot_exec.specs.declared.position.Position.{Position}

-- the script goes on from the new position as it did after the block
pub record Passed (script : Code) (old : Position) (before : Env) (new : Position) (after : Env) : Type 0 where
  pub reaches : reached (Rest (here script new) ∷ around script new) after ≡ reached (around script old) before
  pub less : weight new < weight old

-- nothing is left
pub record Finished (script : Code) (old : Position) (before : Env) (new : Position) (after : Env) : Type 0 where
  pub over : reached (around script old) before ≡ Over
  pub ends : here script new ≡ End

abbrev pub GoesOn : Bool → Code → Position → Env → Position → Env → Type 0
GoesOn true script old before new after = Passed script old before new after
GoesOn false script old before new after = Finished script old before new after
