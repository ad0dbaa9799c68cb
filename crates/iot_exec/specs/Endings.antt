-- What a command's end does: its update, its lines, and what the script goes on with.
use Rattle.std.specs.Prelude.{ℕ, true, false, List, [], ◌∷◌, ◌++◌, Some, None, Result, Ok, Err, codes}
use Rattle.iot_text.specs.Paths.{path_text}
use Rattle.iot_exec.specs.Plans.{Effect}
use Rattle.iot_exec.specs.Values.{with_ok, with_variable}
use Rattle.iot_exec.specs.declared.env.Env.{Env}
use Rattle.iot_exec.specs.declared.endings.Success.{Success}
use Rattle.iot_exec.specs.declared.endings.Success.TheVariants.{Makes, Prints, Sets}
use Rattle.iot_exec.specs.declared.endings.Refusal.{Refusal}
use Rattle.iot_exec.specs.declared.endings.Refusal.TheVariants.{TooLarge, BadPath, At}
use Rattle.iot_exec.specs.declared.endings.Reason.{Reason}
use Rattle.iot_exec.specs.declared.endings.Reason.TheVariants as reasons

-- what is printed for a reason
abbrev pub reason_text : Reason → List ℕ
reason_text reasons.NotCached = codes "not cached"
reason_text reasons.Exists = codes "exists"
reason_text reasons.NoFile = codes "no file"
reason_text reasons.NoDirectory = codes "no directory"
reason_text reasons.NoSuchPath = codes "no such path"
reason_text reasons.IsDirectory = codes "is a directory"
reason_text reasons.IsNoDirectory = codes "not a directory"
reason_text reasons.IsRoot = codes "is the root"
reason_text reasons.NotEmpty = codes "not empty"
reason_text reasons.IntoItself = codes "into itself"
reason_text reasons.TooLarge = codes "too large"
reason_text reasons.NothingKept = codes "nothing kept"

-- what is printed after the command's name
abbrev pub refusal_text : Refusal → List ℕ
refusal_text TooLarge = codes "too large"
refusal_text BadPath = codes "bad path"
refusal_text (At path reason) = path_text path ++ codes ": " ++ reason_text reason

-- a refused command prints one line, and clears `ok`
abbrev pub refused : Env → List ℕ → Refusal → Effect Env
refused env command refusal =
    record { update = None; lines = (command ++ codes ": " ++ refusal_text refusal) ∷ []; result = with_ok false env }

-- a command that is not refused sets `ok`
abbrev pub done : Env → Success → Effect Env
done env (Makes update) = record { update = Some update; lines = []; result = with_ok true env }
done env (Prints lines) = record { update = None; lines = lines; result = with_ok true env }
done env (Sets variable value) = record { update = None; lines = []; result = with_variable variable value (with_ok true env) }

abbrev pub ending : Env → List ℕ → Result Success Refusal → Effect Env
ending env command (Ok success) = done env success
ending env command (Err refusal) = refused env command refusal
