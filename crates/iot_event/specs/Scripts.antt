-- What the lines of a script are: a script, or the fault of the first bad line.
use Rattle.std.specs.Prelude.{ℕ, ◌≡◌, ◌+◌, ◌<◌, not, List, [], ◌∷◌, ◌++◌, take, position, Option, Some, None}
use Rattle.iot_lang.specs.Code.{Code}
use Rattle.iot_lang.specs.Faults.{HasFault}
use Rattle.iot_lang.specs.Scripts.{Begin, Spell}
use Rattle.iot_lang.specs.declared.faults.LangFault.{LangFault}
use Rattle.iot_lang.specs.declared.faults.LangFault.TheVariants as language
use Rattle.iot_event.specs.Bytes.{fits_line}
use Rattle.iot_event.specs.Closing.{Closed}
use Rattle.iot_event.specs.declared.fault.EventFault.{EventFault}
use Rattle.iot_event.specs.declared.fault.EventFault.TheVariants.{BadLine, BadStatement, TooDeep}

-- the lines of a script, with the one that closes it
abbrev pub whole_lines : Closed → List (List ℕ)
whole_lines script = script.inside ++ script.closing ∷ []

-- the place, from 0, of the first line that breaks the rule on bytes and length
abbrev pub first_unfit : List (List ℕ) → Option ℕ
first_unfit lines = position (λ line. not (fits_line line)) lines

-- each line keeps the rule on bytes and length, and those inside spell the script
pub record SpellsScript (script : Closed) (code : Code) : Type 0 where
  pub fits : first_unfit (whole_lines script) ≡ None
  pub spelled : Spell script.inside code

-- the first line that breaks the rule on bytes and length is at this place, and the lines before it begin a script
pub record IsUnfit (script : Closed) (place : ℕ) : Type 0 where
  pub unfit : first_unfit (whole_lines script) ≡ Some place
  pub begun : Begin (take place script.inside)

-- the language refuses the lines inside with this fault, at a place before any line that breaks the rule on bytes and length
pub record IsRefused (script : Closed) (fault : LangFault) (place : ℕ) : Type 0 where
  pub earlier : (unfit : ℕ) → first_unfit (whole_lines script) ≡ Some unfit → place < unfit
  pub refused : HasFault script.inside fault

-- a script whose first line inside has this number has this fault
pub data HasScriptFault (script : Closed) (first : ℕ) : EventFault → Type 0 where
  unfit : (place : ℕ) → IsUnfit script place → HasScriptFault script first (BadLine (first + place))
  statement : (place : ℕ) → IsRefused script (language.BadStatement place) place
      → HasScriptFault script first (BadStatement (first + place))
  depth : (place : ℕ) → IsRefused script (language.TooDeep place) place → HasScriptFault script first (TooDeep (first + place))
