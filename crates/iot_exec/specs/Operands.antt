-- The values of operands, or why they are refused.
use Rattle.std.specs.Prelude.{◌≡◌, ℕ, nat_lt, Bool, List, length, Option, Some, None, Result, Ok, Err, ⊤, if◌then◌else◌}
use Rattle.iot_lang.specs.declared.words.Piece.{Piece}
use Rattle.iot_text.specs.Paths.{path_of}
use Rattle.iot_tree.specs.declared.limits.TheConstants.{CONTENTS_LIMIT}
use Rattle.iot_exec.specs.Values.{word_value}
use Rattle.iot_exec.specs.declared.env.Env.{Env}
use Rattle.iot_exec.specs.declared.endings.Refusal.{Refusal}
use Rattle.iot_exec.specs.declared.endings.Refusal.TheVariants.{TooLarge, BadPath, At}
use Rattle.iot_exec.specs.declared.endings.Reason.{Reason}
use Rattle.iot_exec.specs.declared.endings.Stop.{Stop}
use Rattle.iot_exec.specs.declared.endings.Stop.TheVariants.{NoMemory, Refused}

-- more bytes than a value may have
abbrev pub is_too_large : ℕ → Bool
is_too_large n = nat_lt CONTENTS_LIMIT n

-- the value of a word
abbrev pub word_operand : Env → List Piece → Result (List ℕ) Refusal
word_operand env word = if is_too_large (length (word_value env word)) then Err TooLarge else Ok (word_value env word)

abbrev pub path_or_bad : Option (List (List ℕ)) → Result (List (List ℕ)) Refusal
path_or_bad None = Err BadPath
path_or_bad (Some path) = Ok path

abbrev pub read_path : Result (List ℕ) Refusal → Result (List (List ℕ)) Refusal
read_path (Err refusal) = Err refusal
read_path (Ok value) = path_or_bad (path_of value)

-- the path whose text is the value of a word
abbrev pub path_operand : Env → List Piece → Result (List (List ℕ)) Refusal
path_operand env word = read_path (word_operand env word)

-- what a call gives is this, or there was no memory
abbrev pub OrNoMemory : {A : Type 0} → Result A Stop → Result A Refusal → Type 0
OrNoMemory (Ok value) given = given ≡ Ok value
OrNoMemory (Err (Refused refusal)) given = given ≡ Err refusal
OrNoMemory (Err NoMemory) given = ⊤

-- the refusal of this path for this reason, or there was no memory
abbrev pub IsStopAt : Stop → List (List ℕ) → Reason → Type 0
IsStopAt (Refused refusal) path reason = refusal ≡ At path reason
IsStopAt NoMemory path reason = ⊤
