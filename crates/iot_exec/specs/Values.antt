-- The values of words.
use Rattle.std.specs.Prelude.{ℕ, Bool, true, List, [], ◌∷◌, ◌++◌, unwrap_or}
use Rattle.std.specs.FinMap.{empty, get, insert}
use Rattle.iot_lang.specs.declared.words.Piece.{Piece}
use Rattle.iot_lang.specs.declared.words.Piece.TheVariants.{Plain, Quoted, Var}
use Rattle.iot_exec.specs.declared.env.Env.{Env}

-- at first no variable is set, and all is well
abbrev pub fresh : Env
fresh = record { variables = empty; ok = true }

-- the value of a variable; one that is not set is empty
abbrev pub value_of : Env → List ℕ → List ℕ
value_of env name = unwrap_or (get env.variables name) []

abbrev pub with_variable : List ℕ → List ℕ → Env → Env
with_variable name value env = record { variables = insert env.variables name value; ok = env.ok }

abbrev pub with_ok : Bool → Env → Env
with_ok ok env = record { variables = env.variables; ok = ok }

abbrev pub piece_value : Env → Piece → List ℕ
piece_value env (Plain text) = text
piece_value env (Quoted text) = text
piece_value env (Var name) = value_of env name

-- the value of a word is its pieces' values joined
abbrev pub word_value : Env → List Piece → List ℕ
word_value env [] = []
word_value env (piece ∷ pieces) = piece_value env piece ++ word_value env pieces
