-- What a position in a script means.
use Rattle.std.specs.Prelude.{◌≡◌, ℕ, zero, suc, ◌+◌, ◌-◌, length, List, [], ◌∷◌, ◌++◌, drop, Option, Some, None}
use Rattle.iot_lang.specs.Code.{Code, End, Plain, Halt, If, IfElse, For}
use Rattle.iot_lang.specs.Blocks.{with_statement, code_of_statements}
use Rattle.iot_lang.specs.declared.blocks.Stmt.{Stmt}
use Rattle.iot_exec.specs.Places.{Frame, Rest, Again, Place, Over, At}
use Rattle.iot_exec.specs.declared.env.Env.{Env}
use Rattle.iot_exec.specs.declared.position.Role.{Role}
use Rattle.iot_exec.specs.declared.position.Role.TheVariants.{Script, Body, Otherwise, Turn}
use Rattle.iot_exec.specs.declared.position.Open.{Open}
use Rattle.iot_exec.specs.declared.position.Position.{Position}

-- the statements after the first one
abbrev pub rest_of : Code → Code
rest_of End = End
rest_of (Plain command rest) = rest
rest_of (Halt rest) = rest
rest_of (If condition body rest) = rest
rest_of (IfElse condition body other rest) = rest
rest_of (For variable path body rest) = rest

-- the statements from a place on
abbrev pub skip : ℕ → Code → Code
skip zero code = code
skip (suc at) code = skip at (rest_of code)

-- the blocks of the first statement; if it has none such, they are empty
abbrev pub body_of : Code → Code
body_of (If condition body rest) = body
body_of (IfElse condition body other rest) = body
body_of code = End

abbrev pub other_of : Code → Code
other_of (IfElse condition body other rest) = other
other_of code = End

abbrev pub turn_of : Code → Code
turn_of (For variable path body rest) = body
turn_of code = End

-- a block that may be missing
abbrev pub block_code : Option Code → Code
block_code None = End
block_code (Some code) = code

-- the block of this role in the first of these statements
abbrev pub block_in : Code → Code → Role → Code
block_in script code Script = script
block_in script code Body = body_of code
block_in script code Otherwise = other_of code
block_in script code (Turn variable names next) = turn_of code

-- the statements that are left of it
abbrev pub rest_in : Code → Code → Open → Code
rest_in script code opened = skip opened.at (block_in script code opened.role)

-- what is left to do round it
abbrev pub round_it : Code → Role → List Frame
round_it code Script = Rest (rest_of code) ∷ []
round_it code Body = Rest (rest_of code) ∷ []
round_it code Otherwise = Rest (rest_of code) ∷ []
round_it code (Turn variable names next) = Again variable (drop next names) (turn_of code) ∷ Rest (rest_of code) ∷ []

-- the statements that are left of the innermost of these blocks
abbrev pub left_in : Code → List Open → Code → Code
left_in script [] code = code
left_in script (opened ∷ inner) code = left_in script inner (rest_in script code opened)

-- and what is left to do round it
abbrev pub left_round : Code → List Open → Code → List Frame → List Frame
left_round script [] code frames = frames
left_round script (opened ∷ inner) code frames = left_round script inner (rest_in script code opened) (round_it code opened.role ++ frames)

-- nothing is round the outermost block
abbrev pub left_around : Code → List Open → List Frame
left_around script [] = []
left_around script (outermost ∷ inner) = left_round script inner (rest_in script End outermost) []

abbrev pub all_open : Position → List Open
all_open position = position.outer.items ++ position.here ∷ []

-- the statements that are next at a position
abbrev pub here : Code → Position → Code
here script position = left_in script (all_open position) End

-- what is left to do round them
abbrev pub around : Code → Position → List Frame
around script position = left_around script (all_open position)

-- these are the statements of the innermost block
abbrev pub AreInnermost : Code → List Stmt → Position → Type 0
AreInnermost script statements position =
    code_of_statements statements ≡ block_in script (left_in script position.outer.items End) position.here.role

-- if no statement is left, the script is at its end
abbrev pub place_at : Code → List Frame → Env → Place
place_at End frames env = Over
place_at code frames env = At code frames env

abbrev pub place_of : Code → Position → Env → Place
place_of script position env = place_at (here script position) (around script position) env

-- how often a block can still be left or begin a turn
abbrev pub role_weight : Role → ℕ
role_weight Script = 1
role_weight Body = 1
role_weight Otherwise = 1
role_weight (Turn variable names next) = length names - next + 1

abbrev pub open_weight : List Open → ℕ
open_weight [] = 0
open_weight (opened ∷ inner) = role_weight opened.role + open_weight inner

abbrev pub weight : Position → ℕ
weight position = open_weight (all_open position)

-- the first of these statements, if there is one
abbrev pub IsFirst : Option Stmt → Code → Type 0
IsFirst None code = code ≡ End
IsFirst (Some statement) code = (rest : Code) × (code ≡ with_statement statement rest)
