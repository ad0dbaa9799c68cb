-- Which blocks lines leave open.
use Rattle.std.specs.Prelude.{ℕ, Bool, true, false, nat_lt, List, [], ◌∷◌, length, Option, None, Some, if◌then◌else◌}
use Rattle.iot_lang.specs.declared.lines.Line.{Line}
use Rattle.iot_lang.specs.declared.lines.Line.TheVariants as says

-- The blocks that lines leave open, innermost first, after blocks that are open before them: for each,
-- whether an else block may follow it. Nothing if a line is not allowed in its place, or opens a block too many.
abbrev pub open_after : ℕ → List Bool → List Line → Option (List Bool)
open_after limit open_ [] = Some open_
open_after limit open_ (says.Do command ∷ lines) = open_after limit open_ lines
open_after limit open_ (says.Stop ∷ lines) = open_after limit open_ lines
open_after limit open_ (says.If condition ∷ lines) = if nat_lt (length open_) limit then open_after limit (true ∷ open_) lines else None
open_after limit open_ (says.For variable path ∷ lines) =
    if nat_lt (length open_) limit then open_after limit (false ∷ open_) lines else None
open_after limit [] (says.Else ∷ lines) = None
open_after limit (false ∷ open_) (says.Else ∷ lines) = None
open_after limit (true ∷ open_) (says.Else ∷ lines) = open_after limit (false ∷ open_) lines
open_after limit [] (says.Close ∷ lines) = None
open_after limit (b ∷ open_) (says.Close ∷ lines) = open_after limit open_ lines

-- whether the line opens a block
abbrev pub opens_block : Line → Bool
opens_block (says.If condition) = true
opens_block (says.For variable path) = true
opens_block _ = false
