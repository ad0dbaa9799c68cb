-- What is kept of the lines so far: the blocks that are open, and the statements in them.
use Rattle.std.specs.Prelude.{ℕ, ◌≡◌, Bool, true, false, List, [], ◌∷◌, ◌++◌, length, None, Some, IsTrue, ◌<◌, ◌≤◌}
use Rattle.std.specs.List.{flat_map}
use Rattle.iot_lang.specs.Code.{Code, script_lines}
use Rattle.iot_lang.specs.Scripts.{SpellEach, said}
use Rattle.iot_lang.specs.Blocks.{code_of_statements}
use Rattle.iot_lang.specs.OpenBlocks.{open_after, opens_block}
use Rattle.iot_lang.specs.declared.nesting.TheConstants.{DEPTH_LIMIT}
use Rattle.iot_lang.specs.declared.blocks.Stmt.{Stmt}
use Rattle.iot_lang.specs.declared.blocks.Stmt.TheVariants as statements
use Rattle.iot_lang.specs.declared.lines.Line.{Line}
use Rattle.iot_lang.specs.declared.lines.Line.TheVariants as says
use Rattle.iot_lang.specs.declared.nesting.Head.{Head}
use Rattle.iot_lang.specs.declared.nesting.Head.TheVariants as heads
use Rattle.iot_lang.specs.declared.nesting.Open.{Open}
use Rattle.iot_lang.specs.declared.nesting.Nesting.{Nesting}

abbrev pub closed_by : Head → Code → Stmt
closed_by (heads.If condition) body = statements.If condition body None
closed_by (heads.Else condition first) body = statements.If condition first (Some body)
closed_by (heads.For variable path) body = statements.For variable path body

abbrev pub head_lines : Head → List Line
head_lines (heads.If condition) = says.If condition ∷ []
head_lines (heads.Else condition first) = says.If condition ∷ script_lines first ++ says.Else ∷ []
head_lines (heads.For variable path) = says.For variable path ∷ []

-- whether an else block may follow
abbrev pub may_turn : Head → Bool
may_turn (heads.If condition) = true
may_turn (heads.Else condition first) = false
may_turn (heads.For variable path) = false

abbrev pub open_lines : Open → List Line
open_lines o = script_lines (code_of_statements o.before.items) ++ head_lines o.head

-- the lines that have been taken
abbrev pub lines_so_far : Nesting → List Line
lines_so_far n = flat_map open_lines n.open.items ++ script_lines (code_of_statements n.statements.items)

-- the open blocks, innermost first
abbrev pub stack_on : List Bool → List Open → List Bool
stack_on below [] = below
stack_on below (o ∷ os) = stack_on (may_turn o.head ∷ below) os

abbrev pub stack_of : Nesting → List Bool
stack_of n = stack_on [] n.open.items

-- the open blocks are those of the lines
abbrev pub IsSound : Nesting → Type 0
IsSound n = open_after DEPTH_LIMIT [] (lines_so_far n) ≡ Some (stack_of n)

-- these texts have been taken
pub record HasTaken (n : Nesting) (texts : List (List ℕ)) : Type 0 where
  pub sound : IsSound n
  pub spelled : SpellEach (said texts) (lines_so_far n)

-- a statement has been added
pub record Adds (old : Nesting) (statement : Stmt) (new : Nesting) : Type 0 where
  pub same_open : new.open.items ≡ old.open.items
  pub added : new.statements.items ≡ old.statements.items ++ statement ∷ []

-- a block has been opened
pub record Opens (old : Nesting) (head : Head) (new : Nesting) : Type 0 where
  pub lines : lines_so_far new ≡ lines_so_far old ++ head_lines head
  pub stack : stack_of new ≡ may_turn head ∷ stack_of old
  pub room : length (stack_of old) < DEPTH_LIMIT

-- a line has been taken
pub record Moves (old : Nesting) (line : Line) (new : Nesting) : Type 0 where
  pub lines : lines_so_far new ≡ lines_so_far old ++ line ∷ []
  pub stack : open_after DEPTH_LIMIT (stack_of old) (line ∷ []) ≡ Some (stack_of new)

-- the line opens a block, and 16 are open
pub record IsFull (n : Nesting) (line : Line) : Type 0 where
  pub opening : IsTrue (opens_block line)
  pub full : DEPTH_LIMIT ≤ length (stack_of n)
