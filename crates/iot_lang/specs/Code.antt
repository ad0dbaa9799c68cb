-- Scripts as trees: a statement, and the statements after it.
use Rattle.std.specs.Prelude.{◌≡◌, ℕ, zero, suc, ◌+◌, ◌≤◌, max, List, [], ◌∷◌, ◌++◌, Option, None, Some, refl, length}
use Rattle.std.proofs.Common.{sym, ap, ◌∙◌, append_assoc, arith, length-append}
use Rattle.std.proofs.lemmas.List.{append-nil}
use Rattle.std.specs.Coded.{Coded, code_by, coded_list}
use Rattle.iot_lang.specs.declared.words.Piece.{Piece}
use Rattle.iot_lang.specs.declared.words.Command.{Command}
use Rattle.iot_lang.specs.declared.words.Cond.{Cond}
use Rattle.iot_lang.specs.declared.lines.Line.{Line}
use Rattle.iot_lang.specs.declared.lines.Line.TheVariants as says
use Rattle.iot_lang.specs.contracts.lines.Line as line

pub data Code : Type 0 where
  End : Code
  Plain : (command : Command) (rest : Code) → Code
  Halt : (rest : Code) → Code
  If : (condition : Cond) (body rest : Code) → Code
  IfElse : (condition : Cond) (body other rest : Code) → Code
  For : (variable : List ℕ) (path : List Piece) (body rest : Code) → Code

-- the lines of a script, without those that are skipped
abbrev pub script_lines : Code → List Line
script_lines End = []
script_lines (Plain command rest) = says.Do command ∷ script_lines rest
script_lines (Halt rest) = says.Stop ∷ script_lines rest
script_lines (If condition body rest) = says.If condition ∷ script_lines body ++ says.Close ∷ script_lines rest
script_lines (IfElse condition body other rest) =
    says.If condition ∷ script_lines body ++ says.Else ∷ script_lines other ++ says.Close ∷ script_lines rest
script_lines (For variable path body rest) = says.For variable path ∷ script_lines body ++ says.Close ∷ script_lines rest

-- how deep blocks nest
abbrev pub depth : Code → ℕ
depth End = 0
depth (Plain command rest) = depth rest
depth (Halt rest) = depth rest
depth (If condition body rest) = max (depth body + 1) (depth rest)
depth (IfElse condition body other rest) = max (max (depth body) (depth other) + 1) (depth rest)
depth (For variable path body rest) = max (depth body + 1) (depth rest)

-- statements, and others after them
abbrev pub followed_by : Code → Code → Code
followed_by End more = more
followed_by (Plain command rest) more = Plain command (followed_by rest more)
followed_by (Halt rest) more = Halt (followed_by rest more)
followed_by (If condition body rest) more = If condition body (followed_by rest more)
followed_by (IfElse condition body other rest) more = IfElse condition body other (followed_by rest more)
followed_by (For variable path body rest) more = For variable path body (followed_by rest more)

-- larger than each block in it
abbrev pub size_of : Code → ℕ
size_of End = 1
size_of (Plain command rest) = size_of rest + 1
size_of (Halt rest) = size_of rest + 1
size_of (If condition body rest) = size_of body + size_of rest + 1
size_of (IfElse condition body other rest) = size_of body + size_of other + size_of rest + 1
size_of (For variable path body rest) = size_of body + size_of rest + 1

-- ---- a script is known by its lines

abbrev Parsed : Type 0
Parsed = Option (Code × List Line)

abbrev and_then : Parsed → (Code → List Line → Parsed) → Parsed
and_then None next = None
and_then (Some parsed) next = next parsed.0 parsed.1

abbrev with_first : (Code → Code) → Parsed → Parsed
with_first make None = None
with_first make (Some parsed) = Some (make parsed.0, parsed.1)

-- what follows a body: its `}`, and the statements after it
abbrev after : (List Line → Parsed) → (Code → Code) → List Line → Parsed
after go make (says.Close ∷ lines) = with_first make (go lines)
after go make _ = None

-- the same, or an else block first
abbrev after_if : (List Line → Parsed) → Cond → Code → List Line → Parsed
after_if go condition body (says.Close ∷ lines) = with_first (λ rest. If condition body rest) (go lines)
after_if go condition body (says.Else ∷ lines) =
    and_then (go lines) (λ other more. after go (λ rest. IfElse condition body other rest) more)
after_if go condition body _ = None

-- the statements of the block that begins here, found in at most so many steps
abbrev block_in : ℕ → List Line → Parsed
block_in zero lines = None
block_in (suc k) [] = Some (End, [])
block_in (suc k) (says.Close ∷ lines) = Some (End, says.Close ∷ lines)
block_in (suc k) (says.Else ∷ lines) = Some (End, says.Else ∷ lines)
block_in (suc k) (says.Do command ∷ lines) = with_first (λ rest. Plain command rest) (block_in k lines)
block_in (suc k) (says.Stop ∷ lines) = with_first Halt (block_in k lines)
block_in (suc k) (says.If condition ∷ lines) = and_then (block_in k lines) (λ body more. after_if (λ ls. block_in k ls) condition body more)
block_in (suc k) (says.For x p ∷ lines) =
    and_then (block_in k lines) (λ body more. after (λ ls. block_in k ls) (λ rest. For x p body rest) more)

-- what can come after a block's statements: nothing, or a line that ends the block
data Ends : List Line → Type 0 where
  nothing : Ends []
  close : (lines : List Line) → Ends (says.Close ∷ lines)
  or_else : (lines : List Line) → Ends (says.Else ∷ lines)

at_end : (k : ℕ) (lines : List Line) → Ends lines → block_in (suc k) lines ≡ Some (End, lines)
at_end k _ nothing = refl
at_end k _ (close lines) = refl
at_end k _ (or_else lines) = refl

again : (c : Code) (k : ℕ) (lines : List Line) → Ends lines → size_of c ≤ k → block_in k (script_lines c ++ lines) ≡ Some (c, lines)
again End zero lines e h = absurd (omega arith)
again End (suc k) lines e h = at_end k lines e
again (Plain command rest) zero lines e h = absurd (omega arith)
again (Plain command rest) (suc k) lines e h = rw (again rest k lines e (omega arith)) refl
again (Halt rest) zero lines e h = absurd (omega arith)
again (Halt rest) (suc k) lines e h = rw (again rest k lines e (omega arith)) refl
again (If condition body rest) zero lines e h = absurd (omega arith)
again (If condition body rest) (suc k) lines e h =
    let regroup : (script_lines body ++ says.Close ∷ script_lines rest) ++ lines
    ≡ script_lines body ++ (says.Close ∷ (script_lines rest ++ lines)) = simp append_assoc in
    ap (λ ls. block_in (suc k) (says.If condition ∷ ls)) regroup
    ∙ ap (λ r. and_then r (λ body more. after_if (λ ls. block_in k ls) condition body more))
    (again body k (says.Close ∷ (script_lines rest ++ lines)) (close _) (omega arith))
    ∙ ap (with_first (λ rest. If condition body rest)) (again rest k lines e (omega arith))
again (IfElse condition body other rest) zero lines e h = absurd (omega arith)
again (IfElse condition body other rest) (suc k) lines e h =
    let tail : List Line = says.Close ∷ (script_lines rest ++ lines) in
    let regroup : ((script_lines body ++ says.Else ∷ script_lines other) ++ says.Close ∷ script_lines rest) ++ lines
    ≡ script_lines body ++ (says.Else ∷ (script_lines other ++ tail)) = simp append_assoc in
    ap (λ ls. block_in (suc k) (says.If condition ∷ ls)) regroup
    ∙ ap (λ r. and_then r (λ body more. after_if (λ ls. block_in k ls) condition body more))
    (again body k (says.Else ∷ (script_lines other ++ tail)) (or_else _) (omega arith))
    ∙ ap (λ r. and_then r (λ other more. after (λ ls. block_in k ls) (λ rest. IfElse condition body other rest) more))
    (again other k tail (close _) (omega arith))
    ∙ ap (with_first (λ rest. IfElse condition body other rest)) (again rest k lines e (omega arith))
again (For x p body rest) zero lines e h = absurd (omega arith)
again (For x p body rest) (suc k) lines e h =
    let regroup : (script_lines body ++ says.Close ∷ script_lines rest) ++ lines
    ≡ script_lines body ++ (says.Close ∷ (script_lines rest ++ lines)) = simp append_assoc in
    ap (λ ls. block_in (suc k) (says.For x p ∷ ls)) regroup
    ∙ ap (λ r. and_then r (λ body more. after (λ ls. block_in k ls) (λ rest. For x p body rest) more))
    (again body k (says.Close ∷ (script_lines rest ++ lines)) (close _) (omega arith))
    ∙ ap (with_first (λ rest. For x p body rest)) (again rest k lines e (omega arith))

size-lines : (c : Code) → size_of c ≤ length (script_lines c) + 1
size-lines End = omega arith
size-lines (Plain command rest) = omega (arith, size-lines rest)
size-lines (Halt rest) = omega (arith, size-lines rest)
size-lines (If condition body rest) =
    omega (arith, size-lines body, size-lines rest, length-append (script_lines body) (says.Close ∷ script_lines rest))
size-lines (IfElse condition body other rest) =
    omega (
      arith,
      size-lines body,
      size-lines other,
      size-lines rest,
      length-append (script_lines body ++ says.Else ∷ script_lines other) (says.Close ∷ script_lines rest),
      length-append (script_lines body) (says.Else ∷ script_lines other),
    )
size-lines (For x p body rest) =
    omega (arith, size-lines body, size-lines rest, length-append (script_lines body) (says.Close ∷ script_lines rest))

abbrev code_or_end : Parsed → Code
code_or_end None = End
code_or_end (Some parsed) = parsed.0

-- the script with these lines
abbrev code_of : List Line → Code
code_of lines = code_or_end (block_in (length lines + 1) lines)

-- a script is known by its lines
pub code_of-script_lines : (c : Code) → code_of (script_lines c) ≡ c
code_of-script_lines c =
    ap code_or_end
    (ap (block_in (length (script_lines c) + 1)) (sym (append-nil (script_lines c)))
    ∙ again c (length (script_lines c) + 1) [] nothing (size-lines c))

pub same_code : (c d : Code) → script_lines c ≡ script_lines d → c ≡ d
same_code c d e = sym (code_of-script_lines c) ∙ ap code_of e ∙ code_of-script_lines d

-- a script is stored as its lines
abbrev pub coded_code : Coded Code
coded_code = code_by (List Line) (coded_list line.the_row.coded) script_lines code_of code_of-script_lines
