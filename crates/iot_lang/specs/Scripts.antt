-- Which lines spell a script, and which begin one.
use Rattle.std.specs.Prelude.{ℕ, ◌≡◌, ◌+◌, ◌<◌, ◌≤◌, not, List, [], ◌∷◌, ◌++◌, length, take, filter, IsTrue}
use Rattle.std.specs.List.{list_all}
use Rattle.iot_lines.specs.Words.{is_skipped}
use Rattle.iot_lang.specs.declared.nesting.TheConstants.{DEPTH_LIMIT}
use Rattle.iot_lang.specs.Lines.{SpellsLine, is_line}
use Rattle.iot_lang.specs.Code.{Code, script_lines, depth}
use Rattle.iot_lang.specs.declared.lines.Line.{Line}

-- blocks nest at most 16 deep, and each line has operands as it should
pub record IsScript (script : Code) : Type 0 where
  pub deep : depth script ≤ DEPTH_LIMIT
  pub lines : IsTrue (list_all is_line (script_lines script))

-- the texts spell these lines, one each
abbrev pub SpellEach : List (List ℕ) → List Line → Type 0
SpellEach [] [] = Unit {0}
SpellEach [] (line ∷ lines) = ⊥
SpellEach (text ∷ texts) [] = ⊥
SpellEach (text ∷ texts) (line ∷ lines) = SpellsLine text line × SpellEach texts lines

-- the texts that are not skipped
abbrev pub said : List (List ℕ) → List (List ℕ)
said texts = filter (λ text. not (is_skipped text)) texts

-- the texts spell the script, whose blocks nest at most so deep
pub record SpellWithin (limit : ℕ) (texts : List (List ℕ)) (script : Code) : Type 0 where
  pub deep : depth script ≤ limit
  pub spelled : SpellEach (said texts) (script_lines script)

-- the texts spell the script
abbrev pub Spell : List (List ℕ) → Code → Type 0
Spell texts script = SpellWithin DEPTH_LIMIT texts script

-- the texts and some after them spell a script within the limit
abbrev pub BeginWithin : ℕ → List (List ℕ) → Type 0
BeginWithin limit texts = (more : List (List ℕ)) × (script : Code) × SpellWithin limit (texts ++ more) script

-- the texts begin a script
abbrev pub Begin : List (List ℕ) → Type 0
Begin texts = BeginWithin DEPTH_LIMIT texts

-- line n is the first such that the lines up to and with it begin no script
pub record IsFirstBad (texts : List (List ℕ)) (n : ℕ) : Type 0 where
  pub there : n < length texts
  pub good : Begin (take n texts)
  pub bad : ¬ Begin (take (n + 1) texts)

-- it is bad because it opens a 17th block: with one block more allowed, these lines would begin a script
pub record IsTooDeep (texts : List (List ℕ)) (n : ℕ) : Type 0 where
  pub first : IsFirstBad texts n
  pub deeper : BeginWithin (DEPTH_LIMIT + 1) (take (n + 1) texts)

-- it is bad for another reason
pub record IsBadStatement (texts : List (List ℕ)) (n : ℕ) : Type 0 where
  pub first : IsFirstBad texts n
  pub not_deeper : ¬ BeginWithin (DEPTH_LIMIT + 1) (take (n + 1) texts)

-- each line is good, but a block is open after the last one
pub record IsOpen (texts : List (List ℕ)) (n : ℕ) : Type 0 where
  pub after : n ≡ length texts
  pub good : Begin texts
  pub open_ : (script : Code) → Spell texts script → ⊥
