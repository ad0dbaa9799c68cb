-- How a line of a script is parsed, part by part.
use Rattle.std.specs.Prelude.{ℕ, Bool, List, codes, bytes_eq, Option, None, Some, if◌then◌else◌}
use Rattle.std.specs.List.{list_all}
use Rattle.iot_lines.specs.Words.{is_blank, without_blanks, front_word, after_word, is_skipped}
use Rattle.iot_lang.specs.Words.{is_variable}
use Rattle.iot_lang.specs.Parsing.{Part, ◌>>=◌, word_at}
use Rattle.iot_lang.specs.Keywords.{keyword_at, switch_at, test_at, with_one, with_two, with_variable}
use Rattle.iot_lang.specs.declared.words.Piece.{Piece}
use Rattle.iot_lang.specs.declared.words.Command.TheVariants as commands
use Rattle.iot_lang.specs.declared.words.Switch.{Switch}
use Rattle.iot_lang.specs.declared.words.Cond.{Cond}
use Rattle.iot_lang.specs.declared.words.Cond.TheVariants as conditions
use Rattle.iot_lang.specs.declared.lines.Line.{Line}
use Rattle.iot_lang.specs.declared.lines.Line.TheVariants as says
use Rattle.iot_lang.specs.declared.keywords.Keyword.{Keyword}
use Rattle.iot_lang.specs.declared.keywords.Keyword.TheVariants as keywords
use Rattle.iot_lang.specs.declared.keywords.Test.{Test}
use Rattle.iot_lang.specs.declared.keywords.Test.TheVariants as tests

-- the value, if nothing but blanks comes after it
abbrev pub ended : {A : Type 0} → A → List ℕ → Option A
ended x rest = if list_all is_blank rest then Some x else None

-- the bytes up to the next blank, after blanks; and what comes after them
abbrev pub run_of : List ℕ → List ℕ
run_of text = front_word (without_blanks text)

abbrev pub past_run : List ℕ → List ℕ
past_run text = after_word (without_blanks text)

-- what comes after this very word
abbrev pub past : List ℕ → List ℕ → Option (List ℕ)
past word text = if bytes_eq (run_of text) word then Some (past_run text) else None

-- the value, if a `{` and nothing else comes after it
abbrev pub opened : {A : Type 0} → A → List ℕ → Option A
opened x rest = past (codes "{") rest >>= (λ rest. ended x rest)

-- a variable's name
abbrev pub variable_name : List ℕ → Part (List ℕ)
variable_name text = if is_variable (run_of text) then Some (run_of text, past_run text) else None

-- a switch
abbrev pub switch_name : List ℕ → Part Switch
switch_name text = switch_at (run_of text) >>= (λ switch. Some (switch, past_run text))

-- one part, and another one after it
abbrev pub then_part : {A B : Type 0} → (List ℕ → Part A) → (List ℕ → Part B) → List ℕ → Part (A × B)
then_part one other text = one text >>= (λ a. other a.1 >>= (λ b. Some ((a.0, b.0), b.1)))

-- one part, and this very word after it
abbrev pub then_past : {A : Type 0} → (List ℕ → Part A) → List ℕ → List ℕ → Part A
then_past one word text = one text >>= (λ a. past word a.1 >>= (λ rest. Some (a.0, rest)))

-- the part, if nothing but blanks comes after it
abbrev pub whole : {A : Type 0} → Part A → Option A
whole part = part >>= (λ a. ended a.0 a.1)

unfoldable pub one_word : List ℕ → Option (List Piece)
one_word text = whole (word_at text)

unfoldable pub two_words : List ℕ → Option (List Piece × List Piece)
two_words text = whole (then_part word_at word_at text)

unfoldable pub three_words : List ℕ → Option ((List Piece × List Piece) × List Piece)
three_words text = whole (then_part (then_part word_at word_at) word_at text)

unfoldable pub variable_and_word : List ℕ → Option (List ℕ × List Piece)
variable_and_word text = whole (then_part variable_name word_at text)

unfoldable pub switch_and_word : List ℕ → Option (Switch × List Piece)
switch_and_word text = whole (then_part switch_name word_at text)

-- a word and a `{`, or two words and a `{`
abbrev pub one_and_brace : List ℕ → Option (List Piece)
one_and_brace text = whole (then_past word_at (codes "{") text)

abbrev pub two_and_brace : List ℕ → Option (List Piece × List Piece)
two_and_brace text = whole (then_past (then_part word_at word_at) (codes "{") text)

-- a condition of this name, and a `{`
abbrev pub operands_at : Test → List ℕ → Option Cond
operands_at tests.File text = one_and_brace text >>= (λ p. Some (conditions.File p))
operands_at tests.Dir text = one_and_brace text >>= (λ p. Some (conditions.Dir p))
operands_at tests.Exec text = one_and_brace text >>= (λ p. Some (conditions.Exec p))
operands_at tests.Same text = two_and_brace text >>= (λ ps. Some (conditions.Same ps.0 ps.1))
operands_at tests.Ok text = opened conditions.Ok text

unfoldable pub condition_at : List ℕ → Option Cond
condition_at text = test_at (run_of text) >>= (λ test. operands_at test (past_run text))

-- what comes after `for`
unfoldable pub turns_at : List ℕ → Option (List ℕ × List Piece)
turns_at text = whole (then_past (then_part (then_past variable_name (codes "in")) word_at) (codes "{") text)

-- what comes after `}`
unfoldable pub closing_at : List ℕ → Option Line
closing_at text = if list_all is_blank text then Some says.Close else past (codes "else") text >>= (λ rest. opened says.Else rest)

-- a line that begins with this keyword
abbrev pub line_at : Keyword → List ℕ → Option Line
line_at (keywords.One one) text = one_word text >>= (λ w. Some (says.Do (with_one one w)))
line_at (keywords.Two two) text = two_words text >>= (λ ws. Some (says.Do (with_two two ws.0 ws.1)))
line_at (keywords.Named named) text = variable_and_word text >>= (λ xw. Some (says.Do (with_variable named xw.0 xw.1)))
line_at keywords.Concat text = three_words text >>= (λ ws. Some (says.Do (commands.Concat ws.0.0 ws.0.1 ws.1)))
line_at keywords.Chmod text = switch_and_word text >>= (λ sp. Some (says.Do (commands.Chmod sp.0 sp.1)))
line_at keywords.If text = condition_at text >>= (λ c. Some (says.If c))
line_at keywords.For text = turns_at text >>= (λ xw. Some (says.For xw.0 xw.1))
line_at keywords.Stop text = ended says.Stop text
line_at keywords.Close text = closing_at text

-- a line that is not skipped
unfoldable pub line_of : List ℕ → Option Line
line_of text = keyword_at (run_of text) >>= (λ name. line_at name (past_run text))

abbrev pub if_said : Bool → Option Line → Option (Option Line)
if_said skipped line = if skipped then Some None else line >>= (λ l. Some (Some l))

-- what a line says: nothing if it is skipped
abbrev pub said_by : List ℕ → Option (Option Line)
said_by text = if_said (is_skipped text) (line_of text)
