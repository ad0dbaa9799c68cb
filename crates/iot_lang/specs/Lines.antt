-- What one line of a script says.
use Rattle.std.specs.Prelude.{ℕ, ◌≡◌, Bool, true, ◌&&◌, List, [], ◌∷◌, ◌++◌, IsTrue, codes}
use Rattle.std.specs.List.{list_all}
use Rattle.iot_lines.specs.Words.{is_blank}
use Rattle.iot_lang.specs.Words.{word_text, is_word, is_variable}
use Rattle.iot_lang.specs.declared.words.Command.{Command}
use Rattle.iot_lang.specs.declared.words.Command.TheVariants as commands
use Rattle.iot_lang.specs.declared.words.Switch.{Switch}
use Rattle.iot_lang.specs.declared.words.Switch.TheVariants as switches
use Rattle.iot_lang.specs.declared.words.Cond.{Cond}
use Rattle.iot_lang.specs.declared.words.Cond.TheVariants as conditions
use Rattle.iot_lang.specs.declared.lines.Line.{Line}
use Rattle.iot_lang.specs.declared.lines.Line.TheVariants as says

-- the words of a condition
abbrev pub condition_words : Cond → List (List ℕ)
condition_words (conditions.File p) = codes "file" ∷ word_text p ∷ []
condition_words (conditions.Dir p) = codes "dir" ∷ word_text p ∷ []
condition_words (conditions.Exec p) = codes "exec" ∷ word_text p ∷ []
condition_words (conditions.Same p q) = codes "same" ∷ word_text p ∷ word_text q ∷ []
condition_words conditions.Ok = codes "ok" ∷ []

-- how a switch is written
abbrev pub switch_text : Switch → List ℕ
switch_text switches.Off = codes "-x"
switch_text switches.On = codes "+x"

-- the words of a command
abbrev pub command_words : Command → List (List ℕ)
command_words (commands.Echo w) = codes "echo" ∷ word_text w ∷ []
command_words (commands.Set x w) = codes "set" ∷ x ∷ word_text w ∷ []
command_words (commands.Read x p) = codes "read" ∷ x ∷ word_text p ∷ []
command_words (commands.MakeDir p) = codes "mkdir" ∷ word_text p ∷ []
command_words (commands.RemoveDir p) = codes "rmdir" ∷ word_text p ∷ []
command_words (commands.Remove p) = codes "rm" ∷ word_text p ∷ []
command_words (commands.Write p w) = codes "write" ∷ word_text p ∷ word_text w ∷ []
command_words (commands.Append p w) = codes "append" ∷ word_text p ∷ word_text w ∷ []
command_words (commands.Copy p q) = codes "copy" ∷ word_text p ∷ word_text q ∷ []
command_words (commands.Concat q p1 p2) = codes "concat" ∷ word_text q ∷ word_text p1 ∷ word_text p2 ∷ []
command_words (commands.Move p q) = codes "mv" ∷ word_text p ∷ word_text q ∷ []
command_words (commands.Cat p) = codes "cat" ∷ word_text p ∷ []
command_words (commands.List p) = codes "ls" ∷ word_text p ∷ []
command_words (commands.Keep p q) = codes "keep" ∷ word_text p ∷ word_text q ∷ []
command_words (commands.Chmod switch p) = codes "chmod" ∷ switch_text switch ∷ word_text p ∷ []

-- the words of a line
abbrev pub line_words : Line → List (List ℕ)
line_words (says.Do command) = command_words command
line_words says.Stop = codes "stop" ∷ []
line_words (says.If condition) = codes "if" ∷ condition_words condition ++ codes "{" ∷ []
line_words (says.For x p) = codes "for" ∷ x ∷ codes "in" ∷ word_text p ∷ codes "{" ∷ []
line_words says.Else = codes "}" ∷ codes "else" ∷ codes "{" ∷ []
line_words says.Close = codes "}" ∷ []

-- whether the operands of a condition are words
abbrev pub is_condition : Cond → Bool
is_condition (conditions.File p) = is_word p
is_condition (conditions.Dir p) = is_word p
is_condition (conditions.Exec p) = is_word p
is_condition (conditions.Same p q) = is_word p && is_word q
is_condition conditions.Ok = true

-- whether the operands of a command are words, and variables' names
abbrev pub is_command : Command → Bool
is_command (commands.Echo w) = is_word w
is_command (commands.Set x w) = is_variable x && is_word w
is_command (commands.Read x p) = is_variable x && is_word p
is_command (commands.MakeDir p) = is_word p
is_command (commands.RemoveDir p) = is_word p
is_command (commands.Remove p) = is_word p
is_command (commands.Write p w) = is_word p && is_word w
is_command (commands.Append p w) = is_word p && is_word w
is_command (commands.Copy p q) = is_word p && is_word q
is_command (commands.Concat q p1 p2) = is_word q && is_word p1 && is_word p2
is_command (commands.Move p q) = is_word p && is_word q
is_command (commands.Cat p) = is_word p
is_command (commands.List p) = is_word p
is_command (commands.Keep p q) = is_word p && is_word q
is_command (commands.Chmod switch p) = is_word p

-- whether the operands of a line are words and names as they should be
abbrev pub is_line : Line → Bool
is_line (says.Do command) = is_command command
is_line says.Stop = true
is_line (says.If condition) = is_condition condition
is_line (says.For x p) = is_variable x && is_word p
is_line says.Else = true
is_line says.Close = true

-- the text ends here, or a blank follows
abbrev pub is_end : List ℕ → Bool
is_end [] = true
is_end (b ∷ bs) = is_blank b

-- the text is these words, with blanks between them; there may be blanks at both ends
abbrev pub IsSpaced : List ℕ → List (List ℕ) → Type 0
IsSpaced text [] = IsTrue (list_all is_blank text)
IsSpaced text (word ∷ words) =
    (blanks rest : List ℕ) × IsTrue (list_all is_blank blanks) × (text ≡ blanks ++ word ++ rest) × IsTrue (is_end rest)
    × IsSpaced rest words

-- the text spells the line
abbrev pub SpellsLine : List ℕ → Line → Type 0
SpellsLine text line = IsTrue (is_line line) × IsSpaced text (line_words line)
