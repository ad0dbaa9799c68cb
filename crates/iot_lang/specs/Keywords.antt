-- The names that begin a line or a condition, the commands that they name, and the switches of `chmod`.
use Rattle.std.specs.Prelude.{ℕ, List, [], ◌∷◌, codes, bytes_eq, Option, None, Some, if◌then◌else◌}
use Rattle.iot_lang.specs.declared.words.Piece.{Piece}
use Rattle.iot_lang.specs.declared.words.Command.{Command}
use Rattle.iot_lang.specs.declared.words.Command.TheVariants as commands
use Rattle.iot_lang.specs.declared.words.Switch.{Switch}
use Rattle.iot_lang.specs.declared.words.Switch.TheVariants as switches
use Rattle.iot_lang.specs.declared.keywords.One.{One}
use Rattle.iot_lang.specs.declared.keywords.One.TheVariants as ones
use Rattle.iot_lang.specs.declared.keywords.Two.{Two}
use Rattle.iot_lang.specs.declared.keywords.Two.TheVariants as twos
use Rattle.iot_lang.specs.declared.keywords.Named.{Named}
use Rattle.iot_lang.specs.declared.keywords.Named.TheVariants as nameds
use Rattle.iot_lang.specs.declared.keywords.Keyword.{Keyword}
use Rattle.iot_lang.specs.declared.keywords.Keyword.TheVariants as keywords
use Rattle.iot_lang.specs.declared.keywords.Test.{Test}
use Rattle.iot_lang.specs.declared.keywords.Test.TheVariants as tests

-- the command of a name with its operands
abbrev pub with_one : One → List Piece → Command
with_one ones.Echo w = commands.Echo w
with_one ones.MakeDir w = commands.MakeDir w
with_one ones.RemoveDir w = commands.RemoveDir w
with_one ones.Remove w = commands.Remove w
with_one ones.Cat w = commands.Cat w
with_one ones.List w = commands.List w

abbrev pub with_two : Two → List Piece → List Piece → Command
with_two twos.Write v w = commands.Write v w
with_two twos.Append v w = commands.Append v w
with_two twos.Copy v w = commands.Copy v w
with_two twos.Move v w = commands.Move v w
with_two twos.Keep v w = commands.Keep v w

abbrev pub with_variable : Named → List ℕ → List Piece → Command
with_variable nameds.Set x w = commands.Set x w
with_variable nameds.Read x w = commands.Read x w

-- the value beside the first key that is these bytes
abbrev pub lookup : {A : Type 0} → List (List ℕ × A) → List ℕ → Option A
lookup [] bytes = None
lookup (row ∷ rows) bytes = if bytes_eq bytes row.0 then Some row.1 else lookup rows bytes

abbrev pub keyword_table : List (List ℕ × Keyword)
keyword_table =
    (codes "echo", keywords.One ones.Echo)
    ∷ (codes "mkdir", keywords.One ones.MakeDir)
    ∷ (codes "rmdir", keywords.One ones.RemoveDir)
    ∷ (codes "rm", keywords.One ones.Remove)
    ∷ (codes "cat", keywords.One ones.Cat)
    ∷ (codes "ls", keywords.One ones.List)
    ∷ (codes "write", keywords.Two twos.Write)
    ∷ (codes "append", keywords.Two twos.Append)
    ∷ (codes "copy", keywords.Two twos.Copy)
    ∷ (codes "mv", keywords.Two twos.Move)
    ∷ (codes "keep", keywords.Two twos.Keep)
    ∷ (codes "set", keywords.Named nameds.Set)
    ∷ (codes "read", keywords.Named nameds.Read)
    ∷ (codes "concat", keywords.Concat)
    ∷ (codes "chmod", keywords.Chmod)
    ∷ (codes "if", keywords.If)
    ∷ (codes "for", keywords.For)
    ∷ (codes "stop", keywords.Stop)
    ∷ (codes "}", keywords.Close)
    ∷ []

-- what the first word of a line names
abbrev pub keyword_at : List ℕ → Option Keyword
keyword_at word = lookup keyword_table word

abbrev pub switch_table : List (List ℕ × Switch)
switch_table = (codes "-x", switches.Off) ∷ (codes "+x", switches.On) ∷ []

-- the switch that is written like this
abbrev pub switch_at : List ℕ → Option Switch
switch_at word = lookup switch_table word

abbrev pub test_table : List (List ℕ × Test)
test_table =
    (codes "file", tests.File)
    ∷ (codes "dir", tests.Dir)
    ∷ (codes "exec", tests.Exec)
    ∷ (codes "same", tests.Same)
    ∷ (codes "ok", tests.Ok)
    ∷ []

-- what the first word of a condition names
abbrev pub test_at : List ℕ → Option Test
test_at word = lookup test_table word
