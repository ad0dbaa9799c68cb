-- What each command, condition and loop does, whatever the tree.
use Rattle.std.specs.Prelude.{ℕ, ◌+◌, ◌==◌, Bool, true, false, List, [], ◌∷◌, ◌++◌, length, map, Option, Some, None, Result, Ok, Err}
use Rattle.std.specs.Prelude.{codes, bytes_eq, if◌then◌else◌}
use Rattle.std.specs.Result.{result_ok}
use Rattle.std.specs.FinMap.{FinMap, get, from_entries}
use Rattle.iot_lines.specs.Lines.{lines}
use Rattle.iot_text.specs.Paths.{path_cmp}
use Rattle.iot_tree.specs.Tree.{Path}
use Rattle.iot_tree.specs.declared.kinds.Kind.{Kind}
use Rattle.iot_tree.specs.declared.kinds.Kind.TheVariants as kinds
use Rattle.iot_tree.specs.declared.nodes.Mode.{Mode}
use Rattle.iot_tree.specs.declared.nodes.Mode.TheVariants as modes
use Rattle.iot_tree.specs.declared.questions.Question.TheVariants as asks
use Rattle.iot_tree.specs.declared.questions.Answer.{Answer}
use Rattle.iot_tree.specs.declared.questions.Answer.TheVariants.{Away, Absent, IsDir, IsFile, Bytes, Names, On, Off}
use Rattle.iot_tree.specs.declared.updates.Update.{Update}
use Rattle.iot_tree.specs.declared.updates.Update.TheVariants as updates
use Rattle.iot_lang.specs.declared.words.Piece.{Piece}
use Rattle.iot_lang.specs.declared.words.Command.{Command}
use Rattle.iot_lang.specs.declared.words.Command.TheVariants.{Echo, Set, Read, MakeDir, RemoveDir, Remove, Write, Append, Copy, Concat}
use Rattle.iot_lang.specs.declared.words.Command.TheVariants.{Move, Cat, List as Ls, Keep, Chmod}
use Rattle.iot_lang.specs.declared.words.Switch.{Switch}
use Rattle.iot_lang.specs.declared.words.Switch.TheVariants as switches
use Rattle.iot_lang.specs.declared.words.Cond.{Cond}
use Rattle.iot_lang.specs.declared.words.Cond.TheVariants as conditions
use Rattle.iot_acts.specs.Paths.{parent_path, is_at_or_below}
use Rattle.iot_exec.specs.Plans.{Plan, Done, Ask, mapped, Effect, silent, going_on}
use Rattle.iot_exec.specs.Values.{with_ok}
use Rattle.iot_exec.specs.Operands.{is_too_large, word_operand, path_operand}
use Rattle.iot_exec.specs.declared.env.Env.{Env}
use Rattle.iot_exec.specs.Endings.{ending, refused}
use Rattle.iot_exec.specs.declared.endings.Success.{Success}
use Rattle.iot_exec.specs.declared.endings.Success.TheVariants.{Makes, Prints, Sets}
use Rattle.iot_exec.specs.declared.endings.Refusal.{Refusal}
use Rattle.iot_exec.specs.declared.endings.Refusal.TheVariants.{At}
use Rattle.iot_exec.specs.declared.endings.Reason.{Reason}
use Rattle.iot_exec.specs.declared.endings.Reason.TheVariants as because

-- the files that `keep` reads
abbrev pub Kept : Type 0
Kept = FinMap path_cmp (List ℕ)

-- the first contents that a list has at each path
abbrev pub kept_files : List (Path × List ℕ) → Kept
kept_files files = from_entries files

-- ---- how the table ends

-- what a command comes to: what it does, or why it is refused
abbrev pub Ending : Type 0
Ending = Result Success Refusal

abbrev pub makes : Update → Plan Ending
makes update = Done (Ok (Makes update))

abbrev pub prints : List (List ℕ) → Plan Ending
prints lines = Done (Ok (Prints lines))

abbrev pub sets : List ℕ → List ℕ → Plan Ending
sets variable value = Done (Ok (Sets variable value))

-- refused for a reason at a path
abbrev pub fails : Path → Reason → Plan Ending
fails path reason = Done (Err (At path reason))

-- what is there is given to what comes next, or the refusal is the end
abbrev pub given : {A B : Type 0} → Result A Refusal → (A → Plan (Result B Refusal)) → Plan (Result B Refusal)
given (Err refusal) next = Done (Err refusal)
given (Ok value) next = next value

-- ---- questions that several commands ask

-- goes on if the parent is a directory
abbrev pub in_parent : Path → Plan Ending → Answer → Plan Ending
in_parent path good IsDir = good
in_parent path good Away = fails path because.NotCached
in_parent path good other = fails path because.NoDirectory

-- its refusal names the path, and not the parent
abbrev pub ask_parent : Path → Plan Ending → Plan Ending
ask_parent path good = Ask (asks.Kind (parent_path path)) (in_parent path good)

abbrev pub at_target : Path → Plan Ending → Answer → Plan Ending
at_target path good IsFile = good
at_target path good IsDir = fails path because.IsDirectory
at_target path good Absent = ask_parent path good
at_target path good other = fails path because.NotCached

-- a path that a file can be put at: a file is there, or nothing is there and the parent is a directory
abbrev pub target : Path → Plan Ending → Plan Ending
target path good = Ask (asks.Kind path) (at_target path good)

-- the contents that are answered
abbrev pub contents_or : Path → Answer → Result (List ℕ) Refusal
contents_or path (Bytes bytes) = Ok bytes
contents_or path Absent = Err (At path because.NoFile)
contents_or path other = Err (At path because.NotCached)

-- why an answer without contents has none
abbrev pub no_contents_reason : Answer → Reason
no_contents_reason Absent = because.NoFile
no_contents_reason other = because.NotCached

-- the contents of a file
abbrev pub contents : Path → (List ℕ → Plan Ending) → Plan Ending
contents path next = Ask (asks.Content path) (λ answer. given (contents_or path answer) next)

-- the names that are answered
abbrev pub names_or : Path → Answer → Result (List (List ℕ × Kind)) Refusal
names_or path (Names names) = Ok names
names_or path Absent = Err (At path because.NoDirectory)
names_or path other = Err (At path because.NotCached)

-- the names in a directory
abbrev pub names : {A : Type 0} → Path → (List (List ℕ × Kind) → Plan (Result A Refusal)) → Plan (Result A Refusal)
names path next = Ask (asks.Names path) (λ answer. given (names_or path answer) next)

-- ---- the commands

-- `echo W`
abbrev pub echo : List ℕ → Plan Ending
echo text = prints (lines (text ++ codes "\n"))

-- `read X P`
abbrev pub read : List ℕ → Path → Plan Ending
read variable path = contents path (sets variable)

-- `cat P`
abbrev pub cat : Path → Plan Ending
cat path = contents path (λ bytes. prints (lines bytes))

-- `ls P`: one line per name, with a `/` after a directory's
abbrev pub name_line : List ℕ × Kind → List ℕ
name_line (name, kinds.IsDir) = name ++ codes "/"
name_line (name, kinds.IsFile) = name
name_line (name, kinds.Absent) = name
name_line (name, kinds.Away) = name

abbrev pub list_names : Path → Plan Ending
list_names path = names path (λ names. prints (map name_line names))

-- `mkdir P`
abbrev pub at_new_dir : Path → Plan Ending → Answer → Plan Ending
at_new_dir path good Absent = ask_parent path good
at_new_dir path good IsDir = fails path because.Exists
at_new_dir path good IsFile = fails path because.Exists
at_new_dir path good other = fails path because.NotCached

abbrev pub new_dir : Path → Plan Ending → Plan Ending
new_dir path good = Ask (asks.Kind path) (at_new_dir path good)

abbrev pub make_dir : Path → Plan Ending
make_dir path = new_dir path (makes (updates.MakeDir path))

-- `write P W`
abbrev pub write : Path → List ℕ → Plan Ending
write path bytes = target path (makes (updates.Put path bytes))

-- `append P W`
abbrev pub with_more : Path → List ℕ → List ℕ → Plan Ending
with_more path more bytes =
    if is_too_large (length bytes + length more) then fails path because.TooLarge else makes (updates.Put path (bytes ++ more))

abbrev pub append : Path → List ℕ → Plan Ending
append path more = contents path (with_more path more)

-- `copy P Q`
abbrev pub copy : Path → Path → Plan Ending
copy from to = contents from (λ bytes. write to bytes)

-- `concat Q P1 P2`
abbrev pub join : Path → List ℕ → List ℕ → Plan Ending
join to one two = if is_too_large (length one + length two) then fails to because.TooLarge else write to (one ++ two)

abbrev pub concat : Path → Path → Path → Plan Ending
concat to first second = contents first (λ one. contents second (λ two. join to one two))

-- `rm P`
abbrev pub at_file : Path → Answer → Plan Ending
at_file path IsFile = makes (updates.Remove path)
at_file path IsDir = fails path because.IsDirectory
at_file path Absent = fails path because.NoFile
at_file path other = fails path because.NotCached

abbrev pub remove_file : Path → Plan Ending
remove_file path = Ask (asks.Kind path) (at_file path)

-- `chmod +x P`, `chmod -x P`
abbrev pub mode_of : Switch → Mode
mode_of switches.On = modes.On
mode_of switches.Off = modes.Off

abbrev pub at_mode : Path → Mode → Answer → Plan Ending
at_mode path mode On = makes (updates.SetMode path mode)
at_mode path mode Off = makes (updates.SetMode path mode)
at_mode path mode Absent = fails path because.NoFile
at_mode path mode other = fails path because.NotCached

abbrev pub change_mode : Mode → Path → Plan Ending
change_mode mode path = Ask (asks.Mode path) (at_mode path mode)

-- goes on if the directory is empty
abbrev pub when_empty : Path → Plan Ending → List (List ℕ × Kind) → Plan Ending
when_empty path good [] = good
when_empty path good (name ∷ names) = fails path because.NotEmpty

abbrev pub empty_dir : Path → Plan Ending → Plan Ending
empty_dir path good = names path (when_empty path good)

-- `rmdir P`
abbrev pub remove_dir : Path → Plan Ending
remove_dir path = if length path == 0 then fails path because.IsRoot else empty_dir path (makes (updates.Remove path))

-- a path that a directory can be moved to: an empty directory is there, or nothing is there and the parent is a directory
abbrev pub at_dir_target : Path → Plan Ending → Answer → Plan Ending
at_dir_target path good IsFile = fails path because.IsNoDirectory
at_dir_target path good IsDir = empty_dir path good
at_dir_target path good Absent = ask_parent path good
at_dir_target path good other = fails path because.NotCached

abbrev pub dir_target : Path → Plan Ending → Plan Ending
dir_target path good = Ask (asks.Kind path) (at_dir_target path good)

-- `mv P Q`
abbrev pub at_moved : Path → Path → Plan Ending → Answer → Plan Ending
at_moved from to good IsFile = target to good
at_moved from to good IsDir = dir_target to good
at_moved from to good Absent = fails from because.NoSuchPath
at_moved from to good other = fails from because.NotCached

abbrev pub move_target : Path → Path → Plan Ending → Plan Ending
move_target from to good = Ask (asks.Kind from) (at_moved from to good)

abbrev pub move : Path → Path → Plan Ending
move from to = if is_at_or_below to from then fails to because.IntoItself else move_target from to (makes (updates.Move from to))

-- `keep P Q`
abbrev pub at_kept : Path → Path → Option (List ℕ) → Plan Ending
at_kept from to None = fails from because.NothingKept
at_kept from to (Some bytes) = write to bytes

abbrev pub keep : Kept → Path → Path → Plan Ending
keep kept from to = at_kept from to (get kept from)

-- operands from left to right, and then the command
abbrev pub table : Kept → Env → Command → Plan Ending
table kept env (Echo w) = given (word_operand env w) echo
table kept env (Set x w) = given (word_operand env w) (λ value. sets x value)
table kept env (Read x p) = given (path_operand env p) (read x)
table kept env (Cat p) = given (path_operand env p) cat
table kept env (Ls p) = given (path_operand env p) list_names
table kept env (MakeDir p) = given (path_operand env p) make_dir
table kept env (Write p w) = given (path_operand env p) (λ path. given (word_operand env w) (write path))
table kept env (Append p w) = given (path_operand env p) (λ path. given (word_operand env w) (append path))
table kept env (Copy p q) = given (path_operand env p) (λ from. given (path_operand env q) (copy from))
table kept env (Concat q p1 p2) =
    given (path_operand env q) (λ to. given (path_operand env p1) (λ first. given (path_operand env p2) (concat to first)))
table kept env (Remove p) = given (path_operand env p) remove_file
table kept env (RemoveDir p) = given (path_operand env p) remove_dir
table kept env (Move p q) = given (path_operand env p) (λ from. given (path_operand env q) (move from))
table kept env (Chmod switch p) = given (path_operand env p) (change_mode (mode_of switch))
table kept env (Keep p q) = given (path_operand env p) (λ from. given (path_operand env q) (keep kept from))

-- the name with which a command's refusals begin
abbrev pub command_name : Command → List ℕ
command_name (Echo w) = codes "echo"
command_name (Set x w) = codes "set"
command_name (Read x p) = codes "read"
command_name (MakeDir p) = codes "mkdir"
command_name (RemoveDir p) = codes "rmdir"
command_name (Remove p) = codes "rm"
command_name (Write p w) = codes "write"
command_name (Append p w) = codes "append"
command_name (Copy p q) = codes "copy"
command_name (Concat q p1 p2) = codes "concat"
command_name (Move p q) = codes "mv"
command_name (Cat p) = codes "cat"
command_name (Ls p) = codes "ls"
command_name (Keep p q) = codes "keep"
command_name (Chmod switch p) = codes "chmod"

-- what a command asks, its update, its lines, and the variables and `ok` after it
abbrev pub plan_of_command : Kept → Env → Command → Plan (Effect Env)
plan_of_command kept env command = mapped (ending env (command_name command)) (table kept env command)

-- ---- conditions

-- if an operand is refused, the condition is false without a question
abbrev pub when : {A : Type 0} → Option A → (A → Plan Bool) → Plan Bool
when None next = Done false
when (Some value) next = next value

abbrev pub is_file : Answer → Bool
is_file IsFile = true
is_file other = false

abbrev pub is_dir : Answer → Bool
is_dir IsDir = true
is_dir other = false

abbrev pub is_on : Answer → Bool
is_on On = true
is_on other = false

-- both are contents, and they are equal
abbrev pub are_same : Answer → Answer → Bool
are_same (Bytes one) (Bytes two) = bytes_eq one two
are_same _ _ = false

abbrev pub is_file_at : Path → Plan Bool
is_file_at path = Ask (asks.Kind path) (λ answer. Done (is_file answer))

abbrev pub is_dir_at : Path → Plan Bool
is_dir_at path = Ask (asks.Kind path) (λ answer. Done (is_dir answer))

abbrev pub is_on_at : Path → Plan Bool
is_on_at path = Ask (asks.Mode path) (λ answer. Done (is_on answer))

-- both are asked always
abbrev pub are_same_at : Path → Path → Plan Bool
are_same_at first second = Ask (asks.Content first) (λ one. Ask (asks.Content second) (λ two. Done (are_same one two)))

-- the path whose text is the value of a word, if there is one
abbrev pub path_if_any : Env → List Piece → Option Path
path_if_any env word = result_ok (path_operand env word)

abbrev pub truth : Env → Cond → Plan Bool
truth env (conditions.File p) = when (path_if_any env p) is_file_at
truth env (conditions.Dir p) = when (path_if_any env p) is_dir_at
truth env (conditions.Exec p) = when (path_if_any env p) is_on_at
truth env (conditions.Same p q) = when (path_if_any env p) (λ first. when (path_if_any env q) (are_same_at first))
truth env conditions.Ok = Done env.ok

-- what a condition asks, and whether it holds; it leaves the variables and `ok`
abbrev pub plan_of_condition : Env → Cond → Plan (Effect Bool)
plan_of_condition env condition = mapped silent (truth env condition)

-- ---- loops

-- the names that a loop goes through, and the variables and `ok` with which it begins
pub record Turns : Type 0 where
  pub names : List (List ℕ)
  pub env : Env

abbrev pub name_of : List ℕ × Kind → List ℕ
name_of child = child.0

-- the names in a directory, asked once
abbrev pub turns : Env → List Piece → Plan (Result (List (List ℕ)) Refusal)
turns env path = given (path_operand env path) (λ path. names path (λ names. Done (Ok (map name_of names))))

-- a loop that is refused has no turn
abbrev pub loop_ending : Env → Result (List (List ℕ)) Refusal → Effect Turns
loop_ending env (Ok names) = silent (record { names = names; env = with_ok true env })
loop_ending env (Err refusal) = going_on (λ env. record { names = []; env = env }) (refused env (codes "for") refusal)

abbrev pub plan_of_loop : Env → List Piece → Plan (Effect Turns)
plan_of_loop env path = mapped (loop_ending env) (turns env path)
