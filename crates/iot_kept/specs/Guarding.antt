-- Whether reads guard an update, as tests.
use Rattle.std.specs.Prelude.{Bool, true, false, not, ◌&&◌, ◌||◌, ◌==◌, length, List, Option, Some, None, bytes_eq}
use Rattle.std.specs.List.{list_any}
use Rattle.std.specs.Cmp.Lexicographic.{pointwise}
use Rattle.iot_tree.specs.Tree.{Path}
use Rattle.iot_tree.specs.declared.updates.Update.{Update}
use Rattle.iot_tree.specs.declared.updates.Update.TheVariants.{Put, MakeDir, Remove, Move, SetMode}
use Rattle.iot_tree.specs.declared.acts.Read.{Read}
use Rattle.iot_tree.specs.declared.questions.Question.{Question}
use Rattle.iot_tree.specs.declared.questions.Question.TheVariants.{Kind, Content, Names, Mode}
use Rattle.iot_tree.specs.declared.questions.Answer.{Answer}
use Rattle.iot_tree.specs.declared.questions.Answer.TheVariants as answers
use Rattle.iot_acts.specs.Paths.{parent_path, is_at_or_below}
use Rattle.iot_kept.specs.declared.guards.Saying.{Saying}
use Rattle.iot_kept.specs.declared.guards.Saying.TheVariants as sayings

-- the answer to the question for the kind says so
abbrev pub is_kind : Saying → Answer → Bool
is_kind sayings.Absent answers.Absent = true
is_kind sayings.IsDir answers.IsDir = true
is_kind sayings.IsFile answers.IsFile = true
is_kind saying answer = false

-- the answer to the question for the contents does
abbrev pub is_contents : Saying → Answer → Bool
is_contents sayings.HasBytes (answers.Bytes bytes) = true
is_contents saying answer = false

-- the answer is that there are no names
abbrev pub has_no_names : Answer → Bool
has_no_names (answers.Names children) = length children == 0
has_no_names answers.Away = false
has_no_names answers.Absent = false
has_no_names answers.IsDir = false
has_no_names answers.IsFile = false
has_no_names (answers.Bytes bytes) = false
has_no_names answers.On = false
has_no_names answers.Off = false

-- the answer to the question for the names says so
abbrev pub is_no_names : Saying → Answer → Bool
is_no_names sayings.IsEmpty answer = has_no_names answer
is_no_names saying answer = false

-- the answer to the question for the mode does
abbrev pub is_mode : Saying → Answer → Bool
is_mode sayings.HasMode answers.On = true
is_mode sayings.HasMode answers.Off = true
is_mode saying answer = false

-- the question is about the path, and its answer says so
abbrev pub is_said : Path → Saying → Question → Answer → Bool
is_said path saying (Kind at) answer = pointwise bytes_eq at path && is_kind saying answer
is_said path saying (Content at) answer = pointwise bytes_eq at path && is_contents saying answer
is_said path saying (Names at) answer = pointwise bytes_eq at path && is_no_names saying answer
is_said path saying (Mode at) answer = pointwise bytes_eq at path && is_mode saying answer

abbrev pub says : Path → Saying → Read → Bool
says path saying read = is_said path saying read.question read.answer

-- one of the reads says so of the path
abbrev pub said : List Read → Path → Saying → Bool
said reads path saying = list_any (says path saying) reads

abbrev pub is_free : List Read → Path → Bool
is_free reads path = said reads path sayings.Absent && said reads (parent_path path) sayings.IsDir

abbrev pub guards_put : List Read → Path → Bool
guards_put reads path = said reads path sayings.IsFile || (said reads path sayings.HasBytes || is_free reads path)

abbrev pub is_root : Path → Bool
is_root path = length path == 0

abbrev pub guards_remove : List Read → Path → Bool
guards_remove reads path = not (is_root path) && (said reads path sayings.IsFile || said reads path sayings.IsEmpty)

abbrev pub guards_move : List Read → Path → Path → Bool
guards_move reads from to =
    (said reads from sayings.IsFile && said reads to sayings.IsFile)
    || ((said reads from sayings.IsDir && said reads to sayings.IsEmpty)
    || ((said reads from sayings.IsDir || said reads from sayings.IsFile) && is_free reads to))

abbrev pub may_move : List Read → Path → Path → Bool
may_move reads from to =
    not (is_root from) && (not (is_root to) && (not (is_at_or_below to from) && guards_move reads from to))

abbrev pub guards : List Read → Option Update → Bool
guards reads None = true
guards reads (Some (Put path bytes)) = guards_put reads path
guards reads (Some (MakeDir path)) = is_free reads path
guards reads (Some (Remove path)) = guards_remove reads path
guards reads (Some (Move from to)) = may_move reads from to
guards reads (Some (SetMode path mode)) = said reads path sayings.HasMode
