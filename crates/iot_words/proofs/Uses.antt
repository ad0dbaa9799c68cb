-- What the words name, one after the other, in the steps of `clap`'s walk over them: the flags and options that were used so
-- far, and whether `--gen` waits for its value.
use Rattle.std.specs.Prelude.{Bool, true, false, List, [], ◌∷◌, ◌++◌, map, Option, Some, None, is_some, if◌then◌else◌, codes, slice_get}
use Rattle.std.specs.Prelude.{find}
use Rattle.std.specs.Str.{bytes_eq, chars}
use Rattle.clap.specs.Lexer.{long_of, short_of}
use Rattle.clap.specs.Walk.{Held, Row, Rule, Text, Waiting, Walk, idle, option, has_row}
use Rattle.clap.specs.Simple.{Shape, built, filled, new_rule}
use Rattle.clap.specs.declared.builder.action.ArgAction.TheVariants.{SetTrue}
use Rattle.clap.specs.declared.builder.value_parser.Reading.TheVariants.{AsWritten}
use Rattle.clap.specs.declared.error.kind.ErrorKind.{ErrorKind}
use Rattle.clap.specs.declared.error.kind.ErrorKind.TheVariants.{TooManyValues, UnknownArgument}
use Rattle.clap.specs.declared.parser.matches.ValueSource.TheVariants.{CommandLine}
use Rattle.iot_words.specs.Command.{command, gen_rule}

-- ---- uses

pub data Flag : Type 0 where
  json : Flag
  save : Flag
  image : Flag
  upgrade : Flag
  audit : Flag

pub data Use : Type 0 where
  flag : Flag → Use
  gen : Text → Use

-- what waits for the next word: nothing; `--gen`, for its value; or nothing, where its value was just given
pub data Wait : Type 0 where
  nothing : Wait
  wanting : Wait
  given : Text → Wait

abbrev pub top : Shape
top = (built command).top

abbrev pub name_of : Flag → Text
name_of json = codes "json"
name_of save = codes "save"
name_of image = codes "image"
name_of upgrade = codes "upgrade"
name_of audit = codes "audit"

-- what building makes of a flag
abbrev pub flag_rule : Text → Rule
flag_rule name = filled (record (new_rule name) { long = Some name; action = Some SetTrue })

-- the command's arguments
pub data Arg : Type 0 where
  the : Flag → Arg
  number : Arg

abbrev pub args : List Arg
args = the json ∷ number ∷ the save ∷ the image ∷ the upgrade ∷ the audit ∷ []

abbrev pub arg_name : Arg → Text
arg_name (the f) = name_of f
arg_name number = codes "gen"

abbrev pub arg_rule : Arg → Rule
arg_rule (the f) = flag_rule (name_of f)
arg_rule number = filled gen_rule

abbrev pub rule : Use → Rule
rule (flag f) = arg_rule (the f)
rule (gen v) = arg_rule number

-- the values that the words give it
abbrev pub given_to : Use → List Text
given_to (flag f) = []
given_to (gen v) = v ∷ []

abbrev pub row_with : Text → Text → Row
row_with id v = record { id = id; values = v ∷ []; count = None; source = Some CommandLine; reading = AsWritten }

abbrev pub row : Use → Row
row (flag f) = row_with (name_of f) (codes "true")
row (gen v) = row_with (codes "gen") v

-- the uses with one more, which may not be a second one
abbrev pub add : Use → List Use → Option (List Use)
add u us = if has_row (row u).id (map row us) then None else Some (us ++ u ∷ [])

abbrev pub settle : List Use → Wait → Option (List Use)
settle us nothing = Some us
settle us wanting = None
settle us (given v) = add (gen v) us

abbrev pub bind : Option (List Use) → (List Use → Option (List Use)) → Option (List Use)
bind None next = None
bind (Some us) next = next us

-- ---- words

pub data Kind : Type 0 where
  ends : Kind
  names : Use → Kind
  wants : Kind
  unknown : ErrorKind → Kind
  plain : Kind

abbrev pub arg_kind : Option Arg → Option Text → Kind
arg_kind None v = unknown UnknownArgument
arg_kind (Some (the f)) None = names (flag f)
arg_kind (Some (the f)) (Some v) = unknown TooManyValues
arg_kind (Some number) None = wants
arg_kind (Some number) (Some v) = names (gen v)

abbrev pub arg_named : Text → List Arg → Option Arg
arg_named name = find (λ a. bytes_eq (arg_name a) name)

abbrev pub name_kind : Text → Option Text → Kind
name_kind name = arg_kind (arg_named name args)

abbrev pub short_kind : Option Text → Kind
short_kind None = plain
short_kind (Some flags) = if is_some (slice_get (chars flags) 0) then unknown UnknownArgument else plain

abbrev pub flag_kind : Option (Text × Option Text) → Text → Kind
flag_kind (Some p) word = name_kind p.0 p.1
flag_kind None word = short_kind (short_of word)

abbrev pub kind : Text → Kind
kind word = if bytes_eq word (codes "--") then ends else flag_kind (long_of word) word

-- what follows a word of this kind
abbrev pub by_kind : Kind → List Use → Wait → Bool → (next wanted : List Use → Option (List Use)) → (value : Option (List Use))
    → Option (List Use)
by_kind ends us wait last next wanted value = if last then settle us wait else None
by_kind (names u) us wait last next wanted value = bind (bind (settle us wait) (add u)) next
by_kind wants us wait last next wanted value = bind (settle us wait) wanted
by_kind (unknown fault) us wait last next wanted value = None
by_kind plain us nothing last next wanted value = None
by_kind plain us wanting last next wanted value = value
by_kind plain us (given v) last next wanted value = None

abbrev pub is_last : List Text → Bool
is_last [] = true
is_last (word ∷ rest) = false

-- the uses that the words name after these, if the command takes them
abbrev pub spelled : List Use → Wait → List Text → Option (List Use)
spelled us wait [] = settle us wait
spelled us wait (word ∷ rest) = by_kind (kind word) us wait (is_last rest) (λ more. spelled more nothing rest)
    (λ more. spelled more wanting rest) (spelled us (given word) rest)

-- ---- the walk

abbrev pub pending : Wait → Option (Text × List Text)
pending nothing = None
pending wanting = Some (codes "gen", [])
pending (given v) = Some (codes "gen", v ∷ [])

abbrev pub waiting : Wait → Waiting
waiting nothing = idle
waiting wanting = option (codes "gen")
waiting (given v) = idle

abbrev pub held : List Use → Wait → Held
held us wait = record { rows = map row us; pending = pending wait; skip = 0 }

abbrev pub walk_at : Held → Waiting → Walk
walk_at h waits = record { held = h; waiting = waits; position = 1; is_trailing = false; stopped = None }

abbrev pub state : List Use → Wait → Walk
state us wait = walk_at (held us wait) (waiting wait)
