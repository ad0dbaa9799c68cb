-- One word: what `clap` makes of it, by its kind.
use Rattle.std.proofs.Common.{◌≡◌, ◌∙◌, ℕ, Bool, true, false, zero, suc, refl, sym, ap, List, [], ◌∷◌, length, Option, Some, None, codes}
use Rattle.std.proofs.Common.{cond, map, subst, ◌||◌}
use Rattle.std.specs.Prelude.{option_map, slice_get}
use Rattle.std.specs.Str.{bytes_eq, chars}
use Rattle.clap.specs.Lexer.{long_of, short_of}
use Rattle.clap.specs.Kinds.{Kinds, or_else}
use Rattle.clap.specs.Faults.{flags_fault, flag_word_fault, long_fault, react_fault, settle_fault, step_fault, turn_fault}
use Rattle.clap.specs.Walk.{Held, Rule, Step, Text, Waiting, after_step, arg_by_long, bundle_met, done, idle, long_met, long_or_other}
use Rattle.clap.specs.Walk.{option}
use Rattle.clap.specs.Walk.{next, positional, plain_word, reacted, settled, subcommand_met, waits, walked, plain as no_flag}
use Rattle.clap.specs.declared.error.kind.ErrorKind.{ErrorKind}
use Rattle.clap.specs.declared.error.kind.ErrorKind.TheVariants.{UnknownArgument}
use Rattle.iot_words.proofs.Uses.{Arg, arg_kind, arg_named, arg_rule, args, name_of, number, the}
use Rattle.iot_words.proofs.Uses.{Kind, Use, Wait, ends, given, given_to, held, kind, name_kind, names, nothing, plain, rule, short_kind}
use Rattle.iot_words.proofs.Uses.{state, top, unknown, waiting, walk_at, wanting, wants}

abbrev pub rules : List Rule
rules = top.rules

pub or_else-nil : (fault : Kinds) → or_else fault [] ≡ fault
or_else-nil [] = refl
or_else-nil (k ∷ ks) = refl

-- ---- `--name` and `--name=value`

-- the argument of a name, among the rules and among the arguments
rule_named : (name : Text) (xs : List Arg) → arg_by_long (map arg_rule xs) name ≡ option_map arg_rule (arg_named name xs)
rule_named name [] = refl
rule_named name (a ∷ xs) = by_kind a (rule_named name xs)
  where
    first : (a : Arg) (hit : Bool) → cond (hit || false) (Some (arg_rule a)) (option_map arg_rule (arg_named name xs))
        ≡ option_map arg_rule (cond hit (Some a) (arg_named name xs))
    first a true = refl
    first a false = refl

    by_kind : (a : Arg) → arg_by_long (map arg_rule xs) name ≡ option_map arg_rule (arg_named name xs)
        → arg_by_long (map arg_rule (a ∷ xs)) name ≡ option_map arg_rule (arg_named name (a ∷ xs))
    by_kind (the f) more = ap (cond (bytes_eq (name_of f) name || false) (Some (arg_rule (the f)))) more
        ∙ first (the f) (bytes_eq (name_of f) name)
    by_kind number more = ap (cond (bytes_eq (codes "gen") name || false) (Some (arg_rule number))) more
        ∙ first number (bytes_eq (codes "gen") name)

abbrev pub LongIs : Option Rule → Option Text → Kind → Type 0
LongIs a v (names u) = (h : Held)
    → (long_fault rules false a v h ≡ react_fault rules false (rule u) (given_to u) h)
    × (long_met rules a v h ≡ (reacted rules (rule u) (given_to u) h, done))
LongIs a v wants = (h : Held) → (long_fault rules false a v h ≡ settle_fault rules false h)
    × (long_met rules a v h ≡ (record (settled rules h) { pending = Some (codes "gen", []) }, waits (codes "gen")))
LongIs a v (unknown fault) = (h : Held) → long_fault rules false a v h ≡ fault ∷ []
LongIs a v ends = ⊥
LongIs a v plain = ⊥

arg_is : (a : Option Arg) (v : Option Text) → LongIs (option_map arg_rule a) v (arg_kind a v)
arg_is None v = λ h. refl
arg_is (Some (the f)) None = λ h. (refl, refl)
arg_is (Some (the f)) (Some v) = λ h. refl
arg_is (Some number) None = λ h. (refl, refl)
arg_is (Some number) (Some v) = λ h. (refl, refl)

long_is : (name : Text) (v : Option Text) → LongIs (arg_by_long rules name) v (name_kind name v)
long_is name v =
    subst (λ (a : Option Rule). LongIs a v (name_kind name v)) (sym (rule_named name args)) (arg_is (arg_named name args) v)

-- ---- a word that is not `--`

-- what a word does that is no subcommand and not `--`
abbrev met : List Use → Wait → Text → Held × Step
met us wait word = long_or_other rules (waiting wait) word (long_of word) (held us wait)

no_subcommand : (at : Waiting) (word : Text) → subcommand_met [] at word ≡ None
no_subcommand idle word = refl
no_subcommand (option id) word = refl
no_subcommand positional word = refl

turn_is : (us : List Use) (wait : Wait) (word : Text) → bytes_eq word (codes "--") ≡ false
    → turn_fault top [] (state us wait) word
    ≡ or_else (flag_word_fault rules false (long_of word) word (held us wait)) (step_fault top 1 (met us wait word).0 (met us wait word).1)
turn_is us wait word e = rw (no_subcommand (waiting wait) word, e) refl

walked_is : (us : List Use) (wait : Wait) (word : Text) → bytes_eq word (codes "--") ≡ false
    → walked rules [] (state us wait) word ≡ after_step rules word (state us wait) (met us wait word).0 (met us wait word).1
unfolding walked
walked_is us wait word e = rw (no_subcommand (waiting wait) word, e) refl

-- ---- turns by kinds

abbrev pub TurnIs : List Use → Wait → Text → Kind → Type 0
TurnIs us wait word (names u) =
    (turn_fault top [] (state us wait) word ≡ react_fault rules false (rule u) (given_to u) (held us wait))
    × (walked rules [] (state us wait) word ≡ walk_at (reacted rules (rule u) (given_to u) (held us wait)) idle)
TurnIs us wait word wants = (turn_fault top [] (state us wait) word ≡ settle_fault rules false (held us wait))
    × (walked rules [] (state us wait) word
    ≡ walk_at (record (settled rules (held us wait)) { pending = Some (codes "gen", []) }) (option (codes "gen")))
TurnIs us wait word ends = (turn_fault top [] (state us wait) word ≡ [])
    × (walked rules [] (state us wait) word ≡ record (state us wait) { is_trailing = true })
TurnIs us wait word (unknown fault) = turn_fault top [] (state us wait) word ≡ [] → ⊥
TurnIs us nothing word plain = turn_fault top [] (state us nothing) word ≡ [] → ⊥
TurnIs us wanting word plain = (turn_fault top [] (state us wanting) word ≡ [])
    × (walked rules [] (state us wanting) word ≡ state us (given word))
TurnIs us (given v) word plain = turn_fault top [] (state us (given v)) word ≡ [] → ⊥

some_kind : (fault : ErrorKind) (more : Kinds) → fault ∷ more ≡ [] → ⊥
some_kind fault more e = cc

pub end_turn : (us : List Use) (wait : Wait) (word : Text) → bytes_eq word (codes "--") ≡ true → TurnIs us wait word ends
unfolding walked
end_turn us wait word e = (rw (no_subcommand (waiting wait) word, e) refl, rw (no_subcommand (waiting wait) word, e) refl)

pub long_turn : (us : List Use) (wait : Wait) (word : Text) → bytes_eq word (codes "--") ≡ false → (p : Text × Option Text)
    → long_of word ≡ Some p
    → (k : Kind) → LongIs (arg_by_long rules p.0) p.1 k → TurnIs us wait word k
long_turn us wait word e p long (names u) is =
    let step : met us wait word ≡ (reacted rules (rule u) (given_to u) (held us wait), next idle) = rw (long, (is (held us wait)).1) refl in
    (turn_is us wait word e ∙ rw (step, long, (is (held us wait)).0) (or_else-nil _), walked_is us wait word e ∙ rw step refl)
long_turn us wait word e p long wants is =
    let step : met us wait word ≡ (
      record (settled rules (held us wait)) { pending = Some (codes "gen", []) },
      next (option (codes "gen")),
    ) =
    rw (long, (is (held us wait)).1) refl in
    (turn_is us wait word e ∙ rw (step, long, (is (held us wait)).0) (or_else-nil _), walked_is us wait word e ∙ rw step refl)
long_turn us wait word e p long (unknown fault) is =
    let first : flag_word_fault rules false (long_of word) word (held us wait) ≡ fault ∷ [] = rw long (is (held us wait)) in
    λ none. some_kind fault [] (ap (λ k. or_else k (step_fault top 1 (met us wait word).0 (met us wait word).1)) (sym first)
    ∙ sym (turn_is us wait word e) ∙ none)
long_turn us wait word e p long ends is = absurd is
long_turn us wait word e p long plain is = absurd is

-- ---- words that begin with one hyphen or none

no_char_fault : (count : ℕ) (flags : Text) (h : Held) → slice_get (chars flags) 0 ≡ None → flags_fault rules false count flags 0 h ≡ []
unfolding flags_fault
no_char_fault zero flags h none = refl
no_char_fault (suc count) flags h none = rw none refl

no_char_met : (count : ℕ) (flags : Text) (h : Held) → slice_get (chars flags) 0 ≡ None
    → bundle_met rules count flags 0 no_flag h ≡ (h, no_flag)
unfolding bundle_met
no_char_met zero flags h none = refl
no_char_met (suc count) flags h none = rw none refl

-- a word with a hyphen before a character is an unknown flag
flag_turn : (us : List Use) (wait : Wait) (word : Text) → bytes_eq word (codes "--") ≡ false → long_of word ≡ None
    → (flags : Text) → short_of word ≡ Some flags → (x : ℕ) → slice_get (chars flags) 0 ≡ Some x
    → turn_fault top [] (state us wait) word ≡ [] → ⊥
unfolding flags_fault chars
flag_turn us wait word e long [] short x first none = absurd cc
flag_turn us wait word e long (f ∷ flags) short x first none =
    let fault : flag_word_fault rules false (long_of word) word (held us wait) ≡ UnknownArgument ∷ [] = rw (long, short, first) refl in
    some_kind UnknownArgument [] (ap (λ k. or_else k (step_fault top 1 (met us wait word).0 (met us wait word).1)) (sym fault)
    ∙ sym (turn_is us wait word e) ∙ none)

-- a word that is no flag: it is the value that `--gen` waits for, or it is refused
value_turn : (us : List Use) (wait : Wait) (word : Text) → bytes_eq word (codes "--") ≡ false
    → flag_word_fault rules false (long_of word) word (held us wait) ≡ [] → met us wait word
    ≡ plain_word rules (waiting wait) word (held us wait)
    → TurnIs us wait word plain
value_turn us nothing word e fault step =
    λ none. some_kind UnknownArgument [] (sym (turn_is us nothing word e ∙ rw (fault, step) refl) ∙ none)
value_turn us wanting word e fault step =
    (turn_is us wanting word e ∙ rw (fault, step) refl, walked_is us wanting word e ∙ rw step refl)
value_turn us (given v) word e fault step =
    λ none. some_kind UnknownArgument [] (sym (turn_is us (given v) word e ∙ rw (fault, step) refl) ∙ none)

short_turn : (us : List Use) (wait : Wait) (word : Text) → bytes_eq word (codes "--") ≡ false → long_of word ≡ None
    → (flags : Option Text) → short_of word ≡ flags → TurnIs us wait word (short_kind flags)
short_turn us wait word e long None short = value_turn us wait word e (rw (long, short) refl) (rw (long, short) refl)
short_turn us wait word e long (Some flags) short = go (slice_get (chars flags) 0) refl
  where
    go : (first : Option ℕ) → slice_get (chars flags) 0 ≡ first → TurnIs us wait word (short_kind (Some flags))
    go None none = rw none (value_turn us wait word e
        (rw (long, short) (no_char_fault (length flags) flags (held us wait) none))
        (rw (long, short, no_char_met (length flags) flags (held us wait) none) refl))
    go (Some x) first = rw first (flag_turn us wait word e long flags short x first)

-- ---- the turn

pub turns : (us : List Use) (wait : Wait) (word : Text) → TurnIs us wait word (kind word)
turns us wait word = go (bytes_eq word (codes "--")) refl (long_of word) refl
  where
    go : (last : Bool) → bytes_eq word (codes "--") ≡ last → (p : Option (Text × Option Text)) → long_of word ≡ p
        → TurnIs us wait word (kind word)
    go true e p long = rw e (end_turn us wait word e)
    go false e (Some p) long = rw (e, long) (long_turn us wait word e p long (name_kind p.0 p.1) (long_is p.0 p.1))
    go false e None long = rw (e, long) (short_turn us wait word e long (short_of word) refl)
