-- What the command finds: its faults are those of the walk, and its matches are the uses and the defaults.
use Rattle.std.proofs.Common.{◌≡◌, ◌∙◌, Bool, true, false, refl, sym, ap, List, [], ◌∷◌, ◌++◌, map, Option, Some, None, codes}
use Rattle.std.proofs.Common.{cond, ◌||◌}
use Rattle.std.specs.Prelude.{fold, find, if◌then◌else◌, option_and_then, slice_get}
use Rattle.std.specs.Str.{bytes_eq}
use Rattle.std.specs.Option.{option_or}
use Rattle.std.proofs.lemmas.Bool.{false≢true}
use Rattle.std.proofs.lemmas.List.Folds.{find-append}
use Rattle.std.proofs.lemmas.Slice.Eq.{bytes_eq-Decides}
use Rattle.clap.specs.Kinds.{Kinds, or_else}
use Rattle.clap.specs.Faults.{default_fault, defaults_fault, entered_fault, fault_of, settle_fault, walk_fault}
use Rattle.clap.specs.Simple.{built, entered, matches_of}
use Rattle.clap.specs.Walk.{Row, Text, Held, first_of, has_row, more_values, one_of, row_text, settled, walk, nothing_held, with_default}
use Rattle.clap.specs.declared.builder.value_parser.Reading.TheVariants.{AsWritten}
use Rattle.clap.specs.declared.parser.matches.ValueSource.TheVariants.{DefaultValue}
use Rattle.iot_words.specs.Command.{command}
use Rattle.iot_words.proofs.Uses.{Arg, Flag, Use, arg_name, arg_rule, args, audit, flag, gen, held, image, json, name_of, nothing, number}
use Rattle.iot_words.proofs.Uses.{row, save, state, the, top, upgrade}
use Rattle.iot_words.proofs.TurnsLaws.{or_else-nil, rules}
use Rattle.iot_words.proofs.WalksLaws.{ended, no_row, total}

-- ---- faults

no_entry : (stop : Option (Text × List Text)) → entered (built command) stop ≡ None
no_entry None = refl
no_entry (Some p) = refl

no_entry_fault : (stop : Option (Text × List Text)) → entered_fault (built command) stop ≡ []
no_entry_fault None = refl
no_entry_fault (Some p) = refl

default_passes : (rows : List Row) (a : Arg) (has : Bool) → has_row (arg_name a) rows ≡ has → default_fault rows (arg_rule a) ≡ []
default_passes rows (the f) true e = rw e refl
default_passes rows (the f) false e = rw e refl
default_passes rows number true e = rw e refl
default_passes rows number false e = rw e refl

defaults_pass : (xs : List Arg) (rows : List Row) → defaults_fault rows (map arg_rule xs) ≡ []
unfolding defaults_fault
defaults_pass [] rows = refl
defaults_pass (a ∷ xs) rows =
    rw (default_passes rows a (has_row (arg_name a) rows) refl) (defaults_pass xs (with_default rows (arg_rule a)))

pub fault_is : (words : List Text) → fault_of command words ≡ total (state [] nothing) words
fault_is words =
    let stop = (walk rules [] nothing_held words).stopped in
    rw (no_entry stop, no_entry_fault stop, defaults_pass args (settled rules (ended (state [] nothing) words)).rows)
    (ap (λ (k : Kinds). or_else (walk_fault top [] (state [] nothing) words) k)
    (or_else-nil (settle_fault rules false (ended (state [] nothing) words))))

-- ---- searches

abbrev has_id : Text → Row → Bool
has_id id r = bytes_eq r.id id

abbrev default_row : Text → Row
default_row id = record { id = id; values = codes "false" ∷ []; count = None; source = Some DefaultValue; reading = AsWritten }

-- a flag that was not used is false
abbrev defaults_of : Arg → List Row
defaults_of (the f) = default_row (name_of f) ∷ []
defaults_of number = []

abbrev defaults : List Arg → List Row
defaults [] = []
defaults (a ∷ xs) = defaults_of a ++ defaults xs

abbrev pub finally : List Row → List Row
finally rows = fold with_default rows rules

or_none : (r : Option Row) → option_or r None ≡ r
or_none None = refl
or_none (Some r) = refl

or_assoc : (r s t : Option Row) → option_or (option_or r s) t ≡ option_or r (option_or s t)
or_assoc None s t = refl
or_assoc (Some r) s t = refl

-- a row that is there is found before any default
or_found : (id : Text) (rows : List Row) (d : Option Row) → has_row id rows ≡ true
    → find (has_id id) rows ≡ option_or (find (has_id id) rows) d
or_found id [] d h = absurd (false≢true h)
or_found id (r ∷ rows) d h = go (has_id id r) h (or_found id rows d)
  where
    go : (hit : Bool) → (hit || has_row id rows) ≡ true
        → (has_row id rows ≡ true → find (has_id id) rows ≡ option_or (find (has_id id) rows) d)
        → cond hit (Some r) (find (has_id id) rows) ≡ option_or (cond hit (Some r) (find (has_id id) rows)) d
    go true h more = refl
    go false h more = more h

find_default : (id : Text) (rows : List Row) (a : Arg)
    → find (has_id id) (with_default rows (arg_rule a)) ≡ option_or (find (has_id id) rows) (find (has_id id) (defaults_of a))
find_default id rows (the f) = go (has_row (name_of f) rows) refl (bytes_eq (name_of f) id) refl
  where
    go : (has : Bool) → has_row (name_of f) rows ≡ has → (hit : Bool) → bytes_eq (name_of f) id ≡ hit
        → find (has_id id) (with_default rows (arg_rule (the f)))
        ≡ option_or (find (has_id id) rows) (find (has_id id) (default_row (name_of f) ∷ []))
    go false e hit is = rw (e, no_row (name_of f) (more_values DefaultValue (codes "false" ∷ [])) (default_row (name_of f) ∷ []) rows e)
        (find-append (has_id id) rows (default_row (name_of f) ∷ []))
    go true e false is = rw (e, is) (sym (or_none _))
    go true e true is = rw (e, is) (or_found id rows _
        (ap (λ (n : Text). has_row n rows) (sym ((bytes_eq-Decides (name_of f) id).0 is)) ∙ e))
find_default id rows number = go (has_row (codes "gen") rows) refl
  where
    go : (has : Bool) → has_row (codes "gen") rows ≡ has
        → find (has_id id) (with_default rows (arg_rule number)) ≡ option_or (find (has_id id) rows) None
    go true e = rw e (sym (or_none _))
    go false e = rw e (sym (or_none _))

find_finally : (id : Text) (xs : List Arg) (rows : List Row)
    → find (has_id id) (fold with_default rows (map arg_rule xs)) ≡ option_or (find (has_id id) rows) (find (has_id id) (defaults xs))
find_finally id [] rows = sym (or_none _)
find_finally id (a ∷ xs) rows = find_finally id xs (with_default rows (arg_rule a))
    ∙ ap (λ (r : Option Row). option_or r (find (has_id id) (defaults xs))) (find_default id rows a)
    ∙ or_assoc (find (has_id id) rows) (find (has_id id) (defaults_of a)) (find (has_id id) (defaults xs))
    ∙ ap (option_or (find (has_id id) rows)) (sym (find-append (has_id id) (defaults_of a) (defaults xs)))

-- ---- what the getters give

abbrev pub has : Text → List Use → Bool
has id us = has_row id (map row us)

abbrev pub gen_in : List Use → Option Text
gen_in [] = None
gen_in (gen v ∷ us) = Some v
gen_in (flag f ∷ us) = gen_in us

abbrev pub flag_text : Bool → Text
flag_text given = if given then codes "true" else codes "false"

-- no flag is `--gen`, and each has its default
pub flag_facts : (f : Flag) → (bytes_eq (name_of f) (codes "gen") ≡ false) × (bytes_eq (codes "gen") (name_of f) ≡ false)
    × (find (has_id (name_of f)) (defaults args) ≡ Some (default_row (name_of f)))
flag_facts json = (refl, refl, refl)
flag_facts save = (refl, refl, refl)
flag_facts image = (refl, refl, refl)
flag_facts upgrade = (refl, refl, refl)
flag_facts audit = (refl, refl, refl)

pub flag_of : (f : Flag) (us : List Use) → one_of (name_of f) (finally (map row us)) ≡ Some (flag_text (has (name_of f) us))
flag_of f us = ap (option_and_then row_text)
    (find_finally (name_of f) args (map row us) ∙ ap (option_or (find (has_id (name_of f)) (map row us))) (flag_facts f).2) ∙ among us
  where
    among : (us : List Use) → option_and_then row_text (option_or (find (has_id (name_of f)) (map row us)) (Some (default_row (name_of f))))
        ≡ Some (flag_text (has (name_of f) us))
    among [] = refl
    among (flag g ∷ us) = go (bytes_eq (name_of g) (name_of f)) (among us)
      where
        go : (hit : Bool)
            → option_and_then row_text (option_or (find (has_id (name_of f)) (map row us)) (Some (default_row (name_of f))))
            ≡ Some (flag_text (has (name_of f) us))
            → option_and_then row_text
            (option_or (cond hit (Some (row (flag g))) (find (has_id (name_of f)) (map row us))) (Some (default_row (name_of f))))
            ≡ Some (flag_text (hit || has (name_of f) us))
        go true more = refl
        go false more = more
    among (gen v ∷ us) = rw (flag_facts f).1 (among us)

pub gen_of : (us : List Use) → first_of (codes "gen") (finally (map row us)) ≡ gen_in us
gen_of us = ap first_text (find_finally (codes "gen") args (map row us) ∙ or_none _) ∙ among us
  where
    first_text : Option Row → Option Text
    first_text = option_and_then (λ r. slice_get r.values 0)

    among : (us : List Use) → first_of (codes "gen") (map row us) ≡ gen_in us
    among [] = refl
    among (gen v ∷ us) = refl
    among (flag f ∷ us) = rw (flag_facts f).0 (among us)

pub matches_are : (words : List Text) (us : List Use) → settled rules (ended (state [] nothing) words) ≡ held us nothing
    → matches_of command words ≡ finally (map row us)
matches_are words us = ap (λ (h : Held). finally h.rows)
