-- All the words: `clap` takes them exactly if they spell uses, and then holds the rows of these.
use Rattle.std.proofs.Common.{◌≡◌, ◌∙◌, Bool, true, false, refl, sym, ap, subst, List, [], ◌∷◌, ◌++◌, map, Option, Some, None, codes}
use Rattle.std.proofs.Common.{append-nil}
use Rattle.std.specs.Prelude.{fold, ⊤, if◌then◌else◌}
use Rattle.std.specs.Str.{bytes_eq}
use Rattle.std.proofs.lemmas.Bool.{or_parts}
use Rattle.std.proofs.lemmas.List.{map-append}
use Rattle.clap.specs.Kinds.{Kinds, or_else}
use Rattle.clap.specs.Faults.{react_fault, settle_fault, turn_fault, use_fault, walk_fault}
use Rattle.clap.specs.Walk.{Held, Row, Text, Walk, at_row, has_row, idle, more_values, option, reacted, settled, used, walked}
use Rattle.clap.specs.Walk.{with_values, without}
use Rattle.clap.specs.declared.builder.value_parser.Reading.TheVariants.{AsWritten}
use Rattle.clap.specs.declared.error.kind.ErrorKind.{ErrorKind}
use Rattle.clap.specs.declared.error.kind.ErrorKind.TheVariants.{ArgumentConflict, InvalidValue, UnknownArgument}
use Rattle.clap.specs.declared.parser.matches.ValueSource.TheVariants.{CommandLine}
use Rattle.iot_words.proofs.Uses.{Kind, Use, Wait, add, bind, by_kind, ends, flag, gen, given, given_to, held, is_last, kind}
use Rattle.iot_words.proofs.Uses.{name_of, names, nothing, plain}
use Rattle.iot_words.proofs.Uses.{row, rule, settle, spelled, state, top, unknown, walk_at, wanting, wants}
use Rattle.iot_words.proofs.TurnsLaws.{TurnIs, rules, turns}

-- ---- first faults

or_else-first : (first next : Kinds) → or_else first next ≡ [] → first ≡ []
or_else-first [] next none = refl
or_else-first (k ∷ ks) next none = none

or_else-assoc : (first second third : Kinds) → or_else (or_else first second) third ≡ or_else first (or_else second third)
or_else-assoc [] second third = refl
or_else-assoc (k ∷ ks) second third = refl

some_kind : (fault : ErrorKind) (more : Kinds) → fault ∷ more ≡ [] → ⊥
some_kind fault more e = cc

-- ---- rows

pub no_row : (id : Text) (change : Row → List Row) (missing rows : List Row) → has_row id rows ≡ false → at_row id change missing rows
    ≡ rows ++ missing
no_row id change missing [] none = refl
no_row id change missing (r ∷ rows) none =
    let parts = or_parts (bytes_eq r.id id) (has_row id rows) none in
    rw parts.0 (ap (λ more. r ∷ more) (no_row id change missing rows parts.1))

new_row : (id v : Text) (rows : List Row) → has_row id rows ≡ false
    → with_values id AsWritten CommandLine (v ∷ []) (without id rows)
    ≡ rows ++ record { id = id; values = v ∷ []; count = None; source = Some CommandLine; reading = AsWritten } ∷ []
new_row id v rows none = rw (no_row id (λ r. []) [] rows none, append-nil rows) (no_row id (more_values CommandLine (v ∷ [])) _ rows none)

-- ---- uses that are apart: the first two are not of one flag

abbrev pub Apart : List Use → Type 0
Apart [] = ⊤
Apart (u ∷ []) = ⊤
Apart (u ∷ v ∷ us) = bytes_eq (row u).id (row v).id ≡ false

add-Apart : (us : List Use) (u : Use) → Apart us → has_row (row u).id (map row us) ≡ false → Apart (us ++ u ∷ [])
add-Apart [] u apart new = tt
add-Apart (x ∷ []) u apart new = (or_parts (bytes_eq (row x).id (row u).id) false new).0
add-Apart (x ∷ y ∷ us) u apart new = apart

-- the fault is none, and these uses are held; or there is a fault
abbrev pub Agrees : Option (List Use) → Kinds → Held → Type 0
Agrees None fault h = fault ≡ [] → ⊥
Agrees (Some us) fault h = (fault ≡ []) × (h ≡ held us nothing) × Apart us

bind-Agrees : (r : Option (List Use)) (next : List Use → Option (List Use)) (first second : Kinds) (h after : Held) → Agrees r first h
    → ((us : List Use) → h ≡ held us nothing → Apart us → Agrees (next us) second after) → Agrees (bind r next) (or_else first second) after
bind-Agrees None next first second h after agrees go = λ none. agrees (or_else-first first second none)
bind-Agrees (Some us) next first second h after agrees go =
    subst (λ (k : Kinds). Agrees (next us) (or_else k second) after) (sym agrees.0) (go us agrees.1 agrees.2)

abbrev holding : List Row → Held
holding rows = record { rows = rows; pending = None; skip = 0 }

use-Agrees : (u : Use) (us : List Use) → Apart us
    → Agrees (add u us) (use_fault false (rule u) (given_to u) (map row us)) (holding (used (rule u) (given_to u) (map row us)))
use-Agrees (flag f) us apart = go (has_row (name_of f) (map row us)) refl
  where
    go : (again : Bool) → has_row (name_of f) (map row us) ≡ again
        → Agrees (add (flag f) us) (use_fault false (rule (flag f)) (given_to (flag f)) (map row us))
        (holding (used (rule (flag f)) (given_to (flag f)) (map row us)))
    go true e = rw e (some_kind ArgumentConflict [])
    go false e = rw e (
      refl,
      ap holding (new_row (name_of f) (codes "true") (map row us) e ∙ sym (map-append row us (flag f ∷ []))),
      add-Apart us (flag f) apart e,
    )
use-Agrees (gen v) us apart = go (has_row (codes "gen") (map row us)) refl
  where
    go : (again : Bool) → has_row (codes "gen") (map row us) ≡ again
        → Agrees (add (gen v) us) (use_fault false (rule (gen v)) (given_to (gen v)) (map row us))
        (holding (used (rule (gen v)) (given_to (gen v)) (map row us)))
    go true e = rw e (some_kind ArgumentConflict [])
    go false e = rw e (
      refl,
      ap holding (new_row (codes "gen") v (map row us) e ∙ sym (map-append row us (gen v ∷ []))),
      add-Apart us (gen v) apart e,
    )

settle-Agrees : (us : List Use) (wait : Wait) → Apart us
    → Agrees (settle us wait) (settle_fault rules false (held us wait)) (settled rules (held us wait))
settle-Agrees us nothing apart = (refl, refl, apart)
settle-Agrees us wanting apart = some_kind InvalidValue []
settle-Agrees us (given v) apart = use-Agrees (gen v) us apart

react-Agrees : (u : Use) (us : List Use) (wait : Wait) → Apart us → Agrees (bind (settle us wait) (add u))
    (react_fault rules false (rule u) (given_to u) (held us wait)) (reacted rules (rule u) (given_to u) (held us wait))
react-Agrees u us wait apart = bind-Agrees (settle us wait) (add u) (settle_fault rules false (held us wait)) _
    (settled rules (held us wait)) _
    (settle-Agrees us wait apart)
    (λ more same apart'. subst (λ (h : Held). Agrees (add u more) (use_fault false (rule u) (given_to u) h.rows)
    (holding (used (rule u) (given_to u) h.rows))) (sym same) (use-Agrees u more apart'))

-- ---- the walk

abbrev pub ended : Walk → List Text → Held
ended w words = (fold (walked rules []) w words).held

abbrev pub total : Walk → List Text → Kinds
total w words = or_else (walk_fault top [] w words) (settle_fault rules false (ended w words))

-- what is said of the walk over words from here on
abbrev pub WalkAgrees : Option (List Use) → Walk → List Text → Type 0
WalkAgrees r w words = Agrees r (total w words) (settled rules (ended w words))

module _ (us : List Use) (wait : Wait) (word : Text) (rest : List Text) (apart : Apart us) where
  abbrev here : Kinds
  here = turn_fault top [] (state us wait) word

  abbrev after : Walk
  after = walked rules [] (state us wait) word

  ends-Agrees : (words : List Text) → here ≡ [] → after ≡ record (state us wait) { is_trailing = true }
      → Agrees (if is_last words then settle us wait else None) (or_else here (total after words)) (settled rules (ended after words))
  unfolding walk_fault walked
  ends-Agrees [] none goes =
      subst (λ (w : Walk). Agrees (settle us wait) (or_else here (total w [])) (settled rules (ended w []))) (sym goes)
      (subst (λ (k : Kinds). Agrees (settle us wait) (or_else k (settle_fault rules false (held us wait))) (settled rules (held us wait)))
      (sym none) (settle-Agrees us wait apart))
  ends-Agrees (next ∷ words) none goes =
      subst (λ (w : Walk). or_else here (total w (next ∷ words)) ≡ [] → ⊥) (sym goes)
      (subst (λ (k : Kinds). or_else k (total (record (state us wait) { is_trailing = true }) (next ∷ words)) ≡ [] → ⊥) (sym none)
      (some_kind UnknownArgument _))

  -- what the recursion gives, by what the next word finds
  abbrev Next : Type 0
  Next = (more : List Use) → Apart more → WalkAgrees (spelled more nothing rest) (state more nothing) rest

  abbrev Wanted : Type 0
  Wanted = (more : List Use) → Apart more → WalkAgrees (spelled more wanting rest) (state more wanting) rest

  abbrev Spelled : Kind → Option (List Use)
  Spelled k = by_kind k us wait (is_last rest) (λ more. spelled more nothing rest) (λ more. spelled more wanting rest)
      (spelled us (given word) rest)

  names-Agrees : (u : Use) → here ≡ react_fault rules false (rule u) (given_to u) (held us wait)
      → after ≡ walk_at (reacted rules (rule u) (given_to u) (held us wait)) idle → Next
      → Agrees (Spelled (names u)) (or_else here (total after rest)) (settled rules (ended after rest))
  names-Agrees u fault goes next =
      subst (λ (k : Kinds). Agrees (Spelled (names u)) (or_else k (total after rest)) (settled rules (ended after rest))) (sym fault)
      (bind-Agrees (bind (settle us wait) (add u)) (λ more. spelled more nothing rest) _ (total after rest)
      (reacted rules (rule u) (given_to u) (held us wait)) _ (react-Agrees u us wait apart)
      (λ more same apart'. subst (λ (w : Walk). WalkAgrees (spelled more nothing rest) w rest)
      (sym (goes ∙ ap (λ (h : Held). walk_at h idle) same)) (next more apart')))

  wants-Agrees : here ≡ settle_fault rules false (held us wait)
      → after ≡ walk_at (record (settled rules (held us wait)) { pending = Some (codes "gen", []) }) (option (codes "gen")) → Wanted
      → Agrees (Spelled wants) (or_else here (total after rest)) (settled rules (ended after rest))
  wants-Agrees fault goes wanted =
      subst (λ (k : Kinds). Agrees (Spelled wants) (or_else k (total after rest)) (settled rules (ended after rest))) (sym fault)
      (bind-Agrees (settle us wait) (λ more. spelled more wanting rest) _ (total after rest)
      (settled rules (held us wait)) _ (settle-Agrees us wait apart)
      (λ more same apart'. subst (λ (w : Walk). WalkAgrees (spelled more wanting rest) w rest)
      (sym (goes ∙ ap (λ (h : Held). walk_at (record h { pending = Some (codes "gen", []) }) (option (codes "gen"))) same))
      (wanted more apart')))

-- one word, by its kind
word-Agrees : (us : List Use) (wait : Wait) (word : Text) (rest : List Text) (apart : Apart us) (k : Kind) → TurnIs us wait word k
    → Next us wait word rest apart → Wanted us wait word rest apart → WalkAgrees (spelled us (given word) rest) (state us (given word)) rest
    → Agrees (Spelled us wait word rest apart k) (or_else (turn_fault top [] (state us wait) word)
    (total (walked rules [] (state us wait) word) rest))
    (settled rules (ended (walked rules [] (state us wait) word) rest))
word-Agrees us wait word rest apart ends turn next wanted value = ends-Agrees us wait word rest apart rest turn.0 turn.1
word-Agrees us wait word rest apart (names u) turn next wanted value = names-Agrees us wait word rest apart u turn.0 turn.1 next
word-Agrees us wait word rest apart wants turn next wanted value = wants-Agrees us wait word rest apart turn.0 turn.1 wanted
word-Agrees us wait word rest apart (unknown fault) turn next wanted value = λ none. turn (or_else-first _ _ none)
word-Agrees us nothing word rest apart plain turn next wanted value = λ none. turn (or_else-first _ _ none)
word-Agrees us wanting word rest apart plain turn next wanted value =
    subst (λ (k : Kinds). Agrees (spelled us (given word) rest) (or_else k (total (walked rules [] (state us wanting) word) rest))
    (settled rules (ended (walked rules [] (state us wanting) word) rest))) (sym turn.0)
    (subst (λ (w : Walk). WalkAgrees (spelled us (given word) rest) w rest) (sym turn.1) value)
word-Agrees us (given v) word rest apart plain turn next wanted value = λ none. turn (or_else-first _ _ none)

pub walk-Agrees : (words : List Text) (us : List Use) (wait : Wait) → Apart us → WalkAgrees (spelled us wait words) (state us wait) words
unfolding walk_fault
walk-Agrees [] us wait apart = settle-Agrees us wait apart
walk-Agrees (word ∷ rest) us wait apart =
    subst (λ (k : Kinds). Agrees (spelled us wait (word ∷ rest)) k (settled rules (ended (walked rules [] (state us wait) word) rest)))
    (sym (or_else-assoc (turn_fault top [] (state us wait) word) _ _))
    (word-Agrees us wait word rest apart (kind word) (turns us wait word)
    (λ more apart'. walk-Agrees rest more nothing apart') (λ more apart'. walk-Agrees rest more wanting apart')
    (walk-Agrees rest us (given word) apart))
