-- The job: words that spell one use name its job.
use Rattle.std.proofs.Common.{◌≡◌, ◌∙◌, ◌==◌, ◌+◌, suc, ℕ, Bool, true, false, refl, sym, ap, subst, List, [], ◌∷◌, ◌++◌, map, Option}
use Rattle.std.proofs.Common.{Some, None, codes, append-nil, arith, cond, drop, length, is_some, is_none}
use Rattle.std.specs.Prelude.{if◌then◌else◌, nat_eq, nat_le, ◌&&◌, ◌||◌, option_map, ⊤}
use Rattle.std.specs.List.{starts_with}
use Rattle.std.specs.Str.{bytes_eq, chars}
use Rattle.std.specs.Prelude.{slice_get}
use Rattle.std.proofs.lemmas.Bool.{and_parts, false_from_ne_true, false≢true}
use Rattle.std.proofs.lemmas.Bool.Decides.{Decides-eqb, nat_tests}
use Rattle.std.proofs.lemmas.Slice.Eq.{bytes_eq-Decides, starts_is}
use Rattle.clap.specs.Lexer.{long_of, long_of_rest, name_and_value, short_of}
use Rattle.clap.specs.Walk.{Text, has_row}
use Rattle.iot_words.specs.Jobs.{chosen, generate_of, job_of, named, without_end}
use Rattle.iot_words.specs.declared.jobs.Job.{Job}
use Rattle.iot_words.specs.declared.jobs.Job.TheVariants.{Run, Image, Upgrade, Audit}
use Rattle.iot_words.specs.declared.jobs.Run.TheVariants.{Transcript, Json, Generate, Save}
use Rattle.iot_words.proofs.Uses.{Arg, Flag, arg_kind, arg_name, arg_named, args, audit, image, json, number, save, the, upgrade}
use Rattle.iot_words.proofs.Uses.{Kind, Use, Wait, add, bind, by_kind, ends, flag, gen, given, is_last, kind, name_kind}
use Rattle.iot_words.proofs.Uses.{name_of, names, nothing, plain, row, short_kind}
use Rattle.iot_words.proofs.Uses.{settle, spelled, unknown, wanting, wants}
use Rattle.iot_words.proofs.WalksLaws.{Apart}
use Rattle.iot_words.proofs.MatchesLaws.{gen_in, has}

-- ---- what a kind says of a word

-- what stands before a first `=`, and after it, makes the text
abbrev tail : Option Text → Text
tail None = []
tail (Some v) = 61 ∷ v

one-add : (n : ℕ) → 1 + n ≡ suc n
one-add n = omega arith

suc-add-one : (n : ℕ) → suc n + 1 ≡ suc (n + 1)
suc-add-one n = omega arith

joined : (t : Text) → t ≡ (name_and_value t).0 ++ tail (name_and_value t).1
joined [] = refl
joined (x ∷ xs) = go (x == 61) refl (ap (λ (t : Text). x ∷ t) (joined xs))
  where
    go : (b : Bool) → (x == 61) ≡ b → x ∷ xs ≡ x ∷ ((name_and_value xs).0 ++ tail (name_and_value xs).1)
        → x ∷ xs ≡ (name_and_value (x ∷ xs)).0 ++ tail (name_and_value (x ∷ xs)).1
    go true e more = let is : x ≡ 61 = grind (arith, nat_tests) in rw e (ap (λ (n : ℕ). n ∷ xs) is)
    go false e more = rw (e, one-add, suc-add-one) more

-- the word begins with a hyphen
abbrev pub Hyphen : Text → Type 0
Hyphen word = (rest : Text) × (word ≡ 45 ∷ rest)

same : (a b : Text) → bytes_eq a b ≡ true → a ≡ b
same a b e = (bytes_eq-Decides a b).0 e

of_rest : (t : Text) (p : Text × Option Text) → long_of_rest t ≡ Some p → p ≡ name_and_value t
of_rest [] p e = absurd cc
of_rest (x ∷ t) p e = cc

long_word : (word : Text) (p : Text × Option Text) → long_of word ≡ Some p
    → (t : Text) × (word ≡ 45 ∷ 45 ∷ t) × (p ≡ name_and_value t)
long_word [] p e = absurd cc
long_word (x ∷ []) p e = go (x == 45) refl
  where
    go : (b : Bool) → (x == 45) ≡ b → (t : Text) × (x ∷ [] ≡ 45 ∷ 45 ∷ t) × (p ≡ name_and_value t)
    go true h = absurd (let never : None ≡ Some p = rw h at e in cc)
    go false h = absurd (let never : None ≡ Some p = rw h at e in cc)
long_word (x ∷ y ∷ t) p e = go (x == 45) refl (y == 45) refl
  where
    go : (b : Bool) → (x == 45) ≡ b → (c : Bool) → (y == 45) ≡ c → (t' : Text) × (x ∷ y ∷ t ≡ 45 ∷ 45 ∷ t') × (p ≡ name_and_value t')
    go false h c k = absurd (let never : None ≡ Some p = rw h at e in cc)
    go true h false k = absurd (let never : None ≡ Some p = rw (h, k) at e in cc)
    go true h true k =
        let first : x ≡ 45 = grind (arith, nat_tests) in
        let second : y ≡ 45 = grind (arith, nat_tests) in
        let rest : long_of_rest t ≡ Some p = rw (h, k) at e in
        (t, ap (λ (n : ℕ). n ∷ y ∷ t) first ∙ ap (λ (n : ℕ). 45 ∷ n ∷ t) second, of_rest t p rest)

short_word : (word flags : Text) → short_of word ≡ Some flags → Hyphen word
short_word [] flags e = absurd cc
short_word (x ∷ t) flags e = go (x == 45) refl
  where
    go : (b : Bool) → (x == 45) ≡ b → Hyphen (x ∷ t)
    go false h = absurd (let never : None ≡ Some flags = rw h at e in cc)
    go true h = let first : x ≡ 45 = grind (arith, nat_tests) in (t, ap (λ (n : ℕ). n ∷ t) first)

abbrev WordIs : Text → Kind → Type 0
WordIs word ends = word ≡ codes "--"
WordIs word (names (flag f)) = word ≡ 45 ∷ 45 ∷ name_of f
WordIs word (names (gen v)) = word ≡ codes "--gen=" ++ v
WordIs word wants = word ≡ codes "--gen"
WordIs word (unknown fault) = Hyphen word
WordIs word plain = ⊤

arg_has : (name : Text) (xs : List Arg) (a : Arg) → arg_named name xs ≡ Some a → arg_name a ≡ name
arg_has name [] a e = absurd cc
arg_has name (x ∷ xs) a e = go (bytes_eq (arg_name x) name) refl (arg_has name xs a) e
  where
    go : (hit : Bool) → bytes_eq (arg_name x) name ≡ hit → (arg_named name xs ≡ Some a → arg_name a ≡ name)
        → cond hit (Some x) (arg_named name xs) ≡ Some a → arg_name a ≡ name
    go true is more e = let first : a ≡ x = cc in ap arg_name first ∙ same (arg_name x) name is
    go false is more e = more e

name_is : (word name : Text) (v : Option Text) → word ≡ 45 ∷ 45 ∷ (name ++ tail v) → WordIs word (name_kind name v)
name_is word name v is = go (arg_named name args) (arg_has name args) v is
  where
    go : (a : Option Arg) → ((x : Arg) → a ≡ Some x → arg_name x ≡ name) → (v : Option Text) → word ≡ 45 ∷ 45 ∷ (name ++ tail v)
        → WordIs word (arg_kind a v)
    go None known v is = (45 ∷ (name ++ tail v), is)
    go (Some (the f)) known None is =
        is ∙ ap (λ (n : Text). 45 ∷ 45 ∷ n) (append-nil name ∙ sym (known (the f) refl))
    go (Some (the f)) known (Some v) is = (45 ∷ (name ++ 61 ∷ v), is)
    go (Some number) known None is = is ∙ ap (λ (n : Text). 45 ∷ 45 ∷ (n ++ [])) (sym (known number refl))
    go (Some number) known (Some v) is = is ∙ ap (λ (n : Text). 45 ∷ 45 ∷ (n ++ 61 ∷ v)) (sym (known number refl))

short_is : (word : Text) (flags : Option Text) → short_of word ≡ flags → WordIs word (short_kind flags)
short_is word None e = tt
short_is word (Some flags) e = go (is_some (slice_get (chars flags) 0)) refl
  where
    go : (b : Bool) → is_some (slice_get (chars flags) 0) ≡ b → WordIs word (short_kind (Some flags))
    go true h = rw h (short_word word flags e)
    go false h = rw h tt

word_is : (word : Text) → WordIs word (kind word)
word_is word = go (bytes_eq word (codes "--")) refl (long_of word) refl
  where
    go : (b : Bool) → bytes_eq word (codes "--") ≡ b → (p : Option (Text × Option Text)) → long_of word ≡ p → WordIs word (kind word)
    go true e p long = rw e (same word (codes "--") e)
    go false e (Some p) long =
        let found = long_word word p long in
        let parts : found.0 ≡ p.0 ++ tail p.1 =
        joined found.0 ∙ ap (λ (q : Text × Option Text). q.0 ++ tail q.1) (sym found.2) in
        rw (e, long) (name_is word p.0 p.1 (found.1 ∙ ap (λ (t : Text). 45 ∷ 45 ∷ t) parts))
    go false e None long = rw (e, long) (short_is word (short_of word) refl)

-- ---- flags

abbrev flag_job : Flag → Job
flag_job json = Run Json
flag_job save = Run Save
flag_job image = Image
flag_job upgrade = Upgrade
flag_job audit = Audit

-- a flag's word names its job if it is alone
alone : (f : Flag) → (kind (45 ∷ 45 ∷ name_of f) ≡ names (flag f)) × (named ((45 ∷ 45 ∷ name_of f) ∷ []) ≡ Some (flag_job f))
    × ((next : Text) → named ((45 ∷ 45 ∷ name_of f) ∷ next ∷ []) ≡ None)
alone json = (refl, refl, λ next. refl)
alone save = (refl, refl, λ next. refl)
alone image = (refl, refl, λ next. refl)
alone upgrade = (refl, refl, λ next. refl)
alone audit = (refl, refl, λ next. refl)

-- ---- words that name nothing

record Unnamed (word : Text) : Type 0 where
  flags : (f : Flag) → bytes_eq word (45 ∷ 45 ∷ name_of f) ≡ false
  gen : bytes_eq word (codes "--gen") ≡ false
  prefix : starts_with nat_eq word (codes "--gen=") ≡ false

from_prefix : (word : Text) → starts_with nat_eq word (codes "--gen=") ≡ true → word ≡ codes "--gen=" ++ drop 6 word
from_prefix word e = (starts_is Decides-eqb word (codes "--gen=") _ refl).0 e

unnamed : (word : Text) → ((u : Use) → kind word ≡ names u → ⊥) → (kind word ≡ wants → ⊥) → Unnamed word
unnamed word no_use no_wants = record {
  flags = λ f. false_from_ne_true _ (λ e. no_use (flag f) (ap kind (same word (45 ∷ 45 ∷ name_of f) e) ∙ (alone f).0));
  gen = false_from_ne_true _ (λ e. no_wants (ap kind (same word (codes "--gen") e)));
  prefix = false_from_ne_true _ (λ e. no_use (gen (drop 6 word)) (ap kind (from_prefix word e)));
}

named-Unnamed : (word : Text) (more : List Text) → Unnamed word → named (word ∷ more) ≡ None
named-Unnamed word [] un = rw (un.flags json, un.flags save, un.flags image, un.flags upgrade, un.flags audit, un.prefix) refl
named-Unnamed word (next ∷ []) un = rw un.gen refl
named-Unnamed word (next ∷ other ∷ more) un = refl

not_ends : (word : Text) → (kind word ≡ ends → ⊥) → bytes_eq word (codes "--") ≡ false
not_ends word no_end = false_from_ne_true _ (λ e. no_end (ap kind (same word (codes "--") e)))

-- ---- words that name a job

abbrev is_nil : List Text → Bool
is_nil [] = true
is_nil (word ∷ more) = false

abbrev use_job : Use → Option Job
use_job (flag f) = Some (flag_job f)
use_job (gen v) = generate_of v

-- the job of one use, or of none
abbrev pub pick : Option (List Use) → Option Job
pick None = None
pick (Some []) = Some (Run Transcript)
pick (Some (u ∷ [])) = use_job u
pick (Some (u ∷ v ∷ us)) = None

named_use : (u : Use) (word : Text) (more : List Text) → WordIs word (names u) → named (word ∷ more)
    ≡ (if is_nil more then use_job u else None)
named_use (flag f) word [] is = ap (λ (w : Text). named (w ∷ [])) is ∙ (alone f).1
named_use (flag f) word (next ∷ []) is = ap (λ (w : Text). named (w ∷ next ∷ [])) is ∙ (alone f).2 next
named_use (flag f) word (next ∷ other ∷ more) is = refl
named_use (gen v) word [] is = subst (λ (w : Text). named (w ∷ []) ≡ generate_of v) (sym is) refl
named_use (gen v) word (next ∷ []) is = subst (λ (w : Text). named (w ∷ next ∷ []) ≡ None) (sym is) refl
named_use (gen v) word (next ∷ other ∷ more) is = refl

named_gen : (value : Text) (more : List Text) → named (codes "--gen" ∷ value ∷ more) ≡ (if is_nil more then generate_of value else None)
named_gen value [] = refl
named_gen value (next ∷ more) = refl

refused : (some first small : Bool) (n : ℕ)
    → option_map Run (option_map Generate (if some && false && first && small then Some n else None)) ≡ None
refused true first small n = refl
refused false first small n = refl

no_number : (word : Text) → Hyphen word → generate_of word ≡ None
no_number word is = subst (λ (w : Text). generate_of w ≡ None) (sym is.1)
    (refused (nat_le 1 (length (45 ∷ is.0))) (nat_eq (length (45 ∷ is.0)) 1 || true) _ _)

-- ---- a last `--`

kept : (word : Text) (rest : List Text) → bytes_eq word (codes "--") ≡ false → without_end (word ∷ rest) ≡ word ∷ without_end rest
kept word [] e = rw e refl
kept word (next ∷ rest) e = refl

-- ---- two uses or more name no job

abbrev AreMany : List Use → Type 0
AreMany [] = ⊥
AreMany (u ∷ []) = ⊥
AreMany (u ∷ v ∷ us) = ⊤

abbrev AreSome : List Use → Type 0
AreSome [] = ⊥
AreSome (u ∷ us) = ⊤

abbrev Many : Option (List Use) → Type 0
Many None = ⊤
Many (Some us) = AreMany us

some_from_many : (us : List Use) → AreMany us → AreSome us
some_from_many [] many = absurd many
some_from_many (u ∷ us) many = tt

pick-Many : (r : Option (List Use)) → Many r → pick r ≡ None
pick-Many None many = refl
pick-Many (Some []) many = absurd many
pick-Many (Some (u ∷ [])) many = absurd many
pick-Many (Some (u ∷ v ∷ us)) many = refl

bind-Many : (r : Option (List Use)) (next : List Use → Option (List Use)) → Many r → ((us : List Use) → AreMany us → Many (next us))
    → Many (bind r next)
bind-Many None next many go = tt
bind-Many (Some us) next many go = go us many

add-Many : (u : Use) (us : List Use) → AreSome us → Many (add u us)
add-Many u [] are = absurd are
add-Many u (x ∷ us) are = go (has_row (row u).id (map row (x ∷ us))) us
  where
    go : (again : Bool) (us : List Use) → Many (if again then None else Some (x ∷ us ++ u ∷ []))
    go true us = tt
    go false [] = tt
    go false (y ∷ us) = tt

-- enough were used that what follows can't name a job
abbrev HasMany : List Use → Wait → Type 0
HasMany us nothing = AreMany us
HasMany us wanting = AreSome us
HasMany us (given v) = AreSome us

settle-Many : (us : List Use) (wait : Wait) → HasMany us wait → Many (settle us wait)
settle-Many us nothing many = many
settle-Many us wanting many = tt
settle-Many us (given v) many = add-Many (gen v) us many

word-Many : (us : List Use) (wait : Wait) (word : Text) (last : Bool) (next wanted : List Use → Option (List Use))
    (value : Option (List Use)) (k : Kind)
    → HasMany us wait → ((more : List Use) → AreMany more → Many (next more)) → ((more : List Use) → AreMany more → Many (wanted more))
    → (AreSome us → Many value) → Many (by_kind k us wait last next wanted value)
word-Many us wait word true next wanted value ends many nexts wanteds values = settle-Many us wait many
word-Many us wait word false next wanted value ends many nexts wanteds values = tt
word-Many us wait word last next wanted value (names u) many nexts wanteds values =
    bind-Many (bind (settle us wait) (add u)) next
    (bind-Many (settle us wait) (add u) (settle-Many us wait many) (λ more are. add-Many u more (some_from_many more are))) nexts
word-Many us wait word last next wanted value wants many nexts wanteds values =
    bind-Many (settle us wait) wanted (settle-Many us wait many) wanteds
word-Many us wait word last next wanted value (unknown fault) many nexts wanteds values = tt
word-Many us nothing word last next wanted value plain many nexts wanteds values = tt
word-Many us wanting word last next wanted value plain many nexts wanteds values = values many
word-Many us (given v) word last next wanted value plain many nexts wanteds values = tt

spelled-Many : (words : List Text) (us : List Use) (wait : Wait) → HasMany us wait → Many (spelled us wait words)
spelled-Many [] us wait many = settle-Many us wait many
spelled-Many (word ∷ rest) us wait many =
    word-Many us wait word (is_last rest) (λ more. spelled more nothing rest) (λ more. spelled more wanting rest)
    (spelled us (given word) rest)
    (kind word) many (λ more are. spelled-Many rest more nothing are)
    (λ more are. spelled-Many rest more wanting (some_from_many more are)) (λ are. spelled-Many rest us (given word) are)

-- ---- one use

module _ (us : List Use) (wait : Wait) (u : Use) (settles : settle us wait ≡ Some (u ∷ [])) (word : Text) (rest : List Text) where
  abbrev One : Kind → Type 0
  One k = pick (by_kind k us wait (is_last rest) (λ more. spelled more nothing rest) (λ more. spelled more wanting rest)
      (spelled us (given word) rest))
      ≡ (if is_nil (without_end (word ∷ rest)) then use_job u else None)

  -- a word that ends nothing, after which there is no job
  none_after : (k : Kind) → kind word ≡ k → (k ≡ ends → ⊥) → pick (by_kind k us wait (is_last rest) (λ more. spelled more nothing rest)
      (λ more. spelled more wanting rest) (spelled us (given word) rest)) ≡ None → One k
  none_after k e no_end none = rw (kept word rest (not_ends word (λ h. no_end (sym e ∙ h)))) none

  add_after : (x : Use) → Many (bind (settle us wait) (add x))
  add_after x = subst (λ (r : Option (List Use)). Many (bind r (add x))) (sym settles) (add-Many x (u ∷ []) tt)

  wanted_after : Many (bind (settle us wait) (λ more. spelled more wanting rest))
  wanted_after = subst (λ (r : Option (List Use)). Many (bind r (λ more. spelled more wanting rest))) (sym settles)
      (spelled-Many rest (u ∷ []) wanting tt)

one_end : (us : List Use) (wait : Wait) (u : Use) (settles : settle us wait ≡ Some (u ∷ [])) (word : Text) (rest : List Text)
    → word ≡ codes "--" → One us wait u settles word rest ends
one_end us wait u settles word [] is =
    subst (λ (w : Text). pick (settle us wait) ≡ (if is_nil (without_end (w ∷ [])) then use_job u else None)) (sym is) (ap pick settles)
one_end us wait u settles word (next ∷ rest) is = refl

one_kind : (us : List Use) (wait : Wait) (u : Use) (settles : settle us wait ≡ Some (u ∷ [])) (word : Text) (rest : List Text)
    (k : Kind) → kind word ≡ k → WordIs word k → One us wait u settles word rest k
one_kind us wait u settles word rest ends e is = one_end us wait u settles word rest is
one_kind us wait u settles word rest (names x) e is = none_after us wait u settles word rest (names x) e (λ h. cc)
    (pick-Many _ (bind-Many (bind (settle us wait) (add x)) (λ more. spelled more nothing rest) (add_after us wait u settles word rest x)
    (λ more are. spelled-Many rest more nothing are)))
one_kind us wait u settles word rest wants e is = none_after us wait u settles word rest wants e (λ h. cc)
    (pick-Many _ (wanted_after us wait u settles word rest))
one_kind us wait u settles word rest (unknown fault) e is = none_after us wait u settles word rest (unknown fault) e (λ h. cc) refl
one_kind us nothing u settles word rest plain e is = none_after us nothing u settles word rest plain e (λ h. cc) refl
one_kind us wanting u settles word rest plain e is = absurd cc
one_kind us (given v) u settles word rest plain e is = none_after us (given v) u settles word rest plain e (λ h. cc) refl

-- after one use nothing may follow but a last `--`
one_use : (us : List Use) (wait : Wait) (u : Use) → settle us wait ≡ Some (u ∷ []) → (rest : List Text)
    → pick (spelled us wait rest) ≡ (if is_nil (without_end rest) then use_job u else None)
one_use us wait u settles [] = ap pick settles
one_use us wait u settles (word ∷ rest) = one_kind us wait u settles word rest (kind word) refl (word_is word)

-- ---- `--gen` and its value

named_hyphen : (word : Text) (more : List Text) → Hyphen word → named (codes "--gen" ∷ word ∷ more) ≡ None
named_hyphen word [] is = no_number word is
named_hyphen word (next ∷ more) is = refl

end_hyphen : (word : Text) (rest : List Text) → word ≡ codes "--" → None ≡ named (codes "--gen" ∷ without_end (word ∷ rest))
end_hyphen word [] is = subst (λ (w : Text). None ≡ named (codes "--gen" ∷ without_end (w ∷ []))) (sym is) refl
end_hyphen word (next ∷ rest) is = sym (named_hyphen word (without_end (next ∷ rest)) (45 ∷ [], is))

-- a word that `--gen` does not take as its value
flag_value : (word : Text) (rest : List Text) (k : Kind) → kind word ≡ k → (k ≡ ends → ⊥) → Hyphen word
    → None ≡ named (codes "--gen" ∷ without_end (word ∷ rest))
flag_value word rest k e no_end is = rw (kept word rest (not_ends word (λ h. no_end (sym e ∙ h))))
    (sym (named_hyphen word (without_end rest) is))

value_kind : (word : Text) (rest : List Text) (k : Kind) → kind word ≡ k → WordIs word k
    → pick (by_kind k [] wanting (is_last rest) (λ more. spelled more nothing rest) (λ more. spelled more wanting rest)
    (spelled [] (given word) rest))
    ≡ named (codes "--gen" ∷ without_end (word ∷ rest))
value_kind word [] ends e is = end_hyphen word [] is
value_kind word (next ∷ rest) ends e is = end_hyphen word (next ∷ rest) is
value_kind word rest (names (flag f)) e is = flag_value word rest (names (flag f)) e (λ h. cc) (45 ∷ name_of f, is)
value_kind word rest (names (gen v)) e is = flag_value word rest (names (gen v)) e (λ h. cc) (codes "-gen=" ++ v, is)
value_kind word rest wants e is = flag_value word rest wants e (λ h. cc) (codes "-gen", is)
value_kind word rest (unknown fault) e is = flag_value word rest (unknown fault) e (λ h. cc) is
value_kind word rest plain e is = one_use [] (given word) (gen word) refl rest
    ∙ rw (kept word rest (not_ends word (λ h. let never : plain ≡ ends = sym e ∙ h in cc))) (sym (named_gen word (without_end rest)))

gen_value : (rest : List Text) → pick (spelled [] wanting rest) ≡ named (codes "--gen" ∷ without_end rest)
gen_value [] = refl
gen_value (word ∷ rest) = value_kind word rest (kind word) refl (word_is word)

-- ---- the job of the words

job_kept : (word : Text) (rest : List Text) (k : Kind) → kind word ≡ k → (k ≡ ends → ⊥) → job_of (word ∷ rest)
    ≡ named (word ∷ without_end rest)
job_kept word rest k e no_end = ap named (kept word rest (not_ends word (λ h. no_end (sym e ∙ h))))

first_end : (word : Text) (rest : List Text) → word ≡ codes "--" → job_of (word ∷ rest) ≡ pick (if is_last rest then Some [] else None)
first_end word [] is = subst (λ (w : Text). job_of (w ∷ []) ≡ Some (Run Transcript)) (sym is) refl
first_end word (next ∷ rest) is = subst (λ (w : Text). named (w ∷ without_end (next ∷ rest)) ≡ None) (sym is)
    (none (without_end (next ∷ rest)))
  where
    none : (more : List Text) → named (codes "--" ∷ more) ≡ None
    none [] = refl
    none (other ∷ []) = refl
    none (other ∷ third ∷ more) = refl

first_kind : (word : Text) (rest : List Text) (k : Kind) → kind word ≡ k → WordIs word k → job_of (word ∷ rest)
    ≡ pick (by_kind k [] nothing (is_last rest) (λ more. spelled more nothing rest) (λ more. spelled more wanting rest)
    (spelled [] (given word) rest))
first_kind word rest ends e is = first_end word rest is
first_kind word rest (names u) e is = job_kept word rest (names u) e (λ h. cc) ∙ named_use u word (without_end rest) is
    ∙ sym (one_use (u ∷ []) nothing u refl rest)
first_kind word rest wants e is = job_kept word rest wants e (λ h. cc)
    ∙ ap (λ (w : Text). named (w ∷ without_end rest)) is ∙ sym (gen_value rest)
first_kind word rest (unknown fault) e is = job_kept word rest (unknown fault) e (λ h. cc)
    ∙ named-Unnamed word (without_end rest)
    (unnamed word (λ u h. let never : unknown fault ≡ names u = sym e ∙ h in cc) (λ h. let never : unknown fault ≡ wants = sym e ∙ h in cc))
first_kind word rest plain e is = job_kept word rest plain e (λ h. cc)
    ∙ named-Unnamed word (without_end rest)
    (unnamed word (λ u h. let never : plain ≡ names u = sym e ∙ h in cc) (λ h. let never : plain ≡ wants = sym e ∙ h in cc))

pub job_is : (words : List Text) → job_of words ≡ pick (spelled [] nothing words)
job_is [] = refl
job_is (word ∷ rest) = first_kind word rest (kind word) refl (word_is word)

-- ---- the job by flags

abbrev every : (Flag → Bool) → Bool
every p = p json && (p save && (p image && (p upgrade && p audit)))

every_at : (p : Flag → Bool) → every p ≡ true → (f : Flag) → p f ≡ true
every_at p e f =
    let first = and_parts (p json) (p save && (p image && (p upgrade && p audit))) e in
    let second = and_parts (p save) (p image && (p upgrade && p audit)) first.1 in
    let third = and_parts (p image) (p upgrade && p audit) second.1 in
    let fourth = and_parts (p upgrade) (p audit) third.1 in
    go f first.0 second.0 third.0 fourth.0 fourth.1
  where
    go : (f : Flag) → p json ≡ true → p save ≡ true → p image ≡ true → p upgrade ≡ true → p audit ≡ true → p f ≡ true
    go json j s i u a = j
    go save j s i u a = s
    go image j s i u a = i
    go upgrade j s i u a = u
    go audit j s i u a = a

abbrev both : (Bool → Bool) → Bool
both p = p true && p false

both_at : (p : Bool → Bool) → both p ≡ true → (b : Bool) → p b ≡ true
both_at p e true = (and_parts (p true) (p false) e).0
both_at p e false = (and_parts (p true) (p false) e).1

-- whether there is no job, by which other flags are given
abbrev NoneFor : Type 0
NoneFor = (json save image upgrade audit : Bool) → Bool

abbrev always : NoneFor → Bool
always p = both (λ j. both (λ s. both (λ i. both (λ u. both (p j s i u)))))

always_at : (p : NoneFor) → always p ≡ true → (j s i u a : Bool) → p j s i u a ≡ true
always_at p e j s i u =
    let for_j = both_at (λ j. both (λ s. both (λ i. both (λ u. both (p j s i u))))) e j in
    let for_s = both_at (λ s. both (λ i. both (λ u. both (p j s i u)))) for_j s in
    let for_i = both_at (λ i. both (λ u. both (p j s i u))) for_s i in
    both_at (p j s i u) (both_at (λ u. both (p j s i u)) for_i u)

no_job : (job : Option Job) → is_none job ≡ true → None ≡ job
no_job None e = refl
no_job (Some job) e = absurd (false≢true e)

-- whether there is no job with this flag
abbrev refuses : Flag → Option Text → NoneFor
refuses f text j s i u a = is_none (chosen (bytes_eq (name_of f) (codes "json") || j) (bytes_eq (name_of f) (codes "save") || s)
    (bytes_eq (name_of f) (codes "image") || i) (bytes_eq (name_of f) (codes "upgrade") || u) (bytes_eq (name_of f) (codes "audit") || a)
    text)

abbrev refuses_two : Flag → Flag → Option Text → NoneFor
refuses_two f g text j s i u a = refuses f text (bytes_eq (name_of g) (codes "json") || j) (bytes_eq (name_of g) (codes "save") || s)
    (bytes_eq (name_of g) (codes "image") || i) (bytes_eq (name_of g) (codes "upgrade") || u) (bytes_eq (name_of g) (codes "audit") || a)

flag_and_gen : (f : Flag) (v : Text) (j s i u a : Bool) → refuses f (Some v) j s i u a ≡ true
flag_and_gen f v = always_at (refuses f (Some v)) (every_at (λ f. always (refuses f (Some v))) refl f)

two_flags : (f g : Flag) → bytes_eq (name_of f) (name_of g) ≡ false → (text : Option Text) (j s i u a : Bool)
    → refuses_two f g text j s i u a ≡ true
two_flags f g apart text = always_at (refuses_two f g text) (rw apart at
    (every_at (λ g. bytes_eq (name_of f) (name_of g) || always (refuses_two f g text))
    (every_at (λ f. every (λ g. bytes_eq (name_of f) (name_of g) || always (refuses_two f g text))) refl f) g))

abbrev chosen_of : List Use → Option Job
chosen_of us = chosen (has (codes "json") us) (has (codes "save") us) (has (codes "image") us) (has (codes "upgrade") us)
    (has (codes "audit") us) (gen_in us)

pub chosen_is : (us : List Use) → Apart us → pick (Some us) ≡ chosen_of us
chosen_is [] apart = refl
chosen_is (flag json ∷ []) apart = refl
chosen_is (flag save ∷ []) apart = refl
chosen_is (flag image ∷ []) apart = refl
chosen_is (flag upgrade ∷ []) apart = refl
chosen_is (flag audit ∷ []) apart = refl
chosen_is (gen v ∷ []) apart = refl
chosen_is (flag f ∷ flag g ∷ us) apart = no_job (chosen_of (flag f ∷ flag g ∷ us)) (two_flags f g apart (gen_in us) _ _ _ _ _)
chosen_is (flag f ∷ gen v ∷ us) apart = no_job (chosen_of (flag f ∷ gen v ∷ us)) (flag_and_gen f v _ _ _ _ _)
chosen_is (gen v ∷ flag f ∷ us) apart = no_job (chosen_of (gen v ∷ flag f ∷ us)) (flag_and_gen f v _ _ _ _ _)
chosen_is (gen v ∷ gen w ∷ us) apart = absurd cc
