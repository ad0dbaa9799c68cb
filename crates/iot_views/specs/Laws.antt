-- What was looked at once is read again without a test.
use Rattle.std.proofs.Common.{◌≡◌, ℕ, zero, suc, ◌+◌, ◌∙◌, ◌==◌, Bool, true, false, cond, List, [], ◌∷◌, Result, Ok, Err, refl, ap}
use Rattle.std.specs.Prelude.{⊤, Option, Some, None, slice_get}
use Rattle.std.specs.List.{list_all}
use Rattle.std.specs.Ordering.{nat_cmp}
use Rattle.std.specs.Cmp.Lexicographic.{slice_cmp}
use Rattle.std.specs.declared.cmp.Ordering.{Ordering}
use Rattle.iot_text.specs.Names.{is_name}
use Rattle.iot_views.specs.Decoders.{Decoder, ◌>>=◌, go_on, done, tested, bytes_at, number_at, at_most, items_at, list_at}
use Rattle.iot_views.specs.Decoders.{after_tag, after_byte, tagged}
use Rattle.iot_views.specs.Decoding.{name_at, path_at, contents_at, line_at, pair_at, kind_at, mode_at, children_at}
use Rattle.iot_views.specs.Decoding.{question_at, answer_at, read_at, base_at, update_at}
use Rattle.iot_views.specs.Listed.{counted_at, loose_pair_at, IsLooser, AreLooser}
use Rattle.iot_views.specs.Loose.{path_again, children_again, question_again, answer_again, read_again, base_again, update_again}
use Rattle.iot_views.specs.Rules.{rises, is_printable, is_content_byte}

abbrev pub read_ok : {X : Type 0} → X → Result X ℕ
read_ok x = Ok x

-- two values that were read are one
pub same_read : {X : Type 0} (one other : X) → read_ok one ≡ read_ok other → one ≡ other
same_read one other e = cc

-- a step that met no fault, and the step after it
pub step : {X Y : Type 0} (decoding : Result (X × ℕ) ℕ) (next : X → ℕ → Result (Y × ℕ) ℕ) (y : Y × ℕ) → go_on decoding next ≡ Ok y
    → (x : X × ℕ) × (decoding ≡ Ok x) × (next x.0 x.1 ≡ Ok y)
step (Ok x) next y e = (x, refl, e)
step (Err at) next y e = absurd cc

-- a test that was passed
passed : {X : Type 0} (b : Bool) (at : ℕ) (x y : X) → cond b (read_ok x) (Err at) ≡ Ok y → (b ≡ true) × (x ≡ y)
passed true at x y e = (refl, cc)
passed false at x y e = absurd cc

pub step_tested : {X : Type 0} (test : X → Bool) (decoder : Decoder X) (bytes : List ℕ) (at : ℕ) (y : X × ℕ)
    → tested test decoder bytes at ≡ Ok y → decoder bytes at ≡ Ok y
step_tested test decoder bytes at y e =
    let s = step (decoder bytes at) (λ x after. cond (test x) (Ok (x, after)) (Err at)) y e in
    s.1 ∙ ap read_ok (passed (test s.0.0) at s.0 y s.2).1

pub same : {X : Type 0} (decoding : Decoder X) → IsLooser decoding decoding
same decoding bytes at read e = e

-- whatever is before
pub each : {X : Type 0} (strict loose : Decoder X) → IsLooser strict loose → AreLooser (λ _. strict) loose
each strict loose looser previous bytes at read e = looser bytes at read e

-- without the test
pub untested : {X : Type 0} (test : X → Bool) (strict loose : Decoder X) → IsLooser strict loose → IsLooser (tested test strict) loose
untested test strict loose looser bytes at read e = looser bytes at read (step_tested test strict bytes at read e)

-- one decoder after the other
pub bind_looser : {X Y : Type 0} (strict loose : Decoder X) (next after : X → Decoder Y) → IsLooser strict loose
    → ((x : X) → IsLooser (next x) (after x)) → IsLooser (strict >>= next) (loose >>= after)
bind_looser strict loose next after looser later bytes at read e =
    let s = step (strict bytes at) (λ x end. next x bytes end) read e in
    rw (looser bytes at s.0 s.1) (later s.0.0 bytes s.0.1 read s.2)

-- a value that is put into another one
pub into_looser : {X Y : Type 0} (strict loose : Decoder X) (put : X → Y) → IsLooser strict loose
    → IsLooser (strict >>= (λ x. done (put x))) (loose >>= (λ x. done (put x)))
into_looser strict loose put looser = bind_looser strict loose (λ x. done (put x)) (λ x. done (put x)) looser (λ x. same (done (put x)))

counted_looser : (test : List ℕ → Bool) → IsLooser (number_at >>= (λ len. tested test (bytes_at len))) counted_at
counted_looser test =
    bind_looser number_at number_at (λ len. tested test (bytes_at len)) bytes_at (same number_at)
    (λ len. untested test (bytes_at len) (bytes_at len) (same (bytes_at len)))

pub name_looser : IsLooser name_at counted_at
unfolding name_at
name_looser = counted_looser is_name

pub line_looser : IsLooser line_at counted_at
unfolding line_at
line_looser = counted_looser (list_all is_printable)

pub contents_looser : IsLooser contents_at counted_at
unfolding contents_at
contents_looser =
    bind_looser (at_most _) number_at (λ len. tested (list_all is_content_byte) (bytes_at len)) bytes_at
    (untested _ number_at number_at (same number_at))
    (λ len. untested (list_all is_content_byte) (bytes_at len) (bytes_at len) (same (bytes_at len)))

-- a pair of a table, read again without a look at the order
pub pair_looser : {K V : Type 0} (cmp : K → K → Ordering) (key loose_key : Decoder K) (value loose_value : Decoder V)
    → IsLooser key loose_key → IsLooser value loose_value → AreLooser (pair_at cmp key value) (loose_pair_at loose_key loose_value)
unfolding pair_at
pair_looser cmp key loose_key value loose_value keys values previous =
    bind_looser (tested (rises cmp previous) key) loose_key (λ k. value >>= (λ v. done (k, v))) (λ k. loose_value >>= (λ v. done (k, v)))
    (untested (rises cmp previous) key loose_key keys)
    (λ k. into_looser value loose_value (λ v. (k, v)) values)

-- so many elements
pub items_looser : {X : Type 0} (item : Option X → Decoder X) (loose : Decoder X) → AreLooser item loose → (n : ℕ) (previous : Option X)
    → IsLooser (items_at item n previous) (items_at (λ _. loose) n previous)
items_looser item loose looser zero previous bytes at read e = e
items_looser item loose looser (suc n) previous bytes at read e =
    let s = step (item previous bytes at) (λ x after. go_on (items_at item n (Some x) bytes after) (λ xs end. Ok (x ∷ xs, end))) read e in
    let t = step (items_at item n (Some s.0.0) bytes s.0.1) (λ xs end. Ok (s.0.0 ∷ xs, end)) read s.2 in
    rw (looser previous bytes at s.0 s.1, items_looser item loose looser n (Some s.0.0) bytes s.0.1 t.0 t.1) t.2

pub list_looser : {X : Type 0} (item : Option X → Decoder X) (loose : Decoder X) → AreLooser item loose
    → IsLooser (number_at >>= (λ n. items_at item n None)) (list_at loose)
list_looser item loose looser =
    bind_looser number_at number_at (λ n. items_at item n None) (λ n. items_at (λ _. loose) n None) (same number_at)
    (λ n. items_looser item loose looser n None)

pub path_looser : IsLooser path_at path_again
unfolding path_at path_again
path_looser = list_looser (λ _. name_at) counted_at (each name_at counted_at name_looser)

pub children_looser : IsLooser children_at children_again
unfolding children_at children_again
children_looser =
    list_looser (pair_at (slice_cmp nat_cmp) name_at kind_at) (loose_pair_at counted_at kind_at)
    (pair_looser (slice_cmp nat_cmp) name_at counted_at kind_at kind_at name_looser (same kind_at))

-- ---- what follows a tag

-- the rows of two tables have the same tags in the same order, and each is looser in the second
abbrev pub AreLooserRows : {X : Type 0} → List (ℕ × Decoder X) → List (ℕ × Decoder X) → Type 0
AreLooserRows [] [] = ⊤
AreLooserRows [] (row ∷ rows) = ⊥
AreLooserRows (row ∷ rows) [] = ⊥
AreLooserRows (one ∷ ones) (other ∷ others) = (one.0 ≡ other.0) × IsLooser one.1 other.1 × AreLooserRows ones others

-- the row of the tag, or those after it
either : {Y : Type 0} (b : Bool) (one other loose_one loose_other : Result Y ℕ) (y : Y) → (one ≡ Ok y → loose_one ≡ Ok y)
    → (other ≡ Ok y → loose_other ≡ Ok y) → cond b one other ≡ Ok y → cond b loose_one loose_other ≡ Ok y
either true one other loose_one loose_other y first later e = first e
either false one other loose_one loose_other y first later e = later e

tag_looser : {X : Type 0} (strict loose : List (ℕ × Decoder X)) → AreLooserRows strict loose → (tag : ℕ)
    → IsLooser (after_tag strict tag) (after_tag loose tag)
tag_looser [] [] rows tag bytes at read e = absurd cc
tag_looser [] (row ∷ others) rows tag bytes at read e = absurd rows
tag_looser (row ∷ ones) [] rows tag bytes at read e = absurd rows
tag_looser (one ∷ ones) (other ∷ others) rows tag bytes at read e =
    rw (← rows.0)
    (either (tag == one.0) (one.1 bytes (at + 1)) (after_tag ones tag bytes at) (other.1 bytes (at + 1)) (after_tag others tag bytes at)
    read (λ h. rows.1 bytes (at + 1) read h) (λ h. tag_looser ones others rows.2 tag bytes at read h) e)

byte_looser : {X : Type 0} (strict loose : List (ℕ × Decoder X)) → AreLooserRows strict loose → (tag : Option ℕ)
    → IsLooser (after_byte tag strict) (after_byte tag loose)
byte_looser strict loose rows None bytes at read e = absurd cc
byte_looser strict loose rows (Some tag) bytes at read e = tag_looser strict loose rows tag bytes at read e

pub tagged_looser : {X : Type 0} (strict loose : List (ℕ × Decoder X)) → AreLooserRows strict loose
    → IsLooser (tagged strict) (tagged loose)
tagged_looser strict loose rows bytes at read e = byte_looser strict loose rows (slice_get bytes at) bytes at read e

pub question_looser : IsLooser question_at question_again
unfolding question_at question_again
question_looser =
    tagged_looser _ _ (
      refl,
      into_looser path_at path_again _ path_looser,
      (
        refl,
        into_looser path_at path_again _ path_looser,
        (refl, into_looser path_at path_again _ path_looser, (refl, into_looser path_at path_again _ path_looser, tt)),
      ),
    )

pub answer_looser : IsLooser answer_at answer_again
unfolding answer_at answer_again
answer_looser =
    tagged_looser _ _ (
      refl,
      same _,
      (
        refl,
        same _,
        (
          refl,
          same _,
          (
            refl,
            same _,
            (
              refl,
              into_looser contents_at counted_at _ contents_looser,
              (refl, into_looser children_at children_again _ children_looser, (refl, same _, (refl, same _, tt))),
            ),
          ),
        ),
      ),
    )

pub read_looser : IsLooser read_at read_again
unfolding read_at read_again
read_looser =
    bind_looser question_at question_again _ _ question_looser (λ question. into_looser answer_at answer_again _ answer_looser)

pub base_looser : IsLooser base_at base_again
unfolding base_at base_again
base_looser = bind_looser read_at read_again _ _ read_looser (λ read. into_looser number_at number_at _ (same number_at))

pub update_looser : IsLooser update_at update_again
unfolding update_at update_again
update_looser =
    tagged_looser _ _ (
      refl,
      bind_looser path_at path_again _ _ path_looser (λ path. into_looser contents_at counted_at _ contents_looser),
      (
        refl,
        into_looser path_at path_again _ path_looser,
        (
          refl,
          into_looser path_at path_again _ path_looser,
          (
            refl,
            bind_looser path_at path_again _ _ path_looser (λ path. into_looser path_at path_again _ path_looser),
            (refl, bind_looser path_at path_again _ _ path_looser (λ path. into_looser mode_at mode_at _ (same mode_at)), tt),
          ),
        ),
      ),
    )
