-- Names are in the order of the words of eight bytes that their arrays are made of.
use Rattle.std.proofs.Common.{◌≡◌, ◌≢◌, ◌<◌, ◌≤◌, ℕ, zero, suc, ◌+◌, ◌*◌, ◌-◌, Bool, true, false, List, [], ◌∷◌, ◌++◌, length, get_or}
use Rattle.std.proofs.Common.{Ordering, Less, Equal, Greater, ◌^◌, ◌%◌, ◌&&◌, length-take-le, length-drop, take, drop, replicate}
use Rattle.std.proofs.Common.{refl, sym, ◌∙◌, ap, subst, arith}
use Rattle.std.specs.Ordering.{ordering_then, nat_cmp}
use Rattle.std.specs.Cmp.Lexicographic.{slice_cmp}
use Rattle.std.specs.Cmp.{nat_cmp_is}
use Rattle.std.specs.Int.{w64, from_be_bytes}
use Rattle.std.specs.List.{list_all}
use Rattle.std.proofs.Math.Nat.{pow-suc}
use Rattle.std.proofs.Math.Seq.{drop-append-add}
use Rattle.std.proofs.lemmas.List.{drop-drop, drop-replicate, get_or-take, get_or-drop}
use Rattle.std.proofs.lemmas.Bool.{false≢true}
use Rattle.std.proofs.lemmas.Bool.Decides.{nat_tests}
use Rattle.iot_text.specs.Names.{is_name_byte}
use Rattle.iot_text.specs.NameArrays.{IsStored}
use Rattle.iot_text.proofs.NamesLaws.{name_parts}

and_left : (a b : Bool) → (a && b) ≡ true → a ≡ true
and_left true b h = refl
and_left false b h = absurd (false≢true h)

and_right : (a b : Bool) → (a && b) ≡ true → b ≡ true
and_right true b h = h
and_right false b h = absurd (false≢true h)

-- a number with one more digit before it, in whatever base
data Side (x y : ℕ) : Type 0 where
  Below : (d : ℕ) → y ≡ x + 1 + d → Side x y
  Same : x ≡ y → Side x y
  Above : (d : ℕ) → x ≡ y + 1 + d → Side x y

side : (x y : ℕ) → Side x y
side zero zero = Same refl
side zero (suc y) = Below y (omega arith)
side (suc x) zero = Above x (omega arith)
side (suc x) (suc y) = elim (side x y) [
  | Below d is ↦ Below d (omega (arith, is))
  | Same is ↦ Same (ap suc is)
  | Above d is ↦ Above d (omega (arith, is))
]

below_is : (x y : ℕ) → x < y → nat_cmp x y ≡ Less
below_is x y h = sym (nat_cmp_is x y Less h)

above_is : (x y : ℕ) → y < x → nat_cmp x y ≡ Greater
above_is x y h = sym (nat_cmp_is x y Greater h)

same_is : (x y : ℕ) → x ≡ y → nat_cmp x y ≡ Equal
same_is x y h = sym (nat_cmp_is x y Equal h)

-- a number added to both sides changes nothing
shifted : (n r s : ℕ) → nat_cmp r s ≡ nat_cmp (n + r) (n + s)
shifted n r s = elim (side r s) [
  | Below d is ↦ below_is r s (omega (arith, is)) ∙ sym (below_is (n + r) (n + s) (omega (arith, is)))
  | Same is ↦ same_is r s is ∙ sym (same_is (n + r) (n + s) (ap (λ (k : ℕ). n + k) is))
  | Above d is ↦ above_is r s (omega (arith, is)) ∙ sym (above_is (n + r) (n + s) (omega (arith, is)))
]

-- the first digit decides, and else the others
digit : (p x y r s : ℕ) → r < p → s < p → ordering_then (nat_cmp x y) (nat_cmp r s) ≡ nat_cmp (x * p + r) (y * p + s)
digit p x y r s small little = elim (side x y) [
  | Below d is ↦
      ap (λ o. ordering_then o (nat_cmp r s)) (below_is x y (omega (arith, is)))
      ∙ sym (below_is (x * p + r) (y * p + s) (subst (λ (n : ℕ). x * p + r < n * p + s) (sym is) (omega (arith, small))))
  | Same is ↦
      ap (λ o. ordering_then o (nat_cmp r s)) (same_is x y is)
      ∙ shifted (x * p) r s
      ∙ ap (λ (n : ℕ). nat_cmp (x * p + r) (n * p + s)) is
  | Above d is ↦
      ap (λ o. ordering_then o (nat_cmp r s)) (above_is x y (omega (arith, is)))
      ∙ sym (above_is (x * p + r) (y * p + s) (subst (λ (n : ℕ). y * p + s < n * p + r) (sym is) (omega (arith, little))))
]

-- the number that bytes spell, most significant first
abbrev number : List ℕ → ℕ
number [] = 0
number (x ∷ xs) = x * 256 ^ length xs + number xs

abbrev pub AreBytes : List ℕ → Type 0
AreBytes xs = (k : ℕ) → get_or xs k 0 < 256

fits : (p x r : ℕ) → x < 256 → r < p → x * p + r < p * 256
fits p x r small below = elim (side x 256) [
  | Below d is ↦ subst (λ (n : ℕ). x * p + r < p * n) (sym is) (omega (arith, below))
  | Same is ↦ absurd (omega (arith, small, is))
  | Above d is ↦ absurd (omega (arith, small, is))
]

number_below : (xs : List ℕ) → AreBytes xs → number xs < 256 ^ length xs
number_below [] small = omega arith
number_below (x ∷ xs) small =
    rw (pow-suc 256 (length xs)) (fits (256 ^ length xs) x (number xs) (small 0) (number_below xs (λ k. small (suc k))))

in_order : (xs ys : List ℕ) → length xs ≡ length ys → AreBytes xs → AreBytes ys →
    slice_cmp nat_cmp xs ys ≡ nat_cmp (number xs) (number ys)
in_order [] [] same small little = refl
in_order [] (y ∷ ys) same small little = absurd (omega (arith, same))
in_order (x ∷ xs) [] same small little = absurd (omega (arith, same))
in_order (x ∷ xs) (y ∷ ys) same small little =
    let as_long : length xs ≡ length ys = omega (arith, same) in
    let below = subst (λ (n : ℕ). number ys < 256 ^ n) (sym as_long) (number_below ys (λ k. little (suc k))) in
    ap (ordering_then (nat_cmp x y)) (in_order xs ys as_long (λ k. small (suc k)) (λ k. little (suc k)))
    ∙ digit (256 ^ length xs) x y (number xs) (number ys) (number_below xs (λ k. small (suc k))) below
    ∙ ap (λ (n : ℕ). nat_cmp (x * 256 ^ length xs + number xs) (y * 256 ^ n + number ys)) as_long

in_sum : (a b c d e f g h : ℕ) → a * 72057594037927936 + b * 281474976710656 + c * 1099511627776 + d * 4294967296 + e * 16777216
    + f * 65536 + g * 256 + h ≡ number (a ∷ b ∷ c ∷ d ∷ e ∷ f ∷ g ∷ h ∷ [])
in_sum a b c d e f g h = omega arith

word_is : (xs : List ℕ) → length xs ≡ 8 → from_be_bytes w64 xs ≡ number xs
word_is [] l = absurd (omega (arith, l))
word_is (a ∷ []) l = absurd (omega (arith, l))
word_is (a ∷ b ∷ []) l = absurd (omega (arith, l))
word_is (a ∷ b ∷ c ∷ []) l = absurd (omega (arith, l))
word_is (a ∷ b ∷ c ∷ d ∷ []) l = absurd (omega (arith, l))
word_is (a ∷ b ∷ c ∷ d ∷ e ∷ []) l = absurd (omega (arith, l))
word_is (a ∷ b ∷ c ∷ d ∷ e ∷ f ∷ []) l = absurd (omega (arith, l))
word_is (a ∷ b ∷ c ∷ d ∷ e ∷ f ∷ g ∷ []) l = absurd (omega (arith, l))
word_is (a ∷ b ∷ c ∷ d ∷ e ∷ f ∷ g ∷ h ∷ []) l = in_sum a b c d e f g h
word_is (a ∷ b ∷ c ∷ d ∷ e ∷ f ∷ g ∷ h ∷ x ∷ xs) l = absurd (omega (arith, l))

then_assoc : (a b c : Ordering) → ordering_then a (ordering_then b c) ≡ ordering_then (ordering_then a b) c
then_assoc Less b c = refl
then_assoc Equal b c = refl
then_assoc Greater b c = refl

parts : (n : ℕ) (xs ys : List ℕ) → n ≤ length xs → n ≤ length ys → slice_cmp nat_cmp xs ys
    ≡ ordering_then (slice_cmp nat_cmp (take n xs) (take n ys)) (slice_cmp nat_cmp (drop n xs) (drop n ys))
parts zero xs ys long far = refl
parts (suc n) [] ys long far = absurd (omega (arith, long))
parts (suc n) (x ∷ xs) [] long far = absurd (omega (arith, far))
parts (suc n) (x ∷ xs) (y ∷ ys) long far =
    ap (ordering_then (nat_cmp x y)) (parts n xs ys (omega (arith, long)) (omega (arith, far)))
    ∙ then_assoc (nat_cmp x y) (slice_cmp nat_cmp (take n xs) (take n ys)) (slice_cmp nat_cmp (drop n xs) (drop n ys))

-- the first word of bytes
abbrev pub word : List ℕ → ℕ
word xs = from_be_bytes w64 (take 8 xs)

module _ (xs ys : List ℕ) (long : 8 ≤ length xs) (far : 8 ≤ length ys) (small : AreBytes (take 8 xs)) (little : AreBytes (take 8 ys)) where
  first : slice_cmp nat_cmp (take 8 xs) (take 8 ys) ≡ nat_cmp (word xs) (word ys)
  first =
      let mine : length (take 8 xs) ≡ 8 = length-take-le 8 xs long in
      let theirs : length (take 8 ys) ≡ 8 = length-take-le 8 ys far in
      in_order (take 8 xs) (take 8 ys) (mine ∙ sym theirs) small little
      ∙ ap (λ (n : ℕ). nat_cmp n (number (take 8 ys))) (sym (word_is (take 8 xs) mine))
      ∙ ap (nat_cmp (word xs)) (sym (word_is (take 8 ys) theirs))

  by_first : slice_cmp nat_cmp xs ys ≡ ordering_then (nat_cmp (word xs) (word ys)) (slice_cmp nat_cmp (drop 8 xs) (drop 8 ys))
  by_first = parts 8 xs ys long far ∙ ap (λ o. ordering_then o (slice_cmp nat_cmp (drop 8 xs) (drop 8 ys))) first

  -- where the first words are equal, those after them decide
  pub same_word : word xs ≡ word ys → slice_cmp nat_cmp xs ys ≡ slice_cmp nat_cmp (drop 8 xs) (drop 8 ys)
  same_word same = by_first ∙ ap (λ o. ordering_then o (slice_cmp nat_cmp (drop 8 xs) (drop 8 ys))) (same_is (word xs) (word ys) same)

  -- where they differ, they decide
  pub other_word : (word xs ≢ word ys) → slice_cmp nat_cmp xs ys ≡ nat_cmp (word xs) (word ys)
  other_word differ = by_first ∙ elim (side (word xs) (word ys)) [
    | Below d is ↦
        let less = below_is (word xs) (word ys) (omega (arith, is)) in
        ap (λ o. ordering_then o (slice_cmp nat_cmp (drop 8 xs) (drop 8 ys))) less ∙ sym less
    | Same is ↦ absurd (differ is)
    | Above d is ↦
        let more = above_is (word xs) (word ys) (omega (arith, is)) in
        ap (λ o. ordering_then o (slice_cmp nat_cmp (drop 8 xs) (drop 8 ys))) more ∙ sym more
  ]

zeros_equal : (n : ℕ) → slice_cmp nat_cmp (replicate n 0) (replicate n 0) ≡ Equal
zeros_equal zero = refl
zeros_equal (suc n) = zeros_equal n

-- zeros after names of one length in all leave their order
pub padded_order : (xs ys : List ℕ) (i j : ℕ) → list_all is_name_byte xs ≡ true → list_all is_name_byte ys ≡ true →
    length xs + i ≡ length ys + j → slice_cmp nat_cmp xs ys ≡ slice_cmp nat_cmp (xs ++ replicate i 0) (ys ++ replicate j 0)
padded_order [] [] i j one other same =
    sym (zeros_equal i) ∙ ap (λ (n : ℕ). slice_cmp nat_cmp (replicate i 0) (replicate n 0)) (omega (arith, same))
padded_order [] (zero ∷ ys) i j one other same = absurd (false≢true other)
padded_order [] (suc y ∷ ys) zero j one other same = absurd (omega (arith, same))
padded_order [] (suc y ∷ ys) (suc i) j one other same =
    sym (ap (λ o. ordering_then o (slice_cmp nat_cmp (replicate i 0) (ys ++ replicate j 0))) (below_is 0 (suc y) (omega arith)))
padded_order (zero ∷ xs) [] i j one other same = absurd (false≢true one)
padded_order (suc x ∷ xs) [] i zero one other same = absurd (omega (arith, same))
padded_order (suc x ∷ xs) [] i (suc j) one other same =
    sym (ap (λ o. ordering_then o (slice_cmp nat_cmp (xs ++ replicate i 0) (replicate j 0))) (above_is (suc x) 0 (omega arith)))
padded_order (x ∷ xs) (y ∷ ys) i j one other same =
    ap (ordering_then (nat_cmp x y))
    (padded_order xs ys i j (and_right _ _ one) (and_right _ _ other) (omega (arith, same)))

name_byte_small : (b : ℕ) → is_name_byte b ≡ true → b < 256
name_byte_small b is = grind (arith, nat_tests)

with_zeros : (xs : List ℕ) (i : ℕ) → list_all is_name_byte xs ≡ true → AreBytes (xs ++ replicate i 0)
with_zeros [] zero all k = omega arith
with_zeros [] (suc i) all zero = omega arith
with_zeros [] (suc i) all (suc k) = with_zeros [] i all k
with_zeros (x ∷ xs) i all zero = name_byte_small x (and_left _ _ all)
with_zeros (x ∷ xs) i all (suc k) = with_zeros xs i (and_right _ _ all) k

in_part : (n m : ℕ) (xs : List ℕ) → AreBytes xs → AreBytes (take n (drop m xs))
in_part zero m xs small k = omega arith
in_part (suc n) zero [] small k = omega arith
in_part (suc n) zero (x ∷ xs) small zero = small 0
in_part (suc n) zero (x ∷ xs) small (suc k) = in_part n zero xs (λ j. small (suc j)) k
in_part (suc n) (suc m) [] small k = omega arith
in_part (suc n) (suc m) (x ∷ xs) small k = in_part (suc n) m xs (λ j. small (suc j)) k

-- the last of the bytes that a word spells
last_byte : (a b c d e f g h : ℕ) → h < 256 → (a * 72057594037927936 + b * 281474976710656 + c * 1099511627776 + d * 4294967296
    + e * 16777216 + f * 65536 + g * 256 + h) % 256 ≡ 0 → h ≡ 0
last_byte a b c d e f g h small is = omega (arith, small, is)

ends_in_zero : (xs : List ℕ) → get_or xs 7 0 < 256 → from_be_bytes w64 xs % 256 ≡ 0 → get_or xs 7 0 ≡ 0
ends_in_zero xs small is = last_byte (get_or xs 0 0) (get_or xs 1 0) (get_or xs 2 0) (get_or xs 3 0) (get_or xs 4 0) (get_or xs 5 0)
    (get_or xs 6 0) (get_or xs 7 0) small is

zero_past : (xs : List ℕ) (i j : ℕ) → list_all is_name_byte xs ≡ true → get_or (xs ++ replicate i 0) j 0 ≡ 0 → length xs ≤ j
zero_past [] i j all is = omega arith
zero_past (zero ∷ xs) i zero all is = absurd (false≢true all)
zero_past (suc x ∷ xs) i zero all is = absurd (omega (arith, is))
zero_past (x ∷ xs) i (suc j) all is = omega (arith, zero_past xs i j (and_right _ _ all) is)

zeros_left : (xs : List ℕ) (i m : ℕ) → length xs ≤ m → drop m (xs ++ replicate i 0) ≡ replicate (length xs + i - m) 0
zeros_left xs i m past =
    ap (λ (n : ℕ). drop n (xs ++ replicate i 0)) (omega (arith, past))
    ∙ drop-append-add xs (replicate i 0) (m - length xs)
    ∙ drop-replicate (m - length xs) i 0
    ∙ ap (λ (n : ℕ). replicate n 0) (omega (arith, past))

-- after a zero come zeros alone
rest_is : (n : ℕ) (xs : List ℕ) → IsStored n xs → (w : ℕ) → w < 4 → get_or xs (8 * w + 7) 0 ≡ 0
    → drop (8 * (w + 1)) xs ≡ replicate (32 - 8 * (w + 1)) 0
rest_is n xs stored w within is =
    let name = name_parts _ stored.name in
    let zero_is = ap (λ (l : List ℕ). get_or l (8 * w + 7) 0) (sym stored.padded) ∙ is in
    let past = zero_past (take n xs) (32 - n) (8 * w + 7) name.name_bytes zero_is in
    ap (drop (8 * (w + 1))) stored.padded
    ∙ zeros_left (take n xs) (32 - n) (8 * (w + 1)) (omega (arith, past))
    ∙ ap (λ (k : ℕ). replicate k 0) (omega (arith, stored.len_is, name.within_limit))

-- two names, and the arrays that they are stored in
module _ (n m : ℕ) (xs ys : List ℕ) (one : IsStored n xs) (other : IsStored m ys) where
  as_long : length (take n xs) + (32 - n) ≡ length (take m ys) + (32 - m)
  as_long =
      omega (arith, one.len_is, other.len_is, (name_parts _ one.name).within_limit, (name_parts _ other.name).within_limit)

  pub as_arrays : slice_cmp nat_cmp (take n xs) (take m ys) ≡ slice_cmp nat_cmp xs ys
  as_arrays =
      padded_order (take n xs) (take m ys) (32 - n) (32 - m) (name_parts _ one.name).name_bytes (name_parts _ other.name).name_bytes as_long
      ∙ ap (λ (l : List ℕ). slice_cmp nat_cmp l (take m ys ++ replicate (32 - m) 0)) (sym one.padded)
      ∙ ap (slice_cmp nat_cmp xs) (sym other.padded)

  bytes_one : AreBytes xs
  bytes_one = subst AreBytes (sym one.padded) (with_zeros (take n xs) (32 - n) (name_parts _ one.name).name_bytes)

  bytes_other : AreBytes ys
  bytes_other = subst AreBytes (sym other.padded) (with_zeros (take m ys) (32 - m) (name_parts _ other.name).name_bytes)

  module _ (w : ℕ) (within : w < 4) (wide : length xs ≡ 32) (broad : length ys ≡ 32) where
    long : 8 ≤ length (drop (8 * w) xs)
    long = omega (arith, length-drop (8 * w) xs, wide, within)

    far : 8 ≤ length (drop (8 * w) ys)
    far = omega (arith, length-drop (8 * w) ys, broad, within)

    pub next_word : word (drop (8 * w) xs) ≡ word (drop (8 * w) ys) → slice_cmp nat_cmp (drop (8 * w) xs) (drop (8 * w) ys)
        ≡ slice_cmp nat_cmp (drop (8 * (w + 1)) xs) (drop (8 * (w + 1)) ys)
    next_word same =
        let on : 8 * w + 8 ≡ 8 * (w + 1) = omega arith in
        same_word _ _ long far (in_part 8 (8 * w) xs bytes_one) (in_part 8 (8 * w) ys bytes_other) same
        ∙ ap (λ (l : List ℕ). slice_cmp nat_cmp l (drop 8 (drop (8 * w) ys))) (drop-drop 8 (8 * w) xs ∙ ap (λ (k : ℕ). drop k xs) on)
        ∙ ap (slice_cmp nat_cmp (drop (8 * (w + 1)) xs)) (drop-drop 8 (8 * w) ys ∙ ap (λ (k : ℕ). drop k ys) on)

    pub word_decides : (word (drop (8 * w) xs) ≢ word (drop (8 * w) ys)) → slice_cmp nat_cmp (drop (8 * w) xs) (drop (8 * w) ys)
        ≡ nat_cmp (word (drop (8 * w) xs)) (word (drop (8 * w) ys))
    word_decides differ = other_word _ _ long far (in_part 8 (8 * w) xs bytes_one) (in_part 8 (8 * w) ys bytes_other) differ

    byte_is : get_or (take 8 (drop (8 * w) xs)) 7 0 ≡ get_or xs (8 * w + 7) 0
    byte_is = get_or-take 8 (drop (8 * w) xs) 7 0 (omega arith) ∙ get_or-drop (8 * w) xs 7 0

    other_byte_is : get_or (take 8 (drop (8 * w) ys)) 7 0 ≡ get_or ys (8 * w + 7) 0
    other_byte_is = get_or-take 8 (drop (8 * w) ys) 7 0 (omega arith) ∙ get_or-drop (8 * w) ys 7 0

    -- where a word of both ends in a zero, nothing but zeros comes after it
    pub ended : word (drop (8 * w) xs) ≡ word (drop (8 * w) ys) → word (drop (8 * w) xs) % 256 ≡ 0
        → slice_cmp nat_cmp (drop (8 * w) xs) (drop (8 * w) ys) ≡ Equal
    ended same is =
        let mine = sym byte_is ∙ ends_in_zero (take 8 (drop (8 * w) xs)) (in_part 8 (8 * w) xs bytes_one 7) is in
        let theirs = sym other_byte_is
        ∙ ends_in_zero (take 8 (drop (8 * w) ys)) (in_part 8 (8 * w) ys bytes_other 7) (ap (λ (n : ℕ). n % 256) (sym same) ∙ is) in
        let left = rest_is n xs one w within mine in
        let right = rest_is m ys other w within theirs in
        next_word same
        ∙ ap (λ (l : List ℕ). slice_cmp nat_cmp l (drop (8 * (w + 1)) ys)) left
        ∙ ap (slice_cmp nat_cmp (replicate (32 - 8 * (w + 1)) 0)) right
        ∙ zeros_equal (32 - 8 * (w + 1))
