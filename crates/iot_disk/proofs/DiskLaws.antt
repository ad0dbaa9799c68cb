-- A list that was written over, and what a write that is cut short leaves of it.
use Rattle.std.proofs.Common.{◌≡◌, ◌≤◌, ◌<◌, ◌⊎◌, inl, inr, ℕ, ◌+◌, ◌-◌, max, List, [], ◌∷◌, ◌++◌, length, get_or, take, drop}
use Rattle.std.proofs.Common.{refl, sym, ◌∙◌, ap, arith, append_assoc, length-append, length-drop, take-append-drop}
use Rattle.std.proofs.lemmas.Bool.{cases_lt}
use Rattle.std.proofs.lemmas.List.{drop_at, drop_more, drop-drop, ext_get_or, get_or_append_left}
use Rattle.std.proofs.lemmas.List.{get_or-append_right, get_or-drop, get_or-take, length-take-le, take_at}
use Rattle.iot_disk.specs.Disk.{overwritten, Torn}

-- a place is inside from a to e, or outside
pub data Side (a e k : ℕ) : Type 0 where
  Inside : a ≤ k → k < e → Side a e k
  Outside : (k < a) ⊎ (e ≤ k) → Side a e k

pub side : (a e k : ℕ) → Side a e k
side a e k = elim (cases_lt k a) [
  | inl below ↦ Outside (inl below)
  | inr from ↦ elim (cases_lt k e) [ inl to ↦ Inside from to | inr past ↦ Outside (inr past) ]
]

-- a part that other elements take the place of, as slices put it
abbrev pub replaced : {X : Type 0} → List X → ℕ → ℕ → List X → List X
replaced xs a e ys = take a xs ++ (ys ++ drop (e - a) (drop a xs))

-- as many elements in its place are written over it
pub replaced_is : {X : Type 0} (xs ys : List X) (a e : ℕ) → a + length ys ≡ e → replaced xs a e ys ≡ overwritten xs a ys
replaced_is {X = X} xs ys a e fits =
    ap (λ (l : List X). take a xs ++ (ys ++ l)) (drop-drop (e - a) a xs ∙ ap (λ (n : ℕ). drop n xs) (omega arith))

module _ {X : Type 0} (xs ys : List X) (a : ℕ) (d : X) (inside : a ≤ length xs) where
  front : length (take a xs) ≡ a
  front = length-take-le a xs inside

  at_seam : (i : ℕ) → a ≤ i → get_or (overwritten xs a ys) i d ≡ get_or (ys ++ drop (a + length ys) xs) (i - a) d
  at_seam i h = get_or-append_right (take a xs) (ys ++ drop (a + length ys) xs) a i d front h

  pub get_or-overwritten_in : (i : ℕ) → a ≤ i → i < a + length ys → get_or (overwritten xs a ys) i d ≡ get_or ys (i - a) d
  get_or-overwritten_in i h below =
      at_seam i h ∙ get_or_append_left ys (drop (a + length ys) xs) d (i - a) (omega arith)

  pub get_or-overwritten_out : (i : ℕ) → (i < a) ⊎ (a + length ys ≤ i) → get_or (overwritten xs a ys) i d ≡ get_or xs i d
  get_or-overwritten_out i (inl h) =
      get_or_append_left (take a xs) (ys ++ drop (a + length ys) xs) d i (omega (arith, front)) ∙ get_or-take a xs i d h
  get_or-overwritten_out i (inr h) =
      at_seam i (omega arith)
      ∙ get_or-append_right ys (drop (a + length ys) xs) (length ys) (i - a) d refl (omega arith)
      ∙ get_or-drop (a + length ys) xs (i - a - length ys) d
      ∙ ap (λ (k : ℕ). get_or xs k d) (omega arith)

  pub length-overwritten : length (overwritten xs a ys) ≡ max (length xs) (a + length ys)
  length-overwritten =
      let rest = drop (a + length ys) xs in
      omega (arith, length-append (take a xs) (ys ++ rest), length-append ys rest, length-drop (a + length ys) xs, front)

module _ (at end : ℕ) (old new : List ℕ) (torn : Torn at end old new) where
  -- before the range
  torn_before : at ≤ length old → take at new ≡ take at old
  torn_before inside =
      let size_new = length-take-le at new (omega (arith, torn.no_shorter)) in
      let size_old = length-take-le at old inside in
      ext_get_or 0 (take at new) (take at old) (size_new ∙ sym size_old) (λ k below.
      get_or-take at new k 0 (omega arith)
      ∙ torn.outside k (omega arith) (inl (omega arith))
      ∙ sym (get_or-take at old k 0 (omega arith)))

  -- from its end on
  torn_from_end : end ≤ length old → drop end new ≡ drop end old
  torn_from_end inside =
      let same : length new ≡ length old = omega (arith, torn.no_shorter, torn.no_longer) in
      let sizes = length-drop end new ∙ ap (λ (n : ℕ). n - end) same ∙ sym (length-drop end old) in
      ext_get_or 0 (drop end new) (drop end old) sizes (λ k below.
      get_or-drop end new k 0
      ∙ torn.outside (end + k) (omega (arith, length-drop end new)) (inr (omega arith))
      ∙ sym (get_or-drop end old k 0))

-- writes from a byte on, and after it
module _ (front rest : List ℕ) (byte : ℕ) where
  abbrev old : List ℕ
  old = front ++ byte ∷ rest

  split : old ≡ (front ++ byte ∷ []) ++ rest
  split = sym (append_assoc front (byte ∷ []) rest)

  size : length (front ++ byte ∷ []) ≡ length front + 1
  size = length-append front (byte ∷ [])

  whole_size : length old ≡ length front + 1 + length rest
  whole_size = omega (arith, length-append front (byte ∷ rest))

  past : drop (length front + 1) old ≡ rest
  past = ap (λ (l : List ℕ). drop (length front + 1) l) split ∙ drop_at (front ++ byte ∷ []) rest (length front + 1) size

  up_to : take (length front + 1) old ≡ front ++ byte ∷ []
  up_to = ap (λ (l : List ℕ). take (length front + 1) l) split ∙ take_at (front ++ byte ∷ []) rest (length front + 1) size

  -- what is before a write after the byte stays, the byte too
  pub torn_after : (end : ℕ) (new : List ℕ) → Torn (length front + 1) end old new → (left : List ℕ) × (new ≡ front ++ byte ∷ left)
  torn_after end new torn =
      let at = length front + 1 in
      let before = torn_before at end old new torn (omega (arith, whole_size)) ∙ up_to in (
        drop at new,
        sym (take-append-drop at new) ∙ ap (λ (l : List ℕ). l ++ drop at new) before ∙ append_assoc front (byte ∷ []) (drop at new),
      )

  -- a write of the byte alone
  pub torn_byte : (new : List ℕ) → Torn (length front) (length front + 1) old new → (left : ℕ) × (new ≡ front ++ left ∷ rest)
  torn_byte new torn =
      let at = length front in
      let before = torn_before at (at + 1) old new torn (omega (arith, whole_size)) ∙ take_at front (byte ∷ rest) at refl in
      let after = torn_from_end at (at + 1) old new torn (omega (arith, whole_size)) ∙ past in
      let here = drop_more new at 0 (omega (arith, whole_size, torn.no_shorter)) ∙ ap (λ (l : List ℕ). get_or new at 0 ∷ l) after in (
        get_or new at 0,
        sym (take-append-drop at new) ∙ ap (λ (l : List ℕ). l ++ drop at new) before ∙ ap (λ (l : List ℕ). front ++ l) here,
      )

  pub written_after : (bytes : List ℕ) → overwritten old (length front + 1) bytes ≡ front ++ byte ∷ (bytes ++ drop (length bytes) rest)
  written_after bytes =
      let at = length front + 1 in
      let after = sym (drop-drop (length bytes) at old) ∙ ap (λ (l : List ℕ). drop (length bytes) l) past in
      ap (λ (l : List ℕ). l ++ (bytes ++ drop (at + length bytes) old)) up_to
      ∙ ap (λ (l : List ℕ). (front ++ byte ∷ []) ++ (bytes ++ l)) after
      ∙ append_assoc front (byte ∷ []) (bytes ++ drop (length bytes) rest)

  pub written_byte : (new : ℕ) → overwritten old (length front) (new ∷ []) ≡ front ++ new ∷ rest
  written_byte new =
      ap (λ (l : List ℕ). l ++ new ∷ drop (length front + 1) old) (take_at front (byte ∷ rest) (length front) refl)
      ∙ ap (λ (l : List ℕ). front ++ new ∷ l) past
