-- What marks and bytes are after a span is synced, and after one is covered.
use Rattle.std.proofs.Common.{◌≡◌, ◌≤◌, ◌<◌, ◌⊎◌, inl, inr, ℕ, ◌+◌, ◌-◌, min, Bool, true, false, List, [], ◌∷◌, ◌++◌, length, get_or, drop}
use Rattle.std.proofs.Common.{replicate, slice_range, sym, ◌∙◌, ap, subst, arith, length-take, length-drop}
use Rattle.std.proofs.lemmas.Bool.{cases_lt, false≢true, false_from_ne_true}
use Rattle.std.proofs.lemmas.List.{get_or-take, get_or-drop, get_or-replicate, get_or_past, length-replicate, ext_get_or}
use Rattle.iot_disk.specs.Disk.{overwritten}
use Rattle.iot_disk.specs.Unsynced.{is_marked, IsIn, IsInOneOf, TakeIn, Hold, AreAlike, Clears}
use Rattle.iot_disk.specs.declared.unsynced.Span.{Span}
use Rattle.iot_disk.proofs.DiskLaws.{Inside, Outside, side, replaced, replaced_is}
use Rattle.iot_disk.proofs.DiskLaws.{get_or-overwritten_in, get_or-overwritten_out, length-overwritten}

-- a byte with a mark is a byte of the disk
marked_inside : (marks : List Bool) (k : ℕ) → is_marked marks k ≡ true → k < length marks
marked_inside marks k h = elim (cases_lt k (length marks)) [
  | inl below ↦ below
  | inr past ↦ absurd (false≢true (sym (get_or_past marks k false past) ∙ h))
]

module _ (marks cleared : List Bool) (a e : ℕ) (ordered : a ≤ e) (inside : e ≤ length marks)
    (none : cleared ≡ replicate (e - a) false) where
  abbrev now : List Bool
  now = overwritten marks a cleared

  fits : a + length cleared ≡ e
  fits = omega (arith, ap length none, length-replicate (e - a) false)

  -- no mark is left in the part that was cleared
  none_in : (k : ℕ) → a ≤ k → k < e → is_marked now k ≡ false
  none_in k from to =
      get_or-overwritten_in marks cleared a false (omega arith) k from (omega (arith, fits))
      ∙ ap (λ (l : List Bool). get_or l (k - a) false) none
      ∙ get_or-replicate (e - a) (k - a) false false (omega arith)

  same_out : (k : ℕ) → (k < a) ⊎ (e ≤ k) → is_marked now k ≡ is_marked marks k
  same_out k out =
      get_or-overwritten_out marks cleared a false (omega arith) k (subst (λ (n : ℕ). (k < a) ⊎ (n ≤ k)) (sym fits) out)

  still_marked : (k : ℕ) → is_marked now k ≡ true → is_marked marks k ≡ true
  still_marked k h = elim (side a e k) [
    | Inside l r ↦ absurd (false≢true (sym (none_in k l r) ∙ h))
    | Outside out ↦ sym (same_out k out) ∙ h
  ]

  same_length : length now ≡ length marks
  same_length = omega (arith, length-overwritten marks cleared a false (omega arith), fits)

  pub clears : (span : Span) → e ≡ min span.end (length marks) → a ≡ min span.start e → Clears span marks (replaced marks a e cleared)
  clears span to from = subst (λ (l : List Bool). Clears span marks l) (sym (replaced_is marks cleared a e fits)) (record {
    length = same_length;
    other = still_marked;
    gone = λ k h within.
        let below : k < length marks = marked_inside marks k (still_marked k h) in
        false≢true (sym (none_in k (omega (arith, within.from)) (omega (arith, within.to))) ∙ h);
  })

  module _ (synced written copied : List ℕ) (as_synced : length synced ≡ length marks) (as_written : length written ≡ length marks)
      (copy : copied ≡ slice_range written a e) (alike : AreAlike marks synced written) where
    fits_copied : a + length copied ≡ e
    fits_copied = omega (arith, ap length copy, length-take (e - a) (drop a written), length-drop a written)

    alike_over : AreAlike now (overwritten synced a copied) written
    alike_over = record {
      each = λ k below is. elim (side a e k) [
        | Inside l r ↦
            get_or-overwritten_in synced copied a 0 (omega arith) k l (omega (arith, fits_copied))
            ∙ ap (λ (xs : List ℕ). get_or xs (k - a) 0) copy
            ∙ get_or-take (e - a) (drop a written) (k - a) 0 (omega arith)
            ∙ get_or-drop a written (k - a) 0
            ∙ ap (λ (n : ℕ). get_or written n 0) (omega arith)
        | Outside out ↦
            get_or-overwritten_out synced copied a 0 (omega arith) k (subst (λ (n : ℕ). (k < a) ⊎ (n ≤ k)) (sym fits_copied) out)
            ∙ alike.each k (omega (arith, same_length)) (sym (same_out k out) ∙ is)
      ];
    }

    -- the part that was copied is alike, and the marks tell of the others
    pub alike_after : AreAlike (replaced marks a e cleared) (replaced synced a e copied) written
    alike_after =
        let marks_are = sym (replaced_is marks cleared a e fits) in
        let synced_is = sym (replaced_is synced copied a e fits_copied) in
        subst (λ (l : List Bool). AreAlike l (replaced synced a e copied) written) marks_are
        (subst (λ (l : List ℕ). AreAlike now l written) synced_is alike_over)

-- once the rest is synced too, none is left
pub none_left : (rest : Span) (old new : List Bool) → Hold [] rest old → Clears rest old new → (k : ℕ) → is_marked new k ≡ false
none_left rest old new hold gone k = false_from_ne_true (is_marked new k) (λ h. gone.gone k h (hold.each k (gone.other k h)))

pub all_clear : (marks : List Bool) (n : ℕ) → length marks ≡ n → ((k : ℕ) → is_marked marks k ≡ false) → marks ≡ replicate n false
all_clear marks n size none =
    let same = size ∙ sym (length-replicate n false) in
    ext_get_or false marks (replicate n false) same (λ i h. none i ∙ sym (get_or-replicate n i false false (omega arith)))

-- if nothing is marked, the two lists are one
pub alike_all : (marks : List Bool) (xs ys : List ℕ) → length xs ≡ length marks → length ys ≡ length marks →
    AreAlike marks xs ys → ((k : ℕ) → is_marked marks k ≡ false) → xs ≡ ys
alike_all marks xs ys one other alike none = ext_get_or 0 xs ys (one ∙ sym other) (λ i h. alike.each i (omega arith) (none i))

in_pushed : (span rest : Span) (spans : List Span) (k : ℕ) → IsIn span k → IsInOneOf (spans ++ span ∷ []) rest k
in_pushed span rest [] k h = inl h
in_pushed span rest (s ∷ spans) k h = inr (in_pushed span rest spans k h)

in_others : (span rest : Span) (spans : List Span) (k : ℕ) → IsInOneOf spans rest k → IsInOneOf (spans ++ span ∷ []) rest k
in_others span rest [] k h = inr h
in_others span rest (s ∷ spans) k (inl h) = inl h
in_others span rest (s ∷ spans) k (inr h) = inr (in_others span rest spans k h)

in_rest : (rest : Span) (spans : List Span) (k : ℕ) → IsIn rest k → IsInOneOf spans rest k
in_rest rest [] k h = h
in_rest rest (s ∷ spans) k h = inr (in_rest rest spans k h)

in_wider : (rest wider : Span) (spans : List Span) (k : ℕ) → (IsIn rest k → IsIn wider k) → IsInOneOf spans rest k → IsInOneOf spans wider k
in_wider rest wider [] k wide h = wide h
in_wider rest wider (s ∷ spans) k wide (inl h) = inl h
in_wider rest wider (s ∷ spans) k wide (inr h) = inr (in_wider rest wider spans k wide h)

pub pushed : (span rest : Span) (spans : List Span) → TakeIn span spans rest (spans ++ span ∷ []) rest
pushed span rest spans = record { new = in_pushed span rest spans; old = in_others span rest spans }

pub widened : (span rest wider : Span) (spans : List Span) → ((k : ℕ) → IsIn rest k → IsIn wider k) →
    ((k : ℕ) → IsIn span k → IsIn wider k) → TakeIn span spans rest spans wider
widened span rest wider spans one other = record {
  new = λ k h. in_rest wider spans k (other k h);
  old = λ k h. in_wider rest wider spans k (one k) h;
}
