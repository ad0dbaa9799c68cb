-- The marks of all bytes of a disk, by those of the bytes that were there at the last sync.
use Rattle.std.proofs.Common.{◌≡◌, ◌≤◌, ◌<◌, ◌⊎◌, inl, inr, ℕ, ◌+◌, ◌-◌, max, Bool, true, false, List, length, get_or, replicate}
use Rattle.std.proofs.Common.{refl, sym, ◌∙◌, subst, arith, length-append}
use Rattle.std.proofs.lemmas.Bool.{cases_lt}
use Rattle.std.proofs.lemmas.List.{get_or-replicate, get_or_append_left, get_or-append_right, get_or_default, get_or_past}
use Rattle.std.proofs.lemmas.List.{length-replicate, ext_get_or}
use Rattle.iot_disk.specs.Disk.{overwritten}
use Rattle.iot_disk.specs.Unsynced.{is_marked, all_marks, Covers}
use Rattle.iot_disk.specs.declared.unsynced.Span.{Span}
use Rattle.iot_disk.proofs.DiskLaws.{Inside, Outside, side, get_or-overwritten_in, get_or-overwritten_out, length-overwritten}

module _ (known : List Bool) (count : ℕ) where
  -- a byte that was there has its own mark
  known_mark : (k : ℕ) → k < length known → is_marked (all_marks known count) k ≡ is_marked known k
  known_mark k below = get_or_append_left known (replicate (count - length known) true) false k below

  -- each other is marked
  past_mark : (k : ℕ) → length known ≤ k → k < count → is_marked (all_marks known count) k ≡ true
  past_mark k past below =
      get_or-append_right known (replicate (count - length known) true) (length known) k false refl past
      ∙ get_or-replicate (count - length known) (k - length known) true false (omega arith)

  pub mark_is : (k : ℕ) → k < count → is_marked (all_marks known count) k ≡ get_or known k true
  mark_is k below = elim (cases_lt k (length known)) [
    | inl inside ↦ known_mark k inside ∙ get_or_default known k false true inside
    | inr past ↦ past_mark k past below ∙ sym (get_or_past known k true past)
  ]

  pub length-all_marks : length known ≤ count → length (all_marks known count) ≡ count
  length-all_marks inside =
      omega (arith, length-append known (replicate (count - length known) true), length-replicate (count - length known) true)

-- a span that was covered, whether the bytes were there before or not
module _ (span : Span) (known new : List Bool) (count more at n : ℕ) (starts : span.start ≡ at) (ends : span.end ≡ at + n)
    (inside : length known ≤ count) (at_most : at ≤ count) (is : more ≡ max count (at + n)) (covers : Covers span known new) where
  abbrev old : List Bool
  old = all_marks known count

  abbrev set_marks : List Bool
  set_marks = replicate n true

  size : length set_marks ≡ n
  size = length-replicate n true

  old_length : length old ≡ count
  old_length = length-all_marks known count inside

  new_length : length (all_marks new more) ≡ more
  new_length = length-all_marks new more (omega (arith, covers.size))

  same_length : length (all_marks new more) ≡ length (overwritten old at set_marks)
  same_length = omega (arith, new_length, old_length, size, length-overwritten old set_marks at false (omega (arith, old_length)))

  marked_in : (k : ℕ) → at ≤ k → k < at + n → k < more → is_marked (all_marks new more) k ≡ true
  marked_in k from to below = elim (cases_lt k (length known)) [
    | inl known_byte ↦
        known_mark new more k (omega (arith, covers.size))
        ∙ covers.inside k known_byte (record { from = omega arith; to = omega arith })
    | inr past ↦ past_mark new more k (omega (arith, covers.size)) below
  ]

  aside : (k : ℕ) → (k < at) ⊎ (at + n ≤ k) → (k < span.start) ⊎ (span.end ≤ k)
  aside k (inl h) = inl (omega arith)
  aside k (inr h) = inr (omega arith)

  below_count : (k : ℕ) → (k < at) ⊎ (at + n ≤ k) → k < more → k < count
  below_count k (inl h) below = omega arith
  below_count k (inr h) below = omega arith

  same_out : (k : ℕ) → (k < at) ⊎ (at + n ≤ k) → k < more → is_marked (all_marks new more) k ≡ is_marked old k
  same_out k out below = elim (cases_lt k (length known)) [
    | inl known_byte ↦
        known_mark new more k (omega (arith, covers.size))
        ∙ covers.outside k (aside k out)
        ∙ sym (known_mark known count k known_byte)
    | inr past ↦
        past_mark new more k (omega (arith, covers.size)) below
        ∙ sym (past_mark known count k past (below_count k out below))
  ]

  pub covered_is : all_marks new more ≡ overwritten old at set_marks
  covered_is = ext_get_or false (all_marks new more) (overwritten old at set_marks) same_length (λ k below.
      let here : k < more = omega (arith, new_length) in
      let start : at ≤ length old = omega (arith, old_length) in
      elim (side at (at + n) k) [
        | Inside from to ↦
            marked_in k from to here
            ∙ sym (get_or-replicate n (k - at) true false (omega arith))
            ∙ sym (get_or-overwritten_in old set_marks at false start k from (omega (arith, size)))
        | Outside out ↦
            let beside = subst (λ (m : ℕ). (k < at) ⊎ (at + m ≤ k)) (sym size) out in
            same_out k out here ∙ sym (get_or-overwritten_out old set_marks at false start k beside)
      ])
