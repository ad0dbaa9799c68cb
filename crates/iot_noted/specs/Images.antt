-- What a disk may hold by the record of its calls, and that what it reads is one of that.
use Rattle.std.proofs.Common.{◌≡◌, ◌≤◌, ◌<◌, inl, inr, ℕ, ◌+◌, Bool, true, false, List, [], ◌∷◌, ◌++◌, length, drop}
use Rattle.std.proofs.Common.{refl, sym, ◌∙◌, ap, subst, arith}
use Rattle.std.proofs.lemmas.Bool.{cases_lt}
use Rattle.std.proofs.lemmas.List.{take_all, get_or_append_left, length-append}
use Rattle.std.proofs.Math.ListN.{drop_of_length-le}
use Rattle.iot_disk.specs.Disk.{Torn, overwritten}
use Rattle.iot_disk.proofs.DiskLaws.{get_or-overwritten_out, length-overwritten}
use Rattle.iot_noted.specs.Events.{Event, Opened, Wrote, Synced, MayHold, written}

-- What the record says. After a restart that failed the rule of every disk is kept in words alone: one image is told, which nobody knows.
abbrev pub images_by : Bool → List Event → List ℕ → Type 0
images_by false events = MayHold events
images_by true events = λ image. image ≡ written events

module _ (xs : List ℕ) (at : ℕ) (bytes : List ℕ) where
  -- past the end of the bytes the new ones stand right after them
  past : length xs < at → overwritten xs at bytes ≡ xs ++ (bytes ++ [])
  past beyond =
      ap (λ (l : List ℕ). l ++ (bytes ++ drop (at + length bytes) xs)) (take_all at xs (omega arith))
      ∙ ap (λ (l : List ℕ). xs ++ (bytes ++ l)) (drop_of_length-le xs (omega arith))

  torn_past : length xs < at → Torn at (at + length bytes) xs (xs ++ (bytes ++ []))
  torn_past beyond = record {
    no_shorter = omega (arith, length-append xs (bytes ++ []));
    no_longer = omega (arith, length-append xs (bytes ++ []), length-append bytes []);
    outside = λ k below out. get_or_append_left xs (bytes ++ []) 0 k below;
  }

  torn_inside : at ≤ length xs → Torn at (at + length bytes) xs (overwritten xs at bytes)
  torn_inside inside = record {
    no_shorter = omega (arith, length-overwritten xs bytes at 0 inside);
    no_longer = omega (arith, length-overwritten xs bytes at 0 inside);
    outside = λ k below out. get_or-overwritten_out xs bytes at 0 inside k out;
  }

  -- a write that was whole
  torn_whole : Torn at (at + length bytes) xs (overwritten xs at bytes)
  torn_whole = elim (cases_lt (length xs) at) [
    | inl beyond ↦ subst (λ (l : List ℕ). Torn at (at + length bytes) xs l) (sym (past beyond)) (torn_past beyond)
    | inr inside ↦ torn_inside inside
  ]

written_is_held : (events : List Event) → MayHold events (written events)
written_is_held [] = refl
written_is_held (Opened bytes ∷ earlier) = refl
written_is_held (Wrote at bytes ∷ earlier) = (written earlier, written_is_held earlier, torn_whole (written earlier) at bytes)
written_is_held (Synced ∷ earlier) = refl

pub reads_is_image_by : (is_given_up : Bool) (events : List Event) → images_by is_given_up events (written events)
reads_is_image_by false events = written_is_held events
reads_is_image_by true events = refl
