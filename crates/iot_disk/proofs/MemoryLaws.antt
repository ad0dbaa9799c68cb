-- A disk in memory keeps what is true of each, and its images are as a disk's are.
use Rattle.std.proofs.Common.{◌≡◌, ◌≤◌, ◌<◌, ◌⊎◌, inl, inr, ℕ, zero, suc, ◌+◌, ◌-◌, ◌^◌, min, max, Bool, true, false, cond}
use Rattle.std.proofs.Common.{Option, None, Some, Result, Err, List, [], ◌∷◌, ◌++◌, length, get_or, set, take, drop}
use Rattle.std.proofs.Common.{rules, replicate, refl, sym, ◌∙◌, ap, subst, arith}
use Rattle.std.specs.Prelude.{IsErrOf}
use Rattle.std.proofs.lemmas.Bool.{cases_lt, true≢false}
use Rattle.std.proofs.lemmas.List.{append_assoc, get_or-replicate, length-replicate, ext_get_or, take_more_set, drop-set-lt, drop_more}
use Rattle.iot_disk.specs.Disk.{overwritten, Torn, IsTornFrom, Only}
use Rattle.iot_disk.specs.Unsynced.{is_marked}
use Rattle.iot_disk.specs.Memory.{Memory, IsImage, IsSound, filled, picked, images_of, reads_is_image, after_refusal, after_write}
use Rattle.iot_disk.specs.Failures.{answer, after_call}
use Rattle.iot_disk.specs.declared.disk.DiskFault.{DiskFault}
use Rattle.iot_disk.specs.declared.disk.DiskFault.TheVariants.{NoMemory, Failed}
use Rattle.iot_disk.specs.declared.disk.Pick.{Pick}
use Rattle.iot_disk.specs.declared.disk.Pick.TheVariants.{Old, New, Fill}
use Rattle.iot_disk.proofs.DiskLaws.{Inside, Outside, side, get_or-overwritten_in, get_or-overwritten_out, length-overwritten}

-- the bytes of an image where a mark is, and the others as they read
abbrev source : List Bool → List ℕ → List ℕ → List ℕ
source (mark ∷ marks) (x ∷ bytes) (y ∷ image) = cond mark y x ∷ source marks bytes image
source [] bytes image = []
source (mark ∷ marks) [] image = []
source (mark ∷ marks) (x ∷ bytes) [] = []

length-source : (marks : List Bool) (bytes image : List ℕ) → length marks ≡ length bytes →
    length (source marks bytes image) ≡ min (length bytes) (length image)
length-source (mark ∷ marks) (x ∷ bytes) (y ∷ image) same = omega (arith, length-source marks bytes image (omega arith))
length-source [] bytes image same = omega arith
length-source (mark ∷ marks) [] image same = absurd (omega arith)
length-source (mark ∷ marks) (x ∷ bytes) [] same = omega arith

get_or-source : (marks : List Bool) (bytes image : List ℕ) (k : ℕ) → length marks ≡ length bytes → k < length bytes → k < length image →
    get_or (source marks bytes image) k 0 ≡ cond (is_marked marks k) (get_or image k 0) (get_or bytes k 0)
get_or-source (mark ∷ marks) (x ∷ bytes) (y ∷ image) zero same one other = refl
get_or-source (mark ∷ marks) (x ∷ bytes) (y ∷ image) (suc k) same one other =
    get_or-source marks bytes image k (omega arith) (omega arith) (omega arith)
get_or-source [] [] image k same one other = absurd (omega arith)
get_or-source [] (x ∷ bytes) image k same one other = absurd (omega arith)
get_or-source (mark ∷ marks) [] image k same one other = absurd (omega arith)
get_or-source (mark ∷ marks) (x ∷ bytes) [] k same one other = absurd (omega arith)

-- what a write makes of the disk
module _ (written bytes : List ℕ) (marks : List Bool) (at : ℕ)
    (inside : at ≤ length written) (same_size : length marks ≡ length written) where
  abbrev now : List ℕ
  now = overwritten written at bytes

  abbrev marks_now : List Bool
  marks_now = overwritten marks at (replicate (length bytes) true)

  size : length (replicate (length bytes) true) ≡ length bytes
  size = length-replicate (length bytes) true

  marked_in : (k : ℕ) → at ≤ k → k < at + length bytes → is_marked marks_now k ≡ true
  marked_in k from to =
      get_or-overwritten_in marks (replicate (length bytes) true) at false (omega arith) k from (omega (arith, size))
      ∙ get_or-replicate (length bytes) (k - at) true false (omega arith)

  same_mark : (k : ℕ) → (k < at) ⊎ (at + length bytes ≤ k) → is_marked marks_now k ≡ is_marked marks k
  same_mark k out =
      let aside = subst (λ (n : ℕ). (k < at) ⊎ (at + n ≤ k)) (sym size) out in
      get_or-overwritten_out marks (replicate (length bytes) true) at false (omega arith) k aside

  same_byte : (k : ℕ) → (k < at) ⊎ (at + length bytes ≤ k) → get_or now k 0 ≡ get_or written k 0
  same_byte k out = get_or-overwritten_out written bytes at 0 inside k out

  pub new_length : length now ≡ max (length written) (at + length bytes)
  new_length = length-overwritten written bytes at 0 inside

  -- what is true of each disk stays true
  pub sound_written : (synced : List ℕ) → IsSound written synced marks → at + length bytes ≤ 2 ^ 62 → IsSound now synced marks_now
  sound_written synced sound limit = record {
    marks = length-overwritten marks (replicate (length bytes) true) at false (omega arith) ∙ omega (arith, size, new_length);
    limit = omega (arith, new_length, sound.limit);
    grown = omega (arith, new_length, sound.grown);
    alike = λ k below clean. elim (side at (at + length bytes) k) [
      | Inside from to ↦ absurd (true≢false (sym (marked_in k from to) ∙ clean))
      | Outside out ↦ sound.alike k below (sym (same_mark k out) ∙ clean) ∙ sym (same_byte k out)
    ];
    past = λ k past below. elim (side at (at + length bytes) k) [
      | Inside from to ↦ marked_in k from to
      | Outside out ↦ same_mark k out ∙ sound.past k past (below_old k below out)
    ];
  }
    where
      below_old : (k : ℕ) → k < length now → (k < at) ⊎ (at + length bytes ≤ k) → k < length written
      below_old k below (inl h) = omega arith
      below_old k below (inr h) = omega (arith, new_length)

  -- each image was made of an image from before
  module _ (synced image : List ℕ) (left : IsImage now synced marks_now image) where
    abbrev origin : List ℕ
    origin = source marks written image

    origin_size : length origin ≡ min (length written) (length image)
    origin_size = length-source marks written image same_size

    byte : (k : ℕ) → k < length origin → get_or origin k 0 ≡ cond (is_marked marks k) (get_or image k 0) (get_or written k 0)
    byte k below = get_or-source marks written image k same_size (omega (arith, origin_size)) (omega (arith, origin_size))

    origin_image : IsImage written synced marks origin
    origin_image = record {
      no_shorter = omega (arith, origin_size, left.no_shorter, new_length);
      no_longer = omega (arith, origin_size);
      kept = λ k below clean. byte k below ∙ ap (λ (b : Bool). cond b (get_or image k 0) (get_or written k 0)) clean;
    }

    same_outside : (k : ℕ) → k < length image → (k < at) ⊎ (at + length bytes ≤ k) → (b : Bool) → is_marked marks k ≡ b →
        get_or image k 0 ≡ cond b (get_or image k 0) (get_or written k 0)
    same_outside k below out true is = refl
    same_outside k below out false is = left.kept k below (same_mark k out ∙ is) ∙ same_byte k out

    origin_torn : Torn at (at + length bytes) origin image
    origin_torn = record {
      no_shorter = omega (arith, origin_size);
      no_longer = omega (arith, origin_size, left.no_longer, new_length);
      outside = λ k below out. same_outside k (omega (arith, origin_size)) out (is_marked marks k) refl ∙ sym (byte k below);
    }

  pub torn_from : (synced : List ℕ) → IsTornFrom at (at + length bytes) (IsImage written synced marks) (IsImage now synced marks_now)
  torn_from synced = record {
    from = λ image left. (origin synced image left, origin_image synced image left, origin_torn synced image left);
  }

-- and the only image
pub only_synced : (bytes : List ℕ) → Only bytes (IsImage bytes bytes (replicate (length bytes) false))
only_synced bytes = record {
  is = λ image left.
      let same : length image ≡ length bytes = omega (arith, left.no_shorter, left.no_longer) in
      ext_get_or 0 image bytes same (λ k below. left.kept k below (get_or-replicate (length bytes) k false false (omega arith)));
}

length-filled : (byte : ℕ) (marks : List Bool) (bytes : List ℕ) → length (filled byte marks bytes) ≡ length bytes
length-filled byte [] bytes = refl
length-filled byte (mark ∷ marks) [] = refl
length-filled byte (mark ∷ marks) (x ∷ bytes) = ap suc (length-filled byte marks bytes)

get_or-filled_clean : (byte : ℕ) (marks : List Bool) (bytes : List ℕ) (k : ℕ) → is_marked marks k ≡ false →
    get_or (filled byte marks bytes) k 0 ≡ get_or bytes k 0
get_or-filled_clean byte [] bytes k clean = refl
get_or-filled_clean byte (mark ∷ marks) [] k clean = refl
get_or-filled_clean byte (mark ∷ marks) (x ∷ bytes) zero clean = ap (λ (b : Bool). cond b byte x) clean
get_or-filled_clean byte (mark ∷ marks) (x ∷ bytes) (suc k) clean = get_or-filled_clean byte marks bytes k clean

-- what a restart leaves is an image
pub picked_image : (pick : Option Pick) (written synced : List ℕ) (marks : List Bool) → IsSound written synced marks →
    IsImage written synced marks (picked pick written synced marks)
picked_image None written synced marks sound = reads_is_image written synced marks
picked_image (Some Old) written synced marks sound = record { no_shorter = omega arith; no_longer = sound.grown; kept = sound.alike }
picked_image (Some New) written synced marks sound = reads_is_image written synced marks
picked_image (Some (Fill byte)) written synced marks sound = record {
  no_shorter = omega (arith, length-filled byte marks written);
  no_longer = omega (arith, length-filled byte marks written);
  kept = λ k below clean. get_or-filled_clean byte marks written k clean;
}

-- the loop that fills goes on by one byte
pub fill_step : (byte : ℕ) (marks : List Bool) (bytes : List ℕ) (i x : ℕ) → i < length marks → i < length bytes →
    x ≡ cond (get_or marks i false) byte (get_or bytes i 0) →
    take (i + 1) (set bytes i x) ++ filled byte (drop (i + 1) marks) (drop (i + 1) (set bytes i x))
    ≡ take i bytes ++ filled byte (drop i marks) (drop i bytes)
fill_step byte marks bytes i x in_marks in_bytes is =
    let rest = drop (i + 1) marks in
    let new = drop (i + 1) (set bytes i x) in
    let old = drop (i + 1) bytes in
    ap (λ (l : List ℕ). l ++ filled byte rest new) (take_more_set bytes i x in_bytes)
    ∙ append_assoc (take i bytes) (x ∷ []) (filled byte rest new)
    ∙ ap (λ (l : List ℕ). take i bytes ++ x ∷ filled byte rest l) (drop-set-lt (i + 1) bytes i x (omega arith))
    ∙ ap (λ (y : ℕ). take i bytes ++ y ∷ filled byte rest old) is
    ∙ ap (λ (l : List ℕ). take i bytes ++ filled byte (get_or marks i false ∷ rest) l) (sym (drop_more bytes i 0 in_bytes))
    ∙ ap (λ (l : List Bool). take i bytes ++ filled byte l (drop i bytes)) (sym (drop_more marks i false in_marks))

-- if nothing was written, nothing was torn
torn_same : (at end : ℕ) (images : List ℕ → Type 0) → IsTornFrom at end images images
torn_same at end images = record {
  from = λ image left. (image, left, record { no_shorter = omega arith; no_longer = omega arith; outside = λ k below out. refl });
}

-- a disk each of whose parts is as after a write
pub written_memory : (at : ℕ) (bytes : List ℕ) (old new : Memory) → new.written ≡ overwritten old.written at bytes →
    new.synced ≡ old.synced → new.unsynced ≡ overwritten old.unsynced at (replicate (length bytes) true) →
    new.failures ≡ after_call old.failures → new ≡ after_write at bytes old
written_memory at bytes old new written synced unsynced failures = search (rules, written, synced, unsynced, failures)

-- what a write makes of the images, however it ends
pub write_images : (at : ℕ) (bytes : List ℕ) (old new : Memory) (result : Result (Unit {0}) DiskFault) → at ≤ length old.written →
    length old.unsynced ≡ length old.written →
    (2 ^ 62 < at + length bytes → (result ≡ Err Failed) × (new ≡ after_refusal old)) →
    (IsErrOf result NoMemory → (new ≡ old) × (length old.written < at + length bytes)) →
    (at + length bytes ≤ 2 ^ 62 → (result ≡ Err NoMemory) ⊎ ((result ≡ answer old.failures) × (new ≡ after_write at bytes old))) →
    IsTornFrom at (at + length bytes) (images_of old) (images_of new)
write_images at bytes old new result inside same_size limit no_memory written =
    let P : Memory → Type 0 = λ m. IsTornFrom at (at + length bytes) (images_of old) (images_of m) in
    let same = torn_same at (at + length bytes) (images_of old) in
    elim (cases_lt (2 ^ 62) (at + length bytes)) [
      | inl over ↦ subst P (sym (limit over).1) same
      | inr within ↦ elim (written within) [
        | inl none ↦ subst P (sym (no_memory none).0) same
        | inr done ↦ subst P (sym done.1) (torn_from old.written bytes old.unsynced at inside same_size old.synced)
      ]
    ]
