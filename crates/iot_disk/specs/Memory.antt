-- A disk in memory: what it holds, what each call makes of it, and what a crash may leave of it.
use Rattle.std.specs.Prelude.{◌≡◌, ◌≤◌, ◌<◌, ℕ, ◌^◌, min, Bool, true, false, cond, List, [], ◌∷◌, length, replicate, slice_index}
use Rattle.std.specs.Prelude.{Option, Some, None, refl}
use Rattle.std.proofs.Math.Nat.{min-le_right, le_refl}
use Rattle.iot_disk.specs.Disk.{Medium, overwritten}
use Rattle.iot_disk.specs.Failures.{arms_of, fails, after_call, after_fault, after_restart}
use Rattle.iot_disk.specs.Unsynced.{Marks, is_marked}
use Rattle.iot_disk.specs.declared.disk.Pick.{Pick}
use Rattle.iot_disk.specs.declared.disk.Pick.TheVariants.{Old, New, Fill}
use Rattle.iot_disk.specs.declared.failures.Failures.{Failures}

-- the bytes as they were written, the bytes of the last sync, a mark for each byte that a write since then covered,
-- and when calls fail
pub record Memory : Type 0 where
  pub written : List ℕ
  pub synced : List ℕ
  pub unsynced : List Bool
  pub failures : Failures

-- a disk of these bytes, all of them synced
abbrev pub all_synced : List ℕ → Failures → Memory
all_synced bytes failures = record {
  written = bytes;
  synced = bytes;
  unsynced = replicate (length bytes) false;
  failures = failures;
}

-- after a read
abbrev pub after_read : Memory → Memory
after_read m = record m { failures = after_call m.failures }

-- after a write, whether it failed or not
abbrev pub after_write : ℕ → List ℕ → Memory → Memory
after_write at bytes m = record {
  written = overwritten m.written at bytes;
  synced = m.synced;
  unsynced = overwritten m.unsynced at (replicate (length bytes) true);
  failures = after_call m.failures;
}

-- after a write that would end past the limit
abbrev pub after_refusal : Memory → Memory
after_refusal m = record m { failures = after_fault m.failures }

-- after a sync, which changes no bytes if it fails
abbrev pub after_sync : Memory → Memory
after_sync m = cond (fails m.failures.failed m.failures.armed) (after_read m) (all_synced m.written (after_call m.failures))

-- this byte in the place of each that is marked
abbrev pub filled : ℕ → List Bool → List ℕ → List ℕ
filled byte [] bytes = bytes
filled byte (mark ∷ marks) [] = []
filled byte (mark ∷ marks) (x ∷ bytes) = cond mark byte x ∷ filled byte marks bytes

-- what a restart leaves, by the pick of the armed call that came
abbrev pub picked : Option Pick → List ℕ → List ℕ → List Bool → List ℕ
picked None written synced unsynced = written
picked (Some Old) written synced unsynced = synced
picked (Some New) written synced unsynced = written
picked (Some (Fill byte)) written synced unsynced = filled byte unsynced written

-- after a restart
abbrev pub restarted : Memory → Memory
restarted m = all_synced (picked m.failures.failed m.written m.synced m.unsynced) (after_restart m.failures)

-- An image: what a read gives, with any byte in the place of one that is marked, and cut at most down to the length
-- of the last sync.
pub record IsImage (written synced : List ℕ) (unsynced : List Bool) (image : List ℕ) : Type 0 where
  pub no_shorter : min (length synced) (length written) ≤ length image
  pub no_longer : length image ≤ length written
  pub kept : (k : ℕ) → k < length image → is_marked unsynced k ≡ false → slice_index image k ≡ slice_index written k

-- the images of a disk in memory
abbrev pub images_of : Memory → List ℕ → Type 0
images_of m = IsImage m.written m.synced m.unsynced

-- what is true of each disk in memory: there is a mark for each byte, a byte without a mark is as it was synced, and
-- each that was not there at the last sync has a mark
pub record IsSound (written synced : List ℕ) (unsynced : List Bool) : Type 0 where
  pub marks : length unsynced ≡ length written
  pub limit : length written ≤ 2 ^ 62
  pub grown : length synced ≤ length written
  pub alike : (k : ℕ) → k < length synced → is_marked unsynced k ≡ false → slice_index synced k ≡ slice_index written k
  pub past : (k : ℕ) → length synced ≤ k → k < length written → is_marked unsynced k ≡ true

-- what a disk in memory has ready, so that a sync takes no memory: marks for the bytes of the last sync, and room for as
-- many bytes and marks as were written
pub record IsReady (written synced : List ℕ) (room : ℕ) (marks : Marks) : Type 0 where
  pub known : length marks.known ≡ length synced
  pub room_bytes : length written ≤ room
  pub room_marks : length written ≤ marks.room

-- a disk as it reads is one of its images
pub reads_is_image : (written synced : List ℕ) (unsynced : List Bool) → IsImage written synced unsynced written
reads_is_image written synced unsynced = record {
  no_shorter = min-le_right (length synced) (length written);
  no_longer = le_refl (length written);
  kept = λ k below clean. refl;
}

-- what is so of a disk in memory
abbrev pub in_memory : Medium Memory
in_memory = record {
  reads = λ disk. disk.written;
  may_leave = images_of;
  faults = λ disk. disk.failures.faults;
  arms = λ disk. arms_of disk.failures;
}
