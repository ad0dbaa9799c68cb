-- What each image is, after writes that may have been cut short.
use Rattle.std.proofs.Common.{ℕ, List, sym, subst}
use Rattle.iot_disk.specs.Disk.{Torn, IsTornFrom, Only, SameImages}
use Rattle.iot_records.specs.Images.{Each}

-- of a disk with one image
pub each_only : (P : List ℕ → Type 0) (bytes : List ℕ) (images : List ℕ → Type 0) → Only bytes images → P bytes → Each P images
each_only P bytes images only is = record { each = λ image left. subst P (sym (only.is image left)) is }

-- of the same images
pub each_same : (P : List ℕ → Type 0) (before now : List ℕ → Type 0) → SameImages before now → Each P before → Each P now
each_same P before now same all = record { each = λ image left. all.each image (same.was image left) }

-- after a write
pub each_torn : (P Q : List ℕ → Type 0) (at end : ℕ) (before now : List ℕ → Type 0) →
    ((old new : List ℕ) → P old → Torn at end old new → Q new) → IsTornFrom at end before now → Each P before → Each Q now
each_torn P Q at end before now step torn all = record {
  each = λ image left. let from = torn.from image left in step from.0 image (all.each from.0 from.1) from.2;
}

-- what follows from it
pub each_so : (P Q : List ℕ → Type 0) (images : List ℕ → Type 0) → ((image : List ℕ) → P image → Q image) → Each P images → Each Q images
each_so P Q images so all = record { each = λ image left. so image (all.each image left) }
