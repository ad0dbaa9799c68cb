-- What was done of a job that writes something of an image, by the status with which it ends: `took bytes` says that these bytes were
-- taken from the source, `at_end` that nothing is left there, and `wrote bytes` that these were written to the sink.
use Rattle.std.specs.Prelude.{◌≡◌, ◌⊎◌, ℕ, ◌≤◌, List, [], ◌++◌, length, codes, decimal}
use Rattle.iot_durable.specs.Damage.{IsDamagedAt}
use Rattle.iot_image.specs.Shown.{IsShown}
use Rattle.iot_machine.specs.Texts.{line}
use Rattle.iot_slots.specs.Decoding.{Foreign, decoded}
use Rattle.iot_store.specs.Images.{IsUpgraded}
use Rattle.iot_store.specs.Rules.{header, rules}
use Rattle.iot_app.specs.Input.{TookSome, TookTooMuch}
use Rattle.iot_app.specs.Played.{WroteFront}
use Rattle.iot_app.specs.Refusals.{too_long_line}
use Rattle.iot_app.specs.declared.image.Telling.{Telling}
use Rattle.iot_app.specs.declared.image.Telling.TheVariants.{Text, Disk}
use Rattle.iot_app.specs.declared.image.TheConstants.{IMAGE_LIMIT}
use Rattle.iot_app.specs.declared.status.Status.{Status}
use Rattle.iot_app.specs.declared.status.Status.TheVariants.{Done, Refused, Usage, ReadFailed, WriteFailed, NoMemory, SaveFailed}

-- what an image is written as: the text that tells it, or the disk into which it is upgraded, and which is upgraded into itself
abbrev pub Says : Telling → (image text : List ℕ) → Type 0
Says Text image text = IsShown image text
Says Disk image text = IsUpgraded image text × IsUpgraded text text

abbrev pub foreign_line : List ℕ
foreign_line = line (codes "image: foreign")

abbrev pub damaged_line : ℕ → List ℕ
damaged_line at = line (codes "image: damaged at " ++ decimal at)

module _ (took : List ℕ → Type 0) (at_end : Type 0) where
  -- the image was read to its end, and is within its limit
  pub record TookImage (image : List ℕ) : Type 0 where
    pub taken : took image
    pub whole : at_end
    pub within : length image ≤ IMAGE_LIMIT

  -- it is over its limit, foreign or damaged; this line says which
  pub data IsNoImage (text : List ℕ) : Type 0 where
    too_long : TookTooMuch IMAGE_LIMIT took → text ≡ too_long_line → IsNoImage text
    foreign : (image : List ℕ) → TookImage image → decoded header image ≡ Foreign → text ≡ foreign_line → IsNoImage text
    damaged : (image : List ℕ) (at : ℕ) → TookImage image → IsDamagedAt rules image at → text ≡ damaged_line at → IsNoImage text

  -- so much was written of what the image is written as
  pub record Shows (telling : Telling) (wrote : List ℕ → Type 0) : Type 0 where
    pub image : List ℕ
    pub given : TookImage image
    pub text : List ℕ
    pub shown : Says telling image text
    pub written : wrote text

  -- or of the line that says why it shows nothing
  pub record ShowsNone (wrote : List ℕ → Type 0) : Type 0 where
    pub text : List ℕ
    pub refused : IsNoImage text
    pub written : wrote text

  -- it was read in part, and nothing was written
  pub record ShowsNothing (wrote : List ℕ → Type 0) : Type 0 where
    pub some : TookSome IMAGE_LIMIT took
    pub written : wrote []

  module _ (telling : Telling) (wrote : List ℕ → Type 0) where
    abbrev pub Showed : Status → Type 0
    Showed Done = Shows telling wrote
    Showed Refused = ShowsNone wrote
    Showed Usage = ⊥
    Showed ReadFailed = ShowsNothing wrote
    Showed WriteFailed = Shows telling (WroteFront wrote) ⊎ ShowsNone (WroteFront wrote)
    Showed NoMemory = ShowsNothing wrote
    Showed SaveFailed = ⊥
