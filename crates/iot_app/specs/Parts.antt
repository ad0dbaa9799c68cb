-- The parts of an audit's input: a number of 8 bytes, an event script of that many bytes, and an image of a server's disk.
use Rattle.std.specs.Prelude.{◌≡◌, ◌+◌, ◌<◌, ◌≤◌, ℕ, List, ◌++◌, length}
use Rattle.iot_records.specs.Bytes.{number, number_in}
use Rattle.iot_app.specs.declared.image.TheConstants.{IMAGE_LIMIT}
use Rattle.iot_app.specs.declared.input.TheConstants.{INPUT_LIMIT}
use Rattle.iot_app.specs.declared.parts.PartsFault.{PartsFault}
use Rattle.iot_app.specs.declared.parts.PartsFault.TheVariants.{TooLong, Short}

-- the input has these parts, each within its limit
pub record HasParts (input script image : List ℕ) : Type 0 where
  pub is : input ≡ number (length script) ++ script ++ image
  pub script_within : length script ≤ INPUT_LIMIT
  pub image_within : length image ≤ IMAGE_LIMIT

-- the number is over the limit of a script, or more bytes stand behind the script than an image may have
pub data IsTooLong (input : List ℕ) : Type 0 where
  long_script : 8 ≤ length input → INPUT_LIMIT < number_in input → IsTooLong input
  long_image : number_in input ≤ INPUT_LIMIT → 8 + number_in input + IMAGE_LIMIT < length input → IsTooLong input

-- there are fewer bytes than a number has, or fewer behind it than it says
pub data IsShort (input : List ℕ) : Type 0 where
  short_number : length input < 8 → IsShort input
  short_script : number_in input ≤ INPUT_LIMIT → length input < 8 + number_in input → IsShort input

-- by the fault, why an input has no parts
abbrev pub IsNoParts : List ℕ → PartsFault → Type 0
IsNoParts input TooLong = IsTooLong input
IsNoParts input Short = IsShort input
