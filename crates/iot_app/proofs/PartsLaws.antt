-- The parts of an audit's input, by the number that its first bytes spell.
use Rattle.std.proofs.Common.{◌≡◌, ◌≤◌, ◌<◌, inl, inr, ℕ, ◌+◌, List, ◌++◌, length, get_or, take, drop, sym, ◌∙◌, ap, subst, arith}
use Rattle.std.proofs.Common.{take-append-drop, length-drop}
use Rattle.std.specs.Int.{w64, from_be_bytes, to_be_bytes}
use Rattle.std.proofs.lemmas.Bool.{cases_lt}
use Rattle.std.proofs.lemmas.List.{length-take-le, get_or-take, get_or_past}
use Rattle.std.proofs.lemmas.Nat.{be_bytes_8}
use Rattle.iot_records.specs.Bytes.{number, number_in}
use Rattle.iot_app.specs.Parts.{HasParts, IsTooLong, IsShort, long_script, long_image, short_script}
use Rattle.iot_app.specs.declared.image.TheConstants.{IMAGE_LIMIT}
use Rattle.iot_app.specs.declared.input.TheConstants.{INPUT_LIMIT}

-- more than a number, a script and an image may have together
pub over_both : (input : List ℕ) → 8 + INPUT_LIMIT + IMAGE_LIMIT < length input → IsTooLong input
over_both input over = elim (cases_lt INPUT_LIMIT (number_in input)) [
  | inl more ↦ long_script (omega arith) more
  | inr within ↦ long_image within (omega arith)
]

module _ (input digits rest : List ℕ) (size : ℕ) (digits_are : digits ≡ take 8 input) (rest_is : rest ≡ drop 8 input)
    (long : 8 ≤ length input) (size_is : size ≡ from_be_bytes w64 digits) where
  size_in : number_in input ≡ size
  unfolding number_in
  size_in = sym (size_is ∙ ap (λ (l : List ℕ). from_be_bytes w64 l) digits_are)

  left : length rest + 8 ≡ length input
  left = omega (arith, ap length rest_is, length-drop 8 input)

  pub over_script : INPUT_LIMIT < size → IsTooLong input
  over_script over = long_script long (subst (λ (n : ℕ). INPUT_LIMIT < n) (sym size_in) over)

  pub cut_script : size ≤ INPUT_LIMIT → length rest < size → IsShort input
  cut_script within cut = short_script (omega (arith, size_in)) (omega (arith, size_in, left))

  pub over_image : size ≤ INPUT_LIMIT → IMAGE_LIMIT + size < length rest → IsTooLong input
  over_image within over = long_image (omega (arith, size_in)) (omega (arith, size_in, left))

  -- the first eight bytes are the number's
  small_front : ((i : ℕ) → get_or input i 0 < 256) → (i : ℕ) → get_or (take 8 input) i 0 < 256
  small_front small i = elim (cases_lt i 8) [
    | inl below ↦ subst (λ (n : ℕ). n < 256) (sym (get_or-take 8 input i 0 below)) (small i)
    | inr past ↦
        subst (λ (n : ℕ). n < 256) (sym (get_or_past (take 8 input) i 0 (omega (arith, length-take-le 8 input long)))) (omega arith)
  ]

  begins : ((i : ℕ) → get_or input i 0 < 256) → input ≡ number size ++ rest
  unfolding number
  begins small =
      let front : to_be_bytes w64 size ≡ take 8 input =
      be_bytes_8 (take 8 input) size (length-take-le 8 input long) (small_front small)
      (size_is ∙ ap (λ (l : List ℕ). from_be_bytes w64 l) digits_are) in
      sym (take-append-drop 8 input)
      ∙ ap (λ (l : List ℕ). l ++ drop 8 input) (sym front)
      ∙ ap (λ (l : List ℕ). to_be_bytes w64 size ++ l) (sym rest_is)

  pub has_parts : (script image : List ℕ) → ((i : ℕ) → get_or input i 0 < 256) → script ≡ take size rest → image ≡ drop size rest
      → size ≤ INPUT_LIMIT → size ≤ length rest → length image ≤ IMAGE_LIMIT → HasParts input script image
  unfolding number
  has_parts script image small script_is image_is within inside image_within =
      let count : length script ≡ size = ap length script_is ∙ length-take-le size rest inside in
      record {
        is =
            begins small
            ∙ ap (λ (l : List ℕ). number size ++ l)
            (sym (take-append-drop size rest) ∙ ap (λ (l : List ℕ). l ++ drop size rest) (sym script_is)
            ∙ ap (λ (l : List ℕ). script ++ l) (sym image_is))
            ∙ ap (λ (n : ℕ). number n ++ script ++ image) (sym count);
        script_within = omega (arith, count);
        image_within = image_within;
      }
