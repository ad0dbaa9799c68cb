-- Frames that are read and written in pieces.
use Rattle.std.proofs.Common.{◌≡◌, ◌≤◌, ◌<◌, ℕ, ◌+◌, List, ◌++◌, length, take, get_or, Option, refl, sym, ap, subst, ◌∙◌}
use Rattle.std.proofs.Common.{arith, length-append}
use Rattle.std.specs.Prelude.{Result, Ok, Err}
use Rattle.std.specs.Int.{w64, from_be_bytes, to_be_bytes}
use Rattle.std.specs.Io.KnownBytes.{Appends}
use Rattle.std.proofs.KnownBytes.{Appends-trans}
use Rattle.std.proofs.Math.Seq.{take-append_seam, take-append-add, take-length}
use Rattle.std.proofs.lemmas.List.{take-append-le}
use Rattle.std.proofs.lemmas.Nat.{be_bytes_8}
use Rattle.iot_io.specs.ReadAll.{Took}
use Rattle.iot_io.proofs.ReadAllLaws.{Took-more}
use Rattle.iot_records.specs.Bytes.{number, number_in}
use Rattle.iot_keep_app.specs.Frames.{frame, TookFrame, TookPart, IsShort, IsFront, IsCut, IsFilledBefore, FrameFails, WriteEnds}
use Rattle.iot_keep_app.specs.declared.frames.TheConstants.{FRAME_LIMIT}
use Rattle.iot_keep_app.specs.declared.fault.ServeFault.{ServeFault}
use Rattle.iot_keep_app.specs.declared.fault.ServeFault.TheVariants.{NoMemory, Foreign, Damaged, Stopped, ReadFailed, Cut}
use Rattle.iot_keep_app.specs.declared.fault.ServeFault.TheVariants.{TooLong, WriteFailed, TooMany}

-- the first eight bytes
first_eight : (digits part : List ℕ) → length digits ≡ 8 → take 8 (digits ++ part) ≡ digits
first_eight digits part eight = ap (λ (n : ℕ). take n (digits ++ part)) (sym eight) ∙ take-append_seam digits part

-- eight bytes spell the same number whatever follows them
same_number : (digits part : List ℕ) → length digits ≡ 8 → number_in (digits ++ part) ≡ from_be_bytes w64 digits
unfolding number_in
same_number digits part eight = ap (λ (l : List ℕ). from_be_bytes w64 l) (first_eight digits part eight)

own_number : (digits : List ℕ) → length digits ≡ 8 → number_in digits ≡ from_be_bytes w64 digits
unfolding number_in
own_number digits eight =
    ap (λ (l : List ℕ). from_be_bytes w64 l) (ap (λ (n : ℕ). take n digits) (sym eight) ∙ take-length digits)

-- and are the number that they spell
pub spells : (digits : List ℕ) (count : ℕ) → length digits ≡ 8 → count ≡ number_in digits → ((i : ℕ) → get_or digits i 0 < 256)
    → number count ≡ digits
unfolding number
spells digits count eight is small = be_bytes_8 digits count eight small (is ∙ own_number digits eight)

-- the number was read, and then some of the bytes that it says
module _ {S : Type 0} (left : S → Option (List ℕ)) (taken : S → ℕ) (old mid new : S) (digits : List ℕ) (count : ℕ)
    (first : Took left taken old mid digits) (eight : length digits ≡ 8) (is : count ≡ number_in digits) (within : count ≤ FRAME_LIMIT) where
  number_of : (part : List ℕ) → number_in (digits ++ part) ≡ count
  number_of part = same_number digits part eight ∙ sym (is ∙ own_number digits eight)

  long : (part : List ℕ) → length (digits ++ part) ≡ 8 + length part
  long part = omega (arith, length-append digits part, eight)

  limit : (part : List ℕ) → number_in (digits ++ part) ≤ FRAME_LIMIT
  limit part = omega (arith, number_of part, within)

  is_short : (part : List ℕ) → length part < count → IsShort (digits ++ part)
  is_short part less = record {
    short = omega (arith, long part, number_of part, less);
    limit = λ whole. limit part;
  }

  pub some_taken : (part : List ℕ) → Took left taken mid new part → length part < count → TookPart (Took left taken old new) IsShort
  some_taken part second less = record {
    part = digits ++ part;
    taken = Took-more left taken old mid new digits part first second;
    is = is_short part less;
  }

  pub cut_taken : (part : List ℕ) → Took left taken mid new part → length part < count → TookPart (Took left taken old new) IsCut
  cut_taken part second less = record {
    part = digits ++ part;
    taken = Took-more left taken old mid new digits part first second;
    is = record { some = omega (arith, long part); short = is_short part less };
  }

  pub front_taken : (part : List ℕ) → Took left taken mid new part → length part ≤ count → TookPart (Took left taken old new) IsFront
  front_taken part second filled = record {
    part = digits ++ part;
    taken = Took-more left taken old mid new digits part first second;
    is = record { within = omega (arith, long part, number_of part, filled); limit = λ more. limit part };
  }

  pub fill_fails : (at_end : Type 0) (fault : ServeFault)
      → ((part : List ℕ) × Took left taken mid new part × IsFilledBefore fault count (length part))
      → FrameFails (Took left taken old new) at_end fault
  fill_fails at_end NoMemory (part, second, filled) = front_taken part second filled
  fill_fails at_end ReadFailed (part, second, less) = some_taken part second less
  fill_fails at_end Foreign (part, second, none) = absurd none
  fill_fails at_end (Damaged at) (part, second, none) = absurd none
  fill_fails at_end Stopped (part, second, none) = absurd none
  fill_fails at_end Cut (part, second, none) = absurd none
  fill_fails at_end TooLong (part, second, none) = absurd none
  fill_fails at_end WriteFailed (part, second, none) = absurd none
  fill_fails at_end TooMany (part, second, none) = absurd none

  pub frame_taken : (bytes : List ℕ) → Took left taken mid new bytes → length bytes ≡ count → number count ≡ digits
      → TookFrame (Took left taken old new) bytes
  frame_taken bytes second whole spelled = record {
    taken =
        subst (λ (l : List ℕ). Took left taken old new (l ++ bytes))
        (sym (ap number whole ∙ spelled))
        (Took-more left taken old mid new digits bytes first second);
    limit = omega (arith, whole, within);
  }

number_is : (n : ℕ) → to_be_bytes w64 n ≡ number n
unfolding number
number_is n = refl

-- a front of the number is a front of the frame
front_first : (T U : Type 0) (wrote : List ℕ → Type 0) (digits bytes : List ℕ) (fault : ServeFault)
    → WriteEnds {T = T} wrote digits (Err fault) → WriteEnds {T = U} wrote (digits ++ bytes) (Err fault)
front_first T U wrote digits bytes WriteFailed front = record {
  count = front.count;
  cut = omega (arith, front.cut, length-append digits bytes);
  written = subst wrote (sym (take-append-le front.count digits bytes (omega (arith, front.cut)))) front.written;
}
front_first T U wrote digits bytes NoMemory none = absurd none
front_first T U wrote digits bytes ReadFailed none = absurd none
front_first T U wrote digits bytes Foreign none = absurd none
front_first T U wrote digits bytes (Damaged at) none = absurd none
front_first T U wrote digits bytes Stopped none = absurd none
front_first T U wrote digits bytes Cut none = absurd none
front_first T U wrote digits bytes TooLong none = absurd none
front_first T U wrote digits bytes TooMany none = absurd none

pub number_cut : (T U : Type 0) (wrote : List ℕ → Type 0) (digits bytes : List ℕ) (fault : ServeFault)
    → digits ≡ to_be_bytes w64 (length bytes) → WriteEnds {T = T} wrote digits (Err fault)
    → WriteEnds {T = U} wrote (frame bytes) (Err fault)
number_cut T U wrote digits bytes fault is front =
    subst (λ (l : List ℕ). WriteEnds {T = U} wrote (l ++ bytes) (Err fault)) (is ∙ number_is (length bytes))
    (front_first T U wrote digits bytes fault front)

-- the number was written, and then the bytes, or a front of them
front_second : (T : Type 0) (a b c : Option (List ℕ)) (digits bytes : List ℕ) → Appends a b digits → (result : Result T ServeFault)
    → WriteEnds (Appends b c) bytes result → WriteEnds (Appends a c) (digits ++ bytes) result
front_second T a b c digits bytes first (Ok done) second = Appends-trans a b c digits bytes first second
front_second T a b c digits bytes first (Err WriteFailed) front = record {
  count = length digits + front.count;
  cut = omega (arith, front.cut, length-append digits bytes);
  written =
      subst (Appends a c) (sym (take-append-add digits bytes front.count))
      (Appends-trans a b c digits (take front.count bytes) first front.written);
}
front_second T a b c digits bytes first (Err NoMemory) none = absurd none
front_second T a b c digits bytes first (Err ReadFailed) none = absurd none
front_second T a b c digits bytes first (Err Foreign) none = absurd none
front_second T a b c digits bytes first (Err (Damaged at)) none = absurd none
front_second T a b c digits bytes first (Err Stopped) none = absurd none
front_second T a b c digits bytes first (Err Cut) none = absurd none
front_second T a b c digits bytes first (Err TooLong) none = absurd none
front_second T a b c digits bytes first (Err TooMany) none = absurd none

pub bytes_end : (T : Type 0) (a b c : Option (List ℕ)) (digits bytes : List ℕ) → digits ≡ to_be_bytes w64 (length bytes)
    → Appends a b digits → (result : Result T ServeFault) → WriteEnds (Appends b c) bytes result
    → WriteEnds (Appends a c) (frame bytes) result
bytes_end T a b c digits bytes is first result second =
    subst (λ (l : List ℕ). WriteEnds (Appends a c) (l ++ bytes) result) (is ∙ number_is (length bytes))
    (front_second T a b c digits bytes first result second)
