-- The read of a place among the reads of acts, found act by act.
use Rattle.std.proofs.Common.{◌≡◌, ◌<◌, ◌≤◌, ℕ, zero, suc, ◌+◌, ◌-◌, List, [], ◌∷◌, ◌++◌, length, get_or, drop, Some, None}
use Rattle.std.proofs.Common.{slice_get, refl, sym, ap, ◌∙◌, arith}
use Rattle.std.proofs.lemmas.List.{drop_more, drop_all}
use Rattle.std.proofs.lemmas.Option.{slice_get_read}
use Rattle.iot_tree.specs.declared.acts.Act.{Act}
use Rattle.iot_tree.specs.declared.acts.Read.{Read}
use Rattle.iot_acts.specs.Turns.{reads_of}

get_front : (front back : List Read) (at : ℕ) → at < length front → slice_get (front ++ back) at ≡ slice_get front at
get_front [] back at within = absurd (omega arith)
get_front (read ∷ front) back zero within = refl
get_front (read ∷ front) back (suc at) within = get_front front back at (omega arith)

get_back : (front back : List Read) (at : ℕ) → slice_get (front ++ back) (length front + at) ≡ slice_get back at
get_back [] back at = ap (slice_get back) (zero_more at)
  where
    zero_more : (n : ℕ) → 0 + n ≡ n
    zero_more n = omega arith
get_back (read ∷ front) back at = ap (slice_get (read ∷ front ++ back)) (next (length front) at) ∙ get_back front back at
  where
    next : (a n : ℕ) → suc a + n ≡ suc (a + n)
    next a n = omega arith

-- the next act
module _ (acts : List Act) (i : ℕ) (act : Act) (lt : i < length acts) (is : act ≡ get_or acts i act) (left : ℕ) where
  cut : reads_of (drop i acts) ≡ act.reads ++ reads_of (drop (i + 1) acts)
  cut = ap reads_of (drop_more acts i act lt ∙ ap (λ (next : Act). next ∷ drop (i + 1) acts) (sym is))

  -- the read is one of its own
  pub read_here : (reads : List Read) (read : Read) → reads ≡ act.reads → left < length reads → read ≡ get_or reads left read
      → slice_get (reads_of (drop i acts)) left ≡ Some read
  read_here reads read same within read_is =
      ap (λ (reads : List Read). slice_get reads left) (cut ∙ ap (λ (reads : List Read). reads ++ reads_of (drop (i + 1) acts)) (sym same))
      ∙ get_front reads (reads_of (drop (i + 1) acts)) left within
      ∙ slice_get_read reads (length reads) left read refl within read_is

  -- or one of a later act
  pub read_later : length act.reads ≤ left
      → slice_get (reads_of (drop i acts)) left ≡ slice_get (reads_of (drop (i + 1) acts)) (left - length act.reads)
  read_later past =
      let whole : left ≡ length act.reads + (left - length act.reads) = omega arith in
      ap (λ (reads : List Read). slice_get reads left) cut ∙ ap (slice_get (act.reads ++ reads_of (drop (i + 1) acts))) whole
      ∙ get_back act.reads (reads_of (drop (i + 1) acts)) (left - length act.reads)

-- no act is left
pub no_read : (acts : List Act) (i left : ℕ) → length acts ≤ i → slice_get (reads_of (drop i acts)) left ≡ None
no_read acts i left past = ap (λ (acts : List Act). slice_get (reads_of acts) left) (drop_all i acts past)

-- a read of a place among them is there
pub is_there : (reads : List Read) (at : ℕ) → at < length reads → slice_get reads at ≡ None → ⊥
is_there [] at within none = omega arith
is_there (read ∷ reads) zero within none = absurd cc
is_there (read ∷ reads) (suc at) within none = is_there reads at (omega arith) none
