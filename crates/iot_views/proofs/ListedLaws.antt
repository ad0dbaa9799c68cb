-- Elements that were decoded once are read again.
use Rattle.std.proofs.Common.{◌≡◌, ℕ, zero, suc, ◌+◌, ◌-◌, ◌<◌, ◌≤◌, List, [], ◌∷◌, ◌++◌, Option, Some, None, Result, Ok, Err}
use Rattle.std.proofs.Common.{refl, sym, ap, ◌∙◌, subst, arith}
use Rattle.iot_views.specs.Decoders.{Decoder, go_on, items_at}
use Rattle.iot_views.specs.Laws.{step, same_read}
use Rattle.iot_views.specs.Listed.{listed, AreLooser}
use Rattle.iot_views.proofs.DecodersLaws.{last_of, last_of-append, with_front, IsOnWay, goes_on, ends_at, is_done}

pub listed_again : {X : Type 0} (item : Option X → Decoder X) (loose : Decoder X) → AreLooser item loose → (n : ℕ) (previous : Option X)
    (bytes : List ℕ) (at : ℕ) (read : List X × ℕ) → items_at item n previous bytes at ≡ Ok read → listed loose n bytes at ≡ read.0
listed_again item loose looser zero previous bytes at read e = ap (λ (r : List _ × ℕ). r.0) (same_read ([], at) read e)
listed_again item loose looser (suc n) previous bytes at read e =
    let s = step (item previous bytes at) (λ x after. go_on (items_at item n (Some x) bytes after) (λ xs end. Ok (x ∷ xs, end))) read e in
    let t = step (items_at item n (Some s.0.0) bytes s.0.1) (λ xs end. Ok (s.0.0 ∷ xs, end)) read s.2 in
    rw (looser previous bytes at s.0 s.1)
    (ap (λ (xs : List _). s.0.0 ∷ xs) (listed_again item loose looser n (Some s.0.0) bytes s.0.1 t.0 t.1)
    ∙ ap (λ (r : List _ × ℕ). r.0) (same_read (s.0.0 ∷ t.0.0, t.0.1) read t.2))

-- ---- a loop over elements that keeps none of them

-- what a loop of this kind knows: which element was the last so far, and that those before the place are a front of all
abbrev pub Reaches : {X : Type 0} → (Option X → Decoder X) → List ℕ → ℕ → Result (List X × ℕ) ℕ → Option X → ℕ → ℕ → Type 0
Reaches {X} item bytes count total previous i at =
    (front : List X) × (last_of None front ≡ previous) × IsOnWay item bytes count total front i at

front_none : {X : Type 0} (read : Result (List X × ℕ) ℕ) → with_front [] read ≡ read
front_none (Ok read) = refl
front_none (Err at) = refl

module _ {X : Type 0} (item : Option X → Decoder X) (bytes : List ℕ) (count : ℕ) where
  pub reaches_first : (at : ℕ) → Reaches item bytes count (items_at item count None bytes at) None 0 at
  reaches_first at =
      let all : count - 0 ≡ count = omega arith in
      ([], refl, rw all (front_none (items_at item count None bytes at)))

  pub reaches_next : (total : Result (List X × ℕ) ℕ) (previous : Option X) (i at : ℕ) (x : X) (after : ℕ) → i < count
      → item previous bytes at ≡ Ok (x, after) → Reaches item bytes count total previous i at
      → Reaches item bytes count total (Some x) (i + 1) after
  reaches_next total previous i at x after lt h r = (
    r.0 ++ x ∷ [],
    last_of-append r.0 None x,
    goes_on item bytes count total r.0 i at x after lt (subst (λ (p : Option X). item p bytes at ≡ Ok (x, after)) (sym r.1) h) r.2,
  )

  pub reaches_fault : (total : Result (List X × ℕ) ℕ) (previous : Option X) (i at fault : ℕ) → i < count
      → item previous bytes at ≡ Err fault → Reaches item bytes count total previous i at → total ≡ Err fault
  reaches_fault total previous i at fault lt h r =
      ends_at item bytes count total fault r.0 i at lt (subst (λ (p : Option X). item p bytes at ≡ Err fault) (sym r.1) h) r.2

  pub reaches_end : (loose : Decoder X) → AreLooser item loose → (previous : Option X) (i at end : ℕ) → count ≤ i
      → Reaches item bytes count (items_at item count None bytes at) previous i end
      → items_at item count None bytes at ≡ Ok (listed loose count bytes at, end)
  reaches_end loose looser previous i at end le r =
      let all = is_done item bytes count (items_at item count None bytes at) r.0 i end le r.2 in
      all ∙ ap (λ (xs : List X). Ok (xs, end)) (sym (listed_again item loose looser count None bytes at (r.0, end) all))
