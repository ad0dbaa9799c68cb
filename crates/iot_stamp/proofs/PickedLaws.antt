-- A pass that keeps what a function gives.
use Rattle.std.proofs.Common.{◌≡◌, ℕ, ◌+◌, ◌<◌, ◌≤◌, List, [], ◌∷◌, ◌++◌, Option, Some, None, length, take}
use Rattle.std.proofs.Common.{get_or, refl, sym, ap, ◌∙◌, arith}
use Rattle.std.proofs.lemmas.List.{append-nil, take_more}
use Rattle.std.proofs.Math.Seq.{take-length}
use Rattle.std.proofs.lemmas.List.Elements.{filter_map-append}
use Rattle.std.specs.List.{filter_map}

module _ {X Y : Type 0} (f : X → Option Y) (xs : List X) where
  pub picked_more : (i : ℕ) (x : X) (y : Y) (out new : List Y) → i < length xs → x ≡ get_or xs i x → f x ≡ Some y
      → out ≡ filter_map f (take i xs) → new ≡ out ++ y ∷ [] → new ≡ filter_map f (take (i + 1) xs)
  picked_more i x y out new lt is gives so_far pushed =
      let one : filter_map f (x ∷ []) ≡ y ∷ [] = rw gives refl in
      pushed ∙ (λ j. so_far j ++ sym one j) ∙ sym (filter_map-append f (take i xs) (x ∷ []))
      ∙ ap (filter_map f) (sym (take_more xs i x lt ∙ ap (λ (e : X). take i xs ++ e ∷ []) (sym is)))

  pub picked_none : (i : ℕ) (x : X) (out : List Y) → i < length xs → x ≡ get_or xs i x → f x ≡ None → out ≡ filter_map f (take i xs)
      → out ≡ filter_map f (take (i + 1) xs)
  picked_none i x out lt is gives so_far =
      let one : filter_map f (x ∷ []) ≡ [] = rw gives refl in
      so_far ∙ sym (append-nil (filter_map f (take i xs))) ∙ ap (λ (rest : List Y). filter_map f (take i xs) ++ rest) (sym one)
      ∙ sym (filter_map-append f (take i xs) (x ∷ []))
      ∙ ap (filter_map f) (sym (take_more xs i x lt ∙ ap (λ (e : X). take i xs ++ e ∷ []) (sym is)))

  pub picked_all : (i : ℕ) (out : List Y) → length xs ≤ i → i ≤ length xs → out ≡ filter_map f (take i xs) → out ≡ filter_map f xs
  picked_all i out long short so_far =
      let end : i ≡ length xs = omega (arith, long, short) in
      so_far ∙ ap (filter_map f) (ap (λ (n : ℕ). take n xs) end ∙ take-length xs)
