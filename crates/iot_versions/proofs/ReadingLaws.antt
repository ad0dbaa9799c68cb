-- A value of version 1 that is read by way of version 2.
use Rattle.std.proofs.Common.{◌≡◌, Bool, true, false}

module _ {X : Type 0} (One Two : X → Type 0) (is_old : X → Bool) (there : (x : X) → One x → Two x × (is_old x ≡ true)) where
  -- none is there
  pub none_there : ((x : X) → Two x → ⊥) → (x : X) → One x → ⊥
  none_there never x has = never x (there x has).0

  never : (x y : X) → x ≡ y → is_old x ≡ false → is_old y ≡ true → ⊥
  never x y same one other = absurd cc

  -- or one that version 1 does not have
  pub none_old : ((x y : X) → Two x → Two y → x ≡ y) → (x : X) → Two x → is_old x ≡ false → (y : X) → One y → ⊥
  none_old alone x has new y other = never x y (alone x y has (there y other).0) new (there y other).1
