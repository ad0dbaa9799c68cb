-- Where the rows of a tree come from now, told by entries for some paths.
use Rattle.std.specs.Prelude.{◌≡◌, ◌≢◌, ◌++◌, List, ℕ, [], ◌∷◌, Option, Some, None}
use Rattle.std.specs.Option.{option_map}
use Rattle.iot_text.specs.Paths.{IsBelow}
use Rattle.iot_tree.specs.Tree.{Path}
use Rattle.iot_tree.specs.declared.updates.Update.{Update}
use Rattle.iot_tree.specs.declared.updates.Update.TheVariants.{Put, MakeDir, Remove, Move, SetMode}

-- some paths have an entry: where the row there comes from
abbrev pub Entries : Type 0
Entries = Path → Option (Option Path)

-- the entries tell where each row comes from: a row with an entry from where that says, and any other from below where its parent's
-- row comes from, by the same name; the root's row, if it has no entry, from the root
pub record Tells (entry : Entries) (source : Path → Option Path) : Type 0 where
  pub own : (k : Path) (o : Option Path) → entry k ≡ Some o → source k ≡ o
  pub root : entry [] ≡ None → source [] ≡ Some []
  pub child : (k : Path) (name : List ℕ) → entry (k ++ name ∷ []) ≡ None
      → source (k ++ name ∷ []) ≡ option_map (λ o. o ++ name ∷ []) (source k)

-- the path has this entry now, or none, and every other path has the one that it had
pub record Sets (old new : Entries) (p : Path) (entry : Option (Option Path)) : Type 0 where
  pub here : new p ≡ entry
  pub others : (k : Path) → k ≢ p → new k ≡ old k

-- no path below p has an entry
abbrev pub NoneBelow : Entries → Path → Type 0
NoneBelow entry p = (k : Path) → IsBelow k p → entry k ≡ None

-- the paths below p have no entry now, and every other path has the one that it had
pub record Clears (old new : Entries) (p : Path) : Type 0 where
  pub gone : NoneBelow new p
  pub others : (k : Path) → ¬ IsBelow k p → new k ≡ old k

-- the paths below q have the entries of those below p, which have none now, and every other path has the one that it had
pub record Carries (old new : Entries) (p q : Path) : Type 0 where
  pub moved : (name : List ℕ) (rest : Path) → new (q ++ name ∷ rest) ≡ old (p ++ name ∷ rest)
  pub gone : NoneBelow new p
  pub others : (k : Path) → ¬ IsBelow k p → ¬ IsBelow k q → new k ≡ old k

-- neither path is at or below the other
pub record AreApart (p q : Path) : Type 0 where
  pub first : (rest : Path) → p ≢ q ++ rest
  pub second : (rest : Path) → q ≢ p ++ rest

-- neither path of a move is at or below the other
abbrev pub IsApart : Update → Type 0
IsApart (Put p bytes) = Unit {0}
IsApart (MakeDir p) = Unit {0}
IsApart (Remove p) = Unit {0}
IsApart (Move p q) = AreApart p q
IsApart (SetMode p mode) = Unit {0}

-- the same of an update, if there is one
abbrev pub IsApartIfAny : Option Update → Type 0
IsApartIfAny None = Unit {0}
IsApartIfAny (Some update) = IsApart update
