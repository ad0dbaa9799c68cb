-- What an image of a server's disk shows.
use Rattle.std.specs.Prelude.{◌≡◌, ℕ, List, [], ◌∷◌, ◌++◌, codes}
use Rattle.iot_inspect.specs.Texts.{log_text, tree_text}
use Rattle.iot_store.specs.Standing.{StandFor}
use Rattle.iot_store.specs.States.{State}
use Rattle.iot_tree.specs.Tree.{Nodes}
use Rattle.iot_tree.specs.declared.labels.Label.{Label}

-- the places of eight clients, for their names
abbrev pub places : List (List ℕ)
places =
    codes "0" ∷ codes "1" ∷ codes "2" ∷ codes "3" ∷ codes "4" ∷ codes "5" ∷ codes "6" ∷ codes "7" ∷ []

-- the tree, and then the commits
abbrev pub image_text : Nodes → List Label → List ℕ
image_text tree labels = tree_text tree ++ log_text places labels

-- the text tells the state for which the bytes stand
pub record IsShown (bytes text : List ℕ) : Type 0 where
  pub state : State
  pub stands : StandFor bytes state
  pub is : text ≡ image_text state.tree state.labels
