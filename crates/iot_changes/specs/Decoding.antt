-- Decoding changes, with the first fault from the left.
use Rattle.std.specs.Prelude.{ℕ, List, [], ◌∷◌}
use Rattle.iot_queue.specs.declared.items.Resolution.{Resolution}
use Rattle.iot_views.specs.Decoders.{Decoder, ◌>>=◌, done, number_at, tagged}
use Rattle.iot_views.specs.Decoding.{access_at, name_at, option_at, budget_at, files_at, acts_at, act_at, tree_at}
use Rattle.iot_changes.specs.declared.changes.Change.{Change}
use Rattle.iot_changes.specs.declared.changes.Change.TheVariants.{Held, Begun, Fetched, Acted, Ended, Cut, Conflicted, Resolved}
use Rattle.iot_changes.specs.declared.changes.Change.TheVariants.{Repaired, Left, Again}

unfoldable pub resolution_at : Decoder Resolution
resolution_at = do
  script ← name_at
  budget ← budget_at
  kept ← files_at
  acts ← acts_at
  done (record { script = script; budget = budget; kept = kept; acts = acts })

unfoldable pub held_at : Decoder Change
held_at = do
  tree ← tree_at
  done (Held tree)

unfoldable pub begun_at : Decoder Change
begun_at = do
  number ← number_at
  script ← name_at
  option ← option_at
  done (Begun number script option)

unfoldable pub fetched_at : Decoder Change
fetched_at = do
  number ← number_at
  tree ← tree_at
  done (Fetched number tree)

unfoldable pub acted_at : Decoder Change
acted_at = do
  number ← number_at
  act ← act_at
  done (Acted number act)

unfoldable pub ended_at : Decoder Change
ended_at = do
  number ← number_at
  done (Ended number)

unfoldable pub cut_at : Decoder Change
cut_at = do
  number ← number_at
  acts ← number_at
  done (Cut number acts)

unfoldable pub resolved_at : Decoder Change
resolved_at = do
  resolution ← resolution_at
  access ← access_at
  done (Resolved resolution access)

unfoldable pub repaired_at : Decoder Change
repaired_at = do
  script ← name_at
  done (Repaired script)

unfoldable pub again_at : Decoder Change
again_at = do
  number ← number_at
  done (Again number)

-- what a tag of a change is followed by
abbrev pub change_table : List (ℕ × Decoder Change)
change_table =
    (1, held_at)
    ∷ (2, begun_at)
    ∷ (3, fetched_at)
    ∷ (4, acted_at)
    ∷ (5, ended_at)
    ∷ (6, cut_at)
    ∷ (7, done Conflicted)
    ∷ (8, resolved_at)
    ∷ (9, repaired_at)
    ∷ (10, done Left)
    ∷ (11, again_at)
    ∷ []

unfoldable pub change_at : Decoder Change
change_at = tagged change_table
