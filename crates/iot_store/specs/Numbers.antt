-- The numbers of commits.
use Rattle.std.specs.Prelude.{ℕ, ◌+◌, List, Option, option_map, position}
use Rattle.iot_tree.specs.declared.labels.Label.{Label}
use Rattle.iot_store.specs.States.{is_of}

-- the number of a client's transaction in the list, from 1, if it is there
abbrev pub number_in : List Label → ℕ → ℕ → Option ℕ
number_in labels client tid = option_map (λ place. place + 1) (position (is_of client tid) labels)
