-- What becomes of a run on another tree.
use Rattle.std.specs.Prelude.{◌≡◌, ℕ, List, [], ◌∷◌, ◌++◌, ◌↔◌}
use Rattle.iot_tree.specs.Tree.{Nodes}
use Rattle.iot_tree.specs.declared.acts.Act.{Act}
use Rattle.iot_acts.specs.Traces.{ActsHold, after_acts}
use Rattle.iot_acts.specs.Turns.{reads_of}
use Rattle.iot_exec.specs.declared.ran.Ran.{Ran}

-- the lines that these acts print
abbrev pub lines_of : List Act → List (List ℕ)
lines_of [] = []
lines_of (act ∷ acts) = act.lines ++ lines_of acts

-- the run `here` and the run `there` on the tree u: the acts of `here` hold on u exactly if both have the same reads, and then
-- both have the same acts and end, and the tree of `there` is u after the updates
pub record IsAlike (here there : Ran) (u : Nodes) : Type 0 where
  pub exactly : (ActsHold u here.acts) ↔ (reads_of there.acts ≡ reads_of here.acts)
  pub alike : ActsHold u here.acts → there ≡ record { acts = here.acts; tree = after_acts u here.acts; ended = here.ended }
