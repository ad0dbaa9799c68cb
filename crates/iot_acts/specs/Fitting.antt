-- Acts whose reads alone show that their updates fit, on every tree.
use Rattle.std.specs.Prelude.{List}
use Rattle.iot_tree.specs.Tree.{Nodes, IsTree}
use Rattle.iot_tree.specs.declared.acts.Act.{Act}
use Rattle.iot_acts.specs.Traces.{ReadsHold, FitsIfAny, ActsHold}
use Rattle.iot_acts.specs.Turns.{turns, AllAnswer}

-- on every tree whose answers the act's reads are, its update fits
abbrev pub FitsByReads : Act → Type 0
FitsByReads act = (u : Nodes) → IsTree u → ReadsHold u act.reads → FitsIfAny u act.update

-- on every tree where each read is the answer of its turn, the acts hold: each update fits in its turn
abbrev pub HoldByReads : List Act → Type 0
HoldByReads acts = (u : Nodes) → IsTree u → AllAnswer (turns u acts) → ActsHold u acts
