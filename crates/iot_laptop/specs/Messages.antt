-- What the server's replies say, and what becomes of a transaction by what its client is told.
use Rattle.std.specs.Prelude.{◌≡◌}
use Rattle.iot_laptop.specs.Below.{List, Nodes, Read, Spells, SpellsVerdict, Stamps, brought, ℕ}
use Rattle.iot_laptop.specs.declared.verdict.Verdict.{Verdict, TheVariants.Conflict, TheVariants.Settled}
use Rattle.{iot_stamp.specs.Stamps.nodes_of, iot_tree.specs.Tree.IsTree, iot_tree.specs.declared.changes.Changes.Changes}
use Rattle.iot_wire.specs.declared.replies.Reply.TheVariants as replies
use Rattle.iot_machine.specs.Serving as serving

-- ---- replies

-- what the reply brings makes this tree of a held one
pub record SpellsTree (held : Stamps) (bytes : List ℕ) (t : Nodes) : Type 0 where
  pub changes : Changes
  pub spelled : Spells bytes (replies.Objects changes)
  pub is : t ≡ nodes_of (brought held changes)
  pub tree : IsTree t

-- the reply says something of it
pub record IsVerdict (reads : List Read) (bytes : List ℕ) : Type 0 where
  pub told : serving.Verdict
  pub is : SpellsVerdict reads bytes told

-- it makes some tree of it
pub record BringsTree (held : Stamps) (bytes : List ℕ) : Type 0 where
  pub tree : Nodes
  pub is : SpellsTree held bytes tree

-- a verdict of the laptop's as one of the machine's
abbrev pub verdict_of : Verdict → serving.Verdict
verdict_of (Settled number) = serving.Settled number
verdict_of (Conflict read question) = serving.Conflict read question
