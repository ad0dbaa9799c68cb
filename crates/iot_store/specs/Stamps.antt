-- The stamps of the server's tree: its root opens with 1, and each commit puts the number after its own on what it changes.
use Rattle.std.specs.Prelude.{ℕ, ◌+◌}
use Rattle.iot_tree.specs.Tree.{root_alone}
use Rattle.iot_tree.specs.declared.nodes.Node.TheVariants.{Dir}
pub use Rattle.iot_stamp.specs.Acting.{stamped_all}
use Rattle.iot_stamp.specs.Stamps.{Stamps, with_stamps}

-- before the first commit
abbrev pub opening_stamps : Stamps
opening_stamps = with_stamps (λ k. 1) (root_alone Dir)

-- what the commit after so many others puts on what it changes
abbrev pub next_stamp : ℕ → ℕ
next_stamp commits = commits + 2
