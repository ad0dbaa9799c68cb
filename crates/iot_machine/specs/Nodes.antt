-- A node of the machine, over any durable state.
use Rattle.std.specs.Prelude.{ℕ, ◌+◌, Bool, true, false, Option, None, Some}
use Rattle.iot_disk.specs.Disk.{Arms, armed_with, never_armed}
use Rattle.iot_disk.specs.declared.disk.Pick.{Pick}

-- What a node's disk counts: how often it has failed, and how it was armed. The server has two disks: it counts how often they have failed
-- together, and how the one was armed that its `stop` events arm.
pub record Counts : Type 0 where
  pub faults : ℕ
  pub arms : Arms

-- Alive or down; its durable state; and the state after the record that is in doubt, if one is. Beside these stand what its disk
-- counts, and how often it has stopped: no text depends on these two, and nothing else that it keeps.
pub record Node (S : Type 0) : Type 0 where
  pub alive : Bool
  pub durable : S
  pub doubt : Option S
  pub counts : Counts
  pub stops : ℕ

-- a node that was never started, over a disk with these counts
abbrev pub unopened : {S : Type 0} → S → Counts → Node S
unopened s counts = record { alive = false; durable = s; doubt = None; counts = counts; stops = 0 }

-- it starts
abbrev pub opened : {S : Type 0} → Node S → Node S
opened node = record node { alive = true }

abbrev pub changed : {S : Type 0} → (S → S) → Node S → Node S
changed change node = record node { durable = change node.durable }

-- down, with what is durable
abbrev pub fallen : {S : Type 0} → Node S → Node S
fallen node = record node { alive = false }

-- down, with the record of this change in doubt
abbrev pub doubting : {S : Type 0} → (S → S) → Node S → Node S
doubting change node = record node { alive = false; doubt = Some (change node.durable) }

-- alive again, with this state, and nothing in doubt
abbrev pub back : {S : Type 0} → S → Node S → Node S
back s node = record node { alive = true; durable = s; doubt = None }

-- its disk is armed
abbrev pub armed : {S : Type 0} → ℕ → Pick → Node S → Node S
armed calls pick node = record node { counts = record node.counts { arms = armed_with node.counts.arms calls pick } }

-- it goes on from another disk, which was armed so
abbrev pub arming_as : {S : Type 0} → Arms → Node S → Node S
arming_as arms node = record node { counts = record node.counts { arms = arms } }

-- what a node with two disks counts that starts on the first
abbrev pub paired : (first second : Counts) → Counts
paired first second = record { faults = first.faults + second.faults; arms = first.arms }

-- the counts of a disk that never failed and was never armed
abbrev pub no_counts : Counts
no_counts = record { faults = 0; arms = never_armed }
