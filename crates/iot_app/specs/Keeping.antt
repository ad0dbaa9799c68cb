-- What the disks hold that a run gives back, and what they have counted.
use Rattle.std.specs.Prelude.{◌≡◌, ◌≤◌, ℕ, ◌+◌, Bool, false, ◌||◌, List, [], ◌∷◌, ◌++◌, length, map}
use Rattle.iot_count.specs.Counts.{Rose}
use Rattle.iot_disk.specs.Disk.{Medium}
use Rattle.iot_event.specs.declared.event.Event.{Event}
use Rattle.iot_machine.specs.Machine.{Machine}
use Rattle.iot_machine.specs.Nodes.{Counts}
use Rattle.iot_world.specs.Allowed.{promotes}
use Rattle.iot_world.specs.Disks.{counts_on, counts_between, with_ends, own_of, other_of, place_of, CountOn, CountsServer}
use Rattle.iot_world.specs.Disks.{SameOrRose, ServerBegins}
use Rattle.iot_world.specs.Holding.{DisksHold}
use Rattle.iot_world.specs.World.{Each, joined_by}

-- they hold what this machine keeps, and have counted what its disks have: how often each has failed, and how it was armed; of the server's
-- two, how often both have
pub record DisksKeep {D : Type 0} (medium : Medium D) (handed back : List D) (m : Machine) : Type 0 where
  pub holds : DisksHold medium handed back m
  pub counted : CountOn medium m holds.first holds.last (holds.clients ++ holds.spare)

-- and this is the place of the server's own; and they begin with the machine's list
pub record DisksKeepAt {D : Type 0} (medium : Medium D) (handed back : List D) (place : ℕ) (m : Machine) : Type 0 where
  pub keeps : DisksKeep medium handed back m
  pub at : place ≡ place_of m.promoted
  pub begins : ServerBegins medium m.promoted m.server.durable keeps.holds.first keeps.holds.last

-- They do, but that a read of the server's own has failed since: its count of faults rose from this one.
pub record DisksKeepUnread {D : Type 0} (medium : Medium D) (handed back : List D) (m : Machine) : Type 0 where
  pub holds : DisksHold medium handed back m
  pub before : ℕ
  pub rose : Rose before (medium.faults (own_of m.promoted holds.first holds.last))
  pub server : CountsServer (record { faults = before; arms = medium.arms (own_of m.promoted holds.first holds.last) })
      (counts_on medium (other_of m.promoted holds.first holds.last)) m
  pub between : map (counts_on medium) (holds.clients ++ holds.spare) ≡ counts_between m

-- ---- if memory ran out

-- this disk was armed as a machine's was that counts this, and has failed as often, or more often
pub record CountsSince {D : Type 0} (medium : Medium D) (counts : Counts) (disk : D) : Type 0 where
  pub arms : medium.arms disk ≡ counts.arms
  pub faults : SameOrRose counts.faults (medium.faults disk)

-- so were the server's own disk and the one beside it, and they have failed together as often as it counts, or more often
pub record ServerSince {D : Type 0} (medium : Medium D) (own other : D) (m : Machine) : Type 0 where
  pub arms : medium.arms own ≡ m.server.counts.arms
  pub beside : medium.arms other ≡ m.beside
  pub faults : SameOrRose m.server.counts.faults (medium.faults own + medium.faults other)

-- the first disk, the last and those between them
pub record DisksSince {D : Type 0} (medium : Medium D) (m : Machine) (first last : D) (others : List D) : Type 0 where
  pub server : ServerSince medium (own_of m.promoted first last) (other_of m.promoted first last) m
  pub between : Each (CountsSince medium) (counts_between m) others

-- how many clients the first of these events declares, and whether it may give the server's first disk up
abbrev pub joined_next : List Event → ℕ
joined_next [] = 0
joined_next (event ∷ later) = joined_by event

abbrev pub promotes_next : List Event → Bool
promotes_next [] = false
promotes_next (event ∷ later) = promotes event

-- Memory ran out, and these events were not done, or the first of them in part. No disk was armed but by those that were done, and each
-- has failed as often as the machine's, or more often. Whichever image a crash leaves of the last disk, it begins with the commits of the
-- machine's list; and so does the first, unless it was given up, or may have been in the event that was not done. The disks of the clients
-- that are not declared are as they were handed in, and in their places; one more may be declared if the first of these events does that.
pub record DisksStay {D : Type 0} (medium : Medium D) (handed back : List D) (later : List Event) (m : Machine) : Type 0 where
  pub first : D
  pub used : List D
  pub spare : List D
  pub last : D
  pub is : back ≡ with_ends first last (used ++ spare)
  pub counted : DisksSince medium m first last (used ++ spare)
  pub begins : ServerBegins medium (m.promoted || promotes_next later) m.server.durable first last
  pub first_handed : D
  pub front : List D
  pub last_handed : D
  pub was : handed ≡ with_ends first_handed last_handed (front ++ spare)
  pub aligned : length front ≡ length used
  pub few : length used ≤ length m.clients + joined_next later
