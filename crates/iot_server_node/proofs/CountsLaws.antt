-- What the server's disks have counted, by what each has, and how they were armed.
use Rattle.{iot_backup.specs.Parts.NoneRose, iot_backup.specs.Parts.OneRose, iot_count.specs.Counts.Rose, iot_count.specs.Counts.Stayed}
use Rattle.{iot_durable.specs.Causes.HasDiskCause, iot_node.specs.Keeping.CountsStart, iot_node.specs.Keeping.Failed}
use Rattle.iot_server.specs.{Faults.CountsServerFaults, declared.fault.ServerFault.ServerFault}
use Rattle.iot_server_node.proofs.Common.{Changes, Counts, Err, HasCause, KeepsDisk, List, Medium, None}
use Rattle.iot_server_node.proofs.Common.{Option, Result, Server, ServerKeeper, Slots, Some, StartFault, TakesBytes, ap, arith, counts_on}
use Rattle.iot_server_node.proofs.Common.{disk_on, disks_in, faults_in, inl, inr, on_both, option_map, other_in, refl, rules, ℕ, ◌+◌, ◌≡◌}
use Rattle.iot_server_node.specs.Keepers.{KeepsArms}
use Rattle.iot_disk.specs.declared.faults.StartFault.TheVariants as start
use Rattle.iot_server.specs.declared.fault.ServerFault.TheVariants as fault
use Rattle.iot_server.specs.Servers as servers

module _ {D : Type 0} (medium : Medium D) where
  abbrev counts : (disk : D) (backup given_up : Option D) → Counts
  counts disk backup given_up = counts_on (on_both medium) (record { disk = disk; backup = backup; given_up = given_up })

  -- ---- a start

  pub alone_start : (fault : StartFault) (bytes : List ℕ) (disk left : D) (given_up : Option D) → TakesBytes fault
      → HasCause rules fault bytes (medium.faults disk) (medium.faults left) → medium.arms left ≡ medium.arms disk
      → CountsStart fault (counts disk None given_up) (counts left None given_up)
  alone_start start.NoMemory bytes disk left given_up takes cause arms =
      λ i. record { faults = cause i + faults_in medium given_up; arms = arms i }
  alone_start start.Stopped bytes disk left given_up takes cause arms = record { faults = omega (arith, cause); arms = arms }
  alone_start fault bytes disk left given_up takes cause arms = absurd takes

  pub pair_start : (fault : StartFault) (one other : List ℕ) (disk left backup behind : D) (given_up : Option D) → TakesBytes fault
      → HasDiskCause rules fault one other (medium.faults disk) (medium.faults left) (medium.faults backup) (medium.faults behind)
      → medium.arms left ≡ medium.arms disk
      → CountsStart fault (counts disk (Some backup) given_up) (counts left (Some behind) given_up)
  pair_start start.NoMemory one other disk left backup behind given_up takes cause arms =
      λ i. record { faults = cause.0 i + cause.1 i; arms = arms i }
  pair_start start.Stopped one other disk left backup behind given_up takes cause arms = record {
    faults = elim cause [ inl it ↦ omega (arith, it.0, it.1) | inr it ↦ omega (arith, it.1, it.2) ];
    arms = arms;
  }
  pair_start fault one other disk left backup behind given_up takes cause arms = absurd takes

  -- ---- a request

  module _ {was now : ServerKeeper D} (arms : KeepsArms medium was now) where
    pub kept_counts : NoneRose medium (servers.first_of was.server) (servers.first_of now.server) (servers.second_of was.server)
        (servers.second_of now.server)
        → counts_on (on_both medium) (disks_in now) ≡ counts_on (on_both medium) (disks_in was)
    kept_counts none =
        let other = by (servers.second_of was.server) (servers.second_of now.server) none.1 in
        λ i. record { faults = none.0 i + other i; arms = arms.first i }
      where
        by : (old new : Option (Slots D))
            → Changes (λ old new. Stayed (medium.faults (disk_on old)) (medium.faults (disk_on new))) old new
            → faults_in medium (other_in (option_map disk_on new) now.given_up)
            ≡ faults_in medium (other_in (option_map disk_on old) was.given_up)
        by (Some old) (Some new) it = it
        by None None it = ap (faults_in medium) arms.given_up
        by old new it = absurd it

    pub failed_counts : OneRose medium (servers.first_of was.server) (servers.first_of now.server) (servers.second_of was.server)
        (servers.second_of now.server)
        → Failed (counts_on (on_both medium) (disks_in was)) (counts_on (on_both medium) (disks_in now))
    failed_counts one =
        record { faults = by (servers.second_of was.server) (servers.second_of now.server) one arms.second; arms = arms.first }
      where
        by : (old new : Option (Slots D)) → OneRose medium (servers.first_of was.server) (servers.first_of now.server) old new
            → Changes (λ old new. medium.arms (disk_on new) ≡ medium.arms (disk_on old)) old new
            → Rose (medium.faults (servers.disk_of was.server) + faults_in medium (other_in (option_map disk_on old) was.given_up))
            (medium.faults (servers.disk_of now.server) + faults_in medium (other_in (option_map disk_on new) now.given_up))
        by None None rose same = omega (arith, rose, ap (faults_in medium) arms.given_up)
        by (Some old) (Some new) rose same = elim rose [ inl it ↦ omega (arith, it.0, it.1) | inr it ↦ omega (arith, it.0, it.1) ]
        by old new rose same = absurd same

  -- however it was answered
  pub disks_kept : {T : Type 0} (keeper : ServerKeeper D) (now : Server D)
      → medium.arms (servers.disk_of now) ≡ medium.arms (servers.disk_of keeper.server)
      → Changes (λ old new. medium.arms (disk_on new) ≡ medium.arms (disk_on old)) (servers.second_of keeper.server) (servers.second_of now)
      → (result : Result T ServerFault) → CountsServerFaults medium result (servers.store_of keeper.server) (servers.store_of now)
      → KeepsDisk (on_both medium) (Some (disks_in keeper)) (Some (disks_in (record keeper { server = now })))
  disks_kept keeper now arms others (Err fault.Stopped) one =
      let kept : KeepsArms medium keeper (record keeper { server = now }) = record { first = arms; second = others; given_up = refl } in
      record { was = _; now = _; old_has = refl; new_has = refl; arms = arms; faults = inr (failed_counts kept one).faults }
  disks_kept keeper now arms others result none =
      let kept : KeepsArms medium keeper (record keeper { server = now }) = record { first = arms; second = others; given_up = refl } in
      record { was = _; now = _; old_has = refl; new_has = refl; arms = arms; faults = inl (λ i. (kept_counts kept none i).faults) }
