-- The server's disks, when they are restarted or armed.
use Rattle.{std.specs.Prelude.not, iot_server_node.proofs.Common.Bool}
use Rattle.iot_server_node.proofs.Common.{Changes, Disks, If, List, MayLeave, MayLeaveOf, Medium, None, Only, OnlyImage, Option, Server}
use Rattle.iot_server_node.proofs.Common.{Slots, Some, ap, disk_on, disks_in, false, on_both, option_map, refl, same_Some, true, ℕ, ◌≡◌}
use Rattle.iot_server.specs.Servers as servers

module _ {D : Type 0} (medium : Medium D) where
  only_backup : (backup : Option D) (image : Option (List ℕ)) → If (λ b. Only (medium.reads b) (medium.may_leave b)) backup
      → MayLeaveOf medium backup image → image ≡ option_map medium.reads backup
  only_backup (Some b) (Some j) only left = ap (λ (l : List ℕ). Some l) (only.is j left)
  only_backup None None only left = refl
  only_backup backup image only left = absurd left

  -- if each has one image, so have both together
  pub both_only : (disks : Disks D) → Only (medium.reads disks.disk) (medium.may_leave disks.disk)
      → If (λ b. Only (medium.reads b) (medium.may_leave b)) disks.backup → OnlyImage ((on_both medium).reads disks) (MayLeave medium disks)
  both_only disks first also = record {
    is = λ image left.
        let other = only_backup disks.backup image.backup also left.backup in
        λ i. record { disk = first.is image.disk left.disk i; backup = other i };
  }

  mapped_same : (old new : Option (Slots D)) → Changes (λ old new. medium.reads (disk_on new) ≡ medium.reads (disk_on old)) old new
      → option_map medium.reads (option_map disk_on new) ≡ option_map medium.reads (option_map disk_on old)
  mapped_same (Some old) (Some new) it = ap (λ (l : List ℕ). Some l) it
  mapped_same None None it = refl
  mapped_same old new it = absurd it

  -- whichever disk of a live server was armed, both read as they did
  pub reads_both : (was now : Server D) (given_up : Option D) (second : Bool)
      → Changes (λ old new. medium.reads (disk_on new) ≡ medium.reads (disk_on old)) (servers.part_of second was)
      (servers.part_of second now)
      → servers.part_of (not second) now ≡ servers.part_of (not second) was
      → (on_both medium).reads (disks_in (record { server = now; given_up = given_up }))
      ≡ (on_both medium).reads (disks_in (record { server = was; given_up = given_up }))
  reads_both was now given_up true it other =
      let backup = mapped_same (servers.second_of was) (servers.second_of now) it in
      λ i. record { disk = medium.reads (disk_on (same_Some _ _ other i)); backup = backup i }
  reads_both was now given_up false it other = λ i. record { disk = it i; backup = option_map medium.reads (option_map disk_on (other i)) }
