-- What two images hold, one of the server's disk and one of its backup: before a start from both, and after it.
use Rattle.{iot_judging.proofs.ImagesLaws.alike_start, iot_server_node.proofs.Common.AreSo, iot_server_node.proofs.Common.CanStart}
use Rattle.iot_server_node.proofs.Common.{Disks, EachIs, If, Image, List, MayLeave, MayLeaveOf, Medium, None, Option, ServerKeeper}
use Rattle.iot_server_node.proofs.Common.{Some, arith, disk_on, disks_in, if_so, images_of, inl, inr, lists, next, state_of, ℕ}
use Rattle.iot_store.{proofs.PartsLaws.if_mapped, proofs.StandingLaws.stands_one, specs.Standing.MayStart}
use Rattle.iot_server.specs.Servers as servers

-- ---- what a start from two images needs

pub may_start : {D : Type 0} (medium : Medium D) {one other : List ℕ} → CanStart (lists medium) (record { disk = one; backup = Some other })
    → MayStart one other
may_start medium {one} {other} can = elim can.either [
  | inl is ↦ alike_start one other can.count can.before is.disk is.backup
  | inr is ↦ elim is.backup [
    | inl lacks ↦ record {
      follows = lacks.follows;
      together = λ short state stands.
          rw (stands_one one state (state_of can.after) (omega (arith, short)) stands is.disk.stands) (inr lacks.lacks);
    }
    | inr also ↦ alike_start one other (next can.count) can.after is.disk also
  ]
]

-- ---- the images of both disks

pub other_left : {D : Type 0} (medium : Medium D) (R : List ℕ → Type 0) (backup : Option D) (image : Option (List ℕ))
    → If (λ b. (j : List ℕ) → medium.may_leave b j → R j) backup → MayLeaveOf medium backup image → If R image
other_left medium R (Some b) (Some j) each left = each j left
other_left medium R None (Some j) each left = absurd left
other_left medium R backup None each left = tt

module _ {P : List ℕ → Type 0} {Q : (one other : List ℕ) → Type 0} where
  -- what is so of both, by what that says of each
  pub so_as : {R : List ℕ → Type 0} {S : (one other : List ℕ) → Type 0} {image : Image} → AreSo P Q image
      → ((i : List ℕ) → P i → R i) → ((i j : List ℕ) → Q i j → S i j) → AreSo R S image
  so_as {image = image} is one other =
      record { disk = one image.disk is.disk; backup = if_so (Q image.disk) _ (other image.disk) image.backup is.backup }

  -- what is so of each image of both
  pub both_so : {D : Type 0} (medium : Medium D) (disks : Disks D)
      → ((i : List ℕ) → medium.may_leave disks.disk i → P i × If (λ b. (j : List ℕ) → medium.may_leave b j → Q i j) disks.backup)
      → EachIs (MayLeave medium disks) (AreSo P Q)
  both_so medium disks each = record {
    each = λ image left.
        let it = each image.disk left.disk in
        record { disk = it.0; backup = other_left medium (Q image.disk) disks.backup image.backup it.1 left.backup };
  }

  -- the same of the disks of a server
  pub server_so : {D : Type 0} (medium : Medium D) (it : ServerKeeper D)
      → ((i : List ℕ) → medium.may_leave (servers.disk_of it.server) i
      → P i × If (λ s. (j : List ℕ) → images_of medium s j → Q i j) (servers.second_of it.server))
      → EachIs (MayLeave medium (disks_in it)) (AreSo P Q)
  server_so medium it each =
      both_so medium (disks_in it) (λ i at.
      let so = each i at in
      (so.0, if_mapped (λ b. (j : List ℕ) → medium.may_leave b j → Q i j) disk_on (servers.second_of it.server) so.1))
