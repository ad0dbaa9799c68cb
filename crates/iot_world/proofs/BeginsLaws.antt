-- What each image of the server's disks begins with.
use Rattle.{iot_judging.specs.Lists.state_of, iot_server_node.specs.Records.DiskGoesOn, iot_server_node.specs.Records.EachGoesOn}
use Rattle.iot_world.proofs.Common.{Bool, Commit, HasPlaces, Image, List}
use Rattle.iot_world.proofs.Common.{Medium, None, ServerBegins, ServerNode, Some, disk_of, false, on_both, placed, refl, true, ℕ, ◌||◌}

-- an image of the first disk, and one of the last
abbrev pub pair_of : (one other : List ℕ) → Image
pair_of one other = record { disk = one; backup = Some other }

-- one of the last disk alone
abbrev pub lone : (one : List ℕ) → Image
lone one = record { disk = one; backup = None }

module _ {D : Type 0} (medium : Medium D) where
  module _ (is_image : (disk : D) → medium.may_leave disk (medium.reads disk)) (commits : List Commit) (first last : D) where
    begins_placed : (promoted : Bool) → EachGoesOn (on_both medium) (state_of commits) (placed promoted first last)
        → ServerBegins medium promoted commits first last
    begins_placed false it =
        let both = λ (one other : List ℕ) (there : medium.may_leave first one) (here : medium.may_leave last other).
        it.each (pair_of one other) (record { disk = there; backup = here }) in
        record {
          of_last = record { each = λ image there. (both (medium.reads first) image (is_image first) there).backup };
          of_first = λ own. record { each = λ image there. (both image (medium.reads last) there (is_image last)).disk };
        }
    begins_placed true it = record {
      of_last = record { each = λ image there. (it.each (lone image) (record { disk = there; backup = tt })).disk };
      of_first = λ own. absurd cc;
    }

  -- of those that a server has
  pub begins_there : ((disk : D) → medium.may_leave disk (medium.reads disk)) → (commits : List Commit) (server : ServerNode D)
      (it : HasPlaces server) → DiskGoesOn (on_both medium) (state_of commits) (disk_of server)
      → ServerBegins medium it.promoted commits it.first it.last
  begins_there is_image commits server it begins =
      begins_placed is_image commits it.first it.last it.promoted (rw it.has at begins)

  -- also if the first may have been given up besides
  pub begins_or : (commits : List Commit) (promoted or : Bool) (first last : D) → ServerBegins medium promoted commits first last
      → ServerBegins medium (promoted || or) commits first last
  begins_or commits true or first last it = it
  begins_or commits false or first last it = record { of_last = it.of_last; of_first = λ none. it.of_first refl }
