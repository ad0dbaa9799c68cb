-- What a start from two disks needs: of empty ones, and of those of a server.
use Rattle.std.proofs.Common.{◌≡◌, ℕ, List, [], Option, Some, None, refl, sym, ap, subst, inl, option_map}
use Rattle.iot_backup.proofs.PairsLaws.{alike}
use Rattle.iot_backup.specs.Pairs.{counted}
use Rattle.iot_backup.specs.Parts.{If}
use Rattle.iot_disk.specs.Disk.{Medium}
use Rattle.iot_durable.specs.Durable.{images_of}
use Rattle.iot_server.specs.Servers.{disk_of, second_of}
use Rattle.iot_server.specs.declared.server.Server.{Server}
use Rattle.iot_slots.specs.Decoding.{NotStarted, decoded, opened, state_in}
use Rattle.iot_slots.specs.Slots.{disk_of as disk_on}
use Rattle.iot_slots.specs.declared.slots.Slots.{Slots}
use Rattle.iot_slots.specs.declared.version.Version.TheVariants.{Two}
use Rattle.iot_store.specs.Rules.{header}
use Rattle.iot_store.specs.Standing.{EachStarts, MayStart}

-- nothing was started on an empty disk
nothing_started : decoded header [] ≡ NotStarted
unfolding decoded
nothing_started = refl

-- two empty disks
pub empty_start : MayStart [] []
empty_start =
    let none = ap counted nothing_started in
    record {
      follows = record {
        step = record { first = 0; second = 0; first_is = none; second_is = none; step = refl };
        behind = λ body.
            let opens = ap (opened body) nothing_started in
            alike header body [] [] (state_in Two body [] 0) (state_in Two body [] 0) opens opens refl;
      };
      together = λ short state stands. inl (record { stands = stands; counted = refl });
    }

pub empty_starts : (one other : List ℕ) → one ≡ [] → other ≡ [] → MayStart one other
empty_starts one other is also =
    subst (λ (i : List ℕ). MayStart i other) (sym is) (subst (λ (j : List ℕ). MayStart [] j) (sym also) empty_start)

abbrev or_else : {X : Type 0} (x : X) (o : Option X) → X
or_else x (Some y) = y
or_else x None = x

-- the disks that a server gives back can be started from if its own can
pub given_back : {D : Type 0} (medium : Medium D) (server : Server D) (first second : D) → first ≡ disk_of server
    → Some second ≡ option_map disk_on (second_of server)
    → If (λ s. EachStarts (medium.may_leave (disk_of server)) (images_of medium s)) (second_of server)
    → EachStarts (medium.may_leave first) (medium.may_leave second)
given_back medium server first second is there starts =
    subst (λ (d : _). EachStarts (medium.may_leave d) (medium.may_leave second)) (sym is) (by (second_of server) there starts)
  where
    by : (other : Option (Slots _)) → Some second ≡ option_map disk_on other
        → If (λ s. EachStarts (medium.may_leave (disk_of server)) (images_of medium s)) other
        → EachStarts (medium.may_leave (disk_of server)) (medium.may_leave second)
    by (Some s) is all =
        subst (λ (d : _). EachStarts (medium.may_leave (disk_of server)) (medium.may_leave d)) (sym (ap (or_else second) is)) all
    by None is all = absurd cc
