-- Why bytes hold no state, by what a start says of them, and into what they are upgraded.
use Rattle.std.proofs.Common.{◌≡◌, ℕ, List, sym, ap, ◌∙◌}
use Rattle.iot_disk.specs.declared.faults.StartFault.{StartFault}
use Rattle.iot_disk.specs.declared.faults.StartFault.TheVariants as start
use Rattle.iot_durable.specs.Causes as durable
use Rattle.iot_slots.specs.Start.{started}
use Rattle.iot_bodies.specs.Spelling.{server_spelling}
use Rattle.iot_store.specs.Bodies.{body_of}
use Rattle.iot_store.specs.Images.{fault_of, IsUpgraded, SaysDamaged, TakesImage}
use Rattle.iot_store.specs.Rules.{header}
use Rattle.iot_store.specs.States.{State}

pub takes_image : (why : StartFault) → durable.TakesBytes why → TakesImage (fault_of why)
takes_image start.NoMemory takes = tt
takes_image start.Stopped takes = tt
takes_image start.Foreign takes = absurd takes
takes_image (start.Damaged at) takes = absurd takes

pub says_damaged : (at : ℕ) (why : StartFault) → durable.SaysDamaged at why → SaysDamaged at (fault_of why)
says_damaged at start.NoMemory says = tt
says_damaged at start.Stopped says = tt
says_damaged at start.Foreign says = absurd says
says_damaged at (start.Damaged there) says = says

-- bytes that stand for one state are upgraded into the same bytes
pub upgraded_one : (bytes a b : List ℕ) (one : IsUpgraded bytes a) (other : IsUpgraded bytes b) → one.state ≡ other.state → a ≡ b
upgraded_one bytes a b one other same =
    let count : one.count ≡ other.count = sym one.stands.counted ∙ other.stands.counted in
    let body : one.new.body ≡ other.new.body =
    sym one.new.spells.spelled.spelled ∙ ap (λ (s : State). server_spelling (body_of s)) same ∙ other.new.spells.spelled.spelled in
    one.new.is ∙ (λ i. started header (body i) (count i)) ∙ sym other.new.is
