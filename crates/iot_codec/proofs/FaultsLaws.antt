-- What a loop that reads elements one after the other answers at a fault.
use Rattle.std.proofs.Common.{ℕ, ◌<◌, List, Option, None, Result, Err}
use Rattle.iot_codec.specs.declared.faults.CodecFault.{CodecFault}
use Rattle.iot_codec.specs.declared.faults.CodecFault.TheVariants.{NoMemory, Malformed}
use Rattle.iot_codec.specs.Outcomes.{IsOutcome}
use Rattle.iot_views.specs.Decoders.{Decoder}
use Rattle.iot_views.proofs.DecodersLaws.{last_of, IsOnWay, ends_at}

module _ {X : Type 0} (item : Option X → Decoder X) (bytes : List ℕ) (count : ℕ) (total : Result (List X × ℕ) ℕ) where
  pub ends : (fault : CodecFault) (front : List X) (i at : ℕ) → i < count
      → IsOutcome {X = X × ℕ} (Err fault) (item (last_of None front) bytes at) → IsOnWay item bytes count total front i at
      → IsOutcome {X = List X × ℕ} (Err fault) total
  ends NoMemory front i at lt h so_far = tt
  ends (Malformed place) front i at lt h so_far = ends_at item bytes count total place front i at lt h so_far
