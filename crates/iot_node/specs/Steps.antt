-- How a call of the code goes that may end its event.
use Rattle.iot_machine.specs.Refining.{StepsTo}
use Rattle.iot_node.specs.Prelude.{Call, Err, Halt, List, NoMemory, None, Ok, Option, Over, Result, Some, ℕ}

-- It goes on, and the node is up; or the event is over, and the node may be down. Nothing is said if memory ran out.
abbrev pub EndsBy : {W M A : Type 0} → (up down : W → M → Type 0) → Call M (Option A) → (old new : W) → (x y : List ℕ) → Result A Halt
    → Type 0
EndsBy up down call old new x y (Ok a) = StepsTo up up call old new x y (Some a)
EndsBy up down call old new x y (Err NoMemory) = Unit {0}
EndsBy up down call old new x y (Err Over) = StepsTo up down call old new x y None

pub record Ends {W M A : Type 0} (up down : W → M → Type 0) (call : Call M (Option A)) (old new : W) (x y : List ℕ)
    (result : Result A Halt) : Type 0 where
  pub is : EndsBy up down call old new x y result
