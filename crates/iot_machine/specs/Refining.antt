-- What it is for code to do what a machine does. `stands w m` says that the code's world `w` stands for the machine `m`.
use Rattle.std.specs.Prelude.{◌≡◌, ℕ, List, ◌++◌}
use Rattle.iot_machine.specs.Calls.{Call}

-- A change of the world that wrote and answered is a step by this call: each machine for which the old world stands in the first way has
-- one, with the text that was added and this answer, to a machine for which the new world stands in the second way.
pub record StepsTo {W M A : Type 0} (before after : W → M → Type 0) (call : Call M A) (old new : W) (x y : List ℕ) (a : A) : Type 0 where
  pub step : (m : M) → before old m → (text : List ℕ) × (n : M) × (y ≡ x ++ text) × call m text a n × after new n

-- The world stands in one way before and after.
abbrev pub Refines : {W M A : Type 0} → (stands : W → M → Type 0) → (call : Call M A) → (old new : W) → (x y : List ℕ) → (a : A) → Type 0
Refines stands call old new x y a = StepsTo stands stands call old new x y a

-- From this machine the call says so much, answers this, and leaves a machine for which the new world stands.
pub record StepFrom {W M A : Type 0} (after : W → M → Type 0) (call : Call M A) (m : M) (new : W) (x y : List ℕ) (a : A) : Type 0 where
  pub text : List ℕ
  pub next : M
  pub wrote : y ≡ x ++ text
  pub step : call m text a next
  pub stands : after new next
