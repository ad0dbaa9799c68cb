-- Where the contents of a file lie.
use Rattle.std.specs.Prelude.{ℕ, List, ◌≤◌, ⊤, take}
use Rattle.iot_tree.specs.declared.blob.Bytes.{Bytes}
use Rattle.iot_tree.specs.declared.blob.Bytes.TheVariants.{Few, Many}
use Rattle.iot_tree.specs.declared.blob.TheConstants.{FEW}

-- the bytes
abbrev pub bytes_in : Bytes → List ℕ
bytes_in (Few len room) = take len room
bytes_in (Many bytes) = bytes.value.items

-- no more of them lie in the value itself than there is room for
abbrev pub AreIn : Bytes → Type 0
AreIn (Few len room) = len ≤ FEW
AreIn (Many bytes) = ⊤
