-- Names that copies share.
use Rattle.std.specs.Prelude.{ℕ, List}
use Rattle.iot_text.specs.declared.shared.Block.{Block}
use Rattle.iot_text.specs.declared.shared.Block.TheVariants as block

-- the names in the block
abbrev pub names_in : Block → List (List ℕ)
names_in (block.One names) = names
names_in (block.Two names) = names
names_in (block.Three names) = names
names_in (block.Four names) = names
names_in (block.Many names) = names.items
