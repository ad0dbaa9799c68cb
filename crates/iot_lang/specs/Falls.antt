-- Each block is larger than the blocks in it.
use Rattle.std.specs.Prelude.{◌≤◌, List, [], ◌∷◌, None, Some}
use Rattle.std.proofs.Common.{arith}
use denote.Param.Weighed.{most}
use Rattle.iot_lang.specs.Code.{size_of}
use Rattle.iot_lang.specs.Blocks.{code_of_statements}
use Rattle.iot_lang.specs.declared.blocks.Stmt.{Stmt}
use Rattle.iot_lang.specs.declared.blocks.Stmt.TheVariants as statements
use Rattle.iot_lang.specs.declared.blocks.Block.TheDeep.{deep-Stmt}

pub falls : (ss : List Stmt) → most deep-Stmt ss ≤ size_of (code_of_statements ss)
falls [] = omega arith
falls (statements.Do command ∷ ss) = omega (arith, falls ss)
falls (statements.Stop ∷ ss) = omega (arith, falls ss)
falls (statements.If condition body None ∷ ss) = omega (arith, falls ss)
falls (statements.If condition body (Some other) ∷ ss) = omega (arith, falls ss)
falls (statements.For variable path body ∷ ss) = omega (arith, falls ss)
