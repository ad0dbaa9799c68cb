use Rattle.std.proofs.Common.{◌≡◌, ◌+◌, ◌*◌, ◌++◌, take}
use Rattle.std.specs.List.{flat_map}
use Rattle.iot_lang.specs.Code.{size_of}
use Rattle.iot_lang.specs.Print.{printed, statement_lines}
use Rattle.iot_lang.proofs.PrintLaws.{statement_size, otherwise_size}
use Rattle.iot_lang.proofs.printing.+print.Given as goal

-- the lines of the statements so far have been appended
abbrev pub invariant-put_block-statements : goal.invariant-put_block-statements
invariant-put_block-statements l =
    l.out ≡ l.initial.out ++ flat_map (λ s. printed (statement_lines s)) (take l.statement-index l.statement-items)

abbrev pub decreases-put_block : goal.decreases-put_block
decreases-put_block l = 2 * size_of l.block.now + 1

abbrev pub decreases-put_statement : goal.decreases-put_statement
decreases-put_statement l = 2 * statement_size l.statement.now

abbrev pub decreases-put_otherwise : goal.decreases-put_otherwise
decreases-put_otherwise l = 2 * otherwise_size l.otherwise.now + 2
