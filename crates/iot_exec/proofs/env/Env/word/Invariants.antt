use Rattle.std.proofs.Common.{◌≡◌, ◌++◌, ◌≤◌, length, drop}
use Rattle.iot_tree.specs.declared.limits.TheConstants.{CONTENTS_LIMIT}
use Rattle.iot_exec.specs.Values.{word_value}
use Rattle.iot_exec.proofs.env.Env.word.Given as goal

abbrev pub invariant-pieces : goal.invariant-pieces
invariant-pieces l = record {
  so_far : l.value ++ word_value l.self (drop l.piece-index l.piece-items) ≡ word_value l.self l.word;
  within : length l.value ≤ CONTENTS_LIMIT;
}
