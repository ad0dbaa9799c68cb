use Rattle.std.proofs.Common.{◌≡◌, ◌++◌, ◌∷◌, [], take}
use Rattle.iot_text.specs.Paths.{prefixes}
use Rattle.iot_prune.proofs.wishes.prefixes.Given as goal

abbrev pub invariant-names : goal.invariant-names
invariant-names l = record {
  at : l.above ≡ take l.name-index l.path;
  so_far : l.paths ++ l.above ∷ [] ≡ prefixes (take l.name-index l.path);
}
