use Rattle.std.proofs.Common.{rules}
use Rattle.std.proofs.lemmas.Fn.{always_returns_same}
use Rattle.iot_text.specs.Paths.{path_cmp}
use Rattle.iot_exec.proofs.KeptLaws.{Row, searched}
use Rattle.iot_exec.proofs.kept.place_of.Goals as goal

-- the closure compares a file's path with the path
pub returns : goal.returns
returns c =
    let facts = c.binary_search_by.ensures in
    searched c.args.path.now c.args.files.now c.requires _ facts.bound
    (facts.position (λ (file : Row). path_cmp file.0 c.args.path.now)
    (always_returns_same _ _ _ (λ a r f' called. (search rules, search rules))))
