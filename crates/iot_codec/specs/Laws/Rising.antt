-- The law of paths that rise.
use Rattle.std.proofs.Common.{◌≡◌, true, List, [], ◌∷◌, Option, Some, None, refl, ap}
use Rattle.std.specs.List.{AllByRecursion}
use Rattle.std.specs.Ordering.{is_lt}
use Rattle.std.specs.declared.cmp.Ordering.TheVariants.{Less}
use Rattle.iot_text.specs.Paths.{IsPath, path_cmp}
use Rattle.iot_text.proofs.PathsLaws.{path_total}
use Rattle.iot_tree.specs.Snapshots.{ArePathsRising}
use Rattle.iot_tree.specs.Tree.{Path}
use Rattle.iot_tree.proofs.PlaceLaws.{is_less}
use Rattle.iot_codec.specs.Places.{IsSpelling}
use Rattle.iot_views.specs.Decoding.{path_at, next_path_at, paths_at}
use Rattle.iot_views.specs.Rules.{is_after, ArePaths}
use Rattle.iot_codec.specs.Spelling.{path_spelling, paths_spelling}
use Rattle.iot_codec.specs.Laws.Parts.{tested_laws, same_rule}
use Rattle.iot_codec.specs.Laws.Lists.{Follow, follow_laws}
use Rattle.iot_codec.specs.Laws.Values.{path_laws}

-- the path may follow the one before it
May : Option Path → Path → Type 0
May previous path = (is_after path_cmp previous path ≡ true) × IsPath path

-- a lesser path comes before the same paths
before_more : (p q : Path) (paths : List Path) → path_cmp p q ≡ Less → AllByRecursion (λ r. path_cmp q r ≡ Less) paths
    → AllByRecursion (λ r. path_cmp p r ≡ Less) paths
before_more p q [] less all = tt
before_more p q (r ∷ paths) less all = (path_total.trans p q r less all.0, before_more p q paths less all.1)

before_all : (p : Path) (paths : List Path) → Follow May paths (Some p) → AllByRecursion (λ q. path_cmp p q ≡ Less) paths
unfolding May
before_all p [] follow = tt
before_all p (q ∷ paths) follow =
    let less : path_cmp p q ≡ Less = is_less (path_cmp p q) follow.0.0 in
    (less, before_more p q paths less (before_all q paths follow.1))

rising_from_follow : (paths : List Path) (previous : Option Path) → Follow May paths previous → ArePathsRising paths
unfolding May
rising_from_follow [] previous follow = tt
rising_from_follow (p ∷ paths) previous follow = (before_all p paths follow.1, rising_from_follow paths (Some p) follow.1)

paths_from_follow : (paths : List Path) (previous : Option Path) → Follow May paths previous → AllByRecursion IsPath paths
unfolding May
paths_from_follow [] previous follow = tt
paths_from_follow (p ∷ paths) previous follow = (follow.0.1, paths_from_follow paths (Some p) follow.1)

follow_more : (p : Path) (paths : List Path) → AllByRecursion (λ q. path_cmp p q ≡ Less) paths → ArePathsRising paths
    → AllByRecursion IsPath paths → Follow May paths (Some p)
unfolding May
follow_more p [] before rising each = tt
follow_more p (q ∷ paths) before rising each = ((ap is_lt before.0, each.0), follow_more q paths rising.0 rising.1 each.1)

follow_from_paths : (paths : List Path) → ArePathsRising paths → AllByRecursion IsPath paths → Follow May paths None
unfolding May
follow_from_paths [] rising each = tt
follow_from_paths (p ∷ paths) rising each = ((refl, each.0), follow_more p paths rising.0 rising.1 each.1)

pub paths_laws : IsSpelling ArePaths paths_spelling paths_at
unfolding paths_at May
paths_laws =
    same_rule (λ paths. Follow May paths None) ArePaths paths_spelling paths_at
    (λ paths follow. record { rising = rising_from_follow paths None follow; each = paths_from_follow paths None follow })
    (λ paths has. follow_from_paths paths has.rising has.each)
    (follow_laws May path_spelling next_path_at
    (λ previous. tested_laws (is_after path_cmp previous) IsPath path_spelling path_at path_laws))
