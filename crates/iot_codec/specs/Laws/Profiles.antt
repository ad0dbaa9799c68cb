-- The laws of profiles, and of limits within which paths are taken along.
use Rattle.std.proofs.Common.{◌≡◌, ℕ, ◌<◌, ◌≤◌, List, [], ◌∷◌, ◌++◌, length, None, Ok, refl, ◌∙◌, arith}
use Rattle.iot_text.specs.Paths.{IsPath}
use Rattle.iot_tree.specs.Profiles.{Profile, IsWish, IsProfile, IsWalkLimit}
use Rattle.iot_tree.specs.Tree.{Path}
use Rattle.iot_tree.specs.declared.limits.TheConstants.{PRIORITY_LIMIT, WALK_LIMIT, WISH_LIMIT}
use Rattle.iot_tree.specs.declared.profile.Reach.{Reach}
use Rattle.iot_tree.specs.declared.profile.Reach.TheVariants as reaches
use Rattle.iot_tree.specs.declared.profile.Wish.{Wish}
use Rattle.iot_codec.specs.Places.{LiesAt, IsSpelling}
use Rattle.iot_views.specs.Decoders.{Decoder, ◌>>=◌, done, at_most, from_to}
use Rattle.iot_views.specs.Decoding.{path_at, reach_at, wish_at, profile_at, walk_limit_at}
use Rattle.iot_views.specs.Rules.{IsReach}
use Rattle.iot_codec.specs.Spelling.{number_spelling, path_spelling, reach_spelling, wish_spelling, profile_spelling}
use Rattle.iot_codec.specs.Laws.Parts.{at_most_laws, from_to_laws, same_rule}
use Rattle.iot_codec.specs.Laws.Lists.{Follow, counted_list_laws, follow_from_all, all_from_follow}
use Rattle.iot_codec.specs.Laws.Tags.{AreArms, empty_arm, tagged_found, tagged_again, empty_again}
use Rattle.iot_codec.specs.Laws.Fields.{last_field, next_field, all_fields}
use Rattle.iot_codec.specs.Laws.Values.{path_laws}

-- ---- how far a wish reaches

reach_table : List (ℕ × Decoder Reach)
reach_table = (0, done reaches.Path) ∷ (1, done reaches.Below) ∷ []

reach_arms : AreArms IsReach reach_spelling reach_table
unfolding reach_table reach_spelling
reach_arms = (
  empty_arm IsReach reach_spelling 0 reaches.Path tt refl,
  (empty_arm IsReach reach_spelling 1 reaches.Below tt refl, tt),
)

reach_again : (r : Reach) (bytes : List ℕ) (at end : ℕ) → LiesAt bytes at (reach_spelling r) end → reach_at bytes at ≡ Ok (r, end)
unfolding reach_at reach_table reach_spelling
reach_again reaches.Path bytes at end p =
    tagged_again reach_table bytes at end 0 [] p ∙ empty_again reaches.Path bytes at end 0 p
reach_again reaches.Below bytes at end p =
    tagged_again reach_table bytes at end 1 [] p ∙ empty_again reaches.Below bytes at end 1 p

reach_some : (r : Reach) → 0 < length (reach_spelling r)
unfolding reach_spelling
reach_some reaches.Path = omega arith
reach_some reaches.Below = omega arith

pub reach_laws : IsSpelling IsReach reach_spelling reach_at
unfolding reach_at reach_table
reach_laws = record {
  found = λ bytes at read fit e. tagged_found IsReach reach_spelling reach_table bytes at read reach_arms fit e;
  only = λ bytes at read short p. reach_again read.0 bytes at read.1 p.place;
  some = reach_some;
}

-- ---- wishes

IsPriority : ℕ → Type 0
IsPriority n = (1 ≤ n) × (n ≤ PRIORITY_LIMIT)

pub wish_laws : IsSpelling IsWish wish_spelling wish_at
unfolding wish_at wish_spelling IsPriority
wish_laws =
    let Fields : Wish → Type 0 = λ w. IsPriority w.priority × (IsPath w.path × IsReach w.reach) in
    let made : ℕ → Path → Reach → Wish = λ priority path reach. record { priority = priority; path = path; reach = reach } in
    let fields : IsSpelling Fields wish_spelling wish_at =
    all_fields Fields wish_spelling
    (λ f. from_to 1 PRIORITY_LIMIT >>= λ priority. path_at >>= λ path. reach_at >>= λ reach. done (made priority path reach))
    (next_field (λ w. tt) (λ w. w.priority) IsPriority number_spelling (from_to 1 PRIORITY_LIMIT)
    (from_to_laws 1 PRIORITY_LIMIT (omega arith)) (λ w. IsPath w.path × IsReach w.reach)
    (λ w. path_spelling w.path ++ reach_spelling w.reach)
    (λ f. path_at >>= λ path. reach_at >>= λ reach. done (made f.1 path reach))
    (next_field (λ w. (tt, w.priority)) (λ w. w.path) IsPath path_spelling path_at path_laws
    (λ w. IsReach w.reach) (λ w. reach_spelling w.reach) (λ f. reach_at >>= λ reach. done (made f.0.1 f.1 reach))
    (last_field (λ w. ((tt, w.priority), w.path)) (λ w. w.reach) IsReach reach_spelling reach_at reach_laws
    (λ f reach. made f.0.1 f.1 reach) (record { whole = λ w. refl; front_is = λ f y. refl; last_is = λ f y. refl })))) in
    same_rule Fields IsWish wish_spelling wish_at (λ w has. record { least = has.0.0; most = has.0.1; path = has.1.0 })
    (λ w has. ((has.least, has.most), (has.path, tt))) fields

-- ---- profiles

pub profile_laws : IsSpelling IsProfile profile_spelling profile_at
unfolding profile_at
profile_laws =
    let Counted : Profile → Type 0 = λ wishes. (length wishes ≤ WISH_LIMIT) × Follow (λ _. IsWish) wishes None in
    same_rule Counted IsProfile profile_spelling profile_at
    (λ wishes has. record { few = has.0; each = all_from_follow IsWish wishes None has.1 })
    (λ wishes has. (has.few, follow_from_all IsWish wishes None has.each))
    (counted_list_laws (λ _. IsWish) wish_spelling (λ _. wish_at) (λ _. wish_laws) (λ n. n ≤ WISH_LIMIT) (at_most WISH_LIMIT)
    (at_most_laws WISH_LIMIT (omega arith)))

pub walk_limit_laws : IsSpelling IsWalkLimit number_spelling walk_limit_at
walk_limit_laws =
    same_rule (λ n. (1 ≤ n) × (n ≤ WALK_LIMIT)) IsWalkLimit number_spelling walk_limit_at
    (λ n has. record { least = has.0; most = has.1 }) (λ n has. (has.least, has.most))
    (from_to_laws 1 WALK_LIMIT (omega arith))
