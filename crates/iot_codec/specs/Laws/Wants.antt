-- The law of wants.
use Rattle.std.proofs.Common.{◌≡◌, ℕ, ◌<◌, ◌^◌, List, [], ◌∷◌, length, Ok, refl, ◌∙◌, arith}
use Rattle.iot_text.specs.Paths.{IsPath}
use Rattle.iot_tree.specs.declared.want.Want.{Want}
use Rattle.iot_tree.specs.declared.want.Want.TheVariants as wants
use Rattle.iot_codec.specs.Places.{LiesAt, IsSpelling}
use Rattle.iot_views.specs.Decoding.{path_at, want_table, want_at}
use Rattle.iot_views.specs.Rules.{IsWant}
use Rattle.iot_codec.specs.Spelling.{path_spelling, want_spelling}
use Rattle.iot_codec.specs.Laws.Tags.{AreArms, empty_arm, single_arm, tagged_found, tagged_again, empty_again, single_again}
use Rattle.iot_codec.specs.Laws.Values.{path_laws}

want_arms : AreArms IsWant want_spelling want_table
unfolding want_spelling
want_arms =
    let of = λ (tag : ℕ) (make : List (List ℕ) → Want) (has : (path : List (List ℕ)) → IsPath path → IsWant (make path))
    (spelled : (path : List (List ℕ)) → want_spelling (make path) ≡ tag ∷ path_spelling path).
    single_arm IsWant want_spelling tag IsPath path_spelling path_at path_laws make has spelled in (
      empty_arm IsWant want_spelling 1 wants.Nothing tt refl,
      (of 2 wants.Path (λ x has. has) (λ x. refl), (of 3 wants.Below (λ x has. has) (λ x. refl), tt)),
    )

want_again : (w : Want) (bytes : List ℕ) (at end : ℕ) → length bytes < 2 ^ 64 → IsWant w → LiesAt bytes at (want_spelling w) end
    → want_at bytes at ≡ Ok (w, end)
unfolding want_at want_spelling
want_again wants.Nothing bytes at end short has p =
    tagged_again want_table bytes at end 1 [] p ∙ empty_again wants.Nothing bytes at end 1 p
want_again (wants.Path path) bytes at end short has p =
    tagged_again want_table bytes at end 2 (path_spelling path) p
    ∙ single_again IsPath path_spelling path_at path_laws wants.Path path bytes at end 2 short has p
want_again (wants.Below path) bytes at end short has p =
    tagged_again want_table bytes at end 3 (path_spelling path) p
    ∙ single_again IsPath path_spelling path_at path_laws wants.Below path bytes at end 3 short has p

want_some : (w : Want) → 0 < length (want_spelling w)
unfolding want_spelling
want_some wants.Nothing = omega arith
want_some (wants.Path path) = omega arith
want_some (wants.Below path) = omega arith

pub want_laws : IsSpelling IsWant want_spelling want_at
unfolding want_at
want_laws = record {
  found = λ bytes at read fit e. tagged_found IsWant want_spelling want_table bytes at read want_arms fit e;
  only = λ bytes at read short p. want_again read.0 bytes at read.1 short p.value p.place;
  some = want_some;
}
