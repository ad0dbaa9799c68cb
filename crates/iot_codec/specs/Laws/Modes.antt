-- The laws of modes.
use Rattle.std.proofs.Common.{◌≡◌, ℕ, ◌<◌, List, [], ◌∷◌, length, Ok, refl, ◌∙◌, arith}
use Rattle.iot_tree.specs.declared.nodes.Mode.{Mode}
use Rattle.iot_tree.specs.declared.nodes.Mode.TheVariants.{Off, On}
use Rattle.iot_codec.specs.Places.{LiesAt, IsSpelling}
use Rattle.iot_views.specs.Decoders.{Decoder, done}
use Rattle.iot_views.specs.Decoding.{mode_at}
use Rattle.iot_views.specs.Rules.{IsMode}
use Rattle.iot_codec.specs.Spelling.{mode_spelling}
use Rattle.iot_codec.specs.Laws.Tags.{AreArms, empty_arm, tagged_found, tagged_again, empty_again}

mode_table : List (ℕ × Decoder Mode)
mode_table = (0, done Off) ∷ (1, done On) ∷ []

mode_arms : AreArms IsMode mode_spelling mode_table
unfolding mode_table mode_spelling
mode_arms = (empty_arm IsMode mode_spelling 0 Off tt refl, (empty_arm IsMode mode_spelling 1 On tt refl, tt))

mode_again : (m : Mode) (bytes : List ℕ) (at end : ℕ) → LiesAt bytes at (mode_spelling m) end → mode_at bytes at ≡ Ok (m, end)
unfolding mode_at mode_table mode_spelling
mode_again Off bytes at end p = tagged_again mode_table bytes at end 0 [] p ∙ empty_again Off bytes at end 0 p
mode_again On bytes at end p = tagged_again mode_table bytes at end 1 [] p ∙ empty_again On bytes at end 1 p

mode_some : (m : Mode) → 0 < length (mode_spelling m)
unfolding mode_spelling
mode_some Off = omega arith
mode_some On = omega arith

pub mode_laws : IsSpelling IsMode mode_spelling mode_at
unfolding mode_at mode_table
mode_laws = record {
  found = λ bytes at read fit e. tagged_found IsMode mode_spelling mode_table bytes at read mode_arms fit e;
  only = λ bytes at read short p. mode_again read.0 bytes at read.1 p.place;
  some = mode_some;
}
