-- The law of rows of version 1: what is decoded is what is spelled. Its proof.
use Rattle.std.proofs.Common.{◌≡◌, ℕ, ◌<◌, ◌^◌, List, [], length, Ok, refl, ◌∙◌, arith}
use Rattle.iot_text.specs.Paths.{IsPath}
use Rattle.iot_tree.specs.declared.nodes.Mode.TheVariants.{On, Off}
use Rattle.iot_tree.specs.declared.nodes.Node.{Node}
use Rattle.iot_tree.specs.declared.nodes.Node.TheVariants.{Dir, File, FarDir, FarFile}
use Rattle.iot_codec.specs.Places.{LiesAt, IsSpelling}
use Rattle.iot_codec.specs.Spelling.{contents_spelling, path_spelling}
use Rattle.iot_codec.specs.Laws.Fields.{last_field, next_field, all_fields}
use Rattle.iot_codec.specs.Laws.Tags.{AreArms, empty_arm, single_arm, tagged_found, tagged_again, empty_again, single_again}
use Rattle.iot_codec.specs.Laws.Values.{contents_laws, path_laws}
use Rattle.iot_views.specs.Decoders.{◌>>=◌, done}
use Rattle.iot_views.specs.Decoding.{contents_at, path_at}
use Rattle.iot_views.specs.Rules.{IsContents}
use Rattle.iot_versions.specs.Decoding.{old_node_at, old_node_table, old_row_at}
use Rattle.iot_versions.specs.Respelling.{IsModeless, IsOldRow}
use Rattle.iot_versions.specs.Spelling.{old_node_spelling, old_row_spelling}

old_node_arms : AreArms IsModeless old_node_spelling old_node_table
unfolding old_node_spelling
old_node_arms =
    let file =
    single_arm IsModeless old_node_spelling 2 IsContents contents_spelling contents_at contents_laws (λ contents. File contents Off)
    (λ contents has. (has, refl)) (λ contents. refl) in (
      empty_arm IsModeless old_node_spelling 1 Dir tt refl,
      (
        file,
        (
          empty_arm IsModeless old_node_spelling 3 FarDir tt refl,
          (empty_arm IsModeless old_node_spelling 4 (FarFile Off) refl refl, tt),
        ),
      ),
    )

old_node_again : (n : Node) (bytes : List ℕ) (at end : ℕ) → length bytes < 2 ^ 64 → IsModeless n → LiesAt bytes at (old_node_spelling n) end
    → old_node_at bytes at ≡ Ok (n, end)
unfolding old_node_at old_node_spelling
old_node_again Dir bytes at end short has p = tagged_again old_node_table bytes at end 1 [] p ∙ empty_again Dir bytes at end 1 p
old_node_again (File contents Off) bytes at end short has p =
    tagged_again old_node_table bytes at end 2 (contents_spelling contents) p
    ∙ single_again IsContents contents_spelling contents_at contents_laws (λ contents. File contents Off) contents bytes at end 2 short
    has.0 p
old_node_again (File contents On) bytes at end short has p = let never = has.1 in absurd cc
old_node_again FarDir bytes at end short has p = tagged_again old_node_table bytes at end 3 [] p ∙ empty_again FarDir bytes at end 3 p
old_node_again (FarFile Off) bytes at end short has p =
    tagged_again old_node_table bytes at end 4 [] p ∙ empty_again (FarFile Off) bytes at end 4 p
old_node_again (FarFile On) bytes at end short has p = absurd cc

old_node_some : (n : Node) → 0 < length (old_node_spelling n)
unfolding old_node_spelling
old_node_some Dir = omega arith
old_node_some (File contents mode) = omega arith
old_node_some FarDir = omega arith
old_node_some (FarFile mode) = omega arith

old_node_laws : IsSpelling IsModeless old_node_spelling old_node_at
unfolding old_node_at
old_node_laws = record {
  found = λ bytes at read fit e. tagged_found IsModeless old_node_spelling old_node_table bytes at read old_node_arms fit e;
  only = λ bytes at read short p. old_node_again read.0 bytes at read.1 short p.value p.place;
  some = old_node_some;
}

pub old_row_laws : IsSpelling IsOldRow old_row_spelling old_row_at
unfolding old_row_at
old_row_laws =
    all_fields IsOldRow old_row_spelling (λ f. path_at >>= λ path. old_node_at >>= λ node. done (path, node))
    (next_field (λ r. tt) (λ r. r.0) IsPath path_spelling path_at path_laws (λ r. IsModeless r.1)
    (λ r. old_node_spelling r.1) (λ f. old_node_at >>= λ node. done (f.1, node))
    (last_field (λ r. (tt, r.0)) (λ r. r.1) IsModeless old_node_spelling old_node_at old_node_laws (λ f node. (f.1, node))
    (record { whole = λ r. refl; front_is = λ f y. refl; last_is = λ f y. refl })))
