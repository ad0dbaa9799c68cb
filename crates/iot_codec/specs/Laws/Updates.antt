-- The laws of updates and acts.
use Rattle.std.proofs.Common.{◌≡◌, ℕ, suc, ◌<◌, ◌≤◌, ◌^◌, List, ◌∷◌, ◌++◌, length, Option, None, Ok, refl, ◌∙◌, arith}
use Rattle.iot_text.specs.Paths.{IsPath}
use Rattle.iot_tree.specs.declared.updates.Update.{Update}
use Rattle.iot_tree.specs.declared.updates.Update.TheVariants.{Put, MakeDir, Remove, Move, SetMode}
use Rattle.iot_tree.specs.declared.acts.Read.{Read}
use Rattle.iot_tree.specs.declared.acts.Act.{Act}
use Rattle.iot_tree.specs.declared.limits.TheConstants.{ACT_LIMIT}
use Rattle.iot_codec.specs.Places.{LiesAt, IsSpelling}
use Rattle.iot_views.specs.Decoders.{◌>>=◌, done, at_most}
use Rattle.iot_views.specs.Decoding.{path_at, contents_at, mode_at, lines_at, reads_at, update_table, update_at, optional_update_at}
use Rattle.iot_views.specs.Decoding.{act_at, acts_at}
use Rattle.iot_views.specs.Rules.{IsContents, IsMode, AreLines, AreReads, IsUpdate, IsOptionalUpdate, IsAct, AreActs}
use Rattle.iot_codec.specs.Spelling.{path_spelling, contents_spelling, mode_spelling, lines_spelling, reads_spelling, update_spelling}
use Rattle.iot_codec.specs.Spelling.{optional_update_spelling, act_spelling, acts_spelling}
use Rattle.iot_codec.specs.Laws.Parts.{at_most_laws, same_rule}
use Rattle.iot_codec.specs.Laws.Lists.{Follow, counted_list_laws, follow_from_all, all_from_follow}
use Rattle.iot_codec.specs.Laws.Tags.{AreArms, optional_laws, single_arm, double_arm, tagged_found, tagged_again, single_again}
use Rattle.iot_codec.specs.Laws.Tags.{double_again}
use Rattle.iot_codec.specs.Laws.Fields.{last_field, next_field, all_fields}
use Rattle.iot_codec.specs.Laws.Modes.{mode_laws}
use Rattle.iot_codec.specs.Laws.Values.{path_laws, contents_laws, lines_laws}
use Rattle.iot_codec.specs.Laws.Questions.{reads_laws}

-- ---- updates

update_arms : AreArms IsUpdate update_spelling update_table
unfolding update_spelling
update_arms =
    let of = λ (tag : ℕ) (make : List (List ℕ) → Update) (has : (path : List (List ℕ)) → IsPath path → IsUpdate (make path))
    (spelled : (path : List (List ℕ)) → update_spelling (make path) ≡ tag ∷ path_spelling path).
    single_arm IsUpdate update_spelling tag IsPath path_spelling path_at path_laws make has spelled in
    let put =
    double_arm IsUpdate update_spelling 1 IsPath path_spelling path_at path_laws IsContents contents_spelling contents_at contents_laws
    Put (λ x y has_x has_y. (has_x, has_y)) (λ x y. refl) in
    let move =
    double_arm IsUpdate update_spelling 4 IsPath path_spelling path_at path_laws IsPath path_spelling path_at path_laws Move
    (λ x y has_x has_y. (has_x, has_y)) (λ x y. refl) in
    let set_mode =
    double_arm IsUpdate update_spelling 5 IsPath path_spelling path_at path_laws IsMode mode_spelling mode_at mode_laws SetMode
    (λ x y has_x has_y. has_x) (λ x y. refl) in
    (put, (of 2 MakeDir (λ x has. has) (λ x. refl), (of 3 Remove (λ x has. has) (λ x. refl), (move, (set_mode, tt)))))

update_again : (u : Update) (bytes : List ℕ) (at end : ℕ) → length bytes < 2 ^ 64 → IsUpdate u → LiesAt bytes at (update_spelling u) end
    → update_at bytes at ≡ Ok (u, end)
unfolding update_at update_spelling
update_again (Put path contents) bytes at end short has p =
    tagged_again update_table bytes at end 1 (path_spelling path ++ contents_spelling contents) p
    ∙ double_again IsPath path_spelling path_at path_laws IsContents contents_spelling contents_at contents_laws Put path contents bytes at
    end 1 short has.0 has.1 p
update_again (MakeDir path) bytes at end short has p =
    tagged_again update_table bytes at end 2 (path_spelling path) p
    ∙ single_again IsPath path_spelling path_at path_laws MakeDir path bytes at end 2 short has p
update_again (Remove path) bytes at end short has p =
    tagged_again update_table bytes at end 3 (path_spelling path) p
    ∙ single_again IsPath path_spelling path_at path_laws Remove path bytes at end 3 short has p
update_again (Move path other) bytes at end short has p =
    tagged_again update_table bytes at end 4 (path_spelling path ++ path_spelling other) p
    ∙ double_again IsPath path_spelling path_at path_laws IsPath path_spelling path_at path_laws Move path other bytes at end 4 short has.0
    has.1 p
update_again (SetMode path mode) bytes at end short has p =
    tagged_again update_table bytes at end 5 (path_spelling path ++ mode_spelling mode) p
    ∙ double_again IsPath path_spelling path_at path_laws IsMode mode_spelling mode_at mode_laws SetMode path mode bytes at end 5 short has
    tt p

-- no update begins with a zero
update_tag : (u : Update) → (tag : ℕ) × (text : List ℕ) × (update_spelling u ≡ suc tag ∷ text)
unfolding update_spelling
update_tag (Put path contents) = (0, path_spelling path ++ contents_spelling contents, refl)
update_tag (MakeDir path) = (1, path_spelling path, refl)
update_tag (Remove path) = (2, path_spelling path, refl)
update_tag (Move path other) = (3, path_spelling path ++ path_spelling other, refl)
update_tag (SetMode path mode) = (4, path_spelling path ++ mode_spelling mode, refl)

update_some : (u : Update) → 0 < length (update_spelling u)
update_some u = let t = update_tag u in rw t.2 (omega arith)

pub update_laws : IsSpelling IsUpdate update_spelling update_at
unfolding update_at
update_laws = record {
  found = λ bytes at read fit e. tagged_found IsUpdate update_spelling update_table bytes at read update_arms fit e;
  only = λ bytes at read short p. update_again read.0 bytes at read.1 short p.value p.place;
  some = update_some;
}

-- ---- acts

pub optional_update_laws : IsSpelling IsOptionalUpdate optional_update_spelling optional_update_at
unfolding optional_update_at optional_update_spelling
optional_update_laws =
    optional_laws IsUpdate update_spelling update_at update_laws IsOptionalUpdate optional_update_spelling tt (λ u has. has) (λ u has. has)
    refl (λ u. refl) update_tag

pub act_laws : IsSpelling IsAct act_spelling act_at
unfolding act_at act_spelling
act_laws =
    let Fields : Act → Type 0 = λ a. AreReads a.reads × (IsOptionalUpdate a.update × AreLines a.lines) in
    let made : List Read → Option Update → List (List ℕ)
    → Act = λ reads update lines. record { reads = reads; update = update; lines = lines } in
    let fields : IsSpelling Fields act_spelling act_at =
    all_fields Fields act_spelling
    (λ f. reads_at >>= λ reads. optional_update_at >>= λ update. lines_at >>= λ lines. done (made reads update lines))
    (next_field (λ a. tt) (λ a. a.reads) AreReads reads_spelling reads_at reads_laws (λ a. IsOptionalUpdate a.update × AreLines a.lines)
    (λ a. optional_update_spelling a.update ++ lines_spelling a.lines)
    (λ f. optional_update_at >>= λ update. lines_at >>= λ lines. done (made f.1 update lines))
    (next_field (λ a. (tt, a.reads)) (λ a. a.update) IsOptionalUpdate optional_update_spelling optional_update_at optional_update_laws
    (λ a. AreLines a.lines) (λ a. lines_spelling a.lines) (λ f. lines_at >>= λ lines. done (made f.0.1 f.1 lines))
    (last_field (λ a. ((tt, a.reads), a.update)) (λ a. a.lines) AreLines lines_spelling lines_at lines_laws
    (λ f lines. made f.0.1 f.1 lines) (record { whole = λ a. refl; front_is = λ f y. refl; last_is = λ f y. refl })))) in
    same_rule Fields IsAct act_spelling act_at (λ a has. record { reads = has.0; update = has.1.0; lines = has.1.1 })
    (λ a has. (has.reads, (has.update, has.lines))) fields

pub acts_laws : IsSpelling AreActs acts_spelling acts_at
unfolding acts_at
acts_laws =
    let Counted : List Act → Type 0 = λ acts. (length acts ≤ ACT_LIMIT) × Follow (λ _. IsAct) acts None in
    same_rule Counted AreActs acts_spelling acts_at
    (λ acts has. record { few = has.0; each = all_from_follow IsAct acts None has.1 })
    (λ acts has. (has.few, follow_from_all IsAct acts None has.each))
    (counted_list_laws (λ _. IsAct) act_spelling (λ _. act_at) (λ _. act_laws) (λ n. n ≤ ACT_LIMIT) (at_most ACT_LIMIT)
    (at_most_laws ACT_LIMIT (omega arith)))
