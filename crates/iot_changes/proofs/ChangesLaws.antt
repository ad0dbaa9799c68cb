-- The laws of changes: what is decoded is what is spelled.
use Rattle.std.proofs.Common.{◌≡◌, ℕ, ◌<◌, ◌^◌, List, [], ◌++◌, length, Ok, refl, ◌∙◌, arith}
use Rattle.iot_text.specs.Names.{IsName}
use Rattle.iot_codec.specs.Places.{LiesAt, IsSpelling}
use Rattle.iot_views.specs.Decoders.{done, number_at}
use Rattle.iot_views.specs.Decoding.{access_at, name_at, option_at, act_at, tree_at}
use Rattle.iot_views.specs.Rules.{IsAccess, IsNumber, IsOption, IsAct, IsTreeOfRows}
use Rattle.iot_codec.specs.Spelling.{access_spelling, number_spelling, name_spelling, option_spelling, act_spelling, tree_spelling}
use Rattle.iot_codec.specs.Laws.Bases.{access_laws}
use Rattle.iot_codec.specs.Laws.Options.{option_laws}
use Rattle.iot_codec.specs.Laws.Parts.{number_laws}
use Rattle.iot_codec.specs.Laws.Tags.{IsArm, AreArms, empty_arm, single_arm, double_arm, triple_arm, tagged_found}
use Rattle.iot_codec.specs.Laws.Tags.{tagged_again, empty_again, single_again, double_again, triple_again}
use Rattle.iot_codec.specs.Laws.Trees.{tree_laws}
use Rattle.iot_codec.specs.Laws.Updates.{act_laws}
use Rattle.iot_codec.specs.Laws.Values.{name_laws}
use Rattle.iot_changes.specs.Decoding.{held_at, begun_at, fetched_at, acted_at, ended_at, cut_at, resolution_at, resolved_at, repaired_at}
use Rattle.iot_changes.specs.Decoding.{again_at, change_table, change_at}
use Rattle.iot_changes.specs.Rules.{IsResolution, IsChange}
use Rattle.iot_changes.specs.Spelling.{resolution_spelling, change_spelling}
use Rattle.iot_changes.specs.declared.changes.Change.{Change}
use Rattle.iot_changes.specs.declared.changes.Change.TheVariants.{Held, Begun, Fetched, Acted, Ended, Cut, Conflicted, Resolved}
use Rattle.iot_changes.specs.declared.changes.Change.TheVariants.{Repaired, Left, Again}
use Rattle.iot_changes.proofs.ResolutionsLaws.{resolution_laws}

held_arm : IsArm IsChange change_spelling 1 held_at
unfolding held_at change_spelling
held_arm =
    single_arm IsChange change_spelling 1 IsTreeOfRows tree_spelling tree_at tree_laws Held (λ tree has. has) (λ tree. refl)

begun_arm : IsArm IsChange change_spelling 2 begun_at
unfolding begun_at change_spelling
begun_arm =
    triple_arm IsNumber number_spelling number_at number_laws IsName name_spelling name_at name_laws IsOption option_spelling option_at
    option_laws IsChange change_spelling 2 Begun (λ number script option n s o. (n, (s, o))) (λ number script option. refl)

fetched_arm : IsArm IsChange change_spelling 3 fetched_at
unfolding fetched_at change_spelling
fetched_arm =
    double_arm IsChange change_spelling 3 IsNumber number_spelling number_at number_laws IsTreeOfRows tree_spelling tree_at tree_laws
    Fetched (λ number tree n has. (n, has)) (λ number tree. refl)

acted_arm : IsArm IsChange change_spelling 4 acted_at
unfolding acted_at change_spelling
acted_arm =
    double_arm IsChange change_spelling 4 IsNumber number_spelling number_at number_laws IsAct act_spelling act_at act_laws
    Acted (λ number act n has. (n, has)) (λ number act. refl)

ended_arm : IsArm IsChange change_spelling 5 ended_at
unfolding ended_at change_spelling
ended_arm =
    single_arm IsChange change_spelling 5 IsNumber number_spelling number_at number_laws Ended (λ number has. has) (λ number. refl)

cut_arm : IsArm IsChange change_spelling 6 cut_at
unfolding cut_at change_spelling
cut_arm =
    double_arm IsChange change_spelling 6 IsNumber number_spelling number_at number_laws IsNumber number_spelling number_at number_laws
    Cut (λ number acts n has. (n, has)) (λ number acts. refl)

conflicted_arm : IsArm IsChange change_spelling 7 (done Conflicted)
unfolding change_spelling
conflicted_arm = empty_arm IsChange change_spelling 7 Conflicted tt refl

resolved_arm : IsArm IsChange change_spelling 8 resolved_at
unfolding resolved_at change_spelling
resolved_arm =
    double_arm IsChange change_spelling 8 IsResolution resolution_spelling resolution_at resolution_laws IsAccess access_spelling access_at
    access_laws Resolved (λ resolution access r a. (r, a)) (λ resolution access. refl)

repaired_arm : IsArm IsChange change_spelling 9 repaired_at
unfolding repaired_at change_spelling
repaired_arm =
    single_arm IsChange change_spelling 9 IsName name_spelling name_at name_laws Repaired (λ script has. has) (λ script. refl)

left_arm : IsArm IsChange change_spelling 10 (done Left)
unfolding change_spelling
left_arm = empty_arm IsChange change_spelling 10 Left tt refl

again_arm : IsArm IsChange change_spelling 11 again_at
unfolding again_at change_spelling
again_arm =
    single_arm IsChange change_spelling 11 IsNumber number_spelling number_at number_laws Again (λ number has. has) (λ number. refl)

change_arms : AreArms IsChange change_spelling change_table
change_arms = (
  held_arm,
  (begun_arm, (fetched_arm, (acted_arm, (ended_arm, (cut_arm, (conflicted_arm, (resolved_arm, (repaired_arm, (left_arm, (again_arm, tt)))))))))),
)

change_again : (c : Change) (bytes : List ℕ) (at end : ℕ) → length bytes < 2 ^ 64 → IsChange c → LiesAt bytes at (change_spelling c) end
    → change_at bytes at ≡ Ok (c, end)
unfolding change_at held_at begun_at fetched_at acted_at ended_at cut_at resolved_at repaired_at again_at change_spelling
change_again (Held tree) bytes at end short has p =
    tagged_again change_table bytes at end 1 (tree_spelling tree) p
    ∙ single_again IsTreeOfRows tree_spelling tree_at tree_laws Held tree bytes at end 1 short has p
change_again (Begun number script option) bytes at end short has p =
    tagged_again change_table bytes at end 2 (number_spelling number ++ (name_spelling script ++ option_spelling option)) p
    ∙ triple_again IsNumber number_spelling number_at number_laws IsName name_spelling name_at name_laws IsOption option_spelling option_at
    option_laws Begun number script option bytes at end 2 short has.0 has.1.0 has.1.1 p
change_again (Fetched number tree) bytes at end short has p =
    tagged_again change_table bytes at end 3 (number_spelling number ++ tree_spelling tree) p
    ∙ double_again IsNumber number_spelling number_at number_laws IsTreeOfRows tree_spelling tree_at tree_laws Fetched number tree bytes at
    end 3 short has.0 has.1 p
change_again (Acted number act) bytes at end short has p =
    tagged_again change_table bytes at end 4 (number_spelling number ++ act_spelling act) p
    ∙ double_again IsNumber number_spelling number_at number_laws IsAct act_spelling act_at act_laws Acted number act bytes at end 4 short
    has.0 has.1 p
change_again (Ended number) bytes at end short has p =
    tagged_again change_table bytes at end 5 (number_spelling number) p
    ∙ single_again IsNumber number_spelling number_at number_laws Ended number bytes at end 5 short has p
change_again (Cut number acts) bytes at end short has p =
    tagged_again change_table bytes at end 6 (number_spelling number ++ number_spelling acts) p
    ∙ double_again IsNumber number_spelling number_at number_laws IsNumber number_spelling number_at number_laws Cut number acts bytes at
    end 6 short has.0 has.1 p
change_again Conflicted bytes at end short has p = tagged_again change_table bytes at end 7 [] p ∙ empty_again Conflicted bytes at end 7 p
change_again (Resolved resolution access) bytes at end short has p =
    tagged_again change_table bytes at end 8 (resolution_spelling resolution ++ access_spelling access) p
    ∙ double_again IsResolution resolution_spelling resolution_at resolution_laws IsAccess access_spelling access_at access_laws Resolved
    resolution access bytes at end 8 short has.0 has.1 p
change_again (Repaired script) bytes at end short has p =
    tagged_again change_table bytes at end 9 (name_spelling script) p
    ∙ single_again IsName name_spelling name_at name_laws Repaired script bytes at end 9 short has p
change_again Left bytes at end short has p = tagged_again change_table bytes at end 10 [] p ∙ empty_again Left bytes at end 10 p
change_again (Again number) bytes at end short has p =
    tagged_again change_table bytes at end 11 (number_spelling number) p
    ∙ single_again IsNumber number_spelling number_at number_laws Again number bytes at end 11 short has p

change_some : (c : Change) → 0 < length (change_spelling c)
unfolding change_spelling
change_some (Held tree) = omega arith
change_some (Begun number script option) = omega arith
change_some (Fetched number tree) = omega arith
change_some (Acted number act) = omega arith
change_some (Ended number) = omega arith
change_some (Cut number acts) = omega arith
change_some Conflicted = omega arith
change_some (Resolved resolution access) = omega arith
change_some (Repaired script) = omega arith
change_some Left = omega arith
change_some (Again number) = omega arith

pub change_laws : IsSpelling IsChange change_spelling change_at
unfolding change_at
change_laws = record {
  found = λ bytes at read fit e. tagged_found IsChange change_spelling change_table bytes at read change_arms fit e;
  only = λ bytes at read short p. change_again read.0 bytes at read.1 short p.value p.place;
  some = change_some;
}
