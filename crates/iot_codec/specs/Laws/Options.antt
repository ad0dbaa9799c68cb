-- The laws of options and budgets.
use Rattle.std.proofs.Common.{◌≡◌, ℕ, ◌<◌, ◌^◌, List, [], length, Ok, refl, ◌∙◌, arith}
use Rattle.iot_text.specs.Names.{IsName}
use Rattle.iot_tree.specs.declared.labels.OnConflict.{OnConflict}
use Rattle.iot_tree.specs.declared.labels.OnConflict.TheVariants.{Reexec, Resolver, Abort, Manual}
use Rattle.iot_tree.specs.declared.limits.TheConstants.{ACT_LIMIT}
use Rattle.iot_codec.specs.Places.{LiesAt, IsSpelling}
use Rattle.iot_views.specs.Decoding.{name_at, option_table, option_at, budget_at}
use Rattle.iot_views.specs.Rules.{IsOption, IsBudget}
use Rattle.iot_codec.specs.Spelling.{number_spelling, name_spelling, option_spelling}
use Rattle.iot_codec.specs.Laws.Parts.{at_most_laws}
use Rattle.iot_codec.specs.Laws.Tags.{AreArms, empty_arm, single_arm, tagged_found, tagged_again, empty_again, single_again}
use Rattle.iot_codec.specs.Laws.Values.{name_laws}

option_arms : AreArms IsOption option_spelling option_table
unfolding option_spelling
option_arms = (
  empty_arm IsOption option_spelling 1 Reexec tt refl,
  (
    single_arm IsOption option_spelling 2 IsName name_spelling name_at name_laws Resolver (λ script has. has) (λ script. refl),
    (
      empty_arm IsOption option_spelling 3 Abort tt refl,
      (
        empty_arm IsOption option_spelling 4 Manual tt refl,
        tt,
      ),
    ),
  ),
)

option_again : (o : OnConflict) (bytes : List ℕ) (at end : ℕ) → length bytes < 2 ^ 64 → IsOption o → LiesAt bytes at (option_spelling o) end
    → option_at bytes at ≡ Ok (o, end)
unfolding option_at option_spelling
option_again Reexec bytes at end short has p = tagged_again option_table bytes at end 1 [] p ∙ empty_again Reexec bytes at end 1 p
option_again (Resolver script) bytes at end short has p =
    tagged_again option_table bytes at end 2 (name_spelling script) p
    ∙ single_again IsName name_spelling name_at name_laws Resolver script bytes at end 2 short has p
option_again Abort bytes at end short has p = tagged_again option_table bytes at end 3 [] p ∙ empty_again Abort bytes at end 3 p
option_again Manual bytes at end short has p = tagged_again option_table bytes at end 4 [] p ∙ empty_again Manual bytes at end 4 p

option_some : (o : OnConflict) → 0 < length (option_spelling o)
unfolding option_spelling
option_some Reexec = omega arith
option_some (Resolver script) = omega arith
option_some Abort = omega arith
option_some Manual = omega arith

pub option_laws : IsSpelling IsOption option_spelling option_at
unfolding option_at
option_laws = record {
  found = λ bytes at read fit e. tagged_found IsOption option_spelling option_table bytes at read option_arms fit e;
  only = λ bytes at read short p. option_again read.0 bytes at read.1 short p.value p.place;
  some = option_some;
}

pub budget_laws : IsSpelling IsBudget number_spelling budget_at
budget_laws = at_most_laws ACT_LIMIT (omega arith)
