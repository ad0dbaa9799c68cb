-- Scripts by their names, as one more is declared.
use Rattle.std.proofs.lemmas.List.Folds.{find-append}
use Rattle.std.proofs.Common.{List, [], ◌∷◌, ◌++◌, Option, Some, None, IfSome, refl, bytes_eq}
use Rattle.iot_machine.proofs.FollowsLaws.{all_as}
use Rattle.iot_machine.specs.Clients.{Declared, ClientState}
use Rattle.iot_standing.specs.Scripts.{IsNamed, HasNamed, ItemIsNamed, RunIsNamed, AreNamed}
use Rattle.iot_machine.specs.Options.{OnConflict}
use Rattle.iot_machine.specs.Options as options

module _ (scripts : List Declared) (one : Declared) where
  pub named_more : (script : Declared) → IsNamed scripts script → IsNamed (scripts ++ one ∷ []) script
  named_more script named = rw (find-append (λ s. bytes_eq script.name s.name) scripts (one ∷ []), named) refl

  has_more : (option : OnConflict Declared) → HasNamed scripts option → HasNamed (scripts ++ one ∷ []) option
  has_more (options.Resolver script) named = named_more script named
  has_more option named = tt

  pub state_more : (m : ClientState) → AreNamed scripts m → AreNamed (scripts ++ one ∷ []) m
  state_more m named = record {
    items = all_as (ItemIsNamed scripts) (ItemIsNamed (scripts ++ one ∷ [])) m.items (λ item it. record {
      script = named_more item.script it.script;
      resolver = has_more item.option it.resolver;
    }) named.items;
    running = all_as (RunIsNamed scripts) (RunIsNamed (scripts ++ one ∷ [])) m.running (λ run it. record {
      script = named_more run.script it.script;
      resolver = has_more run.option it.resolver;
    }) named.running;
  }

  pub if_more : (o : Option ClientState) → IfSome o (AreNamed scripts) → IfSome o (AreNamed (scripts ++ one ∷ []))
  if_more None named = tt
  if_more (Some m) named = state_more m named
