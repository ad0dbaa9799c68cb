-- Scripts that are declared, by their names and by their places.
use Rattle.std.proofs.{Common.cond, Common.option_map, lemmas.List.get_or-map, lemmas.List.length-map}
use Rattle.iot_event.specs.declared.event.Choice.{Choice}
use Rattle.iot_exchange.proofs.Common.{Bor, Code, HasNamed, IsCodeOf, IsSome, List, None}
use Rattle.iot_exchange.proofs.Common.{Option, Some, ap, bytes_eq, false, find, length, map, option_named, refl, script_at, script_named}
use Rattle.iot_exchange.proofs.Common.{script_of, scripts_of, slice_get-get_or, slice_index_or, subst, sym, true, ℕ, [], ◌<◌, ◌∙◌, ◌∷◌, ◌≡◌}
use Rattle.iot_exchange.specs.{Words.IsMeant, Words.ResolverIsDeclared, declared.declared.DeclaredScript.DeclaredScript}
use Rattle.iot_machine.specs.{Events.chosen, Machine.no_script}
use Rattle.iot_standing.specs.Scripts.{AreApart, IsNamed}
use Rattle.iot_event.specs.declared.event.Choice.TheVariants as choices
use Rattle.iot_tree.specs.declared.labels.OnConflict as named

-- looking a name up among scripts
abbrev pub found_among : List DeclaredScript → List ℕ → Option DeclaredScript
found_among ws name = find (λ w. bytes_eq name w.name) ws

looked_up : (ws : List DeclaredScript) (name : List ℕ) → script_named name (map script_of ws) ≡ option_map script_of (found_among ws name)
looked_up [] name = refl
looked_up (w ∷ ws) name =
    elim (bytes_eq name w.name) as (λ b. cond b (Some (script_of w)) (script_named name (map script_of ws))
    ≡ option_map script_of (cond b (Some w) (found_among ws name)))
    [ true ↦ refl | false ↦ looked_up ws name ]

module _ (ws : List DeclaredScript) (name : List ℕ) (o : Option (Bor DeclaredScript))
    (found : option_map (λ (b : Bor DeclaredScript). b.now) o ≡ found_among ws name) where
  found_is : script_named name (map script_of ws) ≡ option_map script_of (option_map (λ (b : Bor DeclaredScript). b.now) o)
  found_is = looked_up ws name ∙ ap (option_map script_of) (sym found)

  -- the one that was found has the code
  pub code_found : {script : Bor DeclaredScript} {code : Code} → o ≡ Some script → code ≡ script.now.script
      → IsCodeOf name (map script_of ws) code
  code_found is same = record { script = _; is = rw is at found_is; has = sym same }

  -- one is found if it is declared
  pub none_found : o ≡ None → IsSome (script_named name (map script_of ws)) → ⊥
  none_found none named = let e = subst IsSome (rw none at found_is) named in absurd cc

-- ---- scripts by their places

-- the one in hand is the machine's at that place
pub script_there : (ws : List DeclaredScript) {place : ℕ} {w : DeclaredScript} → place < length ws → w ≡ slice_index_or ws place w
    → script_of w ≡ script_at (scripts_of ws) place
script_there ws {place} {w} within is = ap script_of is ∙ sym (get_or-map script_of ws place w no_script within)

pub named_there : (ws : List DeclaredScript) (place : ℕ) → place < length ws → AreApart (scripts_of ws)
    → IsNamed (scripts_of ws) (script_at (scripts_of ws) place)
named_there ws place within apart =
    apart place (script_at (scripts_of ws) place) (slice_get-get_or (scripts_of ws) place no_script (rw (length-map ws script_of) within))

pub has_named : (ws : List DeclaredScript) (option : Choice ℕ) → ResolverIsDeclared option (length ws) → AreApart (scripts_of ws)
    → HasNamed (scripts_of ws) (chosen (scripts_of ws) option)
has_named ws (choices.Resolver place) is apart = named_there ws place is apart
has_named ws option is apart = tt

abbrev pub meant_there : (ws : List DeclaredScript) {place : ℕ} {w : DeclaredScript} (option : Choice ℕ) {name : named.OnConflict}
    → (place < length ws) × ResolverIsDeclared option (length ws) → w ≡ slice_index_or ws place w → AreApart (scripts_of ws)
    → name ≡ option_named (chosen (scripts_of ws) option) → IsMeant (scripts_of ws) (script_of w) name
meant_there ws {place} option may is apart same = record {
  on_conflict = chosen (scripts_of ws) option;
  means = record {
    script_is = subst (IsNamed (scripts_of ws)) (sym (script_there ws may.0 is)) (named_there ws place may.0 apart);
    resolver = has_named ws option may.1 apart;
    option_is = same;
  };
}
