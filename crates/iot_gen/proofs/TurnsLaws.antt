-- The line of each turn is an event.
use Rattle.std.proofs.Common.{◌≡◌, ℕ, zero, suc, ◌+◌, ◌<◌, true, List, [], ◌∷◌, ◌++◌, map, take, codes, decimal, refl, arith}
use Rattle.std.specs.Fmt.{digits}
use Rattle.std.specs.List.{list_all}
use Rattle.iot_lines.proofs.FrontsLaws.{both_so}
use Rattle.iot_text.specs.Names.{is_name}
use Rattle.iot_event.specs.Meanings.{Scope}
use Rattle.iot_gen.specs.declared.turns.Turn.{Turn}
use Rattle.iot_gen.specs.declared.turns.Turn.TheVariants.{Disconnect, Connect, Drain, Look, Add}
use Rattle.iot_gen.specs.Turns.{next, drawn, turn_from, after_turn, turns, turn_line}
use Rattle.iot_gen.specs.Generated.{files, turn_lines}
use Rattle.iot_gen.proofs.LinesLaws.{is_one_line}
use Rattle.iot_gen.proofs.LeadsLaws.{Leads, SaysEvent, one_event, in_turn, none}
use Rattle.iot_gen.proofs.CasesLaws.{each_client, each_file, each_turn}

abbrev pub client_names : List (List ℕ)
client_names = codes "c1" ∷ codes "c2" ∷ codes "c3" ∷ codes "c4" ∷ []

-- the scripts up to so many that add
abbrev pub script_names : ℕ → List (List ℕ)
script_names count = codes "init" ∷ map (λ i. codes "add" ++ decimal i) (take count files)

-- all clients, and these scripts
abbrev pub declared : List (List ℕ) → Scope
declared scripts = record { clients = client_names; scripts = scripts; profiles = [] }

abbrev pub all_declared : Scope
all_declared = declared (script_names 8 ++ codes "look" ∷ [])

-- a line is one line, and an event that declares nothing
pub record IsPlainEvent (line : List ℕ) : Type 0 where
  pub one_line : is_one_line line ≡ true
  pub event : SaysEvent line all_declared all_declared

IsTurn : Turn → Type 0
IsTurn turn = IsPlainEvent (turn_line turn)

disconnects : (n : ℕ) → n < 4 → IsPlainEvent (turn_line (Disconnect (n + 1)))
unfolding digits is_name
disconnects =
    each_client (λ (c : ℕ). IsPlainEvent (turn_line (Disconnect c)))
    (record { one_line = refl; event = record { says = λ number later. refl } })
    (record { one_line = refl; event = record { says = λ number later. refl } })
    (record { one_line = refl; event = record { says = λ number later. refl } })
    (record { one_line = refl; event = record { says = λ number later. refl } })

connects : (n : ℕ) → n < 4 → IsPlainEvent (turn_line (Connect (n + 1)))
unfolding digits is_name
connects =
    each_client (λ (c : ℕ). IsPlainEvent (turn_line (Connect c)))
    (record { one_line = refl; event = record { says = λ number later. refl } })
    (record { one_line = refl; event = record { says = λ number later. refl } })
    (record { one_line = refl; event = record { says = λ number later. refl } })
    (record { one_line = refl; event = record { says = λ number later. refl } })

drains : (n : ℕ) → n < 4 → IsPlainEvent (turn_line (Drain (n + 1)))
unfolding digits is_name
drains =
    each_client (λ (c : ℕ). IsPlainEvent (turn_line (Drain c)))
    (record { one_line = refl; event = record { says = λ number later. refl } })
    (record { one_line = refl; event = record { says = λ number later. refl } })
    (record { one_line = refl; event = record { says = λ number later. refl } })
    (record { one_line = refl; event = record { says = λ number later. refl } })

looks : (n : ℕ) → n < 4 → IsPlainEvent (turn_line (Look (n + 1)))
unfolding digits is_name
looks =
    each_client (λ (c : ℕ). IsPlainEvent (turn_line (Look c)))
    (record { one_line = refl; event = record { says = λ number later. refl } })
    (record { one_line = refl; event = record { says = λ number later. refl } })
    (record { one_line = refl; event = record { says = λ number later. refl } })
    (record { one_line = refl; event = record { says = λ number later. refl } })

add1 : (i : ℕ) → i < 8 → IsPlainEvent (turn_line (Add 1 i))
unfolding digits is_name
add1 =
    each_file (λ (i : ℕ). IsPlainEvent (turn_line (Add 1 i)))
    (record { one_line = refl; event = record { says = λ number later. refl } })
    (record { one_line = refl; event = record { says = λ number later. refl } })
    (record { one_line = refl; event = record { says = λ number later. refl } })
    (record { one_line = refl; event = record { says = λ number later. refl } })
    (record { one_line = refl; event = record { says = λ number later. refl } })
    (record { one_line = refl; event = record { says = λ number later. refl } })
    (record { one_line = refl; event = record { says = λ number later. refl } })
    (record { one_line = refl; event = record { says = λ number later. refl } })

add2 : (i : ℕ) → i < 8 → IsPlainEvent (turn_line (Add 2 i))
unfolding digits is_name
add2 =
    each_file (λ (i : ℕ). IsPlainEvent (turn_line (Add 2 i)))
    (record { one_line = refl; event = record { says = λ number later. refl } })
    (record { one_line = refl; event = record { says = λ number later. refl } })
    (record { one_line = refl; event = record { says = λ number later. refl } })
    (record { one_line = refl; event = record { says = λ number later. refl } })
    (record { one_line = refl; event = record { says = λ number later. refl } })
    (record { one_line = refl; event = record { says = λ number later. refl } })
    (record { one_line = refl; event = record { says = λ number later. refl } })
    (record { one_line = refl; event = record { says = λ number later. refl } })

add3 : (i : ℕ) → i < 8 → IsPlainEvent (turn_line (Add 3 i))
unfolding digits is_name
add3 =
    each_file (λ (i : ℕ). IsPlainEvent (turn_line (Add 3 i)))
    (record { one_line = refl; event = record { says = λ number later. refl } })
    (record { one_line = refl; event = record { says = λ number later. refl } })
    (record { one_line = refl; event = record { says = λ number later. refl } })
    (record { one_line = refl; event = record { says = λ number later. refl } })
    (record { one_line = refl; event = record { says = λ number later. refl } })
    (record { one_line = refl; event = record { says = λ number later. refl } })
    (record { one_line = refl; event = record { says = λ number later. refl } })
    (record { one_line = refl; event = record { says = λ number later. refl } })

add4 : (i : ℕ) → i < 8 → IsPlainEvent (turn_line (Add 4 i))
unfolding digits is_name
add4 =
    each_file (λ (i : ℕ). IsPlainEvent (turn_line (Add 4 i)))
    (record { one_line = refl; event = record { says = λ number later. refl } })
    (record { one_line = refl; event = record { says = λ number later. refl } })
    (record { one_line = refl; event = record { says = λ number later. refl } })
    (record { one_line = refl; event = record { says = λ number later. refl } })
    (record { one_line = refl; event = record { says = λ number later. refl } })
    (record { one_line = refl; event = record { says = λ number later. refl } })
    (record { one_line = refl; event = record { says = λ number later. refl } })
    (record { one_line = refl; event = record { says = λ number later. refl } })

adds : (n i : ℕ) → n < 4 → i < 8 → IsPlainEvent (turn_line (Add (n + 1) i))
adds n i low few = each_client (λ (c : ℕ). IsPlainEvent (turn_line (Add c i))) (add1 i few) (add2 i few) (add3 i few) (add4 i few) n low

drawn-less : (x m : ℕ) → 0 < m → drawn x m < m
unfolding drawn
drawn-less x m some = omega arith

turn_event : (x : ℕ) → IsPlainEvent (turn_line (turn_from x))
unfolding turn_from
turn_event x =
    let n : ℕ = drawn (next (next x)) 4 in
    let i : ℕ = drawn (next (next (next x))) 8 in
    let low : n < 4 = drawn-less (next (next x)) 4 (omega arith) in
    let few : i < 8 = drawn-less (next (next (next x))) 8 (omega arith) in
    each_turn (λ (t : Turn). IsPlainEvent (turn_line t)) (drawn (next x) 10) (n + 1) i
    (disconnects n low) (connects n low) (drains n low) (looks n low) (adds n i low few)

-- the lines of so many turns
pub turns_lead : (count x : ℕ) → Leads (turn_lines count x) all_declared all_declared
unfolding turns
turns_lead zero x = none all_declared
turns_lead (suc count) x =
    in_turn (turn_line (turn_from x) ∷ []) (turn_lines count (after_turn x)) all_declared all_declared all_declared
    (one_event (turn_line (turn_from x)) all_declared all_declared (turn_event x).event)
    (turns_lead count (after_turn x))

pub turns_one_line : (count x : ℕ) → list_all is_one_line (turn_lines count x) ≡ true
unfolding turns
turns_one_line zero x = refl
turns_one_line (suc count) x = both_so _ _ (turn_event x).one_line (turns_one_line count (after_turn x))
