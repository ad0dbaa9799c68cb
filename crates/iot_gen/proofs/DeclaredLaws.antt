-- The declarations, the start and the end are scripts and events.
use Rattle.std.proofs.Common.{◌≡◌, ℕ, ◌+◌, ◌≤◌, true, List, [], ◌∷◌, ◌++◌, map, codes, decimal, refl, sym, ap, append-nil}
use Rattle.std.proofs.Common.{arith, None}
use Rattle.std.specs.Fmt.{digits}
use Rattle.std.specs.List.{list_all, flat_map}
use Rattle.iot_text.specs.Names.{is_name}
use Rattle.iot_text.specs.Paths.{path_of}
use Rattle.iot_lang.specs.Code.{Code, End, Plain, depth}
use Rattle.iot_lang.specs.Lines.{IsSpaced}
use Rattle.iot_lang.specs.declared.words.Piece.{Piece}
use Rattle.iot_lang.specs.declared.words.Piece.TheVariants as pieces
use Rattle.iot_lang.specs.declared.words.Command.TheVariants as commands
use Rattle.iot_lang.specs.Code.{script_lines}
use Rattle.iot_lang.specs.Scripts.{SpellEach, said}
use Rattle.iot_event.specs.Scripts.{first_unfit}
use Rattle.iot_event.specs.Meanings.{Scope, nothing_declared, meaning_of, Opens}
use Rattle.iot_gen.specs.Generated.{files, clients, client_line, file_line, init_lines, add_lines, look_lines, declarations}
use Rattle.iot_gen.specs.Generated.{hoard_line, start_lines, end_lines}
use Rattle.iot_gen.proofs.LinesLaws.{is_one_line}
use Rattle.iot_gen.proofs.LeadsLaws.{event_first, Leads, SaysEvent, OpensScript, one_event, one_script, in_turn, none}
use Rattle.iot_gen.proofs.TurnsLaws.{script_names, declared, all_declared}

-- ---- lines of scripts

spaced_two : (a b : List ℕ) → IsSpaced (a ++ 32 ∷ b) (a ∷ b ∷ [])
spaced_two a b =
    ([], 32 ∷ b, refl, refl, refl, (32 ∷ [], [], refl, ap (λ (text : List ℕ). 32 ∷ text) (sym (append-nil b)), refl, refl))

spaced_three : (a b c : List ℕ) → IsSpaced (a ++ 32 ∷ (b ++ 32 ∷ c)) (a ∷ b ∷ c ∷ [])
spaced_three a b c = (
  [],
  32 ∷ (b ++ 32 ∷ c),
  refl,
  refl,
  refl,
  (32 ∷ [], 32 ∷ c, refl, refl, refl, (32 ∷ [], [], refl, ap (λ (text : List ℕ). 32 ∷ text) (sym (append-nil c)), refl, refl)),
)

abbrev plain : List ℕ → List Piece
plain text = pieces.Plain text ∷ []

-- a script whose parts are known
script : (line : List ℕ) (inside : List (List ℕ)) (code : Code) (name : List ℕ) (before after : Scope)
    → ((number : ℕ) (later : List (List ℕ)) → meaning_of before number line (inside ++ codes "}" ∷ later)
    ≡ Opens name (record { inside = inside; closing = codes "}"; later = later }) after)
    → first_unfit (inside ++ codes "}" ∷ []) ≡ None → depth code ≤ 16 → SpellEach (said inside) (script_lines code)
    → OpensScript line inside (codes "}") code before after
script line inside code name before after opens fits deep spelled = record {
  name = name;
  opens = opens;
  spells = λ later. record { fits = fits; spelled = record { deep = deep; spelled = spelled } };
}

-- ---- clients

abbrev so_many : List (List ℕ) → Scope
so_many names = record { clients = names; scripts = []; profiles = [] }

clients_lead : Leads (map client_line clients) nothing_declared (declared [])
unfolding digits is_name
clients_lead =
    event_first (client_line 1) (client_line 2 ∷ client_line 3 ∷ client_line 4 ∷ []) nothing_declared (so_many (codes "c1" ∷ []))
    (declared []) (record { says = λ number later. refl })
    (event_first (client_line 2) (client_line 3 ∷ client_line 4 ∷ []) (so_many (codes "c1" ∷ [])) (so_many (codes "c1" ∷ codes "c2" ∷ []))
    (declared []) (record { says = λ number later. refl })
    (event_first (client_line 3) (client_line 4 ∷ []) (so_many (codes "c1" ∷ codes "c2" ∷ []))
    (so_many (codes "c1" ∷ codes "c2" ∷ codes "c3" ∷ []))
    (declared []) (record { says = λ number later. refl })
    (one_event (client_line 4) (so_many (codes "c1" ∷ codes "c2" ∷ codes "c3" ∷ [])) (declared [])
    (record { says = λ number later. refl }))))

-- ---- scripts

abbrev write_code : List ℕ → Code → Code
write_code file rest = Plain (commands.Write (plain file) (plain (codes "0"))) rest

abbrev init_code : Code
init_code =
    Plain (commands.MakeDir (plain (codes "/d")))
    (write_code (codes "/d/f0")
    (write_code (codes "/d/f1")
    (write_code (codes "/d/f2")
    (write_code (codes "/d/f3")
    (write_code (codes "/d/f4")
    (write_code (codes "/d/f5")
    (write_code (codes "/d/f6")
    (write_code (codes "/d/f7")
    End))))))))

init_leads : Leads init_lines (declared []) (declared (script_names 0))
unfolding init_lines digits is_name
init_leads =
    one_script (codes "script init {") (codes "mkdir /d" ∷ map file_line files) (codes "}") init_code (declared [])
    (declared (script_names 0))
    (script (codes "script init {") (codes "mkdir /d" ∷ map file_line files) init_code (codes "init") (declared [])
    (declared (script_names 0)) (λ number later. refl) refl (omega arith) (
      (refl, spaced_two (codes "mkdir") (codes "/d")),
      (
        (refl, spaced_three (codes "write") (codes "/d/f0") (codes "0")),
        (
          (refl, spaced_three (codes "write") (codes "/d/f1") (codes "0")),
          (
            (refl, spaced_three (codes "write") (codes "/d/f2") (codes "0")),
            (
              (refl, spaced_three (codes "write") (codes "/d/f3") (codes "0")),
              (
                (refl, spaced_three (codes "write") (codes "/d/f4") (codes "0")),
                (
                  (refl, spaced_three (codes "write") (codes "/d/f5") (codes "0")),
                  (
                    (refl, spaced_three (codes "write") (codes "/d/f6") (codes "0")),
                    (
                      (refl, spaced_three (codes "write") (codes "/d/f7") (codes "0")),
                      tt,
                    ),
                  ),
                ),
              ),
            ),
          ),
        ),
      ),
    ))

-- so many of the scripts that add are declared
abbrev adding : ℕ → Scope
adding count = declared (script_names count)

abbrev file : ℕ → List ℕ
file i = codes "/d/f" ++ decimal i

abbrev add_line : ℕ → List ℕ
add_line i = codes "script add" ++ decimal i ++ codes " {"

abbrev add_inside : ℕ → List (List ℕ)
add_inside i = (codes "append /d/f" ++ decimal i ++ codes " \"+\"") ∷ (codes "cat /d/f" ++ decimal i) ∷ []

abbrev add_code : ℕ → Code
add_code i = Plain (commands.Append (plain (file i)) (pieces.Quoted (codes "+") ∷ [])) (Plain (commands.Cat (plain (file i))) End)

abbrev AddLeads : ℕ → Type 0
AddLeads i = Leads (add_lines i) (adding i) (adding (i + 1))

add_leads : (i : ℕ)
    → ((number : ℕ) (later : List (List ℕ)) → meaning_of (adding i) number (add_line i) (add_inside i ++ codes "}" ∷ later)
    ≡ Opens (codes "add" ++ decimal i) (record { inside = add_inside i; closing = codes "}"; later = later })
    (adding (i + 1)))
    → first_unfit (add_inside i ++ codes "}" ∷ []) ≡ None → SpellEach (said (add_inside i)) (script_lines (add_code i)) → AddLeads i
add_leads i opens fits spelled =
    one_script (add_line i) (add_inside i) (codes "}") (add_code i) (adding i) (adding (i + 1))
    (script (add_line i) (add_inside i) (add_code i) (codes "add" ++ decimal i) (adding i)
    (adding (i + 1)) opens fits (omega arith) spelled)

add0 : AddLeads 0
unfolding digits is_name
add0 =
    add_leads 0 (λ number later. refl) refl (
      (refl, spaced_three (codes "append") (file 0) (codes "\"+\"")),
      ((refl, spaced_two (codes "cat") (file 0)), tt),
    )

add1 : AddLeads 1
unfolding digits is_name
add1 =
    add_leads 1 (λ number later. refl) refl (
      (refl, spaced_three (codes "append") (file 1) (codes "\"+\"")),
      ((refl, spaced_two (codes "cat") (file 1)), tt),
    )

add2 : AddLeads 2
unfolding digits is_name
add2 =
    add_leads 2 (λ number later. refl) refl (
      (refl, spaced_three (codes "append") (file 2) (codes "\"+\"")),
      ((refl, spaced_two (codes "cat") (file 2)), tt),
    )

add3 : AddLeads 3
unfolding digits is_name
add3 =
    add_leads 3 (λ number later. refl) refl (
      (refl, spaced_three (codes "append") (file 3) (codes "\"+\"")),
      ((refl, spaced_two (codes "cat") (file 3)), tt),
    )

add4 : AddLeads 4
unfolding digits is_name
add4 =
    add_leads 4 (λ number later. refl) refl (
      (refl, spaced_three (codes "append") (file 4) (codes "\"+\"")),
      ((refl, spaced_two (codes "cat") (file 4)), tt),
    )

add5 : AddLeads 5
unfolding digits is_name
add5 =
    add_leads 5 (λ number later. refl) refl (
      (refl, spaced_three (codes "append") (file 5) (codes "\"+\"")),
      ((refl, spaced_two (codes "cat") (file 5)), tt),
    )

add6 : AddLeads 6
unfolding digits is_name
add6 =
    add_leads 6 (λ number later. refl) refl (
      (refl, spaced_three (codes "append") (file 6) (codes "\"+\"")),
      ((refl, spaced_two (codes "cat") (file 6)), tt),
    )

add7 : AddLeads 7
unfolding digits is_name
add7 =
    add_leads 7 (λ number later. refl) refl (
      (refl, spaced_three (codes "append") (file 7) (codes "\"+\"")),
      ((refl, spaced_two (codes "cat") (file 7)), tt),
    )

adds_lead : Leads (flat_map add_lines files) (adding 0) (adding 8)
adds_lead =
    in_turn (add_lines 0) (flat_map add_lines (1 ∷ 2 ∷ 3 ∷ 4 ∷ 5 ∷ 6 ∷ 7 ∷ [])) (adding 0) (adding 1) (adding 8)
    add0
    (in_turn (add_lines 1) (flat_map add_lines (2 ∷ 3 ∷ 4 ∷ 5 ∷ 6 ∷ 7 ∷ [])) (adding 1) (adding 2) (adding 8)
    add1
    (in_turn (add_lines 2) (flat_map add_lines (3 ∷ 4 ∷ 5 ∷ 6 ∷ 7 ∷ [])) (adding 2) (adding 3) (adding 8)
    add2
    (in_turn (add_lines 3) (flat_map add_lines (4 ∷ 5 ∷ 6 ∷ 7 ∷ [])) (adding 3) (adding 4) (adding 8)
    add3
    (in_turn (add_lines 4) (flat_map add_lines (5 ∷ 6 ∷ 7 ∷ [])) (adding 4) (adding 5) (adding 8)
    add4
    (in_turn (add_lines 5) (flat_map add_lines (6 ∷ 7 ∷ [])) (adding 5) (adding 6) (adding 8)
    add5
    (in_turn (add_lines 6) (flat_map add_lines (7 ∷ [])) (adding 6) (adding 7) (adding 8)
    add6
    (in_turn (add_lines 7) (flat_map add_lines ([])) (adding 7) (adding 8) (adding 8)
    add7
    (none (adding 8)))))))))

look_lead : Leads look_lines (adding 8) all_declared
unfolding digits is_name
look_lead =
    one_script (codes "script look {") (codes "ls /d" ∷ []) (codes "}") (Plain (commands.List (plain (codes "/d"))) End)
    (adding 8) all_declared
    (script (codes "script look {") (codes "ls /d" ∷ []) (Plain (commands.List (plain (codes "/d"))) End) (codes "look")
    (adding 8) all_declared (λ number later. refl) refl (omega arith)
    ((refl, spaced_two (codes "ls") (codes "/d")), tt))

pub declarations_lead : Leads declarations nothing_declared all_declared
unfolding declarations
declarations_lead =
    in_turn ((map client_line clients ++ init_lines) ++ flat_map add_lines files) look_lines nothing_declared
    (adding 8) all_declared
    (in_turn (map client_line clients ++ init_lines) (flat_map add_lines files) nothing_declared (adding 0)
    (adding 8)
    (in_turn (map client_line clients) init_lines nothing_declared (declared []) (adding 0) clients_lead init_leads)
    adds_lead)
    look_lead

pub declarations_one_line : list_all is_one_line declarations ≡ true
unfolding declarations init_lines digits
declarations_one_line = refl

-- ---- the start and the end

-- events that declare nothing
abbrev Plain_event : List ℕ → Type 0
Plain_event line = SaysEvent line all_declared all_declared

event : (line : List ℕ) (ls : List (List ℕ)) → Plain_event line → Leads ls all_declared all_declared
    → Leads (line ∷ ls) all_declared all_declared
event line ls says rest = event_first line ls all_declared all_declared all_declared says rest

pub start_leads : Leads start_lines all_declared all_declared
unfolding start_lines digits is_name path_of
start_leads =
    event (codes "run c1 init abort") _ (record { says = λ number later. refl })
    (event (hoard_line 1) _ (record { says = λ number later. refl })
    (event (hoard_line 2) _ (record { says = λ number later. refl })
    (event (hoard_line 3) _ (record { says = λ number later. refl })
    (event (hoard_line 4) [] (record { says = λ number later. refl }) (none all_declared)))))

pub start_one_line : list_all is_one_line start_lines ≡ true
unfolding start_lines digits
start_one_line = refl

abbrev connect_line : ℕ → List ℕ
connect_line c = codes "connect c" ++ decimal c

abbrev drain_line : ℕ → List ℕ
drain_line c = codes "drain c" ++ decimal c

pub end_leads : Leads end_lines all_declared all_declared
unfolding end_lines digits is_name
end_leads =
    event (connect_line 1) _ (record { says = λ number later. refl })
    (event (drain_line 1) _ (record { says = λ number later. refl })
    (event (connect_line 2) _ (record { says = λ number later. refl })
    (event (drain_line 2) _ (record { says = λ number later. refl })
    (event (connect_line 3) _ (record { says = λ number later. refl })
    (event (drain_line 3) _ (record { says = λ number later. refl })
    (event (connect_line 4) _ (record { says = λ number later. refl })
    (event (drain_line 4) [] (record { says = λ number later. refl }) (none all_declared))))))))

pub end_one_line : list_all is_one_line end_lines ≡ true
unfolding end_lines digits
end_one_line = refl
