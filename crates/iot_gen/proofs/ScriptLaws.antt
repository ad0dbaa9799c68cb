-- The generated text is an event script.
use Rattle.std.proofs.Common.{◌≡◌, ℕ, true, List, [], ◌++◌, sym, ◌∙◌, subst, append-nil}
use Rattle.std.specs.List.{list_all}
use Rattle.std.proofs.lemmas.List.Folds.{list_all-append}
use Rattle.iot_lines.proofs.FrontsLaws.{both_so}
use Rattle.iot_event.specs.Meanings.{nothing_declared}
use Rattle.iot_event.specs.Events.{LinesGive, Events, Gives}
use Rattle.iot_event.specs.declared.event.Event.{Event}
use Rattle.iot_gen.specs.declared.generating.TheConstants.{TURNS}
use Rattle.iot_gen.specs.Generated.{declarations, start_lines, turn_lines, end_lines, generated}
use Rattle.iot_gen.proofs.LinesLaws.{is_one_line, lines-text_of}
use Rattle.iot_gen.proofs.LeadsLaws.{Leads, in_turn, nothing_left}
use Rattle.iot_gen.proofs.TurnsLaws.{all_declared, turns_lead, turns_one_line}
use Rattle.iot_gen.proofs.DeclaredLaws.{declarations_lead, declarations_one_line, start_leads, start_one_line, end_leads, end_one_line}

-- so are all lines, whatever the number of turns
abbrev lines_with : (count n : ℕ) → List (List ℕ)
lines_with count n = ((declarations ++ start_lines) ++ turn_lines count n) ++ end_lines

all_lead : (count n : ℕ) → Leads (lines_with count n) nothing_declared all_declared
all_lead count n =
    in_turn ((declarations ++ start_lines) ++ turn_lines count n) end_lines nothing_declared all_declared all_declared
    (in_turn (declarations ++ start_lines) (turn_lines count n) nothing_declared all_declared all_declared
    (in_turn declarations start_lines nothing_declared all_declared all_declared declarations_lead start_leads)
    (turns_lead count n))
    end_leads

both_one_line : (a b : List (List ℕ)) → list_all is_one_line a ≡ true → list_all is_one_line b ≡ true → list_all is_one_line (a ++ b) ≡ true
both_one_line a b first second = list_all-append is_one_line a b ∙ both_so _ _ first second

all_one_line : (count n : ℕ) → list_all is_one_line (lines_with count n) ≡ true
all_one_line count n =
    both_one_line ((declarations ++ start_lines) ++ turn_lines count n) end_lines
    (both_one_line (declarations ++ start_lines) (turn_lines count n)
    (both_one_line declarations start_lines declarations_one_line start_one_line) (turns_one_line count n))
    end_one_line

pub generated_gives : (n : ℕ) → (events : List Event) × Gives (generated n) (Events events)
generated_gives n =
    let all : List (List ℕ) = lines_with TURNS n in
    subst (λ (ls : List (List ℕ)). (events : List Event) × LinesGive ls nothing_declared 1 (Events events))
    (append-nil all ∙ sym (lines-text_of all (all_one_line TURNS n)))
    ((all_lead TURNS n).leads [] (nothing_left all_declared) 1)
