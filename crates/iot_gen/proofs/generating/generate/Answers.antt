use Rattle.std.proofs.Common.{List, ℕ, ◌++◌, ◌∙◌, ap, sym, subst}
use Rattle.iot_event.specs.Events.{Gives, Events}
use Rattle.iot_event.specs.declared.event.Event.{Event}
use Rattle.iot_gen.specs.declared.generating.TheConstants.{TURNS}
use Rattle.iot_gen.specs.Generated.{declarations, start_lines, turn_lines, end_lines, generated}
use Rattle.iot_gen.proofs.TextsLaws.{four_parts}
use Rattle.iot_gen.proofs.ScriptLaws.{generated_gives}
use Rattle.iot_gen.proofs.generating.generate.Goals as goal

pub returns-clause-text : goal.returns-clause-text
returns-clause-text c =
    c.into_bytes.ensures
    ∙ four_parts c.new-out.result c.put_declarations.new.out c.put_start.new.out c.put_turns.new.out c.put_end.new.out
    declarations start_lines (turn_lines TURNS c.args.n) end_lines
    c.in_ok-put_declarations.ensures c.in_ok-put_start.ensures c.in_ok-put_turns.ensures c.in_ok-put_end.ensures
    ∙ ap (λ (text : List ℕ). text ++ generated c.args.n) c.new-out.ensures

pub returns-clause-script : goal.returns-clause-script
returns-clause-script c =
    subst (λ (text : List ℕ). (events : List Event) × Gives text (Events events)) (sym (returns-clause-text c)) (generated_gives c.args.n)
