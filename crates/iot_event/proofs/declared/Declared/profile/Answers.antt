use Rattle.std.proofs.Common.{◌≡◌, ◌+◌, ◌++◌, ◌∷◌, [], ℕ, List, Ok, sym, ap, ◌∙◌}
use Rattle.indexmap.proofs.CallerLemmas.{insert_entry-new}
use Rattle.iot_lines.specs.Lines.{lines}
use Rattle.iot_tree.specs.Profiles.{Profile}
use Rattle.iot_event.specs.Meanings.{Scope}
use Rattle.iot_event.specs.Profiles.{profile_of}
use Rattle.iot_event.specs.Results.{scope_of, closed_of}
use Rattle.iot_event.proofs.EventsLaws.{listed}
use Rattle.iot_event.proofs.declared.Declared.profile.Goals as goal

pub returns-clause-line : goal.returns-clause-line
returns-clause-line c =
    let before : Scope = scope_of c.args.self.now in
    let found : profile_of (closed_of c.in_ok-block.block) (c.args.number + 1) ≡ Ok c.in_ok-shared.shared =
    c.in_ok-profile.ensures ∙ ap (λ (p : Profile). Ok p) (sym c.in_ok-shared.ensures) in
    let entries : c.insert.new.self.entries ≡ before.profiles ++ (c.args.name, c.in_ok-shared.shared) ∷ [] =
    c.in_ok-insert.ensures.entries
    ∙ insert_entry-new _ c.args.self.now.profiles c.args.name c.in_ok-share.field-0 c.in_ok-block.ensures.new
    ∙ ap (λ (p : Profile). before.profiles ++ (c.args.name, p) ∷ []) c.in_ok-share.ensures in
    listed _ before c.args.number (lines c.args.later.now) c.args.name (closed_of c.in_ok-block.block) c.in_ok-shared.shared _ _
    c.in_ok-block.ensures.line found
    (ap (λ (es : List (List ℕ × Profile)). record before { profiles = es }) entries)
    (ap (λ (n : ℕ). c.args.number + 1 + n + 1) c.in_ok-block.ensures.count)
