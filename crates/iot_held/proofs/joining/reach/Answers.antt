use Rattle.std.proofs.Common.{◌∙◌, ◌++◌, List, ap, sym}
use Rattle.std.proofs.lemmas.List.{append-nil}
use Rattle.iot_stamp.specs.Stamps.{Entry}
use Rattle.iot_held.proofs.JoiningLaws.{nothing_moves}
use Rattle.iot_held.proofs.joining.reach.Goals as goal

pub returns-then-are_ahead-clause-rest : goal.returns-then-are_ahead-clause-rest
returns-then-are_ahead-clause-rest c =
    sym (nothing_moves c.args.path.now c.args.entries.now.items (sym c.are_ahead.ensures ∙ c.if-are_ahead.true)).0

pub returns-then-are_ahead-clause-out : goal.returns-then-are_ahead-clause-out
returns-then-are_ahead-clause-out c =
    let none = (nothing_moves c.args.path.now c.args.entries.now.items (sym c.are_ahead.ensures ∙ c.if-are_ahead.true)).1 in
    sym (append-nil c.args.out.now) ∙ ap (λ (es : List Entry). c.args.out.now ++ es) (sym none)

pub returns-then-are_ahead-clause-here : goal.returns-then-are_ahead-clause-here
returns-then-are_ahead-clause-here c =
    sym (nothing_moves c.args.path.now c.args.entries.now.items (sym c.are_ahead.ensures ∙ c.if-are_ahead.true)).2
