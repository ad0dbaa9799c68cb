use Rattle.std.proofs.Common.{◌∙◌, ◌++◌, ap, map, sym}
use Rattle.std.proofs.lemmas.List.{append-nil}
use Rattle.iot_stamp.specs.Passes.{after_head, head_at}
use Rattle.iot_stamp.proofs.PassesLaws.{first_here}
use Rattle.iot_stamp.proofs.cursor.pass_to.Goals as goal

pub returns-in-Some-default-clause-stamp : goal.returns-in-Some-default-clause-stamp
returns-in-Some-default-clause-stamp c =
    let first = sym c.split_head.ensures.stamp ∙ c.in-Some-default.is-0 in
    sym c.in-Some-default.is-0 ∙ c.split_head.ensures.stamp
    ∙ ap (head_at c.args.path.now) (sym (first_here c.args.path.now c.args.entries.now c.in-Some-default.stamp first).0)

pub returns-in-Some-default-clause-rest : goal.returns-in-Some-default-clause-rest
returns-in-Some-default-clause-rest c =
    let first = sym c.split_head.ensures.stamp ∙ c.in-Some-default.is-0 in
    c.split_head.ensures.rest
    ∙ ap (after_head c.args.path.now) (sym (first_here c.args.path.now c.args.entries.now c.in-Some-default.stamp first).0)

pub returns-in-Some-default-clause-passed : goal.returns-in-Some-default-clause-passed
returns-in-Some-default-clause-passed c =
    let first = sym c.split_head.ensures.stamp ∙ c.in-Some-default.is-0 in
    let none = (first_here c.args.path.now c.args.entries.now c.in-Some-default.stamp first).1 in
    sym (append-nil c.args.passed.now)
    ∙ ap (λ before. c.args.passed.now ++ map (λ e. e.0) before) (sym none)
