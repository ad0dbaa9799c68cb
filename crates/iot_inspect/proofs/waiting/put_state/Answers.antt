use Rattle.std.proofs.Common.{[], ◌∷◌, ◌++◌, ap, ◌∙◌, append_assoc}
use Rattle.iot_text.proofs.TextsLaws.{on_err, part_after}
use Rattle.iot_inspect.specs.Texts.{option_text, stage_text}
use Rattle.iot_inspect.proofs.PiecesLaws.{state_words}
use Rattle.iot_inspect.proofs.waiting.put_state.Goals as goal

pub returns-in_err-put_stage-clause-err : goal.returns-in_err-put_stage-clause-err
returns-in_err-put_stage-clause-err c =
    let option = option_text c.args.item.now.option in
    let stage = stage_text c.args.item.now.stage in
    on_err _
    (part_after c.args.out.now c.push.new.self c.put_stage.new.out (option ++ 32 ∷ []) stage (32 ∷ []) _
    (c.in_ok-push.ensures.ok ∙ ap (λ t. t ++ 32 ∷ []) c.in_ok-put_option.ensures.ok ∙ append_assoc c.args.out.now option (32 ∷ []))
    c.in_err-put_stage.ensures.err (state_words option (32 ∷ []) stage (32 ∷ [])))
