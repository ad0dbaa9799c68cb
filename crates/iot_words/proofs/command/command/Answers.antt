use Rattle.std.proofs.Common.{rules, ap, ap₂, true, ◌≡◌, ◌∙◌, codes}
use Rattle.std.proofs.lemmas.Result.{IfOk-weaker}
use Rattle.clap.specs.Words.{Shape, app_of, new_app, rule_of, with_rule}
use Rattle.clap.specs.Simple.{app_of_fields, on_top}
use Rattle.iot_words.specs.Command.{audit_rule, bare, gen_rule, image_rule, json_rule, save_rule, upgrade_rule}
use Rattle.iot_words.proofs.command.command.Goals as goal

nameless : Shape → Shape
nameless shape = record shape { no_binary_name = true }

helpless : Shape → Shape
helpless shape = record shape { disable_help_flag = true }

pub returns : goal.returns
unfolding nameless helpless
returns c =
    let json_is : rule_of c.action-json.result ≡ json_rule =
    search (rules, c.new.ensures.rule, c.long.ensures, c.action-json.ensures) in
    let gen_is : rule_of c.action-number.result ≡ gen_rule =
    search (rules, c.new-2.ensures.rule, c.long-2.ensures, c.action-number.ensures) in
    let save_is : rule_of c.action-save.result ≡ save_rule =
    search (rules, c.new-3.ensures.rule, c.long-3.ensures, c.action-save.ensures) in
    let image_is : rule_of c.action-image.result ≡ image_rule =
    search (rules, c.new-4.ensures.rule, c.long-4.ensures, c.action-image.ensures) in
    let upgrade_is : rule_of c.action-upgrade.result ≡ upgrade_rule =
    search (rules, c.new-5.ensures.rule, c.long-5.ensures, c.action-upgrade.ensures) in
    let audit_is : rule_of c.action-audit.result ≡ audit_rule =
    search (rules, c.new-6.ensures.rule, c.long-6.ensures, c.action-audit.ensures) in
    let named : app_of c.no_binary_name.result ≡ on_top nameless (new_app (codes "iot")) =
    ap app_of_fields c.no_binary_name.ensures ∙ ap (on_top nameless) c.new-7.ensures.app in
    let bare_is : app_of c.disable_help_flag.result ≡ bare = ap app_of_fields c.disable_help_flag.ensures ∙ ap (on_top helpless) named in
    let first = c.in_ok-arg.ensures.shape
    (search (rules, c.new.ensures.optional.1, c.long.ensures, c.action-json.ensures)) ∙ ap₂ with_rule bare_is json_is in
    let second = c.in_ok-arg-2.ensures.shape
    (search (rules, c.new-2.ensures.optional.1, c.long-2.ensures, c.action-number.ensures)) ∙ ap₂ with_rule first gen_is in
    let third = c.in_ok-arg-3.ensures.shape
    (search (rules, c.new-3.ensures.optional.1, c.long-3.ensures, c.action-save.ensures)) ∙ ap₂ with_rule second save_is in
    let fourth = c.in_ok-arg-4.ensures.shape
    (search (rules, c.new-4.ensures.optional.1, c.long-4.ensures, c.action-image.ensures)) ∙ ap₂ with_rule third image_is in
    let fifth = c.in_ok-arg-5.ensures.shape
    (search (rules, c.new-5.ensures.optional.1, c.long-5.ensures, c.action-upgrade.ensures)) ∙ ap₂ with_rule fourth upgrade_is in
    IfOk-weaker c.arg-6.result _ _
    (λ made adds. adds.shape
    (search (rules, c.new-6.ensures.optional.1, c.long-6.ensures, c.action-audit.ensures)) ∙ ap₂ with_rule fifth audit_is) c.arg-6.ensures
