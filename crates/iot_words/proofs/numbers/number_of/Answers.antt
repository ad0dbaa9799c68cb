use Rattle.std.proofs.Common.{rules, ◌≡◌, ◌∙◌, true, sym}
use Rattle.iot_words.specs.Numbers.{is_number}
use Rattle.iot_words.proofs.NumbersLaws.{too_large}
use Rattle.iot_words.proofs.numbers.number_of.Goals as goal

pub returns-in_err-number : goal.returns-in_err-number
returns-in_err-number c =
    let is : is_number c.args.text.now ≡ true = search rules in
    c.from_residual.ensures ∙ too_large c.args.text.now c.parse.result is c.parse.ensures.value.0 (sym c.in_err-number.ensures.value)
