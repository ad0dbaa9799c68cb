use Rattle.std.proofs.Common.{◌≡◌, ℕ, true, Some, None, Result, Ok, Err, List, sym, subst, Bor, ap, ◌∙◌}
use Rattle.std.proofs.Common.{MatchResult}
use Rattle.std.specs.Result.{result_ok}
use Rattle.std.specs.Str.{IsUtf8}
use Rattle.std.specs.Str.Parse.{ParsesUnsigned, digits_value}
use Rattle.iot_event.specs.Numbers.{is_number}
use Rattle.iot_event.proofs.NumbersLaws.{number_text, parsed}
use Rattle.iot_event.proofs.number.number_of.Goals as goal

no_text : {X E : Type 0} (word : List ℕ) (result : Result X E) (Is : X → Type 0) (Why : E → Type 0)
    → MatchResult result Is (λ e. (IsUtf8 word → ⊥) × Why e) → None ≡ result_ok result → IsUtf8 word → ⊥
no_text word (Ok x) Is Why cases none text = absurd cc
no_text word (Err e) Is Why cases none text = cases.0 text

same_text : {E : Type 0} (word : List ℕ) (result : Result (Bor (List ℕ)) E) (text : Bor (List ℕ)) (Why : E → Type 0)
    → MatchResult result (λ s. (s.now ≡ word) × IsUtf8 word) Why → Some text ≡ result_ok result → text.now ≡ word
same_text word (Ok x) text Why cases some = let same : x ≡ text = cc in subst (λ (s : Bor (List ℕ)). s.now ≡ word) same cases.0
same_text word (Err e) text Why cases some = absurd cc

pub returns-in_err-ok : goal.returns-in_err-ok
returns-in_err-ok c =
    let is : is_number c.args.word.now ≡ true = sym c.is_number.ensures ∙ c.if-not-is_number.false in
    absurd
    (no_text c.args.word.now c.from_utf8.result _ _ c.from_utf8.ensures.cases c.in_err-ok.ensures.value
    (number_text c.args.word.now is))

pub returns-in_err-number : goal.returns-in_err-number
returns-in_err-number c =
    let is : is_number c.args.word.now ≡ true = sym c.is_number.ensures ∙ c.if-not-is_number.false in
    let text : c.in_ok-ok.field-0.now ≡ c.args.word.now =
    same_text c.args.word.now c.from_utf8.result c.in_ok-ok.field-0 _ c.from_utf8.ensures.cases c.in_ok-ok.ensures.value in
    let result : c.parse.result ≡ Ok (digits_value 10 c.args.word.now) =
    parsed c.args.word.now c.parse.result is
    (subst (λ (bytes : List ℕ). ParsesUnsigned 64 10 bytes c.parse.result) text c.parse.ensures.value.0) in
    let never = c.in_err-number.ensures.value ∙ ap result_ok result in
    absurd cc
