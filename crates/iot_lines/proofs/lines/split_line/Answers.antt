use Rattle.std.proofs.Common.{◌≡◌, ◌≢◌, ◌∷◌, ◌++◌, ℕ, ◌-◌, ◌+◌, ◌<◌, List, [], add-one, drop, length, take, inl, inr, sym, arith, ap, ◌∙◌}
use Rattle.std.proofs.Common.{refl, suc}
use Rattle.std.proofs.lemmas.Bool.Decides.{nat_tests}
use Rattle.std.proofs.lemmas.List.{drop_all, take_rest}
use Rattle.iot_lines.specs.Lines.{lines}
use Rattle.iot_lines.proofs.LinesLaws.{first_line, only_line, joined_at}
use Rattle.iot_lines.proofs.lines.split_line.Goals as goal

some : (text : List ℕ) → 0 < length text → text ≢ []
some text more is = let e = ap length is in omega arith

-- `&text[text.len()..]`
nothing_left : (text : List ℕ) → take (length text - length text) (drop (length text) text) ≡ []
nothing_left text = take_rest text (length text) ∙ drop_all (length text) text (omega arith)

-- `&text[end + 1..]`
rest_is : (text : List ℕ) (end : ℕ) → take (length text - (end + 1)) (drop (end + 1) text) ≡ drop (suc end) text
rest_is text end = take_rest text (end + 1) ∙ ap (λ (n : ℕ). drop n text) (add-one end)

pub returns-in-None-clause-first : goal.returns-in-None-clause-first
returns-in-None-clause-first c =
    let text = c.args.text.now in
    let more : 0 < length c.args.text.now = grind (arith, nat_tests) in
    only_line text (some text more) c.in-None.ensures ∙ ap (λ (rest : List ℕ). text ∷ lines rest) (sym (nothing_left text))

pub returns-in-None-clause-joined : goal.returns-in-None-clause-joined
returns-in-None-clause-joined c = inr (refl, nothing_left c.args.text.now)

pub returns-in-Some-clause-first : goal.returns-in-Some-clause-first
returns-in-Some-clause-first c =
    let text = c.args.text.now in
    let end = c.in-Some.end in
    let found = c.in-Some.ensures in
    first_line text end found.0.before found.0.high found.1 ∙ ap (λ (rest : List ℕ). take end text ∷ lines rest) (sym (rest_is text end))

pub returns-in-Some-clause-joined : goal.returns-in-Some-clause-joined
returns-in-Some-clause-joined c =
    let text = c.args.text.now in
    let end = c.in-Some.end in
    let found = c.in-Some.ensures in
    inl (joined_at text end found.0.high found.1 ∙ ap (λ (rest : List ℕ). take end text ++ 10 ∷ rest) (sym (rest_is text end)))
