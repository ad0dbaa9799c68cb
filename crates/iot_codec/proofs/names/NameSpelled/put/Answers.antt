use Rattle.std.proofs.Common.{◌≡◌, ◌≤◌, ◌+◌, ◌-◌, ◌++◌, List, ℕ, OnOk, length, take, drop, replicate, length-append}
use Rattle.std.proofs.Common.{append_assoc, sym, ap, subst, ◌∙◌, arith}
use Rattle.std.proofs.lemmas.List.{take_at}
use Rattle.iot_text.proofs.NamesLaws.{name_parts}
use Rattle.iot_codec.specs.Spelling.{number_spelling, counted}
use Rattle.iot_codec.proofs.names.NameSpelled.put.Goals as goal

pub slice_bounds-spelled-end-2 : goal.slice_bounds-spelled-end-2
slice_bounds-spelled-end-2 c =
    let limit = (name_parts _ c.as_bytes-text.ensures.valid).within_limit in
    let size : length (c.copy_from_slice.new.self ++ replicate 32 0) ≡ 40
    = omega (arith, c.copy_from_slice.ensures.len, length-append c.copy_from_slice.new.self (replicate 32 0)) in
    let within : 8 + length c.as_bytes-text.result.now ≤ length (c.copy_from_slice.new.self ++ replicate 32 0)
    = omega (arith, limit, size) in
    within

-- the front of the array is the number, and then the bytes
front : (number zeros text copied rest : List ℕ) → length number ≡ 8 → copied ≡ text →
    take (8 + length text) (take 8 (number ++ zeros) ++ (copied ++ rest)) ≡ number ++ text
front number zeros text copied rest size is =
    ap (λ (l : List ℕ). take (8 + length text) (l ++ (copied ++ rest))) (take_at number zeros 8 size)
    ∙ ap (λ (l : List ℕ). take (8 + length text) (number ++ (l ++ rest))) is
    ∙ ap (take (8 + length text)) (sym (append_assoc number text rest))
    ∙ take_at (number ++ text) rest (8 + length text) (omega (arith, length-append number text, size))

pub returns-clause-ok : goal.returns-clause-ok
unfolding number_spelling
returns-clause-ok c =
    let text = c.as_bytes-text.result.now in
    let number = c.copy_from_slice.new.self in
    let copied = c.copy_from_slice-2.new.self in
    let rest = drop (8 + length text - 8) (drop 8 (number ++ replicate 32 0)) in
    let said : OnOk c.append.result (c.append.new.self ≡ c.args.out.now ++ take (8 + length text)
    (take 8 (number ++ replicate 32 0) ++ (copied ++ rest))) = c.append.ensures.ok in
    let spelled = front number (replicate 32 0) text copied rest c.copy_from_slice.ensures.len c.copy_from_slice-2.ensures.after
    ∙ ap (λ (l : List ℕ). l ++ text) (c.copy_from_slice.ensures.after ∙ c.to_be_bytes.ensures)
    ∙ ap counted c.as_bytes-text.ensures.value in
    subst (λ (l : List ℕ). OnOk c.append.result (c.append.new.self ≡ c.args.out.now ++ l)) spelled said
