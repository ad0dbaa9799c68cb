use Rattle.std.proofs.Common.{◌≡◌, ◌+◌, ◌≤◌, ◌++◌, ◌∙◌, List, ℕ, ap, arith, length, length-append, append_assoc}
use Rattle.iot_text.proofs.NamesLaws.{name_parts}
use Rattle.iot_codec.specs.Spelling.{number_spelling, counted}
use Rattle.iot_codec.proofs.DigitsLaws.{length-digits}
use Rattle.iot_codec.proofs.paths.put_one.Goals as goal

pub put-requires-2 : goal.put-requires-2
put-requires-2 c =
    let limit = (name_parts _ c.as_bytes-text.ensures.valid).within_limit in
    let number : length c.to_be_bytes.result ≡ 8 = length-digits (length c.as_bytes-text.result.now) _ c.to_be_bytes.ensures in
    let now : length c.put.new.self ≡ length c.args.piece.now + length c.to_be_bytes.result =
    ap length c.put.ensures ∙ length-append c.args.piece.now c.to_be_bytes.result in
    let room : length c.args.piece.now ≤ 88 = c.requires in
    omega (arith, now, number, limit, room)

pub returns-clause-spelled : goal.returns-clause-spelled
unfolding number_spelling
returns-clause-spelled c =
    c.put-2.ensures
    ∙ ap (λ (before : List ℕ). before ++ c.as_bytes-text.result.now) c.put.ensures
    ∙ append_assoc c.args.piece.now c.to_be_bytes.result c.as_bytes-text.result.now
    ∙ ap (λ (number : List ℕ). c.args.piece.now ++ (number ++ c.as_bytes-text.result.now)) c.to_be_bytes.ensures
    ∙ ap (λ (text : List ℕ). c.args.piece.now ++ counted text) c.as_bytes-text.ensures.value

pub returns-clause-room : goal.returns-clause-room
returns-clause-room c =
    let limit = (name_parts _ c.as_bytes-text.ensures.valid).within_limit in
    let number : length c.to_be_bytes.result ≡ 8 = length-digits (length c.as_bytes-text.result.now) _ c.to_be_bytes.ensures in
    let now : length c.put.new.self ≡ length c.args.piece.now + length c.to_be_bytes.result =
    ap length c.put.ensures ∙ length-append c.args.piece.now c.to_be_bytes.result in
    let then : length c.put-2.new.self ≡ length c.put.new.self + length c.as_bytes-text.result.now =
    ap length c.put-2.ensures ∙ length-append c.put.new.self c.as_bytes-text.result.now in
    omega (arith, now, then, number, limit)
