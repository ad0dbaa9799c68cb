use Rattle.std.proofs.Common.{List, ℕ, [], ◌+◌, ◌-◌, ◌∷◌, ◌++◌, ◌≡◌, ◌∙◌, drop, take, length, rules, arith}
use Rattle.std.specs.List.{flat_map}
use Rattle.iot_text.specs.Quotes.{quoted_byte, quoted}
use Rattle.iot_text.specs.Texts.{AppendsPart}
use Rattle.iot_text.proofs.TextsLaws.{on_err, part_after}
use Rattle.iot_text.proofs.QuotesLaws.{plain_byte, escaped_byte, at_escape, at_end_of_bytes}
use Rattle.iot_text.proofs.quoting.quote.Goals as goal
use Rattle.iot_text.proofs.quoting.quote.Goals.{in-Some+in_ok-append_run, in_default}

pub returns-in_err-append_run-clause-err : goal.returns-in_err-append_run-clause-err
returns-in_err-append_run-clause-err c =
    let run : List ℕ = take (c.bytes.at - c.bytes.done) (drop c.bytes.done c.args.bytes.now) in
    let rest : List ℕ = flat_map quoted_byte (drop (c.bytes.at + 1) c.args.bytes.now) ++ 34 ∷ [] in
    on_err _ (part_after _ c.bytes.out _ c.bytes.invariant.written (run ++ 92 ∷ c.in-Some.letter ∷ []) rest _
    c.bytes.invariant.appended c.in_err-append_run.ensures.err
    (at_escape _ _ _ (92 ∷ c.in-Some.letter ∷ []) _ _ c.bytes.invariant c.bytes-test.true c.in-Some.ensures.escaped))

pub bytes-preserved : goal.bytes-preserved
bytes-preserved c = elim c.match-escape.branch [
  | in-Some+in_ok-append_run w ↦ rw (w.out-is, w.done-is)
      (escaped_byte _ c.bytes.out _ _ (92 ∷ w.in-Some.letter ∷ []) _ _ c.bytes.invariant c.bytes-test.true w.in-Some.ensures.escaped
      w.in_ok-append_run.ensures.ok)
  | in_default w ↦ rw (w.out-is, w.done-is) (plain_byte _ _ _ _ _ c.bytes.invariant c.bytes-test.true (search rules))
]

pub returns-in_err-append-clause-err : goal.returns-in_err-append-clause-err
returns-in_err-append-clause-err c =
    let all : c.bytes.at ≡ length c.args.bytes.now = omega arith in
    let part : AppendsPart c.args.out.now c.append.new.self (quoted c.args.bytes.now) = record {
      part = c.bytes.invariant.written;
      rest = take (length c.args.bytes.now - c.bytes.done) (drop c.bytes.done c.args.bytes.now) ++ 34 ∷ [];
      appended = c.in_err-append.ensures.err ∙ c.bytes.invariant.appended;
      beginning = at_end_of_bytes _ _ _ _ _ c.bytes.invariant all;
    } in
    on_err _ part
