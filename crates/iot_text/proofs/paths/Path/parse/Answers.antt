use Rattle.std.proofs.Common.{◌≡◌, length, drop, sym, ◌∙◌, ap, subst, arith, Some}
use borrow.Author.Tests.{eqb-true}
use Rattle.std.proofs.lemmas.List.{take_rest}
use Rattle.iot_text.specs.Names.{IsName, beginning_len}
use Rattle.iot_text.proofs.PathTextsLaws.{refused, completed, stepped, next_part}
use Rattle.iot_text.proofs.PathsLaws.{IsPath-push}
use Rattle.iot_text.proofs.PathTextsLaws.{path_of-spelled, path_of-none, path_of-no_slash, path_of-root}
use Rattle.iot_text.proofs.paths.Path.parse.Goals as goal
use Rattle.iot_text.proofs.paths.Path.parse.Goals.{then-is_empty-via-then-is_empty, then-is_empty-via-else-is_empty+then-text-ne47}

pub returns-in_default-clause-refused : goal.returns-in_default-clause-refused
returns-in_default-clause-refused c =
    let part = next_part c.args.text.now c.parts.start c.part_len-len.result c.part_len-len.ensures in
    let beginning : c.beginning_len.result ≡ beginning_len (drop c.parts.start c.args.text.now) =
    c.beginning_len.ensures ∙ ap beginning_len (take_rest c.args.text.now c.parts.start) in
    refused c.parts.names.items (drop c.parts.start c.args.text.now) c.args.text.now _ c.parts.invariant.names
    c.parts.invariant.stepped.spelled c.parts.invariant.not_root
    (λ named. c.in_default.ensures.ok (subst IsName (sym part) named))
    (omega (arith, beginning, c.parts.invariant.stepped.started))

pub returns-then-start-text-clause-ok : goal.returns-then-start-text-clause-ok
returns-then-start-text-clause-ok c =
    rw (c.in_ok-from_names.ensures, c.in_ok-push.ensures.items)
    (completed c.parts.names.items c.args.text.now c.parts.start c.part_len-len.result c.in-Ok.name c.parts.invariant.names
    c.parts.invariant.stepped.spelled c.if-start-text.true c.in-Ok.ensures.ok.1
    (rw (c.in-Ok.ensures.ok.1) (c.in-Ok.ensures.ok.0)))

pub parts-preserved : goal.parts-preserved
parts-preserved c = rw (c.in_ok-push.ensures.items) (record {
  names = IsPath-push c.parts.names.items c.in-Ok.name c.parts.invariant.names (rw (c.in-Ok.ensures.ok.1) (c.in-Ok.ensures.ok.0));
  stepped = stepped c.parts.names.items c.args.text.now c.parts.start c.part_len-len.result c.in-Ok.name c.parts.invariant.stepped
      c.part_len-len.ensures c.in-Ok.ensures.ok.1 c.if-start-text.false;
  not_root = c.parts.invariant.not_root;
})

pub returns-then-is_empty-clause-none : goal.returns-then-is_empty-clause-none
returns-then-is_empty-clause-none c = λ fault. elim c.then-is_empty.branch [
  | then-is_empty-via-then-is_empty w ↦
      path_of-no_slash c.args.text.now
      (λ some. absurd (omega (arith, eqb-true (length c.args.text.now) 0 (sym c.is_empty.ensures ∙ w.if-is_empty.true))))
  | then-is_empty-via-else-is_empty+then-text-ne47 w ↦ path_of-no_slash c.args.text.now (λ some. w.if-text-ne47.true)
]

pub returns-then-text-eq1-clause-found : goal.returns-then-text-eq1-clause-found
returns-then-text-eq1-clause-found c =
    path_of-root c.args.text.now c.if-text-eq1.true c.if-text-ne47.false ∙ ap Some (sym c.none.ensures)

pub returns-in_default-clause-none : goal.returns-in_default-clause-none
returns-in_default-clause-none c = λ fault. path_of-none c.args.text.now (returns-in_default-clause-refused c).0

pub returns-then-start-text-clause-found : goal.returns-then-start-text-clause-found
returns-then-start-text-clause-found c = path_of-spelled c.args.text.now c.in_ok-from_names.field-0 (returns-then-start-text-clause-ok c)
