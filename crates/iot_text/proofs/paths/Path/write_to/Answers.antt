use Rattle.std.proofs.Common.{◌≡◌, sym, subst, arith, [], List, ℕ, ◌∷◌, ◌∙◌, ap}
use Rattle.iot_text.specs.Texts.{AppendsPart}
use Rattle.iot_text.specs.Paths.{names_text, path_text}
use Rattle.iot_text.proofs.TextsLaws.{on_err, part_of_list}
use Rattle.iot_text.proofs.PathTextsLaws.{path_text-some, spelled_back}
use Rattle.iot_text.proofs.paths.Path.write_to.Goals as goal

pub returns-in_err-append_name-clause-err : goal.returns-in_err-append_name-clause-err
returns-in_err-append_name-clause-err c =
    let names : List (List ℕ) = c.names-name-items.result.now in
    let whole : names_text names ≡ path_text c.args.self.now =
    sym (path_text-some names (omega (arith, c.names-test.true))) ∙ ap path_text c.names-name-items.ensures.value in
    on_err _ (subst (AppendsPart c.args.out.now c.append_name.new.out) whole
    (part_of_list (λ name. 47 ∷ name) names c.names.name-index c.name-item.result [] c.args.out.now c.names.out c.append_name.new.out
    c.names-test.true c.name-item.is c.names.invariant c.in_err-append_name.ensures.err))

pub returns-then-is_empty-clause-reads_back : goal.returns-then-is_empty-clause-reads_back
returns-then-is_empty-clause-reads_back c = spelled_back c.args.self.now (rw (← c.names-2.ensures.value) c.names-2.ensures.valid)

pub returns-in_err-append_name-clause-reads_back : goal.returns-in_err-append_name-clause-reads_back
returns-in_err-append_name-clause-reads_back c = spelled_back c.args.self.now (rw (← c.names-2.ensures.value) c.names-2.ensures.valid)

pub returns-clause-reads_back : goal.returns-clause-reads_back
returns-clause-reads_back c = spelled_back c.args.self.now (rw (← c.names-2.ensures.value) c.names-2.ensures.valid)
