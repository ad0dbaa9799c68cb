use Rattle.std.proofs.{Common.tests, lemmas.Iterator.YieldsList-from_slice, lemmas.Iterator.Search.find_from_yields_List}
use Rattle.iot_exchange.proofs.{Common.bytes_eq, Common.rules, DoesLaws.hands_on, DoesLaws.then_tells}
use Rattle.iot_exchange.proofs.{ExchangeLaws.asks_whole, ExchangeLaws.whole_came, FirstLaws.declared_for, FirstLaws.resolves_away}
use Rattle.iot_exchange.proofs.{FirstLaws.resolves_told, FirstLaws.synced_err, NamesLaws.code_found, NamesLaws.none_found}
use Rattle.iot_exchange.proofs.queues.resolve.Goals as goal

pub unreachable-requires : goal.unreachable-requires
unreachable-requires g c =
    let came = rw c.in-Some.is at c.in_ok-reply.ensures.replied in
    none_found c.args.scripts.now c.plan-plan.result.script c.find.result
    (find_from_yields_List (λ w. bytes_eq c.plan-plan.result.script w.name) _ _ _ c.find.ensures.ran
    (YieldsList-from_slice c.args.scripts.now c.iter.ensures.rest) (λ x b q k. search (rules, tests))) c.in_default.is
    (declared_for c.args.request c.requires.first c.plan-plan.result (rw came.same at c.plan-plan.ensures) c.requires.ready)

pub resolve-requires-clause-brings : goal.resolve-requires-clause-brings
resolve-requires-clause-brings g c =
    rw c.deref.ensures.value (whole_came (rw c.in-Some.is at c.in_ok-reply.ensures.replied) (asks_whole c.requires.first.is)).0

pub resolve-requires-clause-whole : goal.resolve-requires-clause-whole
resolve-requires-clause-whole g c =
    rw c.deref.ensures.value (whole_came (rw c.in-Some.is at c.in_ok-reply.ensures.replied) (asks_whole c.requires.first.is)).1

pub returns-in_err-resolve-in-Some : goal.returns-in_err-resolve-in-Some
returns-in_err-resolve-in-Some g c =
    let came = rw c.in-Some.is at c.in_ok-reply.ensures.replied in
    resolves_told c.args.request c.requires.first c.plan-plan.result (rw came.same at c.plan-plan.ensures)
    (code_found c.args.scripts.now c.plan-plan.result.script c.find.result
    (find_from_yields_List (λ w. bytes_eq c.plan-plan.result.script w.name) _ _ _ c.find.ensures.ran
    (YieldsList-from_slice c.args.scripts.now c.iter.ensures.rest) (λ x b q k. search (rules, tests)))
    c.in-Some-find.is c.in_ok-shared-in-Some.ensures.value) came c.in_ok-reply.ensures.disks c.resolve.ensures.keeps
    (rw c.deref.ensures.value at c.resolve.ensures.does) (λ p u. hands_on c.in_err-resolve-in-Some.was
    (synced_err c.in_err-resolve-in-Some.field-0.0 _ c.from_residual-in_err-resolve-in-Some.ensures.1))

pub returns-in-Some : goal.returns-in-Some
returns-in-Some g c =
    let came = rw c.in-Some.is at c.in_ok-reply.ensures.replied in
    resolves_told c.args.request c.requires.first c.plan-plan.result (rw came.same at c.plan-plan.ensures)
    (code_found c.args.scripts.now c.plan-plan.result.script c.find.result
    (find_from_yields_List (λ w. bytes_eq c.plan-plan.result.script w.name) _ _ _ c.find.ensures.ran
    (YieldsList-from_slice c.args.scripts.now c.iter.ensures.rest) (λ x b q k. search (rules, tests)))
    c.in-Some-find.is c.in_ok-shared-in-Some.ensures.value) came c.in_ok-reply.ensures.disks c.resolve.ensures.keeps
    (rw c.deref.ensures.value at c.resolve.ensures.does)
    (λ p u did. then_tells c.in_ok-resolve-in-Some.was did (λ names at pair here. c.in_ok-say_resolve-in-Some.ensures))

pub returns : goal.returns
returns g c = resolves_away c.args.request c.requires.first (rw c.in-None.is at c.in_ok-reply.ensures.replied)
    c.in_ok-reply.ensures.disks c.in_ok-say-in-None.ensures
