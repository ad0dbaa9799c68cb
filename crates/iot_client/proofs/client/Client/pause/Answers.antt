use Rattle.std.proofs.Common.{◌≡◌, ◌∙◌, true, Option, None, sym, subst}
use Rattle.std.specs.Prelude.{IsSome}
use Rattle.iot_client.specs.Ties.{state_of, classes_in, code_in}
use Rattle.iot_client.specs.declared.interpreter.Interpreter.{Interpreter}
use Rattle.iot_client.proofs.PauseLaws.{ends_there, goes_there, limited_there}
use Rattle.iot_client.proofs.PlaceLaws.{begun_at, count_is, interpreter_within}
use Rattle.iot_client.proofs.client.Client.pause.Goals as goal

pub index-requires : goal.index-requires
index-requires g c =
    let self = c.args.self.now in
    interpreter_within (state_of self).running self.interpreters c.args.at c.requires.tied.runs c.requires.within

pub unreachable-requires : goal.unreachable-requires
unreachable-requires g c =
    let self = c.args.self.now in
    let some : IsSome (code_in None) =
    subst (λ (i : Option Interpreter). IsSome (code_in i)) c.in-None.is
    (begun_at (state_of self).running (classes_in self) self.interpreters.items c.args.at c.index.result.now (count_is self)
    c.requires.tied.runs c.requires.within c.index.ensures c.requires.begun) in
    cc

pub returns-then-at_end-clause-pauses : goal.returns-then-at_end-clause-pauses
returns-then-at_end-clause-pauses g c = λ number is.
    ends_there c.args.self.now number c.args.at c.requires.tied.runs is c.index.result.now c.index.ensures c.in-Some.interpreter
    c.in-Some.is c.acts.result c.acts.ensures (sym c.at_end.ensures ∙ c.if-at_end.true)

pub returns-then-at_limit-clause-pauses : goal.returns-then-at_limit-clause-pauses
returns-then-at_limit-clause-pauses g c = λ number is.
    limited_there c.args.self.now number c.args.at c.requires.tied.runs is c.index.result.now c.index.ensures c.in-Some.interpreter
    c.in-Some.is c.acts-then-at_limit.result c.acts-then-at_limit.ensures (sym c.at_end.ensures ∙ c.if-at_end.false)
    (c.at_limit.ensures.0 c.if-at_limit.true)

pub returns-clause-goes : goal.returns-clause-goes
returns-clause-goes g c = λ number is.
    goes_there c.args.self.now number c.args.at c.requires.tied.runs is c.index.result.now c.index.ensures c.in-Some.interpreter
    c.in-Some.is (sym c.at_end.ensures ∙ c.if-at_end.false)
    (λ full. let both : c.at_limit.result ≡ true = c.at_limit.ensures.1 full in cc)
