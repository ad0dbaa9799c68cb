use Rattle.std.proofs.Common.{arith, subst}
use Rattle.std.proofs.lemmas.Result.{IfOk-weaker}
use Rattle.iot_store.specs.Records.{IsDecodedAs, commit_of}
use Rattle.iot_store.proofs.RecordsLaws.{record_new, replays_if, replays_none}
use Rattle.iot_store.proofs.StatesLaws.{added_if_is}
use Rattle.iot_store.proofs.recorded.CommitsRecorded.follow.Goals as goal

pub returns-in-Some-clause-follows : goal.returns-in-Some-clause-follows
returns-in-Some-clause-follows c =
    let is = subst (IsDecodedAs c.args.version c.args.body.now) c.in-Some.is c.in_ok-commit.ensures in
    IfOk-weaker c.replay.result _ _
    (λ follows adds. replays_if c.args.version c.args.body.now c.in-Some.commit follows _ _ (omega arith) is adds) c.replay.ensures.adds

pub returns-in-Some-clause-sound : goal.returns-in-Some-clause-sound
returns-in-Some-clause-sound c =
    let is = subst (IsDecodedAs c.args.version c.args.body.now) c.in-Some.is c.in_ok-commit.ensures in
    let message = record_new c.args.version c.args.body.now (commit_of c.in-Some.commit) is in
    added_if_is c.replay.result _ _ _ _ c.requires message.value.0 message.value.1.0 c.replay.ensures.adds c.replay.ensures.few

pub returns-in-None-clause-follows : goal.returns-in-None-clause-follows
returns-in-None-clause-follows c =
    replays_none c.args.version c.args.body.now c.args.self.now c.args.self.now
    (subst (IsDecodedAs c.args.version c.args.body.now) c.in-None.is c.in_ok-commit.ensures)
