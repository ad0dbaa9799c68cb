use Rattle.std.proofs.Common.{◌≡◌, [], ◌∷◌, None, refl}
use Rattle.iot_acts.specs.Guards.{IsGuarded}
use Rattle.iot_acts.specs.Traces.{ActsHold, after_update}
use Rattle.iot_exec.specs.Execs.{IsNextAt, RunsOn, place, kept_by, next_miss}
use Rattle.iot_client.proofs.DoingLaws.{did_act, first_misses, second_misses}
use Rattle.iot_client.proofs.interpreter.Interpreter.decide.Goals as goal

pub returns-then-not-first : goal.returns-then-not-first
returns-then-not-first c =
    let self = c.args.self.now in
    let did = c.in_ok-act.ensures in (
      second_misses c.args.first _ c.if-not-first.true,
      did_act self (record self { exec = c.decide.new.self }) c.args.view.now c.in_ok-act.act c.done.result refl did.next did.runs did.holds
          did.guarded c.done.ensures,
    )

pub returns-in-Acted : goal.returns-in-Acted
returns-in-Acted c =
    let self = c.args.self.now in
    let t = c.args.view.now in
    let act = c.in-Acted.act in
    let exec = c.decide_if_known.new.self in
    let misses : None ≡ next_miss (kept_by self.exec) (place self.exec) t = rw c.in-Acted.is at c.in_ok-act-2.ensures.misses in
    let next : IsNextAt (kept_by self.exec) (place self.exec) t act (place exec) (after_update t act.update) =
    rw c.in-Acted.is at c.in_ok-act-2.ensures.next in
    let runs : RunsOn self.exec t act exec (after_update t act.update) = rw c.in-Acted.is at c.in_ok-act-2.ensures.runs in
    let holds : ActsHold t (act ∷ []) = rw c.in-Acted.is at c.in_ok-act-2.ensures.holds in
    let guarded : IsGuarded act = rw c.in-Acted.is at c.in_ok-act-2.ensures.guarded in (
      first_misses c.args.first None _ c.if-not-first.false misses,
      did_act self (record self { exec = exec }) t act c.done-in-Acted.result refl next runs holds guarded c.done-in-Acted.ensures,
    )
