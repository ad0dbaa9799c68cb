use Rattle.std.proofs.Common.{take}
use Rattle.iot_audit.proofs.ScriptsLaws.{all_named, event_known, event_passed, event_put, one_more}
use Rattle.iot_audit.proofs.scripts.Scripts.of.Goals as goal
use Rattle.iot_audit.proofs.scripts.Scripts.of.Goals.{in-Script+in_ok-script+then-not-contains_key+in-Ok+in-Ok+in-Some-1}
use Rattle.iot_audit.proofs.scripts.Scripts.of.Goals.{in-Script+in_ok-script+then-not-contains_key+in-Ok+in-Ok+in-None-1}
use Rattle.iot_audit.proofs.scripts.Scripts.of.Goals.{in-Script+in_ok-script+then-not-contains_key+in-Ok+in-Err-1}
use Rattle.iot_audit.proofs.scripts.Scripts.of.Goals.{in-Script+in_ok-script+else-not-contains_key, in_default}

pub events-preserved : goal.events-preserved
events-preserved c =
    one_more (λ script. script.value) c.args.events.now c.events.event-index c.match-event.by_name c.event-item.result c.events-test.true
    c.event-item.is
    (elim c.match-event.branch [
      | in-Script+in_ok-script+then-not-contains_key+in-Ok+in-Ok+in-Some-1 w ↦
          event_put _ (take c.events.event-index c.args.events.now) c.events.by_name c.events.invariant c.event-item.result
          c.match-event.by_name w.in-Script.name w.in-Script.script w.in-Script.is w.shared.ensures.script w.contains_key.result
          w.contains_key.ensures w.if-not-contains_key.true w.in_ok-script.script w.in_ok-script.ensures.value w.insert.new.self
          w.in-Ok.ensures.updates.0 w.by_name-is
      | in-Script+in_ok-script+then-not-contains_key+in-Ok+in-Ok+in-None-1 w ↦
          event_put _ (take c.events.event-index c.args.events.now) c.events.by_name c.events.invariant c.event-item.result
          c.match-event.by_name w.in-Script.name w.in-Script.script w.in-Script.is w.shared.ensures.script w.contains_key.result
          w.contains_key.ensures w.if-not-contains_key.true w.in_ok-script.script w.in_ok-script.ensures.value w.insert.new.self
          w.in-Ok.ensures.updates.0 w.by_name-is
      | in-Script+in_ok-script+then-not-contains_key+in-Ok+in-Err-1 w ↦
          event_put _ (take c.events.event-index c.args.events.now) c.events.by_name c.events.invariant c.event-item.result
          c.match-event.by_name w.in-Script.name w.in-Script.script w.in-Script.is w.shared.ensures.script w.contains_key.result
          w.contains_key.ensures w.if-not-contains_key.true w.in_ok-script.script w.in_ok-script.ensures.value w.insert.new.self
          w.in-Ok.ensures.updates.0 w.by_name-is
      | in-Script+in_ok-script+else-not-contains_key w ↦
          event_known _ (take c.events.event-index c.args.events.now) c.events.by_name c.events.invariant c.event-item.result
          c.match-event.by_name w.in-Script.name w.in-Script.script w.in-Script.is w.shared.ensures.script w.contains_key.result
          w.contains_key.ensures w.if-not-contains_key.false w.by_name-is
      | in_default w ↦
          event_passed _ (take c.events.event-index c.args.events.now) c.events.by_name c.events.invariant c.event-item.result
          c.match-event.by_name w.in_default.not-Script w.by_name-is
    ])

pub returns : goal.returns
returns c =
    let all = all_named (λ script. script.value) c.args.events.now c.events.event-index c.events.by_name c.events-test.false
    c.events.invariant in
    record { named = all.named; each = all.each }
