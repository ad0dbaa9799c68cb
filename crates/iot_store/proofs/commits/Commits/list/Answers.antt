use Rattle.std.proofs.Common.{◌≡◌, [], ◌∷◌, ◌++◌, ◌+◌, false, length, ◌∙◌, sym, ap, arith, length-append}
use Rattle.std.specs.List.{list_any}
use Rattle.iot_store.specs.Numbers.{number_in}
use Rattle.iot_store.specs.States.{State, is_of}
use Rattle.iot_store.proofs.NumbersLaws.{indexed_push}
use Rattle.iot_store.proofs.commits.Commits.list.Goals as goal

pub invariant_of-self-in-Ok : goal.invariant_of-self-in-Ok
invariant_of-self-in-Ok c =
    let labels = c.self.inside.labels in
    let label = c.args.label in
    let pushed : c.push.new.self ≡ labels ++ label ∷ [] = c.in_ok-push.ensures.ok in
    let is_new : list_any (is_of label.client label.tid) labels ≡ false =
    ap (λ (s : State). list_any (is_of label.client label.tid) s.labels) c.self.view_is ∙ c.requires in
    let number : c.len-number.result ≡ length labels + 1 =
    c.len-number.ensures ∙ ap length pushed ∙ omega (arith, length-append labels (label ∷ [])) in
    record {
      finds = λ client tid.
          indexed_push c.self.inside.numbers c.insert.new.self labels label _ is_new number c.in-Ok.ensures.updates.0
          c.self.invariant.finds client tid
          ∙ sym (ap (λ ls. number_in ls client tid) pushed);
    }
