use Rattle.std.proofs.Common.{◌≡◌, ℕ, Option, Some, None, Result, Err, subst, sym, ap, ◌∙◌}
use Rattle.iot_client.specs.Calls.{EndsBy, RefusesReply}
use Rattle.iot_client.specs.Ties.{IsTied}
use Rattle.iot_client.specs.declared.client.Client.{Client}
use Rattle.iot_client.specs.declared.fault.ClientFault.{ClientFault}
use Rattle.iot_client.specs.declared.fault.ClientFault.TheVariants.{BadReply}
use Rattle.iot_tests.proofs.refreshes.is_bad_at_its_end.Goals as goal

-- a reply that is bad leaves the client as it was
same_if_bad : {D X T : Type 0} (refusal : Option ClientFault) (Reads : Result X ℕ → Type 0) (old new : Client D)
    (answer : Result T ClientFault)
    (at : ℕ) → answer ≡ Err (BadReply at) → RefusesReply refusal Reads old new answer → new ≡ old
same_if_bad None Reads old new answer at is refuses = (subst (EndsBy Reads old new) is refuses).1
same_if_bad (Some fault) Reads old new answer at is refuses = refuses.1

pub returns-in-Err-BadReply-clause-tied : goal.returns-in-Err-BadReply-clause-tied
returns-in-Err-BadReply-clause-tied g c =
    let bad = c.in-Err-BadReply.is ∙ ap (λ (f : ClientFault). Err f) c.in-Err-BadReply.field-0-is in
    let same = same_if_bad _ _ _ _ c.take_objects.result c.in-Err-BadReply.at bad c.take_objects.ensures.refuses in
    subst (λ (client : Client g.row.D.Denot). IsTied g.D.Disk.medium client) (sym same) c.requires.tied
