use Rattle.iot_access.specs.Access.{lines_of}
use Rattle.{iot_client.specs.Messages.IsAsked, iot_client.specs.Messages.IsSubmission, iot_kept.specs.Changes.IsSubmittedIn}
use Rattle.iot_laptop.proofs.Common.{Item, List, State, acts_output, ap, head_of, option_copied, state_in, sym, ℕ, ◌∙◌}
use Rattle.iot_laptop.{proofs.FindingLaws.first_of, specs.Calls.access_in, specs.Calls.acts_in, specs.Calls.label_in}
use Rattle.iot_queue.specs.declared.items.Stage.{Stage}
use Rattle.iot_wire.specs.{Messages.IsMessage, Rules.IsRequest, Spelling.request_spelling, declared.requests.Request.TheVariants.Commit}
use Rattle.iot_client.specs.declared.asks.Ask.TheVariants as asks
use Rattle.iot_queue.specs.declared.items.Stage.TheVariants as stages
use Rattle.iot_laptop.proofs.laptop.Laptop.need.Goals as goal

-- one that asks for a commit is submitted, and asks for that of what it submits
asked_in : (place : ℕ) (s : State) (item : Item) (stage : Stage) (bytes : List ℕ)
    → IsAsked place s.held s.access item stage (asks.Commit bytes) → IsSubmittedIn stage
    × IsMessage IsRequest request_spelling bytes (Commit (label_in place item stage) (access_in s item stage)
    (lines_of (acts_in item stage)))
asked_in place s item stages.Waiting bytes it = (tt, it)
asked_in place s item (stages.Resolved done) bytes it = (tt, it)
asked_in place s item other bytes it = absurd it

pub returns-in_ok-output_of-in-Ok-Commit : goal.returns-in_ok-output_of-in-Ok-Commit
returns-in_ok-output_of-in-Ok-Commit g c =
    let laptop = c.args.self.now in
    let item = c.in-Some.item.now in
    let head =
    sym (ap (λ (s : State). head_of s.items) c.client.ensures.state) ∙ ap head_of (sym c.queue.ensures) ∙ sym c.head.ensures
    ∙ ap option_copied c.in-Some.is in
    let first = first_of (state_in laptop).items item head in
    let client = c.client-2.ensures in
    let request : IsSubmission laptop.place (state_in laptop).held (state_in laptop).access (state_in laptop).items
    (asks.Commit c.into_bytes.result.items) =
    rw (c.into_bytes.ensures, sym client.place, sym client.state) (rw c.in-Ok-Commit.field-0-is at c.in-Ok-Commit.ensures.request) in
    let asked = asked_in laptop.place (state_in laptop) item item.stage _ (rw first at request) in
    rw first (record {
      submitted = asked.0;
      asked = asked.1;
      transaction = c.transaction.ensures;
      output = c.in_ok-output_of-in-Ok-Commit.ensures ∙ ap acts_output c.submitted.ensures;
      way = c.way_of.ensures laptop.place;
    })
