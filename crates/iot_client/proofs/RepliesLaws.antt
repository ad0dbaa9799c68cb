-- What is read of bytes that are the spelling of a reply, and how a call ends by what it reads.
use Rattle.std.proofs.Common.{◌≡◌, ℕ, ◌<◌, ◌^◌, List, length, Option, None, ap, refl, sym, subst}
use Rattle.std.specs.Prelude.{IfErr, IsErrAnd, Result, Ok, Err}
use Rattle.iot_stamp.specs.Stamps.{Stamps, nodes_of, nothing_held}
use Rattle.iot_tree.specs.Tree.{Nodes, IsTree}
use Rattle.iot_views.specs.Rules.{IsTreeOfRows}
use Rattle.iot_kept.proofs.BringingLaws.{brought_spelled, nothing_rows}
use Rattle.iot_tree.specs.declared.changes.Changes.{Changes}
use Rattle.iot_wire.proofs.MessagesLaws.{whole_again}
use Rattle.iot_wire.proofs.SpellingLaws.{reply_laws}
use Rattle.iot_wire.specs.declared.replies.Reply.TheVariants.{Objects}
use Rattle.iot_client.specs.Calls.{EndsBy, RefusesReply}
use Rattle.iot_client.specs.Faults.{MayFail}
use Rattle.iot_client.specs.Messages.{objects, objects_in, noted, Makes, no_changes, MakesOf, Reads, ReadsAs, ReadsObjects, ReadsNoted}
use Rattle.iot_client.specs.declared.client.Client.{Client}
use Rattle.iot_client.specs.declared.fault.ClientFault.{ClientFault}
use Rattle.iot_client.specs.declared.fault.ClientFault.TheVariants.{NoMemory, Stopped, Busy, Pending, Idle, NotAtEnd, Nothing}
use Rattle.iot_client.specs.declared.fault.ClientFault.TheVariants.{NotManual, BadReply}

pub only_objects : (bytes : List ℕ) → length bytes < 2 ^ 64 → ReadsObjects bytes
only_objects bytes short changes is = ap objects (whole_again _ _ _ reply_laws bytes (Objects changes) short is)

pub only_noted : (bytes : List ℕ) → length bytes < 2 ^ 64 → ReadsNoted bytes
only_noted bytes short said is = ap noted (whole_again _ _ _ reply_laws bytes said short is)

-- ---- how a call ends

-- a reply that brings no changes makes nothing
pub makes_none : (Passes : Nodes → Type 0) (held : Stamps) (reply : List ℕ) (fault : ClientFault)
    → Reads {X = Changes} (objects_in reply) (Err fault) → ReadsAs (Makes Passes held reply) (Err fault)
makes_none Passes held reply NoMemory reads = tt
makes_none Passes held reply Stopped reads = reads
makes_none Passes held reply Busy reads = reads
makes_none Passes held reply Pending reads = reads
makes_none Passes held reply Idle reads = reads
makes_none Passes held reply NotAtEnd reads = reads
makes_none Passes held reply Nothing reads = reads
makes_none Passes held reply NotManual reads = reads
makes_none Passes held reply (BadReply at) reads = no_changes at reads

-- what is not read ends the call, and changes nothing
pub ends_unread : {D X : Type 0} (T : Type 0) (As : Result X ℕ → Type 0) (client : Client D) (fault : ClientFault)
    → ReadsAs As (Err fault) → EndsBy {T = T} As client client (Err fault)
ends_unread T As client NoMemory reads = tt
ends_unread T As client Stopped reads = absurd reads
ends_unread T As client Busy reads = reads
ends_unread T As client Pending reads = reads
ends_unread T As client Idle reads = reads
ends_unread T As client NotAtEnd reads = reads
ends_unread T As client Nothing reads = reads
ends_unread T As client NotManual reads = reads
ends_unread T As client (BadReply at) reads = (reads, refl)

module _ {D X T : Type 0} (As : Result X ℕ → Type 0) where
  -- what is read can only be stopped
  pub ends_read : (old new : Client D) (x : X) (result : Result T ClientFault) → As (Ok x) → IfErr result MayFail → EndsBy As old new result
  ends_read old new x (Ok value) reads fails = (x, reads)
  ends_read old new x (Err NoMemory) reads fails = tt
  ends_read old new x (Err Stopped) reads fails = (x, reads)
  ends_read old new x (Err Busy) reads fails = fails
  ends_read old new x (Err Pending) reads fails = fails
  ends_read old new x (Err Idle) reads fails = fails
  ends_read old new x (Err NotAtEnd) reads fails = fails
  ends_read old new x (Err Nothing) reads fails = fails
  ends_read old new x (Err NotManual) reads fails = fails
  ends_read old new x (Err (BadReply at)) reads fails = absurd fails

-- a fault of the reply is handed on
module _ (Passes : Nodes → Type 0) (held : Stamps) (reply : List ℕ) (fault : ClientFault)
    (reads : Reads {X = Changes} (objects_in reply) (Err fault)) where
  pub makes_on : (outer : Result Stamps ClientFault) → IsErrAnd outer (λ other. other ≡ fault) → ReadsAs (Makes Passes held reply) outer
  makes_on (Ok value) is = absurd is
  makes_on (Err other) is =
      subst (λ (f : ClientFault). ReadsAs (Makes Passes held reply) (Err f)) (sym is) (makes_none Passes held reply fault reads)

  pub refuses_on : {D T : Type 0} (client : Client D) (refusal : Option ClientFault) (outer : Result T ClientFault) → None ≡ refusal
      → IsErrAnd outer (λ other. other ≡ fault) → RefusesReply refusal (Makes Passes held reply) client client outer
  refuses_on client refusal (Ok value) none is = absurd is
  refuses_on {T = T} client refusal (Err other) none is =
      subst (λ (r : Option ClientFault). RefusesReply {T = T} r (Makes Passes held reply) client client (Err other)) none
      (ends_unread T (Makes Passes held reply) client other (makes_on (Err other) is))

-- ---- the whole tree that a reply makes of nothing

-- it has a spelling
pub whole_rows : {reply : List ℕ} {held : Stamps} → MakesOf reply held → IsTreeOfRows (nodes_of held)
whole_rows it =
    let tree = subst (λ (t : Stamps). IsTree (nodes_of t)) it.is it.tree in
    subst (λ (t : Stamps). IsTreeOfRows (nodes_of t)) (sym it.is) (brought_spelled nothing_held it.changes nothing_rows it.spelled.value tree)
