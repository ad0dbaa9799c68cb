use Rattle.std.proofs.Common.{refl, subst, sym}
use Rattle.iot_server.proofs.FaultsLaws.{asked_by, counts_named, counts_refused, lacked_by, lacking_by, stopped_by}
use Rattle.iot_server.proofs.LeavingLaws.{still_lacks}
use Rattle.iot_server.specs.Servers.{second_of}
use Rattle.iot_store.proofs.PartsLaws.{changes_map, changes_same, if_map}
use Rattle.iot_store.proofs.RestartLaws.{synced_starts}
use Rattle.iot_store.proofs.StandingLaws.{second_stays, store_stays}
use Rattle.iot_store.specs.Store as stores
use Rattle.iot_wire.specs.Messages.{IsMessage}
use Rattle.iot_wire.specs.Rules.{IsRequest}
use Rattle.iot_wire.specs.Spelling.{request_spelling}
use Rattle.iot_server.proofs.server.Server.handle.Goals as goal

-- ---- the bytes are no request

pub returns-in_err-asked-clause-restarts : goal.returns-in_err-asked-clause-restarts
returns-in_err-asked-clause-restarts g c = synced_starts g.D.Disk.medium c.args.self.now.store c.requires

pub returns-in_err-asked-clause-no_memory : goal.returns-in_err-asked-clause-no_memory
returns-in_err-asked-clause-no_memory g c = λ _.
    still_lacks g.D.Disk.medium c.args.self.now.store c.requires _ c.args.self.now.store refl refl

pub returns-in_err-asked-clause-faults : goal.returns-in_err-asked-clause-faults
returns-in_err-asked-clause-faults g c =
    counts_refused g.D.Disk.medium c.from_residual.result c.args.self.now.store c.in_err-asked.field-0.0
    c.from_residual.ensures.1

pub returns-in_err-asked-clause-second_arms : goal.returns-in_err-asked-clause-second_arms
returns-in_err-asked-clause-second_arms g c = changes_same _ (λ _. refl) (second_of c.args.self.now)

-- ---- the request has no reply

pub returns-in_err-reply-clause-restarts : goal.returns-in_err-reply-clause-restarts
returns-in_err-reply-clause-restarts g c = c.answer.ensures.leaves.restarts

pub returns-in_err-reply-clause-stopped : goal.returns-in_err-reply-clause-stopped
returns-in_err-reply-clause-stopped g c = λ is.
    asked_by (λ request same. subst (IsMessage IsRequest request_spelling c.args.request.now) (sym same) c.in_ok-asked.ensures.found)
    (c.answer.ensures.leaves.stopped
    (stopped_by c.answer.result c.from_residual-in_err-reply.result c.in_err-reply.field-0.0 c.in_err-reply.was
    c.from_residual-in_err-reply.ensures.1 is))

pub returns-in_err-reply-clause-no_memory : goal.returns-in_err-reply-clause-no_memory
returns-in_err-reply-clause-no_memory g c = λ is.
    lacked_by (λ request same. subst (IsMessage IsRequest request_spelling c.args.request.now) (sym same) c.in_ok-asked.ensures.found)
    (c.answer.ensures.leaves.no_memory
    (lacking_by c.answer.result c.from_residual-in_err-reply.result c.in_err-reply.field-0.0 c.in_err-reply.was
    c.from_residual-in_err-reply.ensures.1 is))

pub returns-in_err-reply-clause-faults : goal.returns-in_err-reply-clause-faults
returns-in_err-reply-clause-faults g c =
    counts_named g.D.Disk.medium c.answer.result c.from_residual-in_err-reply.result c.args.self.now.store c.answer.new.store
    c.in_err-reply.field-0.0 c.in_err-reply.was c.from_residual-in_err-reply.ensures.1 c.answer.ensures.leaves.faults

pub returns-in_err-reply-clause-arms : goal.returns-in_err-reply-clause-arms
returns-in_err-reply-clause-arms g c = c.answer.ensures.leaves.arms

pub returns-in_err-reply-clause-second_arms : goal.returns-in_err-reply-clause-second_arms
returns-in_err-reply-clause-second_arms g c = c.answer.ensures.leaves.second_arms

-- ---- it has one

pub returns-clause-replies : goal.returns-clause-replies
returns-clause-replies g c = record {
  request = _;
  is = c.in_ok-asked.ensures.found;
  answered = c.in_ok-reply.ensures.answered.first;
}

pub returns-clause-second_replies : goal.returns-clause-second_replies
returns-clause-second_replies g c =
    changes_map _ _ (λ was now answered. record { request = _; is = c.in_ok-asked.ensures.found; answered = answered })
    (second_of c.args.self.now) (stores.second_of c.answer.new.store) c.in_ok-reply.ensures.answered.second

pub returns-clause-images : goal.returns-clause-images
returns-clause-images g c = (store_stays g.D.Disk.medium c.answer.new.store c.in_ok-reply.ensures.synced).stands

pub returns-clause-second_images : goal.returns-clause-second_images
returns-clause-second_images g c =
    if_map _ _ (λ s it. it.stands) (stores.second_of c.answer.new.store)
    (second_stays g.D.Disk.medium c.answer.new.store c.in_ok-reply.ensures.synced)

pub returns-clause-restarts : goal.returns-clause-restarts
returns-clause-restarts g c = c.answer.ensures.leaves.restarts

pub returns-clause-faults : goal.returns-clause-faults
returns-clause-faults g c = c.in_ok-reply.ensures.leaves.faults

pub returns-clause-arms : goal.returns-clause-arms
returns-clause-arms g c = c.answer.ensures.leaves.arms

pub returns-clause-second_arms : goal.returns-clause-second_arms
returns-clause-second_arms g c = c.answer.ensures.leaves.second_arms
