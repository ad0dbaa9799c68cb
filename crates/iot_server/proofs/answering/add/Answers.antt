use Rattle.std.proofs.Common.{◌≡◌, ◌+◌, ℕ, inr, refl, subst}
use Rattle.iot_server.proofs.LeavingLaws.{counts_by, err_by, leaves_lacking}
use Rattle.iot_server.proofs.RepliesLaws.{grown_by, made}
use Rattle.iot_server.specs.Faults.{CutsOff}
use Rattle.iot_slots.specs.Slots.{state_on}
use Rattle.iot_store.proofs.NumbersLaws.{is_new_from}
use Rattle.iot_store.proofs.PartsLaws.{changes_map}
use Rattle.iot_store.specs.Store.{first_of, second_of, state_of, encoded_on}
use Rattle.iot_wire.specs.Messages.{IsMessage}
use Rattle.iot_wire.specs.Rules.{IsReply}
use Rattle.iot_wire.specs.Spelling.{reply_spelling}
use Rattle.iot_wire.specs.declared.replies.Reply.TheVariants.{Committed}
use Rattle.iot_wire.specs.declared.requests.Request.{Request}
use Rattle.iot_wire.specs.declared.requests.Request.TheVariants.{Commit}
use Rattle.iot_server.proofs.answering.add.Goals as goal

pub commit_recorded-requires-clause-follows : goal.commit_recorded-requires-clause-follows
commit_recorded-requires-clause-follows g c = record {
  is_new = is_new_from (state_of c.args.store.now).labels c.args.commit.label.client c.args.commit.label.tid c.requires.new;
  holds = c.requires.holds;
  fit = c.requires.fit;
}

pub returns-clause-answered : goal.returns-clause-answered
returns-clause-answered g c =
    let done = c.in_ok-commit_recorded.ensures in
    let spelled =
    subst (λ (n : ℕ). IsMessage IsReply reply_spelling c.in_ok-bytes.bytes.items (Committed (n + 1))) c.number.ensures
    c.in_ok-bytes.ensures in
    record {
      first = made (state_of c.args.store.now) (encoded_on g.D.Disk.medium c.args.store.now) _ c.args.commit.label c.args.commit.access
          c.args.commit.lines c.requires.new _ _ c.requires.holds c.requires.fit done.state (grown_by done.recorded) spelled;
      second = changes_map _ _
          (λ was now grown.
          made (state_of c.args.store.now) (state_on g.D.Disk.medium was) _ c.args.commit.label c.args.commit.access
          c.args.commit.lines c.requires.new _ _ c.requires.holds c.requires.fit done.state (grown_by grown) spelled)
          (second_of c.args.store.now) (second_of c.commit_recorded.new.self) done.second_recorded;
    }

pub returns-clause-leaves : goal.returns-clause-leaves
returns-clause-leaves g c =
    let done = c.in_ok-commit_recorded.ensures in
    record {
      stopped = λ is. absurd cc;
      no_memory = λ is. absurd cc;
      restarts = done.restarts;
      faults = done.faults;
      arms = done.arms;
      second_arms = done.second_arms;
    }

pub returns-in_err-commit_recorded-clause-leaves : goal.returns-in_err-commit_recorded-clause-leaves
returns-in_err-commit_recorded-clause-leaves g c =
    let done = c.commit_recorded.ensures in
    let fault = c.in_err-commit_recorded.field-0.0 in
    let handed = c.from_residual-in_err-commit_recorded.result in
    let cut : CutsOff g.D.Disk.medium
    (λ (asked : Request). asked ≡ Commit c.args.commit.label c.args.commit.access c.args.commit.lines) c.args.store.now
    c.commit_recorded.new.self = record {
      label = c.args.commit.label;
      access = c.args.commit.access;
      lines = c.args.commit.lines;
      asked = refl;
      follows = record {
        is_new = is_new_from (state_of c.args.store.now).labels c.args.commit.label.client c.args.commit.label.tid c.requires.new;
        holds = c.requires.holds;
        fit = c.requires.fit;
      };
      either = done.images;
      encodes = done.encodes;
      second_either = done.second_images;
      second_encodes = done.second_encodes;
    } in
    record {
      stopped = λ is. cut;
      no_memory = λ is. let lacks =
          err_by c.commit_recorded.result handed fault _ c.in_err-commit_recorded.was c.from_residual-in_err-commit_recorded.ensures.1 is in
          record { alone = done.no_memory lacks; either = inr cut; second = done.second_memory lacks };
      restarts = done.restarts;
      faults = counts_by c.commit_recorded.result g.D.Disk.medium handed fault (first_of c.args.store.now)
          (first_of c.commit_recorded.new.self) (second_of c.args.store.now) (second_of c.commit_recorded.new.self)
          c.in_err-commit_recorded.was c.from_residual-in_err-commit_recorded.ensures.1 done.faults;
      arms = done.arms;
      second_arms = done.second_arms;
    }

pub returns-in_err-bytes-clause-leaves : goal.returns-in_err-bytes-clause-leaves
returns-in_err-bytes-clause-leaves g c =
    leaves_lacking g.D.Disk.medium c.args.store.now c.requires.synced _ c.args.store.now refl refl
    c.from_residual.result c.from_residual.ensures.1
