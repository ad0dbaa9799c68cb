use Rattle.std.proofs.Common.{length, sym, ◌∙◌}
use Rattle.iot_backup.proofs.PairsLaws.{first_pairs, if_so, pairs_again, pairs_in_step, same_counts, second_pairs, synced_due}
use Rattle.iot_backup.proofs.twin.Twin.append.Goals as goal

pub append-requires-clause-not_due : goal.append-requires-clause-not_due
append-requires-clause-not_due g c =
    sym (synced_due g.D.Disk.medium c.args.self.now.first c.requires.synced.first (length c.args.body.now))
    ∙ c.requires.first_not_due

pub returns-in_err-append-clause-in_step : goal.returns-in_err-append-clause-in_step
returns-in_err-append-clause-in_step g c =
    if_so _ _ (λ s both. pairs_in_step _ _ _ c.args.body.now _ _ both.0 both.1) c.args.self.now.second
    (first_pairs g.D.Disk.medium c.args.self.now c.requires.synced c.args.body.now _ c.requires.second_not_due
    c.in_err-append.ensures.images)

pub returns-in_err-append-clause-again : goal.returns-in_err-append-clause-again
returns-in_err-append-clause-again g c = λ body.
    if_so _ _ (λ s both. pairs_again _ _ _ c.args.body.now _ _ both.0 both.1 body) c.args.self.now.second
    (first_pairs g.D.Disk.medium c.args.self.now c.requires.synced c.args.body.now _ c.requires.second_not_due
    c.in_err-append.ensures.images)

pub append-requires-in-Some-clause-not_due : goal.append-requires-in-Some-clause-not_due
append-requires-in-Some-clause-not_due g c =
    sym (synced_due g.D.Disk.medium c.in-Some.second (rw c.in-Some.is at c.requires.synced.second)
    (length c.args.body.now))
    ∙ (rw c.in-Some.is at c.requires.second_not_due)

pub returns-in-Some-clause-in_step : goal.returns-in-Some-clause-in_step
returns-in-Some-clause-in_step g c =
    let it = rw c.in-Some.is at c.requires.synced.second in
    let count = rw c.in-Some.is at c.requires.synced.count in
    let head = rw c.in-Some.is at c.requires.synced.header in
    pairs_in_step _ _ _ c.args.body.now _ _
    (same_counts g.D.Disk.medium c.args.self.now.first c.in-Some.second c.requires.synced.first it count)
    (second_pairs _ _ _ _ c.args.body.now _ _ head c.in_ok-append.ensures.appended c.append-in-Some.ensures.images
    c.append-in-Some.ensures.takes)

pub returns-in-Some-clause-again : goal.returns-in-Some-clause-again
returns-in-Some-clause-again g c = λ body.
    let it = rw c.in-Some.is at c.requires.synced.second in
    let count = rw c.in-Some.is at c.requires.synced.count in
    let head = rw c.in-Some.is at c.requires.synced.header in
    pairs_again _ _ _ c.args.body.now _ _
    (same_counts g.D.Disk.medium c.args.self.now.first c.in-Some.second c.requires.synced.first it count)
    (second_pairs _ _ _ _ c.args.body.now _ _ head c.in_ok-append.ensures.appended c.append-in-Some.ensures.images
    c.append-in-Some.ensures.takes) body
