use Rattle.iot_backup.proofs.PairsLaws.{counts_again, counts_in_step, each_counts, first_counts, if_so, same_counts, second_counts}
use Rattle.iot_backup.proofs.PairsLaws.{synced_each}
use Rattle.iot_backup.proofs.twin.Twin.checkpoint.Goals as goal

pub returns-in-Some-clause-in_step : goal.returns-in-Some-clause-in_step
returns-in-Some-clause-in_step g c =
    let it = rw c.in-Some.is at c.requires.synced.second in
    let count = rw c.in-Some.is at c.requires.synced.count in
    let head = rw c.in-Some.is at c.requires.synced.header in
    let same = same_counts g.D.Disk.medium c.args.self.now.first c.in-Some.slots c.requires.synced.first it count in
    let all = each_counts _ _ _ _ same (synced_each g.D.Disk.medium c.args.self.now.first c.requires.synced.first) in
    let also = second_counts _ _ _ _ c.args.body.now head c.checkpoint.ensures.images in
    counts_in_step _ _ _ _ all also

pub returns-in-Some-clause-again : goal.returns-in-Some-clause-again
returns-in-Some-clause-again g c = λ body.
    let it = rw c.in-Some.is at c.requires.synced.second in
    let count = rw c.in-Some.is at c.requires.synced.count in
    let head = rw c.in-Some.is at c.requires.synced.header in
    let same = same_counts g.D.Disk.medium c.args.self.now.first c.in-Some.slots c.requires.synced.first it count in
    let all = each_counts _ _ _ _ same (synced_each g.D.Disk.medium c.args.self.now.first c.requires.synced.first) in
    let also = second_counts _ _ _ _ c.args.body.now head c.checkpoint.ensures.images in
    counts_again _ _ _ _ all also body

pub returns-else-second-clause-in_step : goal.returns-else-second-clause-in_step
returns-else-second-clause-in_step g c =
    if_so _ _ (λ s both. counts_in_step _ _ _ _ both.0 both.1) c.args.self.now.second
    (first_counts g.D.Disk.medium c.args.self.now c.requires.synced c.args.body.now _ c.checkpoint-else-second.ensures.images)

pub returns-else-second-clause-again : goal.returns-else-second-clause-again
returns-else-second-clause-again g c = λ body.
    if_so _ _ (λ s both. counts_again _ _ _ _ both.0 both.1 body) c.args.self.now.second
    (first_counts g.D.Disk.medium c.args.self.now c.requires.synced c.args.body.now _ c.checkpoint-else-second.ensures.images)
