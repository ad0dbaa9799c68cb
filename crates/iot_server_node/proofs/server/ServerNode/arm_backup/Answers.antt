use Rattle.iot_node.proofs.PostsLaws.{down_counts, up_counts}
use Rattle.iot_server_node.proofs.{BackupLaws.arms_by, Common.disks_in, Common.refl, Common.◌∙◌}
use Rattle.iot_server_node.proofs.server.ServerNode.arm_backup.Goals as goal

pub returns-in-Up-clause-step : goal.returns-in-Up-clause-step
returns-in-Up-clause-step g c =
    let it = c.arm_other.ensures in
    rw c.in-Up.is (arms_by g.D.Disk.medium c.args.calls c.args.pick _ _ (disks_in c.in-Up.keeper) (disks_in c.arm_other.new.self) it.arms
    refl refl (λ names node n counts same here. record {
      post = up_counts _ _ _ it.stands (same here.post.counts) here.post;
      known = here.known;
      answered = (λ i. (it.live i).requests) ∙ here.answered;
    }))

pub returns-in-Down-clause-step : goal.returns-in-Down-clause-step
returns-in-Down-clause-step g c =
    let it = c.arm_other-in-Down.ensures in
    rw c.in-Down.is (arms_by g.D.Disk.medium c.args.calls c.args.pick _ _ c.in-Down.fallen.disk c.arm_other-in-Down.new.self it.arms
    refl refl (λ names node n counts same here.
    record { post = down_counts _ _ _ it.images (same here.post.counts) here.post; known = here.known; answered = tt }))
