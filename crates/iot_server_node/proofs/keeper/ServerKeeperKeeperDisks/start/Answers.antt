use Rattle.iot_server_node.proofs.{KeepersLaws.stands_for, PairsLaws.may_start}
use Rattle.iot_server_node.proofs.StartingLaws.{alone_comes, alone_fails, is_there, pair_comes, pair_fails}
use Rattle.iot_server_node.proofs.keeper.ServerKeeperKeeperDisks.start.Goals as goal

-- ---- from a disk and its backup

pub start_pair-requires-clause-together : goal.start_pair-requires-clause-together
start_pair-requires-clause-together g c short state stands step =
    (may_start g.D.Disk.medium (rw c.in-Some.is at c.requires.can)).together short state stands

pub returns-in-Ok-clause-comes : goal.returns-in-Ok-clause-comes
returns-in-Ok-clause-comes g c =
    let it = c.in-Ok.ensures in
    let s = is_there _ it.pair in
    pair_comes g.D.Disk.medium g.met.D.Disk.reads_is_image c.args.disk c.requires.only c.in-Ok.server
    it.synced it.stands it.only (record { stands = it.images; same = it.only_read_images; opens = it.opens }) it.first_arms c.in-Some.is s.0
    s.1 (λ state was one other. rw s.1 at (it.second_images state was one other)) (rw s.1 at it.second_encodes) it.steady.0
    (rw s.1 at it.steady.1)

pub returns-in-Disk-clause-fails : goal.returns-in-Disk-clause-fails
returns-in-Disk-clause-fails g c =
    let it = c.in-Err.ensures in
    let takes = it.never _ (stands_for g.D.Disk.medium _ c.requires.can).1
    (may_start g.D.Disk.medium (rw c.in-Some.is at c.requires.can)).follows.step in
    pair_fails g.D.Disk.medium g.met.D.Disk.reads_is_image c.args.disk c.requires.only c.in-Some.backup c.in-Some.is c.in-Err.disk
    c.in-Err.backup c.in-Disk.fault (rw c.in-Disk.is at takes)
    (record { stands = it.images; same = it.only_read_images; opens = it.opens })
    (record { brings = it.second_images; encodes = it.second_encodes; follows = it.follows }) (rw c.in-Disk.is at it.cause) it.first_arms

-- ---- from a disk that is alone

pub returns-in-Ok-start-clause-comes : goal.returns-in-Ok-start-clause-comes
returns-in-Ok-start-clause-comes g c =
    let it = c.in-Ok-start.ensures in
    alone_comes g.D.Disk.medium g.met.D.Disk.reads_is_image c.args.disk c.requires.only c.in-Ok-start.server
    it.synced it.stands it.only (record { stands = it.images; same = it.only_read_images; opens = it.opens }) it.arms c.in-None.is it.alone
    it.steady

pub returns-in-Err-start-clause-fails : goal.returns-in-Err-start-clause-fails
returns-in-Err-start-clause-fails g c =
    let it = c.in-Err-start.ensures in
    alone_fails g.D.Disk.medium g.met.D.Disk.reads_is_image c.args.disk c.requires.only c.in-None.is c.in-Err-start.disk
    c.in-Err-start.fault (it.never _ (stands_for g.D.Disk.medium _ c.requires.can).1)
    (record { stands = it.images; same = it.only_read_images; opens = it.opens }) it.cause it.arms
