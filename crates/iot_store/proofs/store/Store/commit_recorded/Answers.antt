use Rattle.iot_durable.specs.Pair as durable
use Rattle.iot_store.proofs.NotingLaws.{counts_handed, counts_made, lacks_handed}
use Rattle.iot_store.proofs.RestartLaws.{noted_starts}
use Rattle.iot_store.proofs.store.Store.commit_recorded.Goals as goal

pub returns-in_err-note_spelled-clause-no_memory : goal.returns-in_err-note_spelled-clause-no_memory
returns-in_err-note_spelled-clause-no_memory g c = λ is.
    c.note_spelled.ensures.no_memory
    (lacks_handed c.note_spelled.result c.from_residual.result c.in_err-note_spelled.field-0.0
    c.in_err-note_spelled.was c.from_residual.ensures.1 is)

pub returns-in_err-note_spelled-clause-second_memory : goal.returns-in_err-note_spelled-clause-second_memory
returns-in_err-note_spelled-clause-second_memory g c = λ is.
    c.note_spelled.ensures.second_memory
    (lacks_handed c.note_spelled.result c.from_residual.result c.in_err-note_spelled.field-0.0
    c.in_err-note_spelled.was c.from_residual.ensures.1 is)

pub returns-in_err-note_spelled-clause-restarts : goal.returns-in_err-note_spelled-clause-restarts
returns-in_err-note_spelled-clause-restarts g c =
    let done = c.note_spelled.ensures in
    noted_starts g.D.Disk.medium c.args.self.now c.requires.synced c.args.commit c.requires.follows
    (durable.first_of c.note_spelled.new.self) (durable.second_of c.note_spelled.new.self) done.goes done.second_goes done.follows

pub returns-in_err-note_spelled-clause-faults : goal.returns-in_err-note_spelled-clause-faults
returns-in_err-note_spelled-clause-faults g c =
    let done = c.note_spelled.ensures in
    counts_handed g.D.Disk.medium (durable.first_of c.args.self.now.durable) (durable.first_of c.note_spelled.new.self)
    (durable.second_of c.args.self.now.durable) (durable.second_of c.note_spelled.new.self) _ done.second_arms
    c.note_spelled.result c.from_residual.result c.in_err-note_spelled.field-0.0 c.in_err-note_spelled.was
    c.from_residual.ensures.1 done.faults

pub returns-clause-restarts : goal.returns-clause-restarts
returns-clause-restarts g c =
    let done = c.note_spelled.ensures in
    noted_starts g.D.Disk.medium c.args.self.now c.requires.synced c.args.commit c.requires.follows
    (durable.first_of c.note_spelled.new.self) (durable.second_of c.note_spelled.new.self) done.goes done.second_goes done.follows

pub returns-clause-faults : goal.returns-clause-faults
returns-clause-faults g c =
    let done = c.in_ok-note_spelled.ensures in
    counts_made g.D.Disk.medium (durable.first_of c.args.self.now.durable) (durable.first_of c.note_spelled.new.self)
    (durable.second_of c.args.self.now.durable) (durable.second_of c.note_spelled.new.self) _ done.second_arms done.faults
