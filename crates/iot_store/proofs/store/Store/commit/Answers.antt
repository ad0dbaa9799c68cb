use Rattle.std.proofs.Common.{refl}
use Rattle.iot_durable.specs.Pair as durable
use Rattle.iot_store.proofs.NotingLaws.{counts_handed, counts_made, counts_still, lacks_handed, still_either, still_goes}
use Rattle.iot_store.proofs.NotingLaws.{second_still_either, second_still_goes, second_still_stands}
use Rattle.iot_store.proofs.PartsLaws.{changes_same}
use Rattle.iot_store.proofs.RestartLaws.{noted_starts, synced_starts}
use Rattle.iot_store.proofs.StandingLaws.{store_stays}
use Rattle.iot_store.proofs.store.Store.commit.Goals as goal

-- ---- the commit was not copied

pub returns-in_err-commit-clause-images : goal.returns-in_err-commit-clause-images
returns-in_err-commit-clause-images g c = still_either g.D.Disk.medium c.args.self.now c.requires.synced _

pub returns-in_err-commit-clause-encodes : goal.returns-in_err-commit-clause-encodes
returns-in_err-commit-clause-encodes g c = still_goes g.D.Disk.medium c.args.self.now c.requires.synced _

pub returns-in_err-commit-clause-no_memory : goal.returns-in_err-commit-clause-no_memory
returns-in_err-commit-clause-no_memory g c = λ _ _. store_stays g.D.Disk.medium c.args.self.now c.requires.synced

pub returns-in_err-commit-clause-second_images : goal.returns-in_err-commit-clause-second_images
returns-in_err-commit-clause-second_images g c = second_still_either g.D.Disk.medium c.args.self.now c.requires.synced _

pub returns-in_err-commit-clause-second_encodes : goal.returns-in_err-commit-clause-second_encodes
returns-in_err-commit-clause-second_encodes g c = second_still_goes g.D.Disk.medium c.args.self.now c.requires.synced _

pub returns-in_err-commit-clause-second_memory : goal.returns-in_err-commit-clause-second_memory
returns-in_err-commit-clause-second_memory g c = λ _. second_still_stands g.D.Disk.medium c.args.self.now c.requires.synced

pub returns-in_err-commit-clause-restarts : goal.returns-in_err-commit-clause-restarts
returns-in_err-commit-clause-restarts g c = synced_starts g.D.Disk.medium c.args.self.now c.requires.synced

pub returns-in_err-commit-clause-faults : goal.returns-in_err-commit-clause-faults
returns-in_err-commit-clause-faults g c =
    counts_still g.D.Disk.medium c.from_residual.result (durable.first_of c.args.self.now.durable)
    (durable.second_of c.args.self.now.durable) c.from_residual.ensures.1

pub returns-in_err-commit-clause-second_arms : goal.returns-in_err-commit-clause-second_arms
returns-in_err-commit-clause-second_arms g c = changes_same _ (λ _. refl) (durable.second_of c.args.self.now.durable)

-- ---- it was not noted

pub returns-in_err-note-clause-images : goal.returns-in_err-note-clause-images
returns-in_err-note-clause-images g c = rw c.in_ok-commit.ensures at c.note.ensures.images

pub returns-in_err-note-clause-encodes : goal.returns-in_err-note-clause-encodes
returns-in_err-note-clause-encodes g c = rw c.in_ok-commit.ensures at c.note.ensures.goes

pub returns-in_err-note-clause-no_memory : goal.returns-in_err-note-clause-no_memory
returns-in_err-note-clause-no_memory g c = λ is.
    c.note.ensures.no_memory
    (lacks_handed c.note.result c.from_residual-in_err-note.result c.in_err-note.field-0.0 c.in_err-note.was
    c.from_residual-in_err-note.ensures.1 is)

pub returns-in_err-note-clause-second_images : goal.returns-in_err-note-clause-second_images
returns-in_err-note-clause-second_images g c = rw c.in_ok-commit.ensures at c.note.ensures.second_images

pub returns-in_err-note-clause-second_encodes : goal.returns-in_err-note-clause-second_encodes
returns-in_err-note-clause-second_encodes g c = rw c.in_ok-commit.ensures at c.note.ensures.second_goes

pub returns-in_err-note-clause-second_memory : goal.returns-in_err-note-clause-second_memory
returns-in_err-note-clause-second_memory g c = λ is.
    c.note.ensures.second_memory
    (lacks_handed c.note.result c.from_residual-in_err-note.result c.in_err-note.field-0.0 c.in_err-note.was
    c.from_residual-in_err-note.ensures.1 is)

pub returns-in_err-note-clause-restarts : goal.returns-in_err-note-clause-restarts
returns-in_err-note-clause-restarts g c =
    let done = c.note.ensures in
    noted_starts g.D.Disk.medium c.args.self.now c.requires.synced
    (record { label = c.args.label; access = c.args.access.now; lines = c.args.lines.now }) c.requires.follows
    (durable.first_of c.note.new.self) (durable.second_of c.note.new.self) (rw c.in_ok-commit.ensures at done.goes)
    (rw c.in_ok-commit.ensures at done.second_goes) done.follows

pub returns-in_err-note-clause-faults : goal.returns-in_err-note-clause-faults
returns-in_err-note-clause-faults g c =
    let done = c.note.ensures in
    counts_handed g.D.Disk.medium (durable.first_of c.args.self.now.durable) (durable.first_of c.note.new.self)
    (durable.second_of c.args.self.now.durable) (durable.second_of c.note.new.self) _ done.second_arms
    c.note.result c.from_residual-in_err-note.result c.in_err-note.field-0.0 c.in_err-note.was
    c.from_residual-in_err-note.ensures.1 done.faults

-- ---- it was

pub returns-clause-images : goal.returns-clause-images
returns-clause-images g c = rw c.in_ok-commit.ensures at c.note.ensures.images

pub returns-clause-encodes : goal.returns-clause-encodes
returns-clause-encodes g c = rw c.in_ok-commit.ensures at c.note.ensures.goes

pub returns-clause-committed : goal.returns-clause-committed
returns-clause-committed g c = rw c.in_ok-commit.ensures at c.in_ok-note.ensures.noted

pub returns-clause-second_images : goal.returns-clause-second_images
returns-clause-second_images g c = rw c.in_ok-commit.ensures at c.note.ensures.second_images

pub returns-clause-second_encodes : goal.returns-clause-second_encodes
returns-clause-second_encodes g c = rw c.in_ok-commit.ensures at c.note.ensures.second_goes

pub returns-clause-second_committed : goal.returns-clause-second_committed
returns-clause-second_committed g c = rw c.in_ok-commit.ensures at c.in_ok-note.ensures.second_noted

pub returns-clause-restarts : goal.returns-clause-restarts
returns-clause-restarts g c =
    let done = c.note.ensures in
    noted_starts g.D.Disk.medium c.args.self.now c.requires.synced
    (record { label = c.args.label; access = c.args.access.now; lines = c.args.lines.now }) c.requires.follows
    (durable.first_of c.note.new.self) (durable.second_of c.note.new.self) (rw c.in_ok-commit.ensures at done.goes)
    (rw c.in_ok-commit.ensures at done.second_goes) done.follows

pub returns-clause-state : goal.returns-clause-state
returns-clause-state g c = rw c.in_ok-commit.ensures at c.in_ok-note.ensures.state

pub returns-clause-recorded : goal.returns-clause-recorded
returns-clause-recorded g c = rw c.in_ok-commit.ensures at c.in_ok-note.ensures.recorded

pub returns-clause-second_recorded : goal.returns-clause-second_recorded
returns-clause-second_recorded g c = rw c.in_ok-commit.ensures at c.in_ok-note.ensures.second_recorded

pub returns-clause-faults : goal.returns-clause-faults
returns-clause-faults g c =
    let done = c.in_ok-note.ensures in
    counts_made g.D.Disk.medium (durable.first_of c.args.self.now.durable) (durable.first_of c.note.new.self)
    (durable.second_of c.args.self.now.durable) (durable.second_of c.note.new.self) _ done.second_arms done.faults
