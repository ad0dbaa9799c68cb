use Rattle.iot_store.proofs.StatesLaws.{added_is}
use Rattle.iot_store.proofs.recorded.CommitsRecorded.apply.Goals as goal

pub returns-clause-sound : goal.returns-clause-sound
returns-clause-sound c =
    added_is c.add.result _ _ _ _ c.requires.sound c.requires.change.label c.requires.change.access c.requires.follows
    c.add.ensures.made c.add.ensures.few
