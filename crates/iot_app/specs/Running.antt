-- What is told of a run whose events were done while nothing was written.
use Rattle.std.specs.Prelude.{◌≡◌, ◌≤◌, ℕ, ◌+◌, ◌||◌, List, [], length}
use Rattle.iot_event.specs.declared.event.Event.{Event}
use Rattle.iot_machine.specs.Json.{json_text, row_count}
use Rattle.iot_disk.specs.Disk.{Medium}
use Rattle.iot_machine.specs.Machine.{Machine, handed as before_all}
use Rattle.iot_machine.specs.Nodes.{Counts}
use Rattle.iot_machine.specs.Texts.{line}
use Rattle.iot_machine.specs.Transcript.{Opening, Transcript}
use Rattle.iot_words.specs.declared.jobs.Run.{Run}
use Rattle.iot_words.specs.declared.jobs.Run.TheVariants.{Transcript as plays, Json, Generate, Save}
use Rattle.iot_world.specs.Disks.{HasEnds, ServerBegins}
use Rattle.iot_world.specs.World.{IsWorldOf, client_count, script_names, disks_of}
use Rattle.iot_world.specs.declared.world.World.{World}
use Rattle.iot_app.specs.Keeping.{DisksSince, joined_next, promotes_next}
use Rattle.iot_app.specs.Summary.{tally_of, summary_text}
use Rattle.iot_app.specs.declared.tally.Tally.{Tally}

-- what a job has to say, by the counts of the transcript and the last state; a transcript and a disk are written otherwise
abbrev pub told_of : Run → Tally → Machine → List ℕ
told_of plays counts m = []
told_of Json counts m = line (json_text m)
told_of (Generate n) counts m = summary_text counts (row_count m)
told_of Save counts m = []

-- the same by the transcript
abbrev pub tells : Run → (transcript : List ℕ) → Machine → List ℕ
tells job transcript m = told_of job (tally_of transcript) m

-- all events were done: these are the counts of their transcript, and this is the world of the machine at its end
pub record RanIn {D : Type 0} (medium : Medium D) (handed : List Counts) (events : List Event) (counts : Tally) (world : World D)
    : Type 0 where
  pub text : List ℕ
  pub machine : Machine
  pub transcript : Transcript handed events text machine
  pub counted : counts ≡ tally_of text
  pub stands : IsWorldOf medium world machine

-- the job has something to say after all events
abbrev pub IsTold : Run → Type 0
IsTold Json = Unit {0}
IsTold (Generate n) = Unit {0}
IsTold other = ⊥

-- a new world, of a machine that has opened over what these disks counted, with this text
pub record IsOpened {D : Type 0} (medium : Medium D) (handed : List Counts) (text : List ℕ) (world : World D) : Type 0 where
  pub machine : Machine
  pub step : Opening (before_all handed) text tt machine
  pub stands : IsWorldOf medium world machine
  pub no_clients : client_count world ≡ 0
  pub no_scripts : script_names world ≡ []

-- the same over some disks
pub record IsOpenedSome {D : Type 0} (medium : Medium D) (text : List ℕ) (world : World D) : Type 0 where
  pub handed : List Counts
  pub is : IsOpened medium handed text world

-- Memory ran out in this world, and these events were not done, or the first of them in part: no disk was armed but by those that were
-- done, each has failed as often as the machine's, or more often, the server's begin with the machine's list, and those are spare that no
-- client has.
pub record StaysIn {D : Type 0} (medium : Medium D) (world : World D) (later : List Event) (m : Machine) : Type 0 where
  pub ends : HasEnds (disks_of world)
  pub counted : DisksSince medium m ends.first ends.last ends.others
  pub begins : ServerBegins medium (m.promoted || promotes_next later) m.server.durable ends.first ends.last
  pub eight : length m.clients + length m.spare ≡ 8
  pub spare : 8 ≤ length world.spare.items + length m.clients + joined_next later
