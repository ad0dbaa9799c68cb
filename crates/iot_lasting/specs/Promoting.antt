-- What becomes of commits if the server's backup is promoted.
use Rattle.std.specs.Prelude.{ℕ, List}
use Rattle.iot_event.specs.declared.event.Event.{Event}
use Rattle.iot_machine.specs.Events.{Promotes}
use Rattle.iot_machine.specs.Machine.{Machine, Commit, handed}
use Rattle.iot_machine.specs.Nodes.{Counts}
use Rattle.iot_machine.specs.Transcript.{Transcript}
use Rattle.iot_lasting.specs.Lasting.{StandsAt}
use Rattle.iot_lasting.specs.Telling.{Accounts, commits_in}

-- However a promotion ends, every commit that a transcript has said before it is in the list then, at its number: the commits that are said
-- have the numbers from 1, in their order.
abbrev pub PromotionKeepsCommits : Type 0
PromotionKeepsCommits = (counts : List Counts) (events : List Event) (m n : Machine) (text rest : List ℕ)
    → Transcript counts events text m → (tells : Accounts (handed counts) m text) → Promotes m rest tt n
    → (place : ℕ) (commit : Commit) → StandsAt place commit (commits_in tells.pieces) → StandsAt place commit n.server.durable
