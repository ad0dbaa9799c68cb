-- What a reply says of a transaction that was submitted.
use Rattle.std.specs.Prelude.{◌≡◌, ◌⊎◌, ℕ, List}
use Rattle.iot_tree.specs.declared.acts.Read.{Read}
use Rattle.iot_wire.specs.Meanings.{Spells, SpellsConflict}
use Rattle.iot_wire.specs.declared.replies.Reply.TheVariants.{Committed, Already}
use Rattle.iot_machine.specs.Serving.{Verdict, Settled, Conflict}

-- the reply says this of a transaction with these reads
abbrev pub SpellsVerdict : List Read → List ℕ → Verdict → Type 0
SpellsVerdict reads bytes (Settled number) = Spells bytes (Committed number) ⊎ Spells bytes (Already number)
SpellsVerdict reads bytes (Conflict place question) = (read : Read) × SpellsConflict reads bytes place read × (question ≡ read.question)
