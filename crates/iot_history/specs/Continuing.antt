-- What is written of a transcript of which earlier runs have said a front. A transcript is pieces: the first is what the opening says, and
-- then each event says one. The first `old` of them are taken to be said, and are not written again. Each of the others is marked in the
-- journal, and then written. `wrote bytes` says that these bytes were written, and `images` which images the journal's disk has now.
use Rattle.std.specs.Prelude.{◌≡◌, ◌⊎◌, ◌<◌, ◌≤◌, ℕ, ◌+◌, ◌-◌, List, [], ◌++◌, length, take, replicate}
use Rattle.iot_event.specs.declared.event.Event.{Event}
use Rattle.iot_journal.specs.Decoding.{Encodes}
use Rattle.iot_journal.specs.Images.{EachDecodes, EachDecodesEither}
use Rattle.iot_machine.specs.Machine.{Machine}
use Rattle.iot_machine.specs.Nodes.{Counts}
use Rattle.iot_machine.specs.Transcript.{Transcript}
use Rattle.iot_app.specs.Played.{WroteFront}
use Rattle.iot_history.specs.declared.status.Status.{Status}
use Rattle.iot_history.specs.declared.status.Status.TheVariants.{Done, WriteFailed, NoMemory, Stopped}

-- each image has these bodies, and then so many marks
abbrev pub HasMarked : (images : List ℕ → Type 0) → (bodies : List (List ℕ)) → ℕ → Type 0
HasMarked images bodies marks = EachDecodes images (Encodes (bodies ++ replicate marks []))

-- the same, or one mark more
abbrev pub MayHaveMarked : (images : List ℕ → Type 0) → (bodies : List (List ℕ)) → ℕ → Type 0
MayHaveMarked images bodies marks =
    EachDecodesEither images (Encodes (bodies ++ replicate marks [])) (Encodes (bodies ++ replicate (marks + 1) []))

-- how writing a new piece fails, which was to be marked after these bodies: its mark is there, and a front of it was written; or nothing
-- was written, and its mark is not there, or may be
abbrev pub PieceFails : (images : List ℕ → Type 0) → (bodies : List (List ℕ)) → (wrote : List ℕ → Type 0) → (piece : List ℕ) → Status
    → Type 0
PieceFails images bodies wrote piece WriteFailed = WroteFront wrote piece × HasMarked images bodies 1
PieceFails images bodies wrote piece NoMemory = wrote [] × HasMarked images bodies 0
PieceFails images bodies wrote piece Stopped = wrote [] × MayHaveMarked images bodies 0
PieceFails images bodies wrote piece status = ⊥

-- what the first so many pieces say: nothing if there are none; else they are a transcript of the events of which they are
pub record SaidBefore (handed : List Counts) (pieces : ℕ) (events : List Event) (text : List ℕ) : Type 0 where
  pub none : pieces ≡ 0 → text ≡ []
  pub some : (count : ℕ) → pieces ≡ count + 1 → (m : Machine) × Transcript handed (take count events) text m

-- There is a transcript of these of the events that begins with the old pieces, and the rest of it was written: nothing if all its pieces
-- are old.
pub record WroteRest (handed : List Counts) (wrote : List ℕ → Type 0) (old : ℕ) (events did : List Event) : Type 0 where
  pub text : List ℕ
  pub machine : Machine
  pub transcript : Transcript handed did text machine
  pub before : List ℕ
  pub said : SaidBefore handed old events before
  pub rest : List ℕ
  pub is : text ≡ before ++ rest
  pub silent : length did < old → rest ≡ []
  pub written : wrote rest

-- the same of the first so many events, and not of all, and each of their new pieces was marked; `marked n` says that n were
pub record WroteSome (handed : List Counts) (marked : ℕ → Type 0) (wrote : List ℕ → Type 0) (old : ℕ) (events : List Event)
    : Type 0 where
  pub done : ℕ
  pub few : done < length events
  pub wrote_rest : WroteRest handed wrote old events (take done events)
  pub marks : marked (done + 1 - old)

-- Before each of these pieces was written it was marked, and of the last only a front was written. It is what the opening says, or the
-- last of the first so many events.
pub record WroteCut (handed : List Counts) (marked : ℕ → Type 0) (wrote : List ℕ → Type 0) (old : ℕ) (events : List Event)
    : Type 0 where
  pub done : ℕ
  pub few : done ≤ length events
  pub new : old ≤ done
  pub before : List ℕ
  pub said : SaidBefore handed old events before
  pub rest : List ℕ
  pub earlier : SaidBefore handed done events (before ++ rest)
  pub silent : done ≡ old → rest ≡ []
  pub last : List ℕ
  pub machine : Machine
  pub transcript : Transcript handed (take done events) (before ++ rest ++ last) machine
  pub count : ℕ
  pub cut : count < length last
  pub written : wrote (rest ++ take count last)
  pub marks : marked (done + 1 - old)

-- How it ends. All events are done, each new piece was marked, and the whole rest was written; or a write failed; or memory ran out, or the
-- disk failed in a mark, and each piece that was marked before was written, or none was.
abbrev pub Continued : (handed : List Counts) → (images : List ℕ → Type 0) → (bodies : List (List ℕ)) → (wrote : List ℕ → Type 0)
    → (old : ℕ) → List Event → Status → Type 0
Continued handed images bodies wrote old events Done =
    WroteRest handed wrote old events events × HasMarked images bodies (length events + 1 - old)
Continued handed images bodies wrote old events WriteFailed = WroteCut handed (HasMarked images bodies) wrote old events
Continued handed images bodies wrote old events NoMemory =
    WroteSome handed (HasMarked images bodies) wrote old events ⊎ (wrote [] × HasMarked images bodies 0)
Continued handed images bodies wrote old events Stopped =
    WroteSome handed (MayHaveMarked images bodies) wrote old events
    ⊎ (wrote [] × MayHaveMarked images bodies 0 × (old ≤ length events))
Continued handed images bodies wrote old events status = ⊥
