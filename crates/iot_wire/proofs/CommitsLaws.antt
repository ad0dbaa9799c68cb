-- Commits that are lent, and what is copied of them.
use Rattle.std.proofs.Common.{◌≡◌, ℕ, List, [], Result, Ok, Err, refl, ap, sym, ◌∙◌}
use Rattle.std.specs.Prelude.{IfOk}
use Rattle.iot_tree.specs.declared.access.Access.{Access}
use Rattle.iot_tree.specs.declared.acts.Read.{Read}
use Rattle.iot_tree.specs.declared.labels.Label.{Label}
use Rattle.iot_tree.specs.declared.updates.Update.{Update}
use Rattle.iot_codec.specs.Outcomes.{IsOutcome}
use Rattle.iot_codec.specs.declared.faults.CodecFault.{CodecFault}
use Rattle.iot_views.specs.Decoders.{go_on}
use Rattle.iot_views.specs.Decoding.{label_at, bases_at, updates_at, access_at, lines_at}
use Rattle.iot_wire.specs.Decoding.{commit_at, effects_at}
use Rattle.iot_wire.specs.Lent.{IsCommitAt, request_of}
use Rattle.iot_wire.specs.Submissions.{Submission}
use Rattle.iot_wire.specs.declared.effects.Effects.{Effects}
use Rattle.iot_wire.specs.declared.requests.Request.{Request}
use Rattle.iot_wire.specs.declared.requests.Request.TheVariants.{Commit, Refresh, Walk}

-- what goes on after a value has decoded that value
step : {X Y : Type 0} (read : Result (X × ℕ) ℕ) (next : X → ℕ → Result (Y × ℕ) ℕ) (y : Y × ℕ) → go_on read next ≡ Ok y
    → (got : X × ℕ) × (read ≡ Ok got) × (next got.0 got.1 ≡ Ok y)
step (Ok got) next y is = (got, refl, is)
step (Err at) next y is = absurd cc

-- the updates of an access that was decoded
updates_of : List Update → Result (Access × ℕ) ℕ → List Update
updates_of none (Ok read) = read.0.updates
updates_of none (Err at) = none

access_updates : (bytes : List ℕ) (at : ℕ) (access : Access) (end : ℕ) → access_at bytes at ≡ Ok (access, end)
    → (bases : (List Read × List ℕ) × ℕ) × (bases_at bytes at ≡ Ok bases) × (after : ℕ) ×
    (updates_at bytes bases.1 ≡ Ok (access.updates, after))
unfolding access_at updates_of
access_updates bytes at access end is =
    let one = step (bases_at bytes at) _ (access, end) is in
    let two = step (updates_at bytes one.0.1) _ (access, end) one.2 in
    let same : two.0.0 ≡ access.updates = ap (updates_of []) two.2 in
    (one.0, one.1, two.0.1, two.1 ∙ ap (λ (u : List Update). Ok (u, two.0.1)) same)

-- the commit that was decoded
commit_of : Submission → Result (Request × ℕ) ℕ → Submission
commit_of none (Ok (Commit label access lines, end)) = (label, (access, lines))
commit_of none (Ok (Refresh client known want, end)) = none
commit_of none (Ok (Walk client profile limit, end)) = none
commit_of none (Err at) = none

commit_parts : (bytes : List ℕ) (at : ℕ) (commit : Submission) (end : ℕ) → commit_at bytes at ≡ Ok (request_of commit, end)
    → (after next : ℕ) × (label_at bytes at ≡ Ok (commit.0, after)) × (access_at bytes after ≡ Ok (commit.1.0, next))
unfolding commit_at commit_of
commit_parts bytes at commit end is =
    let one = step (label_at bytes at) _ (request_of commit, end) is in
    let two = step (access_at bytes one.0.1) _ (request_of commit, end) one.2 in
    let three = step (lines_at bytes two.0.1) _ (request_of commit, end) two.2 in
    let same : (one.0.0, (two.0.0, three.0.0)) ≡ commit = ap (commit_of commit) three.2 in (
      one.0.1,
      two.0.1,
      one.1 ∙ ap (λ (s : Submission). Ok (s.0, one.0.1)) same,
      two.1 ∙ ap (λ (s : Submission). Ok (s.1.0, two.0.1)) same,
    )

effects_steps : (bytes : List ℕ) (at after next end : ℕ) (label : Label) (bases : List Read × List ℕ) (updates : List Update)
    → label_at bytes at ≡ Ok (label, after) → bases_at bytes after ≡ Ok (bases, next) → updates_at bytes next ≡ Ok (updates, end)
    → effects_at bytes at ≡ Ok (record { label = label; updates = updates }, end)
unfolding effects_at
effects_steps bytes at after next end label bases updates p q r = rw (p, q, r) refl

-- what is decoded as a commit's effects is its label and its updates
effects_in : Effects → Result (Effects × ℕ) ℕ → Effects
effects_in none (Ok read) = read.0
effects_in none (Err at) = none

effects_decoded : (bytes : List ℕ) (at : ℕ) (commit : Submission) (made : Effects × ℕ) → IsCommitAt bytes at commit
    → effects_at bytes at ≡ Ok made → (made.0.label ≡ commit.0) × (made.0.updates ≡ commit.1.0.updates)
unfolding effects_in
effects_decoded bytes at commit made lent read =
    let parts = commit_parts bytes at commit lent.end lent.is in
    let access = access_updates bytes parts.0 commit.1.0 parts.1 parts.3 in
    let all = effects_steps bytes at parts.0 access.0.1 access.2 commit.0 access.0.0 commit.1.0.updates parts.2 access.1 access.3 in
    let same : made.0 ≡ record { label = commit.0; updates = commit.1.0.updates } = ap (effects_in made.0) (sym read ∙ all) in
    (ap (λ (e : Effects). e.label) same, ap (λ (e : Effects). e.updates) same)

-- and so is what is read as such
pub effects_are : (bytes : List ℕ) (at : ℕ) (commit : Submission) (answer : Result (Effects × ℕ) CodecFault) → IsCommitAt bytes at commit
    → IsOutcome answer (effects_at bytes at) → IfOk answer (λ read. (read.0.label ≡ commit.0) × (read.0.updates ≡ commit.1.0.updates))
effects_are bytes at commit (Err fault) lent read = tt
effects_are bytes at commit (Ok made) lent read = effects_decoded bytes at commit made lent read
