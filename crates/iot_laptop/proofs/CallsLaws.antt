-- What the server's replies bring and say, and what a call of a laptop that appends a record makes of the client of the machine: its
-- change, or a stop in it; and what a held tree has of a server's stamps through that.
use Rattle.{iot_access.specs.Access.access_of, iot_changes.specs.declared.changes.Change.Change}
use Rattle.{iot_changes.specs.declared.changes.Change.TheVariants.Resolved, iot_client.proofs.TrailsLaws.nothing_trails}
use Rattle.iot_client.{proofs.TrailsLaws.same_changes, specs.Calls.Brings, specs.Calls.CutsOffByRun, specs.Calls.CutsOffByTree}
use Rattle.iot_client.specs.Calls.{CutsOffByVerdict, CutsOffRerun, IsHeadsRun, RefusesReply, Reruns, Resolves, verdict_change}
use Rattle.iot_client.specs.{Faults.CountsFault, Messages.Makes, Messages.ReadsNoted, Messages.ReadsObjects, Messages.no_changes}
use Rattle.iot_client.specs.{Messages.no_tree, Messages.noted_in, Messages.objects_in, declared.noted.Noted.Noted as NotedIn}
use Rattle.iot_kept.proofs.{BringingLaws.base_spelled, BringingLaws.brought_spelled, SyncedLaws.synced_spelled, TrailsLaws.IsOwn}
use Rattle.iot_kept.specs.{Bringing.base_for, Bringing.bringing, Bringing.brought_for, declared.bringing.Purpose.Purpose}
use Rattle.iot_laptop.proofs.Common.{AreNamed, Before, Besides, Bool, Call, CanFollow, Client}
use Rattle.iot_laptop.proofs.Common.{ClientFault, ClientStands, ClientState, Code, CutsOff, Declared, EndsAlone, Err, Halt, IfErr, IfOk}
use Rattle.iot_laptop.proofs.Common.{IfOk-at_ok, IfOk-weaker, IsErrOf, IsLent, IsScript, IsTied, IsTree, KeepsDisk, KeepsTrails, KeptLive}
use Rattle.iot_laptop.proofs.Common.{Laptop, LaptopStands, List, Live, MayFail, Medium, NoMemory, Node, None, Notes, NotesAlone, Ok, OnOk}
use Rattle.iot_laptop.proofs.Common.{Option, Over, Post, Result, Seated, Some, State, StateKept, StateStands, StepFrom, StepsFrom, StepsTo}
use Rattle.iot_laptop.proofs.Common.{Stopped, UnlessNoMemory, Up, UpStands, Writes, after, answers, ap, at_each, besides, bind, disk_of}
use Rattle.iot_laptop.proofs.Common.{done, false, if◌then◌else◌, inl, inr, is_alive, is_on, leave, live_by, live_in, live_of, lives_then}
use Rattle.iot_laptop.proofs.Common.{no_text, none_besides, place_of, possibly_sure, records_of, refl, repair, rules, same_counts}
use Rattle.iot_laptop.proofs.Common.{seating, stamps_by, stamps_in, stamps_of, stands_so, state_in, state_of, subst, sym, true, ℕ, ◌∙◌, ◌≡◌}
use Rattle.iot_laptop.proofs.NodesLaws.{Posted, at_node, awake_at, not_both, stands_at, up_stands}
use Rattle.iot_laptop.proofs.SeatsLaws.{besides_again, fresh_lent}
use Rattle.iot_laptop.specs.Below.{Nodes, Read, SpellsVerdict, Stamps, brought, nothing_held}
use Rattle.iot_laptop.specs.Calls.{Changes, GoesOn, Plans, Repairs, TakesReply, TakesStamps, TakesVerdict, appended, head_reads}
use Rattle.iot_laptop.specs.{Laptops.disk_in, Laptops.records_by, Laptops.records_in, Messages.SpellsTree}
use Rattle.iot_limits.{proofs.TreesLaws.tree_spelled, specs.Spelled.IsSpelledTree}
use Rattle.iot_machine.{proofs.PossiblyLaws.appends_possibly, specs.Clients.reach, specs.Clients.resolution_of, specs.Nodes.changed}
use Rattle.{iot_machine.specs.Stops.Appends, iot_node.specs.Keeping.Appended}
use Rattle.{iot_node.specs.Posts.Answered, iot_queue.specs.declared.items.Resolution.Resolution, iot_slots.specs.Cells.next as next_count}
use Rattle.iot_stamp.proofs.TrailsLaws.{none_trails, same_trails}
use Rattle.iot_stamp.specs.{Stamps.nodes_of, Trails.KeepsTrail, Trails.Trails}
use Rattle.iot_standing.{proofs.KeptLaws.noted_as, proofs.KeptLaws.resolved_live, proofs.KeptLaws.told_live, specs.States.told_change}
use Rattle.{iot_tree.specs.declared.changes.Changes.Changes as RowChanges, iot_views.specs.Rules.IsTreeOfRows}
use Rattle.iot_wire.specs.declared.replies.Reply.TheVariants.{Already, Committed, Conflict}
use Rattle.iot_disk.specs.declared.faults.JournalFault.TheVariants as append
use Rattle.iot_machine.specs.Machine as machine
use Rattle.iot_machine.specs.Clients as clients
use Rattle.iot_machine.specs.Serving as serving
use Rattle.iot_client.specs.declared.fault.ClientFault.TheVariants as faults
use Rattle.iot_laptop.specs.Calls as calls
use Rattle.iot_client.proofs.TrailsLaws as client
use Rattle.iot_node.specs.Posts as posts

-- ---- trees

-- the changes that are read are those of which the reply makes this tree
pub spelled_changes : {reply : List ℕ} {held : Stamps} {t : Nodes} (read : RowChanges) → ReadsObjects reply → objects_in reply ≡ Ok read
    → SpellsTree held reply t → nodes_of (brought held read) ≡ t
spelled_changes {reply} {held} read only is spells =
    ap (λ (changes : RowChanges). nodes_of (brought held changes)) (same_changes reply read spells.changes only is spells.spelled)
    ∙ sym spells.is

-- a call is not refused that reads a reply which makes such a tree
pub none_bad : {D : Type 0} (old new : Client D) (Passes : Nodes → Type 0) {held : Stamps} {reply : List ℕ} {t : Nodes}
    → ReadsObjects reply → SpellsTree held reply t → Passes t → (refusal : Option ClientFault) → refusal ≡ None
    → (answer : Result (Unit {0}) ClientFault) → RefusesReply refusal (Makes Passes held reply) old new answer → IfErr answer MayFail
none_bad old new Passes {held} {reply} {t} only spells passes (Some fault) none answer refuses = absurd cc
none_bad old new Passes {held} {reply} {t} only spells passes None none answer refuses = by answer refuses
  where
    not_refused : (at : ℕ) → Makes Passes held reply (Err at) → ⊥
    not_refused at (no_tree changes read fails) =
        fails (subst Passes (sym (spelled_changes changes only read spells)) passes)
    not_refused at (no_changes bad is) = let both : Ok spells.changes ≡ Err at = sym (only spells.changes spells.spelled) ∙ is in absurd cc

    by : (answer : Result (Unit {0}) ClientFault) → RefusesReply None (Makes Passes held reply) old new answer → IfErr answer MayFail
    by (Err (faults.BadReply at)) refuses = absurd (not_refused at refuses.0)
    by other refuses = search rules

-- ---- answers

-- an answer that was done
pub was_ok : {T : Type 0} (answer : Result T ClientFault) (t : T) → appended answer ≡ Ok t → answer ≡ Ok t
was_ok (Ok u) t is = cc
was_ok (Err Stopped) t is = absurd cc
was_ok (Err other) t is = absurd cc

pub was_stopped : {T : Type 0} (answer : Result T ClientFault) → appended answer ≡ Err append.Stopped → IsErrOf answer Stopped
was_stopped (Err Stopped) is = refl
was_stopped other is = absurd cc

pub if_two : {T E : Type 0} {P Q R : T → Type 0} (r : Result T E) → IfOk r P → IfOk r Q → ((t : T) → P t → Q t → R t) → IfOk r R
if_two (Ok t) p q both = both t p q
if_two (Err e) p q both = tt

-- what is so unless memory ran out is so of that it was done
pub unless_done : {T : Type 0} (P : Type 0) (r : Result T Halt) → UnlessNoMemory r P → UnlessNoMemory (done r) P
unless_done P (Ok t) so = so
unless_done P (Err halt) so = so

pub as_is : (r : Result (Unit {0}) Halt) → done r ≡ r
as_is (Ok it) = refl
as_is (Err halt) = refl

-- ---- a call

-- a call of a laptop's client that was to append a record behind so many others, and what the laptop makes of its answer
pub record Called {D T : Type 0} (medium : Medium D) (laptop : Laptop D) (was now : Client D) (answer : Result T ClientFault)
    (new : Laptop D) (x y : List ℕ) (result : Result T Halt) : Type 0 where
  pub up : laptop.post ≡ Up (record { client = was })
  pub was_tied : IsTied medium was
  pub placed : place_of was ≡ laptop.place
  pub goes : GoesOn medium (record laptop { post = Up (record { client = now }) }) new (records_in laptop) answer x y result
  pub tied : OnOk answer (IsTied medium now)
  pub counts : CountsFault answer (medium.faults (disk_of was)) (medium.faults (disk_of now))
  pub arms : medium.arms (disk_of now) ≡ medium.arms (disk_of was)

pub called : {D T : Type 0} {medium : Medium D} {laptop : Laptop D} {was now : Client D} {answer : Result T ClientFault}
    {new : Laptop D} {count : ℕ} {x y : List ℕ} {result : Result T Halt} → IsLent medium laptop was
    → GoesOn medium (record laptop { post = Up (record { client = now }) }) new count answer x y result → count ≡ records_in laptop
    → OnOk answer (IsTied medium now) → CountsFault answer (medium.faults (disk_of was)) (medium.faults (disk_of now))
    → medium.arms (disk_of now) ≡ medium.arms (disk_of was) → Called medium laptop was now answer new x y result
called it goes counted tied counts arms = let goes_so = rw counted at goes in search rules

-- what is known of a client of the machine before it, which keeps this state, and of what runs this besides
pub record Known {D : Type 0} (medium : Medium D) (scripts : List Declared) (s : State) (lives : List Live) (laptop : Laptop D)
    (m : machine.Client) : Type 0 where
  pub before : Before medium laptop scripts m
  pub open before use *
  pub kept : KeptLive scripts s lives m.first m.node.durable

-- ---- what is said of the first that waits

said_as : (reads : List Read) (reply : List ℕ) (told : serving.Verdict) (said : NotedIn) → SpellsVerdict reads reply told
    → ReadsNoted reply → noted_in reply ≡ Ok said → said ≡ noted_as told
said_as reads reply (serving.Settled number) said (inl spells) only read = cc (only (Committed number) spells)
said_as reads reply (serving.Settled number) said (inr spells) only read = cc (only (Already number) spells)
said_as reads reply (serving.Conflict place question) said spells only read = cc (only (Conflict place spells.1.answer) spells.1.spelled)

-- ---- the stamps of a laptop

off_nothing : {D : Type 0} (post : Post (Seated D) D) → is_on post ≡ false → stamps_by post ≡ nothing_held
off_nothing (Up seated) off = absurd cc
off_nothing other off = refl

-- one that is down holds nothing
pub off_trails : {D : Type 0} (old new : Laptop D) → is_alive new ≡ false → KeepsTrails old new
off_trails old new off = λ server bound positive it.
    subst (Trails server bound) (sym (off_nothing new.post off)) (nothing_trails server bound positive)

-- ---- a call of this laptop

module _ {D T : Type 0} {medium : Medium D} {laptop : Laptop D} {was now : Client D} {answer : Result T ClientFault} {new : Laptop D}
    {x y : List ℕ} {result : Result T Halt} (call : Called medium laptop was now answer new x y result) where
  abbrev s : State
  s = state_of was

  abbrev cuts : Change → Type 0
  cuts change = CutsOff change s (records_of was) (medium.may_leave (disk_of now))

  -- it answered this
  pub answered_so : (t : T) → result ≡ Ok t → answer ≡ Ok t
  answered_so t same = IfOk-at_ok _ same call.goes.answers

  -- ---- it notes this change, or stops in that, from a client of the machine of which so much is known

  module _ (scripts : List Declared) (m : machine.Client) (here : Before medium laptop scripts m) (next : ClientState → ClientState)
      (change : Change) (kept : CanFollow s change
      → StateKept (after s change) (next m.node.durable) × AreNamed scripts (next m.node.durable)) where
    answered : Appended (seating medium laptop.place) medium next m.node.durable (record { client = was }) (record { client = now })
        (appended answer) → (r : Result T Halt) → result ≡ r
        → Answered (StepsFrom (Posted medium laptop) (Appends laptop.name next) m.node new.post x y) (appended answer) r
    answered appends r same =
        rw (sym same)
        (call.goes.step (record { client = was }) (record { client = now }) next m.node refl (rw call.up at here.node) appends
        (ap records_by call.up))

    -- it went on, to where this stands
    pub goes_at : {after_it : Laptop D → machine.Client → Type 0} (t : T) → result ≡ Ok t → Notes change was now
        → ((post : Post (Seated D) D) → Posted medium laptop post (changed next m.node) → live_by post ≡ live_of now
        → after_it (record laptop { post = post }) (record m { node = changed next m.node }))
        → StepFrom after_it (Writes next) m new x y true
    goes_at {after_it} t same note stand =
        let ok : answer ≡ Ok t = answered_so t same in
        rw call.goes.rest (at_node medium laptop new.post (λ name. Appends name next) (λ m. m.name) here.name
        (answered (rw ok (
          (λ n seat. record {
            place_is = note.place ∙ seat.place_is;
            tied = IfOk-at_ok _ ok call.tied;
            counted = note.records ∙ ap next_count seat.counted;
            kept = subst (λ (s : State). StateKept s (next m.node.durable)) (sym note.state) (kept note.follows).0;
          }),
          same_counts medium (disk_of was) (disk_of now) (rw ok at call.counts) call.arms,
        )) (Ok t) same).1
        (λ n text step there.
        let went : n ≡ changed next m.node = elim step [ inl it ↦ it.2 | inr stop ↦ absurd (not_both stop.1) ] in
        rw went (stand new.post (rw went at there) (ap (λ (l : Laptop D). live_by l.post) (IfOk-at_ok _ same call.goes.same)))))

    -- or it stopped in that: each image is what the client keeps, without the record or with it
    pub halts_at : result ≡ Err Over → cuts change → StepFrom (ClientStands medium scripts) (Writes next) m new x y false
    halts_at same cut =
        let stopped : answer ≡ Err Stopped = call.goes.stopped same in
        rw call.goes.rest (at_node medium laptop new.post (λ name. Appends name next) (λ m. m.name) here.name
        (answered (rw stopped (
          (λ n seat. record {
            each = λ image left. elim (cut.either.each image left) [
              | inl before ↦ inl (record { state = s; stands = rw seat.counted at before; kept = seat.kept })
              | inr more ↦ inr (record { state = after s change; stands = rw seat.counted at more; kept = (kept cut.follows).0 })
            ];
          }),
          record { faults = rw stopped at call.counts; arms = call.arms },
        )) (Err Over) same)
        (λ n text step there.
        let down : n.alive ≡ false = elim step [
          | inl it ↦ absurd (not_both (sym it.1))
          | inr stop ↦ ap (λ (n : Node ClientState). n.alive) stop.2.is
        ] in
        let up : UpStands (seating medium laptop.place) medium no_text (record { client = was }) m.node = rw call.up at here.node in
        stands_at medium scripts laptop m here.name here.link new.post n there (λ up. absurd (not_both (sym up ∙ down)))
        (appends_possibly laptop.name next m.node n text false (λ _. (kept cut.follows).1)
        (possibly_sure m.node up.sure here.named) step)))

  -- ---- the same with what is known besides of what runs

  module _ (scripts : List Declared) (lives later : List Live) (next : ClientState → ClientState) (class : List ℕ → List ℕ)
      (change : Change) (kept : (m : machine.Client) → Known medium scripts s lives laptop m → CanFollow s change
      → KeptLive scripts (after s change) later (class m.first) (next m.node.durable)) where
    kept_then : (m : machine.Client) → Known medium scripts s lives laptop m → CanFollow s change
        → StateKept (after s change) (next m.node.durable) × AreNamed scripts (next m.node.durable)
    kept_then m here follows = let it = kept m here follows in (it.kept, it.named)

    pub notes_at : (t : T) → result ≡ Ok t → Notes change was now → live_of now ≡ later
        → StepsTo (Known medium scripts s lives) (λ l m. LaptopStands medium scripts l (record m { first = class m.first }))
        (NotesAlone next) laptop new x y (Some tt)
    notes_at t same note live =
        bind {a = true}
        (at_each (λ m here. goes_at scripts m here.before next change (kept_then m here)
        {after_it = λ l m. LaptopStands medium scripts l (record m { first = class m.first })} t same note (λ post there is.
        let it = kept m here note.follows in
        awake_at medium scripts laptop m here.name here.link post (changed next m.node) there here.alive (class m.first)
        (is ∙ live ∙ it.runs) it.named)))
        (answers (λ m here. here))

    pub notes_halt : result ≡ Err Over → cuts change
        → StepsTo (Known medium scripts s lives) (ClientStands medium scripts) (NotesAlone next) laptop new x y None
    notes_halt same cut =
        bind {a = false} (at_each (λ m here. halts_at scripts m here.before next change (kept_then m here) same cut))
        (answers (λ m here. here))

  -- ---- one that has not yielded

  pub known_was : (scripts : List Declared) (m : machine.Client) → LaptopStands medium scripts laptop m
      → Known medium scripts s (live_of was) laptop m
  known_was scripts m here =
      let stands : StateStands s (live_of was) m.first m.node.durable = rw call.up at here.state in
      let up = up_stands medium scripts laptop m was call.up here in
      let runs = lives_then s.running (live_of was) m.first m.node.durable.running stands.running in search rules

  pub from_known : {A : Type 0} {after_it : Laptop D → machine.Client → Type 0} {does : Call machine.Client A} (scripts : List Declared)
      (l : Laptop D) (z : List ℕ) (a : A) → StepsTo (Known medium scripts s (live_of was)) after_it does laptop l x z a
      → StepsTo (LaptopStands medium scripts) after_it does laptop l x z a
  from_known scripts l z a steps = record { step = λ m here. steps.step m (known_was scripts m here) }

  alone_by : (scripts : List Declared) (next : ClientState → ClientState)
      → ((t : T) → result ≡ Ok t
      → StepsTo (Known medium scripts s (live_of was)) (LaptopStands medium scripts) (NotesAlone next) laptop new x y (Some tt))
      → (result ≡ Err Over
      → StepsTo (Known medium scripts s (live_of was)) (ClientStands medium scripts) (NotesAlone next) laptop new x y None)
      → (r : Result T Halt) → result ≡ r → EndsAlone medium scripts (NotesAlone next) laptop new x y (done r)
  alone_by scripts next went over (Ok t) same = record { is = from_known scripts new y (Some tt) (went t same) }
  alone_by scripts next went over (Err NoMemory) same = record { is = tt }
  alone_by scripts next went over (Err Over) same = record { is = from_known scripts new y None (over same) }

  -- by a call that notes this change, which leaves what is known of what runs, or stops in that
  pub alone : (scripts : List Declared) (next : ClientState → ClientState) (change : Change) → OnOk answer (Notes change was now)
      → OnOk answer (live_of now ≡ live_of was) → (IsErrOf answer Stopped → cuts change)
      → ((m : machine.Client) → Known medium scripts s (live_of was) laptop m → CanFollow s change
      → KeptLive scripts (after s change) (live_of was) m.first (next m.node.durable))
      → EndsAlone medium scripts (NotesAlone next) laptop new x y (done result)
  alone scripts next change notes lives stops kept =
      alone_by scripts next
      (λ t same.
      let ok = answered_so t same in
      notes_at scripts (live_of was) (live_of was) next (λ b. b) change kept t same (IfOk-at_ok _ ok notes) (IfOk-at_ok _ ok lives))
      (λ same. notes_halt scripts (live_of was) (live_of was) next (λ b. b) change kept same (stops (call.goes.stopped same)))
      result refl

  -- of a reply by which nothing but the held tree changes, what runs goes on
  pub holds_beside : (purpose : Purpose) (reply : List ℕ) → OnOk answer (Brings purpose reply was now)
      → ((t : Nodes) → after s (brought_for purpose t) ≡ record s { held = t })
      → OnOk result ((state_in new).running ≡ (state_in laptop).running)
  holds_beside purpose reply brought_by holds = if_two result call.goes.same call.goes.answers (λ u same was_so.
      let notes = (IfOk-at_ok _ was_so brought_by).notes in
      let is : state_in new ≡ record s { held = _ } = ap state_in same ∙ notes.state ∙ holds _ in rw (is, call.up))

  -- what is said of the first that waits, by its option
  pub takes_verdict : (noted : T → NotedIn) (reply : List ℕ) → ReadsNoted reply → IfOk answer (λ t. noted_in reply ≡ Ok (noted t))
      → IfOk answer (λ t. Notes (verdict_change (noted t)) was now) → OnOk answer (live_of now ≡ live_of was)
      → (IsErrOf answer Stopped → CutsOffByVerdict reply s (records_of was) (medium.may_leave (disk_of now)))
      → TakesVerdict medium reply laptop new x y (done result)
  takes_verdict noted reply only reads notes lives stops told option spells first scripts =
      let is : (said : NotedIn) → noted_in reply ≡ Ok said → said ≡ noted_as told =
      λ said. said_as (head_reads s.items) reply told said (rw call.up at spells) only in
      alone scripts (told_change told option) (verdict_change (noted_as told))
      (if_two answer reads notes (λ t read it. rw (is (noted t) read) at it)) lives
      (λ stopped. let cut = stops stopped in rw (is cut.said cut.noted) at cut.cuts_off)
      (λ m here. told_live here.kept told option (rw call.up at first))

  -- a resolution
  pub resolves : (reply : List ℕ) (code : Code) → IsScript code → ReadsObjects reply → OnOk answer (Resolves reply code was now)
      → OnOk answer (live_of now ≡ live_of was)
      → (IsErrOf answer Stopped → CutsOffByRun reply code s (records_of was) (medium.may_leave (disk_of now)))
      → calls.Resolves medium reply code laptop new x y (done result)
  resolves reply code script only ran lives stops t spells scripts plan plans same =
      let stage : clients.Stage = clients.Resolved (resolution_of plan t) in
      let kept : (done : Resolution) → IsHeadsRun s.held s.items code t done → (m : machine.Client)
      → Known medium scripts s (live_of was) laptop m → CanFollow s (Resolved done (access_of done.acts t))
      → KeptLive scripts (after s (Resolved done (access_of done.acts t))) (live_of was) m.first (reach stage m.node.durable) =
      λ done run m here follows.
      let state : StateStands (state_in laptop) (live_in laptop) m.first m.node.durable = rw call.up (stands_so here.kept) in
      resolved_live here.kept plan (plans m (search rules)) code same script t spells.tree done run in
      alone_by scripts (reach stage)
      (λ u ok.
      let it = IfOk-at_ok _ (answered_so u ok) ran in
      let reran : Reruns code t was now = rw (spelled_changes it.changes only it.read spells) at it.reruns in
      notes_at scripts (live_of was) (live_of was) (reach stage) (λ b. b) (Resolved reran.done (access_of reran.done.acts t))
      (kept reran.done reran.run) u ok reran.notes (IfOk-at_ok _ (answered_so u ok) lives))
      (λ over.
      let it = stops (call.goes.stopped over) in
      let cut : CutsOffRerun code t s (records_of was) (medium.may_leave (disk_of now)) =
      rw (spelled_changes it.changes only it.read spells) at it.reruns in
      notes_halt scripts (live_of was) (live_of was) (reach stage) (λ b. b) (Resolved cut.done (access_of cut.done.acts t))
      (kept cut.done cut.run) over cut.cuts_off)
      result refl

  -- ---- a server's stamps

  -- a call of its client that kept the stamps of a server
  pub goes_trails : OnOk answer (KeepsTrail (stamps_of was) (stamps_of now)) → (r : Result T Halt) → result ≡ r
      → UnlessNoMemory r (KeepsTrails laptop new)
  goes_trails keeps (Ok t) same = rw (IfOk-at_ok _ same call.goes.same, call.up) (IfOk-at_ok _ (answered_so t same) keeps)
  goes_trails keeps (Err NoMemory) same = tt
  goes_trails keeps (Err Over) same = off_trails laptop new (call.goes.down same)

  -- so it is of one that noted such a change
  pub noted_trails : (change : T → Change) → IfOk answer (λ t. Notes (change t) was now) → ((t : T) → IsOwn (change t))
      → UnlessNoMemory result (KeepsTrails laptop new)
  noted_trails change notes own =
      goes_trails (IfOk-weaker answer _ _ (λ t. client.noted_trails medium was now (change t) (own t) call.was_tied) notes) result refl

  -- or that took changes of a server
  takes_stamps : (purpose : Purpose) (reply : List ℕ) → ReadsObjects reply → OnOk answer (Brings purpose reply was now)
      → (r : Result T Halt) → result ≡ r → TakesStamps (base_for purpose (stamps_in laptop)) reply laptop new (done r)
  takes_stamps purpose reply only brought_by (Ok t) same = λ changes spells.
      let it : Brings purpose reply was now = IfOk-at_ok _ (answered_so t same) brought_by in
      rw (IfOk-at_ok _ same call.goes.same, call.up)
      (it.stamps ∙ ap (brought (base_for purpose (stamps_of was))) (same_changes reply it.changes changes only it.read spells))
  takes_stamps purpose reply only brought_by (Err NoMemory) same = tt
  takes_stamps purpose reply only brought_by (Err Over) same = off_nothing new.post (call.goes.down same)

  -- what a reply brings is held so, if what runs stands for the same then
  pub takes : {purpose : Purpose} {held : Nodes → ClientState → ClientState} {reply : List ℕ} → ReadsObjects reply
      → OnOk answer (Brings purpose reply was now) → OnOk answer (live_of now ≡ live_of was)
      → (IsErrOf answer Stopped → CutsOffByTree purpose reply (stamps_of was) s (records_of was) (medium.may_leave (disk_of now)))
      → ((scripts : List Declared) (first : List ℕ) (m : ClientState) → KeptLive scripts s (live_of was) first m → (t : Nodes)
      → CanFollow s (brought_for purpose t) → IsTree t → IsSpelledTree t
      → KeptLive scripts (after s (brought_for purpose t)) (live_of was) first (held t m))
      → KeepsDisk medium (disk_in laptop) (disk_in new)
      → TakesReply medium held (base_for purpose (stamps_in laptop)) reply laptop new x y (done result)
  takes {purpose} {held} {reply} only brought_by lives stops known disk = record {
    does = λ t spells_it scripts.
        let base : Stamps = base_for purpose (stamps_of was) in
        let spells : SpellsTree base reply t = rw call.up at spells_it in
        let is : (read : RowChanges) → objects_in reply ≡ Ok read → bringing purpose (stamps_of was) read ≡ brought_for purpose t =
        λ read of. ap (brought_for purpose) (spelled_changes read only of spells) in
        let rows : IsTreeOfRows t =
        rw spells.is (brought_spelled base spells.changes
        (base_spelled purpose (stamps_of was) (synced_spelled medium was.kept call.was_tied.synced).held) spells.spelled.value
        (rw spells.is at spells.tree)) in
        alone scripts (held t) (brought_for purpose t)
        (IfOk-weaker answer _ _ (λ u it. rw (is it.changes it.read) at it.notes) brought_by) lives
        (λ stopped. let it = stops stopped in rw (is it.changes it.read) at it.cuts_off)
        (λ m here follows. known scripts m.first m.node.durable here.kept t follows spells.tree (tree_spelled t rows));
    stamps = takes_stamps purpose reply only brought_by result refl;
    place = ap (λ (l : Laptop D). l.place) call.goes.rest;
    disk = disk;
  }

-- ---- its stamps

-- no stamp is a server's after a start
pub fresh_trails : {D : Type 0} (old : Laptop D) (post : Post (Seated D) D) (on : Bool)
    → posts.live_of besides post ≡ (if on then Some none_besides else None) → KeepsTrail (stamps_in old) (stamps_by post)
fresh_trails old post on same = λ server bound positive it. none_trails (stamps_by post) (fresh_lent post on same) server bound positive

-- they are the same if what is known besides is
pub again_trails : {D : Type 0} (old new : Post (Seated D) D) → posts.live_of besides new ≡ posts.live_of besides old
    → KeepsTrail (stamps_by old) (stamps_by new)
again_trails old new same =
    same_trails (stamps_by old) (stamps_by new) (ap (λ (b : Besides). b.lent) (besides_again old new same))
