-- A client with the server: what holds of the two, whatever the other clients do, and stays so in their calls. Each node stops at most
-- once.
use Rattle.std.proofs.Common.{◌≡◌, ◌≢◌, ℕ, ◌+◌, ◌<◌, ◌≤◌, ◌==◌, ◌&&◌, Bool, true, false, List, [], ◌∷◌, ◌++◌, length, Option}
use Rattle.std.proofs.Common.{Some, None, option_map, refl, sym, ap, subst, ◌∙◌, arith, inl, inr, position}
use Rattle.std.proofs.lemmas.Bool.{cases_Bool, cond-true, cond-false}
use Rattle.std.proofs.lemmas.Bool.Decides.{nat_tests}
use Rattle.std.proofs.lemmas.Iterator.Adapters.{position_from-zero}
use Rattle.std.specs.List.{AllByRecursion, position_from}
use Rattle.iot_tree.specs.Tree.{Nodes}
use Rattle.iot_link.specs.Links as link
use Rattle.iot_link.specs.Links.{LinkState, passage}
use Rattle.iot_link.specs.declared.passages.Loss.{Loss}
use Rattle.iot_link.specs.declared.passages.Loss.TheVariants as losses
use Rattle.iot_link.specs.declared.passages.Passage.{Passage}
use Rattle.iot_link.specs.declared.passages.Passage.TheVariants as passages
use Rattle.iot_machine.specs.Calls.{Call, Answers, At}
use Rattle.iot_machine.specs.Clients.{Stage, Item, ClientState, most_running, hold, change_first, at_stage, reach}
use Rattle.iot_machine.specs.Machine.{Commit, Pair, its_client, its_server, add_commit}
use Rattle.iot_machine.specs.Nodes.{Node}
use Rattle.iot_machine.specs.Stops.{Appends}
use Rattle.iot_machine.specs.Serving.{is_of, number_of, server_name, Submission, Verdict, Settled, Conflict, Errand, Lends, Judges, judged}
use Rattle.iot_machine.specs.Serving.{Certifies, holds, conflicts, Commits, committed}
use Rattle.iot_machine.specs.Transactions.{Writes, unless_stopped, Notes, counted, Handles, received, exchange_by, Exchange, Brings}
use Rattle.iot_machine.specs.Transactions.{commit_of}
use Rattle.iot_machine.specs.Sound.{Possibly, IsSure, AreApart, numbers_of, AreNumbered, WaitsFirst, Knows}
use Rattle.iot_machine.specs.Sound.{IsReady, IsPlanned, HasPlan, ArePlanned, AreOnce}
use Rattle.iot_machine.specs.Counting.{StopsOnce}
use Rattle.iot_machine.proofs.KeepsLaws.{Keeps, IfGoes, keeps_gets, keeps_asks, stays_says, keeps_from, keeps_then, stays_then}
use Rattle.iot_machine.proofs.KeepsLaws.{asks_then, keeps_at}
use Rattle.iot_machine.proofs.FollowsLaws.{all_push, all_as, all_with, all_of, all_numbers, FirstIsAnother, Follows, hold_follows}
use Rattle.iot_machine.proofs.FollowsLaws.{first_numbered, first_planned, first_known_still}
use Rattle.iot_machine.proofs.PossiblyLaws.{possibly_as, possibly_with, possibly_of, possibly_sure, appends_possibly, appends_sure}
use Rattle.iot_machine.proofs.PossiblyLaws.{appends_durable, appends_alive, appends_continues, Continues}
use Rattle.iot_machine.proofs.CountingLaws.{steady_alive, appends_once}

-- ---- the list, and one commit more

-- it is not the same transaction
abbrev IsApart : Commit → Commit → Type 0
IsApart commit other = is_of commit other ≡ false

apart_sym : (commit other : Commit) → IsApart commit other → IsApart other commit
apart_sym commit other apart =
    (λ i. same_test other.entry.client commit.entry.client i && same_test other.entry.number commit.entry.number i) ∙ apart
  where
    same_test : (a b : ℕ) → (a == b) ≡ (b == a)
    same_test a b = grind (arith, nat_tests)

none_from : (p : Commit → Bool) (list : List Commit) (i : ℕ) → position_from p i list ≡ None
    → AllByRecursion (λ other. p other ≡ false) list
none_from p [] i is = tt
none_from p (other ∷ list) i is = elim (cases_Bool (p other)) [
  | inl passes ↦ let found : Some i ≡ None = sym (cond-true (p other) (Some i) (position_from p (i + 1) list) passes) ∙ is in absurd cc
  | inr fails ↦ (fails, none_from p list (i + 1) (sym (cond-false (p other) (Some i) (position_from p (i + 1) list) fails) ∙ is))
]

from_none : (p : Commit → Bool) (list : List Commit) (i : ℕ) → AllByRecursion (λ other. p other ≡ false) list
    → position_from p i list ≡ None
from_none p [] i all = refl
from_none p (other ∷ list) i all =
    cond-false (p other) (Some i) (position_from p (i + 1) list) all.0 ∙ from_none p list (i + 1) all.1

-- one without a number is apart from all of them
none_of : (commit : Commit) (list : List Commit) → number_of commit list ≡ None → AllByRecursion (IsApart commit) list
none_of commit list none =
    none_from (is_of commit) list 0 (sym (position_from-zero (is_of commit) list) ∙ no_place (position (is_of commit) list) none)
  where
    no_place : (place : Option ℕ) → option_map (λ n. n + 1) place ≡ None → place ≡ None
    no_place None none = refl
    no_place (Some n) none = absurd cc

of_none : (commit : Commit) (list : List Commit) → AllByRecursion (IsApart commit) list → number_of commit list ≡ None
of_none commit list all =
    ap (option_map (λ place. place + 1)) (position_from-zero (is_of commit) list ∙ from_none (is_of commit) list 0 all)

once_push : (list : List Commit) (commit : Commit) → AllByRecursion (IsApart commit) list → AreOnce list
    → AreOnce (list ++ commit ∷ [])
once_push [] commit all once = (refl, tt)
once_push (first ∷ list) commit all once = (
  of_none first (list ++ commit ∷ []) (all_push (IsApart first) list commit (apart_sym commit first all.0) (none_of first list once.0)),
  once_push list commit all.1 once.1,
)

-- a client knows the commit of its first transaction
first_known : (place : ℕ) (item : Item) (items : List Item) (state : ClientState) → AreNumbered state
    → state.items ≡ item ∷ items → IsReady item.stage → Knows (commit_of place item) state
first_known place item items state numbered first stage =
    let apart : AreApart (numbers_of (item ∷ items) state.running) =
    subst (λ items. AreApart (numbers_of items state.running)) first numbered.apart in
    let given : AllByRecursion (λ number. number ≤ state.last) (numbers_of (item ∷ items) state.running) =
    subst (λ items. AllByRecursion (λ number. number ≤ state.last) (numbers_of items state.running)) first numbered.given in
    let others = all_numbers (λ number. number ≢ item.number) items state.running apart.0 in
    record {
      given = given.0;
      waits = subst (WaitsFirst (commit_of place item)) (sym first) (
        (λ same. record { stage = stage; name = refl; script = refl; budget = refl; way = refl; kept = refl }),
        others.0,
      );
      run = others.1;
    }

-- ---- a client's node with the server's, and its place

pub record Core : Type 0 where
  pub place : ℕ
  pub server : Node (List Commit)
  pub client : Node ClientState

abbrev pub core : Pair → Core
core pair = record { place = pair.place; server = pair.server; client = pair.client.node }

abbrev pub with_server : Node (List Commit) → Core → Core
with_server node p = record { place = p.place; server = node; client = p.client }

abbrev pub with_client : Node ClientState → Core → Core
with_client node p = record { place = p.place; server = p.server; client = node }

-- a request reaches a server that is alive
none_reached : (up : Bool) (loss : Option Loss) → passages.Both ≡ link.passage_by up loss false → ⊥
none_reached false loss is = absurd cc
none_reached true None is = absurd cc
none_reached true (Some losses.Request) is = absurd cc
none_reached true (Some losses.Reply) is = absurd cc

none_lost : (up : Bool) (loss : Option Loss) → passages.ReplyLost ≡ link.passage_by up loss false → ⊥
none_lost false loss is = absurd cc
none_lost true None is = absurd cc
none_lost true (Some losses.Request) is = absurd cc
none_lost true (Some losses.Reply) is = absurd cc

pub both_reached : (link : LinkState) (alive : Bool) → passages.Both ≡ passage link alive → alive ≡ true
both_reached link true is = refl
both_reached link false is = absurd (none_reached link.up link.armed is)

pub lost_reached : (link : LinkState) (alive : Bool) → passages.ReplyLost ≡ passage link alive → alive ≡ true
lost_reached link true is = refl
lost_reached link false is = absurd (none_lost link.up link.armed is)

-- what holds of the two if no reply comes, whether the request was not sent or its reply was lost
pub record Passes (A : Type 0) (P : Core → Type 0) (Q : Option A → Core → Type 0) : Type 0 where
  pub nothing : (p : Core) → P p → Q None p
  pub lost : (a : Option A) (p : Core) → Q a p → Q None p

abbrev pub Reached : (Core → Type 0) → Pair → Type 0
Reached P pair = P (core pair) × (pair.server.alive ≡ true)

-- whatever becomes of the link and the class
pub exchange_keeps : {A : Type 0} {P : Core → Type 0} {Q : Option A → Core → Type 0} {request : Call (Node (List Commit)) (Option A)}
    → Passes A P Q → Keeps (Reached P) (At its_server request) (λ a pair. Q a (core pair))
    → Keeps (λ pair. P (core pair)) (Exchange request) (λ a pair. Q a (core pair))
exchange_keeps {A} {P} {Q} {request} passes served =
    keeps_then {Q = λ (p : Passage) m. P (core m) × (p ≡ passage m.client.link m.server.alive)}
    (keeps_asks (λ m here. (here, refl))) by_passage
  where
    counted_keeps : (answer : Option A) → Keeps (λ m. Q answer (core m)) (counted answer) (λ a m. Q a (core m))
    counted_keeps None = keeps_gets (λ m here. here)
    counted_keeps (Some a) = keeps_gets (λ m here. here)

    handled : Keeps (Reached P) (Handles request) (λ a m. Q a (core m))
    handled = keeps_then served counted_keeps

    received_keeps : (answer : Option A) → Keeps (λ m. Q answer (core m)) (received answer) (λ a m. Q a (core m))
    received_keeps None = keeps_gets (λ m here. here)
    received_keeps (Some a) = keeps_gets (λ m here. here)

    by_passage : (p : Passage)
        → Keeps (λ m. P (core m) × (p ≡ passage m.client.link m.server.alive)) (exchange_by request p) (λ a m. Q a (core m))
    by_passage passages.Away = keeps_gets (λ m here. passes.nothing (core m) here.0)
    by_passage passages.RequestLost = keeps_gets (λ m here. passes.nothing (core m) here.0)
    by_passage passages.ReplyLost =
        keeps_from (λ m here. (here.0, lost_reached m.client.link m.server.alive here.1))
        (keeps_then handled (λ answer. keeps_gets (λ m here. passes.lost answer (core m) here)))
    by_passage passages.Both =
        keeps_from (λ m here. (here.0, both_reached m.client.link m.server.alive here.1)) (keeps_then handled received_keeps)

-- what only asks the server
pub lends_keeps : (P : Core → Type 0) (held : Nodes) (errand : Errand)
    → Keeps (Reached P) (At its_server (Lends held errand)) (λ _ m. P (core m))
lends_keeps P held errand = keeps_at (λ m here. keeps_asks (λ node is.
    subst (λ (node : Node (List Commit)). P (with_server node (core m))) (sym is) here.0))

-- ---- what holds of the two: of a commit of another client this is known

module _ (Others : Commit → Type 0) where
  -- a client that is at this place knows its own
  pub record IsListedAt (place : ℕ) (node : Node ClientState) (commit : Commit) : Type 0 where
    pub own : commit.entry.client ≡ place → Possibly (Knows commit) node
    pub other : (commit.entry.client ≡ place → ⊥) → Others commit

  pub record IsPairSound (p : Core) : Type 0 where
    pub sure : IsSure p.server
    pub sure_of : IsSure p.client
    pub numbered : Possibly AreNumbered p.client
    pub planned : Possibly ArePlanned p.client
    pub listed : Possibly (AllByRecursion (IsListedAt p.place p.client)) p.server
    pub once : Possibly AreOnce p.server

  -- another node of the client
  abbrev StaysKnown : Core → Node ClientState → Commit → Type 0
  StaysKnown p n commit = commit.entry.client ≡ p.place → Possibly (Knows commit) p.client → Possibly (Knows commit) n

  client_sound : (p : Core) (n : Node ClientState) → (IsSure p.client → IsSure n)
      → (Possibly AreNumbered p.client → Possibly AreNumbered n) → (Possibly ArePlanned p.client → Possibly ArePlanned n)
      → Possibly (AllByRecursion (StaysKnown p n)) p.server → IsPairSound p → IsPairSound (with_client n p)
  client_sound p n sure numbered planned known sound = record {
    sure = sound.sure;
    sure_of = sure sound.sure_of;
    numbered = numbered sound.numbered;
    planned = planned sound.planned;
    listed = possibly_with p.server
        (λ list. all_with (StaysKnown p n) (IsListedAt p.place p.client) (IsListedAt p.place n) list stays) known sound.listed;
    once = sound.once;
  }
    where
      stays : (commit : Commit) → StaysKnown p n commit → IsListedAt p.place p.client commit → IsListedAt p.place n commit
      stays commit known it = record { own = λ same. known same (it.own same); other = it.other }

  pub continues_sound : (p : Core) (n : Node ClientState) → Continues p.client n → IsPairSound p → IsPairSound (with_client n p)
  continues_sound p n continues sound = client_sound p n continues.sure continues.numbered continues.planned
      (possibly_of p.server (λ list. all_of (StaysKnown p n) list (λ commit same. continues.known commit))) sound

  -- ---- a commit of the first that waits

  -- sound, the client is alive, and this is the commit of its first transaction
  pub record Submits (item : Item) (commit : Commit) (p : Core) : Type 0 where
    pub items : List Item
    pub sound : IsPairSound p
    pub alive : p.client.alive ≡ true
    pub first : p.client.durable.items ≡ item ∷ items
    pub stage : IsReady item.stage
    pub is : commit ≡ commit_of p.place item

  -- the server appends it, or stops in that
  commit_sound : (item : Item) (commit : Commit) (p : Core) (n : Node (List Commit)) (text : List ℕ) (on : Bool) → Submits item commit p
      → number_of commit p.server.durable ≡ None → Appends server_name (add_commit commit) p.server text on n
      → IsPairSound (with_server n p)
  commit_sound item commit p n text on here none step = record {
    sure = appends_sure server_name (add_commit commit) p.server n text on here.sound.sure step;
    sure_of = here.sound.sure_of;
    numbered = here.sound.numbered;
    planned = here.sound.planned;
    listed = appends_possibly server_name (add_commit commit) p.server n text on
        (all_push (IsListedAt p.place p.client) p.server.durable commit new) here.sound.listed step;
    once = appends_possibly server_name (add_commit commit) p.server n text on
        (once_push p.server.durable commit (none_of commit p.server.durable none)) here.sound.once step;
  }
    where
      known : Knows commit p.client.durable
      known = subst (λ (one : Commit). Knows one p.client.durable) (sym here.is)
          (first_known p.place item here.items p.client.durable here.sound.numbered.is here.first here.stage)

      new : IsListedAt p.place p.client commit
      new = record {
        own = λ same. possibly_sure p.client (here.sound.sure_of here.alive) known;
        other = λ never. absurd (never (ap (λ (one : Commit). one.entry.client) here.is));
      }

  -- ---- a first transaction that is not in the list

  abbrev pub IsOther : ℕ → List Item → Commit → Type 0
  IsOther place items commit = commit.entry.client ≡ place → FirstIsAnother commit items

  -- no commit in the list, or in the list in doubt, is of the first transaction of this client
  pub record IsFree (p : Core) : Type 0 where
    pub each : Possibly (AllByRecursion (IsOther p.place p.client.durable.items)) p.server

  -- one that submits nothing is not in the list
  pub stuck_free : (p : Core) (item : Item) (items : List Item) → (IsReady item.stage → ⊥) → IsPairSound p
      → p.client.durable.items ≡ item ∷ items → IsFree p
  stuck_free p item items stuck sound first = record {
    each = possibly_as p.server
        (λ list. all_as (IsListedAt p.place p.client) (IsOther p.place p.client.durable.items) list other) sound.listed;
  }
    where
      other : (commit : Commit) → IsListedAt p.place p.client commit → IsOther p.place p.client.durable.items commit
      other commit it same =
          let waits : WaitsFirst commit p.client.durable.items = (it.own same).is.waits in
          subst (FirstIsAnother commit) (sym first) (λ is. stuck ((subst (WaitsFirst commit) first waits).0 is).stage)

  -- nor is one whose commit has no number, as long as the list is not in doubt
  apart_free : (item : Item) (commit : Commit) (p : Core) → Submits item commit p → p.server.doubt ≡ None
      → number_of commit p.server.durable ≡ None → IsFree p
  apart_free item commit p here sure none = record {
    each = possibly_sure p.server sure
        (all_as (IsApart commit) (IsOther p.place p.client.durable.items) p.server.durable other (none_of commit p.server.durable none));
  }
    where
      not_both : (a b n k : ℕ) → a ≡ b → n ≡ k → ((a == b) && (n == k)) ≡ false → ⊥
      not_both a b n k = grind (arith, nat_tests)

      other : (one : Commit) → IsApart commit one → IsOther p.place p.client.durable.items one
      other one apart same = subst (FirstIsAnother one) (sym here.first) (λ is.
          not_both commit.entry.client one.entry.client commit.entry.number one.entry.number
          (ap (λ (it : Commit). it.entry.client) here.is ∙ sym same) (ap (λ (it : Commit). it.entry.number) here.is ∙ is) apart)

  -- ---- since the start of an event

  module _ (b : Core) where
    -- sound, and since the start each node has stopped at most once
    pub record IsFine (p : Core) : Type 0 where
      pub sound : IsPairSound p
      pub place : p.place ≡ b.place
      pub server : StopsOnce b.server p.server
      pub client : StopsOnce b.client p.client

    abbrev pub IsGood : Pair → Type 0
    IsGood pair = IsFine (core pair)

    -- and the client is alive
    pub record IsUp (p : Core) : Type 0 where
      pub good : IsFine p
      pub alive : p.client.alive ≡ true

    abbrev pub IsAwake : Pair → Type 0
    IsAwake pair = IsUp (core pair)

    -- and one more may run
    pub record IsRoomy (p : Core) : Type 0 where
      pub up : IsUp p
      pub room : length p.client.durable.running < most_running

    -- and this is its first transaction, which is not in the list
    pub record IsOpen (item : Item) (p : Core) : Type 0 where
      pub items : List Item
      pub good : IsFine p
      pub alive : p.client.alive ≡ true
      pub first : p.client.durable.items ≡ item ∷ items
      pub free : IsFree p

    -- this holds unless its event is over
    abbrev pub HoldsIf : {A : Type 0} → (Core → Type 0) → Option A → Pair → Type 0
    HoldsIf R answer = IfGoes IsGood (λ _ pair. R (core pair)) answer

    -- it is alive unless its event is over
    abbrev pub AwakeIf : {A : Type 0} → Option A → Pair → Type 0
    AwakeIf answer = HoldsIf IsUp answer

    -- ---- its record

    -- what such a record makes of it is sound
    abbrev GoesSound : (Core → Type 0) → (ClientState → ClientState) → Type 0
    GoesSound P change = (p : Core) (name : List ℕ) (n : Node ClientState) (text : List ℕ) (on : Bool) → P p
        → Appends name change p.client text on n → IsPairSound (with_client n p)

    -- and this holds of what it makes if it goes on
    abbrev GoesTo : (P R : Core → Type 0) → (ClientState → ClientState) → Type 0
    GoesTo P R change = (p : Core) (n : Node ClientState) → P p → n.durable ≡ change p.client.durable → IsUp (with_client n p)
        → R (with_client n p)

    notes_keeps : (P R : Core → Type 0) (change : ClientState → ClientState) → ((p : Core) → P p → IsUp p) → GoesSound P change
        → GoesTo P R change → Keeps (λ pair. P (core pair)) (Notes change) (λ a. HoldsIf R a)
    notes_keeps P R change up goes to = keeps_then {Q = written} (record { at = by_answer }) by_on
      where
        written : Bool → Pair → Type 0
        written true = λ pair. R (core pair)
        written false = IsGood

        fine : (p : Core) (name : List ℕ) (n : Node ClientState) (text : List ℕ) (on : Bool) → P p
            → Appends name change p.client text on n → IsFine (with_client n p)
        fine p name n text on here step = record {
          sound = goes p name n text on here step;
          place = (up p here).good.place;
          server = (up p here).good.server;
          client = appends_once name change b.client p.client n text on
              (steady_alive b.client p.client (up p here).good.client (up p here).alive) step;
        }

        by_answer : (m n : Pair) (text : List ℕ) (on : Bool) → P (core m) → At its_client (Writes change) m text on n → written on n
        by_answer m n text true here step =
            let inner : Node ClientState = step.step.inner in
            rw (step.is, step.step.is) (to (core m) inner here
            (appends_durable m.client.name change m.client.node inner text step.step.step) (record {
              good = fine (core m) m.client.name inner text true here step.step.step;
              alive = appends_alive m.client.name change m.client.node inner text (up (core m) here).alive step.step.step;
            }))
        by_answer m n text false here step =
            rw (step.is, step.step.is) (fine (core m) m.client.name step.step.inner text false here step.step.step)

        by_on : (on : Bool) → Keeps (written on) (Answers (unless_stopped on)) (λ a. HoldsIf R a)
        by_on true = keeps_gets (λ m it. it)
        by_on false = keeps_gets (λ m it. it)

    -- a state that follows the other one is as sound
    module _ (P : Core → Type 0) (change : ClientState → ClientState) (up : (p : Core) → P p → IsUp p)
        (follows : (p : Core) → P p → Follows p.client.durable (change p.client.durable)) where
      follows_sound : GoesSound P change
      follows_sound p name n text on here step =
          continues_sound p n (appends_continues name change p.client n text on (follows p here) step) (up p here).good.sound

      pub notes_awake : Keeps (λ pair. P (core pair)) (Notes change) (λ a. AwakeIf a)
      notes_awake = notes_keeps P IsUp change up follows_sound (λ p n here is up. up)

    -- as many run as before
    pub notes_roomy : (t : Nodes) → Keeps (λ pair. IsRoomy (core pair)) (Notes (hold t)) (λ a. HoldsIf IsRoomy a)
    notes_roomy t = notes_keeps IsRoomy IsRoomy (hold t) (λ p it. it.up)
        (follows_sound IsRoomy (hold t) (λ p it. it.up) (λ p it. hold_follows t p.client.durable))
        (λ p n it is up. record {
          up = up;
          room = subst (λ (s : ClientState). length s.running < most_running) (sym is) it.room;
        })

    pub up_of : (item : Item) (p : Core) → IsOpen item p → IsUp p
    up_of item p it = record { good = it.good; alive = it.alive }

    -- the first transaction, which is not in the list, may change
    pub notes_first : (change : Item → Item) → ((item : Item) → (change item).number ≡ item.number) → (item : Item)
        → (HasPlan item → HasPlan (change item)) → Keeps (λ pair. IsOpen item (core pair)) (Notes (change_first change)) (λ a. AwakeIf a)
    notes_first change same item plan =
        notes_keeps (IsOpen item) IsUp (change_first change) (up_of item) goes (λ p n here is up. up)
      where
        goes : GoesSound (IsOpen item) (change_first change)
        goes p name n text on it step = client_sound p n
            (λ sure. appends_sure name (change_first change) p.client n text on sure step)
            (λ all. appends_possibly name (change_first change) p.client n text on (first_numbered change same p.client.durable) all step)
            (λ all. appends_possibly name (change_first change) p.client n text on
            (first_planned change same item it.items p.client.durable it.first plan) all step)
            (possibly_as p.server
            (λ list. all_as (IsOther p.place p.client.durable.items) (StaysKnown p n) list
            (λ commit other is known.
            appends_possibly name (change_first change) p.client n text on
            (first_known_still change same commit p.client.durable (other is)) known step))
            it.free.each)
            it.good.sound

    pub notes_reach : (stage : Stage) (item : Item) → (HasPlan item → IsPlanned item.option stage)
        → Keeps (λ pair. IsOpen item (core pair)) (Notes (reach stage)) (λ a. AwakeIf a)
    notes_reach stage item plan = notes_first (at_stage stage) (λ item. refl) item plan

    -- ---- submissions

    -- the answer to a submission is a conflict
    abbrev Contests : Option Verdict → Type 0
    Contests None = ⊥
    Contests (Some (Settled number)) = ⊥
    Contests (Some (Conflict read question)) = Unit {0}

    -- good, the client is alive, and what conflicts is not in the list
    pub record IsJudged (item : Item) (verdict : Option Verdict) (p : Core) : Type 0 where
      pub up : IsUp p
      pub apart : Contests verdict → IsOpen item p

    -- it submits this
    pub record HandsIn (item : Item) (commit : Commit) (p : Core) : Type 0 where
      pub good : IsFine p
      pub it : Submits item commit p

    module _ (item : Item) (it : Submission) (p : Core) (good : IsFine p) (here : Submits item it.commit p)
        (up : p.server.alive ≡ true) where
      abbrev IsJudgedWith : Option Verdict → Node (List Commit) → Type 0
      IsJudgedWith verdict node = IsJudged item verdict (with_server node p)

      -- with this server
      awake_with : (node : Node (List Commit)) → IsFine (with_server node p) → IsUp (with_server node p)
      awake_with node fine = record { good = fine; alive = here.alive }

      same_with : (node : Node (List Commit)) → node ≡ p.server → IsFine (with_server node p)
      same_with node is = subst (λ (node : Node (List Commit)). IsFine (with_server node p)) (sym is) good

      commits_good : number_of it.commit p.server.durable ≡ None
          → Keeps (λ node. node ≡ p.server) (Commits it.name it.commit) IsJudgedWith
      commits_good none = asks_then (λ text. keeps_then {Q = λ _ node. IsFine (with_server node p)} append (by_answer text))
        where
          append : Keeps (λ node. node ≡ p.server) (Appends server_name (add_commit it.commit)) (λ _ node. IsFine (with_server node p))
          append = record {
            at = λ node after text on is step.
                let now : Appends server_name (add_commit it.commit) p.server text on after =
                subst (λ (node : Node (List Commit)). Appends server_name (add_commit it.commit) node text on after) is step in
                record {
                  sound = commit_sound item it.commit p after text on here none now;
                  place = good.place;
                  server = appends_once server_name (add_commit it.commit) b.server p.server after text on
                      (steady_alive b.server p.server good.server up) now;
                  client = good.client;
                };
          }

          by_answer : (text : List ℕ) (on : Bool) → Keeps (λ node. IsFine (with_server node p)) (committed text on) IsJudgedWith
          by_answer text true = stays_then stays_says (λ _. keeps_asks (λ node fine.
              record { up = awake_with node fine; apart = λ never. absurd never }))
          by_answer text false = keeps_gets (λ node fine. record { up = awake_with node fine; apart = λ never. absurd never })

      certifies_good : number_of it.commit p.server.durable ≡ None → Keeps (λ node. node ≡ p.server) (Certifies it) IsJudgedWith
      certifies_good none = record { at = by_case }
        where
          open_now : IsOpen item p
          open_now = record {
            items = here.items;
            good = good;
            alive = here.alive;
            first = here.first;
            free = apart_free item it.commit p here (good.sound.sure up) none;
          }

          by_case : (node after : Node (List Commit)) (text : List ℕ) (verdict : Option Verdict) → node ≡ p.server
              → Certifies it node text verdict after → IsJudgedWith verdict after
          by_case node after text verdict is (holds reads commits) = (commits_good none).at node after text verdict is commits
          by_case node after text verdict is (conflicts parts nothing stays) = record {
            up = awake_with after (same_with after (stays ∙ is));
            apart = λ _. subst (λ (node : Node (List Commit)). IsOpen item (with_server node p)) (sym (stays ∙ is)) open_now;
          }

      judges_with : Keeps (λ node. node ≡ p.server) (Judges it) IsJudgedWith
      judges_with = keeps_then {Q = λ number node. (node ≡ p.server) × (number ≡ number_of it.commit p.server.durable)}
          (keeps_asks (λ node is. (is, ap (λ (n : Node (List Commit)). number_of it.commit n.durable) is))) by_number
        where
          by_number : (number : Option ℕ) → Keeps (λ node. (node ≡ p.server) × (number ≡ number_of it.commit p.server.durable))
              (judged it number) IsJudgedWith
          by_number (Some number) = keeps_gets (λ node is. record {
            up = awake_with node (same_with node is.0);
            apart = λ no_conflict. absurd no_conflict;
          })
          by_number None = record {
            at = λ node after text verdict is step. (certifies_good (sym is.1)).at node after text verdict is.0 step;
          }

    pub judges_good : (item : Item) (it : Submission)
        → Keeps (Reached (HandsIn item it.commit)) (At its_server (Judges it)) (λ verdict pair. IsJudged item verdict (core pair))
    judges_good item it = keeps_at (λ m here. judges_with item it (core m) here.0.good here.0.it here.1)

    pub judged_passes : (item : Item) (commit : Commit) → Passes Verdict (HandsIn item commit) (IsJudged item)
    judged_passes item commit = record {
      nothing = λ p here. record {
        up = record { good = here.good; alive = here.it.alive };
        apart = λ no_conflict. absurd no_conflict;
      };
      lost = λ a p it. record { up = it.up; apart = λ no_conflict. absurd no_conflict };
    }

    pub same_passes : {A : Type 0} (P : Core → Type 0) → Passes A P (λ _. P)
    same_passes P = record { nothing = λ p it. it; lost = λ a p it. it }

    pub brings_keeps : (P : Core → Type 0) (errand : Errand) → Keeps (λ pair. P (core pair)) (Brings errand) (λ _ pair. P (core pair))
    brings_keeps P errand = asks_then (λ held. exchange_keeps (same_passes P) (lends_keeps P held errand))
