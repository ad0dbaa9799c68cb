-- What a client is as the keeper of a node: how it starts, and what its disk holds.
use Rattle.std.{proofs.Common.is_some, proofs.lemmas.Bool.cond-true, proofs.lemmas.Bool.cond_both, specs.List.list_all}
use Rattle.iot_client.specs.Ties.{AreFound, classes_in}
use Rattle.{iot_disk.specs.declared.faults.StartFault.StartFault, iot_kept.proofs.SyncedLaws.synced_stands}
use Rattle.iot_kept.specs.{Rules.rules as kept_rules, Standing.EachStands, Standing.StandFor, Standing.StandWith, Standing.records_in}
use Rattle.iot_laptop.proofs.Common.{Besides, Bool, Client, ClientState, IsClientImage, IsTied, List, Live, Medium, None, Post, RunKept}
use Rattle.iot_laptop.proofs.Common.{Seated, Some, State, StateKept, Transaction, Up, ap, begun_of, besides, counts_on, disk_of, false}
use Rattle.iot_laptop.proofs.Common.{if◌then◌else◌, inl, inr, live_by, live_of, live_with, none_besides, place_of, records_of, refl, rules}
use Rattle.iot_laptop.proofs.Common.{same_Some, same_counts, seating, stamps_by, stamps_of, state_of, subst, sym, true, ℕ, [], ◌∙◌, ◌∷◌}
use Rattle.iot_laptop.{proofs.Common.◌≡◌, specs.Seats.IsSeated}
use Rattle.iot_node.specs.Keeping.{CanStart, Comes, CountsStart, EachIs, Fails, HoldSame}
use Rattle.{iot_slots.specs.Cells.next, iot_stamp.proofs.TrailsLaws.none_lent}
use Rattle.{iot_stamp.specs.Stamps.unstamped, iot_stamp.specs.Trails.lent_stamps, iot_standing.proofs.RunsLaws.none_live}
use Rattle.iot_machine.specs.Clients as clients
use Rattle.iot_durable.specs.Causes as causes
use Rattle.iot_disk.specs.declared.faults.StartFault.TheVariants as faults
use Rattle.iot_node.specs.Posts as posts

-- ---- what is known besides

-- of those that a start found none was begun since
pub found_none : (lives : List Live) → AreFound lives → begun_of lives ≡ []
found_none [] found = refl
found_none (live ∷ lives) found = rw found.0.none

all_begun : (first : List ℕ) (ms : List clients.Running) → list_all (λ live. is_some live.code) (live_with first ms) ≡ true
all_begun first [] = refl
all_begun first (m ∷ ms) = all_begun first ms

-- all of these were begun
pub begun_all : (first : List ℕ) (ms : List clients.Running) → begun_of (live_with first ms) ≡ live_with first ms
begun_all first ms = cond-true _ _ _ (all_begun first ms)

-- nothing runs
pub none_runs : (running : List Transaction) → RunKept running [] → running ≡ []
none_runs [] kept = refl
none_runs (it ∷ running) kept = absurd kept

-- so nothing is known of what runs
pub none_known : {D : Type 0} {medium : Medium D} (it : Client D) → IsTied medium it → (state_of it).running ≡ [] → live_of it ≡ []
none_known it tied none = none_live (classes_in it) it.interpreters.items (rw none at tied.runs)

-- what was begun tells all, of a client whose machine's client has these running
pub known_again : {D : Type 0} {medium : Medium D} (it : Client D) → IsTied medium it → (first : List ℕ) (ms : List clients.Running)
    → RunKept (state_of it).running ms → begun_of (live_of it) ≡ live_with first ms → live_of it ≡ live_with first ms
known_again it tied first ms kept begun =
    cond_both (list_all (λ (live : Live). is_some live.code) (live_of it)) (live_of it) []
    (λ all. all ≡ live_with first ms → live_of it ≡ live_with first ms) (λ is whole. whole) (λ is. none ms kept) begun
  where
    none : (ms : List clients.Running) → RunKept (state_of it).running ms → [] ≡ live_with first ms → live_of it ≡ live_with first ms
    none [] kept is = none_known it tied (none_runs (state_of it).running kept)
    none (m ∷ ms) kept is = absurd cc

-- so it is of a node; nothing is known besides of one that is down
abbrev pub besides_by : {D : Type 0} → Post (Seated D) D → Besides
besides_by post = record { begun = begun_of (live_by post); lent = lent_stamps (stamps_by post) }

pub besides_again : {D : Type 0} (old new : Post (Seated D) D) → posts.live_of besides new ≡ posts.live_of besides old
    → besides_by new ≡ besides_by old
besides_again (Up a) (Up b) same = same_Some _ _ same
besides_again (Up a) new same = absurd cc
besides_again old (Up b) same = absurd cc
besides_again old new same = refl

-- no stamp is a server's after a start
pub fresh_lent : {D : Type 0} (post : Post (Seated D) D) (on : Bool)
    → posts.live_of besides post ≡ (if on then Some none_besides else None) → lent_stamps (stamps_by post) ≡ None
fresh_lent (Up b) true same = ap (λ (k : Besides). k.lent) (same_Some _ _ same)
fresh_lent (Up b) false same = absurd cc
fresh_lent post on same = none_lent _

-- ---- its disk

-- images that stand for this state, with as many records, are what the client keeps
stand_images : (images : List ℕ → Type 0) (records count : ℕ) (state : State) (m : ClientState) → EachStands images records state
    → records ≡ count → StateKept state m → EachIs images (λ image. IsClientImage image count m)
stand_images images records count state m stands same kept = record {
  each = λ image left. record { state = state; stands = rw same at (stands.each image left); kept = kept };
}

module _ {D : Type 0} (medium : Medium D) where
  -- each image of its disk is what it keeps
  pub seat_images : (place count : ℕ) (seated : Seated D) (m : ClientState) → IsSeated medium place seated count m
      → EachIs (medium.may_leave (disk_of seated.client)) (λ image. IsClientImage image count m)
  seat_images place count seated m here =
      stand_images (medium.may_leave (disk_of seated.client)) (records_of seated.client) count (state_of seated.client) m
      (synced_stands medium seated.client.kept here.tied.synced) here.counted here.kept

  module _ (disk : D) where
    -- what is known besides after a start
    pub seat_fresh : (it : Client D) → AreFound (live_of it) → stamps_of it ≡ unstamped (state_of it).held
        → besides (record { client = it }) ≡ none_besides
    seat_fresh it found stamps =
        (λ i. record { begun = found_none (live_of it) found i; lent = (ap lent_stamps stamps ∙ none_lent (state_of it).held) i })

    -- images that stand for what the disk stood for hold the same
    hold_same : (place : ℕ) (images : List ℕ → Type 0)
        → ((state : State) → StandFor (medium.reads disk) state → EachStands images (records_in (medium.reads disk)) state)
        → HoldSame (seating medium place) (medium.reads disk) images
    hold_same place images stand = record { stand = holds; turn = λ count m after is. holds (next count) after is }
      where
        holds : (count : ℕ) (m : ClientState) → IsClientImage (medium.reads disk) count m
            → EachIs images (λ image. IsClientImage image count m)
        holds count m is =
            stand_images images (records_in (medium.reads disk)) count is.state m (stand is.state is.stands.stands) is.stands.counted
            is.kept

    pub seat_comes : (place : ℕ) (it : Client D) → ((state : State) → StandFor (medium.reads disk) state → state_of it ≡ state)
        → StandWith (medium.reads disk) (records_of it) (state_of it) → IsTied medium it → place_of it ≡ place
        → ((state : State) → StandFor (medium.reads disk) state
        → EachStands (medium.may_leave (disk_of it)) (records_in (medium.reads disk)) state)
        → medium.faults (disk_of it) ≡ medium.faults disk → medium.arms (disk_of it) ≡ medium.arms disk
        → Comes (seating medium place) medium disk (record { client = it })
    seat_comes place it only stands tied place_is images steady arms = record {
      from = from;
      turned = λ count m after is. from (next count) after is;
      images = hold_same place (medium.may_leave (disk_of it)) images;
      counts = same_counts medium disk (disk_of it) steady arms;
    }
      where
        from : (count : ℕ) (m : ClientState) → IsClientImage (medium.reads disk) count m
            → IsSeated medium place (record { client = it }) count m
        from count m is =
            let kept = subst (λ (state : State). StateKept state m) (sym (only is.state is.stands.stands)) is.kept in search rules

    counts_by : (fault : StartFault) (left : D) → causes.TakesBytes fault
        → causes.HasCause kept_rules fault (medium.reads disk) (medium.faults disk) (medium.faults left)
        → medium.arms left ≡ medium.arms disk → CountsStart fault (counts_on medium disk) (counts_on medium left)
    counts_by faults.NoMemory left takes cause arms = same_counts medium disk left cause arms
    counts_by faults.Stopped left takes cause arms = record { faults = cause; arms = arms }
    counts_by other left takes cause arms = absurd takes

    pub seat_fails : (place : ℕ) (fault : StartFault) (left : D) → CanStart (seating medium place) (medium.reads disk)
        → ((state : State) → StandFor (medium.reads disk) state → causes.TakesBytes fault)
        → causes.HasCause kept_rules fault (medium.reads disk) (medium.faults disk) (medium.faults left)
        → ((state : State) → StandFor (medium.reads disk) state
        → EachStands (medium.may_leave left) (records_in (medium.reads disk)) state) → medium.arms left ≡ medium.arms disk
        → Fails (seating medium place) medium disk left fault
    seat_fails place fault left can never cause images arms =
        let takes : causes.TakesBytes fault =
        elim can.either [ inl is ↦ never is.state is.stands.stands | inr is ↦ never is.state is.stands.stands ] in
        record { images = hold_same place (medium.may_leave left) images; counts = counts_by fault left takes cause arms }
