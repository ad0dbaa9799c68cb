-- Bytes that encode a list of commits: with one commit more, after a start, on two disks, and after a commit that was cut off.
use Rattle.std.proofs.Common.{◌≡◌, ◌⊎◌, ℕ, List, [], ◌∷◌, Some, refl, sym, ap, subst, ◌∙◌, inl, inr, arith, ◌+◌, ◌++◌, length, map}
use Rattle.std.proofs.lemmas.Bool.Decides.{nat_tests}
use Rattle.std.proofs.lemmas.List.{append-nil, map-append, length-map}
use Rattle.std.proofs.lemmas.Option.{same_Some}
use Rattle.std.specs.Prelude.{◌≢◌}
use Rattle.iot_backup.proofs.PairsLaws.{follows_same, no_next}
use Rattle.iot_backup.specs.Pairs.{counted}
use Rattle.iot_backup.specs.Start.{last_of}
use Rattle.iot_disk.specs.Disk.{Only, SameImages}
use Rattle.iot_durable.specs.Standing.{EachIsBroughtUp, MakesBy, StandWith, EachGoes, IsRenewed, EachOpens, EachStands, MakesOf}
use Rattle.iot_exec.specs.Serial.{run_entry}
use Rattle.iot_judging.proofs.ListsLaws.{stamps_split}
use Rattle.iot_judging.specs.Lists.{state_of}
use Rattle.iot_judging.specs.Records.{EncodesList, HasList, IsImage, LacksCommit, AreOf}
use Rattle.iot_machine.specs.Machine.{Commit, tree_after, add_commit}
use Rattle.iot_machine.specs.Recorded.{label_of}
use Rattle.iot_judging.proofs.RecordsLaws.{last_pushed, more_longer, list_push, tree_after_more}
use Rattle.iot_slots.specs.Cells.{next}
use Rattle.iot_slots.specs.Decoding.{opened, state_of as encoded_in, Decoded, Encodes, NotStarted, State as Encoded, decoded, state_in}
use Rattle.iot_slots.specs.Slots.{appended}
use Rattle.iot_slots.specs.declared.version.Version.TheVariants.{Two}
use Rattle.iot_stamp.proofs.ActingLaws.{all_of_acts}
use Rattle.iot_stamp.specs.Acting.{stamped_acts, stamped_all}
use Rattle.iot_store.proofs.StandingLaws.{stands_one, cut_off, renewed_count, renewed_makes}
use Rattle.iot_store.specs.Records.{record_spelling, IsRecord}
use Rattle.iot_store.specs.Rules.{header, rules}
use Rattle.iot_store.specs.Stamps.{opening_stamps, next_stamp}
use Rattle.iot_store.specs.Standing.{MayStart, MayFollow, StandFor, records_in}
use Rattle.iot_store.specs.States.{opening, State, after_commit, CanFollow}
use Rattle.iot_tree.specs.Tree.{root_alone}
use Rattle.iot_tree.specs.declared.access.Access.{Access}
use Rattle.iot_tree.specs.declared.labels.Label.{Label}
use Rattle.iot_tree.specs.declared.nodes.Node.TheVariants.{Dir}

-- ---- what is opened of a disk

-- the body of a checkpoint of the opening state
abbrev IsOpening : List ℕ → Type 0
IsOpening body = (rules Two).IsBody body (rules Two).opening

-- only an empty list has that state
no_commits : (commits : List Commit) → state_of commits ≡ opening → commits ≡ []
no_commits [] is = refl
no_commits (commit ∷ commits) is = let none = ap (λ (s : State). s.labels) is in absurd cc

module _ (body : List ℕ) where
  opened_number : (d : Decoded) → (encoded_in (opened body d)).count ≡ (encoded_in d).count
  opened_number NotStarted = refl
  opened_number d = refl

  opened_count : (d : Decoded) (encoded : Encoded) → opened body d ≡ Encodes encoded → encoded.count ≡ (encoded_in d).count
  opened_count d encoded is = ap (λ (d : Decoded). (encoded_in d).count) (sym is) ∙ opened_number d

  pub opened_has : (d : Decoded) (encoded : Encoded) (commits : List Commit) → IsOpening body → HasList d commits
      → opened body d ≡ Encodes encoded → EncodesList encoded commits
  opened_has (Encodes e) encoded commits spells list is = rw (sym (ap encoded_in is)) list
  opened_has NotStarted encoded commits spells list is =
      rw (sym (ap encoded_in is), list) (record { front = []; later = []; split = refl; spells = spells; records = refl })
  opened_has d encoded commits spells list is = absurd list

  -- what is opened as a disk with a list is, and stands for the state of that list, has it
  list_again : (d e : Decoded) (commits : List Commit) → IsOpening body → HasList d commits → opened body e ≡ opened body d
      → MakesBy rules e (state_of commits) → HasList e commits
  list_again d (Encodes encoded) commits spells list same makes = opened_has d encoded commits spells list (sym same)
  list_again d NotStarted commits spells list same makes = no_commits commits makes
  list_again d e commits spells list same makes = absurd makes

-- ---- what a start from two images needs

counted_there : (d : Decoded) (commits : List Commit) → HasList d commits → counted d ≡ Some (encoded_in d).count
counted_there (Encodes encoded) commits list = refl
counted_there NotStarted commits list = refl
counted_there d commits list = absurd list

pub counted_image : (bytes : List ℕ) (n : ℕ) (commits : List Commit) → IsImage bytes n commits → counted (decoded header bytes) ≡ Some n
counted_image bytes n commits is = counted_there (decoded header bytes) commits is.list ∙ ap (λ (k : ℕ). Some k) is.many

module _ (one other : List ℕ) where
  -- two images of one list
  pub alike_start : (n : ℕ) (commits : List Commit) → IsImage one n commits → IsImage other n commits → MayStart one other
  alike_start n commits is also = record {
    follows = record {
      step = record {
        first = n;
        second = n;
        first_is = counted_image one n commits is;
        second_is = counted_image other n commits also;
        step = follows_same n n refl;
      };
      behind = λ body s t first second more.
          absurd (no_next n (sym (opened_count body (decoded header one) s first ∙ is.many) ∙ more
          ∙ ap next (opened_count body (decoded header other) t second ∙ also.many)));
    };
    together = λ short state stands.
        rw (stands_one one state (state_of commits) (omega (arith, short)) stands is.stands)
        (inl (record { stands = also.stands; counted = also.many ∙ sym is.many }));
  }

-- ---- an image of the second disk after a start from both

-- one of a second disk that lacks the last commit lacks it still
pub lacks_still : {one other i j : List ℕ} {n : ℕ} {commits longer : List Commit} → LacksCommit one other n commits longer → i ≡ one
    → IsImage j n commits → MayFollow i j → LacksCommit i j n commits longer
lacks_still lacks same image follows = record {
  commit = lacks.commit;
  is = lacks.is;
  image = image;
  lacks = record {
    encoded = lacks.lacks.encoded;
    body = lacks.lacks.body;
    before = lacks.lacks.before;
    change = lacks.lacks.change;
    is = ap (decoded header) same ∙ lacks.lacks.is;
    makes = lacks.lacks.makes;
    next = lacks.lacks.next;
    follows = lacks.lacks.follows;
    after = lacks.lacks.after;
    other = record {
      stands = rw lacks.before image.stands;
      counted = image.many ∙ sym lacks.image.many ∙ lacks.lacks.other.counted;
    };
  };
  before = lacks.before;
  follows = follows;
}

module _ {one other : List ℕ} {others : List ℕ → Type 0} (encodes : EachIsBroughtUp rules others one other) (j : List ℕ)
    (there : others j) where
  -- one that stands for the list that was there has it
  pub kept_there : {n : ℕ} {commits : List Commit} → IsImage other n commits → StandFor j (state_of commits) → records_in j ≡ n
      → IsImage j n commits
  kept_there {n} {commits} had stands many = record { stands = stands; list = has; many = many; counted = had.counted }
    where
      has : HasList (decoded header j) commits
      has = elim (encodes.each j there) [
        | inl it ↦ rw it had.list
        | inr up ↦ elim up.2 [
          | inl again ↦ list_again up.0 (decoded header other) (decoded header j) commits up.1 had.list again
              (subst (λ (d : Decoded). MakesBy rules d (state_of commits)) (sym stands.is) stands.makes)
          | inr it ↦ absurd (no_next n (sym many ∙ ap (λ (d : Decoded). (encoded_in d).count) it.5
              ∙ ap next (opened_count up.0 (decoded header other) it.1 it.3 ∙ had.many)))
        ]
      ]

  -- one that stands for the list with the commit that was lacking has that
  pub brought_there : {n : ℕ} {commits longer : List Commit} → IsImage one (next n) longer → LacksCommit one other n commits longer
      → StandFor j (state_of longer) → records_in j ≡ next n → IsImage j (next n) longer
  brought_there {n} {commits} {longer} is lacks stands many =
      record { stands = stands; list = has; many = many; counted = is.counted }
    where
      fewer : records_in j ≡ records_in other → ⊥
      fewer same = no_next n (sym (same ∙ lacks.image.many) ∙ many)

      has : HasList (decoded header j) longer
      has = elim (encodes.each j there) [
        | inl it ↦ absurd (fewer (ap records_in it))
        | inr up ↦ elim up.2 [
          | inl again ↦ absurd (fewer (sym (opened_number up.0 (decoded header j)) ∙ ap (λ (d : Decoded). (encoded_in d).count) again
              ∙ opened_number up.0 (decoded header other)))
          | inr it ↦
              let last = lacks.lacks in
              let read : it.0 ≡ appended last.encoded last.body = ap encoded_in (sym it.2 ∙ ap (opened up.0) last.is) in
              let body = ap (λ (e : Encoded). last_of e.bodies) read ∙ last_pushed [] last.encoded.bodies last.body in
              rw (it.5 ∙ ap (λ (body : List ℕ). Encodes (appended it.1 body)) body)
              (more_longer last.encoded it.1 last.body commits longer lacks.commit lacks.is (rw last.is at is.list)
              (opened_has up.0 (decoded header other) it.1 commits up.1 lacks.image.list it.3))
        ]
      ]

-- ---- one commit more

-- the record and the state after a commit with this label, this access and these lines
module _ (commits : List Commit) {commit : Commit} {label : Label} {access : Access} {lines : List (List ℕ)}
    (are : AreOf commit (tree_after commits) label access lines) where
  pub record_is : (encoded : Encoded) (body : List ℕ) → IsRecord body label access lines → EncodesList encoded commits
      → EncodesList (appended encoded body) (add_commit commit commits)
  record_is encoded body spells list =
      list_push commits commit
      (sym spells.spelled ∙ sym (λ i. record_spelling (are.has_label i) (are.has_access i) (are.has_lines i))) list

  pub state_is : state_of (add_commit commit commits) ≡ after_commit (state_of commits) label access
  state_is =
      let number : 0 + length commits ≡ length (map label_of commits) = omega (arith, length-map commits label_of) in
      let stamps =
      stamps_split commits (commit ∷ []) (root_alone Dir) opening_stamps 0
      ∙ (λ i. stamped_acts (state_of commits).stamps (run_entry commit.entry (tree_after commits)).acts (next_stamp (number i)))
      ∙ sym (all_of_acts (next_stamp (length (map label_of commits))) (state_of commits).stamps
      (run_entry commit.entry (tree_after commits)).acts)
      ∙ ap (λ (a : Access). stamped_all (state_of commits).stamps a.updates (next_stamp (length (map label_of commits)))) are.has_access
      in
      λ i. record {
        tree = (tree_after_more commits (commit ∷ []) ∙ are.made) i;
        labels = (map-append label_of commits (commit ∷ []) ∙ ap (λ (l : Label). map label_of commits ++ l ∷ []) are.has_label) i;
        stamps = stamps i;
      }

-- what was encoded has the list, and so has a checkpoint of its state alone
pub renewed_list : (was encoded : Encoded) (commits : List Commit) → IsRenewed rules was (state_of commits) encoded
    → EncodesList was commits → EncodesList encoded commits
renewed_list was encoded commits (inl same) list = rw same list
renewed_list was encoded commits (inr alone) list =
    rw alone.is
    (record { front = commits; later = []; split = sym (append-nil commits); spells = alone.spells; records = refl })

-- ---- images

-- bytes that stand for the state of a list and encode it
pub image_is : (bytes : List ℕ) (n : ℕ) (commits : List Commit) {encoded : Encoded} → decoded header bytes ≡ Encodes encoded
    → EncodesList encoded commits → StandWith rules bytes n (state_of commits) → n ≡ length commits → IsImage bytes n commits
image_is bytes n commits is list stands counted = record {
  stands = stands.stands;
  list = subst (λ (d : Decoded). HasList d commits) (sym is) list;
  many = stands.counted;
  counted = counted;
}

-- a disk on which nothing was started has no commits
pub empty_image : (bytes : List ℕ) → decoded header bytes ≡ NotStarted → IsImage bytes 0 []
empty_image bytes is = record {
  stands = record { decoding = NotStarted; is = is; makes = refl };
  list = subst (λ (d : Decoded). HasList d []) (sym is) refl;
  many = ap (λ (d : Decoded). (encoded_in d).count) is;
  counted = refl;
}

-- ---- a start

-- whether it is started
is_started : (d : Decoded) → (d ≡ NotStarted) ⊎ (d ≢ NotStarted)
is_started NotStarted = inl refl
is_started d = inr (λ none. absurd cc)

-- What a start leaves of a disk with these bytes, each image of which was one of those: it stands for the state for which they stood. A
-- disk that was started is only read, and one that was not is not, or was just started.
pub record Starts (bytes : List ℕ) (before now : List ℕ → Type 0) : Type 0 where
  pub stands : (state : State) → StandFor bytes state → EachStands rules now (records_in bytes) state
  pub same : decoded header bytes ≢ NotStarted → SameImages before now
  pub opens : decoded header bytes ≡ NotStarted → EachOpens rules now

-- images of a disk that is started, or has the same images as before, hold the same
pub hold_too : {bytes : List ℕ} {before now : List ℕ → Type 0} → Only bytes before → Starts bytes before now → (n : ℕ)
    (commits : List Commit) → IsImage bytes n commits → (other : List ℕ) → now other → IsImage other n commits
hold_too {bytes} only it n commits is other there = elim (is_started (decoded header bytes)) [
  | inl none ↦
      let stands = (it.stands (state_of commits) is.stands).each other there in
      let empty : commits ≡ [] = subst (λ (d : Decoded). HasList d commits) none is.list in
      record {
        stands = stands.stands;
        list = elim ((it.opens none).each other there) [
          | inl still ↦ rw still empty
          | inr fresh ↦ rw fresh.2 (opened_has fresh.0 NotStarted (state_in Two fresh.0 [] 0) commits fresh.1 empty refl)
        ];
        many = stands.counted ∙ is.many;
        counted = is.counted;
      }
  | inr some ↦ subst (λ (l : List ℕ). IsImage l n commits) (sym (only.is other ((it.same some).was other there))) is
]

-- ---- a commit that was cut off

module _ (n : ℕ) (commits : List Commit) (commit : Commit) where
  -- an image with its record, which one of the other disk without it may follow
  abbrev pub With : List ℕ → Type 0
  With image =
      IsImage image (next n) (add_commit commit commits)
      × ((j : List ℕ) → IsImage j n commits → MayFollow image j → LacksCommit image j n commits (add_commit commit commits))

  abbrev pub Cut : List ℕ → Type 0
  Cut image = IsImage image n commits ⊎ With image

  -- a backup does not have it before the disk has it
  pub never_before : (i j : List ℕ) → IsImage i n commits → IsImage j (next n) (add_commit commit commits) → MayFollow i j → ⊥
  never_before i j one other follows =
      let it = follows.step in
      let first : it.first ≡ n = same_Some _ _ (sym it.first_is ∙ counted_image i n commits one) in
      let second : it.second ≡ next n =
      same_Some _ _ (sym it.second_is ∙ counted_image j (next n) (add_commit commit commits) other) in
      let step = it.step in grind (arith, nat_tests)

module _ (commits : List Commit) {commit : Commit} {label : Label} {access : Access} {lines : List (List ℕ)}
    (are : AreOf commit (tree_after commits) label access lines) (n : ℕ) (follows : CanFollow (state_of commits) label access)
    (counted : n ≡ length commits) (one_more : next n ≡ length (add_commit commit commits)) where
  -- an image of a disk that had the list
  pub one_cut : (was : Encoded) → was.count ≡ n → MakesOf rules was (state_of commits) → EncodesList was commits
      → {images : List ℕ → Type 0}
      → EachGoes rules images was (state_of commits) (record { label = label; access = access; lines = lines }) → (image : List ℕ)
      → images image → Cut n commits commit image
  one_cut was many makes list goes image there =
      let it = cut_off was n (state_of commits) many makes (record { label = label; access = access; lines = lines }) follows goes
      image there in
      let has = renewed_list was it.encoded commits it.renews list in
      elim it.either [
        | inl without ↦ inl (image_is image n commits without.0 has without.1 counted)
        | inr one ↦ inr (
          image_is image (next n) (add_commit commit commits) one.2 (record_is commits are it.encoded one.0 one.1.spells has)
              (subst (λ (s : State). StandWith rules image (next n) s) (sym (state_is commits are)) one.3) one_more,
          λ j other step. record {
            commit = commit;
            is = refl;
            image = other;
            lacks = record {
              encoded = it.encoded;
              body = one.0;
              before = state_of commits;
              change = record { label = label; access = access; lines = lines };
              is = one.2;
              makes = renewed_makes was n (state_of commits) many makes it.encoded it.renews;
              next = one.1;
              follows = follows;
              after = state_is commits are;
              other = record {
                stands = other.stands;
                counted = other.many ∙ sym (renewed_count was it.encoded (state_of commits) it.renews ∙ many);
              };
            };
            before = refl;
            follows = step;
          },
        )
      ]
