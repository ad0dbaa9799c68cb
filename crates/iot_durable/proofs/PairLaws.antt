-- A start from two disks, the second of which follows the first.
use Rattle.std.proofs.Common.{◌≡◌, ◌≢◌, ◌⊎◌, inl, inr, ℕ, Bool, true, false, cond, List, [], ◌∷◌, ◌++◌, length}
use Rattle.std.proofs.Common.{Option, Some, None, option_map, refl, sym, ◌∙◌, ap, subst, arith}
use Rattle.std.specs.Prelude.{◌==◌}
use Rattle.std.proofs.lemmas.Bool.{cases_eq}
use Rattle.std.proofs.lemmas.Bool.Decides.{nat_tests}
use Rattle.iot_disk.specs.Disk.{Medium, Only, SameImages}
use Rattle.iot_disk.specs.declared.faults.StartFault.{StartFault}
use Rattle.iot_disk.specs.declared.faults.StartFault.TheVariants as fault
use Rattle.iot_records.specs.Images.{Each}
use Rattle.iot_slots.specs.Cells.{next}
use Rattle.iot_slots.specs.Decoding.{Decoded, State, Encodes, NotStarted, Foreign, Damaged, decoded, opened, state_in, state_of}
use Rattle.iot_slots.specs.Due.{due_on}
use Rattle.iot_slots.specs.Slots as on_slots
use Rattle.iot_slots.specs.Slots.{appended}
use Rattle.iot_slots.specs.Start.{EachEncodesAs}
use Rattle.iot_slots.specs.declared.slots.Slots.{Slots}
use Rattle.iot_slots.specs.declared.version.Version.{Version}
use Rattle.iot_slots.specs.declared.version.Version.TheVariants.{Two}
use Rattle.iot_slots.proofs.DueLaws.{not_due_version}
use Rattle.iot_backup.specs.Following.{MayFollow}
use Rattle.iot_backup.specs.Pairs.{counted, follows, AreInStep, EachPair, EachInStep}
use Rattle.iot_backup.specs.Parts.{If, AreSynced}
use Rattle.iot_backup.specs.Start as twins
use Rattle.iot_backup.specs.Start.{last_or, last_of, MayBeBehind, IsBroughtUpFrom, IsTaken, with_last, brought_up}
use Rattle.iot_backup.specs.declared.faults.TwinFault.{TwinFault}
use Rattle.iot_backup.specs.declared.faults.TwinFault.TheVariants.{Disk, Apart}
use Rattle.iot_backup.proofs.PairsLaws.{follows_next, follows_same, no_next, same_counts, same_state, synced_each}
use Rattle.iot_backup.proofs.StartLaws.{counted_as}
use Rattle.iot_durable.specs.Rules.{Rules}
use Rattle.iot_durable.specs.Standing.{MakesOf, MakesBy, IsNext, StandFor, StandWith, EachStands, header_of, records_in}
use Rattle.iot_durable.specs.Standing.{LacksLast, StandTogether, EachBrings, EachIsBroughtUp, EachOpens, IsBroughtUp}
use Rattle.iot_durable.specs.Causes.{HasCause, HasPairCause, TakesBoth}
use Rattle.iot_durable.specs.Durable.{images_of}
use Rattle.iot_durable.proofs.ImagesLaws.{each_makes, fresh_stands, makes_push, makes_same, one_makes, same_count, stands_made, start_count}

-- ---- a second disk that may be missing

pub if_mapped : {X Y : Type 0} (f : X → Y) (P : Y → Type 0) (o : Option X) → If (λ x. P (f x)) o → If P (option_map f o)
if_mapped f P (Some x) it = it
if_mapped f P None it = tt

-- ---- the next start

pub each_follows : (header : List ℕ) (ones others : List ℕ → Type 0) → EachInStep header ones others →
    ((body : List ℕ) → EachPair (MayBeBehind header body) ones others) → EachPair (MayFollow header) ones others
each_follows header ones others step behind = record {
  each = λ one other left right.
      record { step = step.each one other left right; behind = λ body. (behind body).each one other left right };
}

-- of what is encoded
abbrev BehindBy : (due : ℕ → Bool) (body : List ℕ) (one other : Decoded) → Type 0
BehindBy due body one other =
    (s t : State) → opened body one ≡ Encodes s → opened body other ≡ Encodes t → s.count ≡ next t.count →
    (s.bodies ≢ []) × (due (length (last_of s.bodies)) ≡ false)

-- which body a disk that is not started encodes does not matter
behind_by : (due : ℕ → Bool) (body other : List ℕ) (d e : Decoded) → BehindBy due body d e → BehindBy due other d e
behind_by due body other (Encodes a) (Encodes b) it = it
behind_by due body other (Encodes a) NotStarted it = λ s t is also more.
    let none : 0 ≡ t.count = ap (λ (d : Decoded). (state_of d).count) also in
    it s (state_in Two body [] 0) is refl (more ∙ ap next (sym none))
behind_by due body other (Encodes a) Foreign it = λ s t is also more. absurd cc
behind_by due body other (Encodes a) (Damaged at) it = λ s t is also more. absurd cc
behind_by due body other NotStarted (Encodes b) it = λ s t is also more.
    let none : 0 ≡ s.count = ap (λ (d : Decoded). (state_of d).count) is in
    absurd ((it (state_in Two body [] 0) t refl also (none ∙ more)).0 refl)
behind_by due body other NotStarted NotStarted it = λ s t is also more.
    let none : 0 ≡ s.count = ap (λ (d : Decoded). (state_of d).count) is in
    let one : 0 ≡ t.count = ap (λ (d : Decoded). (state_of d).count) also in
    absurd (no_next 0 (none ∙ more ∙ ap next (sym one)))
behind_by due body other NotStarted Foreign it = λ s t is also more. absurd cc
behind_by due body other NotStarted (Damaged at) it = λ s t is also more. absurd cc
behind_by due body other Foreign e it = λ s t is also more. absurd cc
behind_by due body other (Damaged at) e it = λ s t is also more. absurd cc

pub behind_any : (header body other : List ℕ) (ones others : List ℕ → Type 0) → EachPair (MayBeBehind header body) ones others →
    EachPair (MayBeBehind header other) ones others
behind_any header body other ones others all = record {
  each = λ i j left right.
      behind_by (due_on header j) body other (decoded header i) (decoded header j) (all.each i j left right);
}

-- after a start
pub start_follows : (header body : List ℕ) (ones others : List ℕ → Type 0) → EachInStep header ones others →
    EachPair (MayBeBehind header body) ones others → EachPair (MayFollow header) ones others
start_follows header body ones others step again =
    each_follows header ones others step (λ other. behind_any header body other ones others again)

pub slots_follow : {X : Type 0} (header body : List ℕ) (ones : List ℕ → Type 0) (others : X → List ℕ → Type 0) (o : Option X) →
    If (λ s. EachInStep header ones (others s)) o → If (λ s. EachPair (MayBeBehind header body) ones (others s)) o →
    If (λ s. EachPair (MayFollow header) ones (others s)) o
slots_follow header body ones others (Some s) step again = start_follows header body ones (others s) step again
slots_follow header body ones others None step again = tt

-- disks that were read at most
pub idle_follows : (header first second : List ℕ) (one ones other others : List ℕ → Type 0) → Only first one → SameImages one ones →
    Only second other → SameImages other others → MayFollow header first second → EachPair (MayFollow header) ones others
idle_follows header first second one ones other others only same only_other same_other it = record {
  each = λ i j left right.
      subst (λ (l : List ℕ). MayFollow header l j) (sym (only.is i (same.was i left)))
      (subst (λ (l : List ℕ). MayFollow header first l) (sym (only_other.is j (same_other.was j right))) it);
}

-- ---- the last record

last_pushed : (first : List ℕ) (bodies : List (List ℕ)) (body : List ℕ) → last_or first (bodies ++ body ∷ []) ≡ body
last_pushed first [] body = refl
last_pushed first (other ∷ bodies) body = last_pushed other bodies body

with_same : (count own : ℕ) (body : List ℕ) (state : State) → count ≡ own → with_last count own body state ≡ state
with_same count own body state same =
    let yes : (count == own) ≡ true = grind (arith, nat_tests) in
    ap (λ (b : Bool). cond b state (appended state body)) yes

with_more : (count own : ℕ) (body : List ℕ) (state : State) → count ≢ own → with_last count own body state ≡ appended state body
with_more count own body state differ =
    let not : (count == own) ≡ false = grind (arith, nat_tests) in
    ap (λ (b : Bool). cond b state (appended state body)) not

-- a disk on which no checkpoint is due encodes what is of version 2
version_two : (header bytes body : List ℕ) (d : Decoded) (t : State) (size : ℕ) → decoded header bytes ≡ d → opened body d ≡ Encodes t →
    due_on header bytes size ≡ false → t.version ≡ Two
version_two header bytes body (Encodes state) t size is opens not_due =
    not_due_version header bytes t size (is ∙ opens) not_due
version_two header bytes body NotStarted t size is opens not_due = sym (ap (λ (d : Decoded). (state_of d).version) opens)
version_two header bytes body Foreign t size is opens not_due = absurd cc
version_two header bytes body (Damaged at) t size is opens not_due = absurd cc

-- an image of the second disk encodes what its bytes may encode
pub brought_taken : (header body first second image : List ℕ) (now : State) → IsBroughtUpFrom header body first second image →
    decoded header image ≡ Encodes now → (t : State) × (opened body (decoded header second) ≡ Encodes t)
brought_taken header body first second image now (inl same) is = (now, sym same ∙ ap (opened body) is)
brought_taken header body first second image now (inr it) is = (it.1, it.3)

module _ {S C : Type 0} (rules : Version → Rules S C) where
  abbrev head : List ℕ
  head = header_of rules

  -- ---- what the second disk stands for

  module _ (body : List ℕ) (spells : (rules Two).IsBody body (rules Two).opening) where
    -- what is opened alike stands for the same, if it is started as well
    alike_by : (d e : Decoded) (other : S) → (d ≢ NotStarted → e ≢ NotStarted) → opened body e ≡ opened body d → MakesBy rules d other →
        MakesBy rules e other
    alike_by (Encodes a) (Encodes b) other started same makes =
        subst (λ (s : State). MakesOf rules s other) (sym (same_state b a same)) makes
    alike_by (Encodes a) NotStarted other started same makes =
        absurd (started (λ none. let clash : Encodes a ≡ NotStarted = none in absurd cc) refl)
    alike_by (Encodes a) Foreign other started same makes = absurd cc
    alike_by (Encodes a) (Damaged at) other started same makes = absurd cc
    alike_by NotStarted e other started same makes =
        subst (λ (s : S). MakesBy rules e s) (sym makes) (fresh_stands rules body spells e same)
    alike_by Foreign e other started same makes = absurd makes
    alike_by (Damaged at) e other started same makes = absurd makes

    module _ (first second : List ℕ) (behind : MayBeBehind head body first second) (state : S) (stands : StandFor rules first state)
        (together : AreInStep (decoded head first) (decoded head second) → StandTogether rules first second state)
        (one t : State) (is : opened body (decoded head first) ≡ Encodes one) (also : opened body (decoded head second) ≡ Encodes t) where
      first_count : records_in rules first ≡ one.count
      first_count = start_count body (decoded head first) one is

      second_count : records_in rules second ≡ t.count
      second_count = start_count body (decoded head second) t also

      -- the last record of the first was made
      lacks_makes : one.count ≡ next t.count → LacksLast rules first second state → MakesOf rules (appended t (last_of one.bodies)) state
      lacks_makes more it =
          let last : last_of one.bodies ≡ it.body =
          ap (λ (s : State). last_of s.bodies) (same_state one (appended it.encoded it.body) (sym is ∙ ap (opened body) it.is))
          ∙ last_pushed [] it.encoded.bodies it.body in
          let makes : MakesOf rules t it.before =
          stands_made rules body spells it.other.stands.decoding t it.before (ap (opened body) (sym it.other.stands.is) ∙ also)
          it.other.stands.makes in
          let following : IsNext rules t it.body it.change = record {
            version = version_two head second body (decoded head second) t (length (last_of one.bodies)) refl also
                (behind one t is also more).1;
            spells = it.next.spells;
          } in
          makes_same rules (appended t (last_of one.bodies)) (appended t it.body) state ((rules Two).after it.before it.change)
          (ap (appended t) last) it.after (makes_push rules t it.body it.change it.before makes following it.follows)

      -- the second disk lacks the last record
      pub more_makes : one.count ≡ next t.count → MakesOf rules (appended t (last_of one.bodies)) state
      more_makes more =
          elim (together (record {
            first = one.count;
            second = t.count;
            first_is = counted_as body (decoded head first) one is;
            second_is = counted_as body (decoded head second) t also;
            step = follows_next one.count t.count more;
          })) [
            | inl it ↦ absurd (no_next t.count (sym second_count ∙ it.counted ∙ first_count ∙ more))
            | inr it ↦ lacks_makes more it
          ]

      -- it has as many
      same_makes : one.count ≡ t.count → MakesOf rules t state
      same_makes same =
          elim (together (record {
            first = one.count;
            second = t.count;
            first_is = counted_as body (decoded head first) one is;
            second_is = counted_as body (decoded head second) t also;
            step = follows_same one.count t.count same;
          })) [
            | inl it ↦
                stands_made rules body spells it.stands.decoding t state (ap (opened body) (sym it.stands.is) ∙ also) it.stands.makes
            | inr it ↦
                absurd (no_next it.encoded.count (sym it.other.counted ∙ second_count ∙ sym same ∙ sym first_count
                ∙ ap (λ (d : Decoded). (state_of d).count) it.is))
          ]

      -- after the start
      pub also_makes : (now : State) → now ≡ brought_up one t → now.count ≡ one.count → MakesOf rules now state
      also_makes now new counts = elim (cases_eq one.count t.count) [
        | inl same ↦
            subst (λ (s : State). MakesOf rules s state) (sym (new ∙ with_same one.count t.count (last_of one.bodies) t same))
            (same_makes same)
        | inr differ ↦
            let up : now ≡ appended t (last_of one.bodies) = new ∙ with_more one.count t.count (last_of one.bodies) t differ in
            subst (λ (s : State). MakesOf rules s state) (sym up)
            (more_makes (sym counts ∙ ap (λ (s : State). s.count) up))
      ]

    -- each image
    pub brings : (first second : List ℕ) → MayBeBehind head body first second → (state other : S) → StandFor rules first state →
        StandFor rules second other →
        (AreInStep (decoded head first) (decoded head second) → StandTogether rules first second state) →
        (images : List ℕ → Type 0) → Each (λ image. IsBroughtUpFrom head body first second image) images →
        (decoded head second ≢ NotStarted → Each (λ image. decoded head image ≢ NotStarted) images) →
        EachBrings rules images first second state other
    brings first second behind state other stands other_stands together images all started = record {
      each = λ image left. by image (λ is. (started is).each image left) (all.each image left);
    }
      where
        by : (image : List ℕ) → (decoded head second ≢ NotStarted → decoded head image ≢ NotStarted) →
            IsBroughtUpFrom head body first second image →
            StandWith rules image (records_in rules second) other ⊎ StandWith rules image (records_in rules first) state
        by image alive (inl same) = inl (record {
          stands = record {
            decoding = decoded head image;
            is = refl;
            makes = alike_by other_stands.decoding (decoded head image) other
                (subst (λ (d : Decoded). d ≢ NotStarted → decoded head image ≢ NotStarted) other_stands.is alive)
                (same ∙ ap (opened body) other_stands.is) other_stands.makes;
          };
          counted = same_count body (decoded head image) (decoded head second) same;
        })
        by image alive (inr it) =
            let one = it.0 in
            let t = it.1 in
            inr (one_makes rules image (appended t (last_of one.bodies)) (records_in rules first) state it.5
            (sym it.4 ∙ sym (start_count body (decoded head first) one it.2))
            (more_makes first second behind state stands together one t it.2 it.3 it.4))

    -- of slots after the start
    module _ {D : Type 0} (medium : Medium D) (is_image : (disk : D) → medium.may_leave disk (medium.reads disk)) (first second : List ℕ)
        (one : Slots D) (ours : on_slots.header_of one ≡ head)
        (opens : opened body (decoded head first) ≡ Encodes (on_slots.state_on medium one)) where
      abbrev Brought : Slots D → Type 0
      Brought s = Each (λ image. IsBroughtUpFrom head body first second image) (images_of medium s)

      abbrev Follows : Option (Slots D) → Type 0
      Follows o = (t : State) → opened body (decoded head second) ≡ Encodes t →
          If (λ s. on_slots.state_on medium s ≡ brought_up (on_slots.state_on medium one) t) o

      -- what its bytes encode
      encoded : (s : Slots D) → AreSynced medium one (Some s) →
          decoded head (medium.reads (on_slots.disk_of s)) ≡ Encodes (on_slots.state_on medium s)
      encoded s synced =
          ap (λ (h : List ℕ). decoded h (medium.reads (on_slots.disk_of s))) (sym (synced.header ∙ ours)) ∙ synced.second.encodes

      taken : (s : Slots D) → AreSynced medium one (Some s) → Brought s → (t : State) × (opened body (decoded head second) ≡ Encodes t)
      taken s synced all =
          let image = medium.reads (on_slots.disk_of s) in
          brought_taken head body first second image (on_slots.state_on medium s)
          (all.each image (is_image (on_slots.disk_of s))) (encoded s synced)

      pub slots_brought : (o : Option (Slots D)) → AreSynced medium one o → If Brought o → Follows o →
          If (λ s. IsBroughtUp rules second (on_slots.state_on medium one) (on_slots.state_on medium s)) o
      slots_brought None synced all follow = tt
      slots_brought (Some s) synced all follow =
          let was = taken s synced all in
          record { body = body; spells = spells; was = was.0; opens = was.1; is = follow was.0 was.1 }

      module _ (behind : MayBeBehind head body first second) (state : S) (stands : StandFor rules first state)
          (together : AreInStep (decoded head first) (decoded head second) → StandTogether rules first second state) where
        pub slots_make : (o : Option (Slots D)) → AreSynced medium one o → If Brought o → Follows o →
            If (λ s. MakesOf rules (on_slots.state_on medium s) state) o
        slots_make None synced all follow = tt
        slots_make (Some s) synced all follow =
            let was = taken s synced all in
            also_makes first second behind state stands together (on_slots.state_on medium one) was.0 opens was.1
            (on_slots.state_on medium s) (follow was.0 was.1) (sym (same_counts medium one s synced.first synced.second synced.count))

        pub slots_stand : (o : Option (Slots D)) → AreSynced medium one o → If Brought o → Follows o →
            If (λ s. EachStands rules (images_of medium s) (records_in rules first) state) o
        slots_stand None synced all follow = tt
        slots_stand (Some s) synced all follow =
            each_makes rules (on_slots.header_of s) (images_of medium s) (on_slots.state_on medium s) (records_in rules first) state
            (synced.header ∙ ours) (synced_each medium s synced.second)
            (sym (same_counts medium one s synced.first synced.second synced.count)
            ∙ sym (start_count body (decoded head first) (on_slots.state_on medium one) opens))
            (slots_make (Some s) synced all follow)

    pub brought_each : (first second : List ℕ) (images : List ℕ → Type 0) →
        Each (λ image. IsBroughtUpFrom head body first second image) images → EachIsBroughtUp rules images first second
    brought_each first second images all = record { each = λ image left. inr (body, spells, all.each image left) }

  -- ---- disks that were read at most

  pub idle_stands : (bytes : List ℕ) (before now : List ℕ → Type 0) (state : S) → Only bytes before → SameImages before now →
      StandFor rules bytes state → EachStands rules now (records_in rules bytes) state
  idle_stands bytes before now state only same stands = record {
    each = λ image left.
        subst (λ (l : List ℕ). StandWith rules l (records_in rules bytes) state) (sym (only.is image (same.was image left)))
        (record { stands = stands; counted = refl });
  }

  pub idle_brings : (first second : List ℕ) (before now : List ℕ → Type 0) (state other : S) → Only second before → SameImages before now →
      StandFor rules second other → EachBrings rules now first second state other
  idle_brings first second before now state other only same stands = record {
    each = λ image left. inl ((idle_stands second before now other only same stands).each image left);
  }

  pub idle_brought : (first second : List ℕ) (before now : List ℕ → Type 0) → Only second before → SameImages before now →
      EachIsBroughtUp rules now first second
  idle_brought first second before now only same = record { each = λ image left. inl (only.is image (same.was image left)) }

  pub idle_opens : (bytes : List ℕ) (before now : List ℕ → Type 0) → Only bytes before → SameImages before now →
      decoded head bytes ≡ NotStarted → EachOpens rules now
  idle_opens bytes before now only same not = record {
    each = λ image left. inl (ap (decoded head) (only.is image (same.was image left)) ∙ not);
  }

  -- ---- a first disk that is not started

  opens_by : (body : List ℕ) → (rules Two).IsBody body (rules Two).opening → (image : List ℕ) (d : Decoded) → decoded head image ≡ d →
      opened body d ≡ Encodes (state_in Two body [] 0) →
      (decoded head image ≡ NotStarted) ⊎ ((first : List ℕ) × (rules Two).IsBody first (rules Two).opening
      × (decoded head image ≡ Encodes (state_in Two first [] 0)))
  opens_by body spells image (Encodes state) is same = inr (body, spells, is ∙ same)
  opens_by body spells image NotStarted is same = inl is
  opens_by body spells image Foreign is same = absurd cc
  opens_by body spells image (Damaged at) is same = absurd cc

  pub start_opens : (body bytes : List ℕ) → (rules Two).IsBody body (rules Two).opening → (now : List ℕ → Type 0) →
      EachEncodesAs head body bytes now → decoded head bytes ≡ NotStarted → EachOpens rules now
  start_opens body bytes spells now all not = record {
    each = λ image left.
        opens_by body spells image (decoded head image) refl (all.each image left ∙ ap (opened body) not);
  }

  -- ---- refusals

  -- of the first disk, before the second is read
  pub first_cause : (why : StartFault) (one other : List ℕ) (before now steady : ℕ) → HasCause rules why one before now →
      HasPairCause rules (Disk why) one other before now steady steady
  first_cause fault.NoMemory one other before now steady cause = (cause, refl)
  first_cause fault.Stopped one other before now steady cause = inl (cause, refl)
  first_cause fault.Foreign one other before now steady cause = (inl cause.0, cause.1, refl)
  first_cause (fault.Damaged at) one other before now steady cause = (inl cause.0, cause.1, refl)

  -- of either
  pub pair_cause : (why : TwinFault) (one other : List ℕ) (before now other_before other_now : ℕ) →
      twins.HasCause why (decoded head one) (decoded head other) before now other_before other_now →
      HasPairCause rules why one other before now other_before other_now
  pair_cause (Disk fault.NoMemory) one other before now other_before other_now cause = cause
  pair_cause (Disk fault.Stopped) one other before now other_before other_now cause = cause
  pair_cause (Disk fault.Foreign) one other before now other_before other_now cause = cause
  pair_cause (Disk (fault.Damaged at)) one other before now other_before other_now cause = (
    elim cause.0 [
      | inl is ↦ inl (record { decoding = Damaged at; is = is; damage = refl })
      | inr it ↦ inr it
    ],
    cause.1,
    cause.2,
  )
  pair_cause (Apart first second) one other before now other_before other_now cause = cause

-- none of disks whose counts follow each other
pub never_refused : (why : TwinFault) (one other : Decoded) (before now other_before other_now : ℕ) →
    twins.HasCause why one other before now other_before other_now → AreInStep one other → TakesBoth why
never_refused (Disk fault.NoMemory) one other before now other_before other_now cause step = tt
never_refused (Disk fault.Stopped) one other before now other_before other_now cause step = tt
never_refused (Disk fault.Foreign) one other before now other_before other_now cause step = elim cause.0 [
  | inl is ↦ let none : None ≡ Some step.first = ap counted (sym is) ∙ step.first_is in absurd cc
  | inr it ↦ let none : None ≡ Some step.second = ap counted (sym it.1) ∙ step.second_is in absurd cc
]
never_refused (Disk (fault.Damaged at)) one other before now other_before other_now cause step = elim cause.0 [
  | inl is ↦ let none : None ≡ Some step.first = ap counted (sym is) ∙ step.first_is in absurd cc
  | inr it ↦ let none : None ≡ Some step.second = ap counted (sym it.1) ∙ step.second_is in absurd cc
]
never_refused (Apart first second) one other before now other_before other_now cause step =
    let same : Some step.first ≡ Some first = sym step.first_is ∙ cause.0.first_is in
    let also : Some step.second ≡ Some second = sym step.second_is ∙ cause.0.second_is in
    let yes : follows first second ≡ true = subst (λ (n : ℕ). follows n second ≡ true) (ap (known 0) same)
    (subst (λ (n : ℕ). follows step.first n ≡ true) (ap (known 0) also) step.step) in
    let clash : true ≡ false = sym yes ∙ cause.0.apart in
    absurd cc
  where
    known : ℕ → Option ℕ → ℕ
    known n (Some m) = m
    known n None = n

-- a refusal changes nothing, if nothing was done, or by what was done before
pub nothing : (why : TwinFault) (P : Type 0) → P → twins.ChangesNothing why P
nothing (Disk fault.NoMemory) P it = tt
nothing (Disk fault.Stopped) P it = tt
nothing (Disk fault.Foreign) P it = it
nothing (Disk (fault.Damaged at)) P it = it
nothing (Apart first second) P it = it

pub nothing_so : (why : TwinFault) (P Q : Type 0) → (P → Q) → twins.ChangesNothing why P → twins.ChangesNothing why Q
nothing_so (Disk fault.NoMemory) P Q so it = tt
nothing_so (Disk fault.Stopped) P Q so it = tt
nothing_so (Disk fault.Foreign) P Q so it = so it
nothing_so (Disk (fault.Damaged at)) P Q so it = so it
nothing_so (Apart first second) P Q so it = so it
