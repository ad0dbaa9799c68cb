-- When an image is audited that was read, and why it is refused.
use Rattle.std.proofs.Common.{◌≡◌, ◌∙◌, ◌⊎◌, inl, inr, ◌≤◌, ℕ, suc, refl, sym, ap, subst, List, [], ◌∷◌}
use Rattle.std.proofs.Common.{◌++◌, map, length, Result, Ok, Err}
use Rattle.std.specs.FinMap.{get}
use Rattle.std.specs.List.{AllByRecursion}
use Rattle.std.specs.Ordering.{ordering_reverse}
use Rattle.std.specs.Prelude.{IfErr, IfOk, IsErrAnd, MatchResult}
use Rattle.std.specs.declared.cmp.Ordering.{Ordering}
use Rattle.std.specs.declared.cmp.Ordering.TheVariants.{Less, Equal, Greater}
use Rattle.iot_audit.specs.Audits.{AreEntriesOf, EndsApart, IsAudited, IsAuditedOf, IsCompared, IsReason, IsRefused, IsServed}
use Rattle.iot_audit.specs.Audits.{Walked, Reached, Lacks, Differs}
use Rattle.iot_audit.specs.Audits.{Walks, fault_of, said, told, walked, walked_all, walked_in}
use Rattle.iot_audit.specs.Differences.{DifferFirst}
use Rattle.iot_audit.specs.declared.fault.AuditFault.{AuditFault}
use Rattle.iot_audit.specs.declared.fault.AuditFault.TheVariants as audit
use Rattle.iot_audit.proofs.WalksLaws.{agree_ends, ends_agree, labels_told, served_walked, walked_served, Agree, Lines}
use Rattle.iot_durable.specs.Damage.{IsDamagedAt}
use Rattle.iot_event.specs.declared.event.Event.{Event}
use Rattle.iot_exec.specs.Serial.{Entry, serial, serial_from}
use Rattle.iot_slots.specs.Decoding.{Foreign, decoded}
use Rattle.iot_store.specs.Images.{HasRecorded, IsImageIn, IsImageOf, IsRefusal, TakesImage, SaysDamaged, SaysForeign}
use Rattle.iot_store.specs.Rules.{header, rules}
use Rattle.iot_store.specs.Standing.{StandFor}
use Rattle.iot_store.specs.States.{State}
use Rattle.iot_store.specs.declared.image.Image.{Image}
use Rattle.iot_store.specs.declared.image.ImageFault.{ImageFault}
use Rattle.iot_store.specs.declared.image.ImageFault.TheVariants as image
use Rattle.iot_text.proofs.PathsLaws.{path_same, path_total}
use Rattle.iot_text.specs.Paths.{path_cmp}
use Rattle.iot_tree.specs.Tree.{Nodes, Path, root_alone}
use Rattle.iot_tree.specs.declared.labels.Label.{Label}
use Rattle.iot_tree.specs.declared.labels.Way.{Way}
use Rattle.iot_tree.specs.declared.nodes.Node.TheVariants.{Dir}
use Rattle.iot_views.specs.Rules.{IsLabel}

-- ---- what is audited is run to its tree

entries_count : (events : List Event) (labels : List Label) (entries : List (Entry Way)) → AreEntriesOf events labels entries
    → length entries ≡ length labels
entries_count events [] [] made = refl
entries_count events [] (entry ∷ entries) made = absurd made
entries_count events (label ∷ labels) [] made = absurd made
entries_count events (label ∷ labels) (entry ∷ entries) made = ap suc (entries_count events labels entries made.1)

said_count : (entries : List (Entry Way)) (t : Nodes) → length (map said (serial_from entries t)) ≡ length entries
said_count [] t = refl
said_count (entry ∷ entries) t = ap suc (said_count entries _)

pub audited_walked : (events : List Event) (bytes : List ℕ) (it : IsAudited events bytes)
    → walked_all events it.state.labels it.recorded ≡ Reached it.state.tree
audited_walked events bytes it =
    let count : length (it.early ++ it.recorded) ≡ length it.state.labels =
    ap length (sym it.lines) ∙ said_count it.entries (root_alone Dir) ∙ entries_count events it.state.labels it.entries it.made in
    let agree : Agree (told it.state.labels it.recorded) (map said (serial it.entries)) =
    subst (Agree (told it.state.labels it.recorded)) (sym it.lines) (ends_agree it.state.labels it.early it.recorded count) in
    served_walked events (told it.state.labels it.recorded) it.entries 1 (root_alone Dir)
    (subst (λ (l : List Label). AreEntriesOf events l it.entries) (sym (labels_told it.state.labels it.recorded)) it.made) agree
    ∙ ap Reached it.tree

-- and what is run to its tree is audited
pub walked_audited : (events : List Event) (bytes : List ℕ) (state : State) (recorded : List Lines) → StandFor bytes state
    → HasRecorded (decoded header bytes) recorded → length recorded ≤ length state.labels
    → walked_all events state.labels recorded ≡ Reached state.tree → IsAuditedOf events bytes (length state.labels)
walked_audited events bytes state recorded stands records few is =
    let served = walked_served events (told state.labels recorded) 1 (root_alone Dir) state.tree is in
    let ends = agree_ends state.labels recorded (map said (serial served.entries)) few served.agree in
    record {
      is = record {
        state = state;
        stands = stands;
        recorded = recorded;
        records = records;
        entries = served.entries;
        made = subst (λ (l : List Label). AreEntriesOf events l served.entries) (labels_told state.labels recorded) served.made;
        tree = served.tree;
        early = ends.early;
        lines = ends.split;
      };
      counted = refl;
    }

-- ---- faults that are handed on

pub err_by : {T : Type 0} (outer : Result T AuditFault) (P : AuditFault → Type 0) (fault : AuditFault)
    → IsErrAnd outer (λ other. other ≡ fault) → P fault → IfErr outer P
err_by (Ok value) P fault is so = absurd is
err_by (Err other) P fault is so = subst P (sym is) so

pub match_by : {T : Type 0} (outer : Result T AuditFault) (P : AuditFault → Type 0) (fault : AuditFault)
    → IsErrAnd outer (λ other. other ≡ fault) → P fault → MatchResult outer (λ value. ⊥) P
match_by (Ok value) P fault is so = absurd is
match_by (Err other) P fault is so = subst P (sym is) so

-- ---- an image that was read

-- what is known of it
pub record IsRead (bytes : List ℕ) (image : Image) : Type 0 where
  pub is : IsImageIn bytes image
  pub only : (state : State) → StandFor bytes state → IsImageOf image state
  pub recorded : (recorded : List Lines) → HasRecorded (decoded header bytes) recorded → image.recorded ≡ recorded
  pub few : length image.recorded ≤ length image.labels
  pub foreign : decoded header bytes ≡ Foreign → ⊥
  pub damaged : (at : ℕ) → IsDamagedAt rules bytes at → ⊥
  pub labels : AllByRecursion IsLabel image.labels

module _ (events : List Event) (bytes : List ℕ) (image : Image) (read : IsRead bytes image) where
  -- labels and records are those of the image
  pub walks_here : (outcome : Walked) → Walks events bytes outcome → walked_in events image ≡ outcome
  walks_here outcome it =
      (λ i. walked_all events ((read.only it.state it.stands).labels i) (read.recorded it.recorded it.records i)) ∙ it.is

  abbrev pub here_walks : (outcome : Walked) → walked_in events image ≡ outcome → Walks events bytes outcome
  here_walks outcome is = record {
    state = read.is.state;
    stands = read.is.stands;
    recorded = image.recorded;
    records = read.is.recorded;
    is = ap (λ (l : List Label). walked_all events l image.recorded) (sym read.is.holds.labels) ∙ is;
  }

  pub audited_here : IsAudited events bytes → walked_in events image ≡ Reached image.tree
  audited_here it =
      let same = read.only it.state it.stands in
      (λ i. walked_all events (same.labels i) (read.recorded it.recorded it.records i))
      ∙ audited_walked events bytes it ∙ ap Reached (sym same.tree)

  pub here_audited : walked_in events image ≡ Reached image.tree → IsAuditedOf events bytes (length image.labels)
  here_audited is =
      let labels = read.is.holds.labels in
      let tree = read.is.holds.tree in
      subst (IsAuditedOf events bytes) (ap length (sym labels))
      (walked_audited events bytes read.is.state image.recorded read.is.stands read.is.recorded
      (subst (λ (l : List Label). length image.recorded ≤ length l) labels read.few)
      (ap (λ (l : List Label). walked_all events l image.recorded) (sym labels) ∙ is ∙ ap Reached tree))

-- ---- outcomes

reached_one : (t u : Nodes) → Reached t ≡ Reached u → t ≡ u
reached_one t u is = cc

not_lacks : (t : Nodes) (n : ℕ) → Reached t ≡ Lacks n → ⊥
not_lacks t n is = cc

not_differs : (t : Nodes) (n : ℕ) → Reached t ≡ Differs n → ⊥
not_differs t n is = cc

lacks_differs : (m n : ℕ) → Lacks m ≡ Differs n → ⊥
lacks_differs m n is = cc

lacks_one : (m n : ℕ) → Lacks m ≡ Lacks n → audit.NoScript m ≡ audit.NoScript n
lacks_one m n is = let same : m ≡ n = cc in ap audit.NoScript same

differs_one : (m n : ℕ) → Differs m ≡ Differs n → audit.Lines m ≡ audit.Lines n
differs_one m n is = let same : m ≡ n = cc in ap audit.Lines same

-- trees that differ are not the same
differ_apart : (t u : Nodes) (path : Path) → DifferFirst t u path → t ≡ u → ⊥
differ_apart t u path it same = it.differ (ap (λ (n : Nodes). get n path) same)

-- they differ first at one path alone
differ_one : (t u : Nodes) (p q : Path) → DifferFirst t u p → DifferFirst t u q → p ≡ q
differ_one t u p q one other = by (path_cmp p q) refl
  where
    by : (order : Ordering) → path_cmp p q ≡ order → p ≡ q
    by Less is = absurd (one.differ (other.before p is))
    by Equal is = path_same p q is
    by Greater is = absurd (other.differ (one.before q (path_total.antisymm q p ∙ ap ordering_reverse is)))

-- a run to the end is compared with the image's tree
pub compared_served : (image : Image) (walked : Walked) (fault : AuditFault) → IsServed (Err fault) walked → IsCompared image (Err fault) walked
compared_served image walked audit.NoMemory served = tt
compared_served image walked audit.Foreign served = absurd served
compared_served image walked (audit.Damaged at) served = absurd served
compared_served image walked (audit.NoScript number) served = served
compared_served image walked (audit.Lines number) served = served
compared_served image walked (audit.Tree path) served = absurd served

-- it is not refused if it is run to the image's tree
pub compared_takes : (image : Image) (result : Result ℕ AuditFault) (walked : Walked) → IsCompared image result walked
    → walked ≡ Reached image.tree → IfErr result (λ fault. fault ≡ audit.NoMemory)
compared_takes image (Ok number) walked it is = tt
compared_takes image (Err audit.NoMemory) walked it is = refl
compared_takes image (Err audit.Foreign) walked it is = absurd it
compared_takes image (Err (audit.Damaged at)) walked it is = absurd it
compared_takes image (Err (audit.NoScript number)) walked it is = absurd (not_lacks image.tree number (sym is ∙ it))
compared_takes image (Err (audit.Lines number)) walked it is = absurd (not_differs image.tree number (sym is ∙ it))
compared_takes image (Err (audit.Tree path)) walked it is =
    absurd (differ_apart it.0 image.tree path it.2 (reached_one it.0 image.tree (sym it.1 ∙ is)))

module _ (events : List Event) (bytes : List ℕ) (image : Image) (read : IsRead bytes image) where
  pub compared_audited : (result : Result ℕ AuditFault) → IsCompared image result (walked_in events image)
      → IfOk result (IsAuditedOf events bytes)
  compared_audited (Ok number) it = subst (IsAuditedOf events bytes) (sym it.1) (here_audited events bytes image read it.0)
  compared_audited (Err fault) it = tt

  -- why the image is refused
  pub compared_cause : (result : Result ℕ AuditFault) → IsCompared image result (walked_in events image)
      → IfErr result (IsRefused events bytes)
  compared_cause (Ok number) it = tt
  compared_cause (Err audit.NoMemory) it = inl refl
  compared_cause (Err audit.Foreign) it = absurd it
  compared_cause (Err (audit.Damaged at)) it = absurd it
  compared_cause (Err (audit.NoScript number)) it = inr (here_walks events bytes image read (Lacks number) it)
  compared_cause (Err (audit.Lines number)) it = inr (here_walks events bytes image read (Differs number) it)
  compared_cause (Err (audit.Tree path)) it = inr (record {
    tree = it.0;
    walks = here_walks events bytes image read (Reached it.0) it.1;
    differ = subst (λ (u : Nodes). DifferFirst it.0 u path) read.is.holds.tree it.2;
  })

  -- where a reason says that the trees differ, they do
  reason_path : (tree : Nodes) → walked_in events image ≡ Reached tree → (path : Path) → EndsApart events bytes path
      → DifferFirst tree image.tree path
  reason_path tree reached path why =
      let same : why.tree ≡ tree =
      reached_one why.tree tree (sym (walks_here events bytes image read (Reached why.tree) why.walks) ∙ reached) in
      let there = (read.only why.walks.state why.walks.stands).tree in
      subst (λ (u : Nodes). DifferFirst tree u path) (sym there)
      (subst (λ (t : Nodes). DifferFirst t why.walks.state.tree path) same why.differ)

  -- for each reason it is refused, and for no other
  pub compared_exact : (reason : AuditFault) → IsReason events bytes reason → (result : Result ℕ AuditFault)
      → IsCompared image result (walked_in events image)
      → MatchResult result (λ number. ⊥) (λ fault. (fault ≡ audit.NoMemory) ⊎ (fault ≡ reason))
  compared_exact reason why (Err audit.NoMemory) it = inl refl
  compared_exact reason why (Err audit.Foreign) it = absurd it
  compared_exact reason why (Err (audit.Damaged at)) it = absurd it
  compared_exact audit.NoMemory why (Ok number) it = why
  compared_exact audit.NoMemory why (Err (audit.NoScript number)) it = absurd why
  compared_exact audit.NoMemory why (Err (audit.Lines number)) it = absurd why
  compared_exact audit.NoMemory why (Err (audit.Tree path)) it = absurd why
  compared_exact audit.Foreign why (Ok number) it = read.foreign why
  compared_exact audit.Foreign why (Err (audit.NoScript number)) it = absurd (read.foreign why)
  compared_exact audit.Foreign why (Err (audit.Lines number)) it = absurd (read.foreign why)
  compared_exact audit.Foreign why (Err (audit.Tree path)) it = absurd (read.foreign why)
  compared_exact (audit.Damaged at) why (Ok number) it = read.damaged at why
  compared_exact (audit.Damaged at) why (Err (audit.NoScript number)) it = absurd (read.damaged at why)
  compared_exact (audit.Damaged at) why (Err (audit.Lines number)) it = absurd (read.damaged at why)
  compared_exact (audit.Damaged at) why (Err (audit.Tree path)) it = absurd (read.damaged at why)
  compared_exact (audit.NoScript other) why (Ok number) it =
      not_lacks image.tree other (sym it.0 ∙ walks_here events bytes image read (Lacks other) why)
  compared_exact (audit.NoScript other) why (Err (audit.NoScript number)) it =
      inr (lacks_one number other (sym it ∙ walks_here events bytes image read (Lacks other) why))
  compared_exact (audit.NoScript other) why (Err (audit.Lines number)) it =
      absurd (lacks_differs other number (sym (walks_here events bytes image read (Lacks other) why) ∙ it))
  compared_exact (audit.NoScript other) why (Err (audit.Tree path)) it =
      absurd (not_lacks it.0 other (sym it.1 ∙ walks_here events bytes image read (Lacks other) why))
  compared_exact (audit.Lines other) why (Ok number) it =
      not_differs image.tree other (sym it.0 ∙ walks_here events bytes image read (Differs other) why)
  compared_exact (audit.Lines other) why (Err (audit.NoScript number)) it =
      absurd (lacks_differs number other (sym it ∙ walks_here events bytes image read (Differs other) why))
  compared_exact (audit.Lines other) why (Err (audit.Lines number)) it =
      inr (differs_one number other (sym it ∙ walks_here events bytes image read (Differs other) why))
  compared_exact (audit.Lines other) why (Err (audit.Tree path)) it =
      absurd (not_differs it.0 other (sym it.1 ∙ walks_here events bytes image read (Differs other) why))
  compared_exact (audit.Tree other) why (Ok number) it =
      differ_apart image.tree image.tree other (reason_path image.tree it.0 other why) refl
  compared_exact (audit.Tree other) why (Err (audit.NoScript number)) it =
      absurd (not_lacks why.tree number (sym (walks_here events bytes image read (Reached why.tree) why.walks) ∙ it))
  compared_exact (audit.Tree other) why (Err (audit.Lines number)) it =
      absurd (not_differs why.tree number (sym (walks_here events bytes image read (Reached why.tree) why.walks) ∙ it))
  compared_exact (audit.Tree other) why (Err (audit.Tree path)) it =
      inr (ap audit.Tree (differ_one it.0 image.tree path other it.2 (reason_path it.0 it.1 other why)))

-- ---- bytes that are no image

pub image_refused : (events : List Event) (bytes : List ℕ) (fault : ImageFault) → IsRefusal bytes fault
    → IsRefused events bytes (fault_of fault)
image_refused events bytes image.NoMemory why = inl refl
image_refused events bytes image.Foreign why = inr why
image_refused events bytes (image.Damaged at) why = inr why

pub image_taken : (fault : ImageFault) → TakesImage fault → fault_of fault ≡ audit.NoMemory
image_taken image.NoMemory takes = refl
image_taken image.Foreign takes = absurd takes
image_taken (image.Damaged at) takes = absurd takes

says_foreign : (fault : ImageFault) → SaysForeign fault → (fault_of fault ≡ audit.NoMemory) ⊎ (fault_of fault ≡ audit.Foreign)
says_foreign image.NoMemory says = inl refl
says_foreign image.Foreign says = inr refl
says_foreign (image.Damaged at) says = absurd says

says_damaged : (at : ℕ) (fault : ImageFault) → SaysDamaged at fault
    → (fault_of fault ≡ audit.NoMemory) ⊎ (fault_of fault ≡ audit.Damaged at)
says_damaged at image.NoMemory says = inl refl
says_damaged at image.Foreign says = absurd says
says_damaged at (image.Damaged there) says = inr (ap audit.Damaged says)

module _ (events : List Event) (bytes : List ℕ) (fault : ImageFault)
    (never : (state : State) → StandFor bytes state → TakesImage fault)
    (foreign : decoded header bytes ≡ Foreign → SaysForeign fault)
    (damaged : (at : ℕ) → IsDamagedAt rules bytes at → SaysDamaged at fault) where
  walks_taken : (outcome : Walked) → Walks events bytes outcome → (fault_of fault ≡ audit.NoMemory)
  walks_taken outcome it = image_taken fault (never it.state it.stands)

  pub image_exact : (reason : AuditFault) → IsReason events bytes reason
      → (fault_of fault ≡ audit.NoMemory) ⊎ (fault_of fault ≡ reason)
  image_exact audit.NoMemory why = absurd why
  image_exact audit.Foreign why = says_foreign fault (foreign why)
  image_exact (audit.Damaged at) why = says_damaged at fault (damaged at why)
  image_exact (audit.NoScript number) why = inl (walks_taken (Lacks number) why)
  image_exact (audit.Lines number) why = inl (walks_taken (Differs number) why)
  image_exact (audit.Tree path) why = inl (walks_taken (Reached why.tree) why.walks)
