-- A read after a run, and the base read in its place.
use Rattle.std.proofs.Common.{◌≡◌, ◌≢◌, ◌↔◌, ℕ, Bool, true, false, List, [], ◌∷◌, map, length, Option, Some, None, refl, sym, ap, ◌∙◌}
use Rattle.std.proofs.Common.{arith}
use Rattle.std.specs.FinMap.{get}
use Rattle.std.specs.List.{zip}
use Rattle.iot_acts.specs.Traces.{ReadsHold}
use Rattle.iot_tree.specs.Tree.{Nodes, Path, IsTree, IsWhole}
use Rattle.iot_tree.specs.Questions.{answer_of, kind_answer, kind_at, content_answer, names_answer, mode_answer, mode_told, children_of}
use Rattle.iot_tree.specs.Questions.{is_far_above, is_far_dir}
use Rattle.iot_tree.specs.declared.nodes.Mode.{Mode}
use Rattle.iot_tree.specs.declared.nodes.Mode.TheVariants as modes
use Rattle.iot_tree.specs.declared.nodes.Node.{Node}
use Rattle.iot_tree.specs.declared.nodes.Node.TheVariants.{Dir, File, FarDir, FarFile}
use Rattle.iot_tree.specs.declared.acts.Read.{Read}
use Rattle.iot_tree.specs.declared.updates.Update.{Update}
use Rattle.iot_tree.specs.declared.questions.Question.{Question}
use Rattle.iot_tree.specs.declared.questions.Question.TheVariants.{Kind, Content, Names as AskNames, Mode as AskMode}
use Rattle.iot_tree.specs.declared.questions.Answer.{Answer}
use Rattle.iot_tree.specs.declared.questions.Answer.TheVariants.{Away, Absent, IsDir, IsFile, Bytes, Names, On, Off}
use Rattle.iot_tree.proofs.AncestorLaws.{none_above}
use Rattle.iot_tree.proofs.ReadLaws.{names_row}
use Rattle.iot_tree.proofs.TreeLaws.{no_far_above}
use Rattle.iot_access.specs.BaseReads.{Base, origin, base_at, settled, base_from}
use Rattle.iot_access.specs.Sources.{source, mode_source}
use Rattle.iot_tree.proofs.ChildKindLaws.{Child, same_names}
use Rattle.iot_access.proofs.ModelessLaws.{told, kind_told, content_told, names_told, same_dir}
use Rattle.iot_access.proofs.ModesTiedLaws.{Alike}

-- ---- base reads with their places

-- each base read is the tree's answer
abbrev pub BasesHold : Nodes → List Base → Type 0
BasesHold t bases = ReadsHold t (map (λ base. base.1) bases)

-- base reads beside their places are all of them
pub reads_beside : (places : List ℕ) (reads : List Read) → length places ≡ length reads → map (λ base. base.1) (zip places reads) ≡ reads
reads_beside [] [] even = refl
reads_beside [] (read ∷ reads) even = absurd (omega (arith, even))
reads_beside (place ∷ places) [] even = absurd (omega (arith, even))
reads_beside (place ∷ places) (read ∷ reads) even =
    ap (λ (reads : List Read). read ∷ reads) (reads_beside places reads (omega (arith, even)))

-- ---- a whole tree

near : (o : Option Node) → o ≢ Some FarDir → is_far_dir o ≡ false
near (Some FarDir) no_far = absurd (no_far refl)
near (Some Dir) no_far = refl
near (Some (File bytes mode)) no_far = refl
near (Some (FarFile mode)) no_far = refl
near None no_far = refl

not_far : (t : Nodes) → IsWhole t → (p : Path) → is_far_above t p ≡ false
not_far t whole p = none_above (λ above. is_far_dir (get t above)) p (λ q name rest is. near (get t q) (whole.no_far_dir q))

whole_kind : (t : Nodes) → IsWhole t → (p : Path) → answer_of t (Kind p) ≡ kind_answer (kind_at (get t p) false)
whole_kind t whole p = ap (λ far. kind_answer (kind_at (get t p) far)) (not_far t whole p)

whole_content : (t : Nodes) → IsWhole t → (p : Path) → answer_of t (Content p) ≡ content_answer (get t p) false
whole_content t whole p = ap (content_answer (get t p)) (not_far t whole p)

whole_names : (t : Nodes) → IsWhole t → (p : Path) → answer_of t (AskNames p) ≡ names_answer (get t p) false (children_of t p)
whole_names t whole p = ap (λ far. names_answer (get t p) far (children_of t p)) (not_far t whole p)

whole_mode : (t : Nodes) → IsWhole t → (p : Path) → answer_of t (AskMode p) ≡ mode_answer (get t p) false
whole_mode t whole p = ap (mode_answer (get t p)) (not_far t whole p)

pub kind_not_away : (o : Option Node) → kind_answer (kind_at o false) ≢ Away
kind_not_away (Some Dir) is = cc
kind_not_away (Some FarDir) is = cc
kind_not_away (Some (File bytes mode)) is = cc
kind_not_away (Some (FarFile mode)) is = cc
kind_not_away None is = cc

pub content_not_away : (o : Option Node) → ((mode : Mode) → o ≢ Some (FarFile mode)) → content_answer o false ≢ Away
content_not_away (Some Dir) no_far is = cc
content_not_away (Some FarDir) no_far is = cc
content_not_away (Some (File bytes mode)) no_far is = cc
content_not_away (Some (FarFile mode)) no_far is = no_far mode refl
content_not_away None no_far is = cc

pub names_not_away : (o : Option Node) (names : List Child) → o ≢ Some FarDir → names_answer o false names ≢ Away
names_not_away (Some Dir) names no_far is = cc
names_not_away (Some FarDir) names no_far is = no_far refl
names_not_away (Some (File bytes mode)) names no_far is = cc
names_not_away (Some (FarFile mode)) names no_far is = cc
names_not_away None names no_far is = cc

told_not_away : (mode : Mode) → mode_told mode ≢ Away
told_not_away modes.Off is = cc
told_not_away modes.On is = cc

pub mode_not_away : (o : Option Node) → mode_answer o false ≢ Away
mode_not_away (Some Dir) is = cc
mode_not_away (Some FarDir) is = cc
mode_not_away (Some (File bytes mode)) is = told_not_away mode is
mode_not_away (Some (FarFile mode)) is = told_not_away mode is
mode_not_away None is = cc

-- only a path without a row has a mode that is away
pub mode_away : (o : Option Node) (far : Bool) → mode_answer o far ≡ Away → (o ≡ None) × (far ≡ true)
mode_away (Some Dir) far is = absurd cc
mode_away (Some FarDir) far is = absurd cc
mode_away (Some (File bytes mode)) far is = absurd (told_not_away mode is)
mode_away (Some (FarFile mode)) far is = absurd (told_not_away mode is)
mode_away None true is = (refl, refl)
mode_away None false is = absurd cc

never_away : (t : Nodes) → IsWhole t → (question : Question) → answer_of t question ≢ Away
never_away t whole (Kind p) is = kind_not_away (get t p) (sym (whole_kind t whole p) ∙ is)
never_away t whole (Content p) is = content_not_away (get t p) (whole.no_far_file p) (sym (whole_content t whole p) ∙ is)
never_away t whole (AskNames p) is = names_not_away (get t p) (children_of t p) (whole.no_far_dir p) (sym (whole_names t whole p) ∙ is)
never_away t whole (AskMode p) is = mode_not_away (get t p) (sym (whole_mode t whole p) ∙ is)

-- ---- an answer that is not Away does not depend on what is far above

near_kind : (o : Option Node) (far : Bool) → kind_answer (kind_at o far) ≢ Away
    → kind_answer (kind_at o far) ≡ kind_answer (kind_at o false)
near_kind (Some node) far known = refl
near_kind None true known = absurd (known refl)
near_kind None false known = refl

near_content : (o : Option Node) (far : Bool) → content_answer o far ≢ Away → content_answer o far ≡ content_answer o false
near_content o true known = near_it o known
  where
    near_it : (o : Option Node) → content_answer o true ≢ Away → content_answer o true ≡ content_answer o false
    near_it (Some (File bytes mode)) known = refl
    near_it (Some (FarFile mode)) known = refl
    near_it (Some Dir) known = absurd (known refl)
    near_it (Some FarDir) known = absurd (known refl)
    near_it None known = absurd (known refl)
near_content o false known = refl

near_names : (o : Option Node) (far : Bool) (names : List Child) → names_answer o far names ≢ Away
    → names_answer o far names ≡ names_answer o false names
near_names o true names known = near_it o known
  where
    near_it : (o : Option Node) → names_answer o true names ≢ Away → names_answer o true names ≡ names_answer o false names
    near_it (Some Dir) known = refl
    near_it (Some FarDir) known = refl
    near_it (Some (File bytes mode)) known = absurd (known refl)
    near_it (Some (FarFile mode)) known = absurd (known refl)
    near_it None known = absurd (known refl)
near_names o false names known = refl

near_mode : (o : Option Node) (far : Bool) → mode_answer o far ≢ Away → mode_answer o far ≡ mode_answer o false
near_mode (Some Dir) far known = refl
near_mode (Some FarDir) far known = refl
near_mode (Some (File bytes mode)) far known = refl
near_mode (Some (FarFile mode)) far known = refl
near_mode None true known = absurd (known refl)
near_mode None false known = refl

-- an answer that is no names does not depend on the names
pub other_names : (o : Option Node) (far : Bool) (c d : List Child) (answer : Answer) → ((names : List Child) → answer ≢ Names names)
    → names_answer o far c ≡ answer → names_answer o far d ≡ answer
other_names (Some Dir) far c d answer no_names is = absurd (no_names c (sym is))
other_names (Some FarDir) far c d answer no_names is = is
other_names (Some (File bytes mode)) far c d answer no_names is = is
other_names (Some (FarFile mode)) far c d answer no_names is = is
other_names None far c d answer no_names is = is

dir_names : (t : Nodes) (p : Path) → get t p ≡ Some Dir → answer_of t (AskNames p) ≡ Names (children_of t p)
dir_names t p is = ap (λ o. names_answer o (is_far_above t p) (children_of t p)) is

-- ---- a read and its base read

-- the read holds after the run exactly if the base read holds before it; if there is none, it holds
pub data Based (t u : Nodes) (question : Question) (answer : Answer) (base : Option Read) : Type 0 where
  asks : (read : Read) → base ≡ Some read → (answer_of u question ≡ answer) ↔ (answer_of t read.question ≡ read.answer)
      → Based t u question answer base
  holds : base ≡ None → answer_of u question ≡ answer → Based t u question answer base

module _ (done : List Update) (t1 u1 t2 u2 : Nodes) (alike : Alike done t1 u1 t2 u2) (tree : IsTree u1) (whole_t : IsWhole t2)
    (whole_u : IsWhole u2) where
  same_kind : (k o : Path) → source done k ≡ Some o → answer_of u2 (Kind k) ≡ answer_of t2 (Kind o)
  same_kind k o is =
      whole_kind u2 whole_u k
      ∙ told (λ row. kind_answer (kind_at row false)) (kind_told false) (get u2 k) (get t2 o) (alike.rows.second k o is)
      ∙ sym (whole_kind t2 whole_t o)

  same_content : (k o : Path) → source done k ≡ Some o → answer_of u2 (Content k) ≡ answer_of t2 (Content o)
  same_content k o is =
      whole_content u2 whole_u k
      ∙ told (λ row. content_answer row false) (content_told false) (get u2 k) (get t2 o) (alike.rows.second k o is)
      ∙ sym (whole_content t2 whole_t o)

  no_names_after : (k o : Path) → source done k ≡ Some o → (answer : Answer) → ((names : List Child) → answer ≢ Names names)
      → (answer_of u2 (AskNames k) ≡ answer) ↔ (answer_of t2 (AskNames o) ≡ answer)
  no_names_after k o is answer no_names =
      let row : (names : List Child) → names_answer (get u2 k) false names ≡ names_answer (get t2 o) false names =
      λ names.
      told (λ (node : Option Node). names_answer node false names) (names_told false names) (get u2 k) (get t2 o)
      (alike.rows.second k o is) in (
        (λ h. whole_names t2 whole_t o
            ∙ other_names (get t2 o) false (children_of u2 k) (children_of t2 o) answer no_names
            (sym (row (children_of u2 k)) ∙ sym (whole_names u2 whole_u k) ∙ h)),
        (λ h. whole_names u2 whole_u k
            ∙ other_names (get u2 k) false (children_of t2 o) (children_of u2 k) answer no_names
            (row (children_of t2 o) ∙ sym (whole_names t2 whole_t o) ∙ h)),
      )

  names_after : (k o : Path) → source done k ≡ Some o → (names : List Child) → answer_of u1 (AskNames k) ≡ Names names
      → (answer_of u2 (AskNames k) ≡ Names names) ↔ (answer_of t2 (AskNames o) ≡ answer_of t1 (AskNames o))
  names_after k o is names first =
      let tied = alike.rows in
      let one = names_row (get u1 k) (is_far_above u1 k) (children_of u1 k) names first in
      let before : answer_of t1 (AskNames o) ≡ Names (children_of t1 o) =
      dir_names t1 o (same_dir (get u1 k) (get t1 o) (tied.first k o is) one.0) in (
        (λ h.
            let two = names_row (get u2 k) (is_far_above u2 k) (children_of u2 k) names h in
            let after = (same_names u1 u2 k k).0 (one.1 ∙ sym two.1) in
            let same = (same_names t1 t2 o o).1 (λ n. (tied.child k n o is).0 (after n)) in
            dir_names t2 o (same_dir (get u2 k) (get t2 o) (tied.second k o is) two.0) ∙ ap Names (sym same) ∙ sym before),
        (λ h.
            let two = names_row (get t2 o) (is_far_above t2 o) (children_of t2 o) (children_of t1 o) (h ∙ before) in
            let there = (same_names t1 t2 o o).0 (sym two.1) in
            let same = (same_names u1 u2 k k).1 (λ n. (tied.child k n o is).1 (there n)) in
            dir_names u2 k (same_dir (get t2 o) (get u2 k) (sym (tied.second k o is)) two.0) ∙ ap Names (sym same ∙ one.1)),
      )

  from_names : (k o : Path) → source done k ≡ Some o → (answer : Answer) → answer_of u1 (AskNames k) ≡ answer
      → Based t2 u2 (AskNames k) answer (Some (base_at t1 (AskNames k) o answer))
  from_names k o is (Names names) first = asks _ refl (names_after k o is names first)
  from_names k o is Away first = asks _ refl (no_names_after k o is Away (λ names same. cc))
  from_names k o is Absent first = asks _ refl (no_names_after k o is Absent (λ names same. cc))
  from_names k o is IsDir first = asks _ refl (no_names_after k o is IsDir (λ names same. cc))
  from_names k o is IsFile first = asks _ refl (no_names_after k o is IsFile (λ names same. cc))
  from_names k o is (Bytes bytes) first = asks _ refl (no_names_after k o is (Bytes bytes) (λ names same. cc))
  from_names k o is On first = asks _ refl (no_names_after k o is On (λ names same. cc))
  from_names k o is Off first = asks _ refl (no_names_after k o is Off (λ names same. cc))

  -- nothing far is above a path whose mode is not away
  near_above : (k : Path) → answer_of u1 (AskMode k) ≢ Away → is_far_above u1 k ≡ false
  near_above k known = by (get u1 k) refl (is_far_above u1 k) refl
    where
      by : (row : Option Node) → get u1 k ≡ row → (far : Bool) → is_far_above u1 k ≡ far → is_far_above u1 k ≡ false
      by (Some node) is far above = no_far_above u1 tree k (rw is refl)
      by None is false above = above
      by None is true above = absurd (known (rw (is, above) refl))

  mode_after : (k o : Path) → mode_source done k ≡ Some o → (answer : Answer) → answer_of u1 (AskMode k) ≡ answer → answer ≢ Away
      → (answer_of u2 (AskMode k) ≡ answer) ↔ (answer_of t2 (AskMode o) ≡ answer_of t1 (AskMode o))
  mode_after k o is answer first known =
      let near : is_far_above u1 k ≡ false = near_above k (λ away. known (sym first ∙ away)) in
      let one : answer ≡ mode_answer (get u1 k) false = sym first ∙ ap (mode_answer (get u1 k)) near in
      let before : answer_of t1 (AskMode o) ≡ mode_answer (get t1 o) false =
      ap (mode_answer (get t1 o)) (sym (alike.far k o is) ∙ near) in
      let same = alike.modes.from k o is in (
        (λ h. whole_mode t2 whole_t o ∙ sym (same.0 (sym one ∙ sym h ∙ whole_mode u2 whole_u k)) ∙ sym before),
        (λ h. whole_mode u2 whole_u k ∙ sym (same.1 (sym before ∙ sym h ∙ whole_mode t2 whole_t o)) ∙ sym one),
      )

  from_mode : (k o : Path) → mode_source done k ≡ Some o → (answer : Answer) → answer_of u1 (AskMode k) ≡ answer
      → Based t2 u2 (AskMode k) answer (Some (base_at t1 (AskMode k) o answer))
  from_mode k o is Away first =
      asks _ refl ((λ h. absurd (never_away u2 whole_u (AskMode k) h)), (λ h. absurd (never_away t2 whole_t (AskMode o) h)))
  from_mode k o is Absent first = asks _ refl (mode_after k o is Absent first (λ away. cc))
  from_mode k o is IsDir first = asks _ refl (mode_after k o is IsDir first (λ away. cc))
  from_mode k o is IsFile first = asks _ refl (mode_after k o is IsFile first (λ away. cc))
  from_mode k o is (Bytes bytes) first = asks _ refl (mode_after k o is (Bytes bytes) first (λ away. cc))
  from_mode k o is (Names names) first = asks _ refl (mode_after k o is (Names names) first (λ away. cc))
  from_mode k o is On first = asks _ refl (mode_after k o is On first (λ away. cc))
  from_mode k o is Off first = asks _ refl (mode_after k o is Off first (λ away. cc))

  from_row : (question : Question) (answer : Answer) (o : Path) → origin done question ≡ Some o → answer_of u1 question ≡ answer
      → Based t2 u2 question answer (Some (base_at t1 question o answer))
  from_row (Kind k) answer o is first = asks _ refl ((λ h. sym (same_kind k o is) ∙ h), (λ h. same_kind k o is ∙ h))
  from_row (Content k) answer o is first = asks _ refl ((λ h. sym (same_content k o is) ∙ h), (λ h. same_content k o is ∙ h))
  from_row (AskNames k) answer o is first = from_names k o is answer first
  from_row (AskMode k) answer o is first = from_mode k o is answer first

  -- the rows that the run made give the same answers, where they are not Away
  own_answer : (question : Question) → origin done question ≡ None → answer_of u1 question ≢ Away
      → answer_of u2 question ≡ answer_of u1 question
  own_answer (Kind k) is known =
      whole_kind u2 whole_u k
      ∙ told (λ row. kind_answer (kind_at row false)) (kind_told false) (get u2 k) (get u1 k) (sym (alike.rows.own k is))
      ∙ sym (near_kind (get u1 k) (is_far_above u1 k) known)
  own_answer (Content k) is known =
      whole_content u2 whole_u k
      ∙ told (λ row. content_answer row false) (content_told false) (get u2 k) (get u1 k) (sym (alike.rows.own k is))
      ∙ sym (near_content (get u1 k) (is_far_above u1 k) known)
  own_answer (AskNames k) is known =
      let same : children_of u1 k ≡ children_of u2 k = (same_names u1 u2 k k).1 (λ n. alike.rows.own_child k n is) in
      whole_names u2 whole_u k
      ∙ told (λ row. names_answer row false (children_of u2 k)) (names_told false (children_of u2 k)) (get u2 k) (get u1 k)
      (sym (alike.rows.own k is))
      ∙ ap (names_answer (get u1 k) false) (sym same)
      ∙ sym (near_names (get u1 k) (is_far_above u1 k) (children_of u1 k) known)
  own_answer (AskMode k) is known =
      whole_mode u2 whole_u k ∙ sym (alike.modes.own k is) ∙ sym (near_mode (get u1 k) (is_far_above u1 k) known)

  own_row : (question : Question) (answer : Answer) → origin done question ≡ None → answer_of u1 question ≡ answer → answer ≢ Away
      → answer_of u2 question ≡ answer
  own_row question answer is first known = own_answer question is (λ away. known (sym first ∙ away)) ∙ first

  no_row : (question : Question) (answer : Answer) → origin done question ≡ None → answer_of u1 question ≡ answer
      → Based t2 u2 question answer (settled question answer)
  no_row question Away is first =
      asks _ refl ((λ h. absurd (never_away u2 whole_u question h)), (λ h. absurd (never_away t2 whole_t question h)))
  no_row question Absent is first = holds refl (own_row question Absent is first (λ away. cc))
  no_row question IsDir is first = holds refl (own_row question IsDir is first (λ away. cc))
  no_row question IsFile is first = holds refl (own_row question IsFile is first (λ away. cc))
  no_row question (Bytes bytes) is first = holds refl (own_row question (Bytes bytes) is first (λ away. cc))
  no_row question (Names names) is first = holds refl (own_row question (Names names) is first (λ away. cc))
  no_row question On is first = holds refl (own_row question On is first (λ away. cc))
  no_row question Off is first = holds refl (own_row question Off is first (λ away. cc))

  pub based_read : (question : Question) (answer : Answer) (found : Option Path) → origin done question ≡ found
      → answer_of u1 question ≡ answer → Based t2 u2 question answer (base_from t1 question answer found)
  based_read question answer (Some o) is first = from_row question answer o is first
  based_read question answer None is first = no_row question answer is first
