-- Two trees before a run, the trees after it, and where the modes of their files come from.
use Rattle.std.proofs.Common.{◌≡◌, ◌↔◌, ℕ, List, [], ◌++◌, Option, Some, None, refl, sym, ap, subst, ◌∙◌, inl, inr, false, ◌≢◌}
use Rattle.std.specs.FinMap.{get}
use Rattle.iot_tree.specs.Tree.{Nodes, Path}
use Rattle.iot_tree.specs.Questions.{mode_answer, mode_told}
use Rattle.iot_tree.specs.Updates.{mode_in, updated}
use Rattle.iot_tree.specs.declared.kinds.Kind.TheVariants as kinds
use Rattle.iot_tree.specs.declared.nodes.Mode.{Mode}
use Rattle.iot_tree.specs.declared.nodes.Node.{Node}
use Rattle.iot_tree.specs.declared.nodes.Node.TheVariants.{Dir, File, FarDir, FarFile}
use Rattle.iot_tree.specs.declared.questions.Answer.TheVariants as answers
use Rattle.iot_tree.specs.declared.updates.Update.{Update}
use Rattle.iot_tree.specs.declared.updates.Update.TheVariants.{Put}
use Rattle.iot_tree.proofs.ChildKindLaws.{SameKind, row_kind}
use Rattle.iot_tree.proofs.TreeLaws.{get-insert_other, same_or_apart}
use Rattle.iot_tree.proofs.WithinLaws.{IsOutside, side, inside, outside}
use Rattle.iot_access.specs.Sources.{hidden, carried, source, mode_source}
use Rattle.iot_access.proofs.FarLaws.{FarTied, far_first}
use Rattle.iot_access.proofs.StepLaws.{put_here}
use Rattle.iot_access.proofs.TiedLaws.{Sources, Tied, no_source, same_some, tied_first, hidden_inside, hidden_outside, carried_inside}
use Rattle.iot_access.proofs.TiedLaws.{carried_outside}

-- two trees show the same mode at a path, or none
abbrev pub SameMode : Nodes → Nodes → Path → Type 0
SameMode t u k = mode_answer (get t k) false ≡ mode_answer (get u k) false

-- modes with a source are the same after exactly if they were the same before, and those without one are the same
pub record ModesTied (m : Sources) (t1 u1 t2 u2 : Nodes) : Type 0 where
  pub from : (k o : Path) → m k ≡ Some o → SameMode u1 u2 k ↔ SameMode t1 t2 o
  pub own : (k : Path) → m k ≡ None → SameMode u1 u2 k

-- before a run
pub modes_first : (t1 t2 : Nodes) → ModesTied (λ k. Some k) t1 t1 t2 t2
modes_first t1 t2 = record {
  from = λ k o is. subst (λ (o : Path). SameMode t1 t2 k ↔ SameMode t1 t2 o) (same_some k o is) ((λ same. same), (λ same. same));
  own = λ k is. absurd cc;
}

shown : (a b : Nodes) (j k : Path) → get a j ≡ get b k → mode_answer (get a j) false ≡ mode_answer (get b k) false
shown a b j k same = ap (λ o. mode_answer o false) same

-- the same mode, carried over
same_by : (a b c d : Nodes) (j k : Path) → get c j ≡ get a k → get d j ≡ get b k → SameMode a b k → SameMode c d j
same_by a b c d j k left right same = shown c a j k left ∙ same ∙ sym (shown d b j k right)

iff_by : (a b c d : Nodes) (j k : Path) (G : Type 0) → get c j ≡ get a k → get d j ≡ get b k → SameMode a b k ↔ G → SameMode c d j ↔ G
iff_by a b c d j k G left right iff = (
  (λ same. iff.0 (same_by c d a b k j (sym left) (sym right) same)),
  (λ g. same_by a b c d j k left right (iff.1 g)),
)

-- ---- a file that is put shows the mode that was there

file_shows : (mode : Mode) (o : Option Node) → Some kinds.IsFile ≡ row_kind o
    → (mode_told mode ≡ mode_told (mode_in o)) ↔ (mode_told mode ≡ mode_answer o false)
file_shows mode None same = absurd cc
file_shows mode (Some Dir) same = absurd cc
file_shows mode (Some (File bytes other)) same = ((λ is. is), (λ is. is))
file_shows mode (Some FarDir) same = absurd cc
file_shows mode (Some (FarFile other)) same = ((λ is. is), (λ is. is))

none_shows : (o : Option Node) → row_kind o ≢ Some kinds.IsFile
    → (answers.Off ≡ mode_told (mode_in o)) × (answers.Absent ≡ mode_answer o false)
none_shows None no_file = (refl, refl)
none_shows (Some Dir) no_file = (refl, refl)
none_shows (Some (File bytes mode)) no_file = absurd (no_file refl)
none_shows (Some FarDir) no_file = (refl, refl)
none_shows (Some (FarFile mode)) no_file = absurd (no_file refl)

none_show : (a b : Option Node) → row_kind a ≢ Some kinds.IsFile → row_kind a ≡ row_kind b
    → (mode_told (mode_in a) ≡ mode_told (mode_in b)) ↔ (mode_answer a false ≡ mode_answer b false)
none_show a b no_file same =
    let one = none_shows a no_file in
    let other = none_shows b (λ is. no_file (same ∙ is)) in (
      (λ _. sym one.1 ∙ other.1),
      (λ _. sym one.0 ∙ other.0),
    )

-- two rows of one kind show the same mode exactly if the files that are put over them do
put_shows : (a b : Option Node) → row_kind a ≡ row_kind b
    → (mode_told (mode_in a) ≡ mode_told (mode_in b)) ↔ (mode_answer a false ≡ mode_answer b false)
put_shows None b same = none_show None b (λ is. cc) same
put_shows (Some Dir) b same = none_show (Some Dir) b (λ is. cc) same
put_shows (Some (File bytes mode)) b same = file_shows mode b same
put_shows (Some FarDir) b same = none_show (Some FarDir) b (λ is. cc) same
put_shows (Some (FarFile mode)) b same = file_shows mode b same

module _ (m : Sources) (t1 u1 t2 u2 : Nodes) (tied : ModesTied m t1 u1 t2 u2) where
  -- ---- a file is put, in both trees

  module _ (p : Path) (bytes : List ℕ) (guard : SameKind u1 u2 p) where
    abbrev v1 : Nodes
    v1 = updated u1 (Put p bytes)

    abbrev v2 : Nodes
    v2 = updated u2 (Put p bytes)

    here : SameMode v1 v2 p ↔ SameMode u1 u2 p
    here =
        let put = put_shows (get u1 p) (get u2 p) guard in
        let left = ap (λ o. mode_answer o false) (put_here u1 p (File bytes (mode_in (get u1 p)))) in
        let right = ap (λ o. mode_answer o false) (put_here u2 p (File bytes (mode_in (get u2 p)))) in (
          (λ same. put.0 (sym left ∙ same ∙ right)),
          (λ same. left ∙ put.1 same ∙ sym right),
        )

    keeps : (k : Path) → SameMode v1 v2 k ↔ SameMode u1 u2 k
    keeps k = elim (same_or_apart k p) [
      | inl same ↦ subst (λ (path : Path). SameMode v1 v2 path ↔ SameMode u1 u2 path) (sym same) here
      | inr differ ↦
          iff_by u1 u2 v1 v2 k k (SameMode u1 u2 k) (get-insert_other u1 p (File bytes (mode_in (get u1 p))) k differ)
          (get-insert_other u2 p (File bytes (mode_in (get u2 p))) k differ) ((λ same. same), (λ same. same))
    ]

    pub modes_put : ModesTied m t1 v1 t2 v2
    modes_put = record {
      from = λ k o is. ((λ same. (tied.from k o is).0 ((keeps k).0 same)), (λ same. (keeps k).1 ((tied.from k o is).1 same)));
      own = λ k is. (keeps k).1 (tied.own k is);
    }

  -- ---- what is at or below a path is new, and shows the same in both trees

  module _ (p : Path) (v1 v2 : Nodes) (else1 : (k : Path) → IsOutside p k → get v1 k ≡ get u1 k)
      (else2 : (k : Path) → IsOutside p k → get v2 k ≡ get u2 k) (alike : (rest : Path) → SameMode v1 v2 (p ++ rest)) where
    hidden_from : (k o : Path) → hidden p m k ≡ Some o → SameMode v1 v2 k ↔ SameMode t1 t2 o
    hidden_from k o is = elim (side p k) [
      | inside rest at test ↦ absurd (no_source o (sym (hidden_inside p m k rest at) ∙ is))
      | outside out test ↦
          iff_by u1 u2 v1 v2 k k (SameMode t1 t2 o) (else1 k out) (else2 k out) (tied.from k o (sym (hidden_outside p m k out) ∙ is))
    ]

    hidden_own : (k : Path) → hidden p m k ≡ None → SameMode v1 v2 k
    hidden_own k is = elim (side p k) [
      | inside rest at test ↦ subst (λ (path : Path). SameMode v1 v2 path) (sym at) (alike rest)
      | outside out test ↦ same_by u1 u2 v1 v2 k k (else1 k out) (else2 k out) (tied.own k (sym (hidden_outside p m k out) ∙ is))
    ]

    pub modes_hidden : ModesTied (hidden p m) t1 v1 t2 v2
    modes_hidden = record { from = hidden_from; own = hidden_own }

  -- ---- what is at or below a path comes to another

  module _ (p q : Path) (v1 v2 : Nodes)
      (moved1 : (rest : Path) → get v1 (q ++ rest) ≡ get u1 (p ++ rest)) (moved2 : (rest : Path) → get v2 (q ++ rest) ≡ get u2 (p ++ rest))
      (gone1 : (rest : Path) → get v1 (p ++ rest) ≡ None) (gone2 : (rest : Path) → get v2 (p ++ rest) ≡ None)
      (else1 : (k : Path) → IsOutside p k → IsOutside q k → get v1 k ≡ get u1 k)
      (else2 : (k : Path) → IsOutside p k → IsOutside q k → get v2 k ≡ get u2 k) where
    carried_from : (k o : Path) → carried p q m k ≡ Some o → SameMode v1 v2 k ↔ SameMode t1 t2 o
    carried_from k o is = elim (side q k) [
      | inside rest at test ↦
          iff_by u1 u2 v1 v2 k (p ++ rest) (SameMode t1 t2 o) (ap (get v1) at ∙ moved1 rest) (ap (get v2) at ∙ moved2 rest)
          (tied.from (p ++ rest) o (sym (carried_inside p q m k rest at) ∙ is))
      | outside out_q test ↦ elim (side p k) [
        | inside rest at test ↦ absurd (no_source o (sym (carried_outside p q m k out_q ∙ hidden_inside p m k rest at) ∙ is))
        | outside out_p test ↦
            iff_by u1 u2 v1 v2 k k (SameMode t1 t2 o) (else1 k out_p out_q) (else2 k out_p out_q)
            (tied.from k o (sym (carried_outside p q m k out_q ∙ hidden_outside p m k out_p) ∙ is))
      ]
    ]

    carried_own : (k : Path) → carried p q m k ≡ None → SameMode v1 v2 k
    carried_own k is = elim (side q k) [
      | inside rest at test ↦
          same_by u1 u2 v1 v2 k (p ++ rest) (ap (get v1) at ∙ moved1 rest) (ap (get v2) at ∙ moved2 rest)
          (tied.own (p ++ rest) (sym (carried_inside p q m k rest at) ∙ is))
      | outside out_q test ↦ elim (side p k) [
        | inside rest at test ↦ shown v1 v2 k k (ap (get v1) at ∙ gone1 rest ∙ sym (gone2 rest) ∙ sym (ap (get v2) at))
        | outside out_p test ↦
            same_by u1 u2 v1 v2 k k (else1 k out_p out_q) (else2 k out_p out_q)
            (tied.own k (sym (carried_outside p q m k out_q ∙ hidden_outside p m k out_p) ∙ is))
      ]
    ]

    pub modes_carried : ModesTied (carried p q m) t1 v1 t2 v2
    modes_carried = record { from = carried_from; own = carried_own }

-- ---- all that ties the trees of two runs with the same updates, the last one first

pub record Alike (done : List Update) (t1 u1 t2 u2 : Nodes) : Type 0 where
  pub rows : Tied (source done) t1 u1 t2 u2
  pub modes : ModesTied (mode_source done) t1 u1 t2 u2
  pub far : FarTied (mode_source done) t1 u1

pub alike_first : (t1 t2 : Nodes) → Alike [] t1 t1 t2 t2
alike_first t1 t2 = record { rows = tied_first t1 t2; modes = modes_first t1 t2; far = far_first t1 }
