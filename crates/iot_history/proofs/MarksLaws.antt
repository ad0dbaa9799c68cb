-- Bodies with marks after them.
use Rattle.std.proofs.Common.{◌≡◌, ℕ, ◌+◌, ◌-◌, ◌<◌, ◌==◌, Bool, true, false, if◌then◌else◌, List, [], ◌∷◌, ◌++◌, replicate}
use Rattle.std.proofs.Common.{refl, sym, ◌∙◌, ap, subst, append_assoc, arith}
use Rattle.std.proofs.lemmas.Bool.Decides.{nat_tests}
use Rattle.std.proofs.lemmas.List.{replicate-append-replicate}
use Rattle.iot_disk.specs.Disk.{Medium}
use Rattle.iot_journal.specs.Decoding.{Encodes}
use Rattle.iot_journal.specs.Images.{EachDecodes, EachDecodesEither}
use Rattle.iot_journal.specs.Journal.{bodies_on, disk_of, IsSynced}
use Rattle.iot_journal.specs.declared.journal.Journal.{Journal}
use Rattle.iot_journal.proofs.ImagesLaws.{each_only}
use Rattle.iot_history.specs.Continuing.{HasMarked, MayHaveMarked}

-- more marks after some
marks_add : (bodies now : List (List ℕ)) (some more all : ℕ) → now ≡ bodies ++ replicate some [] → some + more ≡ all
    → now ++ replicate more [] ≡ bodies ++ replicate all []
marks_add bodies now some more all is sum =
    ap (λ (bs : List (List ℕ)). bs ++ replicate more []) is
    ∙ append_assoc bodies (replicate some []) (replicate more [])
    ∙ ap (λ (bs : List (List ℕ)). bodies ++ bs) (replicate-append-replicate some more [])
    ∙ ap (λ (n : ℕ). bodies ++ replicate n []) sum

-- one more, or none
mark_if : (b : Bool) (marks : ℕ) → (b ≡ true → marks ≡ 1) → (b ≡ false → marks ≡ 0)
    → (if b then [] ∷ [] else []) ≡ replicate {A = List ℕ} marks []
mark_if true marks one none = ap (λ (n : ℕ). replicate {A = List ℕ} n []) (sym (one refl))
mark_if false marks one none = ap (λ (n : ℕ). replicate {A = List ℕ} n []) (sym (none refl))

is_none : (n : ℕ) → (n == 0) ≡ true → n ≡ 0
is_none n h = grind (arith, nat_tests, h)

is_some : (n : ℕ) → (n == 0) ≡ false → 0 < n
is_some n h = grind (arith, nat_tests, h)

-- after the opening
pub marks_none : (bodies now : List (List ℕ)) (old : ℕ) → now ≡ bodies ++ (if old == 0 then [] ∷ [] else [])
    → now ≡ bodies ++ replicate (0 + 1 - old) []
marks_none bodies now old is =
    is
    ∙ ap (λ (bs : List (List ℕ)). bodies ++ bs)
    (mark_if (old == 0) (0 + 1 - old) (λ new. omega (arith, is_none old new)) (λ older. omega (arith, is_some old older)))

-- after one event more
pub marks_more : (bodies now next : List (List ℕ)) (old done left : ℕ) → left ≡ old - (done + 1)
    → now ≡ bodies ++ replicate (done + 1 - old) [] → next ≡ now ++ (if left == 0 then [] ∷ [] else [])
    → next ≡ bodies ++ replicate (done + 1 + 1 - old) []
marks_more bodies now next old done left left_is some is =
    let more = done + 1 + 1 - old - (done + 1 - old) in
    is
    ∙ ap (λ (bs : List (List ℕ)). now ++ bs)
    (mark_if (left == 0) more (λ new. omega (arith, left_is, is_none left new)) (λ older. omega (arith, left_is, is_some left older)))
    ∙ marks_add bodies now (done + 1 - old) more (done + 1 + 1 - old) some (omega arith)

module _ (images : List ℕ → Type 0) (bodies now : List (List ℕ)) (some more all : ℕ) (is : now ≡ bodies ++ replicate some [])
    (sum : some + more ≡ all) where
  pub has_marked : HasMarked images now more → HasMarked images bodies all
  has_marked marked =
      subst (λ (bs : List (List ℕ)). EachDecodes images (Encodes bs)) (marks_add bodies now some more all is sum) marked

  pub may_have_marked : MayHaveMarked images now more → MayHaveMarked images bodies all
  may_have_marked marked =
      subst (λ (bs : List (List ℕ)). EachDecodesEither images (Encodes bs) (Encodes (bodies ++ replicate (all + 1) [])))
      (marks_add bodies now some more all is sum)
      (subst (λ (bs : List (List ℕ)). EachDecodesEither images (Encodes (now ++ replicate more [])) (Encodes bs))
      (marks_add bodies now some (more + 1) (all + 1) is (omega (arith, sum))) marked)

-- those of a journal at rest
pub synced_marked : {J : Type 0} (medium : Medium J) (journal : Journal J) (bodies : List (List ℕ)) (marks : ℕ)
    → IsSynced medium journal → bodies_on medium journal ≡ bodies ++ replicate marks []
    → HasMarked (medium.may_leave (disk_of journal)) bodies marks
synced_marked medium journal bodies marks synced is =
    each_only (medium.reads (disk_of journal)) (medium.may_leave (disk_of journal)) (Encodes (bodies ++ replicate marks []))
    synced.only (synced.encodes ∙ ap (λ (bs : List (List ℕ)). Encodes bs) is)
