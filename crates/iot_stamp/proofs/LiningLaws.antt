-- Stamps in line with rows.
use Rattle.std.proofs.Common.{◌≡◌, ℕ, ◌+◌, ◌<◌, ◌≤◌, Bool, true, false, cond, not, is_some}
use Rattle.std.proofs.Common.{◌||◌, ◌&&◌, List, [], ◌∷◌, ◌++◌, map, Option, Some, None, length}
use Rattle.std.proofs.Common.{take, drop, set, get_or, option_map, refl, sym, ap, subst, ◌∙◌, inl, inr, arith}
use Rattle.std.proofs.lemmas.List.{length-map, map-append, take-map, drop-map, take-set, drop-set, take-append-drop, drop_more, take_more}
use Rattle.std.proofs.Math.Seq.{take-length}
use Rattle.std.specs.FinMap.{get, entries, insert, remove, from_sorted, same_map}
use Rattle.std.specs.FinMap.{same_entries_map, entries-from_sorted, entries_sorted, entries-insert, get-remove}
use Rattle.std.specs.FinMap.Entries.{put}
use Rattle.std.specs.Cmp.{first_so, second_so}
use Rattle.std.specs.Ordering.{is_lt, is_eq}
use Rattle.std.specs.declared.cmp.Ordering.TheVariants.{Less}
use Rattle.iot_text.specs.Paths.{path_cmp}
use Rattle.iot_text.proofs.PathsLaws.{path_total, path_same}
use Rattle.iot_tree.specs.Place.{AllBefore, AllAfter, IsRowAt, IsGap, without}
use Rattle.iot_tree.specs.Rows.{Rising, AreTreeRows, map_of}
use Rattle.iot_tree.specs.Snapshots.{is_known}
use Rattle.iot_tree.specs.Tree.{Path, Row, Nodes}
use Rattle.iot_tree.specs.declared.nodes.Node.{Node}
use Rattle.iot_tree.specs.declared.nodes.Node.TheVariants.{Dir, File, FarDir, FarFile}
use Rattle.iot_tree.specs.declared.nodes.Mode.{Mode}
use Rattle.iot_tree.specs.declared.kinds.Kind.{Kind}
use Rattle.iot_tree.specs.declared.kinds.Kind.TheVariants as kinds
use Rattle.iot_tree.specs.Questions.{node_kind}
use Rattle.iot_tree.specs.declared.updates.Update.{Update}
use Rattle.iot_tree.specs.declared.updates.Update.TheVariants.{Put, MakeDir, Remove, Move, SetMode}
use Rattle.iot_tree.specs.Updates.{Fits, FitsSetMode, mode_in, mode_set, with_mode, updated}
use Rattle.iot_tree.proofs.PlaceLaws.{is_less, turned, back_after}
use Rattle.iot_tree.proofs.RowLaws.{get_here, get_in_gap, put_here, put_in_gap}
use Rattle.iot_tree.proofs.TreeLaws.{same_or_apart}
use Rattle.iot_tree.proofs.WithoutLaws.{entries_without, without_at}
use Rattle.iot_prune.proofs.WalkLaws.{tie}
use Rattle.iot_stamp.specs.Lining.{stamps_by, marked, PutsAt}
use Rattle.iot_stamp.specs.Mapped.{mapped_entries}
use Rattle.iot_stamp.specs.Pairing.{FarRowsZero, AreStamps, paired, stamps_of}
use Rattle.iot_stamp.specs.Stamping.{is_at, shown_same, changes_names, touches, stamped}
use Rattle.iot_stamp.specs.Stamps.{Entry, Stamps, nodes_of, stamp_at, stamped_node, with_stamps, FarZero}
use Rattle.iot_stamp.proofs.FoundLaws.{never}
use Rattle.iot_stamp.proofs.MappedLaws.{entries_of_mapped}
use Rattle.iot_stamp.proofs.PairingLaws.{nodes_paired, list_paired, far_paired}
use Rattle.iot_stamp.proofs.StampsLaws.{get_with, get_nodes, nodes_with}

-- a tree is that of its rows
pub map_back : (t : Nodes) → map_of (entries t) ≡ t
map_back t = same_entries_map _ _ (entries-from_sorted path_cmp (entries t) (entries_sorted t))

-- ---- the stamps of a tree's rows

module _ (f : Path → ℕ) where
  far_by : (rows : List Row) → FarRowsZero rows (stamps_by f rows)
  far_by [] = tt
  far_by (row ∷ rows) = (λ far. ap (λ b. cond b (f row.0) 0) far, far_by rows)

  pub are_stamps_by : (rows : List Row) → AreStamps rows (stamps_by f rows)
  are_stamps_by rows = record { count = length-map rows (λ (row : Row). cond (is_known row.1) (f row.0) 0); far = far_by rows }

  paired_by : (rows : List Row) → paired rows (stamps_by f rows) ≡ mapped_entries (λ p node. stamped_node node (f p)) rows
  paired_by [] = refl
  paired_by (row ∷ rows) = ap (λ (es : List Entry). (row.0, stamped_node row.1 (f row.0)) ∷ es) (paired_by rows)

  -- how far a pass has come that makes them
  pub record Made (rows : List Row) (list : List ℕ) (i : ℕ) : Type 0 where
    pub is : list ≡ stamps_by f (take i rows)

  pub made_more : (rows : List Row) (list new : List ℕ) (i : ℕ) (row : Row) (n : ℕ) → i < length rows → row ≡ get_or rows i row
      → n ≡ cond (is_known row.1) (f row.0) 0 → Made rows list i → new ≡ list ++ n ∷ [] → Made rows new (i + 1)
  made_more rows list new i row n lt is n_is so_far pushed = record {
    is =
        pushed ∙ (λ j. so_far.is j ++ n_is j ∷ [])
        ∙ sym (map-append (λ (row : Row). cond (is_known row.1) (f row.0) 0) (take i rows) (row ∷ []))
        ∙ ap (stamps_by f) (sym (take_more rows i row lt ∙ ap (λ (r : Row). take i rows ++ r ∷ []) (sym is)));
  }

  pub made_all : (rows : List Row) (list : List ℕ) (i : ℕ) → length rows ≤ i → i ≤ length rows → Made rows list i → list ≡ stamps_by f rows
  made_all rows list i long short so_far =
      let end : i ≡ length rows = omega (arith, long, short) in
      so_far.is ∙ ap (stamps_by f) (ap (λ (n : ℕ). take n rows) end ∙ take-length rows)

  pub map_by : (t : Nodes) → stamps_of (entries t) (stamps_by f (entries t)) ≡ with_stamps f t
  map_by t = ap from_sorted (paired_by (entries t))

-- a tree whose far rows have stamp 0 is its nodes with its stamps
pub own_map : (t : Stamps) → FarZero t → t ≡ with_stamps (stamp_at t) (nodes_of t)
own_map t far = same_map path_total path_same _ _ (λ p.
    by p (get t p) refl ∙ ap (option_map (λ node. stamped_node node (stamp_at t p))) (sym (get_nodes t p))
    ∙ sym (get_with (stamp_at t) (nodes_of t) p))
  where
    row_by : (p : Path) (a : Node) (n : ℕ) → get t p ≡ Some (a, n) → (b : Bool) → is_known a ≡ b → n ≡ cond (is_known a) n 0
    row_by p a n is true known = rw known refl
    row_by p a n is false known = rw known (far p a n is known)

    by : (p : Path) (o : Option (Node × ℕ)) → get t p ≡ o
        → get t p ≡ option_map (λ node. stamped_node node (stamp_at t p)) (option_map (λ (row : Node × ℕ). row.0) (get t p))
    by p None is = rw is refl
    by p (Some row) is = rw is (ap (λ (n : ℕ). Some (row.0, n)) (row_by p row.0 row.1 is (is_known row.0) refl))

module _ (t : Nodes) (stamps : List ℕ) (all : AreStamps (entries t) stamps) where
  abbrev whole : Stamps
  whole = stamps_of (entries t) stamps

  list_by : (f : Path → ℕ) (rows : List Row)
      → map (λ (e : Entry). e.1.1) (mapped_entries (λ p node. stamped_node node (f p)) rows) ≡ stamps_by f rows
  list_by f [] = refl
  list_by f (row ∷ rows) = ap (λ (rest : List ℕ). cond (is_known row.1) (f row.0) 0 ∷ rest) (list_by f rows)

  pub own_stamps : stamps ≡ stamps_by (stamp_at whole) (entries t)
  own_stamps =
      sym (list_paired t stamps all.count)
      ∙ ap (λ (m : Stamps). map (λ (e : Entry). e.1.1) (entries m)) (own_map whole (far_paired t stamps all.far))
      ∙ ap (λ (n : Nodes). map (λ (e : Entry). e.1.1) (entries (with_stamps (stamp_at whole) n))) (nodes_paired t stamps)
      ∙ ap (map (λ (e : Entry). e.1.1)) (entries_of_mapped (λ p node. stamped_node node (stamp_at whole p)) t)
      ∙ list_by (stamp_at whole) (entries t)

-- two ways to give stamps to a tree, alike on its rows
pub with_alike : (f g : Path → ℕ) (t : Nodes) → ((k : Path) (node : Node) → get t k ≡ Some node → f k ≡ g k)
    → with_stamps f t ≡ with_stamps g t
with_alike f g t alike = same_map path_total path_same _ _ (λ k. get_with f t k ∙ by k (get t k) refl ∙ sym (get_with g t k))
  where
    by : (k : Path) (o : Option Node) → get t k ≡ o
        → option_map (λ node. stamped_node node (f k)) (get t k) ≡ option_map (λ node. stamped_node node (g k)) (get t k)
    by k None is = rw is refl
    by k (Some node) is = rw is (ap (λ (n : ℕ). Some (stamped_node node n)) (alike k node is))

-- ---- marks

-- a mark after another
pub marked_then : (t : Stamps) (nodes : Nodes) (first second : Path → Bool) (stamp : ℕ)
    → marked (marked t nodes first stamp) (nodes_of (marked t nodes first stamp)) second stamp ≡ marked t nodes (λ k. second k ||
    first k) stamp
marked_then t nodes first second stamp =
    ap (λ (n : Nodes). marked (marked t nodes first stamp) n second stamp) (nodes_with (λ k. cond (first k) stamp (stamp_at t k)) nodes)
    ∙ same_map path_total path_same _ _ (λ k.
    get_with (λ k. cond (second k) stamp (stamp_at (marked t nodes first stamp) k)) nodes k ∙ by k (get nodes k) refl
    ∙ sym (get_with (λ k. cond (second k || first k) stamp (stamp_at t k)) nodes k))
  where
    choose : (b c d : Bool) (old : ℕ)
        → cond b (cond c stamp (cond b (cond d stamp old) 0)) 0 ≡ cond b (cond (c || d) stamp old) 0
    choose false c d old = refl
    choose true true d old = refl
    choose true false d old = refl

    by : (k : Path) (o : Option Node) → get nodes k ≡ o
        → option_map (λ node. stamped_node node (cond (second k) stamp (stamp_at (marked t nodes first stamp) k))) (get nodes k)
        ≡ option_map (λ node. stamped_node node (cond (second k || first k) stamp (stamp_at t k))) (get nodes k)
    by k None is = rw is refl
    by k (Some node) is =
        rw (get_with (λ k. cond (first k) stamp (stamp_at t k)) nodes k, is)
        (ap (λ (n : ℕ). Some (node, n)) (choose (is_known node) (second k) (first k) (stamp_at t k)))

pub marked_alike : (t : Stamps) (nodes : Nodes) (first second : Path → Bool) (stamp : ℕ) → ((k : Path) → first k ≡ second k)
    → marked t nodes first stamp ≡ marked t nodes second stamp
marked_alike t nodes first second stamp alike = λ i. marked t nodes (λ k. alike k i) stamp

-- ---- rows that a mark passes over

-- no row's path passes the test
abbrev pub Untested : (Path → Bool) → List Row → Type 0
Untested test [] = Unit {0}
Untested test (row ∷ rows) = (test row.0 ≡ false) × Untested test rows

pub before_untested : (p : Path) (rows : List Row) → AllBefore p rows → Untested (λ k. is_at k p) rows
before_untested p [] before = tt
before_untested p (row ∷ rows) before = (ap is_eq before.0, before_untested p rows before.1)

pub after_untested : (p : Path) (rows : List Row) → AllAfter p rows → Untested (λ k. is_at k p) rows
after_untested p [] after = tt
after_untested p (row ∷ rows) after = (
  ap is_eq (turned row.0 p Less (is_less _ (first_so (is_lt (path_cmp p row.0)) _ after))),
  after_untested p rows (second_so (is_lt (path_cmp p row.0)) _ after),
)

-- the stamps of paths with a mark
abbrev pub marks : (Path → Bool) → ℕ → (Path → ℕ) → Path → ℕ
marks test stamp f k = cond (test k) stamp (f k)

pub join_by : (g : Path → ℕ) (a b : List Row) → stamps_by g (a ++ b) ≡ stamps_by g a ++ stamps_by g b
join_by g a b = map-append (λ (row : Row). cond (is_known row.1) (g row.0) 0) a b

module _ (test : Path → Bool) (stamp : ℕ) (f : Path → ℕ) where
  pub unmarked : (rows : List Row) → Untested test rows → stamps_by (marks test stamp f) rows ≡ stamps_by f rows
  unmarked [] none = refl
  unmarked (row ∷ rows) none =
      λ i. cond (is_known row.1) (cond (none.0 i) stamp (f row.0)) 0 ∷ unmarked rows none.1 i

  -- a row between two parts of the rows, with its stamp between those of the parts
  pub between_by : (rows : List Row) (i j : ℕ) (row : Row) (n : ℕ) → Untested test (take i rows) → Untested test (drop j rows)
      → test row.0 ≡ true → n ≡ cond (is_known row.1) stamp 0
      → take i (stamps_by f rows) ++ n ∷ drop j (stamps_by f rows) ≡ stamps_by (marks test stamp f) (take i rows ++ row ∷ drop j rows)
  between_by rows i j row n front back passes is =
      (λ k. (take-map (λ (row : Row). cond (is_known row.1) (f row.0) 0) i rows ∙ sym (unmarked (take i rows) front)) k
      ++ (is ∙ ap (λ b. cond (is_known row.1) (cond b stamp (f row.0)) 0) (sym passes)) k
      ∷ (drop-map (λ (row : Row). cond (is_known row.1) (f row.0) 0) j rows ∙ sym (unmarked (drop j rows) back)) k)
      ∙ sym (join_by (marks test stamp f) (take i rows) (row ∷ drop j rows))

-- the parts of the stamps of two parts of the rows
pub parts_by : (f : Path → ℕ) (rows : List Row) (i j : ℕ)
    → take i (stamps_by f rows) ++ drop j (stamps_by f rows) ≡ stamps_by f (take i rows ++ drop j rows)
parts_by f rows i j =
    (λ k. take-map (λ (row : Row). cond (is_known row.1) (f row.0) 0) i rows k
    ++ drop-map (λ (row : Row). cond (is_known row.1) (f row.0) 0) j rows k)
    ∙ sym (map-append (λ (row : Row). cond (is_known row.1) (f row.0) 0) (take i rows) (drop j rows))

set_is : {V : Type 0} (xs : List V) (at : ℕ) (x : V) → at < length xs → set xs at x ≡ take at xs ++ x ∷ drop (at + 1) xs
set_is xs at x lt = sym (take-append-drop at (set xs at x)) ∙ (λ i. take-set xs at x i ++ drop-set xs at x lt i)

-- ---- a mark at one path

module _ (rows : List Row) (rising : Rising rows) (p : Path) where
  pub whole_row : (at : ℕ) → IsRowAt rows p at → (d : Row) → rows ≡ take at rows ++ get_or rows at d ∷ drop (at + 1) rows
  whole_row at stands d =
      sym (take-append-drop at rows) ∙ ap (λ (back : List Row). take at rows ++ back) (drop_more rows at d stands.in_range)

  pub row_after : (at : ℕ) → IsRowAt rows p at → AllAfter p (drop (at + 1) rows)
  row_after at stands =
      subst (λ (path : Path). AllAfter path (drop (at + 1) rows)) (stands.here ([], Dir))
      (back_after (take at rows) (get_or rows at ([], Dir)) (drop (at + 1) rows) (subst Rising (whole_row at stands ([], Dir)) rising))

  module _ (stamp : ℕ) (f : Path → ℕ) where
    -- the mark of a row
    pub mark_row : (at : ℕ) → IsRowAt rows p at → (row : Row) → row.0 ≡ p → (n : ℕ) → n ≡ cond (is_known row.1) stamp 0
        → set (stamps_by f rows) at n ≡ stamps_by (marks (λ k. is_at k p) stamp f) (take at rows ++ row ∷ drop (at + 1) rows)
    mark_row at stands row here n is =
        set_is (stamps_by f rows) at n (subst (λ (m : ℕ). at < m) (sym (length-map rows (λ (row : Row). cond (is_known row.1) (f
        row.0) 0))) stands.in_range)
        ∙ between_by (λ k. is_at k p) stamp f rows at (at + 1) row n (before_untested p (take at rows) stands.before)
        (after_untested p (drop (at + 1) rows) (row_after at stands)) (tie row.0 p here) is

    -- a new row with its mark
    pub mark_gap : (gap : ℕ) → IsGap rows p gap → (row : Row) → row.0 ≡ p → is_known row.1 ≡ true
        → take gap (stamps_by f rows) ++ stamp ∷ drop gap (stamps_by f rows)
        ≡ stamps_by (marks (λ k. is_at k p) stamp f) (take gap rows ++ row ∷ drop gap rows)
    mark_gap gap is_gap row here known =
        between_by (λ k. is_at k p) stamp f rows gap gap row stamp (before_untested p (take gap rows) is_gap.before)
        (after_untested p (drop gap rows) is_gap.after) (tie row.0 p here) (sym (ap (λ b. cond b stamp 0) known))

-- a mark that no row passes changes nothing
pub unmarked_map : (t : Stamps) → FarZero t → (test : Path → Bool) (stamp : ℕ)
    → ((k : Path) (node : Node) → get (nodes_of t) k ≡ Some node → test k ≡ false) → t ≡ marked t (nodes_of t) test stamp
unmarked_map t far test stamp none =
    own_map t far
    ∙ with_alike (stamp_at t) (λ k. cond (test k) stamp (stamp_at t k)) (nodes_of t) (λ k node is.
    sym (ap (λ b. cond b stamp (stamp_at t k)) (none k node is)))

-- what an update that puts something puts
record Puts (t : Nodes) (u : Update) (p : Path) : Type 0 where
  node : Node
  is : updated t u ≡ insert t p node
  known : is_known node ≡ true

puts : (t : Nodes) (u : Update) (p : Path) → PutsAt u p → Puts t u p
puts t (Put at bytes) p is =
    let new : Node = File bytes (mode_in (get t at)) in
    record { node = new; is = ap (λ (path : Path). insert t path new) is; known = refl }
puts t (MakeDir at) p is = record { node = Dir; is = ap (λ (path : Path). insert t path Dir) is; known = refl }
puts t (Remove at) p is = absurd is
puts t (Move from to) p is = absurd is
puts t (SetMode at mode) p is = absurd is

no_kind : (kind : Kind) → None ≡ Some kind → ⊥
no_kind kind is = cc

known_mode : (mode : Mode) (node : Node) → is_known (with_mode mode node) ≡ is_known node
known_mode mode Dir = refl
known_mode mode (File bytes old) = refl
known_mode mode FarDir = refl
known_mode mode (FarFile old) = refl

-- ---- a stamped tree's stamps, changed

module _ (t : Nodes) (stamps : List ℕ) (all : AreStamps (entries t) stamps) where
  abbrev pub before : Stamps
  before = stamps_of (entries t) stamps

  -- stamps in line with rows make a stamped tree
  pub made : (new : Nodes) (test : Path → Bool) (stamp : ℕ) (list : List ℕ)
      → list ≡ stamps_by (marks test stamp (stamp_at before)) (entries new)
      → AreStamps (entries new) list × (stamps_of (entries new) list ≡ marked before new test stamp)
  made new test stamp list is = (
    subst (AreStamps (entries new)) (sym is) (are_stamps_by (marks test stamp (stamp_at before)) (entries new)),
    ap (stamps_of (entries new)) is ∙ map_by (marks test stamp (stamp_at before)) new,
  )

  pub nodes_before : nodes_of before ≡ t
  nodes_before = nodes_paired t stamps

  pub updated_from : (m : Stamps) → before ≡ m → (u : Update) (new : Nodes) → new ≡ updated t u → (test : Path → Bool) (stamp : ℕ)
      → marked before new test stamp ≡ marked m (updated (nodes_of m) u) test stamp
  updated_from m m_is u new new_is test stamp =
      ap (λ (n : Nodes). marked before n test stamp) (new_is ∙ ap (λ (n : Nodes). updated n u) (sym nodes_before))
      ∙ ap (λ (m : Stamps). marked m (updated (nodes_of m) u) test stamp) m_is

  pub fits_in : (m : Stamps) → before ≡ m → (u : Update) → Fits (nodes_of m) u → Fits t u
  fits_in m m_is u fits = subst (λ (n : Nodes). Fits n u) (ap nodes_of (sym m_is) ∙ nodes_before) fits

  module _ (tree : AreTreeRows (entries t)) (p : Path) (stamp : ℕ) where
    abbrev mark : Path → ℕ
    mark = marks (λ k. is_at k p) stamp (stamp_at before)

    pub at_row : (at : ℕ) → IsRowAt (entries t) p at → (row : Row) → row ≡ get_or (entries t) at row → (n : ℕ)
        → n ≡ cond (is_known row.1) stamp 0 → set stamps at n ≡ stamps_by mark (entries t)
    at_row at stands row is n n_is =
        (λ i. set (own_stamps t stamps all i) at n)
        ∙ mark_row (entries t) tree.rising p stamp (stamp_at before) at stands row (ap (λ (r : Row). r.0) is ∙ stands.here row) n n_is
        ∙ ap (stamps_by mark)
        (sym
        (whole_row (entries t) tree.rising p at stands row
        ∙ ap (λ (r : Row). take at (entries t) ++ r ∷ drop (at + 1) (entries t)) (sym is)))

    pub no_row : (gap : ℕ) → IsGap (entries t) p gap → (k : Path) (node : Node) → get t k ≡ Some node → is_at k p ≡ false
    no_row gap is_gap k node is = elim (same_or_apart k p) [
      | inl here ↦
          absurd (never node (sym (get_in_gap (entries t) tree.rising p gap is_gap) ∙ ap (λ (n : Nodes). get n p) (map_back t)
          ∙ ap (get t) (sym here) ∙ is))
      | inr away ↦ away
    ]

    there : (m : Stamps) → before ≡ m → get (nodes_of m) p ≡ get (map_of (entries t)) p
    there m m_is = ap (λ (n : Nodes). get n p) (ap nodes_of (sym m_is) ∙ nodes_before ∙ sym (map_back t))

    pub row_there : (m : Stamps) → before ≡ m → (at : ℕ) → IsRowAt (entries t) p at → false ≡ not (is_some (get (nodes_of m) p))
    row_there m m_is at stands =
        ap (λ (o : Option Node). not (is_some o)) (sym (there m m_is ∙ get_here (entries t) tree.rising p at stands ([], Dir)))

    pub gap_there : (m : Stamps) → before ≡ m → (gap : ℕ) → IsGap (entries t) p gap → true ≡ not (is_some (get (nodes_of m) p))
    gap_there m m_is gap is_gap =
        ap (λ (o : Option Node). not (is_some o)) (sym (there m m_is ∙ get_in_gap (entries t) tree.rising p gap is_gap))

    module _ (node : Node) (new : Nodes) (new_is : new ≡ insert t p node) where
      rows_with : entries new ≡ put path_cmp p node (entries t)
      rows_with = ap (λ (n : Nodes). entries n) new_is ∙ entries-insert path_total t p node

      -- a row whose object is another one now, known or not
      pub node_row : (at : ℕ) → IsRowAt (entries t) p at → (n : ℕ) → n ≡ cond (is_known node) stamp 0
          → set stamps at n ≡ stamps_by mark (entries new)
      node_row at stands n n_is =
          let row : Row = ((get_or (entries t) at ([], Dir)).0, node) in
          (λ i. set (own_stamps t stamps all i) at n)
          ∙ mark_row (entries t) tree.rising p stamp (stamp_at before) at stands row (stands.here ([], Dir)) n n_is
          ∙ ap (stamps_by mark)
          (sym (set_is (entries t) at row stands.in_range) ∙ put_here (entries t) tree p node at stands ([], Dir) ∙ sym rows_with)

    -- a file that is to get a mode is there
    pub gap_never : (m : Stamps) → before ≡ m → (gap : ℕ) → IsGap (entries t) p gap → FitsSetMode (nodes_of m) p → ⊥
    gap_never m m_is gap is_gap fits =
        no_kind kinds.IsFile
        (sym (ap (option_map node_kind) (there m m_is ∙ get_in_gap (entries t) tree.rising p gap is_gap)) ∙ fits.file)

    module _ (mode : Mode) (at : ℕ) (stands : IsRowAt (entries t) p at) (row : Row) (is : row ≡ get_or (entries t) at row) where
      node_there : get t p ≡ Some row.1
      node_there =
          ap (λ (n : Nodes). get n p) (sym (map_back t)) ∙ get_here (entries t) tree.rising p at stands row
          ∙ ap (λ (r : Row). Some r.1) (sym is)

      -- the row of a file that gets a mode
      pub mode_row : (new : Nodes) → new ≡ updated t (SetMode p mode) → (n : ℕ) → n ≡ cond (is_known row.1) stamp 0
          → set stamps at n ≡ stamps_by mark (entries new)
      mode_row new new_is n n_is =
          node_row (with_mode mode row.1) new (new_is ∙ ap (mode_set t p mode) node_there) at stands n
          (n_is ∙ ap (λ b. cond b stamp 0) (sym (known_mode mode row.1)))

      -- whether it had another one
      pub mode_changes : (m : Stamps) → before ≡ m → (other : Bool)
          → other ≡ not (shown_same (Some row.1) (Some (with_mode mode row.1))) → other ≡ changes_names (nodes_of m) (SetMode p mode)
      mode_changes m m_is other other_is =
          other_is
          ∙ ap (λ (o : Option Node). not (shown_same o (option_map (with_mode mode) o)))
          (sym (ap (λ (n : Nodes). get n p) (ap nodes_of (sym m_is) ∙ nodes_before) ∙ node_there))

    module _ (u : Update) (puts_at : PutsAt u p) (new : Nodes) (new_is : new ≡ updated t u) where
      abbrev put_in : Puts t u p
      put_in = puts t u p puts_at

      rows_are : entries new ≡ put path_cmp p put_in.node (entries t)
      rows_are = rows_with put_in.node new (new_is ∙ put_in.is)

      pub put_row : (at : ℕ) → IsRowAt (entries t) p at → set stamps at stamp ≡ stamps_by mark (entries new)
      put_row at stands =
          node_row put_in.node new (new_is ∙ put_in.is) at stands stamp (sym (ap (λ b. cond b stamp 0) put_in.known))

      pub put_gap : (gap : ℕ) → IsGap (entries t) p gap → take gap stamps ++ stamp ∷ drop gap stamps ≡ stamps_by mark (entries new)
      put_gap gap is_gap =
          (λ i. take gap (own_stamps t stamps all i) ++ stamp ∷ drop gap (own_stamps t stamps all i))
          ∙ mark_gap (entries t) tree.rising p stamp (stamp_at before) gap is_gap (p, put_in.node) refl put_in.known
          ∙ ap (stamps_by mark) (put_in_gap (entries t) tree p put_in.node gap is_gap ∙ sym rows_are)

  -- a row that goes, with its stamp
  pub row_goes : AreTreeRows (entries t) → (p : Path) (at : ℕ) → IsRowAt (entries t) p at → (new : Nodes) → new ≡ remove t p
      → take at stamps ++ drop (at + 1) stamps ≡ stamps_by (stamp_at before) (entries new)
  row_goes tree p at stands new is =
      (λ i. take at (own_stamps t stamps all i) ++ drop (at + 1) (own_stamps t stamps all i))
      ∙ parts_by (stamp_at before) (entries t) at (at + 1)
      ∙ ap (stamps_by (stamp_at before))
      (sym
      (ap (λ (n : Nodes). entries n) (is ∙ ap (λ (n : Nodes). remove n p) (sym (map_back t)))
      ∙ entries_without p (entries t) tree.rising
      ∙ ap (without p) (whole_row (entries t) tree.rising p at stands ([], Dir))
      ∙ without_at p (take at (entries t)) (get_or (entries t) at ([], Dir)) (drop (at + 1) (entries t)) stands.before
      (stands.here ([], Dir))
      (row_after (entries t) tree.rising p at stands)))

  pub goes_map : (new : Nodes) (list : List ℕ) → list ≡ stamps_by (stamp_at before) (entries new)
      → AreStamps (entries new) list × (stamps_of (entries new) list ≡ with_stamps (stamp_at before) new)
  goes_map new list is = (
    subst (AreStamps (entries new)) (sym is) (are_stamps_by (stamp_at before) (entries new)),
    ap (stamps_of (entries new)) is ∙ map_by (stamp_at before) new,
  )

-- ---- marks that make an update's stamps

-- a mark after the update, and one more
module _ (t one : Stamps) (u : Update) (stamp : ℕ) (first : Path → Bool)
    (one_is : one ≡ marked t (updated (nodes_of t) u) first stamp) where
  pub stamped_one : ((k : Path) → first k ≡ touches (nodes_of t) u k) → one ≡ stamped t u stamp
  stamped_one alike = one_is ∙ marked_alike t (updated (nodes_of t) u) first (touches (nodes_of t) u) stamp alike

  pub marked_two : (two : Stamps) (second : Path → Bool) → two ≡ marked one (nodes_of one) second stamp
      → two ≡ marked t (updated (nodes_of t) u) (λ k. second k || first k) stamp
  marked_two two second two_is =
      two_is ∙ ap (λ (m : Stamps). marked m (nodes_of m) second stamp) one_is
      ∙ marked_then t (updated (nodes_of t) u) first second stamp

-- a tree without a row has no mark there
pub removed_marked : (t : Stamps) (p : Path) (stamp : ℕ)
    → with_stamps (stamp_at t) (remove (nodes_of t) p) ≡ marked t (remove (nodes_of t) p) (λ k. is_at k p) stamp
removed_marked t p stamp =
    with_alike (stamp_at t) (marks (λ k. is_at k p) stamp (stamp_at t)) (remove (nodes_of t) p) (λ k node is. by k node is (is_at k p) refl)
  where
    by : (k : Path) (node : Node) → get (remove (nodes_of t) p) k ≡ Some node → (b : Bool) → is_at k p ≡ b
        → stamp_at t k ≡ marks (λ k. is_at k p) stamp (stamp_at t) k
    by k node is false away = rw away refl
    by k node is true here =
        absurd (never node (sym (get-remove path_total (nodes_of t) p k ∙ ap (λ (b : Bool). cond b None (get (nodes_of t) k)) here) ∙ is))

pub put_new : (at parent new : Bool) → true ≡ new → (parent || at) ≡ (at || (parent && new))
put_new true true new is = refl
put_new true false new is = refl
put_new false true new is = is
put_new false false new is = refl

pub put_old : (at parent new : Bool) → false ≡ new → at ≡ (at || (parent && new))
put_old true parent new is = refl
put_old false true new is = is
put_old false false new is = refl

pub swapped : (at parent : Bool) → (parent || at) ≡ (at || parent)
swapped true true = refl
swapped true false = refl
swapped false true = refl
swapped false false = refl

pub move_new : (within from to new : Bool) → true ≡ new → (to || (from || within)) ≡ (within || (from || (to && new)))
move_new true from true new is = refl
move_new true true false new is = refl
move_new true false false new is = refl
move_new false true true new is = refl
move_new false false true new is = is
move_new false true false new is = refl
move_new false false false new is = refl

pub move_old : (within from to new : Bool) → false ≡ new → (from || within) ≡ (within || (from || (to && new)))
move_old true true to new is = refl
move_old true false to new is = refl
move_old false true to new is = refl
move_old false false true new is = is
move_old false false false new is = refl
