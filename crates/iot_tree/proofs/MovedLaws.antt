-- The rows that a move leaves.
use Rattle.std.proofs.Common.{◌≡◌, List, [], ◌∷◌, ◌++◌, refl, sym, ap, ◌∙◌, None, ◌≢◌, map, subst}
use Rattle.std.specs.Cmp.Derive.{both_true}
use Rattle.std.proofs.lemmas.List.{append-nil}
use Rattle.std.specs.Cmp.{first_so, second_so}
use Rattle.std.specs.FinMap.{find, get, entries, remove, get-from_entries, same_map}
use Rattle.std.specs.FinMap.Entries.{below_all}
use Rattle.std.specs.Option.{option_or}
use Rattle.std.specs.Ordering.{is_lt}
use Rattle.iot_text.specs.Paths.{path_cmp}
use Rattle.iot_text.proofs.PathsLaws.{path_same, path_total}
use Rattle.iot_tree.specs.Place.{AllBefore, AllAfter, without}
use Rattle.iot_tree.specs.Rows.{Rising, map_of, AreTreeRows}
use Rattle.iot_tree.specs.Tree.{Path, Row, IsTree}
use Rattle.iot_tree.specs.Updates.{FitsMove, renamed_row, moved}
use Rattle.iot_tree.proofs.RenamedLaws.{moved_inside, moved_outside, sorted_moved}
use Rattle.iot_tree.proofs.RowLaws.{get_rows}
use Rattle.iot_tree.proofs.TreeLaws.{apart}
use Rattle.iot_tree.proofs.UpdateLaws.{longer, to_outside, from_outside, tree_moved}
use Rattle.iot_tree.proofs.WithinLaws.{IsOutside, Inside, Outside, side, find_join, find_last, find_front, find_outside, find_inside}
use Rattle.iot_tree.proofs.WithinLaws.{outside_found, sorted_front, sorted_back, sorted_join, all_inside_below, before_all, forked, inside}
use Rattle.iot_tree.proofs.WithinLaws.{outside}
use Rattle.iot_tree.proofs.WithoutLaws.{without_inside, without_join, outside_without, find_other, find_left_out, sorted_without}
use Rattle.iot_tree.proofs.WithoutLaws.{entries_without}

outside_left : (p : Path) (a b : List Row) → Outside p (a ++ b) → Outside p a
outside_left p [] b out = tt
outside_left p (row ∷ a) b out = (out.0, outside_left p a b out.1)

outside_right : (p : Path) (a b : List Row) → Outside p (a ++ b) → Outside p b
outside_right p [] b out = out
outside_right p (row ∷ a) b out = outside_right p a b out.1

below_back : (k : Path) (a b : List Row) → AllAfter k (a ++ b) → AllAfter k b
below_back k [] b below = below
below_back k (row ∷ a) b below = below_back k a b (second_so (is_lt (path_cmp k row.0)) _ below)

below_skip : (k : Path) (a b c : List Row) → AllAfter k (a ++ (b ++ c)) → AllAfter k (a ++ c)
below_skip k [] b c below = below_back k b c below
below_skip k (row ∷ a) b c below = both_true (first_so _ _ below) (below_skip k a b c (second_so (is_lt (path_cmp k row.0)) _ below))

-- rows in order stay so if some are left out
pub sorted_skip : (a b c : List Row) → Rising (a ++ (b ++ c)) → Rising (a ++ c)
sorted_skip [] b c rising = sorted_back b c rising
sorted_skip (row ∷ a) b c rising =
    both_true (below_skip row.0 a b c (first_so _ _ rising))
    (sorted_skip a b c (second_so (below_all path_cmp row.0 (a ++ (b ++ c))) _ rising))

-- rows at or below q are found alike wherever they stand among the others
module _ (q : Path) (a c f b m : List Row) (same : a ++ c ≡ f ++ b) (out : Outside q (f ++ b)) (ins : Inside q m) where
  out_other : Outside q (a ++ c)
  out_other = subst (Outside q) (sym same) out

  among_inside : (rest : Path) (a c : List Row) → Outside q (a ++ c)
      → find path_cmp (q ++ rest) (a ++ (m ++ c)) ≡ find path_cmp (q ++ rest) m
  among_inside rest a c out =
      find_last (q ++ rest) a (m ++ c) (find_outside q rest a (outside_left q a c out))
      ∙ find_front (q ++ rest) m c (find_outside q rest c (outside_right q a c out))

  pub among_outside : (k : Path) → IsOutside q k → (a c : List Row) → find path_cmp k (a ++ (m ++ c)) ≡ find path_cmp k (a ++ c)
  among_outside k apart a c =
      find_join k a (m ++ c) ∙ ap (option_or (find path_cmp k a)) (find_last k m c (find_inside q k m apart ins)) ∙ sym (find_join k a c)

  pub found_alike : (k : Path) → find path_cmp k (a ++ (m ++ c)) ≡ find path_cmp k (f ++ (m ++ b))
  found_alike k = elim (side q k) [
    | inside rest is test ↦
        subst (λ (path : Path). find path_cmp path (a ++ (m ++ c)) ≡ find path_cmp path (f ++ (m ++ b))) (sym is)
        (among_inside rest a c out_other ∙ sym (among_inside rest f b out))
    | outside apart test ↦ among_outside k apart a c ∙ ap (find path_cmp k) same ∙ sym (among_outside k apart f b)
  ]

-- A move among the rows of a tree: m are the rows at or below p, and front and back the others without q's.
module _ (x m y : List Row) (p q : Path) (all : AreTreeRows (x ++ (m ++ y))) (ins : Inside p m) (left : Outside p x) (right : Outside p y)
    (fits : FitsMove (map_of (x ++ (m ++ y))) p q) (front back : List Row) (others : front ++ back ≡ without q (x ++ y))
    (before : AllBefore q front) (after : AllAfter q back) where
  abbrev old : List Row
  old = x ++ (m ++ y)

  -- the moved rows with their new paths
  abbrev come : List Row
  come = map (renamed_row p q) m

  abbrev new : List Row
  new = front ++ (come ++ back)

  got : (k : Path) → get (map_of old) k ≡ find path_cmp k old
  got k = get_rows old all.rising k

  find_rest : (k : Path) → IsOutside p k → find path_cmp k old ≡ find path_cmp k (x ++ y)
  find_rest k apart =
      find_join k x (m ++ y) ∙ ap (option_or (find path_cmp k x)) (find_last k m y (find_inside p k m apart ins)) ∙ sym (find_join k x y)

  find_others : (k : Path) → k ≢ q → find path_cmp k (front ++ back) ≡ find path_cmp k (x ++ y)
  find_others k differ = ap (find path_cmp k) others ∙ find_other q k (x ++ y) differ

  none_at : (rest : Path) → find path_cmp (q ++ rest) (front ++ back) ≡ None
  none_at [] =
      ap (λ (path : Path). find path_cmp path (front ++ back)) (append-nil q) ∙ ap (find path_cmp q) others ∙ find_left_out q (x ++ y)
  none_at (name ∷ rest) =
      find_others (q ++ name ∷ rest) (longer q name rest)
      ∙ sym
      (find_rest (q ++ name ∷ rest)
      (λ end. forked q p (name ∷ rest) end (to_outside (map_of old) all.tree p q fits)
      (from_outside (map_of old) all.tree p q fits)))
      ∙ sym (got (q ++ name ∷ rest)) ∙ fits.leaf (q ++ name ∷ rest) (name, rest, refl)

  out_others : Outside q (front ++ back)
  out_others = outside_found q (front ++ back) none_at

  ins_to : Inside q come
  ins_to = moved_inside p q m ins

  rising_others : Rising (front ++ back)
  rising_others = subst Rising (sym others) (sorted_without q (x ++ y) (sorted_skip x m y all.rising))

  pub moved_rising : Rising new
  moved_rising =
      sorted_join front (come ++ back) (sorted_front front back rising_others)
      (sorted_join come back (sorted_moved p q m ins (sorted_front m y (sorted_back x (m ++ y) all.rising)))
      (sorted_back front back rising_others)
      (all_inside_below q come back ins_to after (outside_right q front back out_others)))
      (before_all q front come back before ins_to after)

  parted : without q x ++ without q y ≡ front ++ back
  parted = sym (without_join q x y) ∙ sym others

  renamed_rows : map (renamed_row p q) (entries (remove (map_of old) q)) ≡ without q x ++ (come ++ without q y)
  renamed_rows =
      ap (map (renamed_row p q))
      (entries_without q old all.rising ∙ without_join q x (m ++ y)
      ∙ ap (λ (rest : List Row). without q x ++ rest)
      (without_join q m y
      ∙ ap (λ (rows : List Row). rows ++ without q y) (without_inside q p m (to_outside (map_of old) all.tree p q fits) ins)))
      ∙ map_join (without q x) (m ++ without q y)
      ∙ (λ i. moved_outside p q (without q x) (outside_without q p x left) i
      ++ (map_join m (without q y)
      ∙ ap (λ (rest : List Row). come ++ rest) (moved_outside p q (without q y) (outside_without q p y right)))
      i)
    where
      map_join : (a b : List Row) → map (renamed_row p q) (a ++ b) ≡ map (renamed_row p q) a ++ map (renamed_row p q) b
      map_join [] b = refl
      map_join (row ∷ a) b = ap (λ (rest : List Row). renamed_row p q row ∷ rest) (map_join a b)

  -- the map of the new rows is the moved tree
  pub moved_map : map_of new ≡ moved (map_of old) p q
  moved_map = same_map path_total path_same _ _ (λ k.
      get_rows new moved_rising k
      ∙ sym (found_alike q (without q x) (without q y) front back come parted out_others ins_to k)
      ∙ sym (ap (find path_cmp k) renamed_rows)
      ∙ sym (get-from_entries path_total (map (renamed_row p q) (entries (remove (map_of old) q))) k))

  -- the new rows are those of a tree
  pub moved_tree : AreTreeRows new
  moved_tree = record { rising = moved_rising; tree = subst IsTree (sym moved_map) (tree_moved (map_of old) all.tree p q fits) }
