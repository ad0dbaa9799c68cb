-- The pass that finds what is sent.
use Rattle.std.proofs.Common.{◌≡◌, ℕ, zero, suc, ◌+◌, ◌-◌, ◌<◌, ◌≤◌, Bool, true, false, cond, not, ◌||◌, ◌&&◌, IsTrue, List, [], ◌∷◌}
use Rattle.std.proofs.Common.{◌++◌, map, Option, Some, None, is_some, length, length-append, take, drop, get_or, slice_get, refl, sym, ap}
use Rattle.std.proofs.Common.{subst, ◌∙◌, arith, append_assoc}
use Rattle.std.proofs.lemmas.List.{take_more, drop_more, take-append-drop, map-append}
use Rattle.std.proofs.lemmas.List.Elements.{filter_map-append}
use Rattle.std.proofs.Math.Seq.{take-length}
use Rattle.std.specs.List.{filter_map}
use Rattle.std.specs.declared.cmp.Ordering.TheVariants.{Less, Equal}
use Rattle.std.specs.FinMap.{get, find, is_sorted, get-from_sorted, FinMap, entries, entries_sorted, retain_keys}
use Rattle.std.specs.FinMap.{get-retain_keys, get-entries}
use Rattle.std.specs.FinMap.Entries.{below_all, where_key, is_sorted-where_key, find-where_key, same_entries}
use Rattle.iot_text.specs.Paths.{path_cmp, parent_of}
use Rattle.iot_tree.specs.Ancestors.{proper_prefixes}
use Rattle.iot_tree.specs.Place.{AllBefore, AllAfter}
use Rattle.iot_tree.specs.Rows.{Rising, AreTreeRows}
use Rattle.iot_tree.specs.declared.nodes.Node.{Node}
use Rattle.iot_stamp.proofs.PickedLaws.{picked_more, picked_none}
use Rattle.iot_stamp.specs.Stamps.{Entry, Stamps, nodes_of, stamp_at, stamp_in, stamped_node, pruned}
use Rattle.iot_text.proofs.PathsLaws.{parent_of-push, path_total, path_same}
use Rattle.iot_tree.proofs.AncestorLaws.{ends, at_root, in_name}
use Rattle.iot_tree.proofs.PlaceLaws.{rows_rise, front_before, back_after}
use Rattle.iot_tree.proofs.RowLaws.{tested}
use Rattle.iot_tree.proofs.SnapshotLaws.{all_push}
use Rattle.iot_tree.proofs.TreeLaws.{apart}
use Rattle.iot_tree.proofs.WithinLaws.{not_less}
use Rattle.iot_prune.proofs.WalkLaws.{has_from, rising_from, begins_from}
use Rattle.iot_prune.specs.Walks.{begins, from}
use Rattle.iot_tree.specs.Snapshots.{ArePathsRising, has, is_reached, seen, prune, cut_rows}
use Rattle.iot_tree.specs.Tree.{Row, Path}
use Rattle.iot_tree.specs.declared.want.Want.{Want}
use Rattle.std.specs.Cmp.{second_so}
use Rattle.iot_stamp.specs.Refresh.{is_stamp, is_sent, is_parent_new, is_new, changed_rows, gone_path, gone_paths}
use Rattle.iot_stamp.specs.Pairing.{paired, stamps_of}
use Rattle.iot_stamp.specs.Passes.{before_key, from_key, after_head, kept as kept_of, sending, flags, above_of, wanted, head_at}
use Rattle.iot_stamp.proofs.FoundLaws.{found_here}
use Rattle.iot_stamp.proofs.GoneLaws.{Ahead, ahead_none, ahead_more, gone_before, gone_at, gone_rest}
use Rattle.iot_stamp.proofs.StampsLaws.{node_some}
use Rattle.iot_stamp.proofs.StartsLaws.{wanted_is}
use Rattle.iot_stamp.proofs.PairingLaws.{sorted_paired}
use Rattle.iot_stamp.proofs.PassesLaws.{find_from, sorted_from, head_from, find_after_head, sorted_after_head, rest_after, key_parts}
use Rattle.iot_stamp.proofs.StackLaws.{above_push, prefixes_end, Stacked, cut_is, next_is, stacked_none}
use Rattle.iot_stamp.proofs.MappedLaws.{entries_of_mapped}
use Rattle.iot_stamp.specs.Mapped.{mapped_entries}
use Rattle.iot_tree.proofs.PruneLaws.{entries_pruned}

-- ---- the stamp beside a row

find_paired : (rows : List Row) (stamps : List ℕ) (i : ℕ) (row : Row) → IsTrue (is_sorted path_cmp rows) → i < length rows
    → row ≡ get_or rows i row → find path_cmp row.0 (paired rows stamps) ≡ Some (row.1, get_or stamps i 0)
find_paired [] stamps i row rising lt is = absurd (omega (arith, lt))
find_paired (x ∷ rows) [] zero row rising lt is =
    found_here row.0 (x.0, (x.1, zero)) (paired rows []) (ap (λ (r : Row). r.0) is) ∙ ap (λ (r : Row). Some (r.1, zero)) (sym is)
find_paired (x ∷ rows) (n ∷ stamps) zero row rising lt is =
    found_here row.0 (x.0, (x.1, n)) (paired rows stamps) (ap (λ (r : Row). r.0) is) ∙ ap (λ (r : Row). Some (r.1, n)) (sym is)
find_paired (x ∷ rows) [] (suc i) row rising lt is =
    let less : path_cmp x.0 row.0
    ≡ Less = subst (λ (r : Row). path_cmp x.0 r.0 ≡ Less) (sym is) (rows_rise (x ∷ rows) rising 0 (suc i) row (omega arith) lt) in
    rw (apart row.0 x.0 (λ here. not_less x.0 (subst (λ (p : Path). path_cmp x.0 p ≡ Less) here less)))
    (find_paired rows [] i row (second_so (below_all path_cmp x.0 rows) _ rising) (omega (arith, lt)) is)
find_paired (x ∷ rows) (n ∷ stamps) (suc i) row rising lt is =
    let less : path_cmp x.0 row.0
    ≡ Less = subst (λ (r : Row). path_cmp x.0 r.0 ≡ Less) (sym is) (rows_rise (x ∷ rows) rising 0 (suc i) row (omega arith) lt) in
    rw (apart row.0 x.0 (λ here. not_less x.0 (subst (λ (p : Path). path_cmp x.0 p ≡ Less) here less)))
    (find_paired rows stamps i row (second_so (below_all path_cmp x.0 rows) _ rising) (omega (arith, lt)) is)

row_paired : (rows : List Row) (stamps : List ℕ) (i : ℕ) (row : Row) → Rising rows → i < length rows → row ≡ get_or rows i row
    → get (stamps_of rows stamps) row.0 ≡ Some (row.1, get_or stamps i 0)
row_paired rows stamps i row rising lt is =
    get-from_sorted path_cmp (paired rows stamps) row.0 (tested _ (sorted_paired rows stamps ∙ rising))
    ∙ find_paired rows stamps i row rising lt is

pub stamp_paired : (rows : List Row) (stamps : List ℕ) (i : ℕ) (row : Row) → Rising rows → i < length rows → row ≡ get_or rows i row
    → stamp_at (stamps_of rows stamps) row.0 ≡ get_or stamps i 0
stamp_paired rows stamps i row rising lt is = ap stamp_in (row_paired rows stamps i row rising lt is)

-- ---- what is kept of the parent

at_front : {V : Type 0} (front : List V) (v : V) (back : List V) → slice_get (front ++ v ∷ back) (length front) ≡ Some v
at_front [] v back = refl
at_front (x ∷ front) v back = at_front front v back

pub last_of_end : {V : Type 0} (vs : List V) (v : V) → slice_get (vs ++ v ∷ []) (length (vs ++ v ∷ []) - 1) ≡ Some v
last_of_end vs v =
    let at : length (vs ++ v ∷ []) - 1 ≡ length vs = omega (arith, length-append vs (v ∷ [])) in
    ap (slice_get (vs ++ v ∷ [])) at ∙ at_front vs v []

module _ (s : Stamps) (sent : List (Path × ℕ)) (k : Path → Bool) where
  above_is : (p : Path)
      → above_of (slice_get (map (flags s sent k) (proper_prefixes p)) (length (map (flags s sent k) (proper_prefixes p)) - 1))
      ≡ (is_reached k p, is_parent_new s sent (parent_of p))
  above_is p = elim (ends p) [
    | at_root is ↦ rw is refl
    | in_name q name is ↦
        let list : map (flags s sent k) (proper_prefixes p) ≡ map (flags s sent k) (proper_prefixes q) ++ flags s sent k q ∷ [] =
        ap (λ (path : Path). map (flags s sent k) (proper_prefixes path)) is
        ∙ ap (map (flags s sent k)) (above_push q name ∙ prefixes_end q)
        ∙ map-append (flags s sent k) (proper_prefixes q) (q ∷ []) in
        let open_is : is_reached k p ≡ (is_reached k q && k q) = ap (is_reached k) is ∙ all_push k q name in
        let parent : is_parent_new s sent (parent_of p)
        ≡ not (is_sent s sent q) = ap (λ (path : Path). is_parent_new s sent (parent_of path)) is
        ∙ ap (is_parent_new s sent) (parent_of-push q name) in
        ap (λ (list : List (Bool × Bool)). above_of (slice_get list (length list - 1))) list
        ∙ ap above_of (last_of_end (map (flags s sent k) (proper_prefixes q)) (flags s sent k q))
        ∙ (λ i. (sym open_is i, sym parent i))
  ]

  sent_if : (c : Bool) (row : Row) → (is_reached k row.0 && is_new s sent k row.0) ≡ c
      → sending s sent k row ≡ cond c (Some (row.0, stamped_node (seen (k row.0) row.1) (stamp_at s row.0))) None
  sent_if c row is = ap (λ b. cond b (Some (row.0, stamped_node (seen (k row.0) row.1) (stamp_at s row.0))) None) is

-- how far the pass has come
pub record SoFar (rows : List Row) (stamps : List ℕ) (sent : List (Path × ℕ)) (want : Want) (listed : List Path)
    (rest : List (Path × ℕ)) (left : List Path) (stack : List (Bool × Bool)) (out : List Entry) (gone : List Path) (i : ℕ) : Type 0 where
  pub out_is : out ≡ filter_map (sending (stamps_of rows stamps) sent (kept_of (stamps_of rows stamps) sent want listed)) (take i rows)
  pub stacked : Stacked (flags (stamps_of rows stamps) sent (kept_of (stamps_of rows stamps) sent want listed)) rows i stack
  pub rising : IsTrue (is_sorted path_cmp rest)
  pub finds : (q : Path) → AllBefore q (take i rows) → find path_cmp q rest ≡ find path_cmp q sent
  pub ahead : Ahead (take i rows) rest
  pub gone_is : gone ++ filter_map (gone_path (pruned (stamps_of rows stamps) (kept_of (stamps_of rows stamps) sent want listed))) rest
      ≡ gone_paths (stamps_of rows stamps) sent (kept_of (stamps_of rows stamps) sent want listed)
  pub left_rising : ArePathsRising left
  pub lists : (q : Path) → AllBefore q (take i rows) → has left q ≡ has listed q

pub so_far_none : (rows : List Row) (stamps : List ℕ) (sent : List (Path × ℕ)) (want : Want) (listed : List Path)
    (stack : List (Bool × Bool)) (out : List Entry) (gone : List Path) → out ≡ [] → gone ≡ [] → stack ≡ []
    → IsTrue (is_sorted path_cmp sent) → ArePathsRising listed
    → SoFar rows stamps sent want listed sent listed stack out gone 0
so_far_none rows stamps sent want listed stack out gone none nothing empty rising listed_rising = record {
  out_is = none;
  stacked = stacked_none _ rows stack empty;
  rising = rising;
  finds = λ q before. refl;
  ahead = ahead_none sent;
  gone_is =
      ap (λ (paths : List Path). paths ++ gone_paths (stamps_of rows stamps) sent (kept_of (stamps_of rows stamps) sent want listed))
      nothing;
  left_rising = listed_rising;
  lists = λ q before. refl;
}

pub before_left : (q : Path) (a : List Row) (row : Row) → AllBefore q (a ++ row ∷ []) → AllBefore q a
before_left q [] row before = tt
before_left q (x ∷ a) row before = (before.0, before_left q a row before.1)

pub before_at : (q : Path) (a : List Row) (row : Row) → AllBefore q (a ++ row ∷ []) → path_cmp row.0 q ≡ Less
before_at q [] row before = before.0
before_at q (x ∷ a) row before = before_at q a row before.1

module _ (rows : List Row) (stamps : List ℕ) (sent : List (Path × ℕ)) (want : Want) (listed : List Path) (rest : List (Path × ℕ))
    (left : List Path) (stack : List (Bool × Bool)) (out : List Entry) (gone : List Path) (i : ℕ) (row : Row)
    (all : AreTreeRows rows) (lt : i < length rows) (is : row ≡ get_or rows i row)
    (so_far : SoFar rows stamps sent want listed rest left stack out gone i)
    (cut new_stack : List (Bool × Bool)) (above : Bool × Bool) (ahead after : List (Path × ℕ)) (later : List Path) (known : Option ℕ)
    (kept fresh sends : Bool) (stamp : ℕ) (passed hidden : List Path)
    (cut_by : cut ≡ take (length row.0) stack) (above_by : above ≡ above_of (slice_get cut (length cut - 1)))
    (ahead_by : ahead ≡ from_key row.0 rest) (passed_by : passed ≡ gone ++ map (λ e. e.0) (before_key row.0 rest))
    (known_by : known ≡ head_at row.0 ahead) (after_by : after ≡ after_head row.0 ahead) (later_by : later ≡ from row.0 left)
    (hidden_by : hidden ≡ passed ++ cond (is_some known && not above.0) (row.0 ∷ []) [])
    (kept_by : kept ≡ ((is_some known || wanted want row.0) || begins row.0 later)) (fresh_by : fresh ≡ not (is_stamp known stamp))
    (stamp_by : stamp ≡ get_or stamps i 0)
    (stack_by : new_stack ≡ cut ++ (above.0 && kept, fresh) ∷ []) (sends_by : sends ≡ (above.0 && cond kept fresh above.1)) where
  abbrev s : Stamps
  s = stamps_of rows stamps

  abbrev k : Path → Bool
  k = kept_of s sent want listed

  more : take (i + 1) rows ≡ take i rows ++ row ∷ []
  more = take_more rows i row lt ∙ ap (λ (r : Row). take i rows ++ r ∷ []) (sym is)

  parts : rows ≡ take i rows ++ row ∷ drop (i + 1) rows
  parts =
      sym (take-append-drop i rows)
      ∙ ap (λ (back : List Row). take i rows ++ back) (drop_more rows i row lt ∙ ap (λ (r : Row). r ∷ drop (i + 1) rows) (sym is))

  early : AllBefore row.0 (take i rows)
  early = front_before (take i rows) row (drop (i + 1) rows) (subst (λ (r : List Row). IsTrue (is_sorted path_cmp r)) parts all.rising)

  known_is : known ≡ find path_cmp row.0 sent
  known_is = known_by ∙ ap (head_at row.0) ahead_by ∙ head_from row.0 rest so_far.rising ∙ so_far.finds row.0 early

  stamp_is : stamp ≡ stamp_at s row.0
  stamp_is = stamp_by ∙ sym (stamp_paired rows stamps i row all.rising lt is)

  there : is_some (get (nodes_of s) row.0) ≡ true
  there = ap (λ (o : Option Node). is_some o) (node_some s row.0 row.1 _ (row_paired rows stamps i row all.rising lt is))

  listed_is : begins row.0 later ≡ has listed row.0
  listed_is = ap (begins row.0) later_by ∙ begins_from row.0 left so_far.left_rising ∙ so_far.lists row.0 early

  kept_is : kept ≡ k row.0
  kept_is = kept_by ∙ (λ j. (is_some (known_is j) || wanted_is want (nodes_of s) row.0 there j) || listed_is j)

  fresh_is : fresh ≡ not (is_sent s sent row.0)
  fresh_is = fresh_by ∙ (λ j. not (is_stamp (known_is j) (stamp_is j)))

  cut_list : cut ≡ map (flags s sent k) (proper_prefixes row.0)
  cut_list = cut_by ∙ cut_is (flags s sent k) rows all i row lt is stack so_far.stacked

  above_list : above ≡ (is_reached k row.0, is_parent_new s sent (parent_of row.0))
  above_list = above_by ∙ ap (λ (list : List (Bool × Bool)). above_of (slice_get list (length list - 1))) cut_list ∙ above_is s sent k row.0

  tail : AllAfter row.0 (drop (i + 1) rows)
  tail = back_after (take i rows) row (drop (i + 1) rows) (subst (λ (r : List Row). IsTrue (is_sorted path_cmp r)) parts all.rising)

  -- the entries that are passed are gone, and the row's if the row is not reached
  next_gone : hidden ++ filter_map (gone_path (pruned s k)) after ≡ gone_paths s sent k
  next_gone =
      (λ j. (hidden_by ∙ (λ l. passed_by l ++ cond (is_some ((known_by
      ∙ ap (head_at row.0) ahead_by) l) && not (above_list l).0) (row.0 ∷ []) [])) j
      ++ filter_map (gone_path (pruned s k)) ((after_by ∙ ap (after_head row.0) ahead_by) j))
      ∙ append_assoc (gone ++ map (λ e. e.0) (before_key row.0 rest)) _ _
      ∙ ap (λ (paths : List Path). (gone ++ map (λ e. e.0) (before_key row.0 rest)) ++ paths)
      (gone_at rows stamps k all.rising row.0 there (from_key row.0 rest))
      ∙ append_assoc gone (map (λ e. e.0) (before_key row.0 rest)) (filter_map (gone_path (pruned s k)) (from_key row.0 rest))
      ∙ ap (λ (paths : List Path). gone ++ paths)
      (ap (λ (paths : List Path). paths ++ filter_map (gone_path (pruned s k)) (from_key row.0 rest))
      (sym (gone_before rows stamps k all.rising (take i rows) row (drop (i + 1) rows) parts tail rest so_far.ahead))
      ∙ sym (filter_map-append (gone_path (pruned s k)) (before_key row.0 rest) (from_key row.0 rest))
      ∙ ap (filter_map (gone_path (pruned s k))) (key_parts row.0 rest))
      ∙ so_far.gone_is

  next_ahead : Ahead (take (i + 1) rows) after
  next_ahead =
      subst (λ (es : List (Path × ℕ)). Ahead (take (i + 1) rows) es) (sym (after_by ∙ ap (after_head row.0) ahead_by))
      (subst (λ (front : List Row). Ahead front (after_head row.0 (from_key row.0 rest))) (sym more)
      (ahead_more (take i rows) row early (after_head row.0 (from_key row.0 rest)) (rest_after row.0 rest so_far.rising)))

  next_stack : Stacked (flags s sent k) rows (i + 1) new_stack
  next_stack =
      let same : new_stack ≡ take (length row.0) stack ++ flags s sent k row.0 ∷ [] = stack_by
      ∙ (λ j. cut_by j ++ ((above_list j).0 && kept_is j, fresh_is j) ∷ []) in
      subst (Stacked (flags s sent k) rows (i + 1)) (sym same) (next_is (flags s sent k) rows all i row lt is stack so_far.stacked)

  next_finds : (q : Path) → AllBefore q (take (i + 1) rows) → find path_cmp q after ≡ find path_cmp q sent
  next_finds q before =
      let both = subst (AllBefore q) more before in
      ap (find path_cmp q) (after_by ∙ ap (after_head row.0) ahead_by)
      ∙ find_after_head row.0 q (before_at q (take i rows) row both) (from_key row.0 rest)
      ∙ find_from row.0 q (before_at q (take i rows) row both) rest
      ∙ so_far.finds q (before_left q (take i rows) row both)

  next_rising : IsTrue (is_sorted path_cmp after)
  next_rising =
      subst (λ (es : List (Path × ℕ)). IsTrue (is_sorted path_cmp es)) (sym (after_by ∙ ap (after_head row.0) ahead_by))
      (sorted_after_head row.0 (from_key row.0 rest) (sorted_from row.0 rest so_far.rising))

  next_lists : (q : Path) → AllBefore q (take (i + 1) rows) → has later q ≡ has listed q
  next_lists q before =
      let both = subst (AllBefore q) more before in
      ap (λ (paths : List Path). has paths q) later_by ∙ has_from row.0 q (before_at q (take i rows) row both) left
      ∙ so_far.lists q (before_left q (take i rows) row both)

  next_left_rising : ArePathsRising later
  next_left_rising = subst ArePathsRising (sym later_by) (rising_from row.0 left so_far.left_rising)

  sends_is : (is_reached k row.0 && is_new s sent k row.0) ≡ sends
  sends_is = sym (sends_by ∙ (λ j. (above_list j).0 && cond (kept_is j) (fresh_is j) (above_list j).1))

  -- something is sent of the row
  pub next_sent : (new : List Entry) → sends ≡ true → new ≡ out ++ (row.0, stamped_node (seen kept row.1) stamp) ∷ []
      → SoFar rows stamps sent want listed after later new_stack new hidden (i + 1)
  next_sent new yes_sends new_is = record {
    out_is =
        picked_more (sending s sent k) rows i row (row.0, stamped_node (seen (k row.0) row.1) (stamp_at s row.0)) out new lt is
        (sent_if s sent k true row (sends_is ∙ yes_sends)) so_far.out_is
        (new_is ∙ (λ j. out ++ (row.0, stamped_node (seen (kept_is j) row.1) (stamp_is j)) ∷ []));
    stacked = next_stack;
    rising = next_rising;
    finds = next_finds;
    ahead = next_ahead;
    gone_is = next_gone;
    left_rising = next_left_rising;
    lists = next_lists;
  }

  -- nothing is
  pub next_unsent : sends ≡ false → SoFar rows stamps sent want listed after later new_stack out hidden (i + 1)
  next_unsent no_sends = record {
    out_is = picked_none (sending s sent k) rows i row out lt is (sent_if s sent k false row (sends_is ∙ no_sends)) so_far.out_is;
    stacked = next_stack;
    rising = next_rising;
    finds = next_finds;
    ahead = next_ahead;
    gone_is = next_gone;
    left_rising = next_left_rising;
    lists = next_lists;
  }

-- at the end all that is left is gone
pub so_far_all : (rows : List Row) (stamps : List ℕ) (sent : List (Path × ℕ)) (want : Want) (listed : List Path)
    (rest : List (Path × ℕ)) (left : List Path) (stack : List (Bool × Bool)) (out : List Entry) (gone new : List Path) (i : ℕ)
    → Rising rows → length rows ≤ i → i ≤ length rows → SoFar rows stamps sent want listed rest left stack out gone i
    → new ≡ gone ++ map (λ e. e.0) rest
    → new ≡ gone_paths (stamps_of rows stamps) sent (kept_of (stamps_of rows stamps) sent want listed)
so_far_all rows stamps sent want listed rest left stack out gone new i rising long short so_far new_by =
    let end : i ≡ length rows = omega (arith, long, short) in
    new_by
    ∙ ap (λ (paths : List Path). gone ++ paths)
    (sym
    (gone_rest rows stamps (kept_of (stamps_of rows stamps) sent want listed) rising rest
    (subst (λ (front : List Row). Ahead front rest) (ap (λ (n : ℕ). take n rows) end ∙ take-length rows) so_far.ahead)))
    ∙ so_far.gone_is

-- ---- what is sent of each row is what is sent of the tree

entries_kept : {V : Type 0} (m : FinMap path_cmp V) (keep : Path → Bool)
    → entries (retain_keys m keep) ≡ where_key path_cmp keep (entries m)
entries_kept {V = V} m keep =
    let alike : (q x : Path) → path_cmp q x ≡ Equal → keep x ≡ keep q = λ q x tied. ap keep (sym (path_same q x tied)) in
    same_entries path_cmp path_total path_same _ _ (entries_sorted (retain_keys m keep))
    (is_sorted-where_key path_cmp keep (entries m) (entries_sorted m)) (λ q.
    sym (get-entries (retain_keys m keep) q) ∙ get-retain_keys m keep q (alike q)
    ∙ ap (λ (o : Option V). cond (keep q) o None) (get-entries m q) ∙ sym (find-where_key path_cmp keep q (alike q) (entries m)))

module _ (s : Stamps) (sent : List (Path × ℕ)) (k : Path → Bool) where
  each_row : (rows : List Row)
      → where_key path_cmp (is_new s sent k) (mapped_entries (λ p node. stamped_node node (stamp_at s p)) (cut_rows k rows))
      ≡ filter_map (sending s sent k) rows
  each_row [] = refl
  each_row (row ∷ rows) = by (each_row rows) (is_reached k row.0) refl (is_new s sent k row.0) refl
    where
      by : where_key path_cmp (is_new s sent k) (mapped_entries (λ p node. stamped_node node (stamp_at s p)) (cut_rows k rows))
          ≡ filter_map (sending s sent k) rows
          → (c : Bool) → is_reached k row.0 ≡ c → (b : Bool) → is_new s sent k row.0 ≡ b
          → where_key path_cmp (is_new s sent k) (mapped_entries (λ p node. stamped_node node (stamp_at s p)) (cut_rows k (row ∷ rows)))
          ≡ filter_map (sending s sent k) (row ∷ rows)
      by rest false off b new = rw off rest
      by rest true off true new =
          rw (off, new) (ap (λ (es : List Entry). (row.0, stamped_node (seen (k row.0) row.1) (stamp_at s row.0)) ∷ es) rest)
      by rest true off false new = rw (off, new) rest

  -- the rows that are sent, row by row
  pub sent_rows : filter_map (sending s sent k) (entries (nodes_of s)) ≡ changed_rows s sent k
  sent_rows =
      sym (each_row (entries (nodes_of s)))
      ∙ ap (λ (rows : List Row). where_key path_cmp (is_new s sent k) (mapped_entries (λ p node. stamped_node node (stamp_at s p)) rows))
      (sym (entries_pruned (nodes_of s) k))
      ∙ ap (where_key path_cmp (is_new s sent k))
      (sym (entries_of_mapped (λ p node. stamped_node node (stamp_at s p)) (prune (nodes_of s) k)))
      ∙ sym (entries_kept (pruned s k) (is_new s sent k))
