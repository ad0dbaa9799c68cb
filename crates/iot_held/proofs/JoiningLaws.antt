-- The pass that merges.
use Rattle.std.proofs.Common.{◌≡◌, ℕ, zero, suc, ◌+◌, ◌-◌, ◌<◌, ◌≤◌, Bool, true, false, cond, not, ◌||◌, ◌&&◌, IsTrue, List, [], ◌∷◌}
use Rattle.std.proofs.Common.{◌++◌, map, Option, is_some, length, take, drop, get_or, slice_get, bytes_eq}
use Rattle.std.proofs.Common.{append_assoc, refl, sym, ap, subst, ◌∙◌, arith}
use Rattle.std.proofs.lemmas.List.{append-nil, take_more, drop_more, take-append-drop, map-append}
use Rattle.std.proofs.Math.Seq.{drop-length}
use Rattle.std.specs.List.{starts_with}
use Rattle.std.specs.Ordering.{eq_by_cmp, is_lt, is_eq, ordering_reverse}
use Rattle.std.specs.FinMap.{find, is_sorted}
use Rattle.std.specs.declared.cmp.Ordering.TheVariants.{Less}
use Rattle.iot_text.specs.Paths.{path_cmp, parent_of}
use Rattle.iot_tree.specs.Ancestors.{proper_prefixes}
use Rattle.iot_tree.specs.Place.{AllBefore}
use Rattle.iot_tree.specs.Rows.{AreTreeRows}
use Rattle.iot_tree.specs.declared.nodes.Node.{Node}
use Rattle.iot_prune.proofs.WalkLaws.{has_from, rising_from, begins_from}
use Rattle.iot_prune.specs.Walks.{from, begins}
use Rattle.iot_stamp.specs.Stamps.{Entry}
use Rattle.iot_text.proofs.PathsLaws.{parent_of-push, path_total}
use Rattle.iot_tree.proofs.AncestorLaws.{ends, at_root, in_name}
use Rattle.iot_tree.proofs.PlaceLaws.{front_before, is_less}
use Rattle.iot_tree.specs.Snapshots.{is_known, has, ArePathsRising}
use Rattle.iot_tree.specs.Tree.{Row, Path}
use Rattle.iot_stamp.specs.Refresh.{stays, is_gone, has_row}
use Rattle.iot_stamp.specs.Pairing.{paired}
use Rattle.iot_stamp.specs.Passes.{before_key, from_key, head_at}
use Rattle.iot_held.specs.Weave.{are_ahead, own, woven, merge_flags, above_or_none}
use Rattle.iot_stamp.proofs.PassesLaws.{find_from, sorted_from, head_from}
use Rattle.iot_stamp.proofs.StackLaws.{above_push, prefixes_end, Stacked, cut_is, next_is, stacked_none}
use Rattle.iot_stamp.proofs.SendingLaws.{before_left, before_at, last_of_end}
use Rattle.iot_stamp.proofs.StartsLaws.{starts_push, starts_root}

-- ---- entries that come after a path

module _ {V : Type 0} (p : Path) where
  -- none of them is moved, and none is the path's
  pub nothing_moves : (es : List (Path × V)) → are_ahead p es ≡ true
      → (from_key p es ≡ es) × (before_key p es ≡ []) × (is_some (head_at p es) ≡ false)
  nothing_moves [] ahead = (refl, refl, refl)
  nothing_moves (e ∷ es) ahead =
      let less : path_cmp p e.0 ≡ Less = is_less (path_cmp p e.0) ahead in
      let kept : is_lt (path_cmp e.0 p) ≡ false = ap is_lt (path_total.antisymm e.0 p ∙ ap ordering_reverse less) in
      let away : eq_by_cmp path_cmp p e.0 ≡ false = ap is_eq less in
      (rw kept refl, rw kept refl, rw away refl)

-- ---- what is gone

or_swap : (a b c d : Bool) → ((a || b) || (c || d)) ≡ ((a || c) || (b || d))
or_swap true b c d = refl
or_swap false true true d = refl
or_swap false true false d = refl
or_swap false false c d = refl

pub gone_push : (q : Path) (name : List ℕ) (gone : List Path)
    → is_gone gone (q ++ name ∷ []) ≡ (is_gone gone q || has gone (q ++ name ∷ []))
gone_push q name [] = refl
gone_push q name (g ∷ gone) =
    (λ i. starts_push q name g i || gone_push q name gone i)
    ∙ or_swap (starts_with bytes_eq q g) (eq_by_cmp path_cmp (q ++ name ∷ []) g) (is_gone gone q) (has gone (q ++ name ∷ []))

pub gone_root : (gone : List Path) → is_gone gone [] ≡ has gone []
gone_root [] = refl
gone_root (g ∷ gone) = λ i. starts_root g i || gone_root gone i

-- ---- held entries

drop_paired : (held : List Row) (stamps : List ℕ) (i : ℕ) (row : Row) → i < length held → row ≡ get_or held i row
    → drop i (paired held stamps) ≡ (row.0, (row.1, get_or stamps i 0)) ∷ drop (i + 1) (paired held stamps)
drop_paired held stamps i row lt is =
    let on : i + 1 ≡ suc i = omega arith in
    by held stamps i row lt is ∙ ap (λ (n : ℕ). (row.0, (row.1, get_or stamps i 0)) ∷ drop n (paired held stamps)) (sym on)
  where
    by : (held : List Row) (stamps : List ℕ) (i : ℕ) (row : Row) → i < length held → row ≡ get_or held i row
        → drop i (paired held stamps) ≡ (row.0, (row.1, get_or stamps i 0)) ∷ drop (suc i) (paired held stamps)
    by [] stamps i row lt is = absurd (omega (arith, lt))
    by (x ∷ held) [] zero row lt is = ap (λ (r : Row). (r.0, (r.1, zero)) ∷ paired held []) (sym is)
    by (x ∷ held) (n ∷ stamps) zero row lt is = ap (λ (r : Row). (r.0, (r.1, n)) ∷ paired held stamps) (sym is)
    by (x ∷ held) [] (suc i) row lt is = by held [] i row (omega (arith, lt)) is
    by (x ∷ held) (n ∷ stamps) (suc i) row lt is = by held stamps i row (omega (arith, lt)) is

long_paired : (held : List Row) (stamps : List ℕ) → length (paired held stamps) ≡ length held
long_paired [] stamps = refl
long_paired (x ∷ held) [] = ap suc (long_paired held [])
long_paired (x ∷ held) (n ∷ stamps) = ap suc (long_paired held stamps)

-- how far the pass has come
pub record Merging (held : List Row) (stamps : List ℕ) (rows : List Entry) (gone : List Path) (rest : List Entry) (left : List Path)
    (stack : List (Bool × Bool)) (out : List Entry) (i : ℕ) : Type 0 where
  pub out_is : out ++ woven (stays rows gone) (drop i (paired held stamps)) rest ≡ woven (stays rows gone) (paired held stamps) rows
  pub stacked : Stacked (merge_flags rows gone) held i stack
  pub rising : IsTrue (is_sorted path_cmp rest)
  pub finds : (q : Path) → AllBefore q (take i held) → find path_cmp q rest ≡ find path_cmp q rows
  pub left_rising : ArePathsRising left
  pub has_is : (q : Path) → AllBefore q (take i held) → has left q ≡ has gone q

pub merging_none : (held : List Row) (stamps : List ℕ) (rows : List Entry) (gone : List Path) (stack : List (Bool × Bool))
    (out : List Entry)
    → out ≡ [] → stack ≡ [] → IsTrue (is_sorted path_cmp rows) → ArePathsRising gone → Merging held stamps rows gone rows gone stack out 0
merging_none held stamps rows gone stack out none empty rising left_rising = record {
  out_is = ap (λ (o : List Entry). o ++ woven (stays rows gone) (paired held stamps) rows) none;
  stacked = stacked_none _ held stack empty;
  rising = rising;
  finds = λ q before. refl;
  left_rising = left_rising;
  has_is = λ q before. refl;
}

pub merging_all : (held : List Row) (stamps : List ℕ) (rows : List Entry) (gone : List Path) (rest : List Entry) (left : List Path)
    (stack : List (Bool × Bool)) (out new : List Entry) (i : ℕ)
    → length held ≤ i → i ≤ length held → Merging held stamps rows gone rest left stack out i → new ≡ out ++ rest
    → new ≡ woven (stays rows gone) (paired held stamps) rows
merging_all held stamps rows gone rest left stack out new i long short so_far pushed =
    let end : i ≡ length (paired held stamps) = omega (arith, long, short, long_paired held stamps) in
    let none : drop i (paired held stamps) ≡ [] = ap (λ (n : ℕ). drop n (paired held stamps)) end ∙ drop-length (paired held stamps) in
    pushed ∙ sym (ap (λ (hs : List Entry). out ++ woven (stays rows gone) hs rest) none) ∙ so_far.out_is

module _ (held : List Row) (stamps : List ℕ) (rows : List Entry) (gone : List Path) (rest : List Entry) (left : List Path)
    (stack : List (Bool × Bool)) (out : List Entry) (i : ℕ) (row : Row)
    (all : AreTreeRows held) (lt : i < length held) (is : row ≡ get_or held i row)
    (so_far : Merging held stamps rows gone rest left stack out i)
    (cut new_stack : List (Bool × Bool)) (above : Bool × Bool) (next_rest : List Entry) (next_left : List Path) (set goes kept : Bool)
    (stamp : ℕ) (out_1 : List Entry)
    (cut_by : cut ≡ take (length row.0) stack) (above_by : above ≡ above_or_none (slice_get cut (length cut - 1)))
    (rest_by : next_rest ≡ from_key row.0 rest) (out_by : out_1 ≡ out ++ before_key row.0 rest)
    (left_by : next_left ≡ from row.0 left) (set_by : set ≡ is_some (head_at row.0 next_rest))
    (goes_by : goes ≡ (above.1 || begins row.0 next_left)) (stamp_by : stamp ≡ get_or stamps i 0)
    (stack_by : new_stack ≡ cut ++ (set, goes) ∷ []) (kept_by : kept ≡ ((not goes && (is_known row.1 || not above.0)) && not set)) where
  more : take (i + 1) held ≡ take i held ++ row ∷ []
  more = take_more held i row lt ∙ ap (λ (r : Row). take i held ++ r ∷ []) (sym is)

  parts : held ≡ take i held ++ row ∷ drop (i + 1) held
  parts =
      sym (take-append-drop i held)
      ∙ ap (λ (back : List Row). take i held ++ back) (drop_more held i row lt ∙ ap (λ (r : Row). r ∷ drop (i + 1) held) (sym is))

  early : AllBefore row.0 (take i held)
  early = front_before (take i held) row (drop (i + 1) held) (subst (λ (r : List Row). IsTrue (is_sorted path_cmp r)) parts all.rising)

  set_is : set ≡ is_some (find path_cmp row.0 rows)
  set_is =
      set_by
      ∙ ap (λ (o : Option (Node × ℕ)). is_some o)
      (ap (head_at row.0) rest_by ∙ head_from row.0 rest so_far.rising ∙ so_far.finds row.0 early)

  begins_is : begins row.0 next_left ≡ has gone row.0
  begins_is = ap (begins row.0) left_by ∙ begins_from row.0 left so_far.left_rising ∙ so_far.has_is row.0 early

  cut_list : cut ≡ map (merge_flags rows gone) (proper_prefixes row.0)
  cut_list = cut_by ∙ cut_is (merge_flags rows gone) held all i row lt is stack so_far.stacked

  above_cut : above
      ≡ above_or_none
      (slice_get (map (merge_flags rows gone) (proper_prefixes row.0)) (length (map (merge_flags rows gone) (proper_prefixes row.0)) - 1))
  above_cut = above_by ∙ ap (λ (list : List (Bool × Bool)). above_or_none (slice_get list (length list - 1))) cut_list

  above_both : (above.0 ≡ has_row rows (parent_of row.0)) × ((above.1 || has gone row.0) ≡ is_gone gone row.0)
  above_both = elim (ends row.0) [
    | at_root root ↦
        let none : above ≡ (false, false) = above_cut ∙ rw root refl in (
          ap (λ (a : Bool × Bool). a.0) none ∙ sym (ap (λ (p : Path). has_row rows (parent_of p)) root),
          ap (λ (a : Bool × Bool). a.1 || has gone row.0) none ∙ ap (has gone) root ∙ sym (ap (is_gone gone) root ∙ gone_root gone),
        )
    | in_name q name end ↦
        let list : map (merge_flags rows gone) (proper_prefixes row.0)
        ≡ map (merge_flags rows gone) (proper_prefixes q) ++ merge_flags rows gone q ∷ [] =
        ap (λ (path : Path). map (merge_flags rows gone) (proper_prefixes path)) end
        ∙ ap (map (merge_flags rows gone)) (above_push q name ∙ prefixes_end q)
        ∙ map-append (merge_flags rows gone) (proper_prefixes q) (q ∷ []) in
        let parent : above ≡ merge_flags rows gone q = above_cut
        ∙ ap (λ (list : List (Bool × Bool)). above_or_none (slice_get list (length list - 1))) list
        ∙ ap above_or_none (last_of_end (map (merge_flags rows gone) (proper_prefixes q)) (merge_flags rows gone q)) in (
          ap (λ (a : Bool × Bool). a.0) parent
              ∙ sym (ap (λ (p : Path). has_row rows (parent_of p)) end ∙ ap (has_row rows) (parent_of-push q name)),
          ap (λ (a : Bool × Bool). a.1 || has gone row.0) parent ∙ ap (λ (p : Path). is_gone gone q || has gone p) end
              ∙ sym (ap (is_gone gone) end ∙ gone_push q name gone),
        )
  ]

  goes_is : goes ≡ is_gone gone row.0
  goes_is = goes_by ∙ ap (λ (b : Bool). above.1 || b) begins_is ∙ above_both.1

  abbrev h : Entry
  h = (row.0, (row.1, stamp))

  drop_is : drop i (paired held stamps) ≡ h ∷ drop (i + 1) (paired held stamps)
  drop_is = drop_paired held stamps i row lt is ∙ ap (λ (n : ℕ). (row.0, (row.1, n)) ∷ drop (i + 1) (paired held stamps)) (sym stamp_by)

  kept_is : (stays rows gone h && not (is_some (head_at row.0 (from_key row.0 rest)))) ≡ kept
  kept_is =
      sym
      (kept_by
      ∙ (λ j. (not (goes_is j) && (is_known row.1 || not (above_both.0 j)))
      && not ((set_by ∙ ap (λ (es : List Entry). is_some (head_at row.0 es)) rest_by) j)))

  step_out : (new : List Entry) → new ≡ out_1 ++ cond kept (h ∷ []) []
      → new ++ woven (stays rows gone) (drop (i + 1) (paired held stamps)) next_rest ≡ woven (stays rows gone) (paired held stamps) rows
  step_out new new_is =
      (λ j. (new_is ∙ (λ l. out_by l ++ cond (sym kept_is l) (h ∷ []) [])) j
      ++ woven (stays rows gone) (drop (i + 1) (paired held stamps)) (rest_by j))
      ∙ append_assoc (out ++ before_key row.0 rest) (own (stays rows gone h) h (from_key row.0 rest))
      (woven (stays rows gone) (drop (i + 1) (paired held stamps)) (from_key row.0 rest))
      ∙ append_assoc out (before_key row.0 rest)
      (own (stays rows gone h) h (from_key row.0 rest)
      ++ woven (stays rows gone) (drop (i + 1) (paired held stamps)) (from_key row.0 rest))
      ∙ ap (λ (hs : List Entry). out ++ woven (stays rows gone) hs rest) (sym drop_is)
      ∙ so_far.out_is

  step : (new : List Entry) → new ≡ out_1 ++ cond kept (h ∷ []) [] → Merging held stamps rows gone next_rest next_left new_stack new (i + 1)
  step new new_is = record {
    out_is = step_out new new_is;
    stacked =
        let same : new_stack ≡ take (length row.0) stack ++ merge_flags rows gone row.0 ∷ [] = stack_by
        ∙ (λ j. cut_by j ++ (set_is j, goes_is j) ∷ []) in
        subst (Stacked (merge_flags rows gone) held (i + 1)) (sym same)
        (next_is (merge_flags rows gone) held all i row lt is stack so_far.stacked);
    rising = subst (λ (es : List Entry). IsTrue (is_sorted path_cmp es)) (sym rest_by) (sorted_from row.0 rest so_far.rising);
    finds = λ q before.
        let both = subst (AllBefore q) more before in
        ap (find path_cmp q) rest_by ∙ find_from row.0 q (before_at q (take i held) row both) rest
        ∙ so_far.finds q (before_left q (take i held) row both);
    left_rising = subst ArePathsRising (sym left_by) (rising_from row.0 left so_far.left_rising);
    has_is = λ q before.
        let both = subst (AllBefore q) more before in
        ap (λ (ps : List Path). has ps q) left_by ∙ has_from row.0 q (before_at q (take i held) row both) left
        ∙ so_far.has_is q (before_left q (take i held) row both);
  }

  pub step_kept : (e : Entry) (new : List Entry) → kept ≡ true → e ≡ h → new ≡ out_1 ++ e ∷ []
      → Merging held stamps rows gone next_rest next_left new_stack new (i + 1)
  step_kept e new keeps same new_is =
      step new (new_is ∙ ap (λ (x : Entry). out_1 ++ x ∷ []) same ∙ ap (λ (b : Bool). out_1 ++ cond b (h ∷ []) []) (sym keeps))

  pub step_left : (new : List Entry) → kept ≡ false → new ≡ out_1 → Merging held stamps rows gone next_rest next_left new_stack new (i + 1)
  step_left new drops new_is = step new (new_is ∙ sym (append-nil out_1) ∙ ap (λ (b : Bool). out_1 ++ cond b (h ∷ []) []) (sym drops))
