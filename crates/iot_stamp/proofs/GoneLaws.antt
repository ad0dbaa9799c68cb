-- The paths that are gone, as the pass finds them.
use Rattle.std.proofs.Common.{◌≡◌, ℕ, Bool, true, false, cond, not, ◌&&◌, IsTrue, List, [], ◌∷◌, ◌++◌, map, Option, Some, None, is_some}
use Rattle.std.proofs.Common.{option_map, refl, sym, ap, ◌∙◌}
use Rattle.std.proofs.lemmas.List.{append-nil}
use Rattle.std.specs.Cmp.Derive.{both_true}
use Rattle.std.specs.FinMap.{get, find}
use Rattle.std.specs.FinMap.Entries.{below_all}
use Rattle.std.specs.List.{filter_map, cons_option}
use Rattle.std.specs.Ordering.{is_lt, eq_by_cmp}
use Rattle.std.specs.Cmp.{first_so, second_so}
use Rattle.iot_text.specs.Paths.{path_cmp}
use Rattle.iot_tree.specs.Place.{AllBefore, AllAfter}
use Rattle.iot_tree.specs.Rows.{Rising, map_of}
use Rattle.iot_tree.specs.Snapshots.{is_reached, seen, prune}
use Rattle.iot_tree.specs.Tree.{Row, Path, Nodes}
use Rattle.iot_tree.specs.declared.nodes.Node.{Node}
use Rattle.iot_tree.proofs.PathLaws.{tied}
use Rattle.iot_tree.proofs.PlaceLaws.{is_less, find_gap, before_higher, before_push, below_lower}
use Rattle.iot_tree.proofs.PruneLaws.{get_pruned}
use Rattle.iot_tree.proofs.RowLaws.{get_rows, entries_rows}
use Rattle.iot_stamp.specs.Pairing.{stamps_of}
use Rattle.iot_stamp.specs.Passes.{before_key, head_at, after_head}
use Rattle.iot_stamp.specs.Refresh.{gone_path}
use Rattle.iot_stamp.specs.Stamps.{Stamps, nodes_of, stamp_at, stamped_node, pruned}
use Rattle.iot_stamp.proofs.PairingLaws.{nodes_paired}
use Rattle.iot_stamp.proofs.StampsLaws.{get_with}

some_map : {A B : Type 0} (f : A → B) (o : Option A) → is_some (option_map f o) ≡ is_some o
some_map f None = refl
some_map f (Some a) = refl

-- a path has a row in the pruned tree if it has one and is reached
pub shows : (s : Stamps) (k : Path → Bool) (g : Path) → is_some (get (pruned s k) g) ≡ (is_reached k g && is_some (get (nodes_of s) g))
shows s k g =
    ap (λ (o : Option (Node × ℕ)). is_some o) (get_with (stamp_at s) (prune (nodes_of s) k) g)
    ∙ some_map (λ node. stamped_node node (stamp_at s g)) (get (prune (nodes_of s) k) g)
    ∙ ap (λ (o : Option Node). is_some o) (get_pruned (nodes_of s) k g) ∙ by (is_reached k g) (get (nodes_of s) g)
  where
    by : (c : Bool) (o : Option Node) → is_some (cond c (option_map (seen (k g)) o) None) ≡ (c && is_some o)
    by true o = some_map (seen (k g)) o
    by false o = refl

-- each entry's path comes after all of the rows
abbrev pub Ahead : List Row → List (Path × ℕ) → Type 0
Ahead rows [] = Unit {0}
Ahead rows (e ∷ es) = AllBefore e.0 rows × Ahead rows es

pub ahead_none : (es : List (Path × ℕ)) → Ahead [] es
ahead_none [] = tt
ahead_none (e ∷ es) = (tt, ahead_none es)

pub ahead_more : (rows : List Row) (row : Row) → AllBefore row.0 rows → (es : List (Path × ℕ)) → IsTrue (below_all path_cmp row.0 es)
    → Ahead (rows ++ row ∷ []) es
ahead_more rows row before [] below = tt
ahead_more rows row before (e ∷ es) below =
    let less = is_less _ (first_so (is_lt (path_cmp row.0 e.0)) _ below) in (
      before_push e.0 rows row (before_higher row.0 e.0 rows less before) less,
      ahead_more rows row before es (second_so (is_lt (path_cmp row.0 e.0)) _ below),
    )

module _ (rows : List Row) (stamps : List ℕ) (k : Path → Bool) (rising : Rising rows) where
  abbrev t : Stamps
  t = pruned (stamps_of rows stamps) k

  nodes_are : nodes_of (stamps_of rows stamps) ≡ map_of rows
  nodes_are = (λ i. nodes_of (stamps_of (sym (entries_rows rows rising) i) stamps)) ∙ nodes_paired (map_of rows) stamps

  -- a path that was sent and has no row is gone
  gone_lone : (e : Path × ℕ) (front back : List Row) → rows ≡ front ++ back → AllBefore e.0 front → AllAfter e.0 back
      → gone_path t e ≡ Some e.0
  gone_lone e front back parts before after =
      let none : get (nodes_of (stamps_of rows stamps)) e.0 ≡ None =
      ap (λ (n : Nodes). get n e.0) nodes_are ∙ get_rows rows rising e.0 ∙ ap (find path_cmp e.0) parts
      ∙ find_gap e.0 front back before after in
      ap (λ b. cond b None (Some e.0))
      (shows (stamps_of rows stamps) k e.0 ∙ ap (λ (o : Option Node). is_reached k e.0 && is_some o) none ∙ never (is_reached k e.0))
    where
      never : (b : Bool) → (b && false) ≡ false
      never true = refl
      never false = refl

  -- the entries before a row, after the rows before it, are gone
  pub gone_before : (front : List Row) (row : Row) (back : List Row) → rows ≡ front ++ row ∷ back → AllAfter row.0 back
      → (es : List (Path × ℕ)) → Ahead front es → filter_map (gone_path t) (before_key row.0 es) ≡ map (λ e. e.0) (before_key row.0 es)
  gone_before front row back parts after [] ahead = refl
  gone_before front row back parts after (e ∷ es) ahead =
      by (gone_before front row back parts after es ahead.1) (is_lt (path_cmp e.0 row.0)) refl
    where
      by : filter_map (gone_path t) (before_key row.0 es) ≡ map (λ e. e.0) (before_key row.0 es) → (b : Bool)
          → is_lt (path_cmp e.0 row.0) ≡ b
          → filter_map (gone_path t) (before_key row.0 (e ∷ es)) ≡ map (λ e. e.0) (before_key row.0 (e ∷ es))
      by rest false is = rw is refl
      by rest true is =
          let less = is_less _ is in
          rw (is, gone_lone e front (row ∷ back) parts ahead.0 (both_true is (below_lower e.0 row.0 back less after)))
          (ap (λ (paths : List Path). e.0 ∷ paths) rest)

  -- the entries after all rows are gone
  pub gone_rest : (es : List (Path × ℕ)) → Ahead rows es → filter_map (gone_path t) es ≡ map (λ e. e.0) es
  gone_rest [] ahead = refl
  gone_rest (e ∷ es) ahead =
      let all : rows ≡ rows ++ [] = sym (append-nil rows) in
      rw (gone_lone e rows [] all ahead.0 refl) (ap (λ (paths : List Path). e.0 ∷ paths) (gone_rest es ahead.1))

  -- an entry of a row's path is gone if the row is not reached
  pub gone_at : (p : Path) → is_some (get (nodes_of (stamps_of rows stamps)) p) ≡ true → (es : List (Path × ℕ))
      → cond (is_some (head_at p es) && not (is_reached k p)) (p ∷ []) [] ++ filter_map (gone_path t) (after_head p es)
      ≡ filter_map (gone_path t) es
  gone_at p there [] = refl
  gone_at p there (e ∷ es) = by (eq_by_cmp path_cmp p e.0) refl
    where
      reached : (c : Bool) → is_reached k p ≡ c → p ≡ e.0
          → cond (not c) (p ∷ []) [] ++ filter_map (gone_path t) es ≡ filter_map (gone_path t) (e ∷ es)
      reached c is here =
          let shown : is_some (get t e.0) ≡ c = ap (λ (g : Path). is_some (get t g)) (sym here) ∙ shows (stamps_of rows stamps) k p
          ∙ (λ i. is i && there i) ∙ same c in
          rw shown (last c)
        where
          same : (c : Bool) → (c && true) ≡ c
          same true = refl
          same false = refl

          last : (c : Bool) → cond (not c) (p ∷ []) [] ++ filter_map (gone_path t) es
              ≡ cons_option (cond c None (Some e.0)) (filter_map (gone_path t) es)
          last true = refl
          last false = ap (λ (g : Path). g ∷ filter_map (gone_path t) es) here

      by : (b : Bool) → eq_by_cmp path_cmp p e.0 ≡ b
          → cond (is_some (head_at p (e ∷ es)) && not (is_reached k p)) (p ∷ []) [] ++ filter_map (gone_path t) (after_head p (e ∷ es))
          ≡ filter_map (gone_path t) (e ∷ es)
      by false away = rw away refl
      by true here = rw here (reached (is_reached k p) refl (tied p e.0 here))
