-- The merge of what changed is the pruned tree.
use Rattle.std.proofs.Common.{◌≡◌, ℕ, Bool, true, false, cond, not, ◌&&◌, IsTrue, IsSome, List, [], ◌∷◌, ◌++◌, Option}
use Rattle.std.proofs.Common.{Some, None, is_some, option_map, bytes_eq, refl, sym, ap, subst, ◌∙◌, inl, inr, drop, length}
use borrow.Author.Tests.{eqb-true}
use Rattle.std.proofs.lemmas.List.{append-nil}
use Rattle.std.specs.Option.{option_or}
use Rattle.std.specs.List.{filter, starts_with}
use Rattle.std.specs.FinMap.{get, find, entries, entries_sorted, is_sorted, retain_keys, get-entries, get-retain_keys}
use Rattle.std.specs.FinMap.{get-from_entries, same_map}
use Rattle.iot_text.specs.Paths.{path_cmp, parent_of}
use Rattle.iot_tree.specs.Tree.{IsTree, IsWhole, Path}
use Rattle.iot_tree.specs.declared.nodes.Node.{Node}
use Rattle.iot_tree.specs.declared.nodes.Node.TheVariants.{Dir, File, FarDir, FarFile}
use Rattle.iot_stamp.proofs.PrunedLaws.{known_above, reached_push, get_kept, get_far, get_hidden, whole_root}
use Rattle.iot_stamp.proofs.PrunedLaws.{whole_known}
use Rattle.iot_stamp.proofs.StampsLaws.{get_nodes, get_with, nodes_with, node_some, row_back}
use Rattle.iot_text.proofs.PathsLaws.{path_total, path_same, parent_of-push}
use Rattle.iot_tree.proofs.AncestorLaws.{ends, at_root, in_name}
use Rattle.iot_tree.proofs.PruneLaws.{pruned_tree}
use Rattle.iot_tree.proofs.RowLaws.{is_tested}
use Rattle.iot_tree.proofs.TreeLaws.{ancestors}
use Rattle.iot_tree.proofs.WithinLaws.{test_is}
use Rattle.iot_tree.specs.Snapshots.{is_known, is_reached, far, prune}
use Rattle.iot_stamp.specs.Stamps.{Stamps, nodes_of, stamp_at, stamped_node, FarZero, pruned}
use Rattle.iot_stamp.specs.Refresh.{known_with_stamps, is_stamp, is_sent, is_new, changed_rows, gone_paths, is_gone}
use Rattle.iot_stamp.specs.Refresh.{has_row, stays, zeroed, joined, merged}
use Rattle.iot_stamp.specs.Agreement.{shown_in, SameInside, Agrees, Knows}
use Rattle.iot_stamp.proofs.MappedLaws.{get_mapped}
use Rattle.iot_stamp.proofs.FoundLaws.{never, find_either, filter_none, filter_keeps, filter_drops, Sent, sent_some, sent_back, none_gone}
use Rattle.iot_stamp.proofs.FoundLaws.{some_gone}

pub no_false : true ≡ false → ⊥
no_false is = cc

pub some_one : {A : Type 0} (a b : A) → Some a ≡ Some b → a ≡ b
some_one a b is = cc

pub is_some_of : {A : Type 0} (o : Option A) (a : A) → o ≡ Some a → IsSome o
is_some_of o a is = rw is refl

-- what is far is what a directory shows of it
far_same : (a b : Node) → is_known a ≡ false → far a ≡ far b → a ≡ far b
far_same Dir b unknown shown = absurd (no_false unknown)
far_same (File bytes mode) b unknown shown = absurd (no_false unknown)
far_same FarDir b unknown shown = shown
far_same (FarFile mode) b unknown shown = shown

pub far_unknown : (b : Node) → is_known (far b) ≡ false
far_unknown Dir = refl
far_unknown (File bytes mode) = refl
far_unknown FarDir = refl
far_unknown (FarFile mode) = refl

shown_some : (o : Option Node) (b : Node) → option_map far o ≡ Some (far b) → (a : Node) × (o ≡ Some a) × (far a ≡ far b)
shown_some None b is = absurd (never (far b) is)
shown_some (Some a) b is = (a, refl, some_one (far a) (far b) is)

shown_there : (o : Option Node) (b : Node) → option_map far o ≡ Some b → (a : Node) × (o ≡ Some a)
shown_there None b is = absurd (never b is)
shown_there (Some a) b is = (a, refl)

stamp_tells : (o : Option ℕ) (n : ℕ) → is_stamp o n ≡ true → o ≡ Some n
stamp_tells None n is = absurd (no_false (sym is))
stamp_tells (Some m) n is = ap (λ (x : ℕ). Some x) (eqb-true m n is)

module _ (h s : Stamps) (k : Path → Bool) (h_tree : IsTree (nodes_of h)) (h_far : FarZero h) (s_tree : IsTree (nodes_of s))
    (whole : IsWhole (nodes_of s)) (knows : Knows h k) (agrees : Agrees h s) where
  abbrev sent : List (Path × ℕ)
  sent = known_with_stamps h

  abbrev rows : List (Path × (Node × ℕ))
  rows = changed_rows s sent k

  abbrev gone : List Path
  gone = gone_paths s sent k

  -- what is at a path of the pruned tree
  data At (p : Path) : Type 0 where
    kept : (b : Node) → k p ≡ true → is_reached k p ≡ true → get (nodes_of s) p ≡ Some b → get (pruned s k) p ≡ Some (b, stamp_at s p)
        → At p
    away : (b : Node) → k p ≡ false → is_reached k p ≡ true → get (nodes_of s) p ≡ Some b → get (pruned s k) p ≡ Some (far b, 0) → At p
    none : get (pruned s k) p ≡ None → (is_reached k p ≡ true → get (nodes_of s) p ≡ None) → At p

  got : (p : Path) → get (pruned s k) p ≡ option_map (λ node. stamped_node node (stamp_at s p)) (get (prune (nodes_of s) k) p)
  got p = get_with (stamp_at s) (prune (nodes_of s) k) p

  known_row : (p : Path) (b : Node) → get (nodes_of s) p ≡ Some b → (n : ℕ) → stamped_node b n ≡ (b, n)
  known_row p b is n = ap (λ (c : Bool). (b, cond c n 0)) (whole_known (nodes_of s) whole p b is)

  far_row : (b : Node) (n : ℕ) → stamped_node (far b) n ≡ (far b, 0)
  far_row b n = ap (λ (c : Bool). (far b, cond c n 0)) (far_unknown b)

  at_by : (p : Path) (c : Bool) → is_reached k p ≡ c → (o : Option Node) → get (nodes_of s) p ≡ o → (b : Bool) → k p ≡ b → At p
  at_by p false cut o is b here =
      none (got p ∙ ap (option_map (λ node. stamped_node node (stamp_at s p))) (get_hidden (nodes_of s) k p cut))
      (λ uncut. absurd (no_false (sym uncut ∙ cut)))
  at_by p true cut None is true here =
      none (got p ∙ ap (option_map (λ node. stamped_node node (stamp_at s p))) (get_kept (nodes_of s) k p cut here ∙ is)) (λ uncut. is)
  at_by p true cut None is false here =
      none (got p ∙ ap (option_map (λ node. stamped_node node (stamp_at s p))) (get_far (nodes_of s) k p cut here ∙ ap (option_map far) is))
      (λ uncut. is)
  at_by p true cut (Some b) is true here =
      kept b here cut is
      (got p ∙ ap (option_map (λ node. stamped_node node (stamp_at s p))) (get_kept (nodes_of s) k p cut here ∙ is)
      ∙ ap (λ (row : Node × ℕ). Some row) (known_row p b is (stamp_at s p)))
  at_by p true cut (Some b) is false here =
      away b here cut is
      (got p ∙ ap (option_map (λ node. stamped_node node (stamp_at s p))) (get_far (nodes_of s) k p cut here ∙ ap (option_map far) is)
      ∙ ap (λ (row : Node × ℕ). Some row) (far_row b (stamp_at s p)))

  at : (p : Path) → At p
  at p = at_by p (is_reached k p) refl (get (nodes_of s) p) refl (k p) refl

  -- ---- the parts of the merge

  find_rows : (p : Path) → find path_cmp p rows ≡ cond (is_new s sent k p) (get (pruned s k) p) None
  find_rows p =
      sym (get-entries (retain_keys (pruned s k) (is_new s sent k)) p)
      ∙ get-retain_keys (pruned s k) (is_new s sent k) p (λ x tied. ap (is_new s sent k) (sym (path_same p x tied)))

  abbrev left : List (Path × (Node × ℕ))
  left = filter (stays rows gone) (entries h)

  get_merged : (p : Path) → get (joined h rows gone) p ≡ option_or (find path_cmp p rows) (find path_cmp p left)
  get_merged p = get-from_entries path_total (rows ++ left) p ∙ find_either p rows left

  old_row : (p : Path) (o : Option (Node × ℕ)) → find path_cmp p rows ≡ None → find path_cmp p left ≡ o → get (joined h rows gone) p ≡ o
  old_row p o lacks there = get_merged p ∙ ap (λ (x : Option (Node × ℕ)). option_or x (find path_cmp p left)) lacks ∙ there

  new_row : (p : Path) (row : Node × ℕ) → is_new s sent k p ≡ true → get (pruned s k) p ≡ Some row
      → get (joined h rows gone) p ≡ get (pruned s k) p
  new_row p row new there =
      get_merged p
      ∙ ap (λ (x : Option (Node × ℕ)). option_or x (find path_cmp p left))
      (find_rows p ∙ ap (λ (b : Bool). cond b (get (pruned s k) p) None) new ∙ there)
      ∙ sym there

  not_new : (p : Path) → is_new s sent k p ≡ false → find path_cmp p rows ≡ None
  not_new p old = find_rows p ∙ ap (λ (b : Bool). cond b (get (pruned s k) p) None) old

  in_h : (p : Path) (row : Node × ℕ) → get h p ≡ Some row → find path_cmp p (entries h) ≡ Some row
  in_h p row is = sym (get-entries h p) ∙ is

  h_rising : IsTrue (is_sorted path_cmp (entries h))
  h_rising = is_tested _ (entries_sorted h)

  -- ---- what was sent

  sent_known : (p : Path) (a : Node) (n : ℕ) → get h p ≡ Some (a, n) → is_known a ≡ true → find path_cmp p sent ≡ Some n
  sent_known p a n is known = sent_some p a n (entries h) (in_h p (a, n) is) known

  -- a path that was sent with its stamp is the same in both trees
  sent_same : (q : Path) (b : Node) → get (nodes_of s) q ≡ Some b → is_sent s sent q ≡ true
      → (a : Node) × (get h q ≡ Some (a, stamp_at s q)) × (is_known a ≡ true) × SameInside (nodes_of h) (nodes_of s) q
  sent_same q b is was =
      let back : Sent q (stamp_at s q) (entries h) =
      sent_back q (stamp_at s q) (entries h) h_rising (stamp_tells (find path_cmp q sent) (stamp_at s q) was) in
      let here : get h q ≡ Some (back.node, stamp_at s q) = get-entries h q ∙ back.row in
      (back.node, here, back.known, agrees q back.node b (stamp_at s q) here (row_back s q b is))

  -- ---- what is gone

  p_tree : IsTree (nodes_of (pruned s k))
  p_tree = subst IsTree (sym (nodes_with (stamp_at s) (prune (nodes_of s) k))) (pruned_tree (nodes_of s) k s_tree)

  mapped : (p : Path) (row : Node × ℕ) → get (pruned s k) p ≡ Some row → IsSome (get (nodes_of (pruned s k)) p)
  mapped p row is = is_some_of _ row.0 (node_some (pruned s k) p row.0 row.1 is)

  no_row : (g : Path) → get (pruned s k) g ≡ None → (a : Node) → get (nodes_of (pruned s k)) g ≡ Some a → ⊥
  no_row g lacks a is = never a (sym (get_nodes (pruned s k) g ∙ ap (option_map (λ (row : Node × ℕ). row.0)) lacks) ∙ is)

  not_gone : (p : Path) (row : Node × ℕ) → get (pruned s k) p ≡ Some row → is_gone gone p ≡ false
  not_gone p row is = none_gone (pruned s k) p sent (λ g lacks. by g lacks (starts_with bytes_eq p g) refl)
    where
      above : (g rest : Path) → p ≡ g ++ rest → get (pruned s k) g ≡ None → ⊥
      above g [] here lacks = never row (sym lacks ∙ ap (get (pruned s k)) (sym (append-nil g) ∙ sym here) ∙ is)
      above g (name ∷ rest) here lacks =
          no_row g lacks Dir
          (ancestors (nodes_of (pruned s k)) p_tree g name rest
          (subst (λ (path : Path). IsSome (get (nodes_of (pruned s k)) path)) here (mapped p row is)))

      by : (g : Path) → get (pruned s k) g ≡ None → (b : Bool) → starts_with bytes_eq p g ≡ b → starts_with bytes_eq p g ≡ false
      by g lacks true begins = absurd (above g (drop (length g) p) ((test_is g p).0 begins) lacks)
      by g lacks false begins = begins

  gone_at : (p g rest : Path) (n : ℕ) → p ≡ g ++ rest → find path_cmp g sent ≡ Some n → get (pruned s k) g ≡ None → is_gone gone p ≡ true
  gone_at p g rest n is was lacks = some_gone (pruned s k) p g n sent was lacks ((test_is g p).1 rest is)

  and_false : (a : Bool) → (a && false) ≡ false
  and_false true = refl
  and_false false = refl

  -- ---- the cases

  at_kept : (p : Path) (b : Node) → k p ≡ true → get (nodes_of s) p ≡ Some b → get (pruned s k) p ≡ Some (b, stamp_at s p) → (c : Bool)
      → is_sent s sent p ≡ c → get (joined h rows gone) p ≡ get (pruned s k) p
  at_kept p b here is there false was = new_row p (b, stamp_at s p) (rw (here, was) refl) there
  at_kept p b here is there true was =
      let same = sent_same p b is was in
      let one : same.0 ≡ b = some_one same.0 b (sym (node_some h p same.0 (stamp_at s p) same.1) ∙ same.3.row ∙ is) in
      let stay : stays rows gone (p, (same.0, stamp_at s p)) ≡ true = rw (not_gone p (b, stamp_at s p) there, same.2) refl in
      old_row p _ (not_new p (rw (here, was) refl))
      (filter_keeps (stays rows gone) p (same.0, stamp_at s p) (entries h) (in_h p (same.0, stamp_at s p) same.1) stay
      ∙ ap (λ (x : Node). Some (x, stamp_at s p)) one ∙ sym there)

  -- a far row that the held tree has too
  far_held : (p : Path) (b a : Node) (m : ℕ) → k p ≡ false → get (pruned s k) p ≡ Some (far b, 0) → get h p ≡ Some (a, m)
      → far a ≡ far b → is_new s sent k p ≡ false → has_row rows (parent_of p) ≡ false
      → get (joined h rows gone) p ≡ get (pruned s k) p
  far_held p b a m here there held shown old parent =
      let unknown : is_known a ≡ false = by (is_known a) refl in
      let none : m ≡ 0 = h_far p a m held unknown in
      let one : a ≡ far b = far_same a b unknown shown in
      let stay : stays rows gone (p, (a, m)) ≡ true = rw (not_gone p (far b, 0) there, unknown, parent) refl in
      old_row p _ (not_new p old)
      (filter_keeps (stays rows gone) p (a, m) (entries h) (in_h p (a, m) held) stay ∙ (λ i. Some (one i, none i)) ∙ sym there)
    where
      by : (c : Bool) → is_known a ≡ c → is_known a ≡ false
      by true known = absurd (no_false (sym (knows.all p a m held known) ∙ here))
      by false known = known

  root_held : (b : Node) → get (nodes_of s) [] ≡ Some b → (a : Node) × (m : ℕ) × (get h [] ≡ Some (a, m)) × (far a ≡ far b)
  root_held b is =
      let one : Dir ≡ b = some_one Dir b (sym (whole_root (nodes_of s) s_tree whole) ∙ is) in
      elim h_tree.root [
        | inl dir ↦ (Dir, stamp_at h [], row_back h [] Dir dir, ap far one)
        | inr hidden ↦ (FarDir, stamp_at h [], row_back h [] FarDir hidden, ap far one)
      ]

  at_child : (q : Path) (name : List ℕ) (b : Node) → k (q ++ name ∷ []) ≡ false → is_reached k (q ++ name ∷ []) ≡ true
      → get (nodes_of s) (q ++ name ∷ []) ≡ Some b → get (pruned s k) (q ++ name ∷ []) ≡ Some (far b, 0) → (c : Bool) → is_sent s sent q ≡ c
      → get (joined h rows gone) (q ++ name ∷ []) ≡ get (pruned s k) (q ++ name ∷ [])
  at_child q name b here cut is there false was = new_row (q ++ name ∷ []) (far b, 0) (rw (here, parent_of-push q name, was) refl) there
  at_child q name b here cut is there true was =
      let dir : get (nodes_of s) q ≡ Some Dir = ancestors (nodes_of s) s_tree q name [] (is_some_of _ b is) in
      let same = sent_same q Dir dir was in
      let shown : shown_in (nodes_of h) (q ++ name ∷ []) ≡ Some (far b) = same.3.names name ∙ ap (option_map far) is in
      let found = shown_some (get (nodes_of h) (q ++ name ∷ [])) b shown in
      let held : get h (q ++ name ∷ []) ≡ Some (found.0, stamp_at h (q ++ name ∷ [])) = row_back h (q ++ name ∷ []) found.0 found.1 in
      let above : k q ≡ true = known_above k q name [] cut in
      let lacks : find path_cmp q rows ≡ None = not_new q (rw (above, was) refl) in
      let parent : has_row rows (parent_of (q ++ name ∷ [])) ≡ false = ap (has_row rows) (parent_of-push q name)
      ∙ ap (λ (o : Option (Node × ℕ)). is_some o) lacks in
      far_held (q ++ name ∷ []) b found.0 (stamp_at h (q ++ name ∷ [])) here there held found.2 (rw (here, parent_of-push q name, was) refl)
      parent

  at_away : (p : Path) (b : Node) → k p ≡ false → is_reached k p ≡ true → get (nodes_of s) p ≡ Some b → get (pruned s k) p ≡ Some (far b, 0)
      → get (joined h rows gone) p ≡ get (pruned s k) p
  at_away p b here cut is there = elim (ends p) [
    | at_root root ↦
        let held = root_held b (ap (get (nodes_of s)) (sym root) ∙ is) in
        far_held p b held.0 held.1 here there (ap (get h) root ∙ held.2) held.3 (rw (here, root) refl) (rw root refl)
    | in_name q name end ↦
        subst (λ (path : Path). get (joined h rows gone) path ≡ get (pruned s k) path) (sym end)
        (at_child q name b (sym (ap k end) ∙ here) (sym (ap (is_reached k) end) ∙ cut) (sym (ap (get (nodes_of s)) end) ∙ is)
        (sym (ap (get (pruned s k)) end) ∙ there) (is_sent s sent q) refl)
  ]

  -- a held row that the pruned tree does not have goes
  goes_child : (q : Path) (name : List ℕ) (a : Node) (n : ℕ) → is_known a ≡ false → get h (q ++ name ∷ []) ≡ Some (a, n)
      → get (pruned s k) (q ++ name ∷ []) ≡ None → (is_reached k (q ++ name ∷ []) ≡ true → get (nodes_of s) (q ++ name ∷ []) ≡ None)
      → stays rows gone (q ++ name ∷ [], (a, n)) ≡ false
  goes_child q name a n unknown held lacks absent =
      let dir : get (nodes_of h) q
      ≡ Some Dir = ancestors (nodes_of h) h_tree q name [] (is_some_of _ a (node_some h (q ++ name ∷ []) a n held)) in
      let row : get h q ≡ Some (Dir, stamp_at h q) = row_back h q Dir dir in
      elim (at q) [
        | none gone_q nothing ↦
            rw (gone_at (q ++ name ∷ []) q (name ∷ []) (stamp_at h q) refl (sent_known q Dir (stamp_at h q) row refl) gone_q) refl
        | away b here cut is there ↦ absurd (no_false (sym (knows.all q Dir (stamp_at h q) row refl) ∙ here))
        | kept b here cut is there ↦ by b here cut is there (is_sent s sent q) refl
      ]
    where
      by : (b : Node) → k q ≡ true → is_reached k q ≡ true → get (nodes_of s) q ≡ Some b → get (pruned s k) q ≡ Some (b, stamp_at s q)
          → (c : Bool) → is_sent s sent q ≡ c → stays rows gone (q ++ name ∷ [], (a, n)) ≡ false
      by b here cut is there false was =
          let fresh : is_new s sent k q ≡ true = rw (here, was) refl in
          let new : find path_cmp q rows ≡ Some (b, stamp_at s q) = find_rows q ∙ ap (λ (x : Bool). cond x (get (pruned s k) q) None) fresh
          ∙ there in
          rw (unknown, parent_of-push q name, new) (and_false (not (is_gone gone (q ++ name ∷ []))))
      by b here cut is there true was =
          let same = sent_same q b is was in
          let shown : shown_in (nodes_of s) (q ++ name ∷ []) ≡ Some (far a) = sym (same.3.names name)
          ∙ ap (option_map far) (node_some h (q ++ name ∷ []) a n held) in
          let found = shown_there (get (nodes_of s) (q ++ name ∷ [])) (far a) shown in
          absurd (never found.0 (sym (absent (reached_push k q name cut here)) ∙ found.1))

  goes : (p : Path) (a : Node) (n : ℕ) → get h p ≡ Some (a, n) → get (pruned s k) p ≡ None
      → (is_reached k p ≡ true → get (nodes_of s) p ≡ None) → (c : Bool) → is_known a ≡ c → stays rows gone (p, (a, n)) ≡ false
  goes p a n held lacks absent true known = rw (gone_at p p [] n (sym (append-nil p)) (sent_known p a n held known) lacks) refl
  goes p a n held lacks absent false known = elim (ends p) [
    | at_root root ↦
        absurd (never Dir (sym (ap (get (nodes_of s)) (sym root) ∙ absent (ap (is_reached k) root)) ∙ whole_root (nodes_of s) s_tree whole))
    | in_name q name end ↦
        subst (λ (path : Path). stays rows gone (path, (a, n)) ≡ false) (sym end)
        (goes_child q name a n known (sym (ap (get h) end) ∙ held) (sym (ap (get (pruned s k)) end) ∙ lacks)
        (λ uncut. sym (ap (get (nodes_of s)) end) ∙ absent (ap (is_reached k) end ∙ uncut)))
  ]

  at_none : (p : Path) → get (pruned s k) p ≡ None → (is_reached k p ≡ true → get (nodes_of s) p ≡ None) → (o : Option (Node × ℕ))
      → get h p ≡ o → get (joined h rows gone) p ≡ get (pruned s k) p
  at_none p lacks absent None held =
      old_row p _ (find_rows p ∙ both (is_new s sent k p) (get (pruned s k) p) lacks)
      (filter_none (stays rows gone) p (entries h) (sym (get-entries h p) ∙ held) ∙ sym lacks)
    where
      both : (b : Bool) (o : Option (Node × ℕ)) → o ≡ None → cond b o None ≡ None
      both true o is = is
      both false o is = refl
  at_none p lacks absent (Some row) held =
      old_row p _ (find_rows p ∙ both (is_new s sent k p) (get (pruned s k) p) lacks)
      (filter_drops (stays rows gone) p row (entries h) h_rising (in_h p row held)
      (goes p row.0 row.1 held lacks absent (is_known row.0) refl)
      ∙ sym lacks)
    where
      both : (b : Bool) (o : Option (Node × ℕ)) → o ≡ None → cond b o None ≡ None
      both true o is = is
      both false o is = refl

  law_at : (p : Path) → get (joined h rows gone) p ≡ get (pruned s k) p
  law_at p = elim (at p) [
    | kept b here cut is there ↦ at_kept p b here is there (is_sent s sent p) refl
    | away b here cut is there ↦ at_away p b here cut is there
    | none lacks absent ↦ at_none p lacks absent (get h p) refl
  ]

  -- the merge of what changed is the pruned tree, with its stamps
  pub merge_is_pruned : merged h (changed_rows s (known_with_stamps h) k) (gone_paths s (known_with_stamps h) k) ≡ pruned s k
  merge_is_pruned = same_map path_total path_same _ _ (λ p.
      get_mapped zeroed (joined h rows gone) p ∙ ap (option_map (zeroed p)) (law_at p ∙ got p)
      ∙ zeroed_once p (stamp_at s p) (get (prune (nodes_of s) k) p) ∙ sym (got p))
    where
      once : (b : Bool) (n : ℕ) → cond b (cond b n 0) 0 ≡ cond b n 0
      once true n = refl
      once false n = refl

      zeroed_once : (p : Path) (n : ℕ) (o : Option Node)
          → option_map (zeroed p) (option_map (λ node. stamped_node node n) o) ≡ option_map (λ node. stamped_node node n) o
      zeroed_once p n None = refl
      zeroed_once p n (Some node) = ap (λ (m : ℕ). Some (node, m)) (once (is_known node) n)
