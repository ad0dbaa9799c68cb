-- Paths taken one after the other, and the longest front of a list.
use Rattle.std.proofs.Common.{◌≡◌, ℕ, ◌-◌, ◌<◌, ◌≤◌, Bool, true, false, not, ◌||◌, cond, List, [], ◌∷◌, ◌++◌, Option, Some}
use Rattle.std.proofs.Common.{None, refl, sym, ap, ◌∙◌, arith, inl, inr, length, append-nil, length-append}
use Rattle.std.proofs.lemmas.Bool.{cond-true, cond-false, cases_Bool, cases_lt, or_left, or_right, or_from}
use Rattle.std.proofs.lemmas.Bool.{le-leb, lt-leb, leb-true, leb-false}
use Rattle.std.proofs.lemmas.List.Elements.{filter_agree}
use Rattle.std.specs.FinMap.{get, keys}
use Rattle.std.specs.List.{filter, flat_map}
use Rattle.std.specs.Ordering.{eq_by_cmp}
use Rattle.std.specs.Prelude.{is_some, nat_le}
use Rattle.iot_text.specs.Paths.{path_cmp}
use Rattle.iot_tree.specs.Snapshots.{has}
use Rattle.iot_tree.specs.Tree.{Nodes, Path}
use Rattle.iot_tree.specs.declared.nodes.Node.{Node}
use Rattle.iot_hoard.specs.Choosing.{Taken, take_new, take_path, take_paths}
use Rattle.iot_hoard.specs.Picking.{IsLongestFront, IsPick, by_priority, first_places, fitting, in_order, listed, picked, wished}
use Rattle.iot_hoard.specs.Sizes.{size, weight}
use Rattle.iot_tree.specs.declared.profile.Wish.{Wish}

-- ---- a path

module _ (s : Nodes) (path : Path) (so_far : Taken) where
  -- one that the tree lacks is passed over
  pub path_lacking : get s path ≡ None → take_path s path so_far ≡ so_far
  path_lacking none =
      cond-true (not (is_some (get s path)) || has so_far.paths path) so_far (take_new s path so_far)
      (or_left (not (is_some (get s path))) (has so_far.paths path) (ap (λ (o : Option Node). not (is_some o)) none))

  -- and so is one that is taken
  pub path_passed : has so_far.paths path ≡ true → take_path s path so_far ≡ so_far
  path_passed taken =
      cond-true (not (is_some (get s path)) || has so_far.paths path) so_far (take_new s path so_far)
      (or_right (not (is_some (get s path))) (has so_far.paths path) taken)

  module _ (node : Node) (some : get s path ≡ Some node) (fresh : has so_far.paths path ≡ false) where
    is_new : take_path s path so_far ≡ take_new s path so_far
    is_new =
        cond-false (not (is_some (get s path)) || has so_far.paths path) so_far (take_new s path so_far)
        (or_from (not (is_some (get s path))) (has so_far.paths path) (ap (λ (o : Option Node). not (is_some o)) some) fresh)

    -- one that fits is taken
    pub path_fits : weight s path ≤ so_far.left
        → take_path s path so_far ≡ record { paths = path ∷ so_far.paths; left = so_far.left - weight s path }
    path_fits fits =
        let more : Taken = record { paths = path ∷ so_far.paths; left = so_far.left - weight s path } in
        let end : Taken = record { paths = so_far.paths; left = 0 } in
        is_new ∙ cond-true (nat_le (weight s path) so_far.left) more end (le-leb (weight s path) so_far.left fits)

    -- one that does not ends the choice
    pub path_ends : so_far.left < weight s path → take_path s path so_far ≡ record { paths = so_far.paths; left = 0 }
    path_ends heavy =
        let more : Taken = record { paths = path ∷ so_far.paths; left = so_far.left - weight s path } in
        let end : Taken = record { paths = so_far.paths; left = 0 } in
        is_new ∙ cond-false (nat_le (weight s path) so_far.left) more end (lt-leb (weight s path) so_far.left heavy)

-- two lists of paths, one after the other
pub take_both : (s : Nodes) (first second : List Path) (so_far : Taken)
    → take_paths s (first ++ second) so_far ≡ take_paths s second (take_paths s first so_far)
take_both s [] second so_far = refl
take_both s (path ∷ first) second so_far = take_both s first second (take_path s path so_far)

-- ---- the longest front within a limit

front_nothing : (s : Nodes) (paths : List Path) → fitting s 0 paths ≡ []
front_nothing s [] = refl
front_nothing s (path ∷ paths) =
    cond-false (nat_le (weight s path) 0) (path ∷ fitting s (0 - weight s path) paths) [] (lt-leb (weight s path) 0 (omega arith))

head_is : (p q : Path) (a b : List Path) → p ∷ a ≡ q ∷ b → p ≡ q
head_is p q a b is = cc

rest_is : (p q : Path) (a b : List Path) → p ∷ a ≡ q ∷ b → a ≡ b
rest_is p q a b is = cc

module _ (s : Nodes) (left : ℕ) (path : Path) (paths : List Path) where
  front_more : weight s path ≤ left → IsLongestFront s (left - weight s path) paths (fitting s (left - weight s path) paths)
      → IsLongestFront s left (path ∷ paths) (path ∷ fitting s (left - weight s path) paths)
  front_more fits rest = record {
    later = rest.later;
    split = ap (λ (list : List Path). path ∷ list) rest.split;
    within = omega (arith, fits, rest.within);
    longest = longest;
  }
    where
      longest : (more last : List Path) → path ∷ paths ≡ more ++ last → size s more ≤ left
          → (others : List Path) × (path ∷ fitting s (left - weight s path) paths ≡ more ++ others)
      longest [] last split short = (path ∷ fitting s (left - weight s path) paths, refl)
      longest (first ∷ more) last split short =
          let same : path ≡ first = head_is path first paths (more ++ last) split in
          let weighs : weight s path ≡ weight s first = ap (weight s) same in
          let found = rest.longest more last (rest_is path first paths (more ++ last) split) (omega (arith, short, fits, weighs)) in
          (found.0, (λ i. same i ∷ found.1 i))

  front_end : left < weight s path → IsLongestFront s left (path ∷ paths) []
  front_end heavy = record {
    later = path ∷ paths;
    split = refl;
    within = omega arith;
    longest = longest;
  }
    where
      longest : (more last : List Path) → path ∷ paths ≡ more ++ last → size s more ≤ left → (others : List Path) × ([] ≡ more ++ others)
      longest [] last split short = ([], refl)
      longest (first ∷ more) last split short =
          let weighs : weight s path ≡ weight s first = ap (weight s) (head_is path first paths (more ++ last) split) in
          absurd (omega (arith, short, heavy, weighs))

longest_front : (s : Nodes) (left : ℕ) (paths : List Path) → IsLongestFront s left paths (fitting s left paths)
longest_front s left [] = record {
  later = [];
  split = refl;
  within = omega arith;
  longest = λ more last split short. (last, split);
}
longest_front s left (path ∷ paths) = by (nat_le (weight s path) left) refl (longest_front s (left - weight s path) paths)
  where
    by : (b : Bool) → nat_le (weight s path) left ≡ b
        → IsLongestFront s (left - weight s path) paths (fitting s (left - weight s path) paths)
        → IsLongestFront s left (path ∷ paths) (cond b (path ∷ fitting s (left - weight s path) paths) [])
    by true is rest = front_more s left path paths (leb-true (weight s path) left is) rest
    by false is rest = front_end s left path paths (leb-false (weight s path) left is)

-- ---- what is taken of a list

or_nothing : (b : Bool) → b ≡ (b || false)
or_nothing true = refl
or_nothing false = refl

pub or_moved : (a b c : Bool) → ((a || b) || c) ≡ (b || (a || c))
or_moved true true c = refl
or_moved true false c = refl
or_moved false b c = refl

module _ (s : Nodes) (q : Path) where
  abbrev in_tree : Path → Bool
  in_tree path = is_some (get s path)

  -- the paths before, and the longest front of those that are new
  abbrev IsTaken : List Path → Taken → Type 0
  IsTaken paths so_far =
      has (take_paths s paths so_far).paths q
      ≡ (has so_far.paths q || has (fitting s so_far.left (first_places so_far.paths (filter in_tree paths))) q)

  module _ (path : Path) (paths : List Path) (each : (so_far : Taken) → IsTaken paths so_far) (so_far : Taken) where
    -- the path is passed over
    stays : take_path s path so_far ≡ so_far
        → first_places so_far.paths (filter in_tree (path ∷ paths)) ≡ first_places so_far.paths (filter in_tree paths)
        → IsTaken (path ∷ paths) so_far
    stays step places =
        ap (λ (taken : Taken). has (take_paths s paths taken).paths q) step ∙ each so_far
        ∙ ap (λ (list : List Path). has so_far.paths q || has (fitting s so_far.left list) q) (sym places)

    lacking : get s path ≡ None → IsTaken (path ∷ paths) so_far
    lacking none =
        stays (path_lacking s path so_far none)
        (ap (first_places so_far.paths)
        (cond-false (in_tree path) (path ∷ filter in_tree paths) (filter in_tree paths) (ap (λ (o : Option Node). is_some o) none)))

    module _ (node : Node) (some : get s path ≡ Some node) where
      kept : filter in_tree (path ∷ paths) ≡ path ∷ filter in_tree paths
      kept = cond-true (in_tree path) (path ∷ filter in_tree paths) (filter in_tree paths) (ap (λ (o : Option Node). is_some o) some)

      passed : has so_far.paths path ≡ true → IsTaken (path ∷ paths) so_far
      passed taken =
          stays (path_passed s path so_far taken)
          (ap (first_places so_far.paths) kept
          ∙ cond-true (has so_far.paths path) (first_places so_far.paths (filter in_tree paths))
          (path ∷ first_places (path ∷ so_far.paths) (filter in_tree paths)) taken)

      module _ (fresh : has so_far.paths path ≡ false) where
        places : first_places so_far.paths (filter in_tree (path ∷ paths))
            ≡ path ∷ first_places (path ∷ so_far.paths) (filter in_tree paths)
        places =
            ap (first_places so_far.paths) kept
            ∙ cond-false (has so_far.paths path) (first_places so_far.paths (filter in_tree paths))
            (path ∷ first_places (path ∷ so_far.paths) (filter in_tree paths)) fresh

        fits : weight s path ≤ so_far.left → IsTaken (path ∷ paths) so_far
        fits le =
            let next : Taken = record { paths = path ∷ so_far.paths; left = so_far.left - weight s path } in
            let later : List Path = first_places (path ∷ so_far.paths) (filter in_tree paths) in
            let fronts : fitting s so_far.left (first_places so_far.paths (filter in_tree (path ∷ paths)))
            ≡ path ∷ fitting s (so_far.left - weight s path) later =
            ap (fitting s so_far.left) places
            ∙ cond-true (nat_le (weight s path) so_far.left) (path ∷ fitting s (so_far.left - weight s path) later) []
            (le-leb (weight s path) so_far.left le) in
            ap (λ (taken : Taken). has (take_paths s paths taken).paths q) (path_fits s path so_far node some fresh le) ∙ each next
            ∙ or_moved (eq_by_cmp path_cmp q path) (has so_far.paths q) (has (fitting s (so_far.left - weight s path) later) q)
            ∙ ap (λ (list : List Path). has so_far.paths q || has list q) (sym fronts)

        ends : so_far.left < weight s path → IsTaken (path ∷ paths) so_far
        ends more =
            let next : Taken = record { paths = so_far.paths; left = 0 } in
            let later : List Path = first_places (path ∷ so_far.paths) (filter in_tree paths) in
            let fronts : fitting s so_far.left (first_places so_far.paths (filter in_tree (path ∷ paths))) ≡ [] =
            ap (fitting s so_far.left) places
            ∙ cond-false (nat_le (weight s path) so_far.left) (path ∷ fitting s (so_far.left - weight s path) later) []
            (lt-leb (weight s path) so_far.left more) in
            ap (λ (taken : Taken). has (take_paths s paths taken).paths q) (path_ends s path so_far node some fresh more) ∙ each next
            ∙ ap (λ (list : List Path). has so_far.paths q || has list q)
            (front_nothing s (first_places so_far.paths (filter in_tree paths)) ∙ sym fronts)

        new : IsTaken (path ∷ paths) so_far
        new = elim (cases_lt so_far.left (weight s path)) [ inl more ↦ ends more | inr le ↦ fits le ]

    one_more : (o : Option Node) → get s path ≡ o → IsTaken (path ∷ paths) so_far
    one_more None none = lacking none
    one_more (Some node) some =
        elim (cases_Bool (has so_far.paths path)) [ inl taken ↦ passed node some taken | inr fresh ↦ new node some fresh ]

  taken_is : (paths : List Path) (so_far : Taken) → IsTaken paths so_far
  taken_is [] so_far = or_nothing (has so_far.paths q)
  taken_is (path ∷ paths) so_far = one_more path paths (taken_is paths) so_far (get s path) refl

-- what a profile takes
pub picked_is : (s : Nodes) (wishes : List Wish) (limit : ℕ) (picked : List Path)
    → picked ≡ filter (has (take_paths s (flat_map (wished s) (by_priority wishes)) (record { paths = []; left = limit })).paths) (keys s)
    → IsPick s wishes limit picked
picked_is s wishes limit picked is = record {
  front = fitting s limit (listed s wishes);
  longest = longest_front s limit (listed s wishes);
  is =
      is
      ∙ filter_agree (has (take_paths s (flat_map (wished s) (by_priority wishes)) (record { paths = []; left = limit })).paths)
      (has (fitting s limit (listed s wishes)))
      (λ q. taken_is s q (flat_map (wished s) (by_priority wishes)) (record { paths = []; left = limit })) (keys s);
}

-- there is no other pick
module _ (s : Nodes) (wishes : List Wish) (limit : ℕ) {paths : List Path} (it : IsPick s wishes limit paths) where
  abbrev taken : List Path
  taken = fitting s limit (listed s wishes)

  is_front : (one other : List Path) → it.front ≡ taken ++ one → taken ≡ it.front ++ other → it.front ≡ taken
  is_front [] other more same = more ∙ append-nil taken
  is_front (path ∷ one) other more same =
      absurd (omega (arith, ap length more, ap length same, length-append taken (path ∷ one), length-append it.front other))

  pub pick_is : paths ≡ picked s wishes limit
  pick_is =
      let mine : IsLongestFront s limit (listed s wishes) taken = longest_front s limit (listed s wishes) in
      let one = it.longest.longest taken mine.later mine.split mine.within in
      let other = mine.longest it.front it.longest.later it.longest.split it.longest.within in
      it.is ∙ ap (in_order s) (is_front one.0 other.0 one.1 other.1)
