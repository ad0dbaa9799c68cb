-- The entries of a map of origins, and what a change leaves of them.
use Rattle.std.proofs.Common.{◌≡◌, ◌≢◌, ◌⊎◌, ℕ, ◌+◌, Bool, true, false, cond, List, [], ◌∷◌, ◌++◌, Option, Some, None, IsSome, Ordering}
use Rattle.std.proofs.Common.{length, drop, bytes_eq, if◌then◌else◌, refl, sym, ap, subst, ◌∙◌, inl, inr, arith}
use Rattle.std.proofs.Math.Seq.{drop-append_seam}
use Rattle.std.proofs.lemmas.List.{append-nil}
use Rattle.std.proofs.lemmas.Bool.{both_ways}
use Rattle.std.proofs.lemmas.Map.Entries.{place_from_lookup}
use Rattle.std.specs.BTreeMap.Range.{IsRangeOf}
use Rattle.std.specs.BTreeMap.{UpdatesBy, get, get_by, get_key_by, is_at, insert_entry}
use Rattle.std.specs.Cmp.{eq_by_cmp_equiv, tied_itself}
use Rattle.std.specs.List.{starts_with}
use Rattle.std.specs.Map.{KeepsOthers, IsKeyTest, AreApart as KeysApart, lookup, lookup_key, remove_entry}
use Rattle.std.specs.Option.{option_map, IfSome}
use Rattle.std.specs.Ordering.{is_eq, is_gt, match_ordering, eq_by_cmp, ordering_reverse}
use Rattle.std.specs.declared.alloc.Global.{Global}
use Rattle.std.specs.declared.cmp.Ordering.TheVariants.{Less, Equal, Greater}
use Rattle.std.specs.declared.ops.Bound.TheVariants.{Excluded, Unbounded}
use Rattle.std.specs.declared.vec.Vec.{Vec}
use Rattle.iot_text.specs.Paths.{path_cmp, IsBelow}
use Rattle.iot_text.proofs.PathsLaws.{above_first, between, path_total, path_same}
use Rattle.iot_tree.specs.Tree.{Path}
use Rattle.iot_tree.proofs.PathLaws.{order, lower, same, higher, tied}
use Rattle.iot_tree.proofs.TreeLaws.{apart, same_or_apart}
use Rattle.iot_tree.proofs.WithinLaws.{test_is, not_less, forked, side, inside, outside}
use Rattle.iot_access.specs.Entries.{Entries, Sets, NoneBelow, Carries, AreApart}
use Rattle.iot_access.specs.Origins.{Index, entries, Takes, count_within}
use Rattle.iot_access.proofs.EntriesLaws.{no_entry}

-- the names of a path, as a key
abbrev pub Key : Type 0
Key = Vec (List ℕ) Global

abbrev pub key_cmp : Key → Key → Ordering
key_cmp x y = path_cmp x.items y.items

other_entries : (test : Key → Bool) (old new : List (Key × Option Path)) → KeepsOthers (eq_by_cmp key_cmp) test old new
    → (other : Key → Bool) → IsKeyTest (eq_by_cmp key_cmp) other → KeysApart test other → lookup other new ≡ lookup other old
unfolding KeepsOthers
other_entries test old new keeps = keeps

-- what a change of a map is for its entries
pub changed : (old new : Index) (p : Path) (entry : Option (Option Path)) → UpdatesBy key_cmp (λ key. path_cmp p key.items) old new entry
    → Sets (entries old) (entries new) p entry
changed old new p entry updates = record {
  here = updates.1;
  others = λ k differ.
      other_entries (λ key. is_eq (path_cmp p key.items)) old.entries new.entries updates.3 (λ key. is_eq (path_cmp k key.items))
      (λ x y. (eq_by_cmp_equiv path_total).congr k x.items y.items)
      (λ key at. apart k key.items (λ is. differ (is ∙ sym (tied p key.items at))));
}

-- no entry without a key
pub none_of : (index : Index) → index.entries ≡ [] → (k : Path) → entries index k ≡ None
none_of index is k = ap (lookup (λ (key : Key). is_eq (path_cmp k key.items))) is

-- a path has an entry only if a key has its names
none_at : (index : Index) (k : Path) → ((key : Key) → key.items ≡ k → entries index key.items ≡ None) → entries index k ≡ None
none_at index k none = by (entries index k) refl
  where
    by : (found : Option (Option Path)) → entries index k ≡ found → found ≡ None
    by None is = refl
    by (Some o) is =
        let place = place_from_lookup (λ (key : Key). is_eq (path_cmp k key.items)) index.entries o is in
        let at : k ≡ place.1.items = tied k place.1.items place.3 in
        absurd (no_entry o (sym (none place.1 (sym at)) ∙ ap (entries index) (sym at) ∙ is))

-- ---- the first entry below a path

-- a key is in the range after p
after_it : (p : Path) (key : Key) (k : Path) → key.items ≡ k → IsBelow k p → path_cmp p key.items ≡ Less
after_it p key k at below = ap (path_cmp p) (at ∙ below.2) ∙ above_first p below.0 below.1

pub none_after : (index : Index) (p : Key) → ((q : Key) → (key_cmp p q ≡ Less) × Unit {0} → get key_cmp index q ≡ None)
    → NoneBelow (entries index) p.items
none_after index p none k below = none_at index k (λ key at. none key (after_it p.items key k at below, tt))

pub none_within : (index : Index) (p first : Key) → key_cmp p first ≡ Less → starts_with bytes_eq first.items p.items ≡ false
    → ((q : Key) → (key_cmp p q ≡ Less) × Unit {0} → IsSome (get key_cmp index q) → is_gt (key_cmp first q) ≡ false)
    → NoneBelow (entries index) p.items
none_within index p first after out least k below = none_at index k (λ key at. by key at (entries index key.items) refl)
  where
    not_first : (rest : Path) → first.items ≡ p.items ++ rest → ⊥
    not_first rest is = both_ways _ out ((test_is p.items first.items).1 rest is)

    by : (key : Key) → key.items ≡ k → (found : Option (Option Path)) → entries index key.items ≡ found → found ≡ None
    by key at None is = refl
    by key at (Some o) is =
        let later : path_cmp p.items key.items ≡ Less = after_it p.items key k at below in
        let not_later : is_gt (path_cmp first.items key.items) ≡ false = least key (later, tt) (subst IsSome (sym is) refl) in
        elim (order first.items key.items) [
          | lower lt ↦
              let found = between p.items first.items (below.0 ∷ below.1) after (ap (path_cmp first.items) (sym (at ∙ below.2)) ∙ lt) in
              absurd (not_first (found.0 ∷ found.1) found.2)
          | same is_it ↦ absurd (not_first (below.0 ∷ below.1) (is_it ∙ at ∙ below.2))
          | higher lt ↦
              absurd (both_ways _ not_later (ap is_gt (path_total.antisymm first.items key.items ∙ ap ordering_reverse lt)))
        ]

-- what is known of the first entry after p
pub record Begins (index : Index) (p first : Key) (o : Option Path) : Type 0 where
  pub after : key_cmp p first ≡ Less
  pub has : get key_cmp index first ≡ Some o
  pub least : (q : Key) → (key_cmp p q ≡ Less) × Unit {0} → IsSome (get key_cmp index q) → is_gt (key_cmp first q) ≡ false

pub begins : (index : Index) (p first : Key) (o : Option Path) (range rest : List (Key × Option Path))
    → IsRangeOf key_cmp (Excluded p) Unbounded index range → range ≡ (first, o) ∷ rest → Begins index p first o
begins index p first o range rest of is =
    let parts = subst (IsRangeOf key_cmp (Excluded p) Unbounded index) is of in
    record { after = parts.1.0.0; has = parts.1.1; least = parts.2 }

-- ---- how many keys are at or below a path

module _ (p : Path) where
  abbrev weight : Key → ℕ
  weight key = if starts_with bytes_eq key.items p then 1 else 0

  weighs : (key : Key) → starts_with bytes_eq key.items p ≡ true → weight key ≡ 1
  weighs key is = ap (λ b. if b then 1 else 0) is

  weighs_none : (key : Key) → starts_with bytes_eq key.items p ≡ false → weight key ≡ 0
  weighs_none key is = ap (λ b. if b then 1 else 0) is

  count_removed : (test : Key → Bool) (rows : List (Key × Option Path)) (key : Key) → Some key ≡ lookup_key test rows
      → starts_with bytes_eq key.items p ≡ true → count_within p (remove_entry test rows) + 1 ≡ count_within p rows
  count_removed test [] key is within = absurd cc
  count_removed test (row ∷ rows) key is within = by (test row.0) (λ is. count_removed test rows key is within) is
    where
      same_key : (a b : Key) → Some a ≡ Some b → a ≡ b
      same_key a b is = cc

      by : (b : Bool)
          → (Some key ≡ lookup_key test rows → count_within p (remove_entry test rows) + 1 ≡ count_within p rows)
          → Some key ≡ cond b (Some row.0) (lookup_key test rows)
          → count_within p (cond b rows (row ∷ remove_entry test rows)) + 1 ≡ weight row.0 + count_within p rows
      by true more is =
          let one : weight row.0 ≡ 1 = ap weight (sym (same_key key row.0 is)) ∙ weighs key within in
          omega (arith, one)
      by false more is = let rest = more is in omega (arith, rest)

  pub count_inserted : (rows : List (Key × Option Path)) (key : Key) (o : Option Path) → starts_with bytes_eq key.items p ≡ false
      → count_within p (insert_entry key_cmp rows key o) ≡ count_within p rows
  count_inserted [] key o out = let none = weighs_none key out in omega (arith, none)
  count_inserted (row ∷ rows) key o out = by (key_cmp key row.0) (count_inserted rows key o out)
    where
      by : (c : Ordering) → count_within p (insert_entry key_cmp rows key o) ≡ count_within p rows
          → count_within p (match_ordering c ((key, o) ∷ row ∷ rows) ((row.0, o) ∷ rows) (row ∷ insert_entry key_cmp rows key o))
          ≡ weight row.0 + count_within p rows
      by Less more = let none = weighs_none key out in omega (arith, none)
      by Equal more = refl
      by Greater more = ap (λ (n : ℕ). weight row.0 + n) more

-- ---- an entry below a path is taken

strictly : (p k rest : Path) → k ≡ p ++ rest → path_cmp p k ≡ Less → IsBelow k p
strictly p k [] at after = absurd (not_less p (ap (path_cmp p) (sym (at ∙ append-nil p)) ∙ after))
strictly p k (name ∷ rest) at after = (name, rest, at)

pub taken : (old new : Index) (p first : Path) (o : Option Path) → path_cmp p first ≡ Less → starts_with bytes_eq first p ≡ true
    → entries old first ≡ Some o → (row : Option (Key × Option Path))
    → option_map (λ row. row.0) row ≡ get_key_by (λ key. path_cmp first key.items) old
    → option_map (λ row. row.1) row ≡ get_by (λ key. path_cmp first key.items) old
    → IfSome row (λ row. path_cmp first row.0.items ≡ Equal) → UpdatesBy key_cmp (λ key. path_cmp first key.items) old new None
    → new.entries ≡ remove_entry (is_at (λ key. path_cmp first key.items)) old.entries → Takes old new p row
taken old new p first o after within has None key value tie updates gone = absurd (no_entry o (value ∙ has))
taken old new p first o after within has (Some row) key value tie updates gone =
    let at : first ≡ row.0.items = path_same first row.0.items tie in
    let below : IsBelow first p = strictly p first (drop (length p) first) ((test_is p first).0 within) after in (
      (below.0, below.1, sym at ∙ below.2),
      ap (entries old) (sym at) ∙ sym value,
      subst (λ (k : Path). Sets (entries old) (entries new) k None) at (changed old new first None updates),
      ap (λ (rows : List (Key × Option Path)). count_within p rows + 1) gone
          ∙ count_removed p (is_at (λ key. path_cmp first key.items)) old.entries row.0 key
          (subst (λ (k : Path). starts_with bytes_eq k p ≡ true) at within),
    )

-- ---- entries below a path are carried to below another

-- each is where it was, or at its new place
pub record Carrying (old now : Entries) (p q : Path) : Type 0 where
  pub each : (name : List ℕ) (rest : Path)
      → ((now (p ++ name ∷ rest) ≡ old (p ++ name ∷ rest)) × (now (q ++ name ∷ rest) ≡ None))
      ⊎ ((now (p ++ name ∷ rest) ≡ None) × (now (q ++ name ∷ rest) ≡ old (p ++ name ∷ rest)))
  pub others : (k : Path) → ¬ IsBelow k p → ¬ IsBelow k q → now k ≡ old k

pub carrying_none : (e : Entries) (p q : Path) → NoneBelow e q → Carrying e e p q
carrying_none e p q free = record {
  each = λ name rest. inl (refl, free (q ++ name ∷ rest) (name, rest, refl));
  others = λ k out_p out_q. refl;
}

pub carried_all : (old now : Entries) (p q : Path) → Carrying old now p q → NoneBelow now p → Carries old now p q
carried_all old now p q carrying none = record {
  moved = λ name rest. elim (carrying.each name rest) [
    | inl stays ↦ stays.1 ∙ sym (sym stays.0 ∙ none (p ++ name ∷ rest) (name, rest, refl))
    | inr goes ↦ goes.1
  ];
  gone = none;
  others = carrying.others;
}

-- a path at or below one of two that are apart is not at or below the other
pub out_of : (p q k rest : Path) → AreApart p q → k ≡ q ++ rest → starts_with bytes_eq k p ≡ false
out_of p q k rest are_apart at = elim (side p k) [
  | inside other is test ↦ absurd (forked q p rest other are_apart.second are_apart.first (sym at ∙ is))
  | outside out test ↦ test
]

same_rest : (p a b : Path) → p ++ a ≡ p ++ b → a ≡ b
same_rest p a b is = sym (drop-append_seam p a) ∙ ap (drop (length p)) is ∙ drop-append_seam p b

module _ (old now mid next : Entries) (p q : Path) (are_apart : AreApart p q) (carrying : Carrying old now p q) (k : Path)
    (below : IsBelow k p) (o : Option Path) (had : now k ≡ Some o) (takes : Sets now mid k None)
    (puts : Sets mid next (q ++ below.0 ∷ below.1) (Some o)) where
  across : (a b : Path) → q ++ a ≢ p ++ b
  across a b = forked q p a b are_apart.second are_apart.first

  this_one : ((next k ≡ None) × (next (q ++ below.0 ∷ below.1) ≡ old k))
  this_one = (
    puts.others k (λ is. across (below.0 ∷ below.1) (below.0 ∷ below.1) (sym is ∙ below.2)) ∙ takes.here,
    puts.here ∙ elim (carrying.each below.0 below.1) [
      | inl stays ↦ sym (ap old below.2 ∙ sym stays.0 ∙ ap now (sym below.2) ∙ had)
      | inr goes ↦ absurd (no_entry o (sym goes.0 ∙ ap now (sym below.2) ∙ had))
    ],
  )

  pub carrying_more : Carrying old next p q
  carrying_more = record {
    each = λ name rest. elim (same_or_apart (name ∷ rest) (below.0 ∷ below.1)) [
      | inl is ↦
          inr (
            ap (λ (rest : Path). next (p ++ rest)) is ∙ ap next (sym below.2) ∙ this_one.0,
            ap (λ (rest : Path). next (q ++ rest)) is ∙ this_one.1 ∙ ap old below.2 ∙ ap (λ (rest : Path). old (p ++ rest)) (sym is),
          )
      | inr apart_is ↦ other name rest apart_is
    ];
    others = λ k' out_p out_q.
        puts.others k' (λ is. out_q (below.0, below.1, is)) ∙ takes.others k' (λ is. out_p (below.0, below.1, is ∙ below.2))
        ∙ carrying.others k' out_p out_q;
  }
    where
      other : (name : List ℕ) (rest : Path) → eq_by_cmp path_cmp (name ∷ rest) (below.0 ∷ below.1) ≡ false
          → ((next (p ++ name ∷ rest) ≡ old (p ++ name ∷ rest)) × (next (q ++ name ∷ rest) ≡ None))
          ⊎ ((next (p ++ name ∷ rest) ≡ None) × (next (q ++ name ∷ rest) ≡ old (p ++ name ∷ rest)))
      other name rest apart_is =
          let differ : name ∷ rest ≢ below.0 ∷ below.1 =
          λ is. both_ways _ apart_is (ap is_eq (ap (path_cmp (name ∷ rest)) (sym is) ∙ tied_itself path_total (name ∷ rest))) in
          let from : next (p ++ name ∷ rest) ≡ now (p ++ name ∷ rest) =
          puts.others (p ++ name ∷ rest) (λ is. across (below.0 ∷ below.1) (name ∷ rest) (sym is))
          ∙ takes.others (p ++ name ∷ rest) (λ is. differ (same_rest p (name ∷ rest) (below.0 ∷ below.1) (is ∙ below.2))) in
          let to : next (q ++ name ∷ rest) ≡ now (q ++ name ∷ rest) =
          puts.others (q ++ name ∷ rest) (λ is. differ (same_rest q (name ∷ rest) (below.0 ∷ below.1) is))
          ∙ takes.others (q ++ name ∷ rest) (λ is. across (name ∷ rest) (below.0 ∷ below.1) (is ∙ below.2)) in
          elim (carrying.each name rest) [
            | inl stays ↦ inl (from ∙ stays.0, to ∙ stays.1)
            | inr goes ↦ inr (from ∙ goes.0, to ∙ goes.1)
          ]

-- an entry that was taken from below p and put below q
pub carrying_taken : (old : Entries) (now mid next : Index) (p q names : Path) (row : Key × Option Path) → AreApart p q
    → Carrying old (entries now) p q → Takes now mid p (Some row) → names ≡ q ++ drop (length p) row.0.items
    → Sets (entries mid) (entries next) names (Some row.1) → Carrying old (entries next) p q
carrying_taken old now mid next p q names row are_apart carrying takes is puts =
    let rest : drop (length p) row.0.items ≡ takes.0.0 ∷ takes.0.1 =
    ap (drop (length p)) takes.0.2 ∙ drop-append_seam p (takes.0.0 ∷ takes.0.1) in
    carrying_more old (entries now) (entries mid) (entries next) p q are_apart carrying row.0.items takes.0 row.1 takes.1 takes.2
    (subst (λ (k : Path). Sets (entries mid) (entries next) k (Some row.1)) (is ∙ ap (λ (rest : Path). q ++ rest) rest) puts)

-- what is not below p has its entry still when one below p was taken away
pub kept_outside : (old new : Index) (p : Path) (taken : Option (Key × Option Path)) → Takes old new p taken → (k : Path)
    → ¬ IsBelow k p → entries new k ≡ entries old k
kept_outside old new p None takes k out = ap (λ (index : Index). entries index k) takes.1
kept_outside old new p (Some row) takes k out =
    takes.2.others k (λ same. out (subst (λ (q : Path). IsBelow q p) (sym same) takes.0))
