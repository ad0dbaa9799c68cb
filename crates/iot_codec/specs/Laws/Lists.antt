-- Elements, one after the other.
use Rattle.std.proofs.Common.{◌≡◌, ℕ, zero, suc, ◌+◌, ◌<◌, ◌≤◌, ◌^◌, IsTrue, List, [], ◌∷◌, ◌++◌, length, Option, Some, None, Ok, refl}
use Rattle.std.proofs.Common.{sym, ap, subst, arith, length-append}
use Rattle.std.specs.List.{flat_map, AllByRecursion}
use Rattle.std.specs.declared.cmp.Ordering.{Ordering}
use Rattle.std.proofs.lemmas.List.Concat.{flat_map-cons}
use Rattle.iot_codec.specs.Places.{LiesAt, IsSpelledAt, AreBytes, IsSpelling}
use Rattle.iot_views.specs.Decoders.{Decoder, ◌>>=◌, go_on, tested, number_at, items_at, list_at}
use Rattle.iot_views.specs.Decoding.{pair_at, table_at}
use Rattle.iot_views.specs.Rules.{IsNumber, rises, AreRising, IsTable}
use Rattle.iot_codec.specs.Spelling.{number_spelling, list_spelling, pair_spelling}
use Rattle.iot_codec.specs.Laws.Places.{lies_none, lies_then, lies_first, lies_second}
use Rattle.iot_codec.specs.Laws.Steps.{step, carried, step_tested, tested_again}
use Rattle.iot_codec.specs.Laws.Parts.{length-number, number_laws, without_count, same_rule}

-- each element may follow the one before it
abbrev pub Follow : {X : Type 0} → (Option X → X → Type 0) → List X → Option X → Type 0
Follow May [] previous = Unit {0}
Follow May (x ∷ xs) previous = May previous x × Follow May xs (Some x)

module _ {X : Type 0} (May : Option X → X → Type 0) (spelling : X → List ℕ) (item : Option X → Decoder X)
    (item_laws : (previous : Option X) → IsSpelling (May previous) spelling (item previous)) where
  -- elements that were decoded
  record AreRead (n : ℕ) (previous : Option X) (bytes : List ℕ) (at : ℕ) (read : List X × ℕ) : Type 0 where
    number : length read.0 ≡ n
    follow : Follow May read.0 previous
    place : LiesAt bytes at (flat_map spelling read.0) read.1

  items_found : (n : ℕ) (previous : Option X) (bytes : List ℕ) (at : ℕ) (read : List X × ℕ) → AreBytes bytes → at ≤ length bytes
      → items_at item n previous bytes at ≡ Ok read → AreRead n previous bytes at read
  items_found zero previous bytes at read fit within e =
      carried (AreRead 0 previous bytes at) ([], at) read e (record { number = refl; follow = tt; place = lies_none bytes at within })
  items_found (suc n) previous bytes at read fit within e =
      let s = step (item previous bytes at) (λ x after. go_on (items_at item n (Some x) bytes after) (λ xs end. Ok (x ∷ xs, end))) read e in
      let t = step (items_at item n (Some s.0.0) bytes s.0.1) (λ xs end. Ok (s.0.0 ∷ xs, end)) read s.2 in
      let first = (item_laws previous).found bytes at s.0 fit s.1 in
      let others = items_found n (Some s.0.0) bytes s.0.1 t.0 fit first.place.within t.1 in
      let both = lies_then bytes at s.0.1 t.0.1 (spelling s.0.0) (flat_map spelling t.0.0) first.place others.place in
      let made : AreRead (suc n) previous bytes at (s.0.0 ∷ t.0.0, t.0.1) = record {
        number = ap suc others.number;
        follow = (first.value, others.follow);
        place = subst (λ (text : List ℕ). LiesAt bytes at text t.0.1) (sym (flat_map-cons spelling s.0.0 t.0.0)) both;
      } in
      carried (AreRead (suc n) previous bytes at) (s.0.0 ∷ t.0.0, t.0.1) read t.2 made

  items_again : (xs : List X) (previous : Option X) (bytes : List ℕ) (at end : ℕ) → length bytes < 2 ^ 64 → Follow May xs previous
      → LiesAt bytes at (flat_map spelling xs) end → items_at item (length xs) previous bytes at ≡ Ok (xs, end)
  items_again [] previous bytes at end short follow p = ap (λ (k : ℕ). Ok ([], k)) (omega (arith, p.long))
  items_again (x ∷ xs) previous bytes at end short follow p =
      let parted : LiesAt bytes at (spelling x ++ flat_map spelling xs) end =
      subst (λ (text : List ℕ). LiesAt bytes at text end) (flat_map-cons spelling x xs) p in
      let mid : ℕ = at + length (spelling x) in
      let one : item previous bytes at
      ≡ Ok (x, mid) =
      (item_laws previous).only bytes at (x, mid) short
      (record { value = follow.0; place = lies_first bytes at end (spelling x) (flat_map spelling xs) parted }) in
      rw (one, items_again xs (Some x) bytes mid end short follow.1 (lies_second bytes at end (spelling x) (flat_map spelling xs) parted))
      refl

  -- each element has a byte at least
  pub items_some : (xs : List X) → length xs ≤ length (flat_map spelling xs)
  items_some [] = omega arith
  items_some (x ∷ xs) =
      rw (flat_map-cons spelling x xs)
      (omega (arith, length-append (spelling x) (flat_map spelling xs), (item_laws None).some x, items_some xs))

  -- a list whose number of elements may have a limit
  pub counted_list_laws : (Small : ℕ → Type 0) (len : Decoder ℕ) → IsSpelling Small number_spelling len
      → IsSpelling (λ xs. Small (length xs) × Follow May xs None) (list_spelling spelling) (len >>= λ n. items_at item n None)
  counted_list_laws Small len len_laws = record {
    found = λ bytes at read fit e.
        let s = step (len bytes at) (λ n after. items_at item n None bytes after) read e in
        let first = len_laws.found bytes at s.0 fit s.1 in
        let others = items_found s.0.0 None bytes s.0.1 read fit first.place.within s.2 in
        let count : LiesAt bytes at (number_spelling (length read.0)) s.0.1 =
        subst (λ (n : ℕ). LiesAt bytes at (number_spelling n) s.0.1) (sym others.number) first.place in
        record {
          value = (subst Small (sym others.number) first.value, others.follow);
          place = lies_then bytes at s.0.1 read.1 (number_spelling (length read.0)) (flat_map spelling read.0) count others.place;
        };
    only = λ bytes at read short p.
        let number : List ℕ = number_spelling (length read.0) in
        let mid : ℕ = at + length number in
        let count : len bytes at
        ≡ Ok (length read.0, mid) =
        len_laws.only bytes at (length read.0, mid) short
        (record { value = p.value.0; place = lies_first bytes at read.1 number (flat_map spelling read.0) p.place }) in
        rw count
        (items_again read.0 None bytes mid read.1 short p.value.1
        (lies_second bytes at read.1 number (flat_map spelling read.0) p.place));
    some = λ xs. omega (arith, length-append (number_spelling (length xs)) (flat_map spelling xs), length-number (length xs));
  }

  -- a list
  pub follow_laws : IsSpelling (λ xs. Follow May xs None) (list_spelling spelling) (number_at >>= λ n. items_at item n None)
  follow_laws = without_count length (λ xs. Follow May xs None) (list_spelling spelling) (number_at >>= λ n. items_at item n None)
      (λ xs. omega (arith, length-append (number_spelling (length xs)) (flat_map spelling xs), items_some xs))
      (counted_list_laws IsNumber number_at number_laws)

-- elements that may follow any other
pub follow_from_all : {X : Type 0} (P : X → Type 0) (xs : List X) (previous : Option X) → AllByRecursion P xs → Follow (λ _. P) xs previous
follow_from_all P [] previous all = tt
follow_from_all P (x ∷ xs) previous all = (all.0, follow_from_all P xs (Some x) all.1)

pub all_from_follow : {X : Type 0} (P : X → Type 0) (xs : List X) (previous : Option X) → Follow (λ _. P) xs previous → AllByRecursion P xs
all_from_follow P [] previous follow = tt
all_from_follow P (x ∷ xs) previous follow = (follow.0, all_from_follow P xs (Some x) follow.1)

pub list_laws : {X : Type 0} (P : X → Type 0) (spelling : X → List ℕ) (item : Decoder X) → IsSpelling P spelling item
    → IsSpelling (AllByRecursion P) (list_spelling spelling) (list_at item)
list_laws P spelling item laws =
    same_rule (λ xs. Follow (λ _. P) xs None) (AllByRecursion P) (list_spelling spelling) (list_at item)
    (λ xs follow. all_from_follow P xs None follow) (λ xs all. follow_from_all P xs None all)
    (follow_laws (λ _. P) spelling (λ _. item) (λ _. laws))

-- ---- pairs whose keys rise

module _ {K V : Type 0} (cmp : K → K → Ordering) (IsKey : K → Type 0) (key_spelling : K → List ℕ) (key : Decoder K)
    (key_laws : IsSpelling IsKey key_spelling key)
    (IsValue : V → Type 0) (value_spelling : V → List ℕ) (value : Decoder V) (value_laws : IsSpelling IsValue value_spelling value) where
  -- the pair may follow the one before it
  May : Option (K × V) → K × V → Type 0
  May previous pair = IsTrue (rises cmp previous pair.0) × (IsKey pair.0 × IsValue pair.1)

  pair_laws : (previous : Option (K × V))
      → IsSpelling (May previous) (pair_spelling key_spelling value_spelling) (pair_at cmp key value previous)
  unfolding May pair_at
  pair_laws previous = record {
    found = λ bytes at read fit e.
        let s = step (tested (rises cmp previous) key bytes at) (λ k after. go_on (value bytes after) (λ v end. Ok ((k, v), end))) read e in
        let t = step_tested (rises cmp previous) key bytes at s.0 s.1 in
        let p = key_laws.found bytes at s.0 fit t.0 in
        let u = step (value bytes s.0.1) (λ v end. Ok ((s.0.0, v), end)) read s.2 in
        let q = value_laws.found bytes s.0.1 u.0 fit u.1 in
        let made : IsSpelledAt (May previous) (pair_spelling key_spelling value_spelling) bytes at ((s.0.0, u.0.0), u.0.1) = record {
          value = (t.1, (p.value, q.value));
          place = lies_then bytes at s.0.1 u.0.1 (key_spelling s.0.0) (value_spelling u.0.0) p.place q.place;
        } in
        carried (IsSpelledAt (May previous) (pair_spelling key_spelling value_spelling) bytes at) ((s.0.0, u.0.0), u.0.1) read u.2 made;
    only = λ bytes at read short p.
        let text : List ℕ = key_spelling read.0.0 in
        let mid : ℕ = at + length text in
        let k : key bytes at
        ≡ Ok (read.0.0, mid) =
        key_laws.only bytes at (read.0.0, mid) short
        (record { value = p.value.1.0; place = lies_first bytes at read.1 text (value_spelling read.0.1) p.place }) in
        let v : value bytes mid
        ≡ Ok (read.0.1, read.1) =
        value_laws.only bytes mid (read.0.1, read.1) short
        (record { value = p.value.1.1; place = lies_second bytes at read.1 text (value_spelling read.0.1) p.place }) in
        rw (tested_again (rises cmp previous) key bytes at (read.0.0, mid) k p.value.0, v) refl;
    some = λ pair. omega (arith, length-append (key_spelling pair.0) (value_spelling pair.1), key_laws.some pair.0);
  }

  rising_from_follow : (pairs : List (K × V)) (previous : Option (K × V)) → Follow May pairs previous → AreRising cmp pairs previous
  unfolding May
  rising_from_follow [] previous follow = tt
  rising_from_follow (pair ∷ pairs) previous follow = (follow.0.0, rising_from_follow pairs (Some pair) follow.1)

  each_from_follow : (pairs : List (K × V)) (previous : Option (K × V)) → Follow May pairs previous
      → AllByRecursion (λ pair. IsKey pair.0 × IsValue pair.1) pairs
  unfolding May
  each_from_follow [] previous follow = tt
  each_from_follow (pair ∷ pairs) previous follow = (follow.0.1, each_from_follow pairs (Some pair) follow.1)

  follow_from_table : (pairs : List (K × V)) (previous : Option (K × V)) → AreRising cmp pairs previous
      → AllByRecursion (λ pair. IsKey pair.0 × IsValue pair.1) pairs → Follow May pairs previous
  unfolding May
  follow_from_table [] previous rising each = tt
  follow_from_table (pair ∷ pairs) previous rising each = ((rising.0, each.0), follow_from_table pairs (Some pair) rising.1 each.1)

  pub table_laws : IsSpelling (IsTable cmp IsKey IsValue) (list_spelling (pair_spelling key_spelling value_spelling))
      (table_at cmp key value)
  table_laws =
      same_rule (λ pairs. Follow May pairs None) (IsTable cmp IsKey IsValue) (list_spelling (pair_spelling key_spelling value_spelling))
      (table_at cmp key value)
      (λ pairs follow. record { rising = rising_from_follow pairs None follow; each = each_from_follow pairs None follow })
      (λ pairs table. follow_from_table pairs None table.rising table.each)
      (follow_laws May (pair_spelling key_spelling value_spelling) (pair_at cmp key value) pair_laws)
