-- A map of std as a finite map.
use Rattle.std.proofs.Common.{◌≡◌, ℕ, cond, List, [], ◌∷◌, Some, Ordering, refl, sym, ap, ◌∙◌}
use Rattle.std.specs.declared.cmp.Ordering.TheVariants.{Less, Equal, Greater}
use Rattle.std.specs.Ordering.{nat_cmp, eq_by_cmp}
use Rattle.std.specs.Cmp.Lexicographic.{slice_cmp, nat_list_cmp_total}
use Rattle.std.specs.FinMap.{get, insert, from_entries, get-from_entries, get-insert, same_map, slice_cmp-IsAntisymmetric}
use Rattle.std.specs.FinMap.{nat_cmp-IsAntisymmetric}
use Rattle.std.specs.FinMap.Entries.{find, put, find-put}
use Rattle.std.specs.Map.{lookup}
use Rattle.std.specs.BTreeMap.{insert_entry, is_at}

abbrev order : List ℕ → List ℕ → Ordering
order = slice_cmp nat_cmp

lookup_is_find : (q : List ℕ) (es : List (List ℕ × List ℕ)) → lookup (is_at (order q)) es ≡ find order q es
lookup_is_find q [] = refl
lookup_is_find q (e ∷ es) = ap (cond (eq_by_cmp order q e.0) (Some e.1)) (lookup_is_find q es)

-- what a look-up finds
pub lookup_is_get : (q : List ℕ) (es : List (List ℕ × List ℕ)) → lookup (is_at (order q)) es ≡ get (from_entries {R = order} es) q
lookup_is_get q es = lookup_is_find q es ∙ sym (get-from_entries nat_list_cmp_total es q)

insert_is_put_by : (k v : List ℕ) (e : List ℕ × List ℕ) (es : List (List ℕ × List ℕ)) (r : Ordering) → order k e.0 ≡ r
    → insert_entry order es k v ≡ put order k v es → insert_entry order (e ∷ es) k v ≡ put order k v (e ∷ es)
insert_is_put_by k v e es Less is later = rw is refl
insert_is_put_by k v e es Equal is later = rw is refl
insert_is_put_by k v e es Greater is later = rw is (ap (λ rest. e ∷ rest) later)

insert_is_put : (k v : List ℕ) (es : List (List ℕ × List ℕ)) → insert_entry order es k v ≡ put order k v es
insert_is_put k v [] = refl
insert_is_put k v (e ∷ es) = insert_is_put_by k v e es (order k e.0) refl (insert_is_put k v es)

-- what an insertion leaves
pub insert_is_insert : (k v : List ℕ) (es : List (List ℕ × List ℕ))
    → from_entries {R = order} (insert_entry order es k v) ≡ insert (from_entries es) k v
insert_is_insert k v es =
    same_map nat_list_cmp_total (slice_cmp-IsAntisymmetric nat_cmp-IsAntisymmetric) _ _ (λ q.
    get-from_entries nat_list_cmp_total (insert_entry order es k v) q
    ∙ ap (find order q) (insert_is_put k v es)
    ∙ find-put order nat_list_cmp_total q k v es
    ∙ ap (cond (eq_by_cmp order q k) (Some v)) (sym (get-from_entries nat_list_cmp_total es q))
    ∙ sym (get-insert nat_list_cmp_total (from_entries es) k v q))
