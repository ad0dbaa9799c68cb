-- The files among the rows of a tree.
use Rattle.std.proofs.Common.{◌≡◌, ℕ, ◌+◌, ◌<◌, Bool, true, false, IsTrue, List, [], ◌∷◌, ◌++◌, Option, Some, None, length, take, get_or}
use Rattle.std.proofs.Common.{refl, sym, ap, ◌∙◌, inl, inr, cond}
use Rattle.std.proofs.lemmas.List.{append-nil, take_more}
use Rattle.std.proofs.lemmas.List.Elements.{filter_map-append}
use Rattle.std.specs.Cmp.{first_so, second_so}
use Rattle.std.specs.Cmp.Derive.{both_true}
use Rattle.std.specs.FinMap.{get-entries, entries, entries_sorted, get-from_entries, get-empty, is_sorted, find}
use Rattle.std.specs.FinMap.Entries.{below_all}
use Rattle.std.specs.List.{filter_map, cons_option}
use Rattle.std.specs.Ordering.{is_lt, eq_by_cmp}
use Rattle.iot_text.specs.Paths.{path_cmp}
use Rattle.iot_text.proofs.PathsLaws.{path_total}
use Rattle.iot_tree.specs.Questions.{content_at}
use Rattle.iot_tree.specs.Tree.{Path, Row, Nodes}
use Rattle.iot_tree.specs.declared.nodes.Node.{Node}
use Rattle.iot_tree.specs.declared.nodes.Node.TheVariants.{Dir, File, FarDir, FarFile}
use Rattle.iot_tree.proofs.PlaceLaws.{is_less}
use Rattle.iot_tree.proofs.RowLaws.{is_tested}
use Rattle.iot_tree.proofs.TreeLaws.{same_or_apart}
use Rattle.iot_exec.specs.Files.{file_of, files_of}
use Rattle.iot_resolve.specs.Files.{offered, OffersFilesOf}

-- ---- one row after the other

pub one_more : (rows : List Row) (i : ℕ) (row : Row) (file : Path × List ℕ) → i < length rows → row ≡ get_or rows i row
    → file_of row ≡ Some file → filter_map file_of (take i rows) ++ file ∷ [] ≡ filter_map file_of (take (i + 1) rows)
one_more rows i row file lt is found =
    sym (ap (filter_map file_of) (take_more rows i row lt ∙ ap (λ (r : Row). take i rows ++ r ∷ []) (sym is))
    ∙ filter_map-append file_of (take i rows) (row ∷ [])
    ∙ ap (λ (o : Option (Path × List ℕ)). filter_map file_of (take i rows) ++ cons_option o []) found)

pub no_more : (rows : List Row) (i : ℕ) (row : Row) → i < length rows → row ≡ get_or rows i row → file_of row ≡ None
    → filter_map file_of (take i rows) ≡ filter_map file_of (take (i + 1) rows)
no_more rows i row lt is none =
    sym (ap (filter_map file_of) (take_more rows i row lt ∙ ap (λ (r : Row). take i rows ++ r ∷ []) (sym is))
    ∙ filter_map-append file_of (take i rows) (row ∷ [])
    ∙ ap (λ (o : Option (Path × List ℕ)). filter_map file_of (take i rows) ++ cons_option o []) none
    ∙ append-nil (filter_map file_of (take i rows)))

-- ---- the files rise

below : (p : Path) (rows : List Row) → IsTrue (below_all path_cmp p rows) → IsTrue (below_all path_cmp p (filter_map file_of rows))
below p [] h = refl
below p ((q, File bytes mode) ∷ rows) h = both_true (first_so (is_lt (path_cmp p q)) _ h)
    (below p rows (second_so (is_lt (path_cmp p q)) _ h))
below p ((q, Dir) ∷ rows) h = below p rows (second_so (is_lt (path_cmp p q)) _ h)
below p ((q, FarDir) ∷ rows) h = below p rows (second_so (is_lt (path_cmp p q)) _ h)
below p ((q, FarFile mode) ∷ rows) h = below p rows (second_so (is_lt (path_cmp p q)) _ h)

rise : (rows : List Row) → IsTrue (is_sorted path_cmp rows) → IsTrue (is_sorted path_cmp (filter_map file_of rows))
rise [] h = refl
rise ((q, File bytes mode) ∷ rows) h =
    both_true (below q rows (first_so (below_all path_cmp q rows) _ h)) (rise rows (second_so (below_all path_cmp q rows) _ h))
rise ((q, Dir) ∷ rows) h = rise rows (second_so (below_all path_cmp q rows) _ h)
rise ((q, FarDir) ∷ rows) h = rise rows (second_so (below_all path_cmp q rows) _ h)
rise ((q, FarFile mode) ∷ rows) h = rise rows (second_so (below_all path_cmp q rows) _ h)

-- ---- what is found at a path

-- what comes before all paths is none of them
none_after : (p : Path) (files : List (Path × List ℕ)) → IsTrue (below_all path_cmp p files) → find path_cmp p files ≡ None
none_after p [] h = refl
none_after p (file ∷ files) h =
    rw (is_less (path_cmp p file.0) (first_so (is_lt (path_cmp p file.0)) _ h))
    (none_after p files (second_so (is_lt (path_cmp p file.0)) _ h))

-- none of the rows has the path, so no file has it
none_at : (q p : Path) (rows : List Row) → q ≡ p → IsTrue (below_all path_cmp p rows) → find path_cmp q (filter_map file_of rows) ≡ None
none_at q p rows same h = ap (λ q. find path_cmp q (filter_map file_of rows)) same ∙ none_after p _ (below p rows h)

-- a row that has no file, and what comes after it
passed : (q p : Path) (node : Node) (rows : List Row) → content_at (Some node) ≡ None → IsTrue (below_all path_cmp p rows)
    → find path_cmp q (filter_map file_of rows) ≡ content_at (find path_cmp q rows)
    → find path_cmp q (filter_map file_of rows) ≡ content_at (cond (eq_by_cmp path_cmp q p) (Some node) (find path_cmp q rows))
passed q p node rows none h rest = elim (same_or_apart q p) [
  | inl same ↦ by (eq_by_cmp path_cmp q p) (none_at q p rows same h)
  | inr is ↦ rw is rest
]
  where
    by : (b : Bool) → find path_cmp q (filter_map file_of rows) ≡ None
        → find path_cmp q (filter_map file_of rows) ≡ content_at (cond b (Some node) (find path_cmp q rows))
    by true away = away ∙ sym none
    by false away = rest

found : (q : Path) (rows : List Row) → IsTrue (is_sorted path_cmp rows)
    → find path_cmp q (filter_map file_of rows) ≡ content_at (find path_cmp q rows)
found q [] h = refl
found q ((p, File bytes mode) ∷ rows) h = by (eq_by_cmp path_cmp q p) (found q rows (second_so (below_all path_cmp p rows) _ h))
  where
    by : (b : Bool) → find path_cmp q (filter_map file_of rows) ≡ content_at (find path_cmp q rows)
        → cond b (Some bytes) (find path_cmp q (filter_map file_of rows)) ≡ content_at
        (cond b (Some (File bytes mode)) (find path_cmp q rows))
    by true rest = refl
    by false rest = rest
found q ((p, Dir) ∷ rows) h =
    passed q p Dir rows refl (first_so (below_all path_cmp p rows) _ h) (found q rows (second_so (below_all path_cmp p rows) _ h))
found q ((p, FarDir) ∷ rows) h =
    passed q p FarDir rows refl (first_so (below_all path_cmp p rows) _ h) (found q rows (second_so (below_all path_cmp p rows) _ h))
found q ((p, FarFile mode) ∷ rows) h =
    passed q p (FarFile mode) rows refl (first_so (below_all path_cmp p rows) _ h)
    (found q rows (second_so (below_all path_cmp p rows) _ h))

-- ---- the files of a tree

pub offers_files : (keeps : Bool) (t : Nodes) → OffersFilesOf keeps t (offered keeps t)
offers_files false t = record { rising = refl; each = λ p. get-empty path_cmp p }
offers_files true t =
    let rising : IsTrue (is_sorted path_cmp (entries t)) = is_tested _ (entries_sorted t) in
    record {
      rising = rise (entries t) rising;
      each = λ p. get-from_entries path_total (files_of t) p ∙ found p (entries t) rising ∙ ap content_at (sym (get-entries t p));
    }
