-- Sizes of lists of paths, path by path.
use Rattle.std.proofs.Common.{◌≡◌, ℕ, ◌+◌, ◌-◌, ◌^◌, ◌<◌, min, List, [], ◌∷◌, ◌++◌, length, take, get_or, sym, ap, ◌∙◌, arith}
use Rattle.std.proofs.lemmas.List.{take_more}
use Rattle.iot_tree.specs.Tree.{Nodes, Path}
use Rattle.iot_hoard.specs.Sizes.{weight, size, size_within}

size_push : (s : Nodes) (paths : List Path) (path : Path) → size s (paths ++ path ∷ []) ≡ size s paths + weight s path
size_push s [] path = omega arith
size_push s (first ∷ paths) path = omega (arith, size_push s paths path)

-- a path more
pub size_more : (s : Nodes) (paths : List Path) (i : ℕ) (path : Path) (old new : ℕ) → i < length paths → path ≡ get_or paths i path
    → old ≡ size_within s (take i paths) → new ≡ min (old + weight s path) (2 ^ 64 - 1) → new ≡ size_within s (take (i + 1) paths)
size_more s paths i path old new lt is so_far sum =
    let longer : take (i + 1) paths ≡ take i paths ++ path ∷ [] =
    take_more paths i path lt ∙ ap (λ (p : Path). take i paths ++ p ∷ []) (sym is) in
    let more : size s (take (i + 1) paths) ≡ size s (take i paths) + weight s path =
    ap (size s) longer ∙ size_push s (take i paths) path in
    omega (arith, more, so_far, sum)
