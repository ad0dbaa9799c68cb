-- Where paths come in their order.
use Rattle.std.proofs.Common.{◌≡◌, IsTrue, Ordering, refl, ap, ◌∙◌}
use Rattle.std.specs.Ordering.{is_eq, eq_by_cmp, ordering_reverse}
use Rattle.std.specs.declared.cmp.Ordering.TheVariants.{Less, Equal, Greater}
use Rattle.iot_text.specs.Paths.{path_cmp}
use Rattle.iot_text.proofs.PathsLaws.{path_same, path_total}
use Rattle.iot_tree.specs.Tree.{Path}

tied_by : (p q : Path) (c : Ordering) → path_cmp p q ≡ c → IsTrue (is_eq c) → p ≡ q
tied_by p q Less is tie = absurd cc
tied_by p q Equal is tie = path_same p q is
tied_by p q Greater is tie = absurd cc

pub tied : (p q : Path) → IsTrue (eq_by_cmp path_cmp p q) → p ≡ q
tied p q tie = tied_by p q (path_cmp p q) refl tie

-- a path comes before another, is it, or comes after it
pub data Order (q r : Path) : Type 0 where
  lower : path_cmp q r ≡ Less → Order q r
  same : q ≡ r → Order q r
  higher : path_cmp r q ≡ Less → Order q r

order_by : (q r : Path) (c : Ordering) → path_cmp q r ≡ c → Order q r
order_by q r Less is = lower is
order_by q r Equal is = same (path_same q r is)
order_by q r Greater is = higher (path_total.antisymm r q ∙ ap ordering_reverse is)

pub order : (q r : Path) → Order q r
order q r = order_by q r (path_cmp q r) refl
