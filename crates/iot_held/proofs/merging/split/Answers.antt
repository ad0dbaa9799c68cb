use Rattle.iot_tree.specs.Snapshots.{is_known}
use Rattle.std.proofs.Common.{cond, ◌≡◌, ◌∙◌, ◌++◌, ◌∷◌, [], map, ap, sym, List, length, refl}
use Rattle.std.proofs.lemmas.List.{map-append}
use Rattle.std.proofs.lemmas.Iterator.Adapters.{YieldsList-from_vec}
use Rattle.std.proofs.lemmas.Iterator.Consumers.{YieldsList-end}
use Rattle.iot_stamp.specs.Stamps.{Entry}
use Rattle.iot_tree.specs.Tree.{Row}
use Rattle.iot_held.proofs.merging.split.Goals as goal

pub entries-preserved : goal.entries-preserved
entries-preserved c =
    let e : Entry = (c.in-Some.path, (c.in-Some.node, c.in-Some.stamp)) in (
      c.in_ok-push-2.ensures.ok ∙ ap (λ (rows : List Row). rows ++ (e.0, e.1.0) ∷ []) c.entries.invariant.0
          ∙ sym (map-append (λ (e : Entry). (e.0, e.1.0)) c.entries.yielded (e ∷ [])),
      c.in_ok-push.ensures.items ∙ (λ i. c.entries.invariant.1 i ++ c.stamp_of.ensures i ∷ [])
          ∙ sym (map-append (λ (e : Entry). cond (is_known e.1.0) e.1.1 0) c.entries.yielded (e ∷ [])),
    )

same_items : (xs ys : List Entry) → map (λ (y : Entry). y) xs ≡ ys → xs ≡ ys
same_items xs ys is = sym (map_same xs) ∙ is
  where
    map_same : (xs : List Entry) → map (λ (y : Entry). y) xs ≡ xs
    map_same [] = refl
    map_same (x ∷ xs) = ap (λ (rest : List Entry). x ∷ rest) (map_same xs)

pub returns : goal.returns
returns c =
    let gives = c.into_iter-path-iterator.ensures.into_iter_gives in
    let long : c.into_iter-path-iterator.result.rest.len ≡ length c.args.entries = gives.1 ∙ c.into_vec-path-items.result.ok.0
    ∙ ap length c.into_vec-path-items.ensures in
    let t =
    YieldsList-end
    (YieldsList-from_vec {s = c.into_iter-path-iterator.result} c.args.entries (gives.0 ∙ c.into_vec-path-items.ensures) long)
    c.entries.yielded c.entries.path-iterator c.entries.yielded_by c.next.result c.next.new.self c.in-None.is c.next.ensures.steps in
    let all : c.entries.yielded ≡ c.args.entries = same_items c.entries.yielded c.args.entries t.0 in (
      c.entries.invariant.0 ∙ ap (map (λ (e : Entry). (e.0, e.1.0))) all,
      c.entries.invariant.1 ∙ ap (map (λ (e : Entry). cond (is_known e.1.0) e.1.1 0)) all,
    )
