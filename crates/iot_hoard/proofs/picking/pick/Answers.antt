use Rattle.std.proofs.Common.{◌≡◌, [], ◌∙◌, List, map, take, ap, subst}
use Rattle.std.proofs.lemmas.List.{take_all}
use Rattle.std.proofs.lemmas.Result.{IfOk-weaker}
use Rattle.std.specs.List.{flat_map}
use denote.Ref.{Bor}
use Rattle.iot_tree.specs.Rows.{map_of}
use Rattle.iot_hoard.specs.Choosing.{Taken, IsChoice, take_paths}
use Rattle.iot_hoard.specs.Picking.{by_priority, wished}
use Rattle.iot_tree.specs.declared.profile.Wish.{Wish}
use Rattle.iot_hoard.proofs.BelowLaws.{wish_more, picked_rows}
use Rattle.iot_hoard.proofs.PickedLaws.{picked_rising}
use Rattle.iot_hoard.proofs.picking.pick.Goals as goal

abbrev wish_of : Bor Wish → Wish
wish_of wish = wish.now

pub wishes-preserved : goal.wishes-preserved
wishes-preserved c = record {
  marks = c.take_wish.ensures.marks;
  takes =
      let start : Taken = record { paths = []; left = c.args.limit } in
      let before : List Wish = map wish_of (take c.wishes.wish-index c.as_slice-wish-items.result.now) in
      subst (λ (taken : Taken). IsChoice c.as_slice-rows.result.now taken c.take_wish.new.self)
      (wish_more wish_of (map_of c.as_slice-rows.result.now) c.as_slice-wish-items.result.now c.wishes.wish-index c.wish-item.result start
      c.wishes-test.true c.wish-item.is)
      (c.take_wish.ensures.takes
      (take_paths (map_of c.as_slice-rows.result.now) (flat_map (wished (map_of c.as_slice-rows.result.now)) before) start)
      c.wishes.invariant.takes);
}

pub returns-clause-picks : goal.returns-clause-picks
returns-clause-picks c =
    let sorted : List Wish = map wish_of (take c.wishes.wish-index c.as_slice-wish-items.result.now) in
    let in_order : sorted ≡ by_priority c.args.p.now =
    ap (map wish_of)
    (take_all c.wishes.wish-index c.as_slice-wish-items.result.now c.wishes-test.false ∙ c.as_slice-wish-items.ensures.value)
    ∙ c.in_ok-wishes.ensures ∙ ap by_priority c.as_slice.ensures in
    IfOk-weaker c.paths.result _ _ (λ picked gives.
    picked_rows c.args.s.now c.as_slice-rows.result.now (c.as_slice-rows.ensures ∙ c.rows.ensures.rows) c.args.p.now sorted in_order
    c.args.limit c.wishes.choice picked c.wishes.invariant.takes gives) c.paths.ensures

pub returns-clause-rising : goal.returns-clause-rising
returns-clause-rising c =
    IfOk-weaker c.paths.result _ _ (λ picked pick. picked_rising c.args.s.now c.args.p.now c.args.limit picked pick)
    (returns-clause-picks c)
