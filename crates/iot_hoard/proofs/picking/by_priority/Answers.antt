use Rattle.std.proofs.Common.{◌∙◌, ap, arith, rules}
use Rattle.std.proofs.lemmas.List.{take_all}
use Rattle.std.proofs.lemmas.List.Sorted.{answers_always}
use denote.Ref.{Bor}
use Rattle.iot_hoard.specs.Picking.{by_priority}
use Rattle.iot_tree.specs.declared.profile.Wish.{Wish}
use Rattle.iot_hoard.proofs.OrderLaws.{higher, is_order, wishes_sorted}
use Rattle.iot_hoard.proofs.picking.by_priority.Goals as goal

pub returns : goal.returns
returns c =
    wishes_sorted (λ (wish : Bor Wish). wish.now) c.wishes.sorted.items c.sort_by.new.self.items
    (c.in_ok-sort_by.ensures.sorted (higher (λ (wish : Bor Wish). wish.now.priority)) (is_order (λ (wish : Bor Wish). wish.now.priority))
    (answers_always _ _ _ (λ f a r g h. search rules)))
    (c.in_ok-sort_by.ensures.stable (higher (λ (wish : Bor Wish). wish.now.priority)) (is_order (λ (wish : Bor Wish). wish.now.priority))
    (answers_always _ _ _ (λ f a r g h. search rules)))
    ∙ ap by_priority (c.wishes.invariant ∙ take_all c.wishes.wish-index c.args.wishes.now (omega arith))
