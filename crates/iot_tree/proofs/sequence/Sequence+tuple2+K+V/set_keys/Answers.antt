use Rattle.std.proofs.Common.{◌≡◌, ◌∙◌, ◌+◌, length, subst, arith}
use Rattle.std.proofs.lemmas.List.{length-set}
use Rattle.iot_tree.proofs.KeyLaws.{IsStage, next_stage, last_stage}
use Rattle.iot_tree.proofs.sequence.Sequence+tuple2+K+V.set_keys.Goals as goal

pub keys-preserved : goal.keys-preserved
keys-preserved g c =
    let left : c.len.result ≡ length c.pop.new.self.items = omega (arith, c.len.ensures, c.pop.new.self.ok.0) in (
      rw left
          (next_stage c.self.inside.items.items c.keys.self-inside.items.items c.args.keys.items c.pop.new.self.items c.in-Some.key
          c.args.at
          (subst (λ left. IsStage c.self.inside.items.items c.keys.self-inside.items.items c.args.keys.items left c.args.at)
          c.in-Some.ensures.items c.keys.invariant.0)
          c.index_mut.result.now (rw left at c.index_mut.ensures.value)),
      omega (
        arith,
        length-set c.keys.self-inside.items.items (c.args.at + c.len.result) (c.in-Some.key, c.index_mut.result.now.1),
        c.in-Some.ensures.len,
        c.keys.invariant.1,
      ),
    )

pub returns : goal.returns
returns g c = λ f a b back whole from are.
    last_stage c.self.inside.items.items c.keys.self-inside.items.items c.args.keys.items c.keys.keys.items c.args.at c.keys.invariant.0
    (omega (arith, c.in_default.ensures.cases.0)) f a b back (c.self.view_is ∙ whole) from are
