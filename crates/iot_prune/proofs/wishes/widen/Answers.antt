use Rattle.std.proofs.Common.{◌||◌, sym, subst, ap, ◌∙◌}
use Rattle.std.proofs.lemmas.Result.{IfOk-weaker}
use Rattle.iot_tree.specs.Snapshots.{ArePathsRising, has}
use Rattle.iot_prune.proofs.JoinLaws.{joined_rising, has_joined}
use Rattle.iot_prune.proofs.wishes.widen.Goals as goal

pub returns-clause-rising : goal.returns-clause-rising
returns-clause-rising c =
    IfOk-weaker c.joined.result _ _
    (λ paths is. subst ArePathsRising (sym is) (joined_rising c.args.k c.in_ok-wanted.wanted c.requires c.in_ok-wanted.ensures.rising))
    c.joined.ensures

pub returns-clause-paths : goal.returns-clause-paths
returns-clause-paths c =
    IfOk-weaker c.joined.result _ _ (λ paths is p.
    ap (λ list. has list p) is ∙ has_joined c.args.k c.in_ok-wanted.wanted p
    ∙ ap (λ b. has c.args.k p || b) (c.in_ok-wanted.ensures.paths p))
    c.joined.ensures
