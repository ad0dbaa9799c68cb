use Rattle.std.proofs.Common.{sym, ◌∙◌}
use Rattle.iot_prune.proofs.AwayLaws.{content_known, names_known, kind_or_mode}
use Rattle.iot_prune.proofs.absence.away.Goals as goal

pub returns-in-Kind : goal.returns-in-Kind
returns-in-Kind c = c.is_below_far-in-Kind.ensures ∙ kind_or_mode c.args.t.now c.in-Kind.path c.args.q.now c.in-Kind.is

pub returns-in_default : goal.returns-in_default
returns-in_default c =
    let here = rw (c.in-Some.is, c.names.ensures.value) at c.node.ensures in
    rw c.in-Content.is
    (content_known c.args.t.now c.rows-rows.ensures.tree c.in-Content.path c.in-Some.node.now (sym here) c.in_default.not-FarFile)

pub returns-in_default-matches : goal.returns-in_default-matches
returns-in_default-matches c =
    let here = rw (c.in-Some-node.is, c.names-in-Names.ensures.value) at c.node-in-Names.ensures in
    rw c.in-Names.is
    (names_known c.args.t.now c.rows-rows.ensures.tree c.in-Names.path c.in-Some-node.node.now (sym here) _
    c.in_default-matches.not-FarDir)
