use Rattle.std.proofs.Common.{Bool, List, Option, ◌++◌, ◌≡◌, false, not, refl, sym, ap, true, ◌∙◌}
use Rattle.std.specs.List.{zip}
use Rattle.iot_tree.specs.declared.acts.Read.{Read}
use Rattle.iot_access.specs.Asked.{first_asked, is_asked}
use Rattle.iot_access.specs.BaseReads.{Base, cons_base}
use Rattle.iot_access.proofs.AskedLaws.{asked_first}
use Rattle.iot_access.proofs.CollectLaws.{zip_more}
use Rattle.iot_access.proofs.collect.add_read.Goals as goal

was_not : (b first : Bool) → first ≡ not b → first ≡ true → b ≡ false
was_not true first is told = absurd cc
was_not false first is told = refl

pub returns-in_ok-push-2-clause-bases : goal.returns-in_ok-push-2-clause-bases
returns-in_ok-push-2-clause-bases c = λ done rest tells.
    let old = c.args.access.now in
    let base = c.in-Some.base in
    let asked = is_asked c.args.asked.now in
    let now = is_asked c.note.new.self in
    let new : asked base.question ≡ false =
    was_not (asked base.question) c.in_ok-note.field-0 c.in_ok-note.ensures.first c.if-branch.true in
    rw (c.in_ok-push-2.ensures.ok, c.in_ok-push.ensures.ok)
    (zip_more old.places old.reads c.args.place base (first_asked now rest) c.requires.even
    ∙ ap (λ (bases : List Base). zip old.places old.reads ++ bases)
    (asked_first asked now (c.args.place, base) rest c.in_ok-note.ensures.asked new)
    ∙ ap (λ (found : Option Read). zip old.places old.reads ++ first_asked asked (cons_base c.args.place found rest))
    (sym c.in-Some.is ∙ c.in_ok-base.ensures done tells))
