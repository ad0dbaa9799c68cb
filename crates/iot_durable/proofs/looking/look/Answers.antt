use Rattle.std.proofs.Common.{ℕ, List, sym, ◌∙◌, subst}
use Rattle.iot_durable.specs.Damage.{IsDamagedAt}
use Rattle.iot_durable.specs.Standing.{StandFor}
use Rattle.iot_durable.proofs.looking.look.Goals as goal

pub returns-in-Ok-read_image-clause-only : goal.returns-in-Ok-read_image-clause-only
returns-in-Ok-read_image-clause-only g c state stands =
    let read = sym (c.bytes.ensures ∙ c.in-Ok.ensures.reads) in
    c.in-Ok-read_image.ensures.only state (subst (λ (l : List ℕ). StandFor g.R.Recorded.rules l state) read stands)

pub returns-in-Err-read_image-clause-never : goal.returns-in-Err-read_image-clause-never
returns-in-Err-read_image-clause-never g c state stands =
    let read = sym (c.bytes.ensures ∙ c.in-Ok.ensures.reads) in
    c.in-Err-read_image.ensures.never state (subst (λ (l : List ℕ). StandFor g.R.Recorded.rules l state) read stands)

pub returns-in-Ok-read_image-clause-damaged : goal.returns-in-Ok-read_image-clause-damaged
returns-in-Ok-read_image-clause-damaged g c at damage =
    let read = sym (c.bytes.ensures ∙ c.in-Ok.ensures.reads) in
    c.in-Ok-read_image.ensures.damaged at (subst (λ (l : List ℕ). IsDamagedAt g.R.Recorded.rules l at) read damage)

pub returns-in-Err-read_image-clause-damaged : goal.returns-in-Err-read_image-clause-damaged
returns-in-Err-read_image-clause-damaged g c at damage =
    let read = sym (c.bytes.ensures ∙ c.in-Ok.ensures.reads) in
    c.in-Err-read_image.ensures.damaged at (subst (λ (l : List ℕ). IsDamagedAt g.R.Recorded.rules l at) read damage)
