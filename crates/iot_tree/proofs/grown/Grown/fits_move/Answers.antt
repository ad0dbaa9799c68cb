use Rattle.std.proofs.Common.{◌∙◌, IsTrue, Bool, true, false, not, ◌≡◌, sym, refl}
use Rattle.iot_tree.proofs.UpdateLaws.{no_move_up, no_move_down, moves}
use Rattle.iot_tree.proofs.grown.Grown.fits_move.Goals as goal

is_false : (b : Bool) → IsTrue (not b) → b ≡ false
is_false true is = absurd cc
is_false false is = refl

is_not : (b : Bool) → b ≡ false → IsTrue (not b)
is_not true is = absurd cc
is_not false is = refl

pub returns-then-starts_with : goal.returns-then-starts_with
returns-then-starts_with c =
    let test = rw (c.names.ensures.value, c.names-2.ensures.value) at c.starts_with.ensures.value in
    (λ is. absurd cc, λ fits. absurd (no_move_up c.args.self.now c.args.from.now c.args.to.now (sym test ∙ c.if-starts_with.true) fits))

pub returns-then-starts_with-2 : goal.returns-then-starts_with-2
returns-then-starts_with-2 c =
    let test = rw (c.names-3.ensures.value, c.names-4.ensures.value) at c.starts_with-2.ensures.value in
    (λ is. absurd cc, λ fits. absurd (no_move_down c.args.self.now c.args.from.now c.args.to.now (sym test ∙ c.if-starts_with-2.true) fits))

pub returns : goal.returns
returns c =
    let up = rw (c.names.ensures.value, c.names-2.ensures.value) at c.starts_with.ensures.value in
    let down = rw (c.names-3.ensures.value, c.names-4.ensures.value) at c.starts_with-2.ensures.value in (
      λ is. moves c.args.self.now c.args.from.now c.args.to.now (sym up ∙ c.if-starts_with.false) (sym down ∙ c.if-starts_with-2.false)
          (c.has_row.ensures.0 c.if-not-has_row.false) (c.is_in_known_dir.ensures.0 c.if-not-is_in_known_dir.false)
          (c.has_below.ensures.0 (is_false c.has_below.result is)),
      λ fits. is_not c.has_below.result (c.has_below.ensures.1 fits.leaf),
    )
