use Rattle.std.proofs.Common.{◌≡◌, ◌≢◌, ℕ, ◌+◌, nat_le, true, false, refl, sym, ap, ◌∙◌, arith}
use Rattle.std.proofs.lemmas.Bool.Decides.{nat_tests}
use Rattle.iot_gen.specs.declared.turns.Turn.{Turn}
use Rattle.iot_gen.specs.declared.turns.Turn.TheVariants.{Add}
use Rattle.iot_gen.specs.Turns.{next, drawn, turn_of, turn_from, after_turn}
use Rattle.iot_gen.proofs.turns.draw_turn.Goals as goal

-- a turn by its three draws
by_draws : (x y r c : ℕ) (turn : Turn) → y ≡ next x → r ≡ drawn (next x) 10 → c ≡ drawn (next y) 4
    → turn ≡ turn_of r (c + 1) (drawn (next (next y)) 8) → turn ≡ turn_from x
unfolding turn_from
by_draws x y r c turn after first second is = rw is (rw (second, after, first) refl)

by_file : (x y z r c i : ℕ) → y ≡ next x → r ≡ drawn (next x) 10 → c ≡ drawn (next y) 4 → z ≡ next y → i ≡ drawn (next z) 8
    → turn_of r (c + 1) i ≡ turn_from x
unfolding turn_from
by_file x y z r c i after first second then_ third = rw (third, then_, second, after, first) refl

-- a turn without a file
two_draws : (x y z r : ℕ) → y ≡ next x → z ≡ next y → r ≡ drawn (next x) 10 → nat_le 4 r ≡ false → z ≡ after_turn x
unfolding after_turn
two_draws x y z r one two is few =
    let few' : nat_le 4 (drawn (next x) 10) ≡ false = ap (nat_le 4) (sym is) ∙ few in rw few' (two ∙ ap next one)

-- a turn with one
three_draws : (x y z w r : ℕ) → y ≡ next x → z ≡ next y → w ≡ next z → r ≡ drawn (next x) 10 → nat_le 4 r ≡ true → w ≡ after_turn x
unfolding after_turn
three_draws x y z w r one two three is many =
    let many' : nat_le 4 (drawn (next x) 10) ≡ true = ap (nat_le 4) (sym is) ∙ many in
    rw many' (three ∙ ap next two ∙ ap (λ (n : ℕ). next (next n)) one)

large : (r : ℕ) → r ≢ 0 → r ≢ 1 → r ≢ 2 → r ≢ 3 → nat_le 4 r ≡ true
large r no0 no1 no2 no3 = grind (arith, nat_tests)

adds : (r c i : ℕ) → r ≢ 0 → r ≢ 1 → r ≢ 2 → r ≢ 3 → Add c i ≡ turn_of r c i
adds r c i no0 no1 no2 no3 = grind (arith, nat_tests)

pub returns-then-choice-eq0-clause-turn : goal.returns-then-choice-eq0-clause-turn
returns-then-choice-eq0-clause-turn c =
    by_draws c.args.draws.now _ _ _ _ c.draw-choice.ensures.after c.draw-choice.ensures.value c.draw-client.ensures.value
    (rw c.if-choice-eq0.true refl)

pub returns-then-choice-eq1-clause-turn : goal.returns-then-choice-eq1-clause-turn
returns-then-choice-eq1-clause-turn c =
    by_draws c.args.draws.now _ _ _ _ c.draw-choice.ensures.after c.draw-choice.ensures.value c.draw-client.ensures.value
    (rw c.if-choice-eq1.true refl)

pub returns-then-choice-eq2-clause-turn : goal.returns-then-choice-eq2-clause-turn
returns-then-choice-eq2-clause-turn c =
    by_draws c.args.draws.now _ _ _ _ c.draw-choice.ensures.after c.draw-choice.ensures.value c.draw-client.ensures.value
    (rw c.if-choice-eq2.true refl)

pub returns-then-choice-eq3-clause-turn : goal.returns-then-choice-eq3-clause-turn
returns-then-choice-eq3-clause-turn c =
    by_draws c.args.draws.now _ _ _ _ c.draw-choice.ensures.after c.draw-choice.ensures.value c.draw-client.ensures.value
    (rw c.if-choice-eq3.true refl)

pub returns-else-choice-eq3-clause-turn : goal.returns-else-choice-eq3-clause-turn
returns-else-choice-eq3-clause-turn c =
    adds c.draw-choice.result _ _ c.if-choice-eq0.false c.if-choice-eq1.false c.if-choice-eq2.false c.if-choice-eq3.false
    ∙ by_file c.args.draws.now _ _ _ _ _ c.draw-choice.ensures.after c.draw-choice.ensures.value c.draw-client.ensures.value
    c.draw-client.ensures.after c.draw.ensures.value

pub returns-then-choice-eq0-clause-after : goal.returns-then-choice-eq0-clause-after
returns-then-choice-eq0-clause-after c =
    two_draws c.args.draws.now _ _ _ c.draw-choice.ensures.after c.draw-client.ensures.after c.draw-choice.ensures.value
    (ap (nat_le 4) c.if-choice-eq0.true)

pub returns-then-choice-eq1-clause-after : goal.returns-then-choice-eq1-clause-after
returns-then-choice-eq1-clause-after c =
    two_draws c.args.draws.now _ _ _ c.draw-choice.ensures.after c.draw-client.ensures.after c.draw-choice.ensures.value
    (ap (nat_le 4) c.if-choice-eq1.true)

pub returns-then-choice-eq2-clause-after : goal.returns-then-choice-eq2-clause-after
returns-then-choice-eq2-clause-after c =
    two_draws c.args.draws.now _ _ _ c.draw-choice.ensures.after c.draw-client.ensures.after c.draw-choice.ensures.value
    (ap (nat_le 4) c.if-choice-eq2.true)

pub returns-then-choice-eq3-clause-after : goal.returns-then-choice-eq3-clause-after
returns-then-choice-eq3-clause-after c =
    two_draws c.args.draws.now _ _ _ c.draw-choice.ensures.after c.draw-client.ensures.after c.draw-choice.ensures.value
    (ap (nat_le 4) c.if-choice-eq3.true)

pub returns-else-choice-eq3-clause-after : goal.returns-else-choice-eq3-clause-after
returns-else-choice-eq3-clause-after c =
    three_draws c.args.draws.now _ _ _ _ c.draw-choice.ensures.after c.draw-client.ensures.after c.draw.ensures.after
    c.draw-choice.ensures.value
    (large c.draw-choice.result c.if-choice-eq0.false c.if-choice-eq1.false c.if-choice-eq2.false c.if-choice-eq3.false)
