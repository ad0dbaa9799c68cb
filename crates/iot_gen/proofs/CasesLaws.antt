-- Clients and files one by one.
use Rattle.std.proofs.Common.{ℕ, zero, suc, ◌+◌, ◌<◌, ◌==◌, Bool, true, false, arith, if◌then◌else◌}
use Rattle.iot_gen.specs.declared.turns.Turn.{Turn}
use Rattle.iot_gen.specs.declared.turns.Turn.TheVariants.{Disconnect, Connect, Drain, Look, Add}
use Rattle.iot_gen.specs.Turns.{turn_of}

pub each_client : (P : ℕ → Type 0) → P 1 → P 2 → P 3 → P 4 → (n : ℕ) → n < 4 → P (n + 1)
each_client P one two three four zero low = one
each_client P one two three four (suc zero) low = two
each_client P one two three four (suc (suc zero)) low = three
each_client P one two three four (suc (suc (suc zero))) low = four
each_client P one two three four (suc (suc (suc (suc n)))) low = absurd (omega arith)

pub each_file : (P : ℕ → Type 0) → P 0 → P 1 → P 2 → P 3 → P 4 → P 5 → P 6 → P 7 → (n : ℕ) → n < 8 → P n
each_file P a b c d e f g h zero low = a
each_file P a b c d e f g h (suc zero) low = b
each_file P a b c d e f g h (suc (suc zero)) low = c
each_file P a b c d e f g h (suc (suc (suc zero))) low = d
each_file P a b c d e f g h (suc (suc (suc (suc zero)))) low = e
each_file P a b c d e f g h (suc (suc (suc (suc (suc zero))))) low = f
each_file P a b c d e f g h (suc (suc (suc (suc (suc (suc zero)))))) low = g
each_file P a b c d e f g h (suc (suc (suc (suc (suc (suc (suc zero))))))) low = h
each_file P a b c d e f g h (suc (suc (suc (suc (suc (suc (suc (suc n)))))))) low = absurd (omega arith)

-- a turn is of one of five kinds
pub each_turn : (P : Turn → Type 0) (r c i : ℕ) → P (Disconnect c) → P (Connect c) → P (Drain c) → P (Look c) → P (Add c i)
    → P (turn_of r c i)
each_turn P r c i disconnect connect drain look add = by_choice (r == 0) (r == 1) (r == 2) (r == 3)
  where
    by_choice : (first second third fourth : Bool)
        → P (if first then Disconnect c else if second then Connect c else if third then Drain c else if fourth then Look c else Add c i)
    by_choice true second third fourth = disconnect
    by_choice false true third fourth = connect
    by_choice false false true fourth = drain
    by_choice false false false true = look
    by_choice false false false false = add
