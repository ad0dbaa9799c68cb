-- The turns that are drawn from a number.
use Rattle.std.specs.Prelude.{ℕ, zero, suc, ◌+◌, ◌*◌, ◌/◌, ◌%◌, ◌^◌, ◌==◌, nat_le, List, [], ◌∷◌, ◌++◌, codes, decimal, if◌then◌else◌}
use Rattle.iot_gen.specs.declared.turns.Turn.{Turn}
use Rattle.iot_gen.specs.declared.turns.Turn.TheVariants.{Disconnect, Connect, Drain, Look, Add}

-- what x becomes when a number is drawn
unfoldable pub next : ℕ → ℕ
next x = (x * 6364136223846793005 + 1442695040888963407) % 2 ^ 64

-- the number that is drawn, which is less than m
unfoldable pub drawn : (x : ℕ) (m : ℕ) → ℕ
drawn x m = x / 2 ^ 33 % m

-- a turn by its choice, from 0 to 9, its client, from 1 on, and its file
abbrev pub turn_of : (r c i : ℕ) → Turn
turn_of r c i =
    if r == 0 then Disconnect c
    else if r == 1 then Connect c
    else if r == 2 then Drain c
    else if r == 3 then Look c
    else Add c i

-- the turn that is drawn from x: its choice, then its client, then its file
unfoldable pub turn_from : ℕ → Turn
turn_from x = turn_of (drawn (next x) 10) (drawn (next (next x)) 4 + 1) (drawn (next (next (next x))) 8)

-- x after it; only a turn with a choice from 4 on draws its file
unfoldable pub after_turn : ℕ → ℕ
after_turn x = if nat_le 4 (drawn (next x) 10) then next (next (next x)) else next (next x)

-- so many turns, from x on
unfoldable pub turns : (count : ℕ) (x : ℕ) → List Turn
turns zero x = []
turns (suc count) x = turn_from x ∷ turns count (after_turn x)

-- the line of a turn
abbrev pub turn_line : Turn → List ℕ
turn_line (Disconnect c) = codes "disconnect c" ++ decimal c
turn_line (Connect c) = codes "connect c" ++ decimal c
turn_line (Drain c) = codes "drain c" ++ decimal c
turn_line (Look c) = codes "run c" ++ decimal c ++ codes " look reexec"
turn_line (Add c i) = codes "run c" ++ decimal c ++ codes " add" ++ decimal i ++ codes " reexec"
