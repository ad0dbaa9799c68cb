use Rattle.std.proofs.Common.{◌≡◌, ℕ, ◌+◌, ◌-◌, Bool, false, List, ◌++◌, length, replicate, ◌∙◌, ap, arith}
use Rattle.std.proofs.lemmas.List.{length-replicate, replicate-append-replicate}
use Rattle.iot_disk.proofs.memory.sync_all.Goals as goal

pub returns-clause-marks : goal.returns-clause-marks
returns-clause-marks c =
    let known = length c.args.unsynced.now.known in
    let count = length c.args.written.now in
    let more = λ (l : List Bool). l ++ replicate (count - length l) false in
    let rest : count - length (replicate known false) ≡ count - known = omega (arith, length-replicate known false) in
    let all : known + (count - known) ≡ count = omega (arith, c.requires.known, c.requires.grown) in
    c.lengthen.ensures.known
    ∙ ap more c.sync.ensures.marks
    ∙ ap (λ (n : ℕ). replicate known false ++ replicate n false) rest
    ∙ replicate-append-replicate known (count - known) false
    ∙ ap (λ (n : ℕ). replicate n false) all
