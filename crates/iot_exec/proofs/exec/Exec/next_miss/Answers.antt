use Rattle.std.proofs.Common.{◌≡◌, ℕ, List, Option, Result, Ok, Err, IfOk, ap, ◌∙◌}
use Rattle.iot_exec.specs.Misses.{first_away}
use Rattle.iot_exec.specs.Commands.{kept_files}
use Rattle.iot_exec.proofs.ExecLaws.{first_miss}
use Rattle.iot_exec.proofs.exec.Exec.next_miss.Goals as goal

found : {E : Type 0} (r : Result (Option (List (List ℕ))) E) (a b : Option (List (List ℕ))) → a ≡ b → IfOk r (λ path. path ≡ a)
    → IfOk r (λ path. path ≡ b)
found (Ok path) a b same is = is ∙ same
found (Err error) a b same is = is

pub returns-in_ok-done-in-Some : goal.returns-in_ok-done-in-Some
returns-in_ok-done-in-Some c =
    found c.first_away.result _ _
    (ap first_away c.as_slice.ensures
    ∙ first_miss c.block.result.now c.args.self.now.script.value (c.block.ensures.value ∙ c.deref.ensures) c.args.self.now.position
    c.args.self.now.env
    (kept_files c.args.self.now.kept) c.args.t.now c.in-Some.statement.now c.in-Some.ensures c.in_ok-done-in-Some.done
    c.in_ok-done-in-Some.ensures.done)
    c.first_away.ensures
