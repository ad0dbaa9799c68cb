-- What an interpreter that stands in a script means.
use Rattle.std.specs.Prelude.{◌≡◌, ℕ, ◌+◌, List, [], ◌∷◌, ◌++◌, Option, Some, None}
use Rattle.iot_tree.specs.Tree.{Nodes}
use Rattle.iot_tree.specs.declared.acts.Act.{Act}
use Rattle.iot_lang.specs.Code.{Code}
use Rattle.iot_exec.specs.Plans.{Performed, perform, Effect, act_of}
use Rattle.iot_acts.specs.Traces.{after_update}
use Rattle.iot_exec.specs.Commands.{Kept, kept_files}
use Rattle.iot_exec.specs.Places.{Place, Over, At, plan_at, IsAfter}
use Rattle.iot_exec.specs.Misses.{first_away}
use Rattle.iot_exec.specs.Positions.{place_of}
use Rattle.iot_exec.specs.declared.exec.Exec.{Exec}
use Rattle.iot_exec.specs.declared.exec.Tried.{Tried}
use Rattle.iot_exec.specs.declared.exec.Tried.TheVariants.{Acted, Missed}

-- the place at which it stands
abbrev pub place : Exec → Place
place exec = place_of exec.script.value exec.position exec.env

-- the files that its `keep` reads
abbrev pub kept_by : Exec → Kept
kept_by exec = kept_files exec.kept

-- how many acts it has done
abbrev pub act_count : Exec → ℕ
act_count exec = exec.acts

-- this act is the next one from the place on the tree, and after it the script is at the new place with the new tree
pub record IsNext (performed : Performed (Effect Place)) (t : Nodes) (done : Act) (after : Place) (u : Nodes) : Type 0 where
  pub act : done ≡ act_of performed
  pub place : after ≡ performed.result.result
  pub tree : u ≡ after_update t performed.result.update

abbrev pub IsNextAt : Kept → Place → Nodes → Act → Place → Nodes → Type 0
IsNextAt kept Over t act after u = ⊥
IsNextAt kept (At code frames env) t act after u = IsNext (perform t (plan_at kept code frames env)) t act after u

-- it has done these n acts of the script from the tree t0 on, which is t now, and goes on from there
pub record IsRunning (script : Code) (kept : Kept) (t0 : Nodes) (n : ℕ) (acts : List Act) (exec : Exec) (t : Nodes) : Type 0 where
  pub kept_same : kept_by exec ≡ kept
  pub counted : act_count exec ≡ n
  pub after : IsAfter script kept t0 n acts (place exec) t

-- whatever script it has done so far, it has done this act besides
abbrev pub RunsOn : Exec → Nodes → Act → Exec → Nodes → Type 0
RunsOn before t act after u =
    (script : Code) (kept : Kept) (t0 : Nodes) (n : ℕ) (acts : List Act) → IsRunning script kept t0 n acts before t
    → IsRunning script kept t0 (n + 1) (acts ++ act ∷ []) after u

-- the path of the next act's first question that is answered `Away`
abbrev pub next_miss : Kept → Place → Nodes → Option (List (List ℕ))
next_miss kept Over t = None
next_miss kept (At code frames env) t = first_away (perform t (plan_at kept code frames env)).reads

-- ---- the next act, unless it misses something

-- the path that it missed, if it did
abbrev pub missed_in : Tried → Option (List (List ℕ))
missed_in (Acted act) = None
missed_in (Missed path) = Some path

-- what is so of the act, if it was done
abbrev pub IfActed : Tried → (Act → Type 0) → Type 0
IfActed (Acted act) Is = Is act
IfActed (Missed path) Is = Unit {0}

-- what is so if it was not done
abbrev pub IfMissed : Tried → (List (List ℕ) → Type 0) → Type 0
IfMissed (Acted act) Is = Unit {0}
IfMissed (Missed path) Is = Is path
