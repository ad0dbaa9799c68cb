-- The laws of transactions that wait, and of those that run: what is decoded is what is spelled. Their proofs.
use Rattle.std.proofs.Common.{◌≡◌, ℕ, ◌<◌, ◌≤◌, ◌^◌, List, [], ◌∷◌, ◌++◌, length, None, Ok, refl, ◌∙◌, append_assoc, arith}
use Rattle.iot_text.specs.Names.{IsName}
use Rattle.iot_tree.specs.Tree.{Nodes}
use Rattle.iot_tree.specs.declared.access.Access.{Access}
use Rattle.iot_tree.specs.declared.acts.Act.{Act}
use Rattle.iot_tree.specs.declared.labels.OnConflict.{OnConflict}
use Rattle.iot_access.specs.Access.{no_access}
use Rattle.iot_codec.specs.Places.{LiesAt, IsSpelling}
use Rattle.iot_views.specs.Decoders.{Decoder, done, number_at, at_most}
use Rattle.iot_views.specs.Decoding.{access_at, name_at, option_at, budget_at, acts_at, tree_at}
use Rattle.iot_views.specs.Rules.{IsAccess, IsNumber, IsOption, IsBudget, AreActs, IsTreeOfRows}
use Rattle.iot_codec.specs.Spelling.{number_spelling, name_spelling, option_spelling, access_spelling, acts_spelling, list_spelling, tree_spelling}
use Rattle.iot_codec.specs.Laws.Bases.{access_laws}
use Rattle.iot_codec.specs.Laws.Fields.{last_field, next_field, all_fields}
use Rattle.iot_codec.specs.Laws.Lists.{Follow, all_from_follow, counted_list_laws, follow_from_all}
use Rattle.iot_codec.specs.Laws.Options.{option_laws, budget_laws}
use Rattle.iot_codec.specs.Laws.Parts.{at_most_laws, number_laws, same_rule, same_spelling}
use Rattle.iot_codec.specs.Laws.Tags.{AreArms, empty_arm, double_arm, tagged_found, tagged_again, empty_again, double_again}
use Rattle.iot_codec.specs.Laws.Trees.{tree_laws}
use Rattle.iot_codec.specs.Laws.Updates.{acts_laws}
use Rattle.iot_codec.specs.Laws.Values.{name_laws}
use Rattle.iot_queue.specs.declared.items.Resolution.{Resolution}
use Rattle.iot_queue.specs.declared.items.Stage.{Stage}
use Rattle.iot_queue.specs.declared.items.Stage.TheVariants.{Waiting as Waits, Conflict, Manual, Resolved}
use Rattle.iot_changes.specs.Decoding.{resolution_at}
use Rattle.iot_changes.specs.Rules.{IsResolution}
use Rattle.iot_changes.specs.Spelling.{resolution_spelling}
use Rattle.iot_changes.proofs.ResolutionsLaws.{resolution_laws}
use Rattle.iot_bodies.specs.Decoding.{resolved_at, stage_at, waiting_at, running_at, runs_at}
use Rattle.iot_bodies.specs.Rules.{IsStage, IsWaiting, IsRunning, AreRunning}
use Rattle.iot_bodies.specs.Spelling.{stage_spelling, waiting_spelling, running_spelling}
use Rattle.iot_bodies.specs.declared.client.Running.{Running}
use Rattle.iot_bodies.specs.declared.client.Waiting.{Waiting}
use Rattle.iot_bodies.specs.declared.running.TheConstants.{RUN_LIMIT}

-- ---- a stage, with the access beside it

abbrev IsStaged : Stage × Access → Type 0
IsStaged staged = IsStage staged.0 staged.1

abbrev staged_spelling : Stage × Access → List ℕ
staged_spelling staged = stage_spelling staged.0 staged.1

abbrev resolved_as : Resolution → Access → Stage × Access
resolved_as run access = (Resolved run, access)

abbrev stage_table : List (ℕ × Decoder (Stage × Access))
stage_table = (1, done (Waits, no_access)) ∷ (2, done (Conflict, no_access)) ∷ (3, done (Manual, no_access)) ∷ (4, resolved_at) ∷ []

stage_arms : AreArms IsStaged staged_spelling stage_table
unfolding resolved_at stage_spelling
stage_arms = (
  empty_arm IsStaged staged_spelling 1 (Waits, no_access) refl refl,
  (
    empty_arm IsStaged staged_spelling 2 (Conflict, no_access) refl refl,
    (
      empty_arm IsStaged staged_spelling 3 (Manual, no_access) refl refl,
      (
        double_arm IsStaged staged_spelling 4 IsResolution resolution_spelling resolution_at resolution_laws IsAccess access_spelling
            access_at access_laws resolved_as (λ run access r a. (r, a)) (λ run access. refl),
        tt,
      ),
    ),
  ),
)

stage_again : (stage : Stage) (access : Access) (bytes : List ℕ) (at end : ℕ) → length bytes < 2 ^ 64 → IsStage stage access
    → LiesAt bytes at (stage_spelling stage access) end → stage_at bytes at ≡ Ok ((stage, access), end)
unfolding stage_at resolved_at stage_spelling
stage_again Waits access bytes at end short has p =
    rw has (tagged_again stage_table bytes at end 1 [] p ∙ empty_again (Waits, no_access) bytes at end 1 p)
stage_again Conflict access bytes at end short has p =
    rw has (tagged_again stage_table bytes at end 2 [] p ∙ empty_again (Conflict, no_access) bytes at end 2 p)
stage_again Manual access bytes at end short has p =
    rw has (tagged_again stage_table bytes at end 3 [] p ∙ empty_again (Manual, no_access) bytes at end 3 p)
stage_again (Resolved run) access bytes at end short has p =
    tagged_again stage_table bytes at end 4 (resolution_spelling run ++ access_spelling access) p
    ∙ double_again IsResolution resolution_spelling resolution_at resolution_laws IsAccess access_spelling access_at access_laws resolved_as
    run access bytes at end 4 short has.0 has.1 p

stage_some : (stage : Stage) (access : Access) → 0 < length (stage_spelling stage access)
unfolding stage_spelling
stage_some Waits access = omega arith
stage_some Conflict access = omega arith
stage_some Manual access = omega arith
stage_some (Resolved run) access = omega arith

stage_laws : IsSpelling IsStaged staged_spelling stage_at
unfolding stage_at
stage_laws = record {
  found = λ bytes at read fit e. tagged_found IsStaged staged_spelling stage_table bytes at read stage_arms fit e;
  only = λ bytes at read short p. stage_again read.0.0 read.0.1 bytes at read.1 short p.value p.place;
  some = λ staged. stage_some staged.0 staged.1;
}

-- ---- a transaction that waits

-- its fields before the stage
abbrev Five : Type 0
Five = ((((Unit {0} × ℕ) × List ℕ) × ℕ) × List Act) × OnConflict

made : Five → Stage × Access → Waiting
made f staged = record {
  item = record { tid = f.0.0.0.0.1; script = f.0.0.0.1; budget = f.0.0.1; acts = f.0.1; option = f.1; stage = staged.0 };
  access = staged.1;
}

-- the spellings of its fields, one after the other
in_turn : Waiting → List ℕ
in_turn w =
    number_spelling w.item.tid
    ++ (name_spelling w.item.script
    ++ (number_spelling w.item.budget
    ++ (acts_spelling w.item.acts ++ (option_spelling w.item.option ++ stage_spelling w.item.stage w.access))))

waiting_in_turn : (w : Waiting) → in_turn w ≡ waiting_spelling w
unfolding in_turn waiting_spelling
waiting_in_turn w = simp append_assoc

pub waiting_laws : IsSpelling IsWaiting waiting_spelling waiting_at
unfolding waiting_at in_turn made
waiting_laws =
    let stage =
    last_field {F = Five} {Z = Waiting}
    (λ w. (((((tt, w.item.tid), w.item.script), w.item.budget), w.item.acts), w.item.option)) (λ w. (w.item.stage, w.access))
    IsStaged staged_spelling stage_at stage_laws made (record { whole = λ w. refl; front_is = λ f y. refl; last_is = λ f y. refl }) in
    let option =
    next_field {F = (((Unit {0} × ℕ) × List ℕ) × ℕ) × List Act} {Z = Waiting}
    (λ w. ((((tt, w.item.tid), w.item.script), w.item.budget), w.item.acts)) (λ w. w.item.option)
    IsOption option_spelling option_at option_laws _ _ _ stage in
    let acts =
    next_field {F = ((Unit {0} × ℕ) × List ℕ) × ℕ} {Z = Waiting} (λ w. (((tt, w.item.tid), w.item.script), w.item.budget))
    (λ w. w.item.acts) AreActs acts_spelling acts_at acts_laws _ _ _ option in
    let budget =
    next_field {F = (Unit {0} × ℕ) × List ℕ} {Z = Waiting} (λ w. ((tt, w.item.tid), w.item.script)) (λ w. w.item.budget)
    IsBudget number_spelling budget_at budget_laws _ _ _ acts in
    let script =
    next_field {F = Unit {0} × ℕ} {Z = Waiting} (λ w. (tt, w.item.tid)) (λ w. w.item.script) IsName name_spelling name_at
    name_laws _ _ _ budget in
    let number =
    next_field {F = Unit {0}} {Z = Waiting} (λ w. tt) (λ w. w.item.tid) IsNumber number_spelling number_at number_laws _ _ _ script in
    same_spelling IsWaiting in_turn waiting_spelling waiting_at waiting_in_turn
    (same_rule _ IsWaiting in_turn waiting_at
    (λ w has. record {
      number = has.0;
      script = has.1.0;
      budget = has.1.1.0;
      acts = has.1.1.1.0;
      option = has.1.1.1.1.0;
      stage = has.1.1.1.1.1;
    })
    (λ w has. (has.number, (has.script, (has.budget, (has.acts, (has.option, has.stage))))))
    (all_fields _ _ _ number))

-- ---- a transaction that runs

-- its fields before the acts
abbrev Four : Type 0
Four = (((Unit {0} × ℕ) × List ℕ) × OnConflict) × Nodes

run_of : Four → List Act → Running
run_of f acts = record { tid = f.0.0.0.1; script = f.0.0.1; option = f.0.1; base = f.1; acts = acts }

-- the spellings of its fields, one after the other
run_in_turn : Running → List ℕ
run_in_turn r =
    number_spelling r.tid
    ++ (name_spelling r.script ++ (option_spelling r.option ++ (tree_spelling r.base ++ acts_spelling r.acts)))

running_in_turn : (r : Running) → run_in_turn r ≡ running_spelling r
unfolding run_in_turn running_spelling
running_in_turn r = simp append_assoc

pub running_laws : IsSpelling IsRunning running_spelling running_at
unfolding running_at run_in_turn run_of
running_laws =
    let acts =
    last_field {F = Four} {Z = Running} (λ r. ((((tt, r.tid), r.script), r.option), r.base)) (λ r. r.acts) AreActs acts_spelling acts_at
    acts_laws run_of (record { whole = λ r. refl; front_is = λ f y. refl; last_is = λ f y. refl }) in
    let base =
    next_field {F = ((Unit {0} × ℕ) × List ℕ) × OnConflict} {Z = Running} (λ r. (((tt, r.tid), r.script), r.option)) (λ r. r.base)
    IsTreeOfRows tree_spelling tree_at tree_laws _ _ _ acts in
    let option =
    next_field {F = (Unit {0} × ℕ) × List ℕ} {Z = Running} (λ r. ((tt, r.tid), r.script)) (λ r. r.option) IsOption option_spelling
    option_at option_laws _ _ _ base in
    let script =
    next_field {F = Unit {0} × ℕ} {Z = Running} (λ r. (tt, r.tid)) (λ r. r.script) IsName name_spelling name_at name_laws _ _ _ option in
    let number =
    next_field {F = Unit {0}} {Z = Running} (λ r. tt) (λ r. r.tid) IsNumber number_spelling number_at number_laws _ _ _ script in
    same_spelling IsRunning run_in_turn running_spelling running_at running_in_turn
    (same_rule _ IsRunning run_in_turn running_at
    (λ r has. record { number = has.0; script = has.1.0; option = has.1.1.0; base = has.1.1.1.0; acts = has.1.1.1.1 })
    (λ r has. (has.number, (has.script, (has.option, (has.base, has.acts)))))
    (all_fields _ _ _ number))

pub runs_laws : IsSpelling AreRunning (list_spelling running_spelling) runs_at
unfolding runs_at
runs_laws =
    let Counted : List Running → Type 0 = λ running. (length running ≤ RUN_LIMIT) × Follow (λ _. IsRunning) running None in
    same_rule Counted AreRunning (list_spelling running_spelling) runs_at
    (λ running has. record { few = has.0; each = all_from_follow IsRunning running None has.1 })
    (λ running has. (has.few, follow_from_all IsRunning running None has.each))
    (counted_list_laws (λ _. IsRunning) running_spelling (λ _. running_at) (λ _. running_laws) (λ n. n ≤ RUN_LIMIT) (at_most RUN_LIMIT)
    (at_most_laws RUN_LIMIT (omega arith)))
