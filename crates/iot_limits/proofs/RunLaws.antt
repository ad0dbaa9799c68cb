-- The acts of a run of a script have spellings.
use Rattle.std.proofs.Common.{ℕ, zero, suc, Bool, ◌&&◌, IsTrue, List, [], ◌∷◌, ◌++◌, sym, ◌∙◌, if◌then◌else◌}
use Rattle.std.proofs.lemmas.Bool.{cond_both}
use Rattle.std.proofs.lemmas.List.Folds.{list_all-append}
use Rattle.std.specs.List.{list_all, AllByRecursion}
use Rattle.std.specs.Cmp.{first_so, second_so}
use Rattle.iot_text.specs.Names.{IsName}
use Rattle.iot_tree.specs.Tree.{Nodes}
use Rattle.iot_tree.specs.declared.acts.Act.{Act}
use Rattle.iot_lang.specs.Words.{is_word, is_variable}
use Rattle.iot_lang.specs.Lines.{is_line, is_command, is_condition}
use Rattle.iot_lang.specs.Code.{Code, End, Plain, Halt, If, IfElse, For, script_lines}
use Rattle.iot_exec.specs.Plans.{Plan, Performed, perform, Effect, act_of}
use Rattle.iot_acts.specs.Traces.{after_update}
use Rattle.iot_exec.specs.Values.{with_variable}
use Rattle.iot_exec.specs.Commands.{Kept, plan_of_command, plan_of_condition, plan_of_loop}
use Rattle.iot_exec.specs.Runs.{Outcome, Done, Cut, Stopped, with_acts, after, act_then, each_turn, run_code, ran_of}
use Rattle.iot_exec.specs.declared.env.Env.{Env}
use Rattle.iot_views.specs.Rules.{IsAct}
use Rattle.iot_limits.specs.Spelled.{IsSpelledTree, AreSpelledFiles, SpelledRun}
use Rattle.iot_limits.proofs.ByteLaws.{printed, name_is_line}
use Rattle.iot_limits.proofs.PlanLaws.{IsSpelledEnv, IsSpelledEffect, IsSpelledPlan, SpelledPerformed, performed_plan, performed_act}
use Rattle.iot_limits.proofs.WordLaws.{env_with}
use Rattle.iot_limits.proofs.CommandLaws.{command_plan}
use Rattle.iot_limits.proofs.BlockLaws.{IsAny, condition_plan, IsSpelledTurns, loop_plan}
use Rattle.iot_limits.proofs.UpdateLaws.{tree_after}
use Rattle.iot_limits.proofs.AnswerLaws.{tree_answers}

-- ---- scripts

-- each command has operands as it should
abbrev pub HasCommands : Code → Type 0
HasCommands End = Unit {0}
HasCommands (Plain command rest) = IsTrue (is_command command) × HasCommands rest
HasCommands (Halt rest) = HasCommands rest
HasCommands (If condition body rest) = HasCommands body × HasCommands rest
HasCommands (IfElse condition body other rest) = HasCommands body × HasCommands other × HasCommands rest
HasCommands (For variable path body rest) = HasCommands body × HasCommands rest

-- elements that pass a test, before and after another
record Parts {X : Type 0} (test : X → Bool) (front back : List X) : Type 0 where
  pub before : IsTrue (list_all test front)
  pub later : IsTrue (list_all test back)

parted : {X : Type 0} (test : X → Bool) (front : List X) (x : X) (back : List X) → IsTrue (list_all test (front ++ x ∷ back))
    → Parts test front back
parted test front x back all =
    let both : IsTrue (list_all test front && list_all test (x ∷ back)) = sym (list_all-append test front (x ∷ back)) ∙ all in
    record {
      before = first_so (list_all test front) _ both;
      later = second_so (test x) (list_all test back) (second_so (list_all test front) _ both);
    }

pub has_commands : (script : Code) → IsTrue (list_all is_line (script_lines script)) → HasCommands script
has_commands End are = tt
has_commands (Plain command rest) are = (first_so (is_command command) _ are, has_commands rest (second_so (is_command command) _ are))
has_commands (Halt rest) are = has_commands rest are
has_commands (If condition body rest) are =
    let parts : Parts is_line (script_lines body) (script_lines rest) =
    parted is_line (script_lines body) _ (script_lines rest) (second_so (is_condition condition) _ are) in
    (has_commands body parts.before, has_commands rest parts.later)
has_commands (IfElse condition body other rest) are =
    let outer =
    parted is_line (script_lines body ++ _ ∷ script_lines other) _ (script_lines rest) (second_so (is_condition condition) _ are) in
    let inner = parted is_line (script_lines body) _ (script_lines other) outer.before in
    (has_commands body inner.before, has_commands other inner.later, has_commands rest outer.later)
has_commands (For variable path body rest) are =
    let parts : Parts is_line (script_lines body) (script_lines rest) =
    parted is_line (script_lines body) _ (script_lines rest) (second_so (is_variable variable && is_word path) _ are) in
    (has_commands body parts.before, has_commands rest parts.later)

-- ---- outcomes

abbrev AreActs : List Act → Type 0
AreActs acts = AllByRecursion IsAct acts

-- the acts have spellings, and so have the tree and the variables that are left
abbrev pub IsSpelledOutcome : Outcome → Type 0
IsSpelledOutcome (Done acts t env left) = AreActs acts × IsSpelledTree t × IsSpelledEnv env
IsSpelledOutcome (Cut acts t) = AreActs acts × IsSpelledTree t
IsSpelledOutcome (Stopped acts t) = AreActs acts × IsSpelledTree t

-- what comes next has a spelling on each tree and with all variables that do
abbrev pub GoesOn : (Nodes → Env → ℕ → Outcome) → Type 0
GoesOn next = (t : Nodes) (env : Env) (left : ℕ) → IsSpelledTree t → IsSpelledEnv env → IsSpelledOutcome (next t env left)

acts_joined : (one two : List Act) → AreActs one → AreActs two → AreActs (one ++ two)
acts_joined [] two first second = second
acts_joined (act ∷ one) two first second = (first.0, acts_joined one two first.1 second)

after_acts : (before : List Act) (outcome : Outcome) → AreActs before → IsSpelledOutcome outcome
    → IsSpelledOutcome (with_acts before outcome)
after_acts before (Done acts t env left) are is = (acts_joined before acts are is.0, is.1, is.2)
after_acts before (Cut acts t) are is = (acts_joined before acts are is.0, is.1)
after_acts before (Stopped acts t) are is = (acts_joined before acts are is.0, is.1)

goes_after : (outcome : Outcome) (next : Nodes → Env → ℕ → Outcome) → IsSpelledOutcome outcome → GoesOn next
    → IsSpelledOutcome (after outcome next)
goes_after (Done acts t env left) next is leads = after_acts acts (next t env left) is.0 (leads t env left is.1 is.2)
goes_after _ next is leads = is

act_first : {R : Type 0} (IsGood : R → Type 0) (t : Nodes) → IsSpelledTree t → (plan : Plan (Effect R))
    → IsSpelledPlan (IsSpelledEffect IsGood) plan → (next : Nodes → R → Outcome)
    → ((t : Nodes) (result : R) → IsSpelledTree t → IsGood result → IsSpelledOutcome (next t result))
    → IsSpelledOutcome (act_then t plan next)
act_first {R = R} IsGood t tree plan is next leads =
    let performed : Performed (Effect R) = perform t plan in
    let spelled : SpelledPerformed (IsSpelledEffect IsGood) performed =
    performed_plan (IsSpelledEffect IsGood) t plan (tree_answers t tree) is in
    after_acts (act_of performed ∷ []) (next (after_update t performed.result.update) performed.result.result)
    (performed_act IsGood performed spelled, tt)
    (leads (after_update t performed.result.update) performed.result.result
    (tree_after t performed.result.update spelled.result.update tree) spelled.result.result)

turns_go : (names : List (List ℕ)) → AllByRecursion IsName names → (body : Nodes → Env → ℕ → Outcome) → GoesOn body → (variable : List ℕ)
    → GoesOn (each_turn body variable names)
turns_go [] each body leads variable t env left tree spelled = (tt, tree, spelled)
turns_go (name ∷ names) each body leads variable t env left tree spelled =
    goes_after (body t (with_variable variable name env) left) (λ t env left. each_turn body variable names t env left)
    (leads t (with_variable variable name env) left tree (env_with variable name env (printed name (name_is_line name each.0)) spelled))
    (turns_go names each.1 body leads variable)

module _ (kept : Kept) (files : AreSpelledFiles kept) where
  pub code_goes : (script : Code) → HasCommands script → GoesOn (run_code kept script)
  code_goes End has t env left tree spelled = (tt, tree, spelled)
  code_goes (Plain command rest) has t env (suc left) tree spelled =
      act_first IsSpelledEnv t tree (plan_of_command kept env command) (command_plan kept files env spelled command has.0)
      (λ t env. run_code kept rest t env left)
      (λ t env tree spelled. code_goes rest has.1 t env left tree spelled)
  code_goes (Halt rest) has t env (suc left) tree spelled = ((record { reads = tt; update = tt; lines = tt }, tt), tree)
  code_goes (If condition body rest) has t env (suc left) tree spelled =
      act_first IsAny t tree (plan_of_condition env condition) (condition_plan env condition) _ (λ t holds tree any.
      goes_after (if holds then run_code kept body t env left else Done [] t env left) (λ t env left. run_code kept rest t env left)
      (cond_both holds (run_code kept body t env left) (Done [] t env left) IsSpelledOutcome
      (λ is. code_goes body has.0 t env left tree spelled)
      (λ is. (tt, tree, spelled)))
      (code_goes rest has.1))
  code_goes (IfElse condition body other rest) has t env (suc left) tree spelled =
      act_first IsAny t tree (plan_of_condition env condition) (condition_plan env condition) _ (λ t holds tree any.
      goes_after (if holds then run_code kept body t env left else run_code kept other t env left)
      (λ t env left. run_code kept rest t env left)
      (cond_both holds (run_code kept body t env left) (run_code kept other t env left) IsSpelledOutcome
      (λ is. code_goes body has.0 t env left tree spelled)
      (λ is. code_goes other has.1 t env left tree spelled))
      (code_goes rest has.2))
  code_goes (For variable path body rest) has t env (suc left) tree spelled =
      act_first IsSpelledTurns t tree (plan_of_loop env path) (loop_plan env spelled path) _ (λ t turns tree is.
      goes_after (each_turn (λ t env left. run_code kept body t env left) variable turns.names t turns.env left)
      (λ t env left. run_code kept rest t env left)
      (turns_go turns.names is.each (λ t env left. run_code kept body t env left) (code_goes body has.0) variable t turns.env left tree
      is.begins)
      (code_goes rest has.1))
  code_goes _ has t env zero tree spelled = (tt, tree)

-- ---- runs

pub ran_is : (outcome : Outcome) → IsSpelledOutcome outcome → SpelledRun (ran_of outcome)
ran_is (Done acts t env left) is = record { acts = is.0; tree = is.1 }
ran_is _ is = record { acts = is.0; tree = is.1 }
