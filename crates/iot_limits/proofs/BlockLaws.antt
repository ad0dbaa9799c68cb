-- The plans of conditions and of loops ask, do and print only what has a spelling.
use Rattle.std.proofs.Common.{ℕ, Bool, List, [], ◌∷◌, map, Option, Some, None, Ok, codes, refl, length}
use Rattle.std.proofs.lemmas.Bool.{cond_both}
use Rattle.std.specs.List.{AllByRecursion}
use Rattle.std.specs.Result.{result_ok}
use Rattle.iot_text.specs.Names.{IsName}
use Rattle.iot_text.specs.Paths.{IsPath, path_of}
use Rattle.iot_tree.specs.declared.kinds.Kind.{Kind as ChildKind}
use Rattle.iot_tree.specs.declared.questions.Answer.{Answer}
use Rattle.iot_tree.specs.declared.questions.Answer.TheVariants.{Names}
use Rattle.iot_lang.specs.declared.words.Piece.{Piece}
use Rattle.iot_lang.specs.declared.words.Cond.{Cond}
use Rattle.iot_lang.specs.declared.words.Cond.TheVariants as conditions
use Rattle.iot_exec.specs.Values.{word_value}
use Rattle.iot_exec.specs.Operands.{is_too_large, path_or_bad, read_path}
use Rattle.iot_exec.specs.Plans.{Plan, Done, mapped, Effect, silent, going_on}
use Rattle.iot_exec.specs.Commands.{given, names_or, names, when, is_file_at, is_dir_at, is_on_at, are_same_at, path_if_any, truth}
use Rattle.iot_exec.specs.Commands.{plan_of_condition, Turns, name_of, loop_ending, plan_of_loop}
use Rattle.iot_exec.specs.declared.env.Env.{Env}
use Rattle.iot_views.specs.Rules.{IsAnswer, IsObject}
use Rattle.iot_limits.proofs.ByteLaws.{IsPathIfAny, parsed_is_path}
use Rattle.iot_limits.proofs.PlanLaws.{IsSpelledEnv, IsSpelledEffect, IsSpelledPlan, mapped_plan}
use Rattle.iot_limits.proofs.CommandLaws.{refused_line, failed}

-- ---- conditions

-- whether a condition holds is good in any case
abbrev pub IsAny : Bool → Type 0
IsAny holds = Unit {0}

path_or_none : (path : Option (List (List ℕ))) → IsPathIfAny path → IsPathIfAny (result_ok (path_or_bad path))
path_or_none None is = tt
path_or_none (Some path) is = is

operand_is_path : (env : Env) (word : List Piece) → IsPathIfAny (path_if_any env word)
operand_is_path env word =
    let value : List ℕ = word_value env word in
    cond_both (is_too_large (length value)) _ _ (λ result. IsPathIfAny (result_ok (read_path result)))
    (λ large. tt)
    (λ small. path_or_none (path_of value) (parsed_is_path value))

when_path : (path : Option (List (List ℕ))) → IsPathIfAny path → (next : List (List ℕ) → Plan Bool)
    → ((path : List (List ℕ)) → IsPath path → IsSpelledPlan IsAny (next path)) → IsSpelledPlan IsAny (when path next)
when_path None is next leads = tt
when_path (Some path) is next leads = leads path is

truth_spelled : (env : Env) (condition : Cond) → IsSpelledPlan IsAny (truth env condition)
truth_spelled env (conditions.File p) =
    when_path (path_if_any env p) (operand_is_path env p) is_file_at (λ path valid. (valid, λ answer has. tt))
truth_spelled env (conditions.Dir p) =
    when_path (path_if_any env p) (operand_is_path env p) is_dir_at (λ path valid. (valid, λ answer has. tt))
truth_spelled env (conditions.Exec p) =
    when_path (path_if_any env p) (operand_is_path env p) is_on_at (λ path valid. (valid, λ answer has. tt))
truth_spelled env (conditions.Same p q) =
    when_path (path_if_any env p) (operand_is_path env p) _ (λ first first_valid.
    when_path (path_if_any env q) (operand_is_path env q) (are_same_at first)
    (λ second second_valid. (first_valid, λ one has. (second_valid, λ two also. tt))))
truth_spelled env conditions.Ok = tt

pub condition_plan : (env : Env) (condition : Cond) → IsSpelledPlan (IsSpelledEffect IsAny) (plan_of_condition env condition)
condition_plan env condition =
    mapped_plan IsAny (IsSpelledEffect IsAny) silent (truth env condition)
    (λ holds is. record { update = tt; lines = tt; result = tt })
    (truth_spelled env condition)

-- ---- loops

-- a loop goes through names
pub record IsSpelledTurns (turns : Turns) : Type 0 where
  pub each : AllByRecursion IsName turns.names
  pub begins : IsSpelledEnv turns.env

only_names : (children : List (List ℕ × ChildKind)) → AllByRecursion (λ child. IsName child.0 × IsObject child.1) children
    → AllByRecursion IsName (map name_of children)
only_names [] each = tt
only_names (child ∷ children) each = (each.0.0, only_names children each.1)

module _ (env : Env) (spelled : IsSpelledEnv env) where
  no_turn : (effect : Effect Env) → IsSpelledEffect IsSpelledEnv effect
      → IsSpelledEffect IsSpelledTurns (going_on (λ env. record { names = []; env = env }) effect)
  no_turn effect is = record { update = is.update; lines = is.lines; result = record { each = tt; begins = is.result } }

  module _ (path : List (List ℕ)) (valid : IsPath path) where
    names_at : (answer : Answer) → IsAnswer answer
        → IsSpelledPlan (IsSpelledEffect IsSpelledTurns)
        (mapped (loop_ending env) (given (names_or path answer) (λ children. Done (Ok (map name_of children)))))
    names_at (Names children) has =
        record { update = tt; lines = tt; result = record { each = only_names children has.each; begins = spelled } }
    names_at _ has = no_turn _ (failed env spelled (codes "for") refl path valid _ refl)

  names_if_path : (path : Option (List (List ℕ))) → IsPathIfAny path
      → IsSpelledPlan (IsSpelledEffect IsSpelledTurns)
      (mapped (loop_ending env) (given (path_or_bad path) (λ path. names path (λ children. Done (Ok (map name_of children))))))
  names_if_path None is = no_turn _ (refused_line env spelled (codes "for") refl (codes "bad path") refl)
  names_if_path (Some path) is = (is, names_at path is)

  pub loop_plan : (word : List Piece) → IsSpelledPlan (IsSpelledEffect IsSpelledTurns) (plan_of_loop env word)
  loop_plan word =
      let value : List ℕ = word_value env word in
      cond_both (is_too_large (length value)) _ _
      (λ result. IsSpelledPlan (IsSpelledEffect IsSpelledTurns)
      (mapped (loop_ending env) (given (read_path result) (λ path. names path (λ children. Done (Ok (map name_of children)))))))
      (λ large. no_turn _ (refused_line env spelled (codes "for") refl (codes "too large") refl))
      (λ small. names_if_path (path_of value) (parsed_is_path value))
