-- An interpreter, and the place at which it stands.
use Rattle.std.proofs.Common.{◌≡◌, ℕ, suc, ◌+◌, ◌<◌, ◌≤◌, Bool, true, false, List, [], ◌∷◌, ◌++◌, Option, Some, None, is_none, is_some}
use Rattle.std.proofs.Common.{not, length, drop, get_or, refl, sym, ap, subst, ◌∙◌, add-one, drop-cons, if◌then◌else◌}
use Rattle.iot_tree.specs.Tree.{Nodes, IsTree}
use Rattle.iot_tree.specs.declared.acts.Act.{Act}
use Rattle.iot_tree.specs.declared.acts.Read.{Read}
use Rattle.iot_lang.specs.Code.{Code, End, Plain, Halt, If, IfElse, For}
use Rattle.iot_lang.specs.Blocks.{with_statement}
use Rattle.iot_lang.specs.declared.blocks.Stmt.{Stmt}
use Rattle.iot_lang.specs.declared.blocks.Stmt.TheVariants as statements
use Rattle.iot_exec.specs.Values.{fresh}
use Rattle.iot_exec.specs.Commands.{Kept}
use Rattle.iot_exec.specs.Places.{Frame, Place, Over, At, is_over, start, plan_at, IsAfter}
use Rattle.iot_exec.specs.Positions.{here, around, place_at, place_of, IsFirst}
use Rattle.iot_acts.specs.Guards.{IsGuarded}
use Rattle.iot_acts.specs.Traces.{FitsIfAny, after_update, ReadsHold, ActsHold}
use Rattle.iot_exec.specs.declared.position.Position.{Position}
use Rattle.iot_exec.proofs.GuardLaws.{place_fits, place_guarded}
use denote.Ref.{Bor}
use Rattle.std.specs.Option.{option_copied}
use Rattle.iot_tree.specs.Snapshots.{is_away}
use Rattle.iot_exec.specs.Misses.{first_away, path_of_question}
use Rattle.iot_exec.specs.Plans.{perform, act_of}
use Rattle.iot_exec.specs.Going.{IsDone, goes_to}
use Rattle.iot_exec.specs.Execs.{IsNextAt, next_miss}
use Rattle.iot_exec.specs.declared.performing.Done.{Done}
use Rattle.iot_exec.specs.declared.env.Env.{Env}
use Rattle.iot_exec.proofs.PlanLaws.{own_reads}
use Rattle.iot_exec.proofs.PositionLaws.{drop_past}
use Rattle.iot_exec.proofs.PlaceLaws.{at_start, one_more}

-- the place at a statement
pub at_statement : (s : Stmt) (rest : Code) (frames : List Frame) (env : Env)
    → place_at (with_statement s rest) frames env ≡ At (with_statement s rest) frames env
at_statement (statements.Do command) rest frames env = refl
at_statement statements.Stop rest frames env = refl
at_statement (statements.If condition body None) rest frames env = refl
at_statement (statements.If condition body (Some other)) rest frames env = refl
at_statement (statements.For variable path body) rest frames env = refl

-- the script has ended exactly if no statement is next
pub over_is : (statement : Option Stmt) (code : Code) (frames : List Frame) (env : Env) → IsFirst statement code
    → is_over (place_at code frames env) ≡ is_none statement
over_is None code frames env is = ap (λ code. is_over (place_at code frames env)) is
over_is (Some s) code frames env first =
    ap (λ code. is_over (place_at code frames env)) first.1 ∙ ap is_over (at_statement s first.0 frames env)

pub start_is : (script : Code) → place_at script [] fresh ≡ start script
start_is End = refl
start_is (Plain command rest) = refl
start_is (Halt rest) = refl
start_is (If condition body rest) = refl
start_is (IfElse condition body other rest) = refl
start_is (For variable path body rest) = refl

-- a new interpreter stands at the start
pub starts : (script : Code) (kept : Kept) (t : Nodes) (code : Code) (frames : List Frame) (env : Env) → code ≡ script → frames ≡ []
    → env ≡ fresh → IsAfter script kept t 0 [] (place_at code frames env) t
starts script kept t code frames env is none new =
    subst (λ (place : Place). IsAfter script kept t 0 [] place t)
    (sym
    (ap (λ code. place_at code frames env) is ∙ ap (λ frames. place_at script frames env) none ∙ ap (λ env. place_at script [] env) new
    ∙ start_is script))
    (at_start script kept t)

-- ---- the next act

-- what was done of the statement that is next is the next act
pub next_is : (kept : Kept) (t u : Nodes) (s : Stmt) (rest : Code) (frames : List Frame) (env : Env) (done : Done) (code : Code)
    (after : Place)
    → code ≡ with_statement s rest → IsDone kept t s rest frames env done → after ≡ goes_to code frames env done.goes
    → u ≡ after_update t done.act.update → IsNextAt kept (place_at code frames env) t done.act after u
next_is kept t u s rest frames env done code after is was goes tree =
    let placed : place_at code frames env ≡ At (with_statement s rest) frames env = ap (λ code. place_at code frames env) is
    ∙ at_statement s rest frames env in
    subst (λ (place : Place). IsNextAt kept place t done.act after u) (sym placed)
    (record {
      act = sym was.act;
      place = goes ∙ ap (λ code. goes_to code frames env done.goes) is ∙ sym was.place;
      tree = tree ∙ ap (λ (act : Act). after_update t act.update) (sym was.act);
    })

-- the first question of the next act that is answered `Away`
pub miss_is : (kept : Kept) (t : Nodes) (s : Stmt) (rest : Code) (frames : List Frame) (env : Env) (done : Done) (code : Code)
    → code ≡ with_statement s rest → IsDone kept t s rest frames env done
    → first_away done.act.reads ≡ next_miss kept (place_at code frames env) t
miss_is kept t s rest frames env done code is was =
    let placed : place_at code frames env ≡ At (with_statement s rest) frames env = ap (λ code. place_at code frames env) is
    ∙ at_statement s rest frames env in
    ap (λ (act : Act). first_away act.reads) (sym was.act) ∙ ap (λ place. next_miss kept place t) (sym placed)

-- one act more of the run
pub runs_on : (script : Code) (kept : Kept) (t0 : Nodes) (n : ℕ) (acts : List Act) (place : Place) (t : Nodes) (act : Act) (after : Place)
    (u : Nodes)
    → IsAfter script kept t0 n acts place t → IsNextAt kept place t act after u → IsAfter script kept t0 (n + 1) (acts ++ act ∷ []) after u
runs_on script kept t0 n acts Over t act after u is next = absurd next
runs_on script kept t0 n acts (At code frames env) t act after u is next =
    let more : IsAfter script kept t0 (n + 1) (acts ++ act_of (perform t (plan_at kept code frames env)) ∷ [])
    (perform t (plan_at kept code frames env)).result.result
    (after_update t (perform t (plan_at kept code frames env)).result.update) =
    one_more script kept t0 n acts code frames env t is in
    subst (λ (act : Act). IsAfter script kept t0 (n + 1) (acts ++ act ∷ []) after u) (sym next.act)
    (subst (λ (after : Place). IsAfter script kept t0 (n + 1) (acts ++ act_of (perform t (plan_at kept code frames env)) ∷ []) after u)
    (sym next.place)
    (subst
    (λ (u : Nodes). IsAfter script kept t0 (n + 1) (acts ++ act_of (perform t (plan_at kept code frames env)) ∷ [])
    (perform t (plan_at kept code frames env)).result.result u)
    (sym next.tree) more))

-- ---- the first question that is answered `Away`

pub no_read : (reads : List Read) (i : ℕ) → length reads ≤ i → first_away (drop i reads) ≡ None
no_read reads i over = ap first_away (drop_past reads i over)

-- ---- the block that is lent is the script

module _ (block script : Code) (is : block ≡ script) (position : Position) (env : Env) where
  pub end_is : (statement : Option Stmt) → IsFirst statement (here block position)
      → is_over (place_of script position env) ≡ is_none statement
  end_is statement first =
      subst (λ (script : Code). is_over (place_of script position env) ≡ is_none statement) is
      (over_is statement (here block position) (around block position) env first)

  module _ (kept : Kept) (t : Nodes) (s : Stmt) (first : IsFirst (Some s) (here block position)) (done : Done)
      (was : (rest : Code) (frames : List Frame) → IsDone kept t s rest frames env done) where
    pub first_miss : first_away done.act.reads ≡ next_miss kept (place_of script position env) t
    first_miss =
        subst (λ (script : Code). first_away done.act.reads ≡ next_miss kept (place_of script position env) t) is
        (miss_is kept t s first.0 (around block position) env done (here block position) first.1 (was first.0 (around block position)))

    pub next_fits : IsTree t → FitsIfAny t done.act.update
    next_fits tree =
        subst (λ (act : Act). FitsIfAny t act.update) (was first.0 []).act (place_fits kept (with_statement s first.0) [] env t tree)

    pub next_holds : IsTree t → ActsHold t (done.act ∷ [])
    next_holds tree = (
      subst (λ (act : Act). ReadsHold t act.reads) (was first.0 []).act (own_reads (plan_at kept (with_statement s first.0) [] env) t),
      next_fits tree,
      tt,
    )

    pub next_guarded : IsTree t → IsGuarded done.act
    next_guarded tree =
        subst (λ (act : Act). IsGuarded act) (was first.0 []).act (place_guarded kept (with_statement s first.0) [] env t tree)

    pub step_next : (new : Position) (new_env : Env) (u : Nodes)
        → place_of block new new_env ≡ goes_to (here block position) (around block position) env done.goes
        → u ≡ after_update t done.act.update → IsNextAt kept (place_of script position env) t done.act (place_of script new new_env) u
    step_next new new_env u goes tree =
        subst (λ (script : Code). IsNextAt kept (place_of script position env) t done.act (place_of script new new_env) u) is
        (next_is kept t u s first.0 (around block position) env done (here block position) (place_of block new new_env) first.1
        (was first.0 (around block position)) goes tree)

-- whether there is one
pub none_is : (statement : Option (Bor Stmt)) (none : Bool) → is_some statement ≡ not none → none ≡ is_none (option_copied statement)
none_is None true is = refl
none_is None false is = absurd cc
none_is (Some s) true is = absurd cc
none_is (Some s) false is = refl
