-- What a client notes has a spelling: the acts of its scripts' runs, and the runs that are made in the place of others.
use Rattle.std.proofs.Common.{◌≡◌, ◌≤◌, ℕ, zero, suc, ◌+◌, Bool, true, false, IsTrue, List, [], ◌∷◌, ◌++◌, cond, length, Option, Some, None}
use Rattle.std.proofs.Common.{refl, sym, subst, ◌∙◌, arith, if◌then◌else◌}
use Rattle.std.proofs.lemmas.Option.{same_Some, none-some}
use Rattle.std.specs.Cmp.{first_so, second_so}
use Rattle.std.specs.FinMap.{empty, entries, get-from_entries, find, is_sorted}
use Rattle.std.specs.FinMap.Entries.{below_all}
use Rattle.std.specs.List.{AllByRecursion, filter_map, cons_option}
use Rattle.std.specs.Ordering.{is_lt, eq_by_cmp}
use Rattle.std.specs.Prelude.{IfOk, Result, Ok, Err}
use Rattle.iot_text.specs.Names.{IsName}
use Rattle.iot_text.specs.Paths.{path_cmp, IsPath}
use Rattle.iot_text.proofs.PathsLaws.{path_total}
use Rattle.iot_tree.specs.Tree.{Path, Row, Nodes}
use Rattle.iot_tree.specs.declared.acts.Act.{Act}
use Rattle.iot_tree.specs.declared.labels.OnConflict.{OnConflict}
use Rattle.iot_tree.specs.declared.labels.OnConflict.TheVariants as options
use Rattle.iot_tree.specs.declared.limits.TheConstants.{ACT_LIMIT}
use Rattle.iot_tree.specs.declared.nodes.Node.TheVariants.{Dir, File, FarDir, FarFile}
use Rattle.iot_tree.proofs.EachLaws.{each_entry}
use Rattle.iot_acts.specs.Guards.{AllGuarded}
use Rattle.iot_acts.specs.Traces.{ActsHold, after_update, after_acts}
use Rattle.iot_views.specs.Rules.{IsContents, AreRising, IsOption, IsAct, IsTreeOfRows}
use Rattle.iot_lang.specs.Code.{Code}
use Rattle.iot_lang.specs.Scripts.{IsScript}
use Rattle.iot_exec.specs.Commands.{Kept, kept_files}
use Rattle.iot_exec.specs.Files.{file_of, files_of}
use Rattle.iot_exec.specs.Finding.{found_in, is_among, files_among}
use Rattle.iot_exec.specs.Places.{Place, Over, At, start, plan_at, exec}
use Rattle.iot_exec.specs.Plans.{perform, Performed, Effect}
use Rattle.iot_exec.specs.Runs.{run}
use Rattle.iot_exec.specs.declared.ran.Ran.{Ran}
use Rattle.iot_exec.proofs.FindingLaws.{are_found}
use Rattle.iot_exec.proofs.PlaceLaws.{exec_from_start}
use Rattle.iot_limits.specs.Spelled.{IsSpelledRow, IsSpelledTree, AreSpelledFiles}
use Rattle.iot_limits.proofs.TreesLaws.{tree_spelled}
use Rattle.iot_limits.proofs.SpelledLaws.{run_is_spelled, no_files_are_spelled}
use Rattle.iot_queue.specs.Queues.{head_of}
use Rattle.iot_queue.specs.declared.items.Item.{Item}
use Rattle.iot_queue.specs.declared.items.Resolution.{Resolution}
use Rattle.iot_resolve.specs.Files.{offered}
use Rattle.iot_resolve.specs.Plans.{plan_for, plan_of}
use Rattle.iot_resolve.specs.Resolved.{resolved}
use Rattle.iot_resolve.specs.declared.plan.Plan.{Plan}
use Rattle.iot_resolve.proofs.FilesLaws.{offers_files}
use Rattle.iot_changes.specs.Rules.{IsResolution}
use Rattle.iot_kept.specs.Spelled.{IsSpelledItem, AreSpelledItems, IsSpelledRunning}
use Rattle.iot_kept.specs.States.{Transaction, own_view, EachGuarded, EachHold}
use Rattle.iot_kept.proofs.SpelledLaws.{rows_after_acts}
use Rattle.iot_stamp.proofs.ActingLaws.{holds_fit}
use Rattle.iot_stamp.specs.Acting.{UpdatesFit}
use Rattle.iot_client.specs.Doing.{Did, DidIfAny}
use Rattle.iot_client.specs.Ties.{IsRun, IsRunIfAny}
use Rattle.iot_client.specs.declared.interpreter.Done.{Done}
use Rattle.iot_client.specs.declared.interpreter.Interpreter.{Interpreter}

-- ---- an act of a running transaction

last_is : (acts : List Act) (act : Act) → AllByRecursion IsAct (acts ++ act ∷ []) → IsAct act
last_is [] act all = all.0
last_is (first ∷ acts) act all = last_is acts act all.1

act_of_run : (it : Transaction) (i j : Interpreter) (done : Done) → IsTreeOfRows it.base → IsRun it i → Did i (own_view it) done j
    → IsAct done.act
act_of_run it i j done rows run did =
    let code : Code = i.script.value in
    let more = did.goes_on code empty it.base (length it.acts) it.acts run.run in
    let tree : IsSpelledTree it.base = tree_spelled it.base rows in
    last_is it.acts done.act
    (subst (λ (ran : Ran). AllByRecursion IsAct ran.acts) more.after.is_run
    (run_is_spelled code empty it.base (length it.acts + 1) run.script no_files_are_spelled tree).acts)

pub act_spelled : (it : Transaction) (i j : Option Interpreter) (done : Done) → IsSpelledRunning it → IsRunIfAny it i
    → DidIfAny i (own_view it) done j → IsAct done.act
act_spelled it None j done spelled runs did = absurd did
act_spelled it (Some i) None done spelled runs did = absurd did
act_spelled it (Some i) (Some j) done spelled runs did = act_of_run it i j done spelled.base runs did

-- ---- the first that waits

pub head_spelled : (items : List Item) (item : Item) → Some item ≡ head_of items → AreSpelledItems items → IsSpelledItem item
head_spelled [] item is are = absurd cc
head_spelled (first ∷ items) item is are =
    let same : first ≡ item = cc in
    subst IsSpelledItem same are.0

pub head_rows : (items : List Item) (item : Item) (t : Nodes) → Some item ≡ head_of items → AreSpelledItems items → EachHold t items
    → IsTreeOfRows t → IsTreeOfRows (after_acts t item.acts)
head_rows [] item t is are hold rows = absurd cc
head_rows (first ∷ items) item t is are hold rows =
    let same : first ≡ item = cc in
    let spelled : IsSpelledItem first = are.0 in
    subst (λ (x : Item). IsTreeOfRows (after_acts t x.acts)) same (rows_after_acts t first.acts spelled.acts.each hold.0 rows)

-- its updates fit
pub head_fits : (items : List Item) (item : Item) (t : Nodes) → Some item ≡ head_of items → EachHold t items → UpdatesFit t item.acts
head_fits [] item t is hold = absurd cc
head_fits (first ∷ items) item t is hold =
    let same : first ≡ item = cc in
    subst (λ (x : Item). UpdatesFit t x.acts) same (holds_fit t first.acts hold.0)

-- they hold there, and are guarded by their reads
pub head_holds : (items : List Item) (item : Item) (t : Nodes) → Some item ≡ head_of items → EachHold t items → ActsHold t item.acts
head_holds [] item t is hold = absurd cc
head_holds (first ∷ items) item t is hold = subst (λ (x : Item). ActsHold t x.acts) (same_Some first item (sym is)) hold.0

pub head_guarded : (items : List Item) (item : Item) → Some item ≡ head_of items → EachGuarded items → AllGuarded item.acts
head_guarded [] item is guarded = absurd cc
head_guarded (first ∷ items) item is guarded = subst (λ (x : Item). AllGuarded x.acts) (same_Some first item (sym is)) guarded.0

-- ---- files that rise and have spellings

abbrev OneFile : Type 0
OneFile = Path × List ℕ

rise_after : (before : OneFile) (files : List OneFile) → IsTrue (below_all path_cmp before.0 files) → IsTrue (is_sorted path_cmp files)
    → AreRising path_cmp files (Some before)
rise_after before [] below sorted = tt
rise_after before (file ∷ files) below sorted = (
  first_so (is_lt (path_cmp before.0 file.0)) _ below,
  rise_after file files (first_so (below_all path_cmp file.0 files) _ sorted) (second_so (below_all path_cmp file.0 files) _ sorted),
)

pub they_rise : (files : List OneFile) → IsTrue (is_sorted path_cmp files) → AreRising path_cmp files None
they_rise [] sorted = tt
they_rise (file ∷ files) sorted = (
  refl,
  rise_after file files (first_so (below_all path_cmp file.0 files) _ sorted) (second_so (below_all path_cmp file.0 files) _ sorted),
)

abbrev pub AreGood : List OneFile → Type 0
AreGood files = AllByRecursion (λ (file : OneFile). IsPath file.0 × IsContents file.1) files

-- those of the rows of a tree that has a spelling
rows_good : (rows : List Row) → AllByRecursion (λ (row : Row). IsSpelledRow row.0 row.1) rows → AreGood (filter_map file_of rows)
rows_good [] each = tt
rows_good ((p, File bytes mode) ∷ rows) each = ((each.0.is_path, each.0.is_node), rows_good rows each.1)
rows_good ((p, Dir) ∷ rows) each = rows_good rows each.1
rows_good ((p, FarDir) ∷ rows) each = rows_good rows each.1
rows_good ((p, FarFile mode) ∷ rows) each = rows_good rows each.1

pub tree_files_good : (t : Nodes) → IsSpelledTree t → AreGood (files_of t)
tree_files_good t spelled = rows_good (entries t) (each_entry IsSpelledRow t spelled.each)

offered_good : (keeps : Bool) (t : Nodes) → IsSpelledTree t → AreGood (offered keeps t)
offered_good false t spelled = tt
offered_good true t spelled = tree_files_good t spelled

-- those among them
pub among_good : (paths : List Path) (files : List OneFile) → AreGood files → AreGood (files_among paths files)
among_good paths [] good = tt
among_good paths (file ∷ files) good = by (is_among file.0 paths) (among_good paths files good.1)
  where
    by : (b : Bool) → AreGood (files_among paths files) → AreGood (cons_option (if b then Some file else None) (files_among paths files))
    by true rest = (good.0, rest)
    by false rest = rest

found_good : (files : List OneFile) → AreGood files → (p : Path) (bytes : List ℕ) → find path_cmp p files ≡ Some bytes → IsContents bytes
found_good [] good p bytes is = absurd (none-some _ is)
found_good (file ∷ files) good p bytes is = by (eq_by_cmp path_cmp p file.0) is (found_good files good.1 p bytes)
  where
    by : (b : Bool) → cond b (Some file.1) (find path_cmp p files) ≡ Some bytes → (find path_cmp p files ≡ Some bytes → IsContents bytes)
        → IsContents bytes
    by true is rest = subst IsContents (same_Some _ _ is) good.0.1
    by false is rest = rest is

pub kept_spelled : (files : List OneFile) → AreGood files → AreSpelledFiles (kept_files files)
kept_spelled files good = record {
  each = λ p bytes is. found_good files good p bytes (sym (get-from_entries path_total files p) ∙ is);
}

-- ---- a resolution

-- a run never has more acts than its budget
few_from : (kept : Kept) (n : ℕ) (at : Place) (t : Nodes) → length (exec kept n at t).acts ≤ n
few_from kept zero at t = omega arith
few_from kept (suc n) Over t = omega arith
few_from kept (suc n) (At code frames env) t =
    let done : Performed (Effect Place) = perform t (plan_at kept code frames env) in
    next _ n (few_from kept n done.result.result (after_update t done.result.update))
  where
    next : (a n : ℕ) → a ≤ n → suc a ≤ suc n
    next a n few = omega arith

few_acts : (code : Code) (kept : Kept) (t : Nodes) (n : ℕ) → length (run code kept t n).acts ≤ n
few_acts code kept t n = subst (λ (ran : Ran). length ran.acts ≤ n) (exec_from_start kept code t n) (few_from kept n (start code) t)

-- of a plan whose script has a name, and whose budget is not too great
pub resolved_spelled : (plan : Plan) (code : Code) (local server : Nodes) → IsName plan.script → plan.budget ≤ ACT_LIMIT → IsScript code
    → IsTreeOfRows local → IsTreeOfRows server → IsResolution (resolved plan code local server)
resolved_spelled plan code local server name few good ours theirs =
    let files : List OneFile = offered plan.keeps local in
    let are : AreGood files = offered_good plan.keeps local (tree_spelled local ours) in
    let short : length (run code (kept_files files) server plan.budget).acts ≤ plan.budget =
    few_acts code (kept_files files) server plan.budget in
    record {
      script = name;
      budget = few;
      kept = record {
        rising = they_rise (files_among (found_in code (kept_files files) server plan.budget) files)
            ((are_found code files server plan.budget).rising (offers_files plan.keeps local).rising);
        each = among_good (found_in code (kept_files files) server plan.budget) files are;
      };
      acts = record {
        few = omega (arith, short, few);
        each =
            (run_is_spelled code (kept_files files) server plan.budget good (kept_spelled files are) (tree_spelled server theirs)).acts;
      };
    }

-- so is that of a transaction that has a spelling
pub record IsGoodPlan (plan : Plan) : Type 0 where
  pub name : IsName plan.script
  pub few : plan.budget ≤ ACT_LIMIT

plan_for_good : (script : List ℕ) (budget : ℕ) (option : OnConflict) (plan : Plan) → IsName script → budget ≤ ACT_LIMIT → IsOption option
    → plan_for script budget option ≡ Some plan → IsGoodPlan plan
plan_for_good script budget options.Reexec plan name few good is =
    subst IsGoodPlan (same_Some _ _ is) (record { name = name; few = few })
plan_for_good script budget (options.Resolver other) plan name few good is =
    subst IsGoodPlan (same_Some _ _ is) (record { name = good; few = omega arith })
plan_for_good script budget options.Abort plan name few good is = absurd cc
plan_for_good script budget options.Manual plan name few good is = absurd cc

pub plan_good : (item : Item) (plan : Plan) → IsSpelledItem item → plan_of item ≡ Some plan → IsGoodPlan plan
plan_good item plan spelled is = plan_for_good item.script item.budget item.option plan spelled.script spelled.budget spelled.option is

pub resolution_spelled : {E : Type 0} (result : Result Resolution E) (plan : Plan) (code : Code) (local server : Nodes)
    → IfOk result (λ done. done ≡ resolved plan code local server) → IsGoodPlan plan → IsScript code → IsTreeOfRows local
    → IsTreeOfRows server → IfOk result IsResolution
resolution_spelled (Ok done) plan code local server is good script ours theirs =
    subst IsResolution (sym is) (resolved_spelled plan code local server good.name good.few script ours theirs)
resolution_spelled (Err fault) plan code local server is good script ours theirs = tt
