-- What a client keeps, as it is on a disk, and what is known besides of what runs, before and after each of its changes; and that
-- the resolution that it makes is the one that the machine plans.
use Rattle.std.proofs.Common.{◌≡◌, ◌+◌, ◌<◌, ◌≤◌, ℕ, Bool, true, false, List, [], ◌∷◌, ◌++◌, drop, take, map}
use Rattle.std.proofs.Common.{Option, Some, None, refl, sym, ap, subst, ◌∙◌, arith, length-append, rules, IsTrue}
use Rattle.std.proofs.Math.Seq.{drop-append_seam}
use Rattle.std.proofs.lemmas.Option.{same_Some}
use Rattle.std.specs.FinMap.{empty, entries, entries_sorted, get-entries, get-from_entries, is_sorted}
use Rattle.std.specs.List.{AllByRecursion}
use Rattle.std.specs.FinMap.Entries.{same_entries}
use Rattle.iot_tree.specs.Tree.{Nodes, IsTree, Path}
use Rattle.iot_tree.specs.declared.acts.Act.{Act}
use Rattle.iot_tree.specs.declared.limits.TheConstants.{ACT_LIMIT}
use Rattle.iot_lang.specs.Scripts.{IsScript}
use Rattle.iot_limits.specs.Spelled.{IsSpelledTree}
use Rattle.iot_acts.specs.Traces.{ActsHold, after_acts, after_update}
use Rattle.iot_exec.specs.declared.ran.Ran.{Ran}
use Rattle.iot_queue.specs.declared.items.Item.{Item}
use Rattle.iot_queue.specs.declared.items.Stage.{Stage}
use Rattle.iot_kept.specs.Bodies.{run_numbers, tids, AreApart, AreUpTo, AreNumbered}
use Rattle.iot_kept.specs.States.{Transaction, State, numbered, after_each, view}
use Rattle.iot_kept.specs.Changes.{CanFollow, HeadIs, RunIs, IsSomeOf, after, MayLeave, left, stays_in, stage_by, conflicted}
use Rattle.iot_kept.specs.Changes.{with_act, with_running, others, ended}
use Rattle.iot_client.specs.Ties.{Live}
use Rattle.iot_client.specs.Calls.{verdict_change, CanAct, next_acts, may_end, has_ended, second_class, IsHeadsRun, IsPlannedRun, Differs}
use Rattle.iot_client.specs.Calls.{live_numbered, other_lives, yielded, yielded_to}
use Rattle.iot_machine.specs.Clients.{Declared, ClientState, so_far, plain_run, begin, begun, act_once, cut, leave, local_run}
use Rattle.iot_machine.specs.Clients.{reach, repair, Plan, resolution_of, fetch, again, hold, anew, one_more, cut_by, leave_by}
use Rattle.iot_machine.specs.Clients.{change_first, with_first, joined, end, plan_by, found_by, ReadsSame, reads_here, reads_on, IsLongest}
use Rattle.iot_machine.specs.Machine.{classed}
use Rattle.iot_machine.specs.Options.{OnConflict}
use Rattle.iot_machine.specs.Serving.{Parts, Conflict}
use Rattle.iot_machine.specs.Transactions.{has_any}
use Rattle.iot_lang.specs.Code.{Code}
use Rattle.iot_exec.specs.Runs.{run}
use Rattle.iot_queue.specs.declared.items.Resolution.{Resolution}
use Rattle.iot_changes.specs.declared.changes.Change.TheVariants.{Resolved}
use Rattle.iot_client.proofs.SpelledLaws.{AreGood, tree_files_good, among_good, kept_spelled}
use Rattle.iot_machine.proofs.FollowsLaws.{all_push}
use Rattle.iot_tree.specs.declared.labels.OnConflict.{OnConflict as OnConflictNamed}
use Rattle.iot_tree.specs.declared.questions.Question.{Question}
use Rattle.iot_exec.proofs.PlaceLaws.{exec_from_start}
use Rattle.iot_queue.specs.Queues.{with_head, staged}
use Rattle.iot_client.specs.declared.noted.Noted.{Noted as NotedIn}
use Rattle.iot_machine.specs.Sound.{CanResolve, IsPlanned}
use Rattle.iot_judging.proofs.BudgetLaws.{HasOneMore, has_one_more, nothing_done}
use Rattle.iot_judging.proofs.CertifyLaws.{reads_same, reads_part, waits_there, first_there, longest_is}
use Rattle.iot_judging.proofs.JudgingLaws.{run_tree}
use Rattle.iot_judging.proofs.SpelledTreesLaws.{run_spelled}
use Rattle.iot_text.specs.Paths.{path_cmp}
use Rattle.iot_text.proofs.PathsLaws.{path_total, path_same}
use Rattle.iot_tree.proofs.RowLaws.{tested}
use Rattle.iot_exec.specs.Commands.{kept_files}
use Rattle.iot_exec.specs.Files.{files_of}
use Rattle.iot_exec.specs.Finding.{found_in, files_among}
use Rattle.iot_exec.proofs.FindingLaws.{are_found}
use Rattle.iot_resolve.specs.Files.{offered}
use Rattle.iot_resolve.specs.Plans.{plan_for}
use Rattle.iot_resolve.specs.Resolved.{resolved}
use Rattle.iot_resolve.proofs.FilesLaws.{offers_files}
use Rattle.iot_standing.specs.States.{head_option, head_plan, RunStand, StateStands, waits_of, told_change}
use Rattle.iot_standing.specs.Kept.{ItemStands, ItemsStand, StageStands, RunningKept, RunKept, StateKept, ResolutionStands}
use Rattle.iot_standing.specs.Kept.{AreWaiting, OthersWait, access_by, access_kept}
use Rattle.iot_access.specs.Access.{access_of, no_access}
use Rattle.iot_tree.specs.declared.access.Access.{Access}
use Rattle.iot_standing.specs.Scripts.{ItemIsNamed, RunIsNamed, AreNamed, IsNamed, HasNamed, option_named}
use Rattle.iot_standing.proofs.RunsLaws.{live_as, live_with, run_stands, none_kept, own_number}
use Rattle.iot_standing.proofs.RunsLaws.{KeptAs, kept_as, kept_with, lives_changed, all_changed, kept_others, lives_others, all_others}
use Rattle.iot_standing.proofs.RunsLaws.{Running, running_is, all_found, kept_more, lives_second, lives_more, lives_all_second}
use Rattle.iot_standing.proofs.StatesLaws.{view_of, waits_by, has_ended_is, next_acts_are, over_waits}
use Rattle.iot_tree.specs.declared.labels.OnConflict.TheVariants as on
use Rattle.iot_queue.specs.declared.items.Stage.TheVariants as stages
use Rattle.iot_changes.specs.declared.changes.Change.TheVariants as changes
use Rattle.iot_kept.specs.Changes as records
use Rattle.iot_client.specs.declared.noted.Noted.TheVariants as noteds
use Rattle.iot_machine.specs.Clients as clients
use Rattle.iot_machine.specs.Options as options
use Rattle.iot_machine.specs.Serving as serving
use Rattle.iot_resolve.specs.declared.plan.Plan as plans

-- ---- what is known besides of what runs

-- among these scripts, the state is what a client of the machine keeps, and of what runs it is known besides what was begun since the start
pub record KeptLive (scripts : List Declared) (s : State) (lives : List Live) (first : List ℕ) (m : ClientState) : Type 0 where
  pub kept : StateKept s m
  pub runs : lives ≡ live_with first m.running
  pub named : AreNamed scripts m

-- so it stands for one that is alive
pub stands_with : (s : State) (lives : List Live) (first : List ℕ) (m : ClientState) → StateKept s m → lives ≡ live_with first m.running
    → StateStands s lives first m
stands_with s lives first m kept runs = record {
  held = kept.held;
  items = kept.items;
  running = subst (λ (all : List Live). RunStand s.running all first m.running) (sym runs)
      (run_stands s.running first m.running kept.running);
  last = kept.last;
  tree = kept.tree;
  spelled = kept.spelled;
  access = kept.access;
}

-- nothing runs
pub idle_is : (s : State) (m : ClientState) → s.running ≡ [] → StateKept s m → m.running ≡ []
idle_is s m none kept = none_kept m.running (subst (λ (running : List Transaction). RunKept running m.running) none kept.running)

pub idle_runs : (first : List ℕ) (s : State) (m : ClientState) → s.running ≡ [] → StateKept s m → [] ≡ live_with first m.running
idle_runs first s m none kept = sym (ap (live_with first) (idle_is s m none kept))

-- ---- the transactions that wait

-- if none waits, that is so on each tree
none_stand : (t u : Nodes) (ms : List clients.Item) → ItemsStand [] t ms → ItemsStand [] u ms
none_stand t u [] stand = tt
none_stand t u (m ∷ ms) stand = absurd stand

none_waits : (ms : List clients.Item) (t : Nodes) → ItemsStand [] t ms → (u : Nodes) → clients.after_items u ms ≡ u
none_waits [] t stand u = refl
none_waits (m ∷ ms) t stand u = absurd stand

more_stand : (items : List Item) (t : Nodes) (ms : List clients.Item) (item : Item) (m : clients.Item) → ItemsStand items t ms
    → ItemStands (after_each t items) item m → ItemsStand (items ++ item ∷ []) t (ms ++ m ∷ [])
more_stand [] t [] item m all it = (it, tt)
more_stand (head ∷ items) t (other ∷ ms) item m all it = (all.0, more_stand items (after_acts t head.acts) ms item m all.1 it)
more_stand items t ms item m all it = absurd all

-- what they leave is a tree, and has a spelling
items_leave : (items : List Item) (t : Nodes) (ms : List clients.Item) → ItemsStand items t ms → IsTree t → IsSpelledTree t
    → IsTree (after_each t items) × IsSpelledTree (after_each t items)
items_leave [] t [] stand tree spelled = (tree, spelled)
items_leave (item ∷ items) t (m ∷ ms) stand tree spelled =
    items_leave items (after_acts t item.acts) ms stand.1
    (subst IsTree (sym stand.0.tree) (run_tree m.script.code empty t m.budget tree))
    (subst IsSpelledTree (sym stand.0.tree) (run_spelled m.script.code t m.budget stand.0.script spelled))
items_leave items t ms stand tree spelled = absurd stand

pub view_tree : (s : State) (m : ClientState) → StateKept s m → IsTree (view s)
view_tree s m here = (items_leave s.items s.held m.items here.items here.tree here.spelled).0

view_spelled : (s : State) (m : ClientState) → StateKept s m → IsSpelledTree (view s)
view_spelled s m here = (items_leave s.items s.held m.items here.items here.tree here.spelled).1

-- then one waits
joined_waits : (items : List Item) (it : Option Transaction) (Is : Transaction → Type 0) → IsSomeOf Is it
    → waits_of (items ++ ended it) ≡ true
joined_waits items None Is some = absurd some
joined_waits [] (Some it) Is some = refl
joined_waits (item ∷ items) (Some it) Is some = refl

pub ended_waits : (s : State) (number : ℕ) → CanFollow s (changes.Ended number) → waits_of (after s (changes.Ended number)).items ≡ true
ended_waits s number can = joined_waits s.items (numbered number s.running) (λ it. ActsHold (view s) it.acts) can

-- ---- the access beside those that wait

-- those that ended have none
waiting_access : (ms : List clients.Item) → AreWaiting ms → access_kept ms ≡ no_access
waiting_access [] are = refl
waiting_access (m ∷ ms) are = ap access_by are.0

later_wait : (ms : List clients.Item) → AreWaiting ms → OthersWait ms
later_wait [] are = tt
later_wait (m ∷ ms) are = are.1

joined_access : (ms : List clients.Item) (m : clients.Item) → m.stage ≡ clients.Waiting → access_kept (ms ++ m ∷ []) ≡ access_kept ms
joined_access [] m waits = ap access_by waits
joined_access (first ∷ ms) m waits = refl

joined_others : (ms : List clients.Item) (m : clients.Item) → m.stage ≡ clients.Waiting → OthersWait ms → OthersWait (ms ++ m ∷ [])
joined_others [] m waits are = tt
joined_others (first ∷ ms) m waits are = all_push (λ m. m.stage ≡ clients.Waiting) ms m waits are

-- ---- the first that waits

-- if one conflicts with such an option, it can be resolved
can_resolve : (o : OnConflict Declared) → stage_by (option_named o) ≡ Some stages.Conflict → CanResolve o
can_resolve options.Reexec is = tt
can_resolve (options.Resolver script) is = tt
can_resolve o is = absurd cc

-- ---- the scripts of a client's transactions

module _ (scripts : List Declared) where
  abbrev AllNamed : List clients.Item → Type 0
  AllNamed items = AllByRecursion (ItemIsNamed scripts) items

  waiting_named : (items : List clients.Item) (it : clients.Running) (budget : ℕ) → AllNamed items → RunIsNamed scripts it
      → AllNamed (items ++ clients.waiting budget it ∷ [])
  waiting_named items it budget all run =
      all_push (ItemIsNamed scripts) items (clients.waiting budget it) (record { script = run.script; resolver = run.resolver }) all

  joined_named : (items : List clients.Item) (o : Option clients.Running) → AllNamed items
      → ((it : clients.Running) → o ≡ Some it → RunIsNamed scripts it) → AllNamed (joined items o)
  joined_named items None all each = all
  joined_named items (Some it) all each = waiting_named items it ACT_LIMIT all (each it refl)

  -- one that runs changes, but not its script
  changed_named : (number : ℕ) (other : clients.Running → clients.Running)
      → ((it : clients.Running) → RunIsNamed scripts it → RunIsNamed scripts (other it)) → (m : ClientState) → AreNamed scripts m
      → AreNamed scripts (record m { running = clients.with_running number other m.running })
  changed_named number other goes m named = record {
    items = named.items;
    running = all_changed number (RunIsNamed scripts) other goes m.running named.running;
  }

  cut_by_named : (acts : ℕ) (ms : List clients.Running) (m : ClientState) → AllNamed m.items → AllByRecursion (RunIsNamed scripts) ms
      → AreNamed scripts m → AreNamed scripts (cut_by acts ms m)
  cut_by_named acts [] m items run named = named
  cut_by_named acts (it ∷ ms) m items run named =
      record { items = waiting_named m.items it acts items run.0; running = run.1 }

  -- the first of those that ran waits
  pub cut_named : (acts : ℕ) (m : ClientState) → AreNamed scripts m → AreNamed scripts (cut acts m)
  cut_named acts m named = cut_by_named acts m.running m named.items named.running named

-- ---- a running transaction

-- one that begins on a tree is as that is, without acts
new_kept : (it : Transaction) (m : clients.Running) (t u : Nodes) → it.number ≡ m.number → it.script ≡ m.script.name
    → IsScript m.script.code → it.option ≡ option_named m.option → t ≡ u → IsTree t → IsSpelledTree t
    → RunningKept (records.anew t it) (anew u m)
new_kept it m t u same named script option is tree spelled = record {
  number = same;
  name = named;
  script = script;
  few = omega arith;
  count = refl;
  base = is;
  acts = ap (λ (ran : Ran). ran.acts) (exec_from_start empty m.script.code u 0);
  tree = is ∙ sym (nothing_done m.script.code empty u);
  option = option;
  is_tree = tree;
  spelled = spelled;
}

-- one that begins anew
anew_kept : (it : Transaction) (m : clients.Running) (t u : Nodes) → RunningKept it m → t ≡ u → IsTree t → IsSpelledTree t
    → RunningKept (records.anew t it) (anew u m)
anew_kept it m t u kept is tree spelled = new_kept it m t u kept.number kept.name kept.script kept.option is tree spelled

acts_more : (acts : List Act) (act : Act) (t : Nodes) → after_acts t (acts ++ act ∷ []) ≡ after_update (after_acts t acts) act.update
acts_more [] act t = refl
acts_more (first ∷ later) act t = acts_more later act (after_update t first.update)

-- the act is the next one of the run
more_kept : (it : Transaction) (m : clients.Running) (act : Act) → RunningKept it m → m.acts < ACT_LIMIT → (so_far m).ended ≡ false
    → drop m.acts (plain_run m.script m.base (m.acts + 1)).acts ≡ act ∷ [] → RunningKept (with_act act it) (one_more m)
more_kept it m act kept within on next =
    let more : HasOneMore m.acts (so_far m) (plain_run m.script m.base (m.acts + 1)) =
    has_one_more m.script.code empty m.base m.acts on in
    let one : more.act ∷ [] ≡ act ∷ [] =
    sym (drop-append_seam (so_far m).acts (more.act ∷ []))
    ∙ ap (λ (n : ℕ). drop n ((so_far m).acts ++ more.act ∷ [])) more.count
    ∙ ap (drop m.acts) (sym more.acts) ∙ next in
    let same : more.act ≡ act = cc in
    let few : m.acts + 1 ≤ ACT_LIMIT = omega (arith, within) in
    record {
      number = kept.number;
      name = kept.name;
      script = kept.script;
      few = few;
      count = length-append it.acts (act ∷ []) ∙ ap (λ (n : ℕ). n + 1) kept.count;
      base = kept.base;
      acts =
          ap (λ (acts : List Act). acts ++ act ∷ []) kept.acts
          ∙ sym (subst (λ (act : Act). (so_far (one_more m)).acts ≡ (so_far m).acts ++ act ∷ []) same more.acts);
      tree =
          acts_more it.acts act it.base ∙ ap (λ (u : Nodes). after_update u act.update) kept.tree
          ∙ sym (subst (λ (act : Act). (so_far (one_more m)).tree ≡ after_update (so_far m).tree act.update) same more.tree);
      option = kept.option;
      is_tree = kept.is_tree;
      spelled = kept.spelled;
    }

-- it is, if it can do so next
next_kept : (own : Transaction) (it : clients.Running) (class : Bool) (code : Code) (act : Act) → RunningKept own it
    → code ≡ it.script.code → CanAct own class code → next_acts own code ≡ act ∷ [] → RunningKept (with_act act own) (one_more it)
next_kept own it class code act kept same can next =
    more_kept own it act kept (subst (λ (n : ℕ). n < ACT_LIMIT) kept.count can.within)
    (sym (has_ended_is own it kept.base kept.count) ∙ ap (has_ended own) (sym same) ∙ can.goes_on)
    (sym (next_acts_are own it kept.base kept.count) ∙ ap (next_acts own) (sym same) ∙ next)

-- as one that waits with this budget, whose run on this tree has these acts
waiting_stands : (it : Transaction) (m : clients.Running) (t : Nodes) (budget : ℕ) (acts : List Act) (over : Bool) → RunningKept it m
    → budget ≤ ACT_LIMIT → plain_run m.script t budget ≡ record { acts = acts; tree = after_acts t acts; ended = over }
    → ItemStands t (records.waiting budget acts it) (clients.waiting budget m)
waiting_stands it m t budget acts over kept few ran = record {
  number = kept.number;
  name = kept.name;
  budget = refl;
  few = few;
  script = kept.script;
  acts = sym (ap (λ (ran : Ran). ran.acts) ran);
  tree = sym (ap (λ (ran : Ran). ran.tree) ran);
  option = kept.option;
  stage = tt;
  planned = tt;
}

-- ---- a state

module _ (s : State) (m : ClientState) (here : StateKept s m) where
  -- the same tree is held, with other transactions
  with_queue : (items : List Item) (ms : List clients.Item) (running : List Transaction) (others : List clients.Running) (a : Access)
      → ItemsStand items s.held ms → RunKept running others → a ≡ access_kept ms → OthersWait ms
      → StateKept (record s { items = items; running = running; access = a }) (record m { items = ms; running = others })
  with_queue items ms running others a stand runs is wait = record {
    held = here.held;
    items = stand;
    running = runs;
    last = here.last;
    tree = here.tree;
    spelled = here.spelled;
    access = is;
    others = wait;
  }

  -- others run
  with_runs : (running : List Transaction) (others : List clients.Running) → RunKept running others
      → StateKept (record s { running = running }) (record m { running = others })
  with_runs running others runs = with_queue s.items m.items running others s.access here.items runs here.access here.others

  -- another tree is held, and none waits
  with_tree : (t : Nodes) (running : List Transaction) (others : List clients.Running) → s.items ≡ [] → IsTree t → IsSpelledTree t
      → RunKept running others → StateKept (record s { held = t; running = running }) (record m { held = t; running = others })
  with_tree t running others none tree spelled runs = record {
    held = refl;
    items =
        subst (λ (items : List Item). ItemsStand items t m.items) (sym none)
        (none_stand s.held t m.items (subst (λ (items : List Item). ItemsStand items s.held m.items) none here.items));
    running = runs;
    last = here.last;
    tree = tree;
    spelled = spelled;
    access = here.access;
    others = here.others;
  }

  its_view : view s ≡ clients.view m
  its_view = view_of s m here.held here.items

  -- one that ran waits
  one_waits : (it : Transaction) (one : clients.Running) (budget : ℕ) (acts : List Act) (over : Bool) (running : List Transaction)
      (others : List clients.Running) → RunningKept it one → budget ≤ ACT_LIMIT
      → plain_run one.script (view s) budget ≡ record { acts = acts; tree = after_acts (view s) acts; ended = over }
      → RunKept running others
      → StateKept (record s { items = s.items ++ records.waiting budget acts it ∷ []; running = running })
      (record m { items = m.items ++ clients.waiting budget one ∷ []; running = others })
  one_waits it one budget acts over running others kept few ran runs =
      with_queue _ _ running others s.access
      (more_stand s.items s.held m.items _ _ here.items (waiting_stands it one (view s) budget acts over kept few ran)) runs
      (here.access ∙ sym (joined_access m.items (clients.waiting budget one) refl))
      (joined_others m.items (clients.waiting budget one) refl here.others)

  -- ---- it is certified

  module _ (own : Transaction) (it : clients.Running) (kept : RunningKept own it) where
    -- it has read what it would read on the view, ..
    pub same_reads : ActsHold (view s) own.acts → ReadsSame (clients.view m) it
    same_reads hold =
        subst (λ (t : Nodes). ReadsSame t it) its_view (reads_same it (view s) own.acts kept.acts (view_tree s m here) hold)

    -- .. or a read of it has another answer there
    pub parts : (read : ℕ) (question : Question) → Differs (view s) own read question
        → Parts (reads_here it) (reads_on (clients.view m) it) (Some (Conflict read question))
    parts read question differs =
        subst (λ (q : Question). Parts (reads_here it) (reads_on (clients.view m) it) (Some (Conflict read q))) (sym differs.is)
        (subst (λ (t : Nodes). Parts (reads_here it) (reads_on t it) (Some (Conflict read differs.asked.question))) its_view
        (reads_part it (view s) own.acts kept.acts read differs.answer differs.asked differs.differs differs.at))

  -- ---- a cut

  cuts : (number acts : ℕ) (running : List Transaction) (ms : List clients.Running) → s.running ≡ running → m.running ≡ ms
      → RunKept running ms → CanFollow (record s { running = running }) (changes.Cut number acts)
      → StateKept (records.cut acts running s) (cut_by acts ms m)
  cuts number acts [] ms is other kept can = absurd can
  cuts number acts (it ∷ running) [] is other kept can = absurd kept
  cuts number acts (it ∷ running) (one ∷ ms) is other kept can =
      let few : acts ≤ one.acts = subst (λ (n : ℕ). acts ≤ n) kept.0.count can.1.few in
      one_waits it one acts (take acts it.acts) _ running ms kept.0 (below few kept.0.few)
      (first_there one (view s) it.acts kept.0.acts acts few (view_tree s m here) can.1.holds) kept.1
    where
      below : {n : ℕ} → acts ≤ n → n ≤ ACT_LIMIT → acts ≤ ACT_LIMIT
      below few within = omega (arith, few, within)

  -- the first of those that ran waits, with as many acts as hold on the view
  pub cut_kept : (number acts : ℕ) → CanFollow s (changes.Cut number acts) → StateKept (after s (changes.Cut number acts)) (cut acts m)
  cut_kept number acts can = cuts number acts s.running m.running refl refl here.running can

  longest_by : (number acts : ℕ) (running : List Transaction) (it : clients.Running) (ms : List clients.Running) → RunKept running (it ∷ ms)
      → CanFollow (record s { running = running }) (changes.Cut number acts)
      → (number ≡ it.number) × IsLongest (clients.view m) it acts
  longest_by number acts [] it ms kept can = absurd can
  longest_by number acts (own ∷ running) it ms kept can = (
    sym can.0 ∙ kept.0.number,
    subst (λ (t : Nodes). IsLongest t it acts) its_view
        (longest_is it (view s) own.acts kept.0.acts acts (kept.0.count) (view_tree s m here) can.1),
  )

  -- these are so many as have read what they would read on the view
  pub longest : (number acts : ℕ) → CanFollow s (changes.Cut number acts) → (it : clients.Running) (ms : List clients.Running)
      → m.running ≡ it ∷ ms → (number ≡ it.number) × IsLongest (clients.view m) it acts
  longest number acts can it ms runs =
      longest_by number acts s.running it ms (subst (RunKept s.running) runs here.running) can

-- ---- a resolution

-- files that rise are the entries of their map
files_are : (files : List (Path × List ℕ)) → IsTrue (is_sorted path_cmp files) → files ≡ entries (kept_files files)
files_are files rising =
    sym
    (same_entries path_cmp path_total path_same (entries (kept_files files)) files (entries_sorted (kept_files files)) (tested _ rising)
    (λ q. sym (get-entries (kept_files files) q) ∙ get-from_entries path_total files q))

-- what the plan of the client comes to is what that of the machine does, if both say the same and offer the same files
plans_agree : (p : plans.Plan) (plan : Plan) (code : Code) (local t : Nodes) (done : Resolution) → p.script ≡ plan.script.name
    → p.budget ≡ plan.budget → code ≡ plan.script.code → offered p.keeps local ≡ plan.offered → AreGood plan.offered → IsScript code
    → IsTree t → done ≡ resolved p code local t → ResolutionStands done (resolution_of plan t)
plans_agree p plan code local t done name budget same files good script tree ran =
    let found = are_found plan.script.code plan.offered t plan.budget in
    let rising : IsTrue (is_sorted path_cmp plan.offered) =
    subst (λ (f : List (Path × List ℕ)). IsTrue (is_sorted path_cmp f)) files (offers_files p.keeps local).rising in
    record {
      name = ap (λ (d : Resolution). d.script) ran ∙ name;
      budget = ap (λ (d : Resolution). d.budget) ran ∙ budget;
      kept =
          ap (λ (d : Resolution). d.kept) ran
          ∙ (λ i. files_among (found_in (same i) (kept_files (files i)) t (budget i)) (files i))
          ∙ files_are (found_by plan t) (found.rising rising);
      script = subst IsScript same script;
      acts =
          ap (λ (d : Resolution). d.acts) ran ∙ (λ i. (run (same i) (kept_files (files i)) t (budget i)).acts)
          ∙ sym (ap (λ (ran : Ran). ran.acts) found.same_run);
      tree = tree;
      files = kept_spelled (found_by plan t)
          (among_good (found_in plan.script.code (kept_files plan.offered) t plan.budget) plan.offered good);
    }

-- so the first that waits is resolved as the machine plans it, and one for which something is planned can be resolved
planned_by : (held : Nodes) (item : Item) (first : clients.Item) (plan : Plan) (code : Code) (t : Nodes) (done : Resolution)
    → ItemStands held item first → IsSpelledTree held → IsScript code → IsTree t → code ≡ plan.script.code
    → (o : OnConflict Declared) → clients.plan_by held first o ≡ Some plan
    → IsPlannedRun (plan_for item.script item.budget (option_named o)) code (after_acts held item.acts) t done
    → ResolutionStands done (resolution_of plan t) × CanResolve o
planned_by held item first plan code t done stands spelled script tree same options.Reexec ours ran =
    let is = same_Some _ _ ours in (
      plans_agree (record { script = item.script; budget = item.budget; keeps = false }) plan code (after_acts held item.acts) t done
          (stands.name ∙ ap (λ (p : Plan). p.script.name) is)
          (stands.budget ∙ ap (λ (p : Plan). p.budget) is) same (ap (λ (p : Plan). p.offered) is)
          (subst (λ (p : Plan). AreGood p.offered) is tt) script tree ran,
      tt,
    )
planned_by held item first plan code t done stands spelled script tree same (options.Resolver other) ours ran =
    let is = same_Some _ _ ours in
    let good : AreGood (files_of (local_run held first).tree) =
    tree_files_good _ (run_spelled first.script.code held first.budget stands.script spelled) in (
      plans_agree (record { script = other.name; budget = ACT_LIMIT; keeps = true }) plan code (after_acts held item.acts) t done
          (ap (λ (p : Plan). p.script.name) is)
          (ap (λ (p : Plan). p.budget) is) same (ap files_of stands.tree ∙ ap (λ (p : Plan). p.offered) is)
          (subst (λ (p : Plan). AreGood p.offered) is good) script tree ran,
      tt,
    )
planned_by held item first plan code t done stands spelled script tree same o ours ran = absurd ran

-- what is said of the first that was submitted
abbrev pub noted_as : serving.Verdict → NotedIn
noted_as (serving.Settled number) = noteds.Settled number
noted_as (serving.Conflict read question) = noteds.Conflict read

-- ---- classes

-- the numbers of those of first class, once this one has yielded
abbrev pub yields : (number : ℕ) → (pends : Bool) → List ℕ → List ℕ
yields number true first = classed number false first
yields number false first = first

-- what is known of those that run, of which no two have the same number
behind : (ns ms : List ℕ) → AreApart (ns ++ ms) → AreApart ms
behind [] ms apart = apart
behind (n ∷ ns) ms apart = behind ns ms apart.1

up_to_behind : (last : ℕ) (ns ms : List ℕ) → AreUpTo last (ns ++ ms) → AreUpTo last ms
up_to_behind last [] ms below = below
up_to_behind last (n ∷ ns) ms below = up_to_behind last ns ms below.1

runs_apart : (s : State) → AreNumbered s → AreApart (run_numbers s.running)
runs_apart s has = behind (tids s.items) (run_numbers s.running) has.apart

yielded_by : (items : List Item) (number : ℕ) (first : List ℕ) (running : List Transaction) (ms : List clients.Running) → RunKept running ms
    → AreApart (run_numbers running)
    → yielded_to items number running (live_with first ms) ≡ live_with (yields number (waits_of items) first) ms
yielded_by [] number first running ms kept apart = refl
yielded_by (item ∷ items) number first running ms kept apart = lives_second number first running ms kept apart

-- ---- a record each

module _ {scripts : List Declared} {s : State} {lives : List Live} {first : List ℕ} {m : ClientState}
    (here : KeptLive scripts s lives first m) where
  pub stands_so : StateStands s lives first m
  stands_so = stands_with s lives first m here.kept here.runs

  -- ---- classes alone

  -- it yields, if transactions wait
  pub yielded_live : (number : ℕ) → AreNumbered s
      → KeptLive scripts s (yielded number s lives) (yields number (has_any m.items) first) m
  yielded_live number has = record {
    kept = here.kept;
    runs =
        ap (yielded number s) here.runs
        ∙ yielded_by s.items number first s.running m.running here.kept.running (runs_apart s has)
        ∙ ap (λ (pends : Bool). live_with (yields number pends first) m.running) (waits_by s.items s.held m.items here.kept.items);
    named = here.named;
  }

  -- all are second class
  pub second_live : KeptLive scripts s (map second_class lives) [] m
  second_live = record {
    kept = here.kept;
    runs = ap (map second_class) here.runs ∙ lives_all_second first m.running;
    named = here.named;
  }

  -- ---- those that run

  pub held_live : (t : Nodes) → CanFollow s (changes.Held t) → IsTree t → IsSpelledTree t
      → KeptLive scripts (after s (changes.Held t)) lives first (hold t m)
  held_live t can tree spelled = record {
    kept = with_tree s m here.kept t s.running m.running can tree spelled here.kept.running;
    runs = here.runs;
    named = record { items = here.named.items; running = here.named.running };
  }

  pub begun_live : AreNumbered s → (number : ℕ) (script : Declared) (option : OnConflictNamed) (class : Bool)
      (on_conflict : OnConflict Declared) → CanFollow s (changes.Begun number script.name option) → IsScript script.code
      → option ≡ option_named on_conflict → IsNamed scripts script → HasNamed scripts on_conflict
      → KeptLive scripts (after s (changes.Begun number script.name option))
      (lives ++ record { first = class; code = Some script.code } ∷ []) (classed (m.last + 1) class first) (begin script on_conflict m)
  begun_live has number script option class on_conflict can is option_is named resolver =
      let next : number ≡ m.last + 1 = can.1 ∙ ap (λ (n : ℕ). n + 1) here.kept.last in
      let own : Transaction =
      record { number = number; script = script.name; option = option; base = view s; acts = [] } in
      let it : clients.Running = begun script on_conflict m in
      let one : RunningKept own it =
      new_kept own it (view s) (clients.view m) next refl is option_is (its_view s m here.kept) (view_tree s m here.kept)
      (view_spelled s m here.kept) in
      let below : AreUpTo m.last (run_numbers s.running) =
      subst (λ (n : ℕ). AreUpTo n (run_numbers s.running)) here.kept.last
      (up_to_behind s.last (tids s.items) (run_numbers s.running) has.last) in
      record {
        kept = record {
          held = here.kept.held;
          items = here.kept.items;
          running = kept_more s.running m.running own it here.kept.running one;
          last = next;
          tree = here.kept.tree;
          spelled = here.kept.spelled;
          access = here.kept.access;
          others = here.kept.others;
        };
        runs =
            ap (λ (all : List Live). all ++ record { first = class; code = Some script.code } ∷ []) here.runs
            ∙ lives_more m.last class first s.running m.running it here.kept.running below refl;
        named = record {
          items = here.named.items;
          running = all_push (RunIsNamed scripts) m.running it (record { script = named; resolver = resolver }) here.named.running;
        };
      }

  -- one of them is another now, of the same number and script
  changed_live : (number : ℕ) (change : Transaction → Transaction) (other : clients.Running → clients.Running)
      → ((it : clients.Running) → live_as first (other it) ≡ live_as first it)
      → ((it : clients.Running) → RunIsNamed scripts it → RunIsNamed scripts (other it))
      → ((it : Transaction) (one : clients.Running) → numbered number s.running ≡ Some it → clients.numbered number m ≡ Some one
      → RunningKept it one → RunningKept (change it) (other one))
      → KeptLive scripts (record s { running = with_running number change s.running }) lives first
      (record m { running = clients.with_running number other m.running })
  changed_live number change other same named each = record {
    kept =
        with_runs s m here.kept _ _ (kept_with number change other s.running m.running here.kept.running each);
    runs = here.runs ∙ sym (lives_changed number first other same m.running);
    named = changed_named scripts number other named m here.named;
  }

  anew_named : (t : Nodes) (it : clients.Running) → RunIsNamed scripts it → RunIsNamed scripts (anew t it)
  anew_named t it named = record { script = named.script; resolver = named.resolver }

  -- it begins anew on the view
  pub again_live : (number : ℕ) (own : Transaction) → numbered number s.running ≡ Some own
      → KeptLive scripts (after s (changes.Again own.number)) lives first (again number m)
  again_live number own is =
      subst (λ (n : ℕ). KeptLive scripts (after s (changes.Again n)) lives first (again number m))
      (sym (own_number number s.running own is))
      (changed_live number (records.anew (view s)) (anew (clients.view m)) (λ it. refl) (anew_named (clients.view m))
      (λ it one found there kept. anew_kept it one (view s) (clients.view m) kept (its_view s m here.kept) (view_tree s m here.kept)
      (view_spelled s m here.kept)))

  -- or on what was brought
  pub fetched_live : (number : ℕ) (t : Nodes) → CanFollow s (changes.Fetched number t) → IsTree t → IsSpelledTree t
      → KeptLive scripts (after s (changes.Fetched number t)) lives first (fetch number t m)
  fetched_live number t can tree spelled =
      let here_is : after_each t s.items ≡ t = ap (after_each t) can.1 in
      let there_is : clients.after_items t m.items ≡ t =
      none_waits m.items s.held (subst (λ (items : List Item). ItemsStand items s.held m.items) can.1 here.kept.items) t in
      let changed : KeptLive scripts
      (record s { running = with_running number (records.anew (after_each t s.items)) s.running }) lives first
      (record m { running = clients.with_running number (anew (clients.after_items t m.items)) m.running }) =
      changed_live number (records.anew (after_each t s.items)) (anew (clients.after_items t m.items)) (λ it. refl)
      (anew_named (clients.after_items t m.items))
      (λ it one found there kept. anew_kept it one (after_each t s.items) (clients.after_items t m.items) kept (here_is ∙ sym there_is)
      (subst IsTree (sym here_is) tree) (subst IsSpelledTree (sym here_is) spelled)) in
      record {
        kept = with_tree s m here.kept t _ _ can.1 tree spelled changed.kept.running;
        runs = changed.runs;
        named = record { items = changed.named.items; running = changed.named.running };
      }

  -- ---- one of them, with what is known of it

  module _ (number : ℕ) (own : Transaction) (live : Live) (code : Code) (is : numbered number s.running ≡ Some own)
      (besides : live_numbered number s.running lives ≡ Some live) (has : live.code ≡ Some code) where
    its_code : (it : clients.Running) → clients.numbered number m ≡ Some it → code ≡ it.script.code
    its_code it found =
        let one : Running number s.running lives first it =
        running_is number s.running lives first m.running stands_so.running it found in
        let same : one.besides ≡ live = same_Some one.besides live (sym one.lives ∙ besides) in
        same_Some code it.script.code (sym has ∙ ap (λ (l : Live). l.code) (sym same) ∙ one.stands.code)

    -- it does its next act
    pub acted_live : (act : Act) → CanAct own live.first code → next_acts own code ≡ act ∷ []
        → KeptLive scripts (after s (changes.Acted own.number act)) lives first (act_once number m)
    acted_live act can next =
        subst (λ (n : ℕ). KeptLive scripts (after s (changes.Acted n act)) lives first (act_once number m))
        (sym (own_number number s.running own is))
        (changed_live number (with_act act) one_more (λ it. refl)
        (λ it named. record { script = named.script; resolver = named.resolver })
        (λ it one found there kept.
        subst (λ (t : Transaction). RunningKept (with_act act t) (one_more one)) (same_Some own it (sym is ∙ found))
        (next_kept own one live.first code act
        (subst (λ (t : Transaction). RunningKept t one) (same_Some it own (sym found ∙ is)) kept) (its_code one there) can next)))

    ended_kept : may_end own code ≡ true → ActsHold (view s) own.acts → KeptAs number own m.running
        → StateKept (after s (changes.Ended number)) (end number m)
    ended_kept may holds k =
        let may_it : may_end own k.it.script.code ≡ true = ap (may_end own) (sym (its_code k.it k.is)) ∙ may in
        let ran = waits_there k.it (view s) own.acts k.kept.acts (view_tree s m here.kept) holds ACT_LIMIT
        (over_waits own k.it k.kept.base k.kept.count may_it k.kept.few) in
        subst (λ (o : Option Transaction). StateKept
        (record s { items = s.items ++ ended o; running = others number s.running }) (end number m)) (sym is)
        (subst (λ (o : Option clients.Running). StateKept
        (record s { items = s.items ++ ended (Some own); running = others number s.running })
        (record m { items = joined m.items o; running = clients.others number m.running })) (sym k.is)
        (one_waits s m here.kept own k.it ACT_LIMIT own.acts (so_far k.it).ended (others number s.running)
        (clients.others number m.running) k.kept (omega arith) ran (kept_others number s.running m.running here.kept.running)))

    -- it ends, and waits
    pub ended_live : may_end own code ≡ true → CanFollow s (changes.Ended own.number)
        → KeptLive scripts (after s (changes.Ended own.number)) (other_lives number s.running lives) first (end number m)
    ended_live may can =
        let same : own.number ≡ number = own_number number s.running own is in
        let holds : RunIs number (λ it. ActsHold (view s) it.acts) s.running =
        subst (λ (n : ℕ). RunIs n (λ it. ActsHold (view s) it.acts) s.running) same can in
        let hold : ActsHold (view s) own.acts = subst (IsSomeOf (λ it. ActsHold (view s) it.acts)) is holds in
        subst (λ (n : ℕ). KeptLive scripts (after s (changes.Ended n)) (other_lives number s.running lives) first (end number m)) (sym same)
        (record {
          kept = ended_kept may hold (kept_as number s.running m.running here.kept.running own is);
          runs =
              ap (other_lives number s.running) here.runs ∙ lives_others number first s.running m.running here.kept.running;
          named = record {
            items = joined_named scripts m.items (clients.numbered number m) here.named.items (λ it found.
                all_found number (RunIsNamed scripts) m.running it found here.named.running);
            running = all_others number (RunIsNamed scripts) m.running here.named.running;
          };
        })

  -- ---- the first that waits

  -- the first is at this stage, with this option and this access
  head_live : (option : OnConflictNamed → OnConflictNamed) (o : OnConflict Declared → OnConflict Declared)
      (stage : Stage) (other : clients.Stage) (a : Access)
      → ((it : OnConflict Declared) → HasNamed scripts it → HasNamed scripts (o it)) → (m.items ≡ [] → a ≡ no_access)
      → ((item : Item) (later : List Item) (it : clients.Item) (after : List clients.Item) → s.items ≡ item ∷ later
      → m.items ≡ it ∷ after → ItemStands s.held item it
      → (option item.option ≡ option_named (o it.option)) × StageStands stage other × IsPlanned (o it.option) other
      × (a ≡ access_by other))
      → KeptLive scripts
      (record s { items = with_head (λ item. record item { option = option item.option; stage = stage }) s.items; access = a }) lives first
      (change_first (λ it. record it { option = o it.option; stage = other }) m)
  head_live option o stage other a keeps none each = by s.items m.items refl refl here.kept.items here.kept.running here.named.items
    where
      by : (items : List Item) (ms : List clients.Item) → s.items ≡ items → m.items ≡ ms → ItemsStand items s.held ms
          → RunKept s.running m.running → AllNamed scripts ms
          → KeptLive scripts
          (record s { items = with_head (λ item. record item { option = option item.option; stage = stage }) items; access = a })
          lives first
          (record m { items = with_first (λ it. record it { option = o it.option; stage = other }) ms })
      by [] [] some all stand runs named = record {
        kept = with_queue s m here.kept [] [] s.running m.running a tt runs (none all) tt;
        runs = here.runs;
        named = search rules;
      }
      by (item ∷ items) (it ∷ ms) some all stand runs named =
          let is : (option item.option ≡ option_named (o it.option)) × StageStands stage other × IsPlanned (o it.option) other
          × (a ≡ access_by other) =
          each item items it ms some all stand.0 in
          let here_stands : ItemStands s.held item it = stand.0 in
          let stands : ItemStands s.held (record item { option = option item.option; stage = stage })
          (record it { option = o it.option; stage = other }) = search rules in
          let others : AreWaiting ms = subst OthersWait all here.kept.others in
          let resolver : HasNamed scripts (o it.option) = keeps it.option named.0.resolver in
          record {
            kept = with_queue s m here.kept _ _ s.running m.running a (stands, stand.1) runs is.3 others;
            runs = here.runs;
            named = record { items = (record { script = named.0.script; resolver = resolver }, named.1); running = here.named.running };
          }
      by items ms some all stand runs named = absurd stand

  -- the first is at this stage, with this access
  pub reached_live : (stage : Stage) (other : clients.Stage) (a : Access) → (m.items ≡ [] → a ≡ no_access)
      → ((item : Item) (later : List Item) (it : clients.Item) (after : List clients.Item) → s.items ≡ item ∷ later
      → m.items ≡ it ∷ after → ItemStands s.held item it
      → StageStands stage other × IsPlanned it.option other × (a ≡ access_by other))
      → KeptLive scripts (record s { items = with_head (staged stage) s.items; access = a }) lives first (reach other m)
  reached_live stage other a none each =
      head_live (λ o. o) (λ o. o) stage other a (λ o has. has) none
      (λ item later it after some all stands. let is = each item later it after some all stands in (stands.option, is.0, is.1, is.2))

  -- the first is to be resolved by this script
  pub repaired_live : (name : List ℕ) (script : Declared) → script.name ≡ name → IsNamed scripts script
      → KeptLive scripts (after s (changes.Repaired name)) lives first (repair script m)
  repaired_live name script is named =
      head_live (λ _. on.Resolver name) (λ _. options.Resolver script) stages.Conflict clients.Conflict no_access (λ o has. named)
      (λ none. refl) (λ item later it after some all stands. (ap (λ (n : List ℕ). on.Resolver n) (sym is), tt, tt, refl))

  left_by : (queue : List Item) (ms : List clients.Item) → (queue ≡ [] → ⊥) → ItemsStand queue s.held ms → OthersWait ms
      → RunKept s.running m.running → AllNamed scripts ms
      → KeptLive scripts (left s queue) lives first (leave_by ms m)
  left_by [] ms some stand others runs named = absurd (some refl)
  left_by (item ∷ items) (it ∷ ms) some stand others runs named = record {
    kept = record {
      held = stand.0.tree ∙ ap (λ (t : Nodes). (local_run t it).tree) here.kept.held;
      items = stand.1;
      running = runs;
      last = here.kept.last;
      tree = subst IsTree (sym stand.0.tree) (run_tree it.script.code empty s.held it.budget here.kept.tree);
      spelled = subst IsSpelledTree (sym stand.0.tree) (run_spelled it.script.code s.held it.budget stand.0.script here.kept.spelled);
      access = sym (waiting_access ms others);
      others = later_wait ms others;
    };
    runs = here.runs;
    named = record { items = named.1; running = here.named.running };
  }
  left_by queue ms some stand others runs named = absurd stand

  left_so : (s.items ≡ [] → ⊥) → KeptLive scripts (left s s.items) lives first (leave m)
  left_so some =
      left_by s.items m.items some here.kept.items here.kept.others here.kept.running here.named.items

  pub left_live : CanFollow s changes.Left → KeptLive scripts (after s changes.Left) lives first (leave m)
  left_live can = left_so (λ none. subst (λ (items : List Item). HeadIs MayLeave items) none can)

  -- ---- what is said of the first that was submitted

  -- one that conflicts with such an option is to be resolved
  in_conflict : (option : OnConflictNamed) → stage_by option ≡ Some stages.Conflict → head_option s.items ≡ Some option
      → KeptLive scripts (record s { items = with_head (staged stages.Conflict) s.items; access = no_access }) lives first
      (reach clients.Conflict m)
  in_conflict option resolves is =
      reached_live stages.Conflict clients.Conflict no_access (λ none. refl) (λ item later it after some all stands. (
        tt,
        can_resolve it.option
            (ap stage_by (sym stands.option ∙ same_Some item.option option (sym (ap head_option some) ∙ is)) ∙ resolves),
        refl,
      ))

  conflicted_by : (read : ℕ) (question : Question) (option : OnConflictNamed) → head_option s.items ≡ Some option
      → KeptLive scripts (stays_in (stage_by option) s) lives first (told_change (serving.Conflict read question) option m)
  conflicted_by read question on.Reexec is = in_conflict on.Reexec refl is
  conflicted_by read question (on.Resolver name) is = in_conflict (on.Resolver name) refl is
  conflicted_by read question on.Abort is =
      left_so (λ none. let e : None ≡ Some on.Abort = sym (ap head_option none) ∙ is in cc)
  conflicted_by read question on.Manual is =
      reached_live stages.Manual clients.Manual no_access (λ none. refl) (λ item later it after some all stands. (tt, tt, refl))

  conflicted_as : (queue : List Item) (option : OnConflictNamed) → head_option queue ≡ Some option
      → conflicted s queue ≡ stays_in (stage_by option) s
  conflicted_as [] option is = absurd cc
  conflicted_as (item ∷ items) option is = ap (λ (o : OnConflictNamed). stays_in (stage_by o) s) (same_Some item.option option is)

  -- what becomes of it, by its option
  pub told_live : (told : serving.Verdict) (option : OnConflictNamed) → head_option s.items ≡ Some option
      → CanFollow s (verdict_change (noted_as told))
      → KeptLive scripts (after s (verdict_change (noted_as told))) lives first (told_change told option m)
  told_live (serving.Settled number) option is can = left_live can
  told_live (serving.Conflict read question) option is can =
      subst (λ (next : State). KeptLive scripts next lives first (told_change (serving.Conflict read question) option m))
      (sym (conflicted_as s.items option is)) (conflicted_by read question option is)

  -- it is resolved as the machine resolves it
  pub resolved_live : (plan : Plan) → head_plan m.held m.items ≡ Some plan → (code : Code) → plan.script.code ≡ code → IsScript code
      → (t : Nodes) → IsTree t → (done : Resolution) → IsHeadsRun s.held s.items code t done
      → KeptLive scripts (after s (Resolved done (access_of done.acts t))) lives first
      (reach (clients.Resolved (resolution_of plan t)) m)
  resolved_live plan planned code same script t tree done ran =
      reached_live (stages.Resolved done) (clients.Resolved (resolution_of plan t)) (access_of done.acts t)
      (λ none. let clash : None ≡ Some plan = sym (ap (head_plan m.held) none) ∙ planned in absurd cc)
      (λ item later it others some all stands.
      let is =
      planned_by s.held item it plan code t done stands here.kept.spelled script tree (sym same) it.option
      (ap (λ (held : Nodes). clients.plan_of held it) here.kept.held ∙ ap (head_plan m.held) (sym all) ∙ planned)
      (rw stands.option at (subst (λ (items : List Item). IsHeadsRun s.held items code t done) some ran)) in
      (is.0, is.1, ap (λ (acts : List Act). access_of acts t) is.0.acts))
