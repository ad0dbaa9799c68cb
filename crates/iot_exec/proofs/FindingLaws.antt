-- What `keep` finds, and that a run needs no other kept file.
use Rattle.std.specs.Prelude.{⊤}
use Rattle.std.proofs.Common.{◌≡◌, ◌⊎◌, ℕ, zero, suc, ◌+◌, ◌-◌, ◌<◌, ◌≤◌, Bool, true, false, IsTrue, List, [], ◌∷◌, ◌++◌, Option, Some}
use Rattle.std.proofs.Common.{None, Result, Ok, Err, length, take, get_or, refl, sym, ap, subst, ◌∙◌, inl, inr, append_assoc}
use Rattle.std.proofs.Common.{length-append, zero-add, arith, if◌then◌else◌}
use Rattle.std.proofs.lemmas.List.{append-nil, take_more, take_all}
use Rattle.std.proofs.lemmas.List.Elements.{filter_map-append}
use Rattle.std.specs.BTreeSet.{BTreeSet, contains, Updates}
use Rattle.std.specs.Result.{result_ok}
use Rattle.std.specs.Cmp.{eq_by_cmp_equiv, first_so, second_so}
use Rattle.std.specs.Cmp.Derive.{both_true}
use Rattle.std.specs.FinMap.{get, get-from_entries, is_sorted, find}
use Rattle.std.specs.FinMap.Entries.{below_all}
use Rattle.std.specs.List.{filter_map, cons_option, list_any}
use Rattle.std.specs.Ordering.{is_lt, eq_by_cmp}
use Rattle.iot_text.specs.Paths.{path_cmp}
use Rattle.iot_text.proofs.PathsLaws.{path_total}
use Rattle.iot_tree.specs.Tree.{Path, Nodes}
use Rattle.iot_tree.specs.declared.acts.Act.{Act}
use Rattle.iot_tree.proofs.TreeLaws.{same_or_apart}
use Rattle.iot_lang.specs.Code.{Code, End, Plain, Halt, If, IfElse, For}
use Rattle.iot_lang.specs.declared.words.Command.{Command}
use Rattle.iot_lang.specs.declared.words.Command.TheVariants.{Echo, Set, Read, MakeDir, RemoveDir, Remove, Write, Append, Copy, Concat}
use Rattle.iot_lang.specs.declared.words.Command.TheVariants.{Move, Cat, List as Ls, Keep, Chmod}
use Rattle.iot_acts.specs.Traces.{after_update}
use Rattle.iot_exec.specs.Plans.{Plan, mapped, Performed, perform, Effect, going_on, act_of}
use Rattle.iot_exec.specs.Endings.{ending}
use Rattle.iot_exec.specs.Commands.{Kept, kept_files, Ending, given, at_kept, keep, table, command_name}
use Rattle.iot_exec.specs.Operands.{path_operand}
use Rattle.iot_exec.specs.Places.{Frame, Rest, Place, Over, At, reached, start, plan_at, is_over, ran_before, ran_then, exec}
use Rattle.iot_exec.specs.Execs.{IsNextAt, place, kept_by}
use Rattle.iot_exec.specs.declared.exec.Exec.{Exec}
use Rattle.iot_exec.specs.Finding.{first_of_both, wanted_by, wanted_in, if_kept, found_of, next_found, found_then, found_from}
use Rattle.iot_exec.specs.Finding.{found_in, is_among, file_if, files_among, AreFound}
use Rattle.iot_exec.specs.Positions.{place_at}
use Rattle.iot_exec.specs.Values.{fresh}
use Rattle.iot_exec.specs.declared.env.Env.{Env}
use Rattle.iot_exec.specs.declared.endings.Refusal.{Refusal}
use Rattle.iot_exec.proofs.PlaceLaws.{exec_from_start}
use Rattle.iot_exec.proofs.ExecLaws.{start_is}

abbrev File : Type 0
File = Path × List ℕ

-- ---- one file after the other

pub one_more : (paths : List Path) (files : List File) (i : ℕ) (row file : File) → i < length files → row ≡ get_or files i row
    → file_if paths row ≡ Some file
    → filter_map (file_if paths) (take i files) ++ file ∷ [] ≡ filter_map (file_if paths) (take (i + 1) files)
one_more paths files i row file lt is found =
    sym (ap (filter_map (file_if paths)) (take_more files i row lt ∙ ap (λ (r : File). take i files ++ r ∷ []) (sym is))
    ∙ filter_map-append (file_if paths) (take i files) (row ∷ [])
    ∙ ap (λ (o : Option File). filter_map (file_if paths) (take i files) ++ cons_option o []) found)

pub no_more : (paths : List Path) (files : List File) (i : ℕ) (row : File) → i < length files → row ≡ get_or files i row
    → file_if paths row ≡ None → filter_map (file_if paths) (take i files) ≡ filter_map (file_if paths) (take (i + 1) files)
no_more paths files i row lt is none =
    sym (ap (filter_map (file_if paths)) (take_more files i row lt ∙ ap (λ (r : File). take i files ++ r ∷ []) (sym is))
    ∙ filter_map-append (file_if paths) (take i files) (row ∷ [])
    ∙ ap (λ (o : Option File). filter_map (file_if paths) (take i files) ++ cons_option o []) none
    ∙ append-nil (filter_map (file_if paths) (take i files)))

-- ---- paths in a set

either_first : (a b r : Bool) → (if a then true else if b then true else r) ≡ (if b then true else if a then true else r)
either_first true true r = refl
either_first true false r = refl
either_first false true r = refl
either_first false false r = refl

-- one path more
among_push : (q path : Path) (paths : List Path)
    → is_among q (paths ++ path ∷ []) ≡ (if eq_by_cmp path_cmp q path then true else is_among q paths)
among_push q path [] = refl
among_push q path (other ∷ paths) =
    ap (λ (r : Bool). if eq_by_cmp path_cmp q other then true else r) (among_push q path paths)
    ∙ either_first (eq_by_cmp path_cmp q other) (eq_by_cmp path_cmp q path) (is_among q paths)

-- the set has the paths
abbrev pub HasPaths : BTreeSet Path → List Path → Type 0
HasPaths set paths = (q : Path) → contains path_cmp set q ≡ is_among q paths

pub has_none : (set : BTreeSet Path) → set.keys ≡ [] → HasPaths set []
has_none set empty q = ap (list_any (eq_by_cmp path_cmp q)) empty

pub has_more : (paths : List Path) (i : ℕ) (path key : Path) (set more : BTreeSet Path) → i < length paths → path ≡ get_or paths i path
    → key ≡ path → Updates path_cmp set more key true → HasPaths set (take i paths) → HasPaths more (take (i + 1) paths)
has_more paths i path key set more lt is same updates before q =
    updates.0 q
    ∙ ap (λ (r : Bool). if eq_by_cmp path_cmp key q then true else r) (before q)
    ∙ ap (λ (k : Path). if eq_by_cmp path_cmp k q then true else is_among q (take i paths)) same
    ∙ ap (λ (b : Bool). if b then true else is_among q (take i paths)) ((eq_by_cmp_equiv path_total).symm path q)
    ∙ sym (among_push q path (take i paths))
    ∙ ap (is_among q) (sym (take_more paths i path lt ∙ ap (λ (r : Path). take i paths ++ r ∷ []) (sym is)))

pub has_all : (paths : List Path) (i : ℕ) (set : BTreeSet Path) → length paths ≤ i → HasPaths set (take i paths) → HasPaths set paths
has_all paths i set over before q = before q ∙ ap (is_among q) (take_all i paths over)

-- what the set says of a file
pub file_by_set : (paths : List Path) (set : BTreeSet Path) (row : File) (found : Option File) → HasPaths set paths
    → found ≡ (if contains path_cmp set row.0 then Some row else None) → file_if paths row ≡ found
file_by_set paths set row found has is = sym (is ∙ ap (λ (b : Bool). if b then Some row else None) (has row.0))

-- ---- the files among them

below : (paths : List Path) (p : Path) (files : List File) → IsTrue (below_all path_cmp p files)
    → IsTrue (below_all path_cmp p (files_among paths files))
below paths p [] h = refl
below paths p ((q, bytes) ∷ files) h = by (is_among q paths) (below paths p files (second_so (is_lt (path_cmp p q)) _ h))
  where
    by : (b : Bool) → IsTrue (below_all path_cmp p (files_among paths files))
        → IsTrue (below_all path_cmp p (cons_option (if b then Some (q, bytes) else None) (files_among paths files)))
    by true rest = both_true (first_so (is_lt (path_cmp p q)) _ h) rest
    by false rest = rest

-- they rise as all do
rise : (paths : List Path) (files : List File) → IsTrue (is_sorted path_cmp files) → IsTrue (is_sorted path_cmp (files_among paths files))
rise paths [] h = refl
rise paths ((q, bytes) ∷ files) h =
    by (is_among q paths) (below paths q files (first_so (below_all path_cmp q files) _ h))
    (rise paths files (second_so (below_all path_cmp q files) _ h))
  where
    by : (b : Bool) → IsTrue (below_all path_cmp q (files_among paths files)) → IsTrue (is_sorted path_cmp (files_among paths files))
        → IsTrue (is_sorted path_cmp (cons_option (if b then Some (q, bytes) else None) (files_among paths files)))
    by true first rest = both_true first rest
    by false first rest = rest

never : {A : Type 0} → true ≡ false → A
never is = absurd cc

chosen : (p q : Path) (bytes : List ℕ) (among files : List File) (at_p at_q same : Bool) → eq_by_cmp path_cmp p q ≡ same
    → (same ≡ true → at_p ≡ at_q) → find path_cmp p among ≡ (if at_p then find path_cmp p files else None)
    → find path_cmp p (cons_option (if at_q then Some (q, bytes) else None) among)
    ≡ (if at_p then find path_cmp p ((q, bytes) ∷ files) else None)
chosen p q bytes among files true true true is alike rest = rw is refl
chosen p q bytes among files true false true is alike rest = never (alike refl)
chosen p q bytes among files false true true is alike rest = never (sym (alike refl))
chosen p q bytes among files false false same is alike rest = rest
chosen p q bytes among files true true false is alike rest = rw is rest
chosen p q bytes among files true false false is alike rest = rw is rest
chosen p q bytes among files false true false is alike rest = rw is rest

among_alike : (paths : List Path) (p q : Path) → eq_by_cmp path_cmp p q ≡ true → is_among p paths ≡ is_among q paths
among_alike paths p q is = elim (same_or_apart p q) [
  | inl same ↦ ap (λ p. is_among p paths) same
  | inr apart ↦ never (sym is ∙ apart)
]

either_way : (o : Option (List ℕ)) (b : Bool) → o ≡ (if b then o else o)
either_way o true = refl
either_way o false = refl

found_among : (paths : List Path) (p : Path) (files : List File)
    → find path_cmp p (files_among paths files) ≡ (if is_among p paths then find path_cmp p files else None)
found_among paths p [] = either_way None (is_among p paths)
found_among paths p ((q, bytes) ∷ files) =
    chosen p q bytes (files_among paths files) files (is_among p paths) (is_among q paths) (eq_by_cmp path_cmp p q) refl
    (among_alike paths p q) (found_among paths p files)

-- what is kept at a path of those among them
pub kept_among : (paths : List Path) (files : List File) (p : Path)
    → get (kept_files (files_among paths files)) p ≡ (if is_among p paths then get (kept_files files) p else None)
kept_among paths files p =
    get-from_entries path_total (files_among paths files) p
    ∙ found_among paths p files
    ∙ ap (λ (o : Option (List ℕ)). if is_among p paths then o else None) (sym (get-from_entries path_total files p))

-- ---- an act needs no other kept file than the one that it finds

-- two maps of kept files are the same where one is looked for
abbrev Agree : Kept → Kept → Option Path → Type 0
Agree one two None = ⊤
Agree one two (Some p) = get one p ≡ get two p

same_keep : (one two : Kept) (from to : Result Path Refusal) → Agree one two (first_of_both (result_ok from) (result_ok to))
    → given from (λ from. given to (keep one from)) ≡ given from (λ from. given to (keep two from))
same_keep one two (Err refusal) to agree = refl
same_keep one two (Ok from) (Err refusal) agree = refl
same_keep one two (Ok from) (Ok to) agree = ap (at_kept from to) agree

same_table : (one two : Kept) (env : Env) (command : Command) → Agree one two (wanted_by env command)
    → table one env command ≡ table two env command
same_table one two env (Echo w) agree = refl
same_table one two env (Set x w) agree = refl
same_table one two env (Read x p) agree = refl
same_table one two env (Cat p) agree = refl
same_table one two env (Ls p) agree = refl
same_table one two env (MakeDir p) agree = refl
same_table one two env (Write p w) agree = refl
same_table one two env (Append p w) agree = refl
same_table one two env (Copy p q) agree = refl
same_table one two env (Concat q p1 p2) agree = refl
same_table one two env (Remove p) agree = refl
same_table one two env (RemoveDir p) agree = refl
same_table one two env (Move p q) agree = refl
same_table one two env (Chmod switch p) agree = refl
same_table one two env (Keep p q) agree = same_keep one two (path_operand env p) (path_operand env q) agree

same_plan : (one two : Kept) (code : Code) (frames : List Frame) (env : Env) → Agree one two (wanted_in env code)
    → plan_at one code frames env ≡ plan_at two code frames env
same_plan one two End frames env agree = refl
same_plan one two (Plain command rest) frames env agree =
    ap
    (λ (plan : Plan Ending). mapped (going_on (λ (env : Env). reached (Rest rest ∷ frames) env))
    (mapped (ending env (command_name command)) plan))
    (same_table one two env command agree)
same_plan one two (Halt rest) frames env agree = refl
same_plan one two (If condition body rest) frames env agree = refl
same_plan one two (IfElse condition body other rest) frames env agree = refl
same_plan one two (For variable path body rest) frames env agree = refl

-- ---- a run needs no other kept files than those that it finds

abbrev AllAmong : List Path → List Path → Type 0
AllAmong paths [] = ⊤
AllAmong paths (p ∷ ps) = IsTrue (is_among p paths) × AllAmong paths ps

one_among : (p q : Path) (paths : List Path) → IsTrue (is_among p paths) → IsTrue (is_among p (q ∷ paths))
one_among p q paths h = by (eq_by_cmp path_cmp p q)
  where
    by : (b : Bool) → IsTrue (if b then true else is_among p paths)
    by true = refl
    by false = h

all_among : (q : Path) (paths ps : List Path) → AllAmong paths ps → AllAmong (q ∷ paths) ps
all_among q paths [] h = tt
all_among q paths (p ∷ ps) h = (one_among p q paths h.0, all_among q paths ps h.1)

own_among : (p : Path) (paths : List Path) → IsTrue (is_among p (p ∷ paths))
own_among p paths = rw ((eq_by_cmp_equiv path_total).refl p) refl

among_themselves : (paths : List Path) → AllAmong paths paths
among_themselves [] = tt
among_themselves (p ∷ paths) = (own_among p paths, all_among p paths paths (among_themselves paths))

module _ (all found : Kept) (paths : List Path)
    (is : (p : Path) → get found p ≡ (if is_among p paths then get all p else None)) where
  -- the path that is looked for now, and those that are found later
  record Agrees (wanted : Option Path) (later : List Path) : Type 0 where
    now : Agree found all wanted
    then_on : AllAmong paths later

  nothing_there : (p : Path) (b : Bool) → get all p ≡ None → (if b then get all p else None) ≡ get all p
  nothing_there p true none = refl
  nothing_there p false none = sym none

  agrees_at : (p : Path) (there : Option (List ℕ)) (later : List Path) → get all p ≡ there
      → AllAmong paths (cons_option (if_kept p there) later) → Agrees (Some p) later
  agrees_at p None later none among =
      record { now = is p ∙ nothing_there p (is_among p paths) none; then_on = among }
  agrees_at p (Some bytes) later some among =
      record { now = is p ∙ ap (λ (b : Bool). if b then get all p else None) among.0; then_on = among.1 }

  agrees : (wanted : Option Path) (later : List Path) → AllAmong paths (cons_option (found_of all wanted) later) → Agrees wanted later
  agrees None later among = record { now = tt; then_on = among }
  agrees (Some p) later among = agrees_at p (get all p) later refl among

  same_exec : (n : ℕ) (place : Place) (t : Nodes) → AllAmong paths (found_from all n place t) → exec found n place t ≡ exec all n place t
  same_exec zero place t among = refl
  same_exec (suc n) Over t among = refl
  same_exec (suc n) (At code frames env) t among =
      let performed : Performed (Effect Place) = perform t (plan_at all code frames env) in
      let agreed : Agrees (wanted_in env code)
      (found_from all n performed.result.result (after_update t performed.result.update)) = agrees (wanted_in env code) _ among in
      ap (λ (plan : Plan (Effect Place)). ran_then t (perform t plan) (λ place t. exec found n place t))
      (same_plan found all code frames env agreed.now)
      ∙ ap (ran_before (act_of performed ∷ []))
      (same_exec n performed.result.result (after_update t performed.result.update) agreed.then_on)

  -- with these files alone it finds the same ones
  same_found : (n : ℕ) (place : Place) (t : Nodes) → AllAmong paths (found_from all n place t)
      → found_from found n place t ≡ found_from all n place t
  same_found zero place t among = refl
  same_found (suc n) Over t among = refl
  same_found (suc n) (At code frames env) t among =
      let performed : Performed (Effect Place) = perform t (plan_at all code frames env) in
      let agreed : Agrees (wanted_in env code)
      (found_from all n performed.result.result (after_update t performed.result.update)) = agrees (wanted_in env code) _ among in
      ap
      (λ (plan : Plan (Effect Place)). cons_option (next_found found (At code frames env))
      (found_then t (perform t plan) (λ place t. found_from found n place t)))
      (same_plan found all code frames env agreed.now)
      ∙ ap (cons_option (next_found found (At code frames env)))
      (same_found n performed.result.result (after_update t performed.result.update) agreed.then_on)
      ∙ ap (λ (o : Option Path). cons_option o (found_from all n performed.result.result (after_update t performed.result.update)))
      (same_next (wanted_in env code) agreed.now)
    where
      same_next : (wanted : Option Path) → Agree found all wanted → found_of found wanted ≡ found_of all wanted
      same_next None agree = refl
      same_next (Some p) agree = ap (if_kept p) agree

-- what is found is all that the run needs
pub are_found : (script : Code) (files : List File) (t : Nodes) (budget : ℕ)
    → AreFound script files (files_among (found_in script (kept_files files) t budget) files) t budget
are_found script files t budget =
    let all : Kept = kept_files files in
    let paths : List Path = found_in script all t budget in
    let found : Kept = kept_files (files_among paths files) in
    record {
      each = kept_among paths files;
      same_run =
          sym (exec_from_start found script t budget)
          ∙ same_exec all found paths (kept_among paths files) budget (start script) t (among_themselves paths)
          ∙ exec_from_start all script t budget;
      same_found = same_found all found paths (kept_among paths files) budget (start script) t (among_themselves paths);
      rising = rise paths files;
    }

-- ---- one act after the other

-- the place of a new interpreter
pub starts_at : (script code : Code) (frames : List Frame) (env : Env) → code ≡ script → frames ≡ [] → env ≡ fresh
    → place_at code frames env ≡ start script
starts_at script code frames env is none new =
    ap (λ code. place_at code frames env) is ∙ ap (λ frames. place_at script frames env) none ∙ ap (λ env. place_at script [] env) new
    ∙ start_is script

-- after n acts these paths were found, and larger budgets go on from here
pub record HasFound (script : Code) (kept : Kept) (t0 : Nodes) (n : ℕ) (found : List Path) (place : Place) (t : Nodes) : Type 0 where
  pub goes_on : (m : ℕ) → found_in script kept t0 (n + m) ≡ found ++ found_from kept m place t

pub has_found_none : (script : Code) (kept : Kept) (t : Nodes) (n : ℕ) (found : List Path) (place : Place) → n ≡ 0 → found ≡ []
    → place ≡ start script → HasFound script kept t n found place t
has_found_none script kept t n found place zero_acts none is = record {
  goes_on = λ m.
      ap (found_in script kept t) (ap (λ n. n + m) zero_acts ∙ zero-add m)
      ∙ ap (λ place. found_from kept m place t) (sym is)
      ∙ ap (λ (found : List Path). found ++ found_from kept m place t) (sym none);
}

one_behind : (found : List Path) (o : Option Path) (later : List Path)
    → found ++ cons_option o later ≡ (found ++ cons_option o []) ++ later
one_behind found None later = ap (λ (found : List Path). found ++ later) (sym (append-nil found))
one_behind found (Some p) later = sym (append_assoc found (p ∷ []) later)

-- one act more
pub has_found_more : (script : Code) (kept : Kept) (t0 : Nodes) (n : ℕ) (found : List Path) (place : Place) (t : Nodes) (act : Act)
    (after : Place) (u : Nodes)
    → HasFound script kept t0 n found place t → IsNextAt kept place t act after u
    → HasFound script kept t0 (n + 1) (found ++ cons_option (next_found kept place) []) after u
has_found_more script kept t0 n found Over t act after u has next = absurd next
has_found_more script kept t0 n found (At code frames env) t act after u has next =
    let performed : Performed (Effect Place) = perform t (plan_at kept code frames env) in
    let now : Option Path = next_found kept (At code frames env) in
    record {
      goes_on = λ m.
          ap (found_in script kept t0) (omega arith)
          ∙ has.goes_on (suc m)
          ∙ one_behind found now (found_from kept m performed.result.result (after_update t performed.result.update))
          ∙ ap (λ (place : Place). (found ++ cons_option now []) ++ found_from kept m place (after_update t performed.result.update))
          (sym next.place)
          ∙ ap (λ (u : Nodes). (found ++ cons_option now []) ++ found_from kept m after u) (sym next.tree);
    }

none_over : (kept : Kept) (m : ℕ) (place : Place) (t : Nodes) → is_over place ≡ true → found_from kept m place t ≡ []
none_over kept zero place t is = refl
none_over kept (suc m) Over t is = refl
none_over kept (suc m) (At code frames env) t is = absurd cc

-- what was found when the run stops at its end, or when no act is left
pub has_found_all : (script : Code) (kept : Kept) (t0 : Nodes) (n : ℕ) (found : List Path) (place : Place) (t : Nodes) (budget : ℕ)
    → HasFound script kept t0 n found place t → n ≤ budget → (is_over place ≡ true) ⊎ (budget ≤ n) → found_in script kept t0 budget ≡ found
has_found_all script kept t0 n found place t budget has within stops = elim stops [
  | inl over ↦
      let rest : n + (budget - n) ≡ budget = omega arith in
      ap (found_in script kept t0) (sym rest)
      ∙ has.goes_on (budget - n)
      ∙ ap (λ (later : List Path). found ++ later) (none_over kept (budget - n) place t over)
      ∙ append-nil found
  | inr full ↦
      let rest : n + 0 ≡ budget = omega arith in
      ap (found_in script kept t0) (sym rest) ∙ has.goes_on 0 ∙ append-nil found
]

-- the path that was found is put after the others, as the act is
pub has_found_push : (script : Code) (kept : Kept) (t0 : Nodes) (acts more : List Act) (found longer : List Path) (path : Option Path)
    (exec : Exec) (t : Nodes) (act : Act) (after : Place) (u : Nodes)
    → kept_by exec ≡ kept → HasFound script kept t0 (length acts) found (place exec) t → IsNextAt (kept_by exec) (place exec) t act after u
    → path ≡ next_found (kept_by exec) (place exec) → more ≡ acts ++ act ∷ [] → longer ≡ found ++ cons_option path []
    → HasFound script kept t0 (length more) longer after u
has_found_push script kept t0 acts more found longer path exec t act after u same has next is one_act one_path =
    subst (λ (n : ℕ). HasFound script kept t0 n longer after u) (sym (ap length one_act ∙ length-append acts (act ∷ [])))
    (subst (λ (found : List Path). HasFound script kept t0 (length acts + 1) found after u)
    (sym
    (one_path
    ∙ ap (λ (path : Option Path). found ++ cons_option path []) (is ∙ ap (λ (kept : Kept). next_found kept (place exec)) same)))
    (has_found_more script kept t0 (length acts) found (place exec) t act after u has
    (subst (λ (kept : Kept). IsNextAt kept (place exec) t act after u) same next)))
