-- Every act is guarded.
use Rattle.std.proofs.Common.{◌≡◌, ◌≢◌, ◌⊎◌, ℕ, ◌+◌, ◌==◌, Bool, true, false, List, [], ◌∷◌, ◌++◌, Option, Some, None, Result, Ok, Err}
use Rattle.std.proofs.Common.{length, refl, sym, ap, subst, ◌∙◌, append_assoc, inl, inr, if◌then◌else◌, arith}
use Rattle.std.proofs.lemmas.List.{append-nil}
use Rattle.std.proofs.lemmas.Bool.Decides.{nat_tests}
use Rattle.std.specs.FinMap.{get}
use Rattle.iot_tree.specs.Tree.{Path, Nodes, IsTree}
use Rattle.iot_tree.specs.Questions.{answer_of}
use Rattle.iot_tree.specs.declared.nodes.Mode.{Mode as Bit}
use Rattle.iot_tree.specs.declared.acts.Read.{Read}
use Rattle.iot_tree.specs.declared.questions.Question.{Question}
use Rattle.iot_tree.specs.declared.questions.Question.TheVariants.{Kind, Content, Names}
use Rattle.iot_tree.specs.declared.questions.Answer.{Answer}
use Rattle.iot_tree.specs.declared.questions.Answer.TheVariants as answers
use Rattle.iot_tree.specs.declared.updates.Update.TheVariants as updates
use Rattle.iot_lines.specs.Lines.{lines}
use Rattle.iot_lang.specs.declared.words.Cond.{Cond}
use Rattle.iot_lang.specs.declared.words.Piece.{Piece}
use Rattle.iot_lang.specs.Code.{Code, End, Plain, Halt, If, IfElse, For}
use Rattle.iot_lang.specs.declared.words.Command.{Command}
use Rattle.iot_lang.specs.declared.words.Command.TheVariants.{Echo, Set, Read as ReadFile, MakeDir, RemoveDir, Remove, Write, Append, Copy}
use Rattle.iot_lang.specs.declared.words.Command.TheVariants.{Concat, Move, Cat, List as Ls, Keep, Chmod}
use Rattle.iot_acts.specs.Paths.{parent_path, is_at_or_below}
use Rattle.iot_exec.specs.Operands.{is_too_large, word_operand, path_operand}
use Rattle.iot_exec.specs.Plans.{Plan, Done, Ask, mapped, Performed, perform, Effect, silent, going_on, act_of}
use Rattle.iot_exec.specs.Endings.{ending}
use Rattle.iot_exec.specs.Commands.{Kept, Ending, makes, sets, given, echo, read, cat, list_names}
use Rattle.iot_exec.specs.Commands.{contents, names, ask_parent, target, new_dir, make_dir}
use Rattle.iot_exec.specs.Commands.{write, with_more, append, copy, join, concat, remove_file, empty_dir, remove_dir}
use Rattle.iot_exec.specs.Commands.{dir_target, at_moved, move, mode_of, change_mode, at_kept, keep, table, command_name, plan_of_command}
use Rattle.iot_exec.specs.Commands.{plan_of_condition, plan_of_loop, truth, turns, loop_ending, Turns}
use Rattle.iot_exec.specs.Places.{Frame, Place, plan_at}
use Rattle.iot_acts.specs.Guards.{Asked, AskedFree, GuardsPut, GuardsMove, over_file, over_contents, in_free, file_goes, empty_goes}
use Rattle.iot_acts.specs.Guards.{file_to_file, dir_to_empty, any_to_free, over_on, over_off, Guards, GuardsIfAny, IsGuarded}
use Rattle.iot_acts.specs.Traces.{ReadsHold, FitsIfAny}
use Rattle.iot_acts.proofs.GuardLaws.{asked_answer, guarded_fits}
use Rattle.iot_exec.specs.declared.env.Env.{Env}
use Rattle.iot_exec.specs.declared.endings.Success.{Success}
use Rattle.iot_exec.specs.declared.endings.Success.TheVariants.{Makes, Prints, Sets}
use Rattle.iot_exec.specs.declared.endings.Refusal.{Refusal}
use Rattle.iot_exec.proofs.PlanLaws.{with_result, perform-mapped, own_reads}
use Rattle.iot_tree.proofs.ReadLaws.{file_not_root, absent_not_root, empty_not_root}

below_root : (to : Path) → is_at_or_below to [] ≡ false → ⊥
below_root [] is = cc
below_root (name ∷ names) is = grind (arith, nat_tests)

-- what a command comes to is guarded by these reads
abbrev GuardsEnd : List Read → Ending → Type 0
GuardsEnd reads (Ok (Makes update)) = Guards reads update
GuardsEnd reads (Ok (Prints lines)) = Unit {0}
GuardsEnd reads (Ok (Sets variable value)) = Unit {0}
GuardsEnd reads (Err refusal) = Unit {0}

abbrev read_of : Question → Answer → Read
read_of question answer = record { question = question; answer = answer }

-- one read more
abbrev push : List Read → Question → Answer → List Read
push before question answer = before ++ read_of question answer ∷ []

some_names : (path : Path) → (length path == 0) ≡ false → path ≢ []
some_names [] some is = absurd cc
some_names (name ∷ names) some is = cc

-- the root can't be moved: each path is at or below it
never_root : (from to : Path) → is_at_or_below to from ≡ false → from ≢ []
never_root from to is_apart is = absurd (below_root to (subst (λ (path : Path). is_at_or_below to path ≡ false) is is_apart))

-- ---- reads so far

asked_last : (before : List Read) (question : Question) (answer : Answer) → Asked (push before question answer) question answer
asked_last [] question answer = inl refl
asked_last (read ∷ before) question answer = inr (asked_last before question answer)

asked_more : (before more : List Read) (question : Question) (answer : Answer) → Asked before question answer
    → Asked (before ++ more) question answer
asked_more [] more question answer is = absurd is
asked_more (read ∷ before) more question answer is = elim is [
  | inl here ↦ inl here
  | inr later ↦ inr (asked_more before more question answer later)
]

module _ (t : Nodes) where
  holds_more : (before : List Read) (question : Question) (answer : Answer) → ReadsHold t before → answer_of t question ≡ answer
      → ReadsHold t (push before question answer)
  holds_more [] question answer hold is = (is, tt)
  holds_more (read ∷ before) question answer hold is = (hold.0, holds_more before question answer hold.1 is)

  -- the plan is guarded after these reads: whatever the tree answers, its end is
  abbrev G : List Read → Plan Ending → Type 0
  G before (Done end) = GuardsEnd before end
  G before (Ask question next) = (answer : Answer) → answer_of t question ≡ answer → G (push before question answer) (next answer)

  -- so its end is guarded by what it asks on the tree
  performed_g : (before : List Read) (plan : Plan Ending) → G before plan
      → GuardsEnd (before ++ (perform t plan).reads) (perform t plan).result
  performed_g before (Done end) guards = subst (λ (reads : List Read). GuardsEnd reads end) (sym (append-nil before)) guards
  performed_g before (Ask question next) guards =
      let answer : Answer = answer_of t question in
      subst (λ (reads : List Read). GuardsEnd reads (perform t (next answer)).result)
      (append_assoc before (read_of question answer ∷ []) (perform t (next answer)).reads)
      (performed_g (push before question answer) (next answer) (guards answer refl))

  given_g : {A : Type 0} (before : List Read) (value : Result A Refusal) (next : A → Plan Ending)
      → ((a : A) → value ≡ Ok a → G before (next a)) → G before (given value next)
  given_g before (Ok a) next guards = guards a refl
  given_g before (Err refusal) next guards = tt

  chosen_g : (before : List Read) (test : Bool) (one two : Plan Ending) → G before one → (test ≡ false → G before two)
      → G before (if test then one else two)
  chosen_g before true one two first second = first
  chosen_g before false one two first second = second refl

  -- reads from here on: what was asked stays asked, and all of them hold
  pub record Later (before after : List Read) : Type 0 where
    pub stays : (question : Question) (answer : Answer) → Asked before question answer → Asked after question answer
    pub hold : ReadsHold t after

  one_later : (before : List Read) (question : Question) (answer : Answer) → ReadsHold t before → answer_of t question ≡ answer
      → Later before (push before question answer)
  one_later before question answer hold is = record {
    stays = λ q a asked. asked_more before (read_of question answer ∷ []) q a asked;
    hold = holds_more before question answer hold is;
  }

  two_later : (before middle after : List Read) → Later before middle → Later middle after → Later before after
  two_later before middle after one two = record { stays = λ q a asked. two.stays q a (one.stays q a asked); hold = two.hold }

  -- what the plan goes on with is guarded after later reads with this fact
  abbrev GoesOn : List Read → (List Read → Type 0) → Plan Ending → Type 0
  GoesOn before fact good = (after : List Read) → Later before after → fact after → G after good

  -- a file is there, or the path is free
  abbrev Targeted : Path → List Read → Type 0
  Targeted path after = Asked after (Kind path) answers.IsFile ⊎ AskedFree after path

  abbrev IsEmpty : Path → List Read → Type 0
  IsEmpty path after = Asked after (Names path) (answers.Names [])

  -- an empty directory is there, or the path is free
  abbrev DirTargeted : Path → List Read → Type 0
  DirTargeted path after = IsEmpty path after ⊎ AskedFree after path

  -- ---- parts of plans

  module _ (before : List Read) (hold : ReadsHold t before) (path : Path) (good : Plan Ending) where
    -- after a path with nothing at it
    parent_g : Asked before (Kind path) answers.Absent → GoesOn before (λ after. AskedFree after path) good
        → G before (ask_parent path good)
    parent_g absent guards answers.IsDir is =
        let later = one_later before (Kind (parent_path path)) answers.IsDir hold is in
        guards (push before (Kind (parent_path path)) answers.IsDir) later (record {
          absent = later.stays (Kind path) answers.Absent absent;
          parent = asked_last before (Kind (parent_path path)) answers.IsDir;
        })
    parent_g absent guards answer is = tt

    empty_g : GoesOn before (IsEmpty path) good → G before (empty_dir path good)
    empty_g guards (answers.Names []) is =
        guards (push before (Names path) (answers.Names [])) (one_later before (Names path) (answers.Names []) hold is)
        (asked_last before (Names path) (answers.Names []))
    empty_g guards answer is = tt

  module _ (before : List Read) (hold : ReadsHold t before) (path : Path) (good : Plan Ending) where
    free_g : (Fact : List Read → Type 0) → ((after : List Read) → AskedFree after path → Fact after) → GoesOn before Fact good
        → answer_of t (Kind path) ≡ answers.Absent → G (push before (Kind path) answers.Absent) (ask_parent path good)
    free_g Fact free guards is =
        let middle : List Read = push before (Kind path) answers.Absent in
        let later = one_later before (Kind path) answers.Absent hold is in
        parent_g middle later.hold path good (asked_last before (Kind path) answers.Absent)
        (λ after more is_free. guards after (two_later before middle after later more) (free after is_free))

    target_g : GoesOn before (Targeted path) good → G before (target path good)
    target_g guards answers.IsFile is =
        guards (push before (Kind path) answers.IsFile) (one_later before (Kind path) answers.IsFile hold is)
        (inl (asked_last before (Kind path) answers.IsFile))
    target_g guards answers.Absent is = free_g (Targeted path) (λ after free. inr free) guards is
    target_g guards answer is = tt

    new_dir_g : GoesOn before (λ after. AskedFree after path) good → G before (new_dir path good)
    new_dir_g guards answers.Absent is = free_g (λ after. AskedFree after path) (λ after free. free) guards is
    new_dir_g guards answer is = tt

    dir_target_g : GoesOn before (DirTargeted path) good → G before (dir_target path good)
    dir_target_g guards answers.IsDir is =
        let middle : List Read = push before (Kind path) answers.IsDir in
        let later = one_later before (Kind path) answers.IsDir hold is in
        empty_g middle later.hold path good (λ after more empty. guards after (two_later before middle after later more) (inl empty))
    dir_target_g guards answers.Absent is = free_g (DirTargeted path) (λ after free. inr free) guards is
    dir_target_g guards answer is = tt

  contents_g : (before : List Read) → ReadsHold t before → (path : Path) (next : List ℕ → Plan Ending)
      → ((bytes : List ℕ) (after : List Read) → Later before after → Asked after (Content path) (answers.Bytes bytes)
      → G after (next bytes))
      → G before (contents path next)
  contents_g before hold path next guards (answers.Bytes bytes) is =
      guards bytes (push before (Content path) (answers.Bytes bytes)) (one_later before (Content path) (answers.Bytes bytes) hold is)
      (asked_last before (Content path) (answers.Bytes bytes))
  contents_g before hold path next guards answer is = tt

  -- ---- the commands

  targeted : (after : List Read) (path : Path) → Targeted path after → GuardsPut after path
  targeted after path (inl file) = over_file file
  targeted after path (inr free) = in_free free

  write_g : (before : List Read) → ReadsHold t before → (path : Path) (bytes : List ℕ) → G before (write path bytes)
  write_g before hold path bytes = target_g before hold path (makes (updates.Put path bytes)) (λ after later fact. targeted after path fact)

  append_g : (path : Path) (more : List ℕ) → G [] (append path more)
  append_g path more = contents_g [] tt path (with_more path more) (λ bytes after later asked.
      chosen_g after (is_too_large (length bytes + length more)) _ _ tt (λ small. over_contents bytes asked))

  copy_g : (from to : Path) → G [] (copy from to)
  copy_g from to = contents_g [] tt from (write to) (λ bytes after later asked. write_g after later.hold to bytes)

  concat_g : (to first second : Path) → G [] (concat to first second)
  concat_g to first second = contents_g [] tt first (λ one. contents second (λ two. join to one two)) (λ one after later asked.
      contents_g after later.hold second (λ two. join to one two) (λ two more latest read.
      chosen_g more (is_too_large (length one + length two)) _ _ tt (λ small. write_g more latest.hold to (one ++ two))))

  -- a plan that ends without an update
  shows_g : (path : Path) (next : List ℕ → Success) → ((bytes : List ℕ) (reads : List Read) → GuardsEnd reads (Ok (next bytes)))
      → G [] (contents path (λ bytes. Done (Ok (next bytes))))
  shows_g path next none = contents_g [] tt path (λ bytes. Done (Ok (next bytes))) (λ bytes after later asked. none bytes after)

  keep_g : (from to : Path) (kept : Option (List ℕ)) → G [] (at_kept from to kept)
  keep_g from to None = tt
  keep_g from to (Some bytes) = write_g [] tt to bytes

  list_g : (path : Path) → G [] (list_names path)
  list_g path (answers.Names children) is = tt
  list_g path answer is = tt

  mode_g : (mode : Bit) (path : Path) → G [] (change_mode mode path)
  mode_g mode path answers.On is = over_on (inl refl)
  mode_g mode path answers.Off is = over_off (inl refl)
  mode_g mode path answer is = tt

  module _ (tree : IsTree t) where
    remove_file_g : (path : Path) → G [] (remove_file path)
    remove_file_g path answers.IsFile is = record { not_root = file_not_root t tree path is; guard = file_goes (inl refl) }
    remove_file_g path answer is = tt

    remove_dir_g : (path : Path) → G [] (remove_dir path)
    remove_dir_g path = chosen_g [] (length path == 0) _ _ tt (λ some.
        empty_g [] tt path (makes (updates.Remove path))
        (λ after later empty. record { not_root = some_names path some; guard = empty_goes empty }))

    module _ (from to : Path) (is_apart : is_at_or_below to from ≡ false) where
      abbrev May : List Read → Type 0
      May after = G after (makes (updates.Move from to))

      may : (after : List Read) → to ≢ [] → GuardsMove after from to → May after
      may after not_root guard =
          record { from_not_root = never_root from to is_apart; to_not_root = not_root; apart = is_apart; guard = guard }

      -- to a free path
      to_free : (after : List Read) → ReadsHold t after → (Asked after (Kind from) answers.IsDir ⊎ Asked after (Kind from) answers.IsFile)
          → AskedFree after to → May after
      to_free after hold there free =
          may after (absent_not_root t tree to (asked_answer t after hold (Kind to) answers.Absent free.absent)) (any_to_free there free)

      file_moved : (after : List Read) → ReadsHold t after → Asked after (Kind from) answers.IsFile → Targeted to after → May after
      file_moved after hold file (inl there) =
          may after (file_not_root t tree to (asked_answer t after hold (Kind to) answers.IsFile there)) (file_to_file file there)
      file_moved after hold file (inr free) = to_free after hold (inr file) free

      dir_moved : (after : List Read) → ReadsHold t after → Asked after (Kind from) answers.IsDir → DirTargeted to after → May after
      dir_moved after hold dir (inl empty) =
          may after
          (empty_not_root t tree from to (never_root from to is_apart)
          (asked_answer t after hold (Kind from) answers.IsDir dir) (asked_answer t after hold (Names to) (answers.Names []) empty))
          (dir_to_empty dir empty)
      dir_moved after hold dir (inr free) = to_free after hold (inl dir) free

      moved_g : (answer : Answer) → answer_of t (Kind from) ≡ answer
          → G (push [] (Kind from) answer) (at_moved from to (makes (updates.Move from to)) answer)
      moved_g answers.IsFile is =
          target_g (push [] (Kind from) answers.IsFile) (is, tt) to (makes (updates.Move from to))
          (λ after later fact. file_moved after later.hold (later.stays (Kind from) answers.IsFile (inl refl)) fact)
      moved_g answers.IsDir is =
          dir_target_g (push [] (Kind from) answers.IsDir) (is, tt) to (makes (updates.Move from to))
          (λ after later fact. dir_moved after later.hold (later.stays (Kind from) answers.IsDir (inl refl)) fact)
      moved_g answer is = tt

    move_g : (from to : Path) → G [] (move from to)
    move_g from to = chosen_g [] (is_at_or_below to from) _ _ tt (λ is_apart. moved_g from to is_apart)

    -- one operand that is a path
    path_g : (env : Env) (p : List Piece) (next : Path → Plan Ending) → ((path : Path) → G [] (next path))
        → G [] (given (path_operand env p) next)
    path_g env p next guards = given_g [] (path_operand env p) next (λ path is. guards path)

    -- and one that is a word
    word_g : (env : Env) (w : List Piece) (next : List ℕ → Plan Ending) → ((text : List ℕ) → G [] (next text))
        → G [] (given (word_operand env w) next)
    word_g env w next guards = given_g [] (word_operand env w) next (λ text is. guards text)

    table_g : (kept : Kept) (env : Env) (command : Command) → G [] (table kept env command)
    table_g kept env (Echo w) = word_g env w echo (λ text. tt)
    table_g kept env (Set x w) = word_g env w (sets x) (λ value. tt)
    table_g kept env (ReadFile x p) = path_g env p (read x) (λ path. shows_g path (Sets x) (λ bytes reads. tt))
    table_g kept env (Cat p) = path_g env p cat (λ path. shows_g path (λ bytes. Prints (lines bytes)) (λ bytes reads. tt))
    table_g kept env (Ls p) = path_g env p list_names list_g
    table_g kept env (MakeDir p) = path_g env p make_dir (λ path.
        new_dir_g [] tt path (makes (updates.MakeDir path)) (λ after later free. free))
    table_g kept env (Write p w) = path_g env p _ (λ path. word_g env w (write path) (write_g [] tt path))
    table_g kept env (Append p w) = path_g env p _ (λ path. word_g env w (append path) (append_g path))
    table_g kept env (Copy p q) = path_g env p _ (λ from. path_g env q (copy from) (copy_g from))
    table_g kept env (Concat q p1 p2) =
        path_g env q _ (λ to. path_g env p1 _ (λ first. path_g env p2 (concat to first) (concat_g to first)))
    table_g kept env (Remove p) = path_g env p remove_file remove_file_g
    table_g kept env (RemoveDir p) = path_g env p remove_dir remove_dir_g
    table_g kept env (Move p q) = path_g env p _ (λ from. path_g env q (move from) (move_g from))
    table_g kept env (Chmod switch p) = path_g env p _ (mode_g (mode_of switch))
    table_g kept env (Keep p q) = path_g env p _ (λ from. path_g env q (keep kept from) (λ to. keep_g from to (get kept from)))

-- the end of a command keeps its guard
ending_guarded : (reads : List Read) (env : Env) (command : List ℕ) (end : Ending) → GuardsEnd reads end
    → GuardsIfAny reads (ending env command end).update
ending_guarded reads env command (Ok (Makes update)) guard = guard
ending_guarded reads env command end guard = tt

command_guarded : (kept : Kept) (env : Env) (command : Command) (f : Env → Place) (t : Nodes) → IsTree t
    → IsGuarded (act_of (perform t (mapped (going_on f) (plan_of_command kept env command))))
command_guarded kept env command f t tree =
    let came : perform t (mapped (going_on f) (plan_of_command kept env command))
    ≡ with_result (λ end. going_on f (ending env (command_name command) end)) (perform t (table kept env command)) =
    perform-mapped (going_on f) (plan_of_command kept env command) t
    ∙ ap (with_result (going_on f)) (perform-mapped (ending env (command_name command)) (table kept env command) t) in
    subst (λ (performed : Performed (Effect Place)). IsGuarded (act_of performed)) (sym came)
    (ending_guarded (perform t (table kept env command)).reads env (command_name command) (perform t (table kept env command)).result
    (performed_g t [] (table kept env command) (table_g t tree kept env command)))

condition_guarded : (env : Env) (condition : Cond) (f : Bool → Place) (t : Nodes)
    → IsGuarded (act_of (perform t (mapped (going_on f) (plan_of_condition env condition))))
condition_guarded env condition f t =
    let came : perform t (mapped (going_on f) (plan_of_condition env condition))
    ≡ with_result (λ holds. silent (f holds)) (perform t (truth env condition)) =
    perform-mapped (going_on f) (plan_of_condition env condition) t
    ∙ ap (with_result (going_on f)) (perform-mapped silent (truth env condition) t) in
    subst (λ (performed : Performed (Effect Place)). IsGuarded (act_of performed)) (sym came) tt

loop_guarded_by : (reads : List Read) (env : Env) (f : Turns → Place) (names : Result (List (List ℕ)) Refusal)
    → GuardsIfAny reads (going_on f (loop_ending env names)).update
loop_guarded_by reads env f (Ok names) = tt
loop_guarded_by reads env f (Err refusal) = tt

loop_guarded : (env : Env) (path : List Piece) (f : Turns → Place) (t : Nodes)
    → IsGuarded (act_of (perform t (mapped (going_on f) (plan_of_loop env path))))
loop_guarded env path f t =
    let came : perform t (mapped (going_on f) (plan_of_loop env path))
    ≡ with_result (λ names. going_on f (loop_ending env names)) (perform t (turns env path)) =
    perform-mapped (going_on f) (plan_of_loop env path) t
    ∙ ap (with_result (going_on f)) (perform-mapped (loop_ending env) (turns env path) t) in
    subst (λ (performed : Performed (Effect Place)). IsGuarded (act_of performed)) (sym came)
    (loop_guarded_by (perform t (turns env path)).reads env f (perform t (turns env path)).result)

-- the act at a place is guarded
pub place_guarded : (kept : Kept) (code : Code) (frames : List Frame) (env : Env) (t : Nodes) → IsTree t
    → IsGuarded (act_of (perform t (plan_at kept code frames env)))
place_guarded kept End frames env t tree = tt
place_guarded kept (Plain command rest) frames env t tree = command_guarded kept env command _ t tree
place_guarded kept (Halt rest) frames env t tree = tt
place_guarded kept (If condition body rest) frames env t tree = condition_guarded env condition _ t
place_guarded kept (IfElse condition body other rest) frames env t tree = condition_guarded env condition _ t
place_guarded kept (For variable path body rest) frames env t tree = loop_guarded env path _ t

-- the update of the act at a place fits
pub place_fits : (kept : Kept) (code : Code) (frames : List Frame) (env : Env) (t : Nodes) → IsTree t
    → FitsIfAny t (perform t (plan_at kept code frames env)).result.update
place_fits kept code frames env t tree =
    let plan = plan_at kept code frames env in
    guarded_fits t tree (perform t plan).reads (own_reads plan t) (perform t plan).result.update (place_guarded kept code frames env t tree)
