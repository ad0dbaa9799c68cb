-- The plans of commands ask, do and print only what has a spelling.
use Rattle.std.proofs.Common.{◌≡◌, ℕ, ◌+◌, ◌==◌, true, false, IsTrue, List, [], ◌∷◌, ◌++◌, length, map, Option, Some, None, codes, refl}
use Rattle.std.proofs.Common.{arith, length-append}
use Rattle.std.proofs.lemmas.Bool.Decides.{nat_tests}
use Rattle.std.proofs.lemmas.Bool.{cond_both}
use Rattle.std.specs.List.{AllByRecursion}
use Rattle.std.specs.Cmp.{second_so}
use Rattle.std.specs.FinMap.{get}
use Rattle.iot_text.specs.Names.{IsName}
use Rattle.iot_text.specs.Paths.{IsPath, path_text, path_of}
use Rattle.iot_text.proofs.PathsLaws.{IsPath-take}
use Rattle.iot_tree.specs.declared.kinds.Kind.{Kind as ChildKind}
use Rattle.iot_tree.specs.declared.kinds.Kind.TheVariants as kinds
use Rattle.iot_tree.specs.declared.nodes.Mode.{Mode}
use Rattle.iot_tree.specs.declared.questions.Answer.{Answer}
use Rattle.iot_tree.specs.declared.questions.Answer.TheVariants.{Absent, IsDir, IsFile, Bytes, Names, On, Off}
use Rattle.iot_tree.specs.declared.updates.Update.{Update}
use Rattle.iot_tree.specs.declared.updates.Update.TheVariants as updates
use Rattle.iot_lines.specs.Lines.{lines}
use Rattle.iot_lang.specs.Lines.{is_command}
use Rattle.iot_lang.specs.Words.{is_word, is_variable}
use Rattle.iot_lang.specs.declared.words.Piece.{Piece}
use Rattle.iot_lang.specs.declared.words.Command.{Command}
use Rattle.iot_lang.specs.declared.words.Command.TheVariants.{Echo, Set, Read, MakeDir, RemoveDir, Remove, Write, Append, Copy, Concat}
use Rattle.iot_lang.specs.declared.words.Command.TheVariants.{Move, Cat, List as Ls, Keep, Chmod}
use Rattle.iot_acts.specs.Paths.{parent_path, is_at_or_below}
use Rattle.iot_exec.specs.Values.{with_ok, word_value}
use Rattle.iot_exec.specs.Operands.{is_too_large, word_operand, path_or_bad, read_path, path_operand}
use Rattle.iot_exec.specs.Plans.{Plan, Effect}
use Rattle.iot_exec.specs.Endings.{ending}
use Rattle.iot_exec.specs.Commands.{Kept, Ending, makes, prints, sets, given, echo, read, cat, list_names, name_line, contents_or}
use Rattle.iot_exec.specs.Commands.{contents, names_or, names, in_parent, ask_parent, at_target, target, at_new_dir, make_dir, write}
use Rattle.iot_exec.specs.Commands.{with_more, append, copy, join, concat, at_file, remove_file, when_empty, empty_dir, remove_dir}
use Rattle.iot_exec.specs.Commands.{at_dir_target, dir_target, at_moved, move, mode_of, at_mode, change_mode, at_kept, keep, table}
use Rattle.iot_exec.specs.Commands.{command_name, plan_of_command}
use Rattle.iot_exec.specs.declared.env.Env.{Env}
use Rattle.iot_views.specs.Rules.{is_printable, is_content_byte, IsAnswer, IsContents, IsLine, AreLines, IsObject, IsUpdate}
use Rattle.iot_limits.specs.Spelled.{AreSpelledFiles}
use Rattle.iot_limits.proofs.ByteLaws.{AreContentBytes, IsPathIfAny, joined, name_is_line, path_is_line, lines_are_lines, parsed_is_path}
use Rattle.iot_limits.proofs.PlanLaws.{IsSpelledEnv, IsSpelledEffect, IsSpelledPlan, mapped_plan}
use Rattle.iot_limits.proofs.WordLaws.{env_with, word_has, within_limit}

parent_is_path : (path : List (List ℕ)) → IsPath path → IsPath (parent_path path)
parent_is_path [] valid = refl
parent_is_path (name ∷ names) valid = IsPath-take (name ∷ names) (length names) valid

-- contents after others, if both together are small enough
joined_contents : (one two : List ℕ) → IsContents one → IsContents two → is_too_large (length one + length two) ≡ false
    → IsContents (one ++ two)
joined_contents one two first second small = record {
  few = grind (arith, nat_tests, length-append one two);
  bytes = joined _ one two first.bytes second.bytes;
}

-- ---- names

child_is_line : (child : List ℕ × ChildKind) → IsName child.0 → IsLine (name_line child)
child_is_line (name, kinds.IsDir) is = joined is_printable name (codes "/") (name_is_line name is) refl
child_is_line (name, _) is = name_is_line name is

name_lines : (children : List (List ℕ × ChildKind)) → AllByRecursion (λ child. IsName child.0 × IsObject child.1) children
    → AreLines (map name_line children)
name_lines [] each = tt
name_lines (child ∷ children) each = (child_is_line child each.0.0, name_lines children each.1)

module _ (env : Env) (spelled : IsSpelledEnv env) (name : List ℕ) (named : IsLine name) where
  -- what the command with this name ends with has a spelling
  abbrev IsSpelledEnding : Ending → Type 0
  IsSpelledEnding end = IsSpelledEffect IsSpelledEnv (ending env name end)

  abbrev IsSpelledCommand : Plan Ending → Type 0
  IsSpelledCommand plan = IsSpelledPlan IsSpelledEnding plan

  -- ---- ends

  made : (update : Update) → IsUpdate update → IsSpelledCommand (makes update)
  made update is = record { update = is; lines = tt; result = spelled }

  prints_lines : (texts : List (List ℕ)) → AreLines texts → IsSpelledCommand (prints texts)
  prints_lines texts are = record { update = tt; lines = are; result = spelled }

  sets_value : (variable value : List ℕ) → AreContentBytes value → IsSpelledCommand (sets variable value)
  sets_value variable value has = record { update = tt; lines = tt; result = env_with variable value (with_ok true env) has spelled }

  -- what a refused command does: it prints this after its name
  abbrev pub refused_with : List ℕ → Effect Env
  refused_with text = record { update = None; lines = (name ++ codes ": " ++ text) ∷ []; result = with_ok false env }

  pub refused_line : (text : List ℕ) → IsLine text → IsSpelledEffect IsSpelledEnv (refused_with text)
  refused_line text line =
      record {
        update = tt;
        lines = (joined is_printable (name ++ codes ": ") text (joined is_printable name (codes ": ") named refl) line, tt);
        result = spelled;
      }

  pub failed : (path : List (List ℕ)) → IsPath path → (reason : List ℕ) → IsLine reason
      → IsSpelledEffect IsSpelledEnv (refused_with (path_text path ++ codes ": " ++ reason))
  failed path valid reason line =
      refused_line (path_text path ++ codes ": " ++ reason)
      (joined is_printable (path_text path ++ codes ": ") reason
      (joined is_printable (path_text path) (codes ": ") (path_is_line path valid) refl) line)

  -- ---- operands

  word_given : (word : List Piece) → IsTrue (is_word word) → (next : List ℕ → Plan Ending)
      → ((value : List ℕ) → IsContents value → IsSpelledCommand (next value)) → IsSpelledCommand (given (word_operand env word) next)
  word_given word is next leads =
      let value : List ℕ = word_value env word in
      cond_both (is_too_large (length value)) _ _ (λ result. IsSpelledCommand (given result next))
      (λ large. refused_line (codes "too large") refl)
      (λ small. leads value (within_limit value (word_has env spelled word is) small))

  path_if_any : (path : Option (List (List ℕ))) → IsPathIfAny path → (next : List (List ℕ) → Plan Ending)
      → ((path : List (List ℕ)) → IsPath path → IsSpelledCommand (next path)) → IsSpelledCommand (given (path_or_bad path) next)
  path_if_any None is next leads = refused_line (codes "bad path") refl
  path_if_any (Some path) is next leads = leads path is

  path_given : (word : List Piece) → (next : List (List ℕ) → Plan Ending)
      → ((path : List (List ℕ)) → IsPath path → IsSpelledCommand (next path)) → IsSpelledCommand (given (path_operand env word) next)
  path_given word next leads =
      let value : List ℕ = word_value env word in
      cond_both (is_too_large (length value)) _ _ (λ result. IsSpelledCommand (given (read_path result) next))
      (λ large. refused_line (codes "too large") refl)
      (λ small. path_if_any (path_of value) (parsed_is_path value) next leads)

  -- ---- questions that several commands ask

  module _ (path : List (List ℕ)) (valid : IsPath path) where
    module _ (good : Plan Ending) (is_good : IsSpelledCommand good) where
      parent_at : (answer : Answer) → IsSpelledCommand (in_parent path good answer)
      parent_at IsDir = is_good
      parent_at _ = failed path valid _ refl

      parent_asked : IsSpelledCommand (ask_parent path good)
      parent_asked = (parent_is_path path valid, λ answer has. parent_at answer)

      target_at : (answer : Answer) → IsSpelledCommand (at_target path good answer)
      target_at IsFile = is_good
      target_at Absent = parent_asked
      target_at _ = failed path valid _ refl

      targeted : IsSpelledCommand (target path good)
      targeted = (valid, λ answer has. target_at answer)

      new_dir_at : (answer : Answer) → IsSpelledCommand (at_new_dir path good answer)
      new_dir_at Absent = parent_asked
      new_dir_at _ = failed path valid _ refl

      empty_at : (answer : Answer) → IsSpelledCommand (given (names_or path answer) (when_empty path good))
      empty_at (Names []) = is_good
      empty_at (Names (child ∷ children)) = failed path valid _ refl
      empty_at _ = failed path valid _ refl

      emptied : IsSpelledCommand (empty_dir path good)
      emptied = (valid, λ answer has. empty_at answer)

      dir_target_at : (answer : Answer) → IsSpelledCommand (at_dir_target path good answer)
      dir_target_at IsDir = emptied
      dir_target_at Absent = parent_asked
      dir_target_at _ = failed path valid _ refl

      dir_targeted : IsSpelledCommand (dir_target path good)
      dir_targeted = (valid, λ answer has. dir_target_at answer)

    contents_at : (next : List ℕ → Plan Ending) → ((bytes : List ℕ) → IsContents bytes → IsSpelledCommand (next bytes)) → (answer : Answer)
        → IsAnswer answer → IsSpelledCommand (given (contents_or path answer) next)
    contents_at next leads (Bytes bytes) has = leads bytes has
    contents_at next leads _ has = failed path valid _ refl

    contents_read : (next : List ℕ → Plan Ending) → ((bytes : List ℕ) → IsContents bytes → IsSpelledCommand (next bytes))
        → IsSpelledCommand (contents path next)
    contents_read next leads = (valid, contents_at next leads)

    -- ---- the commands

    written : (bytes : List ℕ) → IsContents bytes → IsSpelledCommand (write path bytes)
    written bytes has = targeted (makes (updates.Put path bytes)) (made (updates.Put path bytes) (valid, has))

    appended : (more : List ℕ) → IsContents more → IsSpelledCommand (append path more)
    appended more also = contents_read (with_more path more) (λ bytes has.
        cond_both (is_too_large (length bytes + length more)) _ _ IsSpelledCommand
        (λ large. failed path valid _ refl)
        (λ small. made (updates.Put path (bytes ++ more)) (valid, joined_contents bytes more has also small)))

    joins : (one two : List ℕ) → IsContents one → IsContents two → IsSpelledCommand (join path one two)
    joins one two first second =
        cond_both (is_too_large (length one + length two)) _ _ IsSpelledCommand
        (λ large. failed path valid _ refl)
        (λ small. written (one ++ two) (joined_contents one two first second small))

    listed_at : (answer : Answer) → IsAnswer answer
        → IsSpelledCommand (given (names_or path answer) (λ children. prints (map name_line children)))
    listed_at (Names children) has = prints_lines (map name_line children) (name_lines children has.each)
    listed_at _ has = failed path valid _ refl

    file_at : (answer : Answer) → IsSpelledCommand (at_file path answer)
    file_at IsFile = made (updates.Remove path) valid
    file_at _ = failed path valid _ refl

    mode_at : (mode : Mode) (answer : Answer) → IsSpelledCommand (at_mode path mode answer)
    mode_at mode On = made (updates.SetMode path mode) valid
    mode_at mode Off = made (updates.SetMode path mode) valid
    mode_at mode _ = failed path valid _ refl

    dir_removed : IsSpelledCommand (remove_dir path)
    dir_removed =
        cond_both (length path == 0) _ _ IsSpelledCommand
        (λ root. failed path valid _ refl)
        (λ below. emptied (makes (updates.Remove path)) (made (updates.Remove path) valid))

  module _ (from to : List (List ℕ)) (from_valid : IsPath from) (to_valid : IsPath to) where
    moved_at : (good : Plan Ending) → IsSpelledCommand good → (answer : Answer) → IsSpelledCommand (at_moved from to good answer)
    moved_at good is_good IsFile = targeted to to_valid good is_good
    moved_at good is_good IsDir = dir_targeted to to_valid good is_good
    moved_at good is_good _ = failed from from_valid _ refl

    moved_to : IsSpelledCommand (move from to)
    moved_to =
        cond_both (is_at_or_below to from) _ _ IsSpelledCommand
        (λ inside. failed to to_valid _ refl)
        (λ apart.
        (from_valid, λ answer has. moved_at (makes (updates.Move from to)) (made (updates.Move from to) (from_valid, to_valid)) answer))

    kept_at : (bytes : Option (List ℕ)) → ((found : List ℕ) → bytes ≡ Some found → IsContents found)
        → IsSpelledCommand (at_kept from to bytes)
    kept_at None has = failed from from_valid _ refl
    kept_at (Some bytes) has = written to to_valid bytes (has bytes refl)

  module _ (kept : Kept) (files : AreSpelledFiles kept) where
    command_spelled : (command : Command) → IsTrue (is_command command) → IsSpelledCommand (table kept env command)
    command_spelled (Echo w) is =
        word_given w is echo
        (λ text has. prints_lines (lines (text ++ codes "\n"))
        (lines_are_lines (text ++ codes "\n") (joined is_content_byte text (codes "\n") has.bytes refl)))
    command_spelled (Set x w) is =
        word_given w (second_so (is_variable x) (is_word w) is) (sets x) (λ value has. sets_value x value has.bytes)
    command_spelled (Read x p) is =
        path_given p (read x) (λ path valid. contents_read path valid (sets x) (λ bytes has. sets_value x bytes has.bytes))
    command_spelled (Cat p) is =
        path_given p cat
        (λ path valid. contents_read path valid (λ bytes. prints (lines bytes))
        (λ bytes has. prints_lines (lines bytes) (lines_are_lines bytes has.bytes)))
    command_spelled (Ls p) is = path_given p list_names (λ path valid. (valid, listed_at path valid))
    command_spelled (MakeDir p) is =
        path_given p make_dir
        (λ path valid.
        (valid, λ answer has. new_dir_at path valid (makes (updates.MakeDir path)) (made (updates.MakeDir path) valid) answer))
    command_spelled (Write p w) is =
        path_given p _
        (λ path valid. word_given w (second_so (is_word p) (is_word w) is) (write path) (λ bytes has. written path valid bytes has))
    command_spelled (Append p w) is =
        path_given p _
        (λ path valid. word_given w (second_so (is_word p) (is_word w) is) (append path) (λ more has. appended path valid more has))
    command_spelled (Copy p q) is =
        path_given p _
        (λ from from_valid. path_given q (copy from)
        (λ to to_valid. contents_read from from_valid (write to) (λ bytes has. written to to_valid bytes has)))
    command_spelled (Concat q p1 p2) is =
        path_given q _ (λ to to_valid. path_given p1 _ (λ first first_valid. path_given p2 (concat to first) (λ second second_valid.
        contents_read first first_valid (λ one. contents second (λ two. join to one two))
        (λ one has. contents_read second second_valid (join to one) (λ two also. joins to to_valid one two has also)))))
    command_spelled (Remove p) is = path_given p remove_file (λ path valid. (valid, λ answer has. file_at path valid answer))
    command_spelled (RemoveDir p) is = path_given p remove_dir (λ path valid. dir_removed path valid)
    command_spelled (Move p q) is =
        path_given p _ (λ from from_valid. path_given q (move from) (λ to to_valid. moved_to from to from_valid to_valid))
    command_spelled (Chmod switch p) is =
        path_given p (change_mode (mode_of switch)) (λ path valid. (valid, λ answer has. mode_at path valid (mode_of switch) answer))
    command_spelled (Keep p q) is =
        path_given p _
        (λ from from_valid. path_given q (keep kept from)
        (λ to to_valid. kept_at from to from_valid to_valid (get kept from) (files.each from)))

-- ---- the effects of commands

command_is_line : (command : Command) → IsLine (command_name command)
command_is_line (Echo w) = refl
command_is_line _ = refl

pub command_plan : (kept : Kept) → AreSpelledFiles kept → (env : Env) → IsSpelledEnv env → (command : Command) → IsTrue (is_command command)
    → IsSpelledPlan (IsSpelledEffect IsSpelledEnv) (plan_of_command kept env command)
command_plan kept files env spelled command is =
    mapped_plan (IsSpelledEnding env spelled (command_name command) (command_is_line command)) (IsSpelledEffect IsSpelledEnv)
    (ending env (command_name command)) (table kept env command)
    (λ end is. is)
    (command_spelled env spelled (command_name command) (command_is_line command) kept files command is)
