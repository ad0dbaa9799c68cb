-- Steps of the commands that join contents.
use Rattle.std.proofs.Common.{◌≡◌, ℕ, ◌+◌, ◌==◌, Bool, true, false, List, ◌++◌, length, Result, Err, refl, subst, if◌then◌else◌}
use Rattle.std.specs.Result.{IsErrAnd}
use Rattle.iot_tree.specs.declared.updates.Update.TheVariants.{Remove}
use Rattle.iot_exec.specs.Plans.{Plan}
use Rattle.iot_exec.specs.Operands.{IsStopAt, is_too_large}
use Rattle.iot_exec.specs.Commands.{Ending, fails, contents, with_more, append, join, concat, write, copy, empty_dir, remove_dir, makes}
use Rattle.iot_exec.specs.Asking.{Leads, Finds, Ends}
use Rattle.iot_exec.specs.declared.asking.Asking.{Asking}
use Rattle.iot_exec.specs.declared.endings.Reason.TheVariants as because
use Rattle.iot_exec.specs.declared.endings.Success.{Success}
use Rattle.iot_exec.specs.declared.endings.Stop.{Stop}
use Rattle.iot_exec.proofs.AskingLaws.{one_then, ends_from, failed, missing}

-- a test that is known
chosen : (a : Asking) (p : Plan Ending) (b : Asking) (yes_plan no_plan : Plan Ending) (test is : Bool) → test ≡ is
    → Leads a p b (if test then yes_plan else no_plan) → Leads a p b (if is then yes_plan else no_plan)
chosen a p b yes_plan no_plan test is same leads = subst (λ (test : Bool). Leads a p b (if test then yes_plan else no_plan)) same leads

-- `rmdir` of a path that is not the root wants an empty directory
pub below_root : (path : List (List ℕ)) → (length path == 0) ≡ false → empty_dir path (makes (Remove path)) ≡ remove_dir path
below_root path is = rw is refl

-- what is found is given to what comes next
abbrev Found : Asking → List (List ℕ) → Asking → List ℕ → Type 0
Found a path b bytes = (next : List ℕ → Plan Ending) → Leads a (contents path next) b (next bytes)

pub append_large : (a b : Asking) (path : List (List ℕ)) (more bytes : List ℕ) (stop : Stop) → Found a path b bytes
    → is_too_large (length bytes + length more) ≡ true → IsStopAt stop path because.TooLarge → Ends a (append path more) b (Err stop)
append_large a b path more bytes stop found is at =
    failed a (append path more) b path because.TooLarge stop (chosen a (append path more) b _ _ _ true is (found (with_more path more))) at

pub copied : (a b c : Asking) (from to : List (List ℕ)) (bytes given : List ℕ) (result : Result Success Stop) → Found a from b bytes
    → given ≡ bytes → Ends b (write to given) c result → Ends a (copy from to) c result
copied a b c from to bytes given result found same ends =
    ends_from a (copy from to) b (write to bytes) c result (found (λ bytes. write to bytes))
    (subst (λ (given : List ℕ). Ends b (write to given) c result) same ends)

module _ (a : Asking) (to first second : List (List ℕ)) (b : Asking) (one : List ℕ) (found_one : Found a first b one) where
  first_found : Leads a (concat to first second) b (contents second (λ two. join to one two))
  first_found = found_one (λ one. contents second (λ two. join to one two))

  pub second_missing : (c : Asking) (stop : Stop) → Finds b (contents second) c (Err stop) → (result : Result Success Stop)
      → IsErrAnd result (λ e. e ≡ stop) → Ends a (concat to first second) c result
  second_missing c stop finds result is =
      ends_from a (concat to first second) b (contents second (λ two. join to one two)) c result first_found
      (missing b c (contents second) stop (λ two. join to one two) finds result is)

  module _ (c : Asking) (two : List ℕ) (found_two : Found b second c two) where
    both_found : (is : Bool) → is_too_large (length one + length two) ≡ is
        → Leads a (concat to first second) c (if is then fails to because.TooLarge else write to (one ++ two))
    both_found is same =
        one_then a _ b _ c _ first_found
        (chosen b (contents second (λ two. join to one two)) c _ _ _ is same (found_two (λ two. join to one two)))

    pub both_large : (stop : Stop) → is_too_large (length one + length two) ≡ true → IsStopAt stop to because.TooLarge
        → Ends a (concat to first second) c (Err stop)
    both_large stop is at = failed a (concat to first second) c to because.TooLarge stop (both_found true is) at

    pub both_written : (d : Asking) (given : List ℕ) (result : Result Success Stop) → is_too_large (length one + length two) ≡ false
        → given ≡ one ++ two → Ends c (write to given) d result → Ends a (concat to first second) d result
    both_written d given result is same ends =
        ends_from a (concat to first second) c (write to (one ++ two)) d result (both_found false is)
        (subst (λ (given : List ℕ). Ends c (write to given) d result) same ends)
