-- The stamps of a list of commits: which they are, and that a held tree which agrees with them agrees with those of a longer list.
use Rattle.std.proofs.Common.{◌≡◌, ◌+◌, ℕ, List, [], ◌∷◌, ◌++◌, length, arith, sym, ap, subst, ◌∙◌}
use Rattle.iot_judging.specs.Lists.{stamps_from, state_of}
use Rattle.iot_tree.specs.Tree.{Nodes, IsTree, IsWhole, root_alone}
use Rattle.iot_tree.specs.declared.nodes.Node.TheVariants.{Dir}
use Rattle.iot_exec.specs.Serial.{run_entry, tree_from}
use Rattle.iot_machine.specs.Machine.{Commit, entries_of, tree_after}
use Rattle.iot_stamp.specs.Stamps.{Stamps, nodes_of}
use Rattle.iot_tree.specs.declared.acts.Act.{Act}
use Rattle.iot_acts.specs.Traces.{after_acts}
use Rattle.iot_stamp.specs.Acting.{UpdatesFit, stamped_acts}
use Rattle.iot_stamp.specs.Agreement.{Agrees, IsPositive, Keeps, UpTo}
use Rattle.iot_stamp.proofs.ActingLaws.{holds_fit, keeps_acts, nodes_after_acts}
use Rattle.iot_stamp.proofs.AgreementLaws.{agrees_commit, positive_commit, positive_with, up_commit, up_with}
use Rattle.iot_stamp.proofs.StampsLaws.{nodes_with}
use Rattle.iot_store.specs.Stamps.{opening_stamps, next_stamp}
use Rattle.iot_acts.proofs.TraceLaws.{AreDone}
use Rattle.iot_judging.proofs.JudgingLaws.{own_acts, run_tree}
use Rattle.iot_judging.proofs.RunTreesLaws.{list_whole, root_is_tree, run_whole}

-- the stamps of a list in two parts
pub stamps_split : (front later : List Commit) (t : Nodes) (s : Stamps) (before : ℕ)
    → stamps_from (front ++ later) t s before
    ≡ stamps_from later (tree_from (entries_of front) t) (stamps_from front t s before) (before + length front)
stamps_split [] later t s before =
    let number : before ≡ before + length {A = Commit} [] = omega arith in
    ap (stamps_from later t s) number
stamps_split (first ∷ front) later t s before =
    let next = run_entry first.entry t in
    let mid = stamped_acts s next.acts (next_stamp before) in
    let number : before + 1 + length front ≡ before + length (first ∷ front) = omega arith in
    stamps_split front later next.tree mid (before + 1)
    ∙ ap (stamps_from later (tree_from (entries_of front) next.tree) (stamps_from front next.tree mid (before + 1))) number

-- a whole tree with the stamps that so many commits have given
pub record IsStamped (t : Nodes) (s : Stamps) (before : ℕ) : Type 0 where
  pub nodes : nodes_of s ≡ t
  pub tree : IsTree t
  pub whole : IsWhole t
  pub positive : IsPositive s
  pub within : UpTo s (before + 1)

-- ---- one commit more

module _ (commit : Commit) (t : Nodes) (s : Stamps) (before : ℕ) (here : IsStamped t s before) where
  abbrev acts : List Act
  acts = (run_entry commit.entry t).acts

  abbrev next : Stamps
  next = stamped_acts s acts (next_stamp before)

  own : AreDone t acts (run_entry commit.entry t).tree
  own = own_acts commit.entry.script commit.entry.kept t commit.entry.budget here.tree

  keeps : Keeps s next (next_stamp before)
  keeps = keeps_acts (next_stamp before) s acts (subst (λ (u : Nodes). UpdatesFit u acts) (sym here.nodes) (holds_fit t acts own.hold))

  nodes_next : nodes_of next ≡ (run_entry commit.entry t).tree
  nodes_next = nodes_after_acts (next_stamp before) s acts ∙ ap (λ (u : Nodes). after_acts u acts) here.nodes ∙ sym own.made

  whole_next : IsWhole (run_entry commit.entry t).tree
  whole_next = run_whole commit.entry.script commit.entry.kept t commit.entry.budget here.tree here.whole

  near : IsWhole (nodes_of next)
  near = subst IsWhole (sym nodes_next) whole_next

  one_more : IsStamped (run_entry commit.entry t).tree next (before + 1)
  one_more = record {
    nodes = nodes_next;
    tree = run_tree commit.entry.script commit.entry.kept t commit.entry.budget here.tree;
    whole = whole_next;
    positive = positive_commit s next (next_stamp before) here.positive (omega arith) near keeps;
    within = λ p a n is. let up = up_commit s next (before + 1) (next_stamp before) here.within (omega arith) near keeps p a n is in
        omega (arith, up);
  }

  agrees_next : (held : Stamps) → Agrees held s → UpTo held (before + 1) → Agrees held next
  agrees_next held agrees up = agrees_commit held s next (before + 1) (next_stamp before) agrees up (omega arith) near keeps

-- ---- more commits

grows : (commits : List Commit) (t : Nodes) (s : Stamps) (before : ℕ) → IsStamped t s before
    → IsStamped (tree_from (entries_of commits) t) (stamps_from commits t s before) (before + length commits)
grows [] t s before here =
    let number : before ≡ before + length {A = Commit} [] = omega arith in
    subst (IsStamped t s) number here
grows (commit ∷ commits) t s before here =
    let number : before + 1 + length commits ≡ before + length (commit ∷ commits) = omega arith in
    subst (IsStamped _ _) number
    (grows commits (run_entry commit.entry t).tree (stamped_acts s (run_entry commit.entry t).acts (next_stamp before)) (before + 1)
    (one_more commit t s before here))

agrees_on : (held : Stamps) (commits : List Commit) (t : Nodes) (s : Stamps) (before : ℕ) → IsStamped t s before → Agrees held s
    → UpTo held (before + 1) → Agrees held (stamps_from commits t s before)
agrees_on held [] t s before here agrees up = agrees
agrees_on held (commit ∷ commits) t s before here agrees up =
    agrees_on held commits (run_entry commit.entry t).tree (stamped_acts s (run_entry commit.entry t).acts (next_stamp before)) (before + 1)
    (one_more commit t s before here) (agrees_next commit t s before here held agrees up)
    (λ p a n is. let less = up p a n is in omega (arith, less))

-- ---- a list from the beginning

opens : IsStamped (root_alone Dir) opening_stamps 0
opens = record {
  nodes = nodes_with (λ k. 1) (root_alone Dir);
  tree = root_is_tree;
  whole = list_whole [];
  positive = positive_with (root_alone Dir) 1 (list_whole []) (omega arith);
  within = up_with (root_alone Dir) 1;
}

pub list_stamped : (commits : List Commit) → IsStamped (tree_after commits) (state_of commits).stamps (length commits)
list_stamped commits =
    let number : 0 + length commits ≡ length commits = omega arith in
    subst (IsStamped (tree_after commits) (state_of commits).stamps) number (grows commits (root_alone Dir) opening_stamps 0 opens)

-- what agrees with its stamps agrees with those of a longer list
pub agrees_longer : (held : Stamps) (commits later : List Commit) → Agrees held (state_of commits).stamps → UpTo held (length commits + 1)
    → Agrees held (state_of (commits ++ later)).stamps
agrees_longer held commits later agrees up =
    let number : length commits ≡ 0 + length commits = omega arith in
    subst (Agrees held) (sym (stamps_split commits later (root_alone Dir) opening_stamps 0))
    (agrees_on held later (tree_after commits) (state_of commits).stamps (0 + length commits)
    (subst (IsStamped (tree_after commits) (state_of commits).stamps) number (list_stamped commits)) agrees
    (subst (λ (n : ℕ). UpTo held (n + 1)) number up))
