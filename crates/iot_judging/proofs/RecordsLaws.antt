-- The records of a list in two parts, and the record of its last commit.
use Rattle.std.proofs.Common.{◌≡◌, ℕ, List, [], ◌∷◌, ◌++◌, refl, sym, ap, ◌∙◌, append_assoc}
use Rattle.std.proofs.lemmas.List.{map-append}
use Rattle.iot_access.specs.Access.{access_of, lines_of}
use Rattle.iot_backup.specs.Start.{last_of, last_or}
use Rattle.iot_exec.specs.Serial.{Entry, run_entry, tree_from}
use Rattle.iot_judging.specs.Records.{records_from, EncodesList}
use Rattle.iot_machine.specs.Machine.{Commit, entries_of, tree_after}
use Rattle.iot_machine.specs.Recorded.{label_of}
use Rattle.iot_slots.specs.Decoding.{State as Encoded}
use Rattle.iot_slots.specs.Slots.{appended}
use Rattle.iot_store.specs.Records.{record_spelling}
use Rattle.iot_tree.specs.Tree.{Nodes, root_alone}
use Rattle.iot_tree.specs.declared.labels.Way.{Way}
use Rattle.iot_tree.specs.declared.nodes.Node.TheVariants.{Dir}

tree_from_more : (front later : List (Entry Way)) (tree : Nodes) → tree_from (front ++ later) tree ≡ tree_from later (tree_from front tree)
tree_from_more [] later tree = refl
tree_from_more (entry ∷ front) later tree = tree_from_more front later (run_entry entry tree).tree

pub tree_after_more : (front later : List Commit) → tree_after (front ++ later) ≡ tree_from (entries_of later) (tree_after front)
tree_after_more front later =
    ap (λ (es : List (Entry Way)). tree_from es (root_alone Dir)) (map-append (λ c. c.entry) front later)
    ∙ tree_from_more (entries_of front) (entries_of later) (root_alone Dir)

-- the record of a commit on a tree
abbrev pub record_of : Commit → Nodes → List ℕ
record_of commit t =
    record_spelling (label_of commit) (access_of (run_entry commit.entry t).acts t) (lines_of (run_entry commit.entry t).acts)

-- the records of a list with one commit more
records_push : (commits : List Commit) (commit : Commit) (t : Nodes)
    → records_from (commits ++ commit ∷ []) t ≡ records_from commits t ++ record_of commit (tree_from (entries_of commits) t) ∷ []
records_push [] commit t = refl
records_push (other ∷ commits) commit t =
    ap (λ (rs : List (List ℕ)). record_of other t ∷ rs) (records_push commits commit (run_entry other.entry t).tree)

-- what encodes a list encodes it with one commit more, if it gets its record
pub list_push : {encoded : Encoded} {body : List ℕ} (commits : List Commit) (commit : Commit) → body ≡ record_of commit (tree_after commits)
    → EncodesList encoded commits → EncodesList (appended encoded body) (commits ++ commit ∷ [])
list_push commits commit is list = record {
  front = list.front;
  later = list.later ++ commit ∷ [];
  split =
      ap (λ (cs : List Commit). cs ++ commit ∷ []) list.split ∙ append_assoc list.front list.later (commit ∷ []);
  spells = list.spells;
  records =
      let there = ap tree_after list.split ∙ tree_after_more list.front list.later in
      (λ i. list.records i ++ (is ∙ ap (record_of commit) there) i ∷ []) ∙ sym (records_push list.later commit (tree_after list.front));
}

pub last_pushed : (first : List ℕ) (bodies : List (List ℕ)) (body : List ℕ) → last_or first (bodies ++ body ∷ []) ≡ body
last_pushed first [] body = refl
last_pushed first (other ∷ bodies) body = last_pushed other bodies body

-- the last of the records behind a checkpoint is that of the last commit
last_record : (front later commits : List Commit) (commit : Commit) (t : Nodes) (bodies : List (List ℕ)) (body : List ℕ)
    → commits ++ commit ∷ [] ≡ front ++ later → bodies ++ body ∷ [] ≡ records_from later (tree_from (entries_of front) t)
    → body ≡ record_of commit (tree_from (entries_of commits) t)
last_record [] later commits commit t bodies body split is =
    sym (last_pushed [] bodies body)
    ∙ ap last_of (is ∙ ap (λ (l : List Commit). records_from l t) (sym split) ∙ records_push commits commit t)
    ∙ last_pushed [] (records_from commits t) (record_of commit (tree_from (entries_of commits) t))
last_record (first ∷ front) later (other ∷ commits) commit t bodies body split is =
    let rest = last_record front later commits commit (run_entry first.entry t).tree bodies body (cc) is in
    let same : first ≡ other = cc in
    rest ∙ ap (λ (c : Commit). record_of commit (tree_from (entries_of commits) (run_entry c.entry t).tree)) same
last_record (first ∷ front) [] [] commit t [] body split is = absurd cc
last_record (first ∷ front) [] [] commit t (other ∷ bodies) body split is = absurd cc
last_record (first ∷ []) (next ∷ later) [] commit t bodies body split is = absurd cc
last_record (first ∷ second ∷ front) (next ∷ later) [] commit t bodies body split is = absurd cc

-- so what encodes the list before it encodes the list with it, if it gets the record that another has last
pub more_longer : (one was : Encoded) (body : List ℕ) (commits longer : List Commit) (commit : Commit) → longer ≡ commits ++ commit ∷ []
    → EncodesList (appended one body) longer → EncodesList was commits → EncodesList (appended was body) longer
more_longer one was body commits longer commit is list has =
    rw is
    (list_push commits commit
    (last_record list.front list.later commits commit (root_alone Dir) one.bodies body (sym is ∙ list.split) list.records) has)
