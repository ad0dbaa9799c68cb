-- A held tree goes on following the server's list, as the list gets longer; and what a refresh sends is the tree cut down to what is asked.
use Rattle.std.proofs.Common.{◌≡◌, ◌+◌, ◌||◌, ℕ, Bool, true, false, cond, List, [], ◌∷◌, ◌++◌, length, map, Option, Some, None, refl, sym}
use Rattle.std.proofs.Common.{ap, subst, ◌∙◌, arith, is_some, inl, inr, if◌then◌else◌, append-nil, length-append}
use Rattle.std.specs.FinMap.{entries, find}
use Rattle.std.specs.List.{cons_option, filter_map}
use Rattle.std.specs.Ordering.{eq_by_cmp}
use Rattle.iot_text.specs.Paths.{path_cmp}
use Rattle.iot_tree.specs.Snapshots.{has, prune, widen, is_known, known, paths_where}
use Rattle.iot_stamp.specs.Refresh.{asked, known_stamp, known_with_stamps}
use Rattle.iot_stamp.specs.Stamps.{Entry, pruned, stamp_at, Stamps, nodes_of}
use Rattle.iot_stamp.proofs.MappedLaws.{entries_of_mapped}
use Rattle.iot_stamp.proofs.StampsLaws.{nodes_with}
use Rattle.iot_machine.specs.Clients.{snapshot}
use Rattle.iot_machine.specs.Machine.{add_commit, Commit}
use Rattle.iot_hoard.specs.Picking.{picked}
use Rattle.iot_judging.specs.Errands.{paths_for}
use Rattle.iot_machine.specs.Serving.{Errand, Refresh, Walk, lent}
use Rattle.iot_machine.specs.Serving.{Certifies, holds, conflicts, Commits, committed, judged, server_name, Submission, Verdict}
use Rattle.iot_machine.specs.Stops.{Appends}
use Rattle.iot_stamp.specs.Trails.{KeepsTrail}
use Rattle.iot_judging.proofs.ListsLaws.{agrees_longer, list_stamped}
use Rattle.iot_judging.specs.Lists.{state_of, Follows}
use Rattle.iot_machine.specs.Nodes.{Node}
use Rattle.iot_tree.specs.Tree.{Path, Row}
use Rattle.iot_tree.specs.declared.want.Want.{Want}

-- ---- a longer list

pub follows_longer : (held : Stamps) (commits later : List Commit) → Follows held commits → Follows held (commits ++ later)
follows_longer held commits later it = record {
  far = it.far;
  agrees = agrees_longer held commits later it.agrees it.within;
  within = λ p a n here.
      let up = it.within p a n here in
      omega (arith, up, length-append commits later);
}

-- the server's list is longer after a call, or the same
pub record Grows (before after : List Commit) : Type 0 where
  pub later : List Commit
  pub is : after ≡ before ++ later

pub stays : (commits after : List Commit) → after ≡ commits → Grows commits after
stays commits after same = record { later = []; is = same ∙ sym (append-nil commits) }

commits_grow : (name : List ℕ) (commit : Commit) (node after : Node (List Commit)) (text : List ℕ) (verdict : Option Verdict)
    → Commits name commit node text verdict after → Grows node.durable after.durable
commits_grow name commit node after text verdict it = by it.second.first
  where
    settled : (said : List ℕ) (on : Bool) (mid : Node (List Commit)) (rest : List ℕ) → committed said on mid rest verdict after
        → after ≡ mid
    settled said true mid rest step = step.second.2 ∙ step.first.1
    settled said false mid rest step = step.2

    same : it.mid ≡ node
    same = it.first.2

    left : after ≡ it.second.mid
    left = settled it.answer it.second.answer it.second.mid it.second.rest it.second.second

    by : Appends server_name (add_commit commit) it.mid it.second.front it.second.answer it.second.mid → Grows node.durable after.durable
    by (inl went) = record {
      later = commit ∷ [];
      is = ap (λ (n : Node (List Commit)). n.durable) (left ∙ went.2)
          ∙ ap (λ (n : Node (List Commit)). n.durable ++ commit ∷ []) same;
    }
    by (inr stopped) =
        stays node.durable after.durable
        (ap (λ (n : Node (List Commit)). n.durable) (left ∙ stopped.2.is)
        ∙ ap (λ (n : Node (List Commit)). n.durable) same)

certifies_grow : (it : Submission) (node after : Node (List Commit)) (text : List ℕ) (verdict : Option Verdict)
    → Certifies it node text verdict after → Grows node.durable after.durable
certifies_grow it node after text verdict (holds reads commits) = commits_grow it.name it.commit node after text verdict commits
certifies_grow it node after text verdict (conflicts parts silent same) =
    stays node.durable after.durable (ap (λ (n : Node (List Commit)). n.durable) same)

pub judged_grows : (it : Submission) (number : Option ℕ) (node after : Node (List Commit)) (text : List ℕ) (verdict : Option Verdict)
    → judged it number node text verdict after → Grows node.durable after.durable
judged_grows it (Some number) node after text verdict step =
    stays node.durable after.durable (ap (λ (n : Node (List Commit)). n.durable) step.2)
judged_grows it None node after text verdict step = certifies_grow it node after text verdict step

pub follows_on : (held : Stamps) (before after : List Commit) → Grows before after → Follows held before → Follows held after
follows_on held before after more it = subst (Follows held) (sym more.is) (follows_longer held before more.later it)

pub follows_kept : (old new : Stamps) (commits : List Commit) → KeepsTrail old new → Follows old commits → Follows new commits
follows_kept old new commits keeps it = keeps (state_of commits).stamps (length commits + 1) (list_stamped commits).positive it

-- ---- the same paths are known

known_is : (t : Stamps) (p : Path) → has (known (nodes_of t)) p ≡ is_some (find path_cmp p (known_with_stamps t))
known_is t p =
    ap (λ (rows : List Row). has (paths_where (λ row. is_known row.1) rows) p) (entries_of_mapped (λ p (row : _ × ℕ). row.0) t)
    ∙ by (entries t)
  where
    here : (b : Bool) (n : ℕ) (one : Bool) (other : Option ℕ) → one ≡ is_some other → (b || one) ≡ is_some (cond b (Some n) other)
    here true n one other same = refl
    here false n one other same = same

    one_more : (b : Bool) (e : Entry) (paths : List Path) (known : List (Path × ℕ)) → has paths p ≡ is_some (find path_cmp p known)
        → has (cons_option (if b then Some e.0 else None) paths) p
        ≡ is_some (find path_cmp p (cons_option (cond b (Some (e.0, e.1.1)) None) known))
    one_more true e paths known same = here (eq_by_cmp path_cmp p e.0) e.1.1 (has paths p) (find path_cmp p known) same
    one_more false e paths known same = same

    by : (es : List Entry) → has (paths_where (λ row. is_known row.1) (map (λ (e : Entry). (e.0, e.1.0)) es)) p
        ≡ is_some (find path_cmp p (filter_map known_stamp es))
    by [] = refl
    by (e ∷ es) =
        one_more (is_known e.1.0) e (paths_where (λ row. is_known row.1) (map (λ (e : Entry). (e.0, e.1.0)) es)) (filter_map known_stamp es)
        (by es)

cut_is : (held server : Stamps) (want : Want)
    → snapshot (nodes_of held) want (nodes_of server) ≡ nodes_of (pruned server (asked server (known_with_stamps held) want))
cut_is held server want =
    (λ i. prune (nodes_of server) (widen (λ p. known_is held p i) (nodes_of server) want))
    ∙ sym (nodes_with (stamp_at server) (prune (nodes_of server) (asked server (known_with_stamps held) want)))

-- what a client gets is the server's tree, cut down to the paths of its errand
pub lent_is : (held server : Stamps) (errand : Errand)
    → lent (nodes_of held) errand (nodes_of server) ≡ nodes_of (pruned server (paths_for server held errand))
lent_is held server (Refresh want) = cut_is held server want
lent_is held server (Walk profile limit) =
    sym (nodes_with (stamp_at server) (prune (nodes_of server) (has (picked (nodes_of server) profile limit))))
