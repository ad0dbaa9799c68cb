-- A held tree goes on following the server's list: after each request, and by what the server sends.
use Rattle.iot_client.proofs.TrailsLaws.{nothing_trails}
use Rattle.iot_exchange.proofs.Common.{Commit, Errand, Follows}
use Rattle.iot_exchange.proofs.Common.{Grows, IsOneMessage, IsReply, IsTree, Judgment, List, Node, Nodes, Objects, Option, Query, Refresh}
use Rattle.iot_exchange.proofs.Common.{SpellsCut, SpellsTree, Stamps, ap, base_of, brought, call_one, length, nodes_of, nothing_held}
use Rattle.iot_exchange.proofs.Common.{refl, reply_laws, reply_spelling, request_of, state_of, subst, sym, ℕ, ◌++◌, ◌+◌, ◌<◌, ◌^◌, ◌∙◌, ◌≡◌}
use Rattle.{iot_exchange.specs.Pairs.Answered, iot_held.proofs.OutcomeLaws.cut_is as merged_is}
use Rattle.{iot_held.proofs.OutcomeLaws.cut_tree as merged_tree, iot_hoard.specs.Picking.picked}
use Rattle.iot_judging.proofs.{FollowingLaws.judged_grows, FollowingLaws.lent_is, FollowingLaws.stays, ListsLaws.list_stamped}
use Rattle.{iot_judging.specs.Errands.changes_to, iot_judging.specs.Errands.paths_for, iot_laptop.specs.Laptops.stamps_by}
use Rattle.{iot_laptop.specs.Laptops.state_by, iot_laptop.specs.declared.seated.Seated.Seated, iot_machine.specs.Serving.Walk}
use Rattle.iot_node.specs.declared.post.Post.{Post, TheVariants.Between, TheVariants.Down, TheVariants.Up}
use Rattle.iot_stamp.proofs.AgreementLaws.{agrees_pruned, far_zero_pruned, up_pruned}
use Rattle.iot_stamp.proofs.{CutsLaws.refresh_cut, CutsLaws.walk_cut, StampsLaws.nodes_with}
use Rattle.iot_stamp.specs.{Agreement.Agrees, Agreement.IsCutTo, Agreement.IsPositive, Stamps.FarZero, Stamps.pruned}
use Rattle.iot_tree.proofs.RowLaws.{root_map, root_rows}
use Rattle.iot_tree.specs.{Snapshots.has, Tree.root_alone, declared.changes.Changes.Changes, declared.nodes.Node.TheVariants.FarDir}
use Rattle.iot_wire.specs.Meanings.{Spells as SpellsReply}
use Rattle.iot_wire.specs.declared.replies.Reply.TheVariants as replies

-- so it is after each request
pub grows : (query : Query) (node after : Node (List Commit)) (text : List ℕ) (a : Option (Answered query))
    → request_of query node text a after → Grows node.durable after.durable
grows (Objects client held server tree errand) node after text a step =
    stays node.durable after.durable (ap (λ (n : Node (List Commit)). n.durable) step.2)
grows (Judgment it) node after text a step =
    let more = judged_grows it step.answer step.mid after step.rest a step.second in
    record { later = more.later; is = more.is ∙ ap (λ (n : Node (List Commit)). n.durable ++ more.later) step.first.2 }

pub follows_nothing : (commits : List Commit) → Follows nothing_held commits
follows_nothing commits = nothing_trails (state_of commits).stamps (length commits + 1) (list_stamped commits).positive

-- ---- what is held, without its stamps

pub nodes_none : nodes_of nothing_held ≡ root_alone FarDir
nodes_none = nodes_with (λ p. 0) (root_alone FarDir)

pub held_is : {D : Type 0} (post : Post (Seated D) D) → (state_by post).held ≡ nodes_of (stamps_by post)
held_is (Up seated) = refl
held_is (Down fallen) = sym nodes_none
held_is Between = sym nodes_none

pub nothing_tree : IsTree (nodes_of nothing_held)
nothing_tree = subst IsTree (sym nodes_none) (subst IsTree (root_map FarDir) (root_rows FarDir refl).tree)

-- ---- what the server sends

module _ (held : Stamps) (commits : List Commit) (server : Stamps) (errand : Errand) (bytes : List ℕ) (t : Nodes)
    (follows : Follows held commits) (tree : IsTree (nodes_of held)) (is : server ≡ (state_of commits).stamps)
    (cut : SpellsCut server held errand bytes t) where
  positive : IsPositive server
  positive = subst IsPositive (sym is) (list_stamped commits).positive

  -- what is sent for it
  cuts : (errand : Errand) → IsCutTo (base_of held errand) server (paths_for server held errand) (changes_to server held errand).rows
      (changes_to server held errand).gone
  cuts (Refresh want) = refresh_cut held server want _ _ (record {
    tree = cut.tree;
    whole = cut.whole;
    agrees = subst (Agrees held) (sym is) follows.agrees;
    rows_are = refl;
    gone_are = refl;
  })
  cuts (Walk profile limit) = walk_cut server (has (picked (nodes_of server) profile limit)) cut.tree cut.whole positive

  base : (errand : Errand) → IsTree (nodes_of (base_of held errand)) × FarZero (base_of held errand)
  base (Refresh want) = (tree, follows.far)
  base (Walk profile limit) = (nothing_tree, (follows_nothing commits).far)

  merges : brought (base_of held errand) (changes_to server held errand) ≡ pruned server (paths_for server held errand)
  merges = merged_is (base_of held errand) server (paths_for server held errand) _ _ (base errand).0 (base errand).1 (cuts errand)

  -- merged into its base it makes the server's tree, cut down to the paths of the errand
  pub makes_cut : SpellsTree (base_of held errand) bytes t
  makes_cut =
      let made : t ≡ nodes_of (brought (base_of held errand) (changes_to server held errand)) =
      cut.cut ∙ lent_is held server errand ∙ sym (ap nodes_of merges) in
      record {
        changes = changes_to server held errand;
        spelled = cut.spelled;
        is = made;
        tree = rw made (merged_tree _ server (paths_for server held errand) _ _ (base errand).0 (base errand).1 (cuts errand));
      }

  -- and what is held then follows the list, too
  pub follows_brought : (changes : Changes) → length bytes < 2 ^ 64 → SpellsReply bytes (replies.Objects changes)
      → Follows (brought (base_of held errand) changes) commits
  follows_brought changes short spells =
      let one : IsOneMessage IsReply reply_spelling bytes = call_one _ _ _ reply_laws bytes short in
      let same : changes ≡ changes_to server held errand = let objects = one _ _ spells cut.spelled in cc in
      let k = paths_for server held errand in
      rw (same, merges) (record {
        far = far_zero_pruned server k;
        agrees = subst (Agrees (pruned server k)) is (agrees_pruned server k positive);
        within = up_pruned server k (length commits + 1) (rw is (list_stamped commits).within);
      })
