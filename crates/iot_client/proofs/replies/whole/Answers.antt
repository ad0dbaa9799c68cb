use Rattle.std.proofs.Common.{◌≡◌, true, false, Err, sym, subst, ◌∙◌}
use Rattle.iot_codec.specs.Laws.Sorted.{sorted_table}
use Rattle.iot_tree.specs.Tree.{IsTree, IsWhole}
use Rattle.iot_held.specs.declared.merging.MergeFault.TheVariants.{NoMemory, NoTree}
use Rattle.iot_stamp.specs.Stamps.{nothing_held}
use Rattle.iot_client.specs.Messages.{MakesWhole, ReadsAs, is_whole}
use Rattle.iot_client.specs.declared.fault.ClientFault.{ClientFault}
use Rattle.iot_client.proofs.RepliesLaws.{makes_on}
use Rattle.iot_client.proofs.WholeLaws.{makes_no_tree, makes_of, makes_part, makes_whole}
use Rattle.iot_client.proofs.replies.whole.Goals as goal

pub returns-in_err-changes-clause-makes : goal.returns-in_err-changes-clause-makes
returns-in_err-changes-clause-makes c =
    makes_on (λ t. IsTree t × IsWhole t) nothing_held c.args.reply.now c.in_err-changes.field-0.0
    c.in_err-changes.ensures.reads c.from_residual.result c.from_residual.ensures.1

pub merge-requires-clause-rows : goal.merge-requires-clause-rows
merge-requires-clause-rows c = sorted_table c.in_ok-changes.changes.rows c.in_ok-changes.ensures.found.value.rows.rising

pub returns-in-Err-NoTree-clause-makes : goal.returns-in-Err-NoTree-clause-makes
returns-in-Err-NoTree-clause-makes c =
    subst (λ (fault : ClientFault). ReadsAs (MakesWhole c.args.reply.now) (Err fault)) (sym c.bad_at_its_end.ensures)
    (makes_no_tree c.args.reply.now c.in_ok-changes.changes c.in_ok-changes.ensures.reads c.in_ok-held.held c.in_ok-held.ensures.value
    (c.in-Err-NoTree.ensures.no_tree (λ same. let both : NoTree ≡ NoMemory = sym c.in-Err-NoTree.field-0-is ∙ same in cc)))

pub returns-then-not-is_whole-clause-makes : goal.returns-then-not-is_whole-clause-makes
returns-then-not-is_whole-clause-makes c =
    let part : is_whole c.tree.result.now ≡ false = cc in
    subst (λ (fault : ClientFault). ReadsAs (MakesWhole c.args.reply.now) (Err fault)) (sym c.bad_at_its_end-then-not-is_whole.ensures)
    (makes_part c.args.reply.now c.in_ok-changes.changes c.in_ok-changes.ensures.reads c.in_ok-held.held c.in_ok-held.ensures.value
    c.merge.new.self c.in-Ok.ensures.ok c.tree.result.now c.tree.ensures.value part)

pub returns-clause-makes : goal.returns-clause-makes
returns-clause-makes c =
    let all : is_whole c.tree.result.now ≡ true = cc in
    makes_whole c.args.reply.now c.in_ok-changes.changes c.in_ok-changes.ensures.reads c.in_ok-held.held c.in_ok-held.ensures.value
    c.merge.new.self c.in-Ok.ensures.ok c.tree.result.now c.tree.ensures.value c.in-Ok.ensures.tree all

pub returns-clause-found : goal.returns-clause-found
returns-clause-found c =
    let all : is_whole c.tree.result.now ≡ true = cc in
    makes_of c.args.reply.now c.in_ok-changes.changes c.in_ok-changes.ensures.reads c.in_ok-held.held c.in_ok-held.ensures.value
    c.merge.new.self c.in-Ok.ensures.ok c.tree.result.now c.tree.ensures.value c.in_ok-changes.ensures.found c.in-Ok.ensures.tree all
