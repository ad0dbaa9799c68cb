use Rattle.std.proofs.Common.{◌≡◌, ◌+◌, ◌++◌, List, length, ap, refl, ◌∙◌}
use Rattle.std.specs.List.{zip}
use Rattle.iot_tree.specs.declared.access.Access.{Access}
use Rattle.iot_tree.specs.declared.acts.Read.{Read}
use Rattle.iot_tree.specs.declared.updates.Update.{Update}
use Rattle.iot_access.specs.Access.{cons_update}
use Rattle.iot_access.specs.Asked.{first_asked, is_asked}
use Rattle.iot_access.specs.BaseReads.{based_reads}
use Rattle.iot_access.proofs.CollectLaws.{collected_first, collected_more}
use Rattle.iot_access.proofs.collect.collect.Goals as goal

pub acts-init : goal.acts-init
acts-init c =
    let access : Access = c.of_nothing-access.result in
    record {
      even = rw c.of_nothing-access.ensures refl;
      numbers = rw c.of_nothing-access.ensures tt;
      kept =
          collected_first c.args.acts.now c.args.before.now (zip access.places access.reads) (is_asked c.new-asked.result) access.updates
          c.new-origins.result c.requires (rw c.of_nothing-access.ensures refl) c.new-asked.ensures
          (rw c.of_nothing-access.ensures refl) c.new-origins.ensures;
    }

pub acts-preserved : goal.acts-preserved
acts-preserved c =
    let old = c.acts.access in
    let now = c.add_reads.new.access in
    let added = c.in_ok-place.ensures in
    let reads : c.as_slice.result.now ≡ c.act-item.result.reads = c.as_slice.ensures in
    record {
      even = added.even;
      numbers = added.numbers;
      kept =
          collected_more c.args.acts.now c.acts.act-index c.act-item.result c.args.before.now c.acts.place c.in_ok-place.place
          (zip old.places old.reads) (zip now.places now.reads) (is_asked c.acts.asked) (is_asked c.add_reads.new.asked) old.updates
          c.add_update.new.updates c.acts.origins c.add_update.new.origins c.acts-test.true c.act-item.is
          c.acts.invariant.kept (added.place ∙ ap (λ (reads : List Read). length reads + c.acts.place) reads)
          (λ done rest tells.
          added.bases done rest tells
          ∙ ap
          (λ (reads : List Read).
          zip old.places old.reads
          ++ first_asked (is_asked c.acts.asked) (based_reads reads c.args.before.now done c.acts.place rest)) reads)
          (λ rest.
          c.in_ok-add_update.ensures.updates rest
          ∙ ap (λ (updates : List Update). updates ++ cons_update c.act-item.result.update rest) added.updates)
          c.in_ok-add_update.ensures.tells;
    }
