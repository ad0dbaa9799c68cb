use Rattle.std.proofs.Common.{◌≡◌, ◌+◌, ◌++◌, List, suc, drop, arith, ap, sym, ◌∙◌, ℕ}
use Rattle.std.specs.List.{zip}
use Rattle.iot_access.specs.Asked.{first_asked, is_asked}
use Rattle.iot_access.specs.BaseReads.{Base, based_reads}
use Rattle.iot_access.proofs.CollectLaws.{reads_more}
use Rattle.iot_access.proofs.collect.add_reads.Goals as goal

pub reads-preserved : goal.reads-preserved
reads-preserved c =
    let reads = c.args.reads.now in
    let left = drop (c.reads.read-index + 1) reads in
    let before = c.args.before.now in
    let old = c.reads.access in
    let now = c.add_read.new.access in
    let next : c.in_ok-place.place ≡ suc c.reads.place = omega (arith, c.in_ok-place.ensures) in
    record {
      place = omega (arith, c.in_ok-place.ensures, c.reads.invariant.place);
      even = c.in_ok-add_read.ensures.even;
      numbers = c.in_ok-add_read.ensures.numbers;
      updates = c.in_ok-add_read.ensures.updates ∙ c.reads.invariant.updates;
      bases = λ done rest tells.
          ap
          (λ (place : ℕ).
          zip now.places now.reads ++ first_asked (is_asked c.add_read.new.asked) (based_reads left before done place rest))
          next
          ∙ c.in_ok-add_read.ensures.bases done (based_reads left before done (suc c.reads.place) rest) tells
          ∙ ap (λ (bases : List Base). zip old.places old.reads ++ first_asked (is_asked c.reads.asked) bases)
          (sym (reads_more reads c.reads.read-index c.read-item.result before done c.reads.place rest c.reads-test.true c.read-item.is))
          ∙ c.reads.invariant.bases done rest tells;
    }
