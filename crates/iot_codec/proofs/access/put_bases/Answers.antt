use Rattle.std.proofs.Common.{length}
use Rattle.std.proofs.lemmas.List.{length_push}
use Rattle.std.proofs.lemmas.Slice.Zip.{zip_turn, zip_end}
use Rattle.iot_text.proofs.TextsLaws.{on_err}
use Rattle.iot_codec.proofs.BasesLaws.{number_part, written_number, written_more, written_all, base_part}
use Rattle.iot_codec.proofs.access.put_bases.Goals as goal

pub returns-in_err-put-clause-err : goal.returns-in_err-put-clause-err
returns-in_err-put-clause-err c =
    on_err _
    (number_part c.args.reads.now c.args.places.now c.min-count.result c.args.out.now c.put.new.out c.min-count.ensures
    c.in_err-put.ensures.err)

pub bases-init : goal.bases-init
bases-init c =
    written_number c.args.reads.now c.args.places.now c.min-count.result c.args.out.now c.put.new.out c.min-count.ensures
    c.in_ok-put.ensures.ok

pub bases-preserved : goal.bases-preserved
bases-preserved c =
    let reads = c.args.reads.now in
    let places = c.args.places.now in
    let t =
    zip_turn reads places c.bases.yielded c.into_iter-base-iterator.result c.bases.base-iterator c.next.new.self c.next.result
    (rw (c.into_iter-base-iterator.ensures.into_iter_gives, c.zip-base-items.ensures.first) c.iter.ensures.rest)
    (rw c.into_iter-base-iterator.ensures.into_iter_gives c.zip-base-items.ensures.second.0)
    c.bases.yielded_by (c.in-Some.base, c.in-Some.place) c.in-Some.is c.next.ensures.steps in
    let more = written_more reads places (length c.bases.yielded) c.in-Some.base.now c.in-Some.place.now c.args.out.now c.bases.out
    c.put_base.new.out t.0 t.1 (t.2 _) (t.3 _) c.bases.invariant c.in_ok-put_base.ensures.ok in
    rw length_push more

pub returns-in_err-put_base-clause-err : goal.returns-in_err-put_base-clause-err
returns-in_err-put_base-clause-err c =
    let reads = c.args.reads.now in
    let places = c.args.places.now in
    let t =
    zip_turn reads places c.bases.yielded c.into_iter-base-iterator.result c.bases.base-iterator c.next.new.self c.next.result
    (rw (c.into_iter-base-iterator.ensures.into_iter_gives, c.zip-base-items.ensures.first) c.iter.ensures.rest)
    (rw c.into_iter-base-iterator.ensures.into_iter_gives c.zip-base-items.ensures.second.0)
    c.bases.yielded_by (c.in-Some.base, c.in-Some.place) c.in-Some.is c.next.ensures.steps in
    on_err _
    (base_part reads places (length c.bases.yielded) c.in-Some.base.now c.in-Some.place.now c.args.out.now c.bases.out
    c.put_base.new.out t.0 t.1 (t.2 _) (t.3 _) c.bases.invariant c.in_err-put_base.ensures.err)

pub returns-clause-ok : goal.returns-clause-ok
returns-clause-ok c =
    let reads = c.args.reads.now in
    let places = c.args.places.now in
    let end =
    zip_end reads places c.bases.yielded c.into_iter-base-iterator.result c.bases.base-iterator c.next.new.self c.next.result
    (rw (c.into_iter-base-iterator.ensures.into_iter_gives, c.zip-base-items.ensures.first) c.iter.ensures.rest)
    (rw c.into_iter-base-iterator.ensures.into_iter_gives c.zip-base-items.ensures.second.0)
    c.bases.yielded_by c.in-None.is c.next.ensures.steps in
    written_all reads places (length c.bases.yielded) c.args.out.now c.bases.out end c.bases.invariant
