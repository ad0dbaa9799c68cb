use Rattle.std.proofs.Common.{◌≡◌, ◌+◌, [], ◌∷◌, inl, length, refl, ap, ◌∙◌, arith, length-append}
use Rattle.iot_journal.specs.Decoding.{bodies_decoded, records}
use Rattle.iot_journal.specs.Journal.{bodies_on}
use Rattle.iot_journal.proofs.DecodingLaws.{length-bodies-le}
use Rattle.iot_journal.proofs.ImagesLaws.{each_after, each_gate, laid_out, layout_encodes, synced, each_only, either_after}
use Rattle.iot_journal.proofs.journal.Journal.append.Goals as goal

pub returns-in_err-keep-clause-images : goal.returns-in_err-keep-clause-images
returns-in_err-keep-clause-images g c =
    let s = c.requires in
    let all = each_after _ _ _ s.layout s.limit _ _ _ s.only c.in_err-keep.ensures.images in
    record { each = λ image left. inl (all.each image left) }

pub returns-in_err-keep-2-clause-images : goal.returns-in_err-keep-2-clause-images
returns-in_err-keep-2-clause-images g c =
    let s = c.requires in
    let first = c.in_ok-keep.ensures in
    let spelled = c.deref.ensures.value ∙ c.in_ok-spell_record.ensures in
    let torn = c.in_err-keep-2.ensures.images in
    each_gate _ _ _ s.layout s.limit c.args.body.now _ _ _ _ spelled first.written first.limit first.durable torn

pub overflow_add-self-3 : goal.overflow_add-self-3
overflow_add-self-3 g c =
    let s = c.requires in
    let bodies = bodies_on g.D.Disk.medium c.args.self.now in
    let size = length-append (records bodies) (s.layout.byte ∷ s.layout.rest) in
    omega (arith, s.count, length-bodies-le bodies, ap length s.layout.is, size, s.limit)

pub returns-clause-synced : goal.returns-clause-synced
returns-clause-synced g c =
    let s = c.requires in
    let first = c.in_ok-keep.ensures in
    let then = c.in_ok-keep-2.ensures in
    let spelled = c.deref.ensures.value ∙ c.in_ok-spell_record.ensures in
    let moved : c.args.self.now.gate + c.len.result ≡ c.args.self.now.gate + length c.deref.result.now =
    omega (arith, c.len.ensures, c.deref.ensures.len) in
    let body = c.args.body.now in
    let done = laid_out _ _ _ s.layout s.limit body _ _ _ _ spelled first.written first.limit then.written moved in
    let size = length-append (bodies_on g.D.Disk.medium c.args.self.now) (body ∷ []) in
    synced _ _ _ then.durable done.0 done.1 (omega (arith, s.count, size))

pub returns-clause-bodies : goal.returns-clause-bodies
returns-clause-bodies g c =
    let s = c.requires in
    let first = c.in_ok-keep.ensures in
    let then = c.in_ok-keep-2.ensures in
    let spelled = c.deref.ensures.value ∙ c.in_ok-spell_record.ensures in
    let done = laid_out _ _ _ s.layout s.limit c.args.body.now _ _ _ _ spelled first.written first.limit then.written refl in
    ap bodies_decoded (layout_encodes _ _ _ done.0 (omega (arith, done.1)))

pub returns-clause-appended : goal.returns-clause-appended
returns-clause-appended g c =
    let s = c.requires in
    let first = c.in_ok-keep.ensures in
    let then = c.in_ok-keep-2.ensures in
    let spelled = c.deref.ensures.value ∙ c.in_ok-spell_record.ensures in
    let done = laid_out _ _ _ s.layout s.limit c.args.body.now _ _ _ _ spelled first.written first.limit then.written refl in
    each_only _ _ _ then.durable (layout_encodes _ _ _ done.0 (omega (arith, done.1)))

pub returns-clause-images : goal.returns-clause-images
returns-clause-images g c = either_after _ _ _ (returns-clause-appended g c)
