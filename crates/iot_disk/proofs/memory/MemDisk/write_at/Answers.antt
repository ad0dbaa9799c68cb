use Rattle.std.proofs.Common.{◌≡◌, ◌≤◌, ◌^◌, inr, ℕ, ◌+◌, max, Bool, true, List, length, replicate, refl, ◌∙◌, sym, ap, subst, arith}
use Rattle.iot_disk.specs.Disk.{overwritten}
use Rattle.iot_disk.specs.Failures.{answer}
use Rattle.iot_disk.specs.Memory.{Memory, IsSound, after_write}
use Rattle.iot_disk.specs.Unsynced.{all_marks, Covers}
use Rattle.iot_disk.proofs.MarksLaws.{covered_is}
use Rattle.iot_disk.proofs.MemoryLaws.{new_length, sound_written, written_memory}
use Rattle.iot_disk.proofs.memory.MemDisk.write_at.Goals as goal

written_is : (c : goal.After-call) → c.overwrite.new.to.items ≡ overwritten c.self.inside.written.items c.args.at c.args.bytes.now
written_is c = c.overwrite.ensures ∙ ap (λ (l : List ℕ). overwritten l c.args.at c.args.bytes.now) c.in_ok-make_room.ensures.written

is_inside : (c : goal.After-call) → c.args.at ≤ length c.self.inside.written.items
is_inside c = omega (arith, c.requires, ap (λ (m : Memory). length m.written) c.self.view_is)

size_is : (c : goal.After-call) →
    length c.overwrite.new.to.items ≡ max (length c.self.inside.written.items) (c.args.at + length c.args.bytes.now)
size_is c = ap length (written_is c) ∙ new_length _ c.args.bytes.now _ c.args.at (is_inside c) c.self.invariant.0.marks

marks_are : (c : goal.After-call) → all_marks c.cover.new.self.known (length c.overwrite.new.to.items)
    ≡ overwritten (all_marks c.self.inside.unsynced.known (length c.self.inside.written.items)) c.args.at
    (replicate (length c.args.bytes.now) true)
marks_are c =
    let at = c.args.at in
    let bytes = c.args.bytes.now in
    let written = c.self.inside.written.items in
    let known = c.self.inside.unsynced.known in
    let inside : length known ≤ length written =
    omega (arith, c.self.invariant.1.known, c.self.invariant.0.grown) in
    let covers = subst (λ (l : List Bool). Covers (record { start = at; end = at + length bytes }) l c.cover.new.self.known)
    c.in_ok-make_room.ensures.known c.cover.ensures.covers in
    covered_is _ known c.cover.new.self.known (length written) _ at (length bytes) refl refl inside (is_inside c) (size_is c) covers

pub returns-clause-written : goal.returns-clause-written
returns-clause-written c =
    let at = c.args.at in
    let bytes = c.args.bytes.now in
    let old : Memory = record {
      written = c.self.inside.written.items;
      synced = c.self.inside.synced.items;
      unsynced = all_marks c.self.inside.unsynced.known (length c.self.inside.written.items);
      failures = c.self.inside.failures;
    } in
    let new : Memory = record {
      written = c.overwrite.new.to.items;
      synced = c.make_room.new.synced.items;
      unsynced = all_marks c.cover.new.self.known (length c.overwrite.new.to.items);
      failures = c.call.new.self;
    } in
    let is = written_memory at bytes old new (written_is c) c.in_ok-make_room.ensures.synced (marks_are c) c.call.ensures.state in
    λ within. inr (subst (λ (m : Memory). (c.call.result ≡ answer m.failures) × (new ≡ after_write at bytes m)) c.self.view_is
    (c.call.ensures.answer, is))

pub invariant_of-self-2 : goal.invariant_of-self-2
invariant_of-self-2 c =
    let at = c.args.at in
    let bytes = c.args.bytes.now in
    let written = c.self.inside.written.items in
    let synced = c.self.inside.synced.items in
    let marks = all_marks c.self.inside.unsynced.known (length written) in
    let sound = c.self.invariant.0 in
    let ready = c.self.invariant.1 in
    let room = c.in_ok-make_room.ensures in
    let limit : at + length bytes ≤ 2 ^ 62 = omega arith in
    let now = sound_written written bytes marks at (is_inside c) sound.marks synced sound limit in (
      subst (λ (l : List Bool). IsSound c.overwrite.new.to.items c.make_room.new.synced.items l) (sym (marks_are c))
          (subst (λ (l : List ℕ). IsSound l c.make_room.new.synced.items (overwritten marks at (replicate (length bytes) true)))
          (sym (written_is c))
          (subst (λ (l : List ℕ). IsSound (overwritten written at bytes) l (overwritten marks at (replicate (length bytes) true)))
          (sym room.synced) now)),
      record {
        known = omega (arith, c.cover.ensures.covers.size, ap length room.known, ap length room.synced, ready.known);
        room_bytes = omega (arith, size_is c, room.room_synced, room.same_room, ready.room_bytes);
        room_marks = omega (arith, size_is c, room.room_marks, room.same_room_marks, ready.room_marks, c.cover.ensures.room);
      },
    )
