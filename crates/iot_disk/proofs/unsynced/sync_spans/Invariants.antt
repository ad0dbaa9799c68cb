use Rattle.std.proofs.Common.{◌≡◌, length, drop}
use Rattle.iot_disk.specs.Unsynced.{Hold, AreAlike}
use Rattle.iot_disk.proofs.unsynced.sync_spans.Given as goal

-- the marks that are left lie in the spans that are left
abbrev pub invariant-loop-span : goal.invariant-loop-span
invariant-loop-span l = record {
  marks : length l.marks ≡ length l.fn.marks;
  synced : length l.synced ≡ length l.fn.synced;
  alike : AreAlike l.marks l.synced l.written;
  hold : Hold (drop l.span-index l.spans) l.rest l.marks;
}
