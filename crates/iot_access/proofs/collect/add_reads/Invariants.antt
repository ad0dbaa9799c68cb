use Rattle.std.proofs.Common.{◌≡◌, ◌++◌, ◌+◌, List, drop, length}
use Rattle.std.specs.List.{zip}
use Rattle.iot_tree.specs.declared.updates.Update.{Update}
use Rattle.iot_access.specs.Access.{AreNumbers}
use Rattle.iot_access.specs.Asked.{first_asked, is_asked}
use Rattle.iot_access.specs.BaseReads.{Base, based_reads}
use Rattle.iot_access.specs.Origins.{TellAfter}
use Rattle.iot_access.proofs.collect.add_reads.Given as goal

abbrev pub invariant-reads : goal.invariant-reads
invariant-reads l = record {
  place : l.place ≡ l.read-index + l.first;
  even : length l.access.places ≡ length l.access.reads;
  numbers : AreNumbers l.access.places;
  updates : l.access.updates ≡ l.fn.access.updates;
  bases : (done : List Update) (rest : List Base) → TellAfter l.origins done
      → zip l.access.places l.access.reads
      ++ first_asked (is_asked l.asked) (based_reads (drop l.read-index l.reads) l.before done l.place rest)
      ≡ zip l.fn.access.places l.fn.access.reads
      ++ first_asked (is_asked l.fn.asked) (based_reads l.reads l.before done l.first rest);
}
