use Rattle.std.proofs.Common.{◌≡◌, ◌++◌, take, length}
use Rattle.std.specs.List.{flat_map}
use Rattle.iot_codec.specs.Spelling.{number_spelling}
use Rattle.iot_codec.proofs.lists.put_list.Given as goal

abbrev pub invariant-items : goal.invariant-items
invariant-items g l = l.out ≡ l.fn.out ++ (number_spelling (length l.items) ++ flat_map g.T.Spelled.spelling (take l.item-index l.items))
