use Rattle.std.proofs.Common.{◌≡◌, take}
use Rattle.std.specs.List.{list_all}
use Rattle.iot_views.specs.Rules.{is_content_byte}
use Rattle.iot_views.proofs.parts.are_content_bytes.Given as goal

abbrev pub invariant-bytes : goal.invariant-bytes
invariant-bytes l = l.all ≡ list_all is_content_byte (take l.byte-index l.bytes)
