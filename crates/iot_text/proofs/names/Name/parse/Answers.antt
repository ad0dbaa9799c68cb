use Rattle.std.proofs.Common.{length, replicate, sym, length-take-le}
use Rattle.iot_text.specs.Names.{IsName}
use Rattle.iot_text.proofs.NamesLaws.{name_parts, stored}
use Rattle.iot_text.proofs.names.Name.parse.Goals as goal

pub slice_bounds-bytes-end : goal.slice_bounds-bytes-end
slice_bounds-bytes-end c =
    let name : IsName c.args.text.now = cc in
    (name_parts _ name).within_limit

pub slice_bounds-copy_from_slice-end : goal.slice_bounds-copy_from_slice-end
slice_bounds-copy_from_slice-end c =
    let name : IsName c.args.text.now = cc in
    sym (length-take-le (length c.args.text.now) (replicate 32 0) (name_parts _ name).within_limit)

pub copy_from_slice-requires : goal.copy_from_slice-requires
copy_from_slice-requires c =
    let name : IsName c.args.text.now = cc in
    length-take-le (length c.args.text.now) (replicate 32 0) (name_parts _ name).within_limit

pub invariant_of-result : goal.invariant_of-result
invariant_of-result c =
    let name : IsName c.args.text.now = cc in
    rw (c.copy_from_slice.ensures.after) (stored _ name)
