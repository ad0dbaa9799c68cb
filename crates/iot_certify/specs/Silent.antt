-- Acts that neither read nor change a tree.
use Rattle.std.specs.Prelude.{Bool, ◌&&◌, ◌==◌, not, is_some, length}
use Rattle.iot_tree.specs.declared.acts.Act.{Act}

-- the act reads and changes nothing
abbrev pub is_silent : Act → Bool
is_silent act = (length act.reads == 0) && not (is_some act.update)
