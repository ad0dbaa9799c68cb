-- The command, as `clap` sees it: five flags and one option.
use Rattle.std.specs.Prelude.{Some, codes, true}
use Rattle.clap.specs.Words.{App, Rule, new_app, new_rule, with_rule}
use Rattle.clap.specs.Simple.{on_top}
use Rattle.clap.specs.declared.builder.action.ArgAction.TheVariants.{Set, SetTrue}

abbrev pub json_rule : Rule
json_rule = record (new_rule (codes "json")) { long = Some (codes "json"); action = Some SetTrue }

abbrev pub gen_rule : Rule
gen_rule = record (new_rule (codes "gen")) { long = Some (codes "gen"); action = Some Set }

abbrev pub save_rule : Rule
save_rule = record (new_rule (codes "save")) { long = Some (codes "save"); action = Some SetTrue }

abbrev pub image_rule : Rule
image_rule = record (new_rule (codes "image")) { long = Some (codes "image"); action = Some SetTrue }

abbrev pub upgrade_rule : Rule
upgrade_rule = record (new_rule (codes "upgrade")) { long = Some (codes "upgrade"); action = Some SetTrue }

abbrev pub audit_rule : Rule
audit_rule = record (new_rule (codes "audit")) { long = Some (codes "audit"); action = Some SetTrue }

-- the words are those after the program's name, and there is no `--help`
abbrev pub bare : App
bare = on_top (λ shape. record shape { no_binary_name = true; disable_help_flag = true }) (new_app (codes "iot"))

abbrev pub command : App
command =
    with_rule
    (with_rule (with_rule (with_rule (with_rule (with_rule bare json_rule) gen_rule) save_rule) image_rule) upgrade_rule)
    audit_rule
