-- The machine's transactions and commits as clients and the server keep them: scripts by their names, and with the acts of a run.
use Rattle.std.specs.Prelude.{List, [], ◌∷◌, map}
use Rattle.std.specs.FinMap.{entries}
use Rattle.iot_tree.specs.Tree.{Nodes}
use Rattle.iot_tree.specs.declared.labels.Label.{Label}
use Rattle.iot_tree.specs.declared.labels.OnConflict as named
use Rattle.iot_tree.specs.declared.labels.OnConflict.TheVariants as names
use Rattle.iot_queue.specs.declared.items.Item as kept
use Rattle.iot_queue.specs.declared.items.Resolution as kept_resolution
use Rattle.iot_queue.specs.declared.items.Stage as kept_stage
use Rattle.iot_queue.specs.declared.items.Stage.TheVariants as stages
use Rattle.iot_exec.specs.Runs.{run}
use Rattle.iot_machine.specs.Clients as clients
use Rattle.iot_machine.specs.Clients.{Declared, Item, ClientState, local_run}
use Rattle.iot_machine.specs.Machine.{Commit}
use Rattle.iot_machine.specs.Options as options
use Rattle.iot_machine.specs.Options.{OnConflict}

-- an option with its resolver's name alone
abbrev pub option_named : OnConflict Declared → named.OnConflict
option_named options.Reexec = names.Reexec
option_named (options.Resolver script) = names.Resolver script.name
option_named options.Abort = names.Abort
option_named options.Manual = names.Manual

-- a resolution, with the acts of its script on the server's tree of then
abbrev pub resolution_kept : clients.Resolution → kept_resolution.Resolution
resolution_kept it = record {
  script = it.script.name;
  budget = it.budget;
  kept = entries it.kept;
  acts = (run it.script.code it.kept it.tree it.budget).acts;
}

abbrev pub stage_kept : clients.Stage → kept_stage.Stage
stage_kept clients.Waiting = stages.Waiting
stage_kept clients.Conflict = stages.Conflict
stage_kept clients.Manual = stages.Manual
stage_kept (clients.Resolved it) = stages.Resolved (resolution_kept it)

-- a transaction that waits, with the acts of its own run on the tree before it
abbrev pub item_kept : Nodes → Item → kept.Item
item_kept t item = record {
  tid = item.number;
  script = item.script.name;
  budget = item.budget;
  acts = (local_run t item).acts;
  option = option_named item.option;
  stage = stage_kept item.stage;
}

-- those that wait, each on the tree after the ones before it
abbrev pub items_kept : Nodes → List Item → List kept.Item
items_kept t [] = []
items_kept t (item ∷ items) = item_kept t item ∷ items_kept (local_run t item).tree items

-- those of a client
abbrev pub queue_kept : ClientState → List kept.Item
queue_kept s = items_kept s.held s.items

-- a commit: whose transaction it is, and its script, without what it did
abbrev pub label_of : Commit → Label
label_of commit = record {
  client = commit.entry.client;
  tid = commit.entry.number;
  script = commit.script;
  budget = commit.entry.budget;
  way = commit.entry.way;
  kept = entries commit.entry.kept;
}

abbrev pub labels_of : List Commit → List Label
labels_of commits = map label_of commits
