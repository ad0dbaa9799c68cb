-- Decoding bodies of checkpoints, with the first fault from the left.
use Rattle.std.specs.Prelude.{List, [], ◌∷◌, None}
use Rattle.iot_tree.specs.declared.access.Access.{Access}
use Rattle.iot_access.specs.Access.{no_access}
use Rattle.iot_views.specs.Decoders.{Decoder, ◌>>=◌, done, number_at, at_most, items_at, list_at, tagged}
use Rattle.iot_views.specs.Decoding.{access_at, name_at, option_at, budget_at, acts_at, tree_at, label_at}
use Rattle.iot_queue.specs.declared.items.Stage.{Stage}
use Rattle.iot_queue.specs.declared.items.Stage.TheVariants.{Waiting as Waits, Conflict, Manual, Resolved}
use Rattle.iot_changes.specs.Decoding.{resolution_at}
use Rattle.iot_bodies.specs.declared.server.ServerBody.{ServerBody}
use Rattle.iot_bodies.specs.declared.client.ClientBody.{ClientBody}
use Rattle.iot_bodies.specs.declared.client.Running.{Running}
use Rattle.iot_bodies.specs.declared.client.Waiting.{Waiting}
use Rattle.iot_bodies.specs.declared.running.TheConstants.{RUN_LIMIT}

unfoldable pub server_at : Decoder ServerBody
server_at = do
  tree ← tree_at
  labels ← list_at label_at
  stamps ← list_at number_at
  done (record { tree = tree; labels = labels; stamps = stamps })

-- ---- a client's

unfoldable pub resolved_at : Decoder (Stage × Access)
resolved_at = do
  resolution ← resolution_at
  access ← access_at
  done (Resolved resolution, access)

-- a stage, and the access of what was run, if something was
unfoldable pub stage_at : Decoder (Stage × Access)
stage_at =
    tagged ((1, done (Waits, no_access)) ∷ (2, done (Conflict, no_access)) ∷ (3, done (Manual, no_access)) ∷ (4, resolved_at) ∷ [])

unfoldable pub waiting_at : Decoder Waiting
waiting_at = do
  number ← number_at
  script ← name_at
  budget ← budget_at
  acts ← acts_at
  option ← option_at
  stage ← stage_at
  done (record {
    item = record { tid = number; script = script; budget = budget; acts = acts; option = option; stage = stage.0 };
    access = stage.1;
  })

unfoldable pub running_at : Decoder Running
running_at = do
  number ← number_at
  script ← name_at
  option ← option_at
  base ← tree_at
  acts ← acts_at
  done (record { tid = number; script = script; option = option; base = base; acts = acts })

-- those that run, not too many
unfoldable pub runs_at : Decoder (List Running)
runs_at = do
  n ← at_most RUN_LIMIT
  items_at (λ _. running_at) n None

unfoldable pub client_at : Decoder ClientBody
client_at = do
  held ← tree_at
  items ← list_at waiting_at
  running ← runs_at
  last ← number_at
  done (record { held = held; items = items; running = running; last = last })
