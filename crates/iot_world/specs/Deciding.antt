-- What decides whether a record that is in doubt is kept: the image from which its node comes back. So if all images of that disk have it,
-- or none has it, that decides. The server comes back from its first disk by a restart, and from its backup by a promotion.
use Rattle.std.specs.Prelude.{◌++◌, ◌≡◌, ◌⊎◌}
use Rattle.{iot_event.specs.declared.event.NodeEvent.TheVariants.Restart, iot_laptop.specs.Calls.Came}
use Rattle.iot_machine.specs.{Serving.server_name, Texts.kept_as, Texts.lost_as, Texts.stopped_line}
use Rattle.iot_node.specs.{Posts.CameIf, Posts.is_fallen, Posts.words_of, Prelude.next, declared.comeback.Comeback.Comeback}
use Rattle.iot_node.specs.declared.post.Post.{Post, TheVariants.Down}
use Rattle.iot_server_node.specs.{Disks.on_both, Keepers.lists}
use Rattle.iot_server_node.specs.{Servers.is_up, Servers.post_of, Servers.turned_post, declared.keeper.ServerKeeper.ServerKeeper}
use Rattle.iot_world.specs.Prelude.{Client, ClientStands, Commit, Declared, Disks, Event, Extends}
use Rattle.iot_world.specs.Prelude.{IfSome, Laptop, List, Medium, Node, NodeEvent, ServerStands, World, false, is_promoted, true, ℕ, []}
use Rattle.iot_world.specs.World.{ClientIs}
use Rattle.iot_event.specs.declared.event.Event.TheVariants as events
use Rattle.iot_kept.specs.Standing as clients
use Rattle.iot_machine.specs.Nodes as nodes
use Rattle.iot_node.specs.declared.comeback.Comeback.TheVariants as comebacks
use Rattle.iot_store.specs.Standing as servers

-- so many records were ever appended to each of the images, as they are counted in those of a disk of this kind
pub record EachHas (counted_in : List ℕ → ℕ) (images : List ℕ → Type 0) (count : ℕ) : Type 0 where
  pub each : (image : List ℕ) → images image → counted_in image ≡ count

-- a node of this name that comes back with these words says so of the record behind so many, or that it has stopped again
pub record DecidesBy (counted_in : List ℕ → ℕ) (images : List ℕ → Type 0) (count : ℕ) (words name before after : List ℕ) : Type 0 where
  pub kept : EachHas counted_in images (next count)
      → Extends (before ++ kept_as words) after ⊎ Extends (before ++ stopped_line name) after
  pub lost : EachHas counted_in images count → Extends (before ++ lost_as words) after ⊎ Extends (before ++ stopped_line name) after

-- a node of this name that comes back so, if it is down with a record in doubt, by these images of its disks
abbrev pub DecidesPost : {K P : Type 0} → (counted_in : List ℕ → ℕ) → (images : P → List ℕ → Type 0) → Post K P → Comeback
    → (name before after : List ℕ) → Type 0
DecidesPost counted_in images (Down fallen) by name before after =
    IfSome fallen.doubt (λ doubt. DecidesBy counted_in (images fallen.disk) doubt.count (words_of by name) name before after)
DecidesPost counted_in images post by name before after = Unit {0}

-- a client that comes back, by all images, and by the one from which it does
pub record DecidesClient {D : Type 0} (medium : Medium D) (before after : List ℕ) (laptop : Laptop D) : Type 0 where
  pub by_all : DecidesPost clients.records_in medium.may_leave laptop.post comebacks.Restart laptop.name before after
  pub by_image : is_fallen laptop.post ≡ true → (scripts : List Declared) (m : Client) → ClientStands medium scripts laptop m
      → Came medium laptop before after m

-- the server over the disks from which it comes back so
abbrev pub post_for : {D : Type 0} → Comeback → Post (ServerKeeper D) (Disks D) → Post (ServerKeeper D) (Disks D)
post_for comebacks.Restart post = post
post_for comebacks.Promote post = turned_post post

-- the server, likewise
pub record DecidesComeback {D : Type 0} (medium : Medium D) (by : Comeback) (old new : World D) (before after : List ℕ) : Type 0 where
  pub by_all : DecidesPost servers.records_in (λ disks. medium.may_leave disks.disk) (post_for by (post_of old.server)) by server_name
      before after
  pub by_image : (names : List (List ℕ)) (n : ℕ) (node : nodes.Node (List Commit)) → ServerStands medium names old.server node n
      → CameIf (lists medium) (on_both medium) (is_up new.server) (post_for by (post_of old.server)) by server_name
      before after node.durable node.doubt

-- a node that the event restarts
abbrev pub ClientDecides : {D : Type 0} → Medium D → NodeEvent → (before after : List ℕ) → Laptop D → Type 0
ClientDecides medium Restart before after laptop = DecidesClient medium before after laptop
ClientDecides medium other before after laptop = Unit {0}

-- a node that the event brings back, in a text that it was added to
abbrev pub DecidesIn : {D : Type 0} → Medium D → Event → (old new : World D) → (before after : List ℕ) → Type 0
DecidesIn medium (events.Server Restart) old new before after = DecidesComeback medium comebacks.Restart old new before after
DecidesIn medium events.Promote old new before after =
    is_promoted old.server ≡ false → DecidesComeback medium comebacks.Promote old new before after
DecidesIn medium (events.At client (Node what)) old new before after = ClientIs (ClientDecides medium what before after) client old
DecidesIn medium other old new before after = Unit {0}

-- the same by what was added, whatever it was added to
pub record Decides {D : Type 0} (medium : Medium D) (event : Event) (old new : World D) (before after : List ℕ) : Type 0 where
  pub text : List ℕ
  pub wrote : after ≡ before ++ text
  pub decides : DecidesIn medium event old new [] text
