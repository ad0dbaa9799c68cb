-- What is said of a record in doubt is decided by its images, where they agree, whatever it is added to.
use Rattle.{std.proofs.Common.append_assoc, iot_laptop.specs.Calls.Came, iot_machine.specs.Texts.kept_as, iot_machine.specs.Texts.lost_as}
use Rattle.{iot_machine.specs.Texts.stopped_line, iot_node.proofs.PostsLaws.next_number, iot_node.proofs.PostsLaws.same_number}
use Rattle.iot_node.specs.Posts.{CameIf, back_said, is_fallen, words_of}
use Rattle.iot_node.specs.declared.{comeback.Comeback.Comeback, comeback.Comeback.TheVariants.Restart, post.Doubt.Doubt}
use Rattle.{iot_server_node.specs.Servers.post_of, iot_text.proofs.TextsLaws.extends_nothing}
use Rattle.iot_world.proofs.Common.{Bool, Client, ClientIs}
use Rattle.iot_world.proofs.Common.{ClientStands, Commit, Declared, Down, Err, Event, Extends, IfSome, IsWorldOfSome, Keeping, Laptop, List}
use Rattle.iot_world.proofs.Common.{Medium, Node, NodeEvent, None, Ok, OnOk, Option, Post, Result, Seated, ServerStands, Some, StandsAnyhow}
use Rattle.iot_world.proofs.Common.{Storing, World, ap, append-nil, false, inl, inr, is_up, length, lists, names_in, next, on_both}
use Rattle.iot_world.proofs.Common.{refl, same_Some, seating, server_name, slice_index_or, subst, sym, true, ℕ, [], ◌++◌, ◌<◌, ◌∙◌, ◌≡◌}
use Rattle.iot_world.{proofs.ListLaws.looked_up, specs.Allowed.arms_a_disk}
use Rattle.iot_world.specs.Deciding.{ClientDecides, Decides, DecidesBy, DecidesClient, DecidesComeback, DecidesIn, DecidesPost, post_for}
use Rattle.iot_event.specs.declared.event.ClientEvent.TheVariants as client_events
use Rattle.iot_event.specs.declared.event.Event.TheVariants as events
use Rattle.iot_event.specs.declared.event.NodeEvent.TheVariants as nodes
use Rattle.iot_kept.specs.Standing as clients
use Rattle.iot_store.specs.Standing as servers

-- any node, of whose images the records are counted in the bytes of one disk, and which says how it came back in front of this
module _ {K S P I : Type 0} {disks : K → P} (keeping : Keeping K S P I disks) (medium : Storing P I) (counted_in : List ℕ → ℕ)
    (bytes_of : I → List ℕ) (many : (image : I) (n : ℕ) (s : S) → keeping.image image n s → n ≡ counted_in (bytes_of image))
    (more : (image : I) (n : ℕ) (s after : S) → keeping.turning image n s after → next n ≡ counted_in (bytes_of image))
    (by : Comeback) (name x mid y rest : List ℕ) (whole : y ≡ mid ++ rest) where
  -- a text that was said, also within a longer one
  said_first : (text more : List ℕ) {said : List ℕ} → mid ≡ x ++ said → said ≡ text ++ more → Extends (x ++ text) y
  said_first text more wrote is = record { more = more ++ rest; extended = rw (whole, wrote, is) (simp append_assoc) }

  -- by all images, if it is down
  decides_post : (images : P → List ℕ → Type 0) → ((disk : P) (image : I) → medium.may_leave disk image → images disk (bytes_of image))
      → (post : Post K P) (on : Bool) (node : Node S) → CameIf keeping medium on post by name x mid node.durable node.doubt
      → DecidesPost counted_in images post by name x y
  decides_post images are (Down fallen) on node came = told fallen.doubt on came
    where
      words : List ℕ
      words = words_of by name

      -- it came back from this image
      by_image : (doubt : Doubt) (image : I) (n : ℕ) → medium.may_leave fallen.disk image → n ≡ counted_in (bytes_of image)
          → mid ≡ x ++ back_said words (Some doubt) n → DecidesBy counted_in (images fallen.disk) doubt.count words name x y
      by_image doubt image n left is wrote = record {
        kept = λ all. inl (said_first (kept_as words) doubt.lines wrote
            (rw (next_number n doubt.count (is ∙ all.each _ (are _ image left))) refl));
        lost = λ all. inl (said_first (lost_as words) [] wrote
            (rw (same_number n doubt.count (is ∙ all.each _ (are _ image left))) (sym (append-nil (lost_as words)))));
      }

      told : (doubt : Option Doubt) (on : Bool)
          → CameIf keeping medium on (Down (record { disk = fallen.disk; doubt = doubt })) by name x mid node.durable node.doubt
          → IfSome doubt (λ d. DecidesBy counted_in (images fallen.disk) d.count words name x y)
      told None on came = tt
      told (Some doubt) false came =
          let it = said_first (stopped_line name) [] came (sym (append-nil (stopped_line name))) in
          record { kept = λ all. inr it; lost = λ all. inr it }
      told (Some doubt) true came = elim came.said [
        | inl it ↦ by_image doubt came.image _ came.left (many _ _ _ it.1) it.0
        | inr it ↦ by_image doubt came.image _ came.left (more _ _ _ _ it.3) it.1
      ]
  decides_post images are post on node came = tt

module _ {D : Type 0} (medium : Medium D) where
  -- a client, by all images, as by the one from which it came
  pub decides_client : {T E : Type 0} (r : Result T E) (laptop : Laptop D) (x y : List ℕ) → StandsAnyhow medium laptop
      → (is_fallen laptop.post ≡ true → OnOk r ((scripts : List Declared) (m : Client) → ClientStands medium scripts laptop m
      → Came medium laptop x y m)) → OnOk r (DecidesClient medium x y laptop)
  decides_client (Err fault) laptop x y some came = tt
  decides_client (Ok done) laptop x y some came = record { by_all = by laptop.post refl; by_image = came }
    where
      by : (post : Post (Seated D) D) → laptop.post ≡ post
          → DecidesPost clients.records_in medium.may_leave post Restart laptop.name x y
      by (Down fallen) is =
          let it = came (ap (λ (p : Post (Seated D) D). is_fallen p) is) some.scripts some.machine some.stands in
          rw is at (decides_post (seating medium laptop.place) medium clients.records_in (λ bytes. bytes)
          (λ _ _ _ is. sym is.stands.counted) (λ _ _ _ _ is. sym is.stands.counted) Restart laptop.name x it.mid y it.rest it.whole
          medium.may_leave (λ disk image left. left) laptop.post it.on some.machine.node it.came)
      by post is = tt

  -- the server, likewise
  pub decides_server : (by : Comeback) (old new : World D) (x y : List ℕ) → IsWorldOfSome medium old
      → ((names : List (List ℕ)) (n : ℕ) (node : Node (List Commit)) → ServerStands medium names old.server node n
      → CameIf (lists medium) (on_both medium) (is_up new.server) (post_for by (post_of old.server)) by server_name x y node.durable
      node.doubt) → DecidesComeback medium by old new x y
  decides_server by old new x y some came =
      let m = some.machine in
      record {
        by_all = decides_post (lists medium) (on_both medium) servers.records_in (λ image. image.disk) (λ _ _ _ is. sym is.disk.many)
            (λ _ _ _ _ is. sym is.disk.many) by server_name x y y [] (sym (append-nil y)) (λ disks. medium.may_leave disks.disk)
            (λ disks image left. left.disk) (post_for by (post_of old.server)) (is_up new.server) m.server
            (came (names_in m) m.requests m.server some.stands.stands.server);
        by_image = came;
      }

  -- of the client at a place
  pub decides_here : (world : World D) (c : ℕ) (what : NodeEvent) (laptop : Laptop D) (x y : List ℕ)
      → c < length world.clients.items → laptop ≡ slice_index_or world.clients.items c laptop → ClientDecides medium what x y laptop
      → ClientIs (ClientDecides medium what x y) c world
  decides_here world c what laptop x y inside value decides other at =
      subst (ClientDecides medium what x y) (same_Some laptop other (sym (looked_up _ _ _ _ refl inside value) ∙ at)) decides

-- ---- the text that was added

module _ {D : Type 0} (medium : Medium D) {old new : World D} {x y : List ℕ} where
  -- all that was said was added
  pub decides_first : (event : Event) → x ≡ [] → DecidesIn medium event old new x y → Decides medium event old new x y
  decides_first event none it = rw none (record { text = y; wrote = refl; decides = rw none at it })

  -- nothing comes back in an event that arms a disk
  pub decides_armed : (event : Event) → arms_a_disk event ≡ true → Extends x y → Decides medium event old new x y
  decides_armed event arms more = record { text = more.more; wrote = more.extended; decides = by event arms }
    where
      by : (event : Event) → arms_a_disk event ≡ true → DecidesIn medium event old new [] more.more
      by (events.Server nodes.Restart) arms = absurd cc
      by events.Promote arms = absurd cc
      by (events.At c (client_events.Node nodes.Restart)) arms = absurd cc
      by (events.At c (client_events.Node what)) arms = λ laptop get. tt
      by event arms = tt

-- so it is in the texts to which an event is done
pub ruleset added = (decides_first, decides_armed, extends_nothing)
