-- A node over any keeper does what the machine's node does.
use Rattle.std.proofs.Common.{Bool, Err, IsSome, List, None, Ok, Option, Some, ap, arith, false, inl, inr, refl, sym, true, ℕ, [], ◌++◌}
use Rattle.std.proofs.{Common.◌+◌, Common.◌==◌, Common.◌∙◌, Common.◌≡◌, lemmas.Bool.Decides.nat_tests, lemmas.List.append-nil}
use Rattle.iot_disk.specs.{Disk.armed_with, declared.disk.Pick.Pick, declared.faults.StartFault.StartFault}
use Rattle.iot_machine.proofs.StepsLaws.{at_each, quiet}
use Rattle.iot_machine.specs.{Nodes.armed, Nodes.back, Nodes.changed, Nodes.doubting, Nodes.opened, Refining.Refines}
use Rattle.iot_machine.specs.{Stops.Appends, Stops.ComesBackAs, Stops.IsStopped, Stops.OpensNode, Stops.SettlesAs, Texts.stopped_line}
use Rattle.iot_node.specs.Disks.{KeepsImages, counts_on}
use Rattle.iot_node.specs.Keeping.{Appended, Armed, CanStart, Comes, Doubts, EachIs, Failed, Fails, HoldSame, IsEither, Keeping}
use Rattle.iot_node.specs.{Posts.CameIf, Posts.DownStands, Posts.words_of, declared.comeback.Comeback.Comeback}
use Rattle.iot_node.specs.Posts.{HoldsBy, HoldsEither, IsStanding, Lasts, PostStands, Ready, StepsFrom, UpStands, back_said, disk_of, is_on}
use Rattle.iot_node.specs.Prelude.{Between, Call, Counts, Doubt, Down, Node, Storing, Up, next}
use Rattle.iot_node.specs.declared.post.{Fallen.Fallen, Post.Post}
use Rattle.iot_disk.specs.declared.faults.JournalFault.TheVariants as append
use Rattle.iot_disk.specs.declared.faults.StartFault.TheVariants as start

pub on_has : {K D : Type 0} (post : Post K D) → is_on post ≡ true → (keeper : K) × (post ≡ Up keeper)
on_has (Up keeper) up = (keeper, refl)
on_has post up = absurd cc

-- inside a call that starts or stops it, a node has no disk
pub has_disk : {K D : Type 0} (disk : K → D) (post : Post K D) → IsSome (disk_of disk post) → post ≡ Between → ⊥
has_disk disk post has is = let none = rw is at has in cc

-- ---- numbers of records

pub same_number : (number count : ℕ) → number ≡ count → (number == count) ≡ true
same_number number count is = grind (arith, nat_tests)

-- one record more makes another number, also modulo 2 ^ 64
pub next_number : (number count : ℕ) → number ≡ next count → (number == count) ≡ false
next_number number count is = let other : number ≡ count → ⊥ = λ same. omega (arith, is, same) in grind (arith, nat_tests, other)

-- ---- the counts of a disk

pub same_counts : {D I : Type 0} (medium : Storing D I) (old new : D) → medium.faults new ≡ medium.faults old
    → medium.arms new ≡ medium.arms old → counts_on medium new ≡ counts_on medium old
same_counts medium old new one other = λ i. record { faults = one i; arms = other i }

-- once armed, it counts what the node counts that was armed so
pub rearms : {S D I : Type 0} (medium : Storing D I) (calls : ℕ) (pick : Pick) (node : Node S) {old new : D}
    → counts_on medium old ≡ node.counts → Armed medium calls pick old new → counts_on medium new ≡ (armed calls pick node).counts
rearms medium calls pick node same it =
    it.is ∙ (λ i. record { faults = (same i).faults; arms = armed_with (same i).arms calls pick })

-- a node that counts what its disk did, and has stopped
abbrev halted : {S : Type 0} → Node S → Counts → Node S
halted node now = record node { counts = record node.counts { faults = now.faults }; stops = node.stops + 1 }

-- it is that, and what the disk counts is what it counts then
stops : {S : Type 0} (node : Node S) (before now : Counts) → before ≡ node.counts → Failed before now
    → IsStopped node (halted node now) × (now ≡ (halted node now).counts)
stops node before now same failed =
    let arms = rw same at failed.arms in
    (record { faults = now.faults; rose = rw same at failed.faults; is = refl }, (λ i. record { faults = now.faults; arms = arms i }))

module _ {K S D I : Type 0} {disks : K → D} (keeping : Keeping K S D I disks) (medium : Storing D I) (says : S → S → List ℕ) where
  abbrev Stands : Post K D → Node S → Type 0
  Stands = PostStands keeping medium says

  -- it is alive if the node is
  pub on_is : (post : Post K D) (node : Node S) → Stands post node → node.alive ≡ is_on post
  on_is (Up keeper) node here = here.alive
  on_is (Down fallen) node here = here.alive
  on_is Between node here = absurd here

  -- ---- a record

  pub post_goes : {old new : K} (name : List ℕ) (change : S → S) {node : Node S} {x : List ℕ} → UpStands keeping medium says old node
      → Appended keeping medium {T = Unit {0}} change node.durable old new (Ok tt)
      → StepsFrom Stands (Appends name change) node (Up new) x x true
  post_goes name change {node} {x} here kept = (
    [],
    changed change node,
    sym (append-nil x),
    inl (refl, refl, refl),
    record { alive = here.alive; sure = here.sure; counts = kept.1 ∙ here.counts; count = _; stands = kept.0 _ here.stands },
  )

  pub post_stops : (old new : K) (name : List ℕ) (change : S → S) (node : Node S) (doubt : Doubt) (x y : List ℕ)
      → UpStands keeping medium says old node
      → Appended keeping medium {T = Unit {0}} change node.durable old new (Err append.Stopped) → Doubts keeping says change old doubt
      → y ≡ x ++ stopped_line name
      → StepsFrom Stands (Appends name change) node (Down (record { disk = disks new; doubt = Some doubt })) x y false
  post_stops old new name change node doubt x y here failed doubts wrote =
      let stop = stops (doubting change node) _ _ here.counts failed.1 in (
        stopped_line name,
        _,
        wrote,
        inr (refl, refl, stop.0),
        record {
          alive = refl;
          counts = stop.1;
          count = here.count;
          holds = record {
            after = change node.durable;
            is = refl;
            each = failed.0 _ here.stands;
            counted = doubts.count _ _ here.stands;
            lines = doubts.lines _ _ here.stands;
          };
        },
      )

  -- ---- the first start

  pub post_opens : {post : Post K D} {fallen : Fallen D} {made : K} (name : List ℕ) {x : List ℕ} → post ≡ Down fallen → Ready medium post
      → Comes keeping medium fallen.disk made → medium.may_leave fallen.disk (medium.reads fallen.disk)
      → Refines Stands (OpensNode name) post (Up made) x x true
  post_opens {fallen = fallen} name {x} is ready comes image =
      let none = (rw is at ready).0 in
      rw is (at_each (λ node here.
      let holds = rw none at here.holds in
      quiet (opened node) (inl (refl, refl, refl)) (record {
        alive = refl;
        sure = holds.sure;
        counts = comes.counts ∙ here.counts;
        count = _;
        stands = comes.from _ _ (holds.each.each _ image);
      })))

  -- ---- it comes back

  -- these images hold what is durable, and what is in doubt, if those did
  abbrev HoldOn : (was now : I → Type 0) → Type 0
  HoldOn was now =
      (n : ℕ) (s after : S) → (EachIs was (λ image. keeping.image image n s) → EachIs now (λ image. keeping.image image n s))
      × (EachIs was (λ image. IsEither keeping image n s after) → EachIs now (λ image. IsEither keeping image n s after))

  -- some of them do
  fewer : (was now : I → Type 0) → ((image : I) → now image → was image) → HoldOn was now
  fewer was now from n s after =
      let each : (P : I → Type 0) → EachIs was P → EachIs now P = λ P all. record { each = λ image at. all.each image (from image at) } in
      (each _, each _)

  -- and those that hold what one of them did
  one_of : (was now : I → Type 0) (image : I) → was image → HoldSame keeping image now → HoldOn was now
  one_of was now image at same n s after = (
    λ all. same.stand n s (all.each image at),
    λ all. elim (all.each image at) [
      | inl is ↦ record { each = λ other there. inl ((same.stand n s is).each other there) }
      | inr is ↦ record { each = λ other there. inr ((same.turn n s after is).each other there) }
    ],
  )

  holds_on : (was now : I → Type 0) (count : ℕ) (doubt : Option Doubt) (node : Node S) (counts : Counts) (stops : ℕ) → HoldOn was now
      → HoldsBy keeping medium says was count doubt node
      → HoldsBy keeping medium says now count doubt (record node { counts = counts; stops = stops })
  holds_on was now count None node counts stops on it = record { sure = it.sure; each = (on count _ node.durable).0 it.each }
  holds_on was now count (Some doubt) node counts stops on it = record {
    after = it.after;
    is = it.is;
    each = (on count _ _).1 it.each;
    counted = it.counted;
    lines = it.lines;
  }

  pub post_back : {old disk : D} {made : K} {doubt : Option Doubt} {number : ℕ} (words name : List ℕ) {x y : List ℕ}
      → medium.may_leave old (medium.reads disk) → counts_on medium disk ≡ counts_on medium old → Comes keeping medium disk made
      → ((n : ℕ) (s : S) → keeping.stands made n s → number ≡ n) → y ≡ x ++ back_said words doubt number
      → Refines Stands (ComesBackAs words name says) (Down (record { disk = old; doubt = doubt })) (Up made) x y true
  post_back {old} {disk} {made} {doubt} {number} words name image same comes counted wrote = record {
    step = λ node here.
        let back = returns node here.count doubt here.counts here.holds in
        (back_said words doubt number, back.0, wrote, inl (refl, back.1), back.2);
  }
    where
      -- with this state, that many records were read
      comes_with : (node : Node S) (s : S) (count : ℕ) → counts_on medium old ≡ node.counts → keeping.stands made count s
          → UpStands keeping medium says made (back s node)
      comes_with node s count counts stands =
          record { alive = refl; sure = refl; counts = comes.counts ∙ same ∙ counts; count = count; stands = stands }

      -- what it says, and the node that it is then
      returns : (node : Node S) (count : ℕ) (doubt : Option Doubt) → counts_on medium old ≡ node.counts
          → HoldsBy keeping medium says (medium.may_leave old) count doubt node
          → (n : Node S) × SettlesAs words says node.doubt node (back_said words doubt number) n × UpStands keeping medium says made n
      returns node count None counts it = (
        back node.durable node,
        rw it.sure (refl, refl),
        comes_with node node.durable count counts (comes.from _ _ (it.each.each _ image)),
      )
      returns node count (Some doubt) counts it = elim (it.each.each (medium.reads disk) image) [
        | inl is ↦
            let stands = comes.from count node.durable is in
            let many = counted count node.durable stands in (
              back node.durable node,
              rw it.is (inr (rw (same_number number doubt.count (many ∙ sym it.counted)) refl, refl)),
              comes_with node node.durable count counts stands,
            )
        | inr is ↦
            let stands = comes.turned count node.durable it.after is in
            let many = counted (next count) it.after stands in (
              back it.after node,
              rw it.is (inl (rw (next_number number doubt.count (many ∙ ap next (sym it.counted)), it.lines) refl, refl)),
              comes_with node it.after (next count) counts stands,
            )
      ]

  -- it stops in a call that starts it
  pub post_stops_again : (call : Call (Node S) Bool) {post : Post K D} {fallen : Fallen D} {disk left : D} {fault : StartFault}
      (name : List ℕ) {x y : List ℕ} → post ≡ Down fallen → medium.may_leave fallen.disk (medium.reads disk)
      → counts_on medium disk ≡ counts_on medium fallen.disk → Fails keeping medium disk left fault → fault ≡ start.Stopped
      → ((node n : Node S) → IsStopped node n → call node (stopped_line name) false n) → y ≡ x ++ stopped_line name
      → Refines Stands call post (Down (record { disk = left; doubt = fallen.doubt })) x y false
  post_stops_again call {fallen = fallen} {disk} {left} name is image same fails stopped is_call wrote =
      rw is (record {
        step = λ node here.
            let stop = stops node _ _ (same ∙ here.counts) (rw stopped at fails.counts) in (
              stopped_line name,
              _,
              wrote,
              is_call node _ stop.0,
              record {
                alive = here.alive;
                counts = stop.1;
                count = here.count;
                holds = holds_on (medium.may_leave fallen.disk) (medium.may_leave left) here.count fallen.doubt node _ _
                    (one_of (medium.may_leave fallen.disk) _ _ image fails.images) here.holds;
              },
            );
      })

  -- ---- its disk is armed

  -- it stands for the same node, but for what that counts, if its disks count so
  pub up_counts : {old new : K} {node : Node S} {counts : Counts} → ((n : ℕ) (s : S) → keeping.stands old n s → keeping.stands new n s)
      → counts_on medium (disks new) ≡ counts → UpStands keeping medium says old node
      → UpStands keeping medium says new (record node { counts = counts })
  up_counts still same here = record { alive = here.alive; sure = here.sure; counts = same; count = _; stands = still _ _ here.stands }

  pub down_counts : {old new : D} {doubt : Option Doubt} {node : Node S} {counts : Counts}
      → KeepsImages (medium.may_leave old) (medium.may_leave new) → counts_on medium new ≡ counts
      → DownStands keeping medium says (record { disk = old; doubt = doubt }) node
      → DownStands keeping medium says (record { disk = new; doubt = doubt }) (record node { counts = counts })
  down_counts {doubt = doubt} {node} images same here =
      let on = holds_on _ _ here.count doubt node _ _ (fewer _ _ images.was) here.holds in
      record { alive = here.alive; counts = same; count = here.count; holds = on }

  -- ---- what its disk holds after a start

  -- each image of a node that is down holds one of its states
  pub holds_each : (fallen : Fallen D) (node : Node S) (down : DownStands keeping medium says fallen node) (image : I)
      → medium.may_leave fallen.disk image → HoldsEither keeping medium down.count node.durable node.doubt image
  holds_each fallen node down image left = by fallen.doubt down.holds
    where
      by : (doubt : Option Doubt) → HoldsBy keeping medium says (medium.may_leave fallen.disk) down.count doubt node
          → HoldsEither keeping medium down.count node.durable node.doubt image
      by None it = inl (it.each.each image left)
      by (Some doubt) it = elim (it.each.each image left) [
        | inl is ↦ inl is
        | inr is ↦ inr (it.after, it.is, is)
      ]

  -- so does each of any node, if those of a live one do
  pub lasts_in : ((keeper : K) (n : ℕ) (s : S) → keeping.stands keeper n s
      → EachIs (medium.may_leave (disks keeper)) (λ image. keeping.image image n s))
      → (post : Post K D) (node : Node S) → Stands post node → Lasts keeping medium post node.durable node.doubt
  lasts_in live (Up keeper) node here = record {
    disk = disks keeper;
    has = refl;
    count = here.count;
    each = record { each = λ image left. inl ((live keeper _ _ here.stands).each image left) };
  }
  lasts_in live (Down fallen) node here =
      record { disk = fallen.disk; has = refl; count = here.count; each = record { each = holds_each fallen node here } }
  lasts_in live Between node here = absurd here

  -- a post that is known to be down, whose disk has this image to be read
  module _ {post : Post K D} {fallen : Fallen D} (disk : D) (node : Node S) (is : post ≡ Down fallen)
      (here : PostStands keeping medium says post node) (left : medium.may_leave fallen.disk (medium.reads disk)) where
    down : DownStands keeping medium says fallen node
    down = rw is at here

    read : HoldsEither keeping medium down.count node.durable node.doubt (medium.reads disk)
    read = holds_each fallen node down (medium.reads disk) left

    pub lasts_up : {made : K} → Comes keeping medium disk made → Lasts keeping medium (Up made) node.durable node.doubt
    lasts_up {made} comes = record {
      disk = disks made;
      has = refl;
      count = down.count;
      each = record {
        each = λ image at. elim read [
          | inl is ↦ inl ((comes.images.stand down.count node.durable is).each image at)
          | inr it ↦ inr (it.0, it.1, (comes.images.turn down.count node.durable it.0 it.2).each image at)
        ];
      };
    }

    -- it came back from the image that the disk had then, which is said
    pub came : {made : K} {number : ℕ} (by : Comeback) (name x y : List ℕ) → Comes keeping medium disk made
        → ((n : ℕ) (s : S) → keeping.stands made n s → number ≡ n) → y ≡ x ++ back_said (words_of by name) fallen.doubt number
        → CameIf keeping medium true post by name x y node.durable node.doubt
    came {number = number} by name x y comes counted wrote =
        rw is
        (record {
          image = medium.reads disk;
          left = left;
          count = down.count;
          said = elim read [
            | inl is ↦ inl (said (counted down.count node.durable (comes.from down.count node.durable is)), is)
            | inr it ↦ inr (it.0, said (counted (next down.count) it.0 (comes.turned down.count node.durable it.0 it.2)), it.1, it.2)
          ];
        })
      where
        said : {n : ℕ} → number ≡ n → y ≡ x ++ back_said (words_of by name) fallen.doubt n
        said is = rw is at wrote

module _ {K S D I : Type 0} {disks : K → D} (keeping : Keeping K S D I disks) (medium : Storing D I) {post : Post K D}
    {fallen : Fallen D} {disk : D} (is : post ≡ Down fallen) (standing : IsStanding keeping medium post)
    (image : medium.may_leave fallen.disk (medium.reads disk)) where
  -- what it reads as can be started
  pub can_start : CanStart keeping (medium.reads disk)
  can_start = elim (read keeping medium standing.says disk standing.node is standing.stands image) [
    | inl it ↦ record { count = _; before = _; after = standing.node.durable; either = inl it }
    | inr it ↦ record { count = _; before = _; after = _; either = inr it.2 }
  ]
