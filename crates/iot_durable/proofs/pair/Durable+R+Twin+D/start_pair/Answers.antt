-- Each goal is answered here, also the plain ones: a search for all of them takes long, since the call has many clauses and exits.
use Rattle.std.proofs.Common.{◌≡◌, ◌≤◌, ◌^◌, ℕ, List, length, refl, sym, ap, ◌∙◌, subst}
use Rattle.iot_slots.specs.Decoding.{Encodes, State, decoded, opened}
use Rattle.iot_slots.specs.declared.version.Version.TheVariants.{Two}
use Rattle.iot_backup.specs.declared.faults.TwinFault.TheVariants.{Disk}
use Rattle.iot_backup.proofs.PairsLaws.{if_so}
use Rattle.iot_backup.proofs.StartLaws.{as_of, changes_none, is_started, no_change}
use Rattle.iot_durable.specs.Standing.{header_of}
use Rattle.iot_durable.proofs.ImagesLaws.{each_start, stands_made, start_count}
use Rattle.iot_durable.proofs.PairLaws.{brings, brought_each, first_cause, idle_brings, idle_brought, idle_follows, idle_opens}
use Rattle.iot_durable.proofs.PairLaws.{idle_stands, never_refused, nothing, nothing_so, pair_cause, slots_brought, slots_follow}
use Rattle.iot_durable.proofs.PairLaws.{slots_make, slots_stand, start_follows, start_opens}
use Rattle.iot_durable.proofs.pair.Durable+R+Twin+D.start_pair.Goals as goal

-- what the first disk encodes, by the other names of the header and of its bytes
opens_as : (head header bytes_ bytes body : List ℕ) (s : State) → head ≡ header → bytes_ ≡ bytes →
    opened body (decoded head bytes_) ≡ Encodes s → opened body (decoded header bytes) ≡ Encodes s
opens_as head header bytes_ bytes body s ours read is =
    ap (λ (l : List ℕ). opened body (decoded header l)) (sym read) ∙ ap (λ (h : List ℕ). opened body (decoded h bytes_)) (sym ours) ∙ is

pub returns-in-Err-clause-stands : goal.returns-in-Err-clause-stands
returns-in-Err-clause-stands g c = tt

pub returns-in-Err-clause-only : goal.returns-in-Err-clause-only
returns-in-Err-clause-only g c = λ state stands. tt

pub returns-in-Err-clause-synced : goal.returns-in-Err-clause-synced
returns-in-Err-clause-synced g c = tt

pub returns-in-Err-clause-in_memory : goal.returns-in-Err-clause-in_memory
returns-in-Err-clause-in_memory g c = tt

pub returns-in-Err-clause-pair : goal.returns-in-Err-clause-pair
returns-in-Err-clause-pair g c = tt

pub returns-in-Err-clause-images : goal.returns-in-Err-clause-images
returns-in-Err-clause-images g c =
    let rules = g.R.Recorded.rules in
    let one = g.D.Disk.medium.reads c.args.first in
    λ state stands. idle_stands rules one _ _ state c.requires.first (no_change _) stands

pub returns-in-Err-clause-second_images : goal.returns-in-Err-clause-second_images
returns-in-Err-clause-second_images g c =
    let rules = g.R.Recorded.rules in
    let one = g.D.Disk.medium.reads c.args.first in
    let other = g.D.Disk.medium.reads c.args.second in
    λ state before stands also. idle_brings rules one other _ _ state before c.requires.second (no_change _) also

pub returns-in-Err-clause-second_encodes : goal.returns-in-Err-clause-second_encodes
returns-in-Err-clause-second_encodes g c =
    let rules = g.R.Recorded.rules in
    let one = g.D.Disk.medium.reads c.args.first in
    let other = g.D.Disk.medium.reads c.args.second in
    idle_brought rules one other _ _ c.requires.second (no_change _)

pub returns-in-Err-clause-second_state : goal.returns-in-Err-clause-second_state
returns-in-Err-clause-second_state g c = tt

pub returns-in-Err-clause-follows : goal.returns-in-Err-clause-follows
returns-in-Err-clause-follows g c =
    let rules = g.R.Recorded.rules in
    let one = g.D.Disk.medium.reads c.args.first in
    let other = g.D.Disk.medium.reads c.args.second in
    λ may. idle_follows (header_of rules) one other _ _ _ _ c.requires.first (no_change _) c.requires.second (no_change _) may

pub returns-in-Err-clause-never : goal.returns-in-Err-clause-never
returns-in-Err-clause-never g c = λ state stands step. tt

pub returns-in-Err-clause-steady : goal.returns-in-Err-clause-steady
returns-in-Err-clause-steady g c = tt

pub returns-in-Err-clause-cause : goal.returns-in-Err-clause-cause
returns-in-Err-clause-cause g c = (refl, refl)

pub returns-in-Err-clause-foreign : goal.returns-in-Err-clause-foreign
returns-in-Err-clause-foreign g c = λ is. tt

pub returns-in-Err-clause-damaged : goal.returns-in-Err-clause-damaged
returns-in-Err-clause-damaged g c = λ at is. tt

pub returns-in-Err-clause-refused_first : goal.returns-in-Err-clause-refused_first
returns-in-Err-clause-refused_first g c = tt

pub returns-in-Err-clause-refused_second : goal.returns-in-Err-clause-refused_second
returns-in-Err-clause-refused_second g c = tt

pub returns-in-Err-clause-only_read : goal.returns-in-Err-clause-only_read
returns-in-Err-clause-only_read g c = λ started. refl

pub returns-in-Err-clause-only_read_images : goal.returns-in-Err-clause-only_read_images
returns-in-Err-clause-only_read_images g c = λ started. no_change _

pub returns-in-Err-clause-opens : goal.returns-in-Err-clause-opens
returns-in-Err-clause-opens g c =
    let rules = g.R.Recorded.rules in
    let one = g.D.Disk.medium.reads c.args.first in
    λ not. idle_opens rules one _ _ c.requires.first (no_change _) not

pub returns-in-Err-clause-fresh : goal.returns-in-Err-clause-fresh
returns-in-Err-clause-fresh g c = λ not. tt

pub returns-in-Err-clause-first_arms : goal.returns-in-Err-clause-first_arms
returns-in-Err-clause-first_arms g c = refl

pub returns-in-Err-clause-second_arms : goal.returns-in-Err-clause-second_arms
returns-in-Err-clause-second_arms g c = refl

pub returns-in-Err-look-clause-stands : goal.returns-in-Err-look-clause-stands
returns-in-Err-look-clause-stands g c = tt

pub returns-in-Err-look-clause-only : goal.returns-in-Err-look-clause-only
returns-in-Err-look-clause-only g c = λ state stands. tt

pub returns-in-Err-look-clause-synced : goal.returns-in-Err-look-clause-synced
returns-in-Err-look-clause-synced g c = tt

pub returns-in-Err-look-clause-in_memory : goal.returns-in-Err-look-clause-in_memory
returns-in-Err-look-clause-in_memory g c = tt

pub returns-in-Err-look-clause-pair : goal.returns-in-Err-look-clause-pair
returns-in-Err-look-clause-pair g c = tt

pub returns-in-Err-look-clause-images : goal.returns-in-Err-look-clause-images
returns-in-Err-look-clause-images g c =
    let rules = g.R.Recorded.rules in
    let one = g.D.Disk.medium.reads c.args.first in
    λ state stands. idle_stands rules one _ _ state c.requires.first c.in-Err-look.ensures.images stands

pub returns-in-Err-look-clause-second_images : goal.returns-in-Err-look-clause-second_images
returns-in-Err-look-clause-second_images g c =
    let rules = g.R.Recorded.rules in
    let one = g.D.Disk.medium.reads c.args.first in
    let other = g.D.Disk.medium.reads c.args.second in
    λ state before stands also. idle_brings rules one other _ _ state before c.requires.second (no_change _) also

pub returns-in-Err-look-clause-second_encodes : goal.returns-in-Err-look-clause-second_encodes
returns-in-Err-look-clause-second_encodes g c =
    let rules = g.R.Recorded.rules in
    let one = g.D.Disk.medium.reads c.args.first in
    let other = g.D.Disk.medium.reads c.args.second in
    idle_brought rules one other _ _ c.requires.second (no_change _)

pub returns-in-Err-look-clause-second_state : goal.returns-in-Err-look-clause-second_state
returns-in-Err-look-clause-second_state g c = tt

pub returns-in-Err-look-clause-follows : goal.returns-in-Err-look-clause-follows
returns-in-Err-look-clause-follows g c =
    let rules = g.R.Recorded.rules in
    let one = g.D.Disk.medium.reads c.args.first in
    let other = g.D.Disk.medium.reads c.args.second in
    λ may. idle_follows (header_of rules) one other _ _ _ _ c.requires.first c.in-Err-look.ensures.images c.requires.second
    (no_change _) may

pub returns-in-Err-look-clause-never : goal.returns-in-Err-look-clause-never
returns-in-Err-look-clause-never g c = λ state stands step. c.in-Err-look.ensures.never state stands

pub returns-in-Err-look-clause-steady : goal.returns-in-Err-look-clause-steady
returns-in-Err-look-clause-steady g c = tt

pub returns-in-Err-look-clause-cause : goal.returns-in-Err-look-clause-cause
returns-in-Err-look-clause-cause g c =
    let rules = g.R.Recorded.rules in
    let one = g.D.Disk.medium.reads c.args.first in
    let other = g.D.Disk.medium.reads c.args.second in
    first_cause rules c.in-Err-look.fault one other _ _ _ c.in-Err-look.ensures.cause

pub returns-in-Err-look-clause-foreign : goal.returns-in-Err-look-clause-foreign
returns-in-Err-look-clause-foreign g c = c.in-Err-look.ensures.foreign

pub returns-in-Err-look-clause-damaged : goal.returns-in-Err-look-clause-damaged
returns-in-Err-look-clause-damaged g c = c.in-Err-look.ensures.damaged

pub returns-in-Err-look-clause-refused_first : goal.returns-in-Err-look-clause-refused_first
returns-in-Err-look-clause-refused_first g c =
    let look = c.in-Err-look.ensures in
    nothing (Disk c.in-Err-look.fault) _ (look.reads, look.images)

pub returns-in-Err-look-clause-refused_second : goal.returns-in-Err-look-clause-refused_second
returns-in-Err-look-clause-refused_second g c = nothing (Disk c.in-Err-look.fault) _ (refl, no_change _)

pub returns-in-Err-look-clause-only_read : goal.returns-in-Err-look-clause-only_read
returns-in-Err-look-clause-only_read g c = λ started. c.in-Err-look.ensures.reads

pub returns-in-Err-look-clause-only_read_images : goal.returns-in-Err-look-clause-only_read_images
returns-in-Err-look-clause-only_read_images g c = λ started. c.in-Err-look.ensures.images

pub returns-in-Err-look-clause-opens : goal.returns-in-Err-look-clause-opens
returns-in-Err-look-clause-opens g c =
    let rules = g.R.Recorded.rules in
    let one = g.D.Disk.medium.reads c.args.first in
    λ not. idle_opens rules one _ _ c.requires.first c.in-Err-look.ensures.images not

pub returns-in-Err-look-clause-fresh : goal.returns-in-Err-look-clause-fresh
returns-in-Err-look-clause-fresh g c = λ not. tt

pub returns-in-Err-look-clause-first_arms : goal.returns-in-Err-look-clause-first_arms
returns-in-Err-look-clause-first_arms g c = c.in-Err-look.ensures.arms

pub returns-in-Err-look-clause-second_arms : goal.returns-in-Err-look-clause-second_arms
returns-in-Err-look-clause-second_arms g c = refl

pub returns-in-Ok-start_looked-clause-stands : goal.returns-in-Ok-start_looked-clause-stands
returns-in-Ok-start_looked-clause-stands g c =
    let look = c.in-Ok-look.ensures in
    let rules = g.R.Recorded.rules in
    let one = g.D.Disk.medium.reads c.args.first in
    let body = c.as_bytes.result.now in
    let ours = c.header.ensures in
    let read = look.reads in
    record {
      stands = look.stands;
      counted = start_count body (decoded (header_of rules) one) _ (opens_as _ _ _ _ _ _ ours read c.in-Ok-start_looked.ensures.state);
    }

pub returns-in-Ok-start_looked-clause-only : goal.returns-in-Ok-start_looked-clause-only
returns-in-Ok-start_looked-clause-only g c = c.in-Ok-look.ensures.only

pub returns-in-Ok-start_looked-clause-synced : goal.returns-in-Ok-start_looked-clause-synced
returns-in-Ok-start_looked-clause-synced g c =
    let look = c.in-Ok-look.ensures in
    let made = c.in-Ok-start_looked.ensures in
    let rules = g.R.Recorded.rules in
    let medium = g.D.Disk.medium in
    let one = g.D.Disk.medium.reads c.args.first in
    let other = g.D.Disk.medium.reads c.args.second in
    let body = c.as_bytes.result.now in
    let spells = subst (λ (l : List ℕ). (rules Two).IsBody l (rules Two).opening) (sym c.as_bytes.ensures) c.in-Ok.ensures in
    let ours = c.header.ensures in
    let read = look.reads in
    let opens = opens_as _ _ _ _ _ _ ours read made.state ∙ ap Encodes (sym made.first_state) in
    let behind = c.requires.behind body spells in
    let limit = subst (λ (l : List ℕ). length l ≤ 2 ^ 62) read look.looked.seen.limit in
    let all = rw (ours, read) at made.second_images in
    record {
      disks = made.synced;
      header_is = made.header ∙ ours;
      makes = stands_made rules body spells look.stands.decoding _ _ (ap (opened body) (sym look.stands.is) ∙ opens) look.stands.makes;
      also = slots_make rules body spells medium g.met.D.Disk.reads_is_image one other _ (made.header ∙ ours) opens behind _ look.stands
          (c.requires.together limit _ look.stands) _ made.synced all
          (λ t is. made.second_state t (ap (λ (h : List ℕ). opened body (decoded h other)) ours ∙ is));
      sound = look.sound;
    }

pub returns-in-Ok-start_looked-clause-in_memory : goal.returns-in-Ok-start_looked-clause-in_memory
returns-in-Ok-start_looked-clause-in_memory g c = c.in-Ok-look.ensures.fresh

pub returns-in-Ok-start_looked-clause-pair : goal.returns-in-Ok-start_looked-clause-pair
returns-in-Ok-start_looked-clause-pair g c = c.in-Ok-start_looked.ensures.pair

pub returns-in-Ok-start_looked-clause-images : goal.returns-in-Ok-start_looked-clause-images
returns-in-Ok-start_looked-clause-images g c =
    let look = c.in-Ok-look.ensures in
    let made = c.in-Ok-start_looked.ensures in
    let rules = g.R.Recorded.rules in
    let one = g.D.Disk.medium.reads c.args.first in
    let body = c.as_bytes.result.now in
    let spells = subst (λ (l : List ℕ). (rules Two).IsBody l (rules Two).opening) (sym c.as_bytes.ensures) c.in-Ok.ensures in
    let ours = c.header.ensures in
    let read = look.reads in
    λ state stands.
    each_start rules body spells one _ _ state c.requires.first (as_of _ _ _ _ _ _ ours read made.first_images)
    (λ started. changes_none _ _ _ look.images (made.only_read_images (is_started _ _ _ _ ours read started))) stands

pub returns-in-Ok-start_looked-clause-second_images : goal.returns-in-Ok-start_looked-clause-second_images
returns-in-Ok-start_looked-clause-second_images g c =
    let look = c.in-Ok-look.ensures in
    let made = c.in-Ok-start_looked.ensures in
    let rules = g.R.Recorded.rules in
    let medium = g.D.Disk.medium in
    let one = g.D.Disk.medium.reads c.args.first in
    let other = g.D.Disk.medium.reads c.args.second in
    let body = c.as_bytes.result.now in
    let spells = subst (λ (l : List ℕ). (rules Two).IsBody l (rules Two).opening) (sym c.as_bytes.ensures) c.in-Ok.ensures in
    let ours = c.header.ensures in
    let read = look.reads in
    let opens = opens_as _ _ _ _ _ _ ours read made.state ∙ ap Encodes (sym made.first_state) in
    let behind = c.requires.behind body spells in
    let limit = subst (λ (l : List ℕ). length l ≤ 2 ^ 62) read look.looked.seen.limit in
    let all = rw (ours, read) at made.second_images in
    λ state before stands also.
    slots_stand rules body spells medium g.met.D.Disk.reads_is_image one other _ (made.header ∙ ours) opens behind state stands
    (c.requires.together limit state stands) _ made.synced all
    (λ t is. made.second_state t (ap (λ (h : List ℕ). opened body (decoded h other)) ours ∙ is))

pub returns-in-Ok-start_looked-clause-second_encodes : goal.returns-in-Ok-start_looked-clause-second_encodes
returns-in-Ok-start_looked-clause-second_encodes g c =
    let rules = g.R.Recorded.rules in
    let one = g.D.Disk.medium.reads c.args.first in
    let other = g.D.Disk.medium.reads c.args.second in
    let body = c.as_bytes.result.now in
    let spells = subst (λ (l : List ℕ). (rules Two).IsBody l (rules Two).opening) (sym c.as_bytes.ensures) c.in-Ok.ensures in
    let ours = c.header.ensures in
    let read = c.in-Ok-look.ensures.reads in
    let all = rw (ours, read) at c.in-Ok-start_looked.ensures.second_images in
    if_so _ _ (λ s it. brought_each rules body spells one other _ it) _ all

pub returns-in-Ok-start_looked-clause-second_state : goal.returns-in-Ok-start_looked-clause-second_state
returns-in-Ok-start_looked-clause-second_state g c =
    let made = c.in-Ok-start_looked.ensures in
    let rules = g.R.Recorded.rules in
    let medium = g.D.Disk.medium in
    let one = g.D.Disk.medium.reads c.args.first in
    let other = g.D.Disk.medium.reads c.args.second in
    let body = c.as_bytes.result.now in
    let spells = subst (λ (l : List ℕ). (rules Two).IsBody l (rules Two).opening) (sym c.as_bytes.ensures) c.in-Ok.ensures in
    let ours = c.header.ensures in
    let read = c.in-Ok-look.ensures.reads in
    let opens = opens_as _ _ _ _ _ _ ours read made.state ∙ ap Encodes (sym made.first_state) in
    let all = rw (ours, read) at made.second_images in
    slots_brought rules body spells medium g.met.D.Disk.reads_is_image one other _ (made.header ∙ ours) opens _ made.synced all
    (λ t is. made.second_state t (ap (λ (h : List ℕ). opened body (decoded h other)) ours ∙ is))

pub returns-in-Ok-start_looked-clause-follows : goal.returns-in-Ok-start_looked-clause-follows
returns-in-Ok-start_looked-clause-follows g c =
    let made = c.in-Ok-start_looked.ensures in
    let rules = g.R.Recorded.rules in
    let body = c.as_bytes.result.now in
    let ours = c.header.ensures in
    let read = c.in-Ok-look.ensures.reads in
    λ may.
    slots_follow (header_of rules) body _ _ _ ((rw (ours, read) at made.in_step) may.step) (rw ours at made.again)

pub returns-in-Ok-start_looked-clause-never : goal.returns-in-Ok-start_looked-clause-never
returns-in-Ok-start_looked-clause-never g c = λ state stands step. tt

pub returns-in-Ok-start_looked-clause-steady : goal.returns-in-Ok-start_looked-clause-steady
returns-in-Ok-start_looked-clause-steady g c =
    let made = c.in-Ok-start_looked.ensures in
    (made.steady.0 ∙ c.in-Ok-look.ensures.steady, made.steady.1)

pub returns-in-Ok-start_looked-clause-cause : goal.returns-in-Ok-start_looked-clause-cause
returns-in-Ok-start_looked-clause-cause g c = tt

pub returns-in-Ok-start_looked-clause-foreign : goal.returns-in-Ok-start_looked-clause-foreign
returns-in-Ok-start_looked-clause-foreign g c = c.in-Ok-look.ensures.foreign

pub returns-in-Ok-start_looked-clause-damaged : goal.returns-in-Ok-start_looked-clause-damaged
returns-in-Ok-start_looked-clause-damaged g c = c.in-Ok-look.ensures.damaged

pub returns-in-Ok-start_looked-clause-refused_first : goal.returns-in-Ok-start_looked-clause-refused_first
returns-in-Ok-start_looked-clause-refused_first g c = tt

pub returns-in-Ok-start_looked-clause-refused_second : goal.returns-in-Ok-start_looked-clause-refused_second
returns-in-Ok-start_looked-clause-refused_second g c = tt

pub returns-in-Ok-start_looked-clause-only_read : goal.returns-in-Ok-start_looked-clause-only_read
returns-in-Ok-start_looked-clause-only_read g c =
    let look = c.in-Ok-look.ensures in
    let ours = c.header.ensures in
    let read = look.reads in
    λ started. c.in-Ok-start_looked.ensures.only_read (is_started _ _ _ _ ours read started) ∙ look.reads

pub returns-in-Ok-start_looked-clause-only_read_images : goal.returns-in-Ok-start_looked-clause-only_read_images
returns-in-Ok-start_looked-clause-only_read_images g c =
    let look = c.in-Ok-look.ensures in
    let ours = c.header.ensures in
    let read = look.reads in
    λ started. changes_none _ _ _ look.images (c.in-Ok-start_looked.ensures.only_read_images (is_started _ _ _ _ ours read started))

pub returns-in-Ok-start_looked-clause-opens : goal.returns-in-Ok-start_looked-clause-opens
returns-in-Ok-start_looked-clause-opens g c =
    let rules = g.R.Recorded.rules in
    let one = g.D.Disk.medium.reads c.args.first in
    let body = c.as_bytes.result.now in
    let spells = subst (λ (l : List ℕ). (rules Two).IsBody l (rules Two).opening) (sym c.as_bytes.ensures) c.in-Ok.ensures in
    let ours = c.header.ensures in
    let read = c.in-Ok-look.ensures.reads in
    λ not. start_opens rules body one spells _ (as_of _ _ _ _ _ _ ours read c.in-Ok-start_looked.ensures.first_images) not

pub returns-in-Ok-start_looked-clause-fresh : goal.returns-in-Ok-start_looked-clause-fresh
returns-in-Ok-start_looked-clause-fresh g c =
    let rules = g.R.Recorded.rules in
    let body = c.as_bytes.result.now in
    let spells = subst (λ (l : List ℕ). (rules Two).IsBody l (rules Two).opening) (sym c.as_bytes.ensures) c.in-Ok.ensures in
    let ours = c.header.ensures in
    let read = c.in-Ok-look.ensures.reads in
    λ not. record { body = body; spells = spells; is = (rw (ours, read) at c.in-Ok-start_looked.ensures.fresh) not }

pub returns-in-Ok-start_looked-clause-first_arms : goal.returns-in-Ok-start_looked-clause-first_arms
returns-in-Ok-start_looked-clause-first_arms g c = c.in-Ok-start_looked.ensures.first_arms ∙ c.in-Ok-look.ensures.arms

pub returns-in-Ok-start_looked-clause-second_arms : goal.returns-in-Ok-start_looked-clause-second_arms
returns-in-Ok-start_looked-clause-second_arms g c = c.in-Ok-start_looked.ensures.second_arms

pub returns-clause-stands : goal.returns-clause-stands
returns-clause-stands g c = tt

pub returns-clause-only : goal.returns-clause-only
returns-clause-only g c = λ state stands. tt

pub returns-clause-synced : goal.returns-clause-synced
returns-clause-synced g c = tt

pub returns-clause-in_memory : goal.returns-clause-in_memory
returns-clause-in_memory g c = tt

pub returns-clause-pair : goal.returns-clause-pair
returns-clause-pair g c = tt

pub returns-clause-images : goal.returns-clause-images
returns-clause-images g c =
    let look = c.in-Ok-look.ensures in
    let refused = c.in-Err-start_looked.ensures in
    let rules = g.R.Recorded.rules in
    let one = g.D.Disk.medium.reads c.args.first in
    let body = c.as_bytes.result.now in
    let spells = subst (λ (l : List ℕ). (rules Two).IsBody l (rules Two).opening) (sym c.as_bytes.ensures) c.in-Ok.ensures in
    let ours = c.header.ensures in
    let read = look.reads in
    λ state stands.
    each_start rules body spells one _ _ state c.requires.first (as_of _ _ _ _ _ _ ours read refused.first_images)
    (λ started. changes_none _ _ _ look.images (refused.only_read_images (is_started _ _ _ _ ours read started))) stands

pub returns-clause-second_images : goal.returns-clause-second_images
returns-clause-second_images g c =
    let look = c.in-Ok-look.ensures in
    let refused = c.in-Err-start_looked.ensures in
    let rules = g.R.Recorded.rules in
    let one = g.D.Disk.medium.reads c.args.first in
    let other = g.D.Disk.medium.reads c.args.second in
    let body = c.as_bytes.result.now in
    let spells = subst (λ (l : List ℕ). (rules Two).IsBody l (rules Two).opening) (sym c.as_bytes.ensures) c.in-Ok.ensures in
    let ours = c.header.ensures in
    let read = look.reads in
    let behind = c.requires.behind body spells in
    let limit = subst (λ (l : List ℕ). length l ≤ 2 ^ 62) read look.looked.seen.limit in
    let all = rw (ours, read) at refused.second_images in
    λ state before stands also.
    brings rules body spells one other behind state before stands also (c.requires.together limit state stands) _ all
    (rw ours at refused.second_started)

pub returns-clause-second_encodes : goal.returns-clause-second_encodes
returns-clause-second_encodes g c =
    let rules = g.R.Recorded.rules in
    let one = g.D.Disk.medium.reads c.args.first in
    let other = g.D.Disk.medium.reads c.args.second in
    let body = c.as_bytes.result.now in
    let spells = subst (λ (l : List ℕ). (rules Two).IsBody l (rules Two).opening) (sym c.as_bytes.ensures) c.in-Ok.ensures in
    let ours = c.header.ensures in
    let read = c.in-Ok-look.ensures.reads in
    let all = rw (ours, read) at c.in-Err-start_looked.ensures.second_images in
    brought_each rules body spells one other _ all

pub returns-clause-second_state : goal.returns-clause-second_state
returns-clause-second_state g c = tt

pub returns-clause-follows : goal.returns-clause-follows
returns-clause-follows g c =
    let refused = c.in-Err-start_looked.ensures in
    let rules = g.R.Recorded.rules in
    let body = c.as_bytes.result.now in
    let ours = c.header.ensures in
    let read = c.in-Ok-look.ensures.reads in
    λ may.
    start_follows (header_of rules) body _ _ ((rw (ours, read) at refused.in_step) may.step) (rw ours at refused.again)

pub returns-clause-never : goal.returns-clause-never
returns-clause-never g c =
    let look = c.in-Ok-look.ensures in
    let rules = g.R.Recorded.rules in
    let one = g.D.Disk.medium.reads c.args.first in
    let other = g.D.Disk.medium.reads c.args.second in
    let ours = c.header.ensures in
    let read = look.reads in
    let cause = rw (ours, read, look.steady) at c.in-Err-start_looked.ensures.cause in
    λ state stands step. never_refused c.in-Err-start_looked.refused.2 (decoded (header_of rules) one) (decoded (header_of rules) other)
    _ _ _ _ cause step

pub returns-clause-steady : goal.returns-clause-steady
returns-clause-steady g c = tt

pub returns-clause-cause : goal.returns-clause-cause
returns-clause-cause g c =
    let look = c.in-Ok-look.ensures in
    let rules = g.R.Recorded.rules in
    let one = g.D.Disk.medium.reads c.args.first in
    let other = g.D.Disk.medium.reads c.args.second in
    let ours = c.header.ensures in
    let read = look.reads in
    let cause = rw (ours, read, look.steady) at c.in-Err-start_looked.ensures.cause in
    pair_cause rules c.in-Err-start_looked.refused.2 one other _ _ _ _ cause

pub returns-clause-foreign : goal.returns-clause-foreign
returns-clause-foreign g c = λ is. absurd (c.in-Ok-look.ensures.foreign is)

pub returns-clause-damaged : goal.returns-clause-damaged
returns-clause-damaged g c = λ at is. absurd (c.in-Ok-look.ensures.damaged at is)

pub returns-clause-refused_first : goal.returns-clause-refused_first
returns-clause-refused_first g c =
    let look = c.in-Ok-look.ensures in
    nothing_so c.in-Err-start_looked.refused.2 _ _ (λ it. (it.0 ∙ look.reads, changes_none _ _ _ look.images it.1))
    c.in-Err-start_looked.ensures.refused_first

pub returns-clause-refused_second : goal.returns-clause-refused_second
returns-clause-refused_second g c = c.in-Err-start_looked.ensures.refused_second

pub returns-clause-only_read : goal.returns-clause-only_read
returns-clause-only_read g c =
    let look = c.in-Ok-look.ensures in
    let ours = c.header.ensures in
    let read = look.reads in
    λ started. c.in-Err-start_looked.ensures.only_read (is_started _ _ _ _ ours read started) ∙ look.reads

pub returns-clause-only_read_images : goal.returns-clause-only_read_images
returns-clause-only_read_images g c =
    let look = c.in-Ok-look.ensures in
    let ours = c.header.ensures in
    let read = look.reads in
    λ started. changes_none _ _ _ look.images (c.in-Err-start_looked.ensures.only_read_images (is_started _ _ _ _ ours read started))

pub returns-clause-opens : goal.returns-clause-opens
returns-clause-opens g c =
    let rules = g.R.Recorded.rules in
    let one = g.D.Disk.medium.reads c.args.first in
    let body = c.as_bytes.result.now in
    let spells = subst (λ (l : List ℕ). (rules Two).IsBody l (rules Two).opening) (sym c.as_bytes.ensures) c.in-Ok.ensures in
    let ours = c.header.ensures in
    let read = c.in-Ok-look.ensures.reads in
    λ not. start_opens rules body one spells _ (as_of _ _ _ _ _ _ ours read c.in-Err-start_looked.ensures.first_images) not

pub returns-clause-fresh : goal.returns-clause-fresh
returns-clause-fresh g c = λ not. tt

pub returns-clause-first_arms : goal.returns-clause-first_arms
returns-clause-first_arms g c = c.in-Err-start_looked.ensures.first_arms ∙ c.in-Ok-look.ensures.arms

pub returns-clause-second_arms : goal.returns-clause-second_arms
returns-clause-second_arms g c = c.in-Err-start_looked.ensures.second_arms

pub start_looked-requires-clause-first : goal.start_looked-requires-clause-first
start_looked-requires-clause-first g c = c.in-Ok-look.ensures.looked

pub start_looked-requires-clause-header : goal.start_looked-requires-clause-header
start_looked-requires-clause-header g c = c.in-Ok-look.ensures.header ∙ sym c.header.ensures

pub start_looked-requires-clause-second : goal.start_looked-requires-clause-second
start_looked-requires-clause-second g c = c.requires.second

pub start_looked-requires-clause-behind : goal.start_looked-requires-clause-behind
start_looked-requires-clause-behind g c =
    let rules = g.R.Recorded.rules in
    let body = c.as_bytes.result.now in
    let spells = subst (λ (l : List ℕ). (rules Two).IsBody l (rules Two).opening) (sym c.as_bytes.ensures) c.in-Ok.ensures in
    rw (c.header.ensures, c.in-Ok-look.ensures.reads) (c.requires.behind body spells)
