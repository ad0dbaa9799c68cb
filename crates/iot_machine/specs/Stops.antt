-- The calls of a node, by its name, in which it may stop, and those that follow from a stop or a crash.
use Rattle.std.specs.Prelude.{◌≡◌, ◌⊎◌, ℕ, ◌+◌, Bool, true, false, List, [], ◌++◌, Option, None, Some, codes}
use Rattle.iot_count.specs.Counts.{Rose}
use Rattle.iot_disk.specs.declared.disk.Pick.{Pick}
use Rattle.iot_machine.specs.Calls.{Call, Part, Does, Says, Nothing, Asks, Then, either}
use Rattle.iot_machine.specs.Nodes.{Node, opened, changed, fallen, doubting, back, armed}
use Rattle.iot_machine.specs.Texts.{line, stopped_line, restart_words, kept_as, lost_as, stop_line}

-- ---- what may stop

-- A stop: its disk's count of faults rose. It rises here and nowhere else, and `NODE stopped` is printed in such a call alone.
pub record IsStopped {S : Type 0} (node n : Node S) : Type 0 where
  pub faults : ℕ
  pub rose : Rose node.counts.faults faults
  pub is : n ≡ record node { counts = record node.counts { faults = faults }; stops = node.stops + 1 }

-- a node that was never started starts, on an empty disk, and whether it did: else it has stopped
abbrev pub OpensNode : {S : Type 0} → List ℕ → Call (Node S) Bool
OpensNode name node text on n =
    ((text ≡ []) × (on ≡ true) × (n ≡ opened node))
    ⊎ ((text ≡ stopped_line name) × (on ≡ false) × IsStopped node n)

-- One change of the durable state, and whether the node goes on: else it has stopped, and the record of the change is in doubt. Each such
-- change is written so.
abbrev pub Appends : {S : Type 0} → List ℕ → (S → S) → Call (Node S) Bool
Appends name change node text on n =
    ((text ≡ []) × (on ≡ true) × (n ≡ changed change node))
    ⊎ ((text ≡ stopped_line name) × (on ≡ false) × IsStopped (doubting change node) n)

-- Its disk was read, at an event with these words: it is alive, with what is durable. If a record was in doubt, it was kept or it was lost,
-- and what `says` tells of the states before and after it follows a kept one.
abbrev pub SettlesAs : {S : Type 0} → (words : List ℕ) → (S → S → List ℕ) → Option S → Node S → List ℕ → Node S → Type 0
SettlesAs words says None node text n = (text ≡ line words) × (n ≡ back node.durable node)
SettlesAs words says (Some after) node text n =
    ((text ≡ kept_as words ++ says node.durable after) × (n ≡ back after node))
    ⊎ ((text ≡ lost_as words) × (n ≡ back node.durable node))

-- a node that is down comes back at such an event, and whether it did: else it has stopped again, and what was in doubt still is
abbrev pub ComesBackAs : {S : Type 0} → (words name : List ℕ) → (S → S → List ℕ) → Call (Node S) Bool
ComesBackAs words name says node text on n =
    ((on ≡ true) × SettlesAs words says node.doubt node text n)
    ⊎ ((text ≡ stopped_line name) × (on ≡ false) × IsStopped node n)

-- at `restart`
abbrev pub ComesBack : {S : Type 0} → List ℕ → (S → S → List ℕ) → Call (Node S) Bool
ComesBack name = ComesBackAs (restart_words name) name

-- ---- calls without a choice of their own

abbrev pub Crashes : {S : Type 0} → List ℕ → Part (Node S)
Crashes name =
    Then (Asks (λ node. node.alive))
    (either (Does (λ _. line (codes "crash " ++ name)) fallen) (Says (λ _. line (codes "down"))))

abbrev pub Restarts : {S : Type 0} → List ℕ → (S → S → List ℕ) → Part (Node S)
Restarts name says =
    Then (Asks (λ node. node.alive)) (either (Says (λ _. line (codes "up"))) (Then (ComesBack name says) (λ _. Nothing)))

-- a later device call of its disk is to fail
abbrev pub ArmsDisk : {S : Type 0} → List ℕ → ℕ → Pick → Part (Node S)
ArmsDisk name calls pick = Does (λ _. stop_line name calls pick) (armed calls pick)

-- what it has is printed
abbrev pub Shows : {S : Type 0} → (S → List ℕ) → Part (Node S)
Shows text = Then (Asks (λ node. node.alive)) (either (Says (λ node. text node.durable)) (Says (λ _. line (codes "down"))))
