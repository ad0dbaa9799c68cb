-- A journal over its disk.
use Rattle.std.specs.Prelude.{◌≡◌, ◌≤◌, ℕ, ◌+◌, ◌^◌, List, [], ◌∷◌, ◌++◌, length}
use Rattle.iot_disk.specs.Disk.{Medium, Only, overwritten}
use Rattle.iot_journal.specs.Decoding.{Encodes, decoded, bodies_in, records, spelled}
use Rattle.iot_journal.specs.Images.{IsLaidOut}
use Rattle.iot_journal.specs.declared.journal.Journal.{Journal}

-- the disk under a journal
abbrev pub disk_of : {D : Type 0} → Journal D → D
disk_of journal = journal.disk

-- the number of records that were read and appended
abbrev pub count_of : {D : Type 0} → Journal D → ℕ
count_of journal = journal.count

-- the bodies that its disk encodes
abbrev pub bodies_on : {D : Type 0} → Medium D → Journal D → List (List ℕ)
bodies_on medium journal = bodies_in (medium.reads journal.disk)

-- nothing is under way: the disk has one image, and it encodes as many bodies as were counted
pub record IsSynced {D : Type 0} (medium : Medium D) (journal : Journal D) : Type 0 where
  pub only : Only (medium.reads journal.disk) (medium.may_leave journal.disk)
  pub encodes : decoded (medium.reads journal.disk) ≡ Encodes (bodies_on medium journal)
  pub layout : IsLaidOut (medium.reads journal.disk) (bodies_on medium journal) journal.gate
  pub limit : length (medium.reads journal.disk) ≤ 2 ^ 62
  pub count : journal.count ≡ length (bodies_on medium journal)

-- the bytes with one more record after those of these bodies: first the record and the next gate after the closed one, then the gate
abbrev pub with_record : List (List ℕ) → List ℕ → List ℕ → List ℕ
with_record bodies body bytes =
    let gate = 9 + length (records bodies) in
    overwritten (overwritten bytes (gate + 1) (spelled body ++ 0 ∷ [])) gate (165 ∷ [])
