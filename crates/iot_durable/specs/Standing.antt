-- The state for which the bytes of a disk stand.
use Rattle.std.specs.Prelude.{◌≡◌, ◌⊎◌, ℕ, List, [], ◌∷◌}
use Rattle.iot_slots.specs.Cells.{next}
use Rattle.iot_slots.specs.Decoding.{Decoded, Encodes, NotStarted, Foreign, Damaged, State, decoded, opened, state_in, state_of}
use Rattle.iot_slots.specs.Slots.{appended, renewed, EachEncodesEither}
use Rattle.iot_slots.specs.Start.{started, started_over}
use Rattle.iot_slots.specs.declared.version.Version.{Version}
use Rattle.iot_slots.specs.declared.version.Version.TheVariants.{Two}
use Rattle.iot_backup.specs.Start.{IsBroughtUpFrom, brought_up}
use Rattle.iot_durable.specs.Rules.{Rules}

-- what follows byte 0 of a disk, in whichever version the rest is
abbrev pub header_of : {S C : Type 0} → (rules : Version → Rules S C) → List ℕ
header_of rules = (rules Two).header

-- how many records were ever appended to what the bytes encode, modulo 2 ^ 64: none, if nothing was started there
abbrev pub records_in : {S C : Type 0} → (rules : Version → Rules S C) → List ℕ → ℕ
records_in rules bytes = (state_of (decoded (header_of rules) bytes)).count

module _ {S C : Type 0} (rules : Rules S C) where
  -- each body in turn spells a change that can follow, and these lead from one state to the other
  abbrev pub Leads : List (List ℕ) → S → S → Type 0
  Leads [] before now = now ≡ before
  Leads (body ∷ bodies) before now =
      (change : C) × rules.IsRecord body change × rules.CanFollow before change × Leads bodies (rules.after before change) now

  -- the body of a checkpoint spells a state, and the records after it lead from that one to this one
  pub record Makes (body : List ℕ) (bodies : List (List ℕ)) (now : S) : Type 0 where
    pub start : S
    pub spells : rules.IsBody body start
    pub leads : Leads bodies start now

module _ {S C : Type 0} (rules : Version → Rules S C) where
  -- what is encoded makes the state, by the rules of its version
  abbrev pub MakesOf : State → S → Type 0
  MakesOf encoded now = Makes (rules encoded.version) encoded.body encoded.bodies now

  -- what the bytes of a disk encode makes the state; a disk that is not started makes the opening state
  abbrev pub MakesBy : Decoded → S → Type 0
  MakesBy (Encodes encoded) now = MakesOf encoded now
  MakesBy NotStarted now = now ≡ (rules Two).opening
  MakesBy Foreign now = ⊥
  MakesBy (Damaged at) now = ⊥

  -- the bytes of a disk stand for the state
  pub record StandFor (bytes : List ℕ) (now : S) : Type 0 where
    pub decoding : Decoded
    pub is : decoded (header_of rules) bytes ≡ decoding
    pub makes : MakesBy decoding now

  -- and so many records were ever appended to them, modulo 2 ^ 64
  pub record StandWith (bytes : List ℕ) (count : ℕ) (now : S) : Type 0 where
    pub stands : StandFor bytes now
    pub counted : records_in rules bytes ≡ count

  -- each image stands for the state, with so many records
  pub record EachStands (images : List ℕ → Type 0) (count : ℕ) (now : S) : Type 0 where
    pub each : (image : List ℕ) → images image → StandWith image count now

  -- each image stands for the one state, with so many records, or for the other, with one record more
  pub record EachStandsEither (images : List ℕ → Type 0) (count : ℕ) (before now : S) : Type 0 where
    pub each : (image : List ℕ) → images image → StandWith image count before ⊎ StandWith image (next count) now

  -- ---- by what is encoded

  -- a checkpoint of the state alone in the place of what was encoded
  pub record IsAlone (was : State) (now : S) (encoded : State) : Type 0 where
    pub body : List ℕ
    pub spells : (rules Two).IsBody body now
    pub is : encoded ≡ renewed was body

  -- what was encoded, or that
  abbrev pub IsRenewed : (was : State) → S → State → Type 0
  IsRenewed was now encoded = (encoded ≡ was) ⊎ IsAlone was now encoded

  -- each image stands for the state, with so many records, and encodes what was there, or a checkpoint of the state alone
  pub record EachStays (images : List ℕ → Type 0) (count : ℕ) (was : State) (now : S) : Type 0 where
    pub stands : EachStands images count now
    pub encodes : (image : List ℕ) → images image
        → (encoded : State) × (decoded (header_of rules) image ≡ Encodes encoded) × IsRenewed was now encoded

  -- the body spells the change, and what it is to follow is of version 2 as well
  pub record IsNext (before : State) (body : List ℕ) (change : C) : Type 0 where
    pub version : before.version ≡ Two
    pub spells : (rules Two).IsRecord body change

  -- each image encodes what was there, or a checkpoint of the state alone; or such with one record more, which spells the change
  pub record EachGoes (images : List ℕ → Type 0) (was : State) (now : S) (change : C) : Type 0 where
    pub encodes : (image : List ℕ) → images image → (encoded : State) × IsRenewed was now encoded
        × ((decoded (header_of rules) image ≡ Encodes encoded)
        ⊎ ((body : List ℕ) × IsNext encoded body change × (decoded (header_of rules) image ≡ Encodes (appended encoded body))))

  -- each image is of a disk that is not started, or was just started with a checkpoint of the opening state
  pub record EachOpens (images : List ℕ → Type 0) : Type 0 where
    pub each : (image : List ℕ) → images image → (decoded (header_of rules) image ≡ NotStarted)
        ⊎ ((body : List ℕ) × (rules Two).IsBody body (rules Two).opening
        × (decoded (header_of rules) image ≡ Encodes (state_in Two body [] 0)))

  -- What was on the disk, or a checkpoint of the state alone in its place, makes the state; and each image encodes that, or it and one
  -- record more, which spells the change.
  pub record IsInDoubt (images : List ℕ → Type 0) (was : State) (now : S) (change : C) : Type 0 where
    pub before : State
    pub body : List ℕ
    pub renews : IsRenewed was now before
    pub makes : MakesOf before now
    pub next : IsNext before body change
    pub either : EachEncodesEither (header_of rules) images before (appended before body)

  -- the bytes of a disk that was just started with a checkpoint of this state alone, after so many records
  pub record IsNew (now : S) (count : ℕ) (bytes : List ℕ) : Type 0 where
    pub body : List ℕ
    pub spells : (rules Two).IsBody body now
    pub is : bytes ≡ started (header_of rules) body count

  -- the bytes of a disk that was just started with a checkpoint of the opening state, over those that were there
  pub record IsFresh (old new : List ℕ) : Type 0 where
    pub body : List ℕ
    pub spells : (rules Two).IsBody body (rules Two).opening
    pub is : new ≡ started_over (header_of rules) body old

  -- ---- of two disks

  -- the first bytes end with a record that led to the state, and the second stand for the state before it
  pub record LacksLast (one two : List ℕ) (now : S) : Type 0 where
    pub encoded : State
    pub body : List ℕ
    pub before : S
    pub change : C
    pub is : decoded (header_of rules) one ≡ Encodes (appended encoded body)
    pub makes : MakesOf encoded before
    pub next : IsNext encoded body change
    pub follows : (rules Two).CanFollow before change
    pub after : now ≡ (rules Two).after before change
    pub other : StandWith two encoded.count before

  -- If the first bytes stand for the state, the second stand together with them: they stand for it too, or for the state before the last
  -- record of the first.
  abbrev pub StandTogether : (one other : List ℕ) → S → Type 0
  StandTogether one other now = StandWith other (records_in rules one) now ⊎ LacksLast one other now

  -- each image of the second disk stands for the state for which its bytes stood, or for that of the first
  pub record EachBrings (images : List ℕ → Type 0) (one other : List ℕ) (now before : S) : Type 0 where
    pub each : (image : List ℕ) → images image
        → StandWith image (records_in rules other) before ⊎ StandWith image (records_in rules one) now

  -- each image of the second disk is what its bytes were, or it was opened, or brought up to the first
  pub record EachIsBroughtUp (images : List ℕ → Type 0) (one other : List ℕ) : Type 0 where
    pub each : (image : List ℕ) → images image → (image ≡ other)
        ⊎ ((body : List ℕ) × (rules Two).IsBody body (rules Two).opening × IsBroughtUpFrom (header_of rules) body one other image)

  -- what the second disk encodes if that was done, by what the first one encodes
  pub record IsBroughtUp (other : List ℕ) (one now : State) : Type 0 where
    pub body : List ℕ
    pub spells : (rules Two).IsBody body (rules Two).opening
    pub was : State
    pub opens : opened body (decoded (header_of rules) other) ≡ Encodes was
    pub is : now ≡ brought_up one was
