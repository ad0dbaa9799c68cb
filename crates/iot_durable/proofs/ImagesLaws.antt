-- What the bytes of a disk and its images stand for, by what they encode.
use Rattle.std.proofs.Common.{◌≡◌, ◌≢◌, ℕ, List, [], ◌∷◌, ◌++◌, inl, inr, refl, sym, ap, ◌∙◌, subst}
use Rattle.iot_disk.specs.Disk.{Only, SameImages}
use Rattle.iot_slots.specs.Cells.{next}
use Rattle.iot_slots.specs.Decoding.{Decoded, Encodes, NotStarted, Foreign, Damaged, State, decoded, opened, state_in, state_of}
use Rattle.iot_slots.specs.Slots.{appended, renewed, EachEncodes, EachEncodesEither}
use Rattle.iot_slots.specs.Start.{EachEncodesAs}
use Rattle.iot_slots.specs.declared.version.Version.{Version}
use Rattle.iot_slots.specs.declared.version.Version.TheVariants.{Two}
use Rattle.iot_durable.specs.Rules.{Rules}
use Rattle.iot_durable.specs.Standing.{Makes, MakesOf, MakesBy, IsNext, StandFor, StandWith, EachStands, EachStandsEither, EachStays}
use Rattle.iot_durable.specs.Standing.{header_of, records_in}
use Rattle.iot_durable.specs.Standing.{IsAlone, IsRenewed}
use Rattle.iot_durable.proofs.StandingLaws.{leads_push}

-- a body for a disk that is not started leaves the number of records
opened_count : (first : List ℕ) (d : Decoded) → (state_of (opened first d)).count ≡ (state_of d).count
opened_count first (Encodes state) = refl
opened_count first NotStarted = refl
opened_count first Foreign = refl
opened_count first (Damaged at) = refl

pub same_count : (first : List ℕ) (d other : Decoded) → opened first d ≡ opened first other → (state_of d).count ≡ (state_of other).count
same_count first d other same =
    sym (opened_count first d) ∙ ap (λ (o : Decoded). (state_of o).count) same ∙ opened_count first other

pub start_count : (first : List ℕ) (d : Decoded) (encoded : State) → opened first d ≡ Encodes encoded → (state_of d).count ≡ encoded.count
start_count first d encoded is = sym (opened_count first d) ∙ ap (λ (o : Decoded). (state_of o).count) is

-- bytes that encode a state are started
pub not_both : (d : Decoded) (state : State) → d ≡ NotStarted → d ≡ Encodes state → ⊥
not_both d state none is = let clash : NotStarted ≡ Encodes state = sym none ∙ is in absurd cc

module _ {S C : Type 0} (rules : Version → Rules S C) where
  -- ---- of what is encoded

  -- a checkpoint of the whole state
  pub makes_whole : (body : List ℕ) (now : S) → (rules Two).IsBody body now → Makes (rules Two) body [] now
  makes_whole body now spells = record { start = now; spells = spells; leads = refl }

  pub one_makes : (image : List ℕ) (encoded : State) (count : ℕ) (now : S) → decoded (header_of rules) image ≡ Encodes encoded →
      encoded.count ≡ count → MakesOf rules encoded now → StandWith rules image count now
  one_makes image encoded count now is counted makes = record {
    stands = record { decoding = Encodes encoded; is = is; makes = makes };
    counted = ap (λ (d : Decoded). (state_of d).count) is ∙ counted;
  }

  pub each_makes : (head : List ℕ) (images : List ℕ → Type 0) (encoded : State) (count : ℕ) (now : S) → head ≡ header_of rules →
      EachEncodes head images encoded → encoded.count ≡ count → MakesOf rules encoded now →
      EachStands rules images count now
  each_makes head images encoded count now is encodes counted makes = record {
    each = λ image left.
        let here = ap (λ (h : List ℕ). decoded h image) (sym is) ∙ encodes.each image left in
        one_makes image encoded count now here counted makes;
  }

  -- one record more
  pub either_makes : (head : List ℕ) (images : List ℕ → Type 0) (encoded : State) (body : List ℕ) (count : ℕ) (old new : S) →
      head ≡ header_of rules → EachEncodesEither head images encoded (appended encoded body) → encoded.count ≡ count →
      MakesOf rules encoded old → MakesOf rules (appended encoded body) new →
      EachStandsEither rules images count old new
  either_makes head images encoded body count old new is encodes counted makes_old makes_new = record {
    each = λ image left.
        let head_is = ap (λ (h : List ℕ). decoded h image) (sym is) in
        elim (encodes.each image left) [
          | inl was ↦ inl (one_makes image encoded count old (head_is ∙ was) counted makes_old)
          | inr now ↦ inr (one_makes image (appended encoded body) (next count) new (head_is ∙ now) (ap next counted) makes_new)
        ];
  }

  -- a checkpoint of the whole
  pub both_make : (head : List ℕ) (images : List ℕ → Type 0) (encoded : State) (body : List ℕ) (count : ℕ) (now : S) →
      head ≡ header_of rules → EachEncodesEither head images encoded (renewed encoded body) → encoded.count ≡ count →
      MakesOf rules encoded now → (rules Two).IsBody body now → EachStands rules images count now
  both_make head images encoded body count now is encodes counted makes spells = record {
    each = λ image left.
        let head_is = ap (λ (h : List ℕ). decoded h image) (sym is) in
        elim (encodes.each image left) [
          | inl was ↦ one_makes image encoded count now (head_is ∙ was) counted makes
          | inr after ↦ one_makes image (renewed encoded body) count now (head_is ∙ after) counted (makes_whole body now spells)
        ];
  }

  -- ---- what stays

  -- nothing was done
  pub idle_stays : (head bytes : List ℕ) (images : List ℕ → Type 0) (was : State) (count : ℕ) (now : S) → head ≡ header_of rules →
      Only bytes images → decoded head bytes ≡ Encodes was → was.count ≡ count → MakesOf rules was now →
      EachStays rules images count was now
  idle_stays head bytes images was count now is only encodes counted makes =
      let each : EachEncodes head images was = record { each = λ image left. ap (decoded head) (only.is image left) ∙ encodes } in
      record {
        stands = each_makes head images was count now is each counted makes;
        encodes = λ image left. (was, ap (λ (h : List ℕ). decoded h image) (sym is) ∙ each.each image left, inl refl);
      }

  -- a checkpoint of the whole, or none
  pub both_stay : (head : List ℕ) (images : List ℕ → Type 0) (was : State) (body : List ℕ) (count : ℕ) (now : S) → head ≡ header_of rules →
      EachEncodesEither head images was (renewed was body) → was.count ≡ count → MakesOf rules was now →
      (rules Two).IsBody body now → EachStays rules images count was now
  both_stay head images was body count now is encodes counted makes spells = record {
    stands = both_make head images was body count now is encodes counted makes spells;
    encodes = λ image left.
        let head_is = ap (λ (h : List ℕ). decoded h image) (sym is) in
        elim (encodes.each image left) [
          | inl same ↦ (was, head_is ∙ same, inl refl)
          | inr after ↦ (renewed was body, head_is ∙ after, inr (record { body = body; spells = spells; is = refl }))
        ];
  }

  -- the second of two checkpoints
  pub renewed_twice : (was mid encoded : State) (now : S) → IsAlone rules was now mid → IsRenewed rules mid now encoded →
      IsRenewed rules was now encoded
  renewed_twice was mid encoded now one two = elim two [
    | inl same ↦ inr (record { body = one.body; spells = one.spells; is = same ∙ one.is })
    | inr again ↦
        inr (record { body = again.body; spells = again.spells; is = again.is ∙ ap (λ (s : State). renewed s again.body) one.is })
  ]

  pub stays_twice : (images : List ℕ → Type 0) (count : ℕ) (was mid : State) (now : S) → IsAlone rules was now mid →
      EachStays rules images count mid now → EachStays rules images count was now
  stays_twice images count was mid now one it = record {
    stands = it.stands;
    encodes = λ image left.
        let e = it.encodes image left in
        (e.0, e.1, renewed_twice was mid e.0 now one e.2);
  }

  -- one record more
  pub makes_push : (encoded : State) (body : List ℕ) (change : C) (now : S) → MakesOf rules encoded now → IsNext rules encoded body change →
      (rules Two).CanFollow now change → MakesOf rules (appended encoded body) ((rules Two).after now change)
  makes_push encoded body change now makes next follows =
      subst (λ (v : Version). Makes (rules v) encoded.body (encoded.bodies ++ body ∷ []) ((rules Two).after now change)) (sym next.version)
      (push (subst (λ (v : Version). Makes (rules v) encoded.body encoded.bodies now) next.version makes))
    where
      push : Makes (rules Two) encoded.body encoded.bodies now →
          Makes (rules Two) encoded.body (encoded.bodies ++ body ∷ []) ((rules Two).after now change)
      push two = record {
        start = two.start;
        spells = two.spells;
        leads = leads_push (rules Two) encoded.bodies two.start now body change two.leads next.spells follows;
      }

  pub makes_same : (one other : State) (a b : S) → one ≡ other → a ≡ b → MakesOf rules other b →
      MakesOf rules one a
  makes_same one other a b same now makes =
      subst (λ (e : State). MakesOf rules e a) (sym same)
      (subst (λ (s : S). MakesOf rules other s) (sym now) makes)

  -- ---- of a start

  module _ (first : List ℕ) (spells : (rules Two).IsBody first (rules Two).opening) where
    -- what is opened is a disk that encodes this, or one that is not started
    pub stands_made : (d : Decoded) (encoded : State) (now : S) → opened first d ≡ Encodes encoded → MakesBy rules d now →
        MakesOf rules encoded now
    stands_made (Encodes state) encoded now is makes = subst (λ (e : State). MakesOf rules e now) (ap state_of is) makes
    stands_made NotStarted encoded now is makes =
        subst (λ (e : State). MakesOf rules e now) (ap state_of is)
        (subst (λ (s : S). Makes (rules Two) first [] s) (sym makes) (makes_whole first (rules Two).opening spells))
    stands_made Foreign encoded now is makes = absurd makes
    stands_made (Damaged at) encoded now is makes = absurd makes

    pub made_stands : (d : Decoded) (encoded : State) (now : S) → opened first d ≡ Encodes encoded →
        ((state : S) → MakesOf rules encoded state → now ≡ state) → MakesOf rules encoded now →
        MakesBy rules d now
    made_stands (Encodes state) encoded now is only makes =
        subst (λ (e : State). MakesOf rules e now) (sym (ap state_of is)) makes
    made_stands NotStarted encoded now is only makes =
        only (rules Two).opening (stands_made NotStarted encoded (rules Two).opening is refl)
    made_stands Foreign encoded now is only makes = absurd cc
    made_stands (Damaged at) encoded now is only makes = absurd cc

    -- an image that was opened alike, of a disk that was not started
    pub fresh_stands : (d : Decoded) → opened first d ≡ Encodes (state_in Two first [] 0) → MakesBy rules d (rules Two).opening
    fresh_stands (Encodes state) is =
        subst (λ (e : State). MakesOf rules e (rules Two).opening) (sym (ap state_of is)) (makes_whole first (rules Two).opening spells)
    fresh_stands NotStarted is = refl
    fresh_stands Foreign is = absurd cc
    fresh_stands (Damaged at) is = absurd cc

    pub each_start : (bytes : List ℕ) (before now : List ℕ → Type 0) (state : S) → Only bytes before →
        EachEncodesAs (header_of rules) first bytes now → (decoded (header_of rules) bytes ≢ NotStarted → SameImages before now) →
        StandFor rules bytes state → EachStands rules now (records_in rules bytes) state
    each_start bytes before now state only alike kept stands = by stands.decoding stands.is stands.makes
      where
        same : SameImages before now → EachStands rules now (records_in rules bytes) state
        same images = record {
          each = λ image left.
              subst (λ (l : List ℕ). StandWith rules l (records_in rules bytes) state) (sym (only.is image (images.was image left)))
              (record { stands = stands; counted = refl });
        }

        by : (d : Decoded) → decoded (header_of rules) bytes ≡ d → MakesBy rules d state
            → EachStands rules now (records_in rules bytes) state
        by (Encodes encoded) is makes = same (kept (λ none. not_both _ encoded none is))
        by NotStarted is makes = record {
          each = λ image left. record {
            stands = record {
              decoding = decoded (header_of rules) image;
              is = refl;
              makes = subst (λ (s : S). MakesBy rules (decoded (header_of rules) image) s) (sym makes)
                  (fresh_stands (decoded (header_of rules) image) (alike.each image left ∙ ap (opened first) is));
            };
            counted = same_count first (decoded (header_of rules) image) (decoded (header_of rules) bytes) (alike.each image left);
          };
        }
        by Foreign is makes = absurd makes
        by (Damaged at) is makes = absurd makes
