-- Bodies that are the record of one commit.
use Rattle.std.proofs.Common.{◌≡◌, ◌<◌, ◌^◌, ◌⊎◌, inl, inr, List, ℕ, Bool, true, false, true≢false, eqb, Option, Some, None, Result, Ok}
use Rattle.std.proofs.Common.{Err}
use Rattle.std.proofs.Common.{length, refl, sym, ap, ◌∙◌, subst}
use Rattle.std.specs.Prelude.{slice_get}
use Rattle.std.specs.Result.{result_ok}
use Rattle.std.proofs.lemmas.Bool.{eqb-true, eq-eqb}
use Rattle.iot_codec.specs.Places.{AreBytes}
use Rattle.iot_durable.specs.Rules.{ReplaysIf}
use Rattle.iot_tree.specs.declared.access.Access.{Access}
use Rattle.iot_tree.specs.declared.labels.Label.{Label}
use Rattle.iot_views.specs.declared.parts.Malformed.{Malformed}
use Rattle.iot_wire.proofs.MessagesLaws.{call_found, call_one, whole_again}
use Rattle.iot_wire.proofs.SpellingLaws.{request_laws}
use Rattle.iot_wire.specs.Decoding.{request_at}
use Rattle.iot_wire.specs.Lent.{IsLentWhole, request_of}
use Rattle.iot_wire.specs.Messages.{whole}
use Rattle.iot_wire.specs.Spelling.{request_spelling}
use Rattle.iot_wire.specs.Submissions.{Submission}
use Rattle.iot_wire.specs.declared.requests.Request.TheVariants.{Commit as Asks}
use Rattle.iot_store.specs.Commits.{AddsIf}
use Rattle.iot_slots.specs.Cells.{is_old}
use Rattle.iot_slots.specs.declared.version.Version.{Version}
use Rattle.iot_slots.specs.declared.version.Version.TheVariants.{One, Two}
use Rattle.iot_versions.specs.Values.{is_old_commit}
use Rattle.iot_store.specs.Records.{IsDecodedAs, IsRecord, IsRecordIn, commit_of}
use Rattle.iot_store.specs.Rules.{rules}
use Rattle.iot_store.specs.States.{State, CanFollow}
use Rattle.iot_store.specs.declared.commit.Commit.{Commit}

-- a record is one in version 2
pub record_new : (version : Version) (body : List ℕ) (commit : Commit) → IsRecordIn version body commit → IsRecordIn Two body commit
record_new One body commit is = is.0
record_new Two body commit is = is

-- a body is the record of one commit at most
pub record_alone : (version : Version) (body : List ℕ) (one other : Commit) → length body < 2 ^ 64 → IsRecordIn version body one
    → IsRecordIn version body other → one ≡ other
record_alone version body one other short p q =
    let same : Asks one.label one.access one.lines ≡ Asks other.label other.access other.lines =
    call_one _ _ _ request_laws body short _ _ (record_new version body one p) (record_new version body other q) in
    let label : one.label ≡ other.label = cc in
    let access : one.access ≡ other.access = cc in
    let lines : one.lines ≡ other.lines = cc in
    λ i. record { label = label i; access = access i; lines = lines i }

-- ---- what is lent

-- a record begins with the tag of a commit
record_tag : (body : List ℕ) (label : Label) (access : Access) (lines : List (List ℕ)) → IsRecord body label access lines
    → slice_get body 0 ≡ Some 2
unfolding request_spelling
record_tag body label access lines is = ap (λ (l : List ℕ). slice_get l 0) (sym is.spelled)

is_two : (tag : Option ℕ) → (tag ≡ Some 2) ⊎ (tag ≡ Some 2 → ⊥)
is_two None = inr (λ is. absurd cc)
is_two (Some n) = by (eqb n 2) refl
  where
    by : (b : Bool) → eqb n 2 ≡ b → (Some n ≡ Some 2) ⊎ (Some n ≡ Some 2 → ⊥)
    by true is = inl (ap Some (eqb-true n 2 is))
    by false other = inr (λ is. let same : n ≡ 2 = cc in true≢false (sym (eq-eqb n 2 same) ∙ other))

not_refused : (commit : Submission) (answer : Result Submission Malformed) → answer ≡ Ok commit → answer ≡ Err (record { at = 0 }) → ⊥
not_refused commit (Ok found) is refused = absurd cc
not_refused commit (Err fault) is refused = absurd cc

-- what is lent out of a body is the commit whose record it is
lent_found : (body : List ℕ) (commit : Submission) (answer : Result Submission Malformed) → answer ≡ Ok commit → AreBytes body
    → (slice_get body 0 ≡ Some 2 → IsLentWhole request_of answer (whole request_at body))
    → ((slice_get body 0 ≡ Some 2 → ⊥) → answer ≡ Err (record { at = 0 })) → IsRecord body commit.0 commit.1.0 commit.1.1
lent_found body commit answer is fit lent other = by (is_two (slice_get body 0))
  where
    by : (slice_get body 0 ≡ Some 2) ⊎ (slice_get body 0 ≡ Some 2 → ⊥) → IsRecord body commit.0 commit.1.0 commit.1.1
    by (inl tag) =
        call_found _ _ _ request_laws body (Ok (request_of commit)) fit
        (subst (λ (a : Result Submission Malformed). IsLentWhole request_of a (whole request_at body)) is (lent tag))
    by (inr no_tag) = absurd (not_refused commit answer is (other no_tag))

-- and nothing is lent only if it is the record of none
lent_none : (body : List ℕ) (fault : Malformed) (answer : Result Submission Malformed) → answer ≡ Err fault → length body < 2 ^ 64
    → (slice_get body 0 ≡ Some 2 → IsLentWhole request_of answer (whole request_at body)) → IsDecodedAs Two body None
lent_none body fault answer is short lent commit found =
    let fails : whole request_at body ≡ Err fault.at =
    subst (λ (a : Result Submission Malformed). IsLentWhole request_of a (whole request_at body)) is
    (lent (record_tag body commit.label commit.access commit.lines found)) in
    let clash : Ok (Asks commit.label commit.access commit.lines) ≡ Err fault.at = sym (whole_again _ _ _ request_laws body _ short found)
    ∙ fails in
    absurd cc

-- what is lent, or nothing
pub lent_as : (body : List ℕ) (answer : Result Submission Malformed) → AreBytes body → length body < 2 ^ 64
    → (slice_get body 0 ≡ Some 2 → IsLentWhole request_of answer (whole request_at body))
    → ((slice_get body 0 ≡ Some 2 → ⊥) → answer ≡ Err (record { at = 0 })) → IsDecodedAs Two body (result_ok answer)
lent_as body (Ok commit) fit short lent other = lent_found body commit (Ok commit) refl fit lent other
lent_as body (Err fault) fit short lent other = lent_none body fault (Err fault) refl short lent

-- ---- and in which version

-- what is the record of none is that in either
pub none_in : (version : Version) (body : List ℕ) → IsDecodedAs Two body None → IsDecodedAs version body None
none_in version body none commit is = none commit (record_new version body commit is)

pub some_in : (version : Version) (body : List ℕ) (commit : Submission) → is_old version ≡ false → IsDecodedAs Two body (Some commit)
    → IsDecodedAs version body (Some commit)
some_in One body commit new is = absurd cc
some_in Two body commit new is = is

-- version 1 has a spelling for the commit, or has not
pub some_old : (version : Version) (body : List ℕ) (it : Submission) → is_old version ≡ true → IsDecodedAs Two body (Some it)
    → is_old_commit it.0 it.1.0 ≡ true → IsDecodedAs version body (Some it)
some_old One body it old is has = (is, has)
some_old Two body it old is has = absurd cc

pub none_old : (version : Version) (body : List ℕ) (it : Submission) → length body < 2 ^ 64 → is_old version ≡ true
    → IsDecodedAs Two body (Some it) → is_old_commit it.0 it.1.0 ≡ false → IsDecodedAs version body None
none_old One body it short old is has commit found =
    let same = record_alone Two body commit (commit_of it) short found.0 is in
    let clash : true ≡ false = sym found.1 ∙ ap (λ (c : Commit). is_old_commit c.label c.access) same ∙ has in
    absurd cc
none_old Two body it short old is has commit found = absurd cc

-- ---- its lines

-- in either version they are those of the commit that is lent
pub lines_found : (version : Version) (body : List ℕ) (it : Submission) (commit : Commit) → length body < 2 ^ 64
    → IsDecodedAs Two body (Some it) → IsRecordIn version body commit → it.1.1 ≡ commit.lines
lines_found version body it commit short found is =
    ap (λ (c : Commit). c.lines) (record_alone Two body (commit_of it) commit short found (record_new version body commit is))

-- ---- what is replayed

-- the commit whose record the body is was made if it can follow, and only then
pub replays_if : (version : Version) (body : List ℕ) (commit : Submission) (follows : Bool) (old new : State) → length body < 2 ^ 64
    → IsRecordIn version body (commit_of commit) → AddsIf follows commit.0 commit.1.0 old new
    → ReplaysIf (rules version) follows body old new
replays_if version body commit true old new short is adds = record {
  change = commit_of commit;
  spells = is;
  only = λ other spells. record_alone version body other (commit_of commit) short spells is;
  follows = adds.0;
  is = adds.1;
}
replays_if version body commit false old new short is adds = record {
  never = λ other spells follows.
      let same = record_alone version body other (commit_of commit) short spells is in
      adds (subst (λ (c : Commit). CanFollow old c.label c.access) same follows);
}

-- no commit can follow of which the body is no record
pub replays_none : (version : Version) (body : List ℕ) (old new : State) → IsDecodedAs version body None
    → ReplaysIf (rules version) false body old new
replays_none version body old new none = record { never = λ change spells follows. none change spells }
