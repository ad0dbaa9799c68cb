-- What is said of a commit is so, and stays so.
use Rattle.std.proofs.Common.{◌≡◌, ◌⊎◌, ℕ, ◌+◌, Bool, true, false, List, [], ◌∷◌, ◌++◌, length, drop, Option, Some, None, inl, inr}
use Rattle.std.proofs.Common.{refl, sym, ap, subst, ◌∙◌, slice_index_or, position, option_map, arith, suc, unwrap_or}
use Rattle.std.proofs.Math.Seq.{drop-append_seam}
use Rattle.std.proofs.lemmas.Bool.{cond-true, cond-false, cases_Bool, eq-eqb}
use Rattle.std.proofs.lemmas.Iterator.Adapters.{position_from-zero}
use Rattle.std.proofs.lemmas.List.{length-append, append-nil}
use Rattle.std.specs.List.{position_from}
use Rattle.std.specs.Prelude.{IfSome}
use Rattle.iot_machine.specs.Calls.{At}
use Rattle.iot_machine.specs.Machine.{Machine, Commit, Pair, pair_at, its_server, add_commit}
use Rattle.iot_machine.specs.Nodes as nodes
use Rattle.iot_machine.specs.Nodes.{Node}
use Rattle.iot_machine.specs.Serving.{Submission, Verdict, Settled, Conflict, Judges, judged, Certifies, holds, conflicts, committed}
use Rattle.iot_machine.specs.Serving.{is_of, number_of, commit_text, kept_text, added_text, server_name}
use Rattle.iot_machine.specs.Stops.{Appends, SettlesAs}
use Rattle.iot_machine.specs.Texts.{line, stopped_line, kept_as, lost_as, transaction_name}
use Rattle.iot_machine.specs.Transactions.{Exchange, submits}
use Rattle.iot_machine.proofs.KeepsLaws.{Keeps, IfGoes, keeps_gets, keeps_asks, keeps_then}
use Rattle.iot_machine.proofs.PossiblyLaws.{possibly_as}
use Rattle.iot_machine.proofs.PairLaws.{Passes, Reached, exchange_keeps}
use Rattle.iot_lasting.specs.Lasting.{IsFront, AddsOne, StandsAt, Lasts}
use Rattle.iot_lasting.specs.Acknowledged.{IsSaid, IsListedAs, ACommitIsSaid, IsSaidKept, AKeptCommitIsSaid, ASettledCommitLasts}
use Rattle.iot_lasting.proofs.FrontLaws.{stands_on, possibly_front, lasts_itself}
use Rattle.iot_lasting.proofs.KeepingLaws.{Kept, judges, by_verdict}
use Rattle.iot_lasting.proofs.LastingLaws.{list_keeping}

-- ---- the last of a list

at_end : (commits : List Commit) (commit : Commit) → StandsAt (length commits) commit (add_commit commit commits)
at_end [] commit = refl
at_end (first ∷ commits) commit = at_end commits commit

-- ---- what the server says

pub a_commit_is_said : ACommitIsSaid
a_commit_is_said name commit node n text verdict step =
    by_append step.second.answer step.second.first
    (subst (λ (said : List ℕ). committed said step.second.answer step.second.mid step.second.rest verdict n) step.first.1
    step.second.second)
  where
    said : List ℕ
    said = commit_text name commit node.durable

    -- what is said before that is nothing
    starts : text ≡ step.second.front ++ step.second.rest
    starts = step.whole ∙ ap (λ (front : List ℕ). front ++ step.rest) step.first.0 ∙ step.second.whole

    by_append : (on : Bool) → Appends server_name (add_commit commit) step.mid step.second.front on step.second.mid
        → committed said on step.second.mid step.second.rest verdict n
        → (IsSaid name commit node.durable text n.durable × (verdict ≡ Some (Settled (length node.durable + 1))))
        ⊎ ((text ≡ stopped_line server_name) × (n.durable ≡ node.durable) × (verdict ≡ None))
    by_append true (inl went) tail =
        let adds : tail.mid.durable ≡ add_commit commit node.durable =
        ap (λ (node : Node (List Commit)). node.durable) (tail.first.1 ∙ went.2)
        ∙ ap (λ (node : Node (List Commit)). add_commit commit node.durable) step.first.2 in
        let all : n.durable ≡ add_commit commit node.durable = ap (λ (node : Node (List Commit)). node.durable) tail.second.2 ∙ adds in
        inl (
          record {
            says = starts ∙ ap (λ (front : List ℕ). front ++ step.second.rest) went.0 ∙ tail.whole
                ∙ ap (λ (front : List ℕ). front ++ tail.rest) tail.first.0 ∙ ap (λ (rest : List ℕ). said ++ rest) tail.second.0
                ∙ append-nil said;
            adds = all;
            stands = subst (StandsAt (length node.durable) commit) (sym all) (at_end node.durable commit);
          },
          tail.second.1 ∙ ap (λ (list : List Commit). Some (Settled (length list))) adds
              ∙ ap (λ (number : ℕ). Some (Settled number)) (length-append node.durable (commit ∷ [])),
        )
    by_append true (inr stopped) tail = absurd cc
    by_append false (inl went) tail = absurd cc
    by_append false (inr stopped) tail = inr (
      starts ∙ ap (λ (front : List ℕ). front ++ step.second.rest) stopped.0
          ∙ ap (λ (rest : List ℕ). stopped_line server_name ++ rest) tail.0 ∙ append-nil (stopped_line server_name),
      ap (λ (node : Node (List Commit)). node.durable) (tail.2 ∙ stopped.2.is)
          ∙ ap (λ (node : Node (List Commit)). node.durable) step.first.2,
      tail.1,
    )

pub a_kept_commit_is_said : AKeptCommitIsSaid
a_kept_commit_is_said words names node n text growing (inr stopped) = absurd cc
a_kept_commit_is_said words names node n text growing (inl settles) = by_doubt node.doubt growing.adds settles.1
  where
    back : {list : List Commit} → n ≡ nodes.back list node → n.durable ≡ list
    back is = ap (λ (node : Node (List Commit)). node.durable) is

    by_doubt : (doubt : Option (List Commit)) → IfSome doubt (AddsOne node.durable)
        → SettlesAs words (kept_text names) doubt node text n
        → IsSaidKept words node.durable text n.durable
        ⊎ (((text ≡ line words) ⊎ (text ≡ lost_as words)) × (n.durable ≡ node.durable))
    by_doubt None one step = inr (inl step.0, back step.1)
    by_doubt (Some after) one (inr step) = inr (inr step.0, back step.1)
    by_doubt (Some after) one (inl step) =
        let name : List ℕ = transaction_name (slice_index_or names one.commit.entry.client []) one.commit.entry.number in
        let adds : n.durable ≡ add_commit one.commit node.durable = back step.1 ∙ one.is in
        let more : drop (length node.durable) after ≡ one.commit ∷ [] =
        ap (drop (length node.durable)) one.is ∙ drop-append_seam node.durable (one.commit ∷ []) in
        inl (record {
          name = name;
          commit = one.commit;
          said = commit_text name one.commit node.durable;
          it = record {
            says = refl;
            adds = adds;
            stands = subst (StandsAt (length node.durable) one.commit) (sym adds) (at_end node.durable one.commit);
          };
          whole = step.0 ∙ ap (λ (list : List Commit). kept_as words ++ added_text names node.durable list) more;
        })

-- ---- what a client hears

the_same : (a b : ℕ) → Some a ≡ Some b → a ≡ b
the_same a b is = ap (λ (o : Option ℕ). unwrap_or o a) is

-- the first that passes stands at its place
record FirstPasses (p : Commit → Bool) (list : List Commit) (from place : ℕ) : Type 0 where
  at : ℕ
  listed : Commit
  is : place ≡ from + at
  stands : StandsAt at listed list
  same : p listed ≡ true

first_passes : (p : Commit → Bool) (list : List Commit) (from place : ℕ) → position_from p from list ≡ Some place
    → FirstPasses p list from place
first_passes p [] from place is = absurd cc
first_passes p (first ∷ list) from place is = elim (cases_Bool (p first)) [
  | inl yes_ ↦ by_first yes_ (sym (cond-true (p first) (Some from) (position_from p (from + 1) list) yes_) ∙ is)
  | inr no_ ↦
      let rest : FirstPasses p list (from + 1) place =
      first_passes p list (from + 1) place (sym (cond-false (p first) (Some from) (position_from p (from + 1) list) no_) ∙ is) in
      record { at = suc rest.at; listed = rest.listed; is = next rest.at rest.is; stands = rest.stands; same = rest.same }
]
  where
    none : from ≡ place → place ≡ from + 0
    none same = omega (arith, same)

    by_first : p first ≡ true → Some from ≡ Some place → FirstPasses p (first ∷ list) from place
    by_first passes here =
        record { at = 0; listed = first; is = none (the_same from place here); stands = refl; same = passes }

    next : (at : ℕ) → place ≡ from + 1 + at → place ≡ from + suc at
    next at is = omega (arith, is)

is_listed : (commit : Commit) (list : List Commit) (number : ℕ) → number_of commit list ≡ Some number → IsListedAs number commit list
is_listed commit list number is = by_place (position (is_of commit) list) (sym (position_from-zero (is_of commit) list)) is
  where
    numbered : (place at : ℕ) → place + 1 ≡ number → place ≡ 0 + at → number ≡ at + 1
    numbered place at one two = omega (arith, one, two)

    by_place : (place : Option ℕ) → position_from (is_of commit) 0 list ≡ place → option_map (λ place. place + 1) place ≡ Some number
        → IsListedAs number commit list
    by_place None at is = absurd cc
    by_place (Some place) at is =
        let it : FirstPasses (is_of commit) list 0 place = first_passes (is_of commit) list 0 place at in
        record {
          place = it.at;
          is = numbered place it.at (the_same (place + 1) number is) it.is;
          listed = it.listed;
          stands = it.stands;
          same = it.same;
        }

listed_on : (number : ℕ) (commit : Commit) (list later : List Commit) → IsListedAs number commit list → IsFront list later
    → IsListedAs number commit later
listed_on number commit list later it front = record {
  place = it.place;
  is = it.is;
  listed = it.listed;
  stands = stands_on it.place it.listed list later front it.stands;
  same = it.same;
}

module _ (it : Submission) where
  -- what is settled is in the list
  abbrev IsTold : Option Verdict → List Commit → Type 0
  IsTold None list = Unit {0}
  IsTold (Some (Settled number)) list = IsListedAs number it.commit list
  IsTold (Some (Conflict read question)) list = Unit {0}

  judges_told : Keeps (λ _. Unit {0}) (Judges it) (λ verdict node. IsTold verdict node.durable)
  judges_told = keeps_then {Q = λ number node. number ≡ number_of it.commit node.durable} (keeps_asks (λ node _. refl)) by_number
    where
      itself : is_of it.commit it.commit ≡ true
      itself = rw (
        eq-eqb it.commit.entry.client it.commit.entry.client refl,
        eq-eqb it.commit.entry.number it.commit.entry.number refl,
      ) refl

      certifies : (node n : Node (List Commit)) (text : List ℕ) (verdict : Option Verdict) → None ≡ number_of it.commit node.durable
          → Certifies it node text verdict n → IsTold verdict n.durable
      certifies node n text verdict here (conflicts parts nothing stays) = rw parts.is tt
      certifies node n text verdict here (holds reads commits) = by_said (a_commit_is_said it.name it.commit node n text verdict commits)
        where
          by_said : (IsSaid it.name it.commit node.durable text n.durable × (verdict ≡ Some (Settled (length node.durable + 1))))
              ⊎ ((text ≡ stopped_line server_name) × (n.durable ≡ node.durable) × (verdict ≡ None)) → IsTold verdict n.durable
          by_said (inl said) = rw said.1 (record {
            place = length node.durable;
            is = refl;
            listed = it.commit;
            stands = said.0.stands;
            same = itself;
          })
          by_said (inr stopped) = rw stopped.2 tt

      by_number : (number : Option ℕ)
          → Keeps (λ node. number ≡ number_of it.commit node.durable) (judged it number) (λ verdict node. IsTold verdict node.durable)
      by_number (Some number) = keeps_gets (λ node is. is_listed it.commit node.durable number (sym is))
      by_number None = record { at = certifies }

  exchange_told : Keeps (λ _. Unit {0}) (Exchange (Judges it)) (λ verdict pair. IsTold verdict pair.server.durable)
  exchange_told = exchange_keeps {P = λ _. Unit {0}} {Q = λ verdict p. IsTold verdict p.server.durable} passes served
    where
      served : Keeps (Reached (λ _. Unit {0})) (At its_server (Judges it)) (λ verdict pair. IsTold verdict pair.server.durable)
      served = record {
        at = λ m n text verdict here step. rw step.is (judges_told.at m.server step.inner text verdict tt step.step);
      }

      passes : Passes Verdict (λ _. Unit {0}) (λ verdict p. IsTold verdict p.server.durable)
      passes = record { nothing = λ p here. tt; lost = λ a p here. tt }

pub a_settled_commit_lasts : ASettledCommitLasts
a_settled_commit_lasts c option it later m n text number growing submitted is =
    let step : submits option it ((pair_at c).get m) submitted.front submitted.answer submitted.first.inner = submitted.first.step in
    let heard : Node (List Commit) = step.mid.server in
    let told : IsListedAs number it.commit heard.durable =
    subst (λ (verdict : Option Verdict). IsTold it verdict heard.durable) is
    ((exchange_told it).at ((pair_at c).get m) step.mid step.front step.answer tt step.first) in
    let first : Lasts m.server heard =
    (judges m.server it).at ((pair_at c).get m) step.mid step.front step.answer (lasts_itself m.server growing) step.first in
    let second : Lasts heard submitted.first.inner.server =
    if_goes submitted.answer heard submitted.first.inner
    ((by_verdict heard it.name option step.answer).at step.mid submitted.first.inner step.rest submitted.answer
    (lasts_itself heard first.growing) step.second) in
    let mid : Lasts heard submitted.mid.server = subst (λ (k : Machine). Lasts heard k.server) (sym submitted.first.is) second in
    let last : Lasts heard n.server = (list_keeping heard later).at submitted.mid n submitted.rest tt mid submitted.second in
    possibly_as n.server (λ list front. listed_on number it.commit heard.durable list told front)
    (possibly_front heard n.server last)
  where
    if_goes : {A : Type 0} (answer : Option A) (b : Node (List Commit)) (pair : Pair) → IfGoes (Kept b) (λ _. Kept b) answer pair
        → Lasts b pair.server
    if_goes None b pair here = here
    if_goes (Some a) b pair here = here
