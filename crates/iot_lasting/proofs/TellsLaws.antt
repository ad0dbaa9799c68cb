-- Calls that tell what they change, over any state that has a ledger.
use Rattle.std.proofs.Common.{◌≡◌, ℕ, zero, suc, ◌+◌, Bool, true, false, List, [], ◌∷◌, ◌++◌, Option, Some, None, inl, inr}
use Rattle.std.proofs.Common.{refl, sym, ap, subst, ◌∙◌, codes, slice_get}
use Rattle.std.proofs.lemmas.List.{append-nil}
use Rattle.iot_disk.specs.declared.disk.Pick.{Pick}
use Rattle.iot_tree.specs.Tree.{Nodes}
use Rattle.iot_machine.specs.Calls.{Call, Try, Gets, Asks, Answers, Does, Says, Nothing, Tells, Then, either, unless_over}
use Rattle.iot_machine.specs.Calls.{Goes, Repeats, Whole, or_text, OrSays}
use Rattle.iot_machine.specs.Nodes.{Node, doubting, back}
use Rattle.iot_machine.specs.Stops.{IsStopped, OpensNode, Appends, SettlesAs, ComesBack, Crashes, ArmsDisk, Shows}
use Rattle.iot_machine.specs.Texts.{line, stopped_line, restart_words, kept_line, lost_line, stop_line, tree_text}
use Rattle.iot_lasting.specs.Ledger.{Ledger, IsNode}
use Rattle.iot_lasting.specs.Sayings as forms
use Rattle.iot_lasting.specs.Sayings.{IsAmong, answer_words, node_words}
use Rattle.iot_lasting.proofs.LedgerLaws.{Told, told_nothing, told_other, told_then}

-- ---- calls

module _ {S : Type 0} (book : S → Ledger) where
  -- from each state of which one thing holds it tells how it changes the ledger, and another holds, which may speak of the answer
  pub record TellsTo {A : Type 0} (P : S → Type 0) (call : Call S A) (Q : A → S → Type 0) : Type 0 where
    pub at : (m n : S) (text : List ℕ) (a : A) → P m → call m text a n → Told (book m) text (book n) × Q a n

  -- what held before holds afterwards, whatever the answer
  abbrev pub Telling : {A : Type 0} → (S → Type 0) → Call S A → Type 0
  Telling P call = TellsTo P call (λ _. P)

module _ {S : Type 0} {book : S → Ledger} where
  -- from more, and to nothing in particular
  pub told_from : {A : Type 0} {P P_ : S → Type 0} {call : Call S A} {Q : A → S → Type 0} → ((m : S) → P m → P_ m) → TellsTo book P_ call Q
      → TellsTo book P call (λ _ _. Unit {0})
  told_from less it = record { at = λ m n text a here step. ((it.at m n text a (less m here) step).0, tt) }

  module _ {P : S → Type 0} where
    pub gets_told : {A : Type 0} {ask : S → A} {change : S → S} {Q : A → S → Type 0}
        → ((m : S) → P m → (book (change m) ≡ book m) × Q (ask m) (change m)) → TellsTo book P (Gets ask change) Q
    gets_told f = record {
      at = λ m n text a here step. rw (step.0, step.1, step.2) (told_nothing (book m) _ (f m here).0, (f m here).1);
    }

    pub asks_told : {A : Type 0} {ask : S → A} {Q : A → S → Type 0} → ((m : S) → P m → Q (ask m) m) → TellsTo book P (Asks ask) Q
    asks_told f = gets_told (λ m here. (refl, f m here))

    pub answers_told : {A : Type 0} {a : A} → Telling book P (Answers a)
    answers_told = gets_told (λ m here. (refl, here))

    pub does_told : {text : S → List ℕ} {change : S → S}
        → ((m : S) → P m → Told (book m) (text m) (book (change m)) × P (change m)) → Telling book P (Does text change)
    does_told f = record { at = λ m n said a here step. rw (step.0, step.1) (f m here) }

    pub says_told : {text : S → List ℕ} → ((m : S) → P m → Told (book m) (text m) (book m)) → Telling book P (Says text)
    says_told f = does_told (λ m here. (f m here, here))

    pub silent : Telling book P Nothing
    silent = says_told (λ m here. told_nothing (book m) (book m) refl)

    pub tells_told : {A : Type 0} {text : S → List ℕ} {a : A} → ((m : S) → P m → Told (book m) (text m) (book m))
        → Telling book P (Tells text a)
    tells_told f = record { at = λ m n said a here step. rw (step.0, step.2) (f m here, here) }

    -- ---- one after the other

    pub then_told : {A B : Type 0} {one : Call S A} {next : A → Call S B} {Q : A → S → Type 0} {R : B → S → Type 0}
        → TellsTo book P one Q → ((a : A) → TellsTo book (Q a) (next a) R) → TellsTo book P (Then one next) R
    then_told {A} {B} {one} {next} {Q} {R} first second = record { at = by_step }
      where
        by_step : (m n : S) (text : List ℕ) (b : B) → P m → Then one next m text b n → Told (book m) text (book n) × R b n
        by_step m n text b here step =
            let front : Told (book m) step.front (book step.mid) × Q step.answer step.mid =
            first.at m step.mid step.front step.answer here step.first in
            let rest : Told (book step.mid) step.rest (book n) × R b n =
            (second step.answer).at step.mid n step.rest b front.1 step.second in
            (told_then (book m) (book step.mid) (book n) step.front step.rest text step.whole front.0 rest.0, rest.1)

    -- what is asked of the state, which stays
    pub asks_then : {A B : Type 0} {ask : S → A} {next : A → Call S B} {R : B → S → Type 0} → ((a : A) → TellsTo book P (next a) R)
        → TellsTo book P (Then (Asks ask) next) R
    asks_then next = then_told (asks_told (λ m here. here)) next

    pub either_told : {A : Type 0} {call other : Call S A} {Q : A → S → Type 0} → TellsTo book P call Q → TellsTo book P other Q
        → (yes_ : Bool) → TellsTo book P (either call other yes_) Q
    either_told call other true = call
    either_told call other false = other

    pub goes_told : {A B : Type 0} {one : Try S A} {next : A → Try S B} → Telling book P one → ((a : A) → Telling book P (next a))
        → Telling book P (Goes one next)
    goes_told {A} {next = next} one each = then_told one by_answer
      where
        by_answer : (answer : Option A) → Telling book P (unless_over next answer)
        by_answer None = answers_told
        by_answer (Some a) = each a

    pub repeats_told : {round : Try S Bool} → Telling book P round → (n : ℕ) → Telling book P (Repeats n round)
    repeats_told round zero = answers_told
    repeats_told round (suc n) = goes_told round (either_told (repeats_told round n) answers_told)

    pub whole_told : {A : Type 0} {call : Try S A} → Telling book P call → Telling book P (Whole call)
    whole_told call = then_told call (λ _. silent)

    pub or_says_told : {A : Type 0} {other : List ℕ} {call : Call S A} {Q : A → S → Type 0} → ((l : Ledger) → Told l other l)
        → TellsTo book P call Q → TellsTo book P (OrSays other call) Q
    or_says_told {A} {other} {call} {Q} instead each = record {
      at = λ m n text a here step. (
        subst (λ (text : List ℕ). Told (book m) text (book n)) (sym step.is)
            (by_text (book m) (book n) step.said (each.at m n step.said a here step.done).0),
        (each.at m n step.said a here step.done).1,
      );
    }
      where
        by_text : (l k : Ledger) (said : List ℕ) → Told l said k → Told l (or_text other said) k
        by_text l k [] it = told_then l k k [] other other refl it (instead k)
        by_text l k (byte ∷ bytes) it = it

-- ---- nodes

-- one of these words, by its place among them
pub among : {words : List (List ℕ)} {word : List ℕ} (place : ℕ) → slice_get words place ≡ Some word → IsAmong words word
among place is = record { place = place; is = is }

pub told_word : (l : Ledger) (word : List ℕ) → IsAmong answer_words word → Told l (line word) l
told_word l word is = told_other l (line word) (forms.word word is refl)

pub told_tree : (l : Ledger) (t : Nodes) → Told l (tree_text t) l
told_tree l t = told_other l (tree_text t) (forms.tree t refl)

-- a node whose ledger is known by its state and its stops, in which it has this name and each stop is noted
module _ {S : Type 0} (name : List ℕ) (tell : S → ℕ → Ledger) (named : (s : S) (k : ℕ) → IsNode (tell s k) name)
    (stopping : (s : S) (k : ℕ) → Told (tell s k) (stopped_line name) (tell s (k + 1))) where
  abbrev pub book_of : Node S → Ledger
  book_of node = tell node.durable node.stops

  abbrev TellsIn : {A : Type 0} → Call (Node S) A → Type 0
  TellsIn {A} call = (node n : Node S) (text : List ℕ) (a : A) → call node text a n → Told (book_of node) text (book_of n)

  pub stops_now : (node n : Node S) → IsStopped node n → Told (book_of node) (stopped_line name) (book_of n)
  stops_now node n stop = rw stop.is (stopping node.durable node.stops)

  -- a line of one of these words and its name
  pub word_told : (node : Node S) (word : List ℕ) → IsAmong node_words word → Told (book_of node) (line (word ++ name)) (book_of node)
  word_told node word is =
      told_other (book_of node) (line (word ++ name)) (forms.of_node word name is (named node.durable node.stops) refl)

  pub kept_told : (node : Node S) → Told (book_of node) (kept_line name) (book_of node)
  kept_told node = told_other (book_of node) (kept_line name) (forms.kept name (named node.durable node.stops) refl)

  pub lost_told : (node : Node S) → Told (book_of node) (lost_line name) (book_of node)
  lost_told node = told_other (book_of node) (lost_line name) (forms.lost name (named node.durable node.stops) refl)

  pub opens_told : TellsIn (OpensNode name)
  opens_told node n text on (inl step) = rw (step.0, step.2) (told_nothing (book_of node) (book_of node) refl)
  opens_told node n text on (inr step) = rw step.0 (stops_now node n step.2)

  pub arms_told : (calls : ℕ) (pick : Pick) → TellsIn (ArmsDisk name calls pick)
  arms_told calls pick node n text a step = rw (step.0, step.1) (told_other (book_of node) (stop_line name calls pick)
      (forms.stop name calls pick (named node.durable node.stops) refl))

  pub crashes_told : TellsIn (Crashes name)
  crashes_told node n text a step =
      ((asks_then {book = book_of} {P = λ _. Unit {0}} (either_told
      (does_told (λ m here. (word_told m (codes "crash ") (among 0 refl), here)))
      (says_told (λ m here. told_word (book_of m) (codes "down") (among 1 refl))))).at
      node n text a tt step).0

  pub shows_told : (shown : S → Nodes) → TellsIn (Shows (λ s. tree_text (shown s)))
  shows_told shown node n text a step =
      ((asks_then {book = book_of} {P = λ _. Unit {0}} (either_told
      (says_told (λ m here. told_tree (book_of m) (shown m.durable)))
      (says_told (λ m here. told_word (book_of m) (codes "down") (among 1 refl))))).at
      node n text a tt step).0

  -- one whose state is not in the ledger
  module _ (same : (s other : S) (k : ℕ) → tell other k ≡ tell s k) where
    pub appends_told : (change : S → S) → TellsIn (Appends name change)
    appends_told change node n text on (inl step) =
        rw (step.0, step.2) (told_nothing (book_of node) _ (same node.durable (change node.durable) node.stops))
    appends_told change node n text on (inr step) = rw step.0 (stops_now (doubting change node) n step.2)

    pub comes_told : (says : S → S → List ℕ) → ((s other : S) → says s other ≡ []) → TellsIn (ComesBack name says)
    comes_told says nothing node n text on (inr step) = rw step.0 (stops_now node n step.2)
    comes_told says nothing node n text on (inl step) = settles node.doubt step.1
      where
        back_told : (s : S) → n ≡ back s node → Told (book_of node) text (book_of node) → Told (book_of node) text (book_of n)
        back_told s is it = rw is (subst (λ (k : Ledger). Told (book_of node) text k) (sym (same node.durable s node.stops)) it)

        settles : (doubt : Option S) → SettlesAs (restart_words name) says doubt node text n → Told (book_of node) text (book_of n)
        settles None step = back_told node.durable step.1 (rw step.0 (word_told node (codes "restart ") (among 1 refl)))
        settles (Some after) (inl step) = back_told after step.1
            (rw (step.0 ∙ ap (λ (said : List ℕ). kept_line name ++ said) (nothing node.durable after) ∙ append-nil (kept_line name))
            (kept_told node))
        settles (Some after) (inr step) = back_told node.durable step.1 (rw step.0 (lost_told node))
