-- Calls that are put together in another order do the same.
use Rattle.std.proofs.Common.{◌≡◌, ℕ, List, [], ◌++◌, refl, ap, ◌∙◌, append_assoc}
use Rattle.iot_machine.specs.Calls.{Asks, Call, Then}

module _ {S : Type 0} where
  -- what follows two calls follows the second of them
  pub regrouped : {A B C : Type 0} {one : Call S A} {two : A → Call S B} {next : B → Call S C} {m n : S} {text : List ℕ} {c : C}
      → Then (Then one two) next m text c n → Then one (λ a. Then (two a) next) m text c n
  regrouped {next = next} {n = n} it = record {
    mid = it.first.mid;
    front = it.first.front;
    rest = it.first.rest ++ it.rest;
    answer = it.first.answer;
    first = it.first.first;
    second = record {
      mid = it.mid;
      front = it.first.rest;
      rest = it.rest;
      answer = it.answer;
      first = it.first.second;
      second = it.second;
      whole = refl;
    };
    whole = it.whole ∙ ap (λ (l : List ℕ). l ++ it.rest) it.first.whole ∙ append_assoc it.first.front it.first.rest it.rest;
  }

  -- from where the first call leads, another one does what the second does
  pub then_also : {A B : Type 0} {one : Call S A} {two other : A → Call S B} {m n : S} {text : List ℕ} {b : B}
      → ((a : A) (front rest : List ℕ) (mid : S) → one m front a mid → two a mid rest b n → other a mid rest b n)
      → Then one two m text b n → Then one other m text b n
  then_also each it = record {
    mid = it.mid;
    front = it.front;
    rest = it.rest;
    answer = it.answer;
    first = it.first;
    second = each it.answer it.front it.rest it.mid it.first it.second;
    whole = it.whole;
  }

  -- a look in front of a call
  pub looks : {A B : Type 0} {ask : S → A} {next : A → Call S B} {m n : S} {text : List ℕ} {b : B} {a : A} → a ≡ ask m
      → next a m text b n → Then (Asks ask) next m text b n
  looks {m = m} {text = text} is it =
      record { mid = m; front = []; rest = text; answer = _; first = (refl, is, refl); second = it; whole = refl }

  pub looked : {A B : Type 0} {ask : S → A} {next : A → Call S B} {m n : S} {text : List ℕ} {b : B} {a : A} → ask m ≡ a
      → Then (Asks ask) next m text b n → next a m text b n
  looked {text = text} is it =
      let wrote : text ≡ it.rest = it.whole ∙ ap (λ (l : List ℕ). l ++ it.rest) it.first.0 in
      rw (it.first.1, is, it.first.2, ← wrote) at it.second
