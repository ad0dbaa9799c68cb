-- Counting the lines of a transcript piece by piece.
use Rattle.std.proofs.Common.{◌≡◌, inl, inr, ℕ, ◌+◌, List, [], ◌∷◌, ◌++◌, length, Bool, nat_eq, codes, refl, sym, ap}
use Rattle.std.proofs.Common.{◌∙◌, append_assoc, count_by, arith}
use Rattle.std.specs.List.{starts_with, filter}
use Rattle.std.proofs.lemmas.List.{append-nil, length-append}
use Rattle.std.proofs.lemmas.List.Elements.{filter-append}
use Rattle.std.proofs.lemmas.List.Sums.{length-filter}
use Rattle.iot_lines.specs.Lines.{lines}
use Rattle.iot_lines.proofs.LinesLaws.{lines-append}
use Rattle.iot_app.specs.Counting.{plus, EndsLine, IsWhole, HasCounted}
use Rattle.iot_app.specs.Summary.{count_lines, tally_of}
use Rattle.iot_app.specs.declared.tally.Tally.{Tally}

count_by-append : (p : List ℕ → Bool) (xs ys : List (List ℕ)) → count_by p (xs ++ ys) ≡ count_by p xs + count_by p ys
count_by-append p xs ys =
    omega (
      arith,
      length-filter p (xs ++ ys),
      length-filter p xs,
      length-filter p ys,
      ap length (filter-append p xs ys),
      length-append (filter p xs) (filter p ys),
    )

-- what comes behind whole lines has lines of its own
lines_apart : (done rest : List ℕ) → IsWhole done → lines (done ++ rest) ≡ lines done ++ lines rest
lines_apart done rest (inl none) = ap (λ (d : List ℕ). lines (d ++ rest)) none ∙ sym (ap (λ (d : List ℕ). lines d ++ lines rest) none)
lines_apart done rest (inr ends) =
    ap (λ (d : List ℕ). lines (d ++ rest)) ends.split
    ∙ ap lines (append_assoc ends.front (10 ∷ []) rest)
    ∙ lines-append ends.front rest
    ∙ sym (ap (λ (d : List ℕ). lines d ++ lines rest) ends.split)

count_apart : (front done rest : List ℕ) → IsWhole done
    → count_lines front (done ++ rest) ≡ count_lines front done + count_lines front rest
count_apart front done rest whole =
    ap (count_by (λ l. starts_with nat_eq l front)) (lines_apart done rest whole)
    ∙ count_by-append (λ l. starts_with nat_eq l front) (lines done) (lines rest)

counts_apart : (done rest : List ℕ) → IsWhole done → tally_of (done ++ rest) ≡ plus (tally_of done) (tally_of rest)
counts_apart done rest whole = λ i. record {
  commits = count_apart (codes "commit ") done rest whole i;
  conflicts = count_apart (codes "conflict ") done rest whole i;
  pending = count_apart (codes "pending ") done rest whole i;
}

-- nothing is counted yet
pub none_counted : (counts : Tally) (text : List ℕ) → counts ≡ tally_of [] → HasCounted counts text text
none_counted counts text is = record { done = []; split = refl; lines = inl refl; counted = is }

-- more is said
pub more_said : (counts : Tally) (before after transcript says : List ℕ) → after ≡ before ++ says → HasCounted counts before transcript
    → HasCounted counts after (transcript ++ says)
more_said counts before after transcript says is had = record {
  done = had.done;
  split =
      ap (λ (t : List ℕ). t ++ says) had.split ∙ append_assoc had.done before says
      ∙ ap (λ (t : List ℕ). had.done ++ t) (sym is);
  lines = had.lines;
  counted = had.counted;
}

-- and counted
module _ (old new : Tally) (text transcript : List ℕ) (added : new ≡ plus old (tally_of text))
    (had : HasCounted old text transcript) where
  all : new ≡ tally_of (had.done ++ text)
  all = added ∙ ap (λ (c : Tally). plus c (tally_of text)) had.counted ∙ sym (counts_apart had.done text had.lines)

  pub then_counted : EndsLine text → HasCounted new [] transcript
  then_counted ends = record {
    done = had.done ++ text;
    split = had.split ∙ sym (append-nil (had.done ++ text));
    lines = inr (record {
      front = had.done ++ ends.front;
      split = ap (λ (t : List ℕ). had.done ++ t) ends.split ∙ sym (append_assoc had.done ends.front (10 ∷ []));
    });
    counted = all;
  }

  pub all_counted : new ≡ tally_of transcript
  all_counted = all ∙ ap tally_of (sym had.split)
