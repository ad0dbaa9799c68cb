-- Laws of reads in a row.
use Rattle.std.proofs.Common.{◌≡◌, ℕ, ◌+◌, ◌<◌, List, [], ◌∷◌, ◌++◌, length, get_or, drop, sym, ap, ◌∙◌, append_assoc, arith}
use Rattle.std.proofs.lemmas.List.{drop_more}
use Rattle.iot_tree.specs.declared.acts.Act.{Act}
use Rattle.iot_tree.specs.declared.acts.Read.{Read}
use Rattle.iot_inspect.specs.Texts.{read_line, reads_from, reads_of}

-- reads, and others after them
reads_from-append : (some more : List Read) (first : ℕ)
    → reads_from first (some ++ more) ≡ reads_from first some ++ reads_from (first + length some) more
reads_from-append [] more first = ap (λ (n : ℕ). reads_from n more) (omega arith)
reads_from-append (read ∷ reads) more first =
    ap (λ (text : List ℕ). read_line first read ++ text)
    (reads_from-append reads more (first + 1)
    ∙ ap (λ (n : ℕ). reads_from (first + 1) reads ++ reads_from n more) (omega arith))
    ∙ sym (append_assoc (read_line first read) (reads_from (first + 1) reads) (reads_from (first + length (read ∷ reads)) more))

-- the next read, and those after it
pub one_read : (reads : List Read) (i : ℕ) (read : Read) (number : ℕ) → i < length reads → read ≡ get_or reads i read
    → reads_from number (drop i reads) ≡ read_line number read ++ reads_from (number + 1) (drop (i + 1) reads)
one_read reads i read number within is =
    ap (reads_from number) (drop_more reads i read within ∙ ap (λ (r : Read). r ∷ drop (i + 1) reads) (sym is))

-- the reads of the next act, and those after them
pub one_act : (acts : List Act) (i : ℕ) (act : Act) (first : ℕ) → i < length acts → act ≡ get_or acts i act
    → reads_from first (reads_of (drop i acts))
    ≡ reads_from first act.reads ++ reads_from (first + length act.reads) (reads_of (drop (i + 1) acts))
one_act acts i act first within is =
    ap (λ (as_ : List Act). reads_from first (reads_of as_))
    (drop_more acts i act within ∙ ap (λ (a : Act). a ∷ drop (i + 1) acts) (sym is))
    ∙ reads_from-append act.reads (reads_of (drop (i + 1) acts)) first
