-- What is parsed of a word is what its text spells, and a text that spells a word is parsed as it.
use Rattle.std.proofs.Common.{◌≡◌, ◌≢◌, ◌≤◌, ◌<◌, ◌++◌, ℕ, zero, suc, Bool, true, false, cond, eqb, List, [], ◌∷◌, length, Option, Some}
use Rattle.std.proofs.Common.{None, refl, sym, ap, ◌∙◌, append_assoc, arith, ◌&&◌, ◌||◌, ◌==◌, not, ltb, leb, take, drop, subst}
use Rattle.std.proofs.Common.{length-append}
use Rattle.std.specs.Cmp.{first_so, second_so}
use Rattle.iot_lines.specs.Fronts.{after, front, begins}
use Rattle.iot_lines.specs.Words.{without_blanks, is_blank}
use Rattle.std.proofs.lemmas.List.{append-nil, take-append-drop, take_at, drop_at, take-take, length-take-le}
use Rattle.iot_lang.specs.Bytes.{is_quoted_byte, is_plain_byte, is_variable_byte}
use Rattle.iot_lang.specs.Lines.{is_end}
use Rattle.iot_lang.specs.declared.faults.PartFault.{PartFault}
use Rattle.iot_lang.specs.Parsing.{Fails, Part, ◌>>=◌, with_front, quoted_at, quoted_byte_at, escaped, piece_at, pieces_at, word_at}
use Rattle.iot_lang.specs.Parsing.{escape_at, quoted_from}
use Rattle.iot_lang.specs.Parsing.{plain_at, name_len, variable_at, as_quoted, if_word}
use Rattle.iot_lang.specs.declared.words.Piece.{Piece}
use Rattle.std.specs.List.{list_all, flat_map, prefix_len}
use Rattle.std.proofs.lemmas.Bool.{eqb-true}
use Rattle.std.proofs.Math.Dec.{eqb-suc-zero}
use Rattle.std.proofs.lemmas.Bool.Decides.{nat_tests}
use Rattle.std.proofs.lemmas.List.Folds.{length-prefix_len}
use Rattle.std.proofs.lemmas.List.Sums.{prefix_len-le-length}
use Rattle.iot_text.specs.Quotes.{quoted_byte}
use Rattle.iot_lang.specs.Words.{piece_text, word_text, is_variable, is_piece, is_longest, are_pieces, is_word}
use Rattle.iot_lines.proofs.FrontsLaws.{both_so, front_at, after_at, prefix_len_at, prefix_len-more, list_all-front, begins-after}
use Rattle.iot_lines.proofs.FrontsLaws.{front-append-after}
use Rattle.iot_lang.proofs.BytesLaws.{blank_not_plain, blank_not_variable, plain_no_quote, plain_no_dollar, plain_not_blank}
use Rattle.iot_lang.proofs.BytesLaws.{quoted_no_quote}
use Rattle.iot_lang.specs.declared.faults.PartFault.TheVariants as part_faults
use Rattle.iot_lang.specs.declared.words.Piece.TheVariants as pieces
use Rattle.iot_lang.specs.declared.bytes.TheConstants.{VARIABLE_LIMIT}

pub with_front-with_front : {A : Type 0} (xs ys : List A) (part : Part (List A))
    → with_front xs (with_front ys part) ≡ with_front (xs ++ ys) part
with_front-with_front xs ys None = refl
with_front-with_front xs ys (Some part) = ap (λ zs. Some (zs, part.1)) (sym (append_assoc xs ys part.0))

-- a byte of a quoted text, and what comes after it
abbrev pub next_byte : Part ℕ → Part (List ℕ)
next_byte None = None
next_byte (Some part) = with_front (part.0 ∷ []) (quoted_at part.1)

step_escape : (e : Option ℕ) (bs : List ℕ) → e >>= (λ e. with_front (e ∷ []) (quoted_at bs)) ≡ next_byte (e >>= (λ e. Some (e, bs)))
step_escape None bs = refl
step_escape (Some e) bs = refl

step_by : (quote slash plain : Bool) (b : ℕ) (bs : List ℕ) → quote ≡ false
    → cond quote (Some ([], bs)) (cond slash (quoted_from bs true) (cond plain (with_front (b ∷ []) (quoted_at bs)) None))
    ≡ next_byte (cond slash (escape_at bs) (cond plain (Some (b, bs)) None))
step_by true slash plain b bs h = absurd cc
step_by false true plain b [] h = refl
step_by false true plain b (c ∷ bs) h = step_escape (escaped c) bs
step_by false false true b bs h = refl
step_by false false false b bs h = refl

-- a quoted text that goes on is its next byte, and what comes after it
pub quoted_at-step : (b : ℕ) (bs : List ℕ) → eqb b 34 ≡ false → quoted_at (b ∷ bs) ≡ next_byte (quoted_byte_at b bs)
quoted_at-step b bs h = step_by (eqb b 34) (eqb b 92) (is_quoted_byte b) b bs h

-- one more byte has been parsed
pub quoted_more : (bytes bytes' rest after after' text : List ℕ) (b e : ℕ) → rest ≡ b ∷ after → eqb b 34 ≡ false
    → quoted_byte_at b after ≡ Some (e, after') → bytes' ≡ bytes ++ e ∷ []
    → with_front bytes (quoted_at rest) ≡ quoted_at text → with_front bytes' (quoted_at after') ≡ quoted_at text
quoted_more bytes bytes' rest after after' text b e split goes_on found push told =
    rw push
    (sym (with_front-with_front bytes (e ∷ []) (quoted_at after'))
    ∙ ap (with_front bytes) (sym (ap quoted_at split ∙ quoted_at-step b after goes_on ∙ ap next_byte found))
    ∙ told)

-- a piece, and the pieces after it
abbrev pub next_piece : ℕ → Part Piece → Part (List Piece)
next_piece k None = None
next_piece k (Some part) = with_front (part.0 ∷ []) (pieces_at k part.1)

pub pieces_at-end : (k : ℕ) (text : List ℕ) → is_end text ≡ true → pieces_at k text ≡ Some ([], text)
unfolding pieces_at
pieces_at-end zero text h = refl
pieces_at-end (suc k) text h = rw h refl

step_piece : (k : ℕ) (part : Part Piece) → part >>= (λ part. with_front (part.0 ∷ []) (pieces_at k part.1)) ≡ next_piece k part
step_piece k None = refl
step_piece k (Some part) = refl

pub pieces_at-step : (k : ℕ) (text : List ℕ) → is_end text ≡ false → pieces_at (suc k) text ≡ next_piece k (piece_at text)
unfolding pieces_at
pieces_at-step k text h = rw h (step_piece k (piece_at text))

-- so far these pieces have been parsed, of all, and the rest is left
abbrev pub ParsesOn : List Piece → List ℕ → Part (List Piece) → Type 0
ParsesOn pieces rest all = (k : ℕ) × (length rest ≤ k) × (with_front pieces (pieces_at k rest) ≡ all)

pub pieces_more : (pieces pieces' : List Piece) (rest after : List ℕ) (all : Part (List Piece)) (p : Piece) → is_end rest ≡ false
    → piece_at rest ≡ Some (p, after) → length after < length rest → pieces' ≡ pieces ++ p ∷ []
    → ParsesOn pieces rest all → ParsesOn pieces' after all
pieces_more pieces pieces' rest after all p goes_on found shorter push (zero, h, told) = absurd (omega arith)
pieces_more pieces pieces' rest after all p goes_on found shorter push (suc k, h, told) = (
  k,
  omega arith,
  rw push
      (sym (with_front-with_front pieces (p ∷ []) (pieces_at k after))
      ∙ ap (with_front pieces) (sym (pieces_at-step k rest goes_on ∙ ap (next_piece k) found))
      ∙ told),
)

-- no piece is there
pub pieces_malformed : (pieces : List Piece) (rest : List ℕ) (all : Part (List Piece)) → is_end rest ≡ false → piece_at rest ≡ None
    → ParsesOn pieces rest all → all ≡ None
pieces_malformed pieces [] all goes_on none (k, h, told) = cc
pieces_malformed pieces (b ∷ bs) all goes_on none (zero, h, told) = absurd (omega arith)
pieces_malformed pieces (b ∷ bs) all goes_on none (suc k, h, told) =
    sym told ∙ ap (with_front pieces) (pieces_at-step k (b ∷ bs) goes_on ∙ ap (next_piece k) none)

-- the pieces end
pub pieces_end : (pieces : List Piece) (rest : List ℕ) (all : Part (List Piece)) → is_end rest ≡ true → ParsesOn pieces rest all
    → all ≡ Some (pieces ++ [], rest)
pieces_end pieces rest all ends (k, h, told) = sym told ∙ ap (with_front pieces) (pieces_at-end k rest ends)

-- ---- a word's pieces, and then the word

abbrev pub pieces_of_word : List ℕ → Part (List Piece)
pieces_of_word text = pieces_at (length (without_blanks text)) (without_blanks text)

pub word_at-malformed : (text : List ℕ) → pieces_of_word text ≡ None → word_at text ≡ None
unfolding word_at
word_at-malformed text h = rw h refl

pub word_at-none : (text rest : List ℕ) (pieces : List Piece) → length pieces ≡ 0 → pieces_of_word text ≡ Some (pieces ++ [], rest)
    → word_at text ≡ None
unfolding word_at
word_at-none text rest [] n h = rw h refl
word_at-none text rest (p ∷ ps) n h = absurd (omega arith)

pub word_at-some : (text rest : List ℕ) (pieces : List Piece) → length pieces ≢ 0 → pieces_of_word text ≡ Some (pieces ++ [], rest)
    → word_at text ≡ Some (pieces, rest)
unfolding word_at
word_at-some text rest [] n h = absurd (n refl)
word_at-some text rest (p ∷ ps) n h = rw (h, append-nil ps) refl

-- a part that fails makes the whole fail
pub failed : {Y Y' : Type 0} (e : PartFault) (part : Option Y) (whole : Option Y') → (part ≡ None → whole ≡ None) → Fails e part
    → Fails e whole
failed part_faults.NoMemory part whole h g = tt
failed part_faults.Malformed part whole h g = h g

-- ---- quoted texts

-- the bytes that a quoted text may mean
abbrev pub is_quotable : ℕ → Bool
is_quotable b = is_quoted_byte b || b == 10 || b == 34 || b == 92

abbrev pub pair_of : {A B : Type 0} → A → B → Option (A × B)
pair_of a b = Some (a, b)

pub same_pair : {A B : Type 0} (a c : A) (b d : B) → pair_of a b ≡ pair_of c d → (a ≡ c) × (b ≡ d)
same_pair {A} {B} a c b d h = let e : ◌≡◌ {A = A × B} (a, b) (c, d) = cc in (ap (λ p. p.0) e, ap (λ p. p.1) e)

unfronted : {A : Type 0} (x : A) (part : Part (List A)) (xs : List A) (rest : List ℕ) → with_front (x ∷ []) part ≡ Some (xs, rest)
    → (ys : List A) × (part ≡ Some (ys, rest)) × (xs ≡ x ∷ ys)
unfronted x None xs rest h = absurd cc
unfronted x (Some (ys, more)) xs rest h = let e = same_pair (x ∷ ys) xs more rest h in (ys, rw e.1 refl, sym e.0)

pub record QuotedAt (text bytes rest : List ℕ) : Type 0 where
  pub spelled : text ≡ flat_map quoted_byte bytes ++ 34 ∷ rest
  pub quotable : list_all is_quotable bytes ≡ true

quoted_on : (front text bytes rest : List ℕ) (e : ℕ) → quoted_byte e ≡ front → is_quotable e ≡ true → QuotedAt text bytes rest
    → QuotedAt (front ++ text) (e ∷ bytes) rest
quoted_on front text bytes rest e is ok q = record {
  spelled = rw (is, q.spelled) (sym (append_assoc front (flat_map quoted_byte bytes) (34 ∷ rest)));
  quotable = both_so (is_quotable e) (list_all is_quotable bytes) ok q.quotable;
}

pub plain_quoted : (b : ℕ) → is_quoted_byte b ≡ true → quoted_byte b ≡ b ∷ []
plain_quoted b h = let k = quoted_no_quote b h in rw (k.0, k.1, k.2) refl

quotable_plain : (b : ℕ) → is_quoted_byte b ≡ true → is_quotable b ≡ true
quotable_plain b h = rw h refl

escape_is : (c e : ℕ) → escaped c ≡ Some e → (quoted_byte e ≡ 92 ∷ c ∷ []) × (is_quotable e ≡ true)
escape_is c e h = by_test (eqb c 110) (eqb c 34) (eqb c 92) refl refl refl h
  where
    by_test : (n q s : Bool) → eqb c 110 ≡ n → eqb c 34 ≡ q → eqb c 92 ≡ s → cond n (Some 10) (cond (q || s) (Some c) None) ≡ Some e
        → (quoted_byte e ≡ 92 ∷ c ∷ []) × (is_quotable e ≡ true)
    by_test true q s is_n is_q is_s h = let k : c ≡ 110 = eqb-true c 110 is_n in let f : 10 ≡ e = cc in rw (← f, k) (refl, refl)
    by_test false true s is_n is_q is_s h = let k : c ≡ 34 = eqb-true c 34 is_q in let f : c ≡ e = cc in rw (← f, k) (refl, refl)
    by_test false false true is_n is_q is_s h = let k : c ≡ 92 = eqb-true c 92 is_s in let f : c ≡ e = cc in rw (← f, k) (refl, refl)
    by_test false false false is_n is_q is_s h = absurd cc

quoted_end : (b : ℕ) (after bytes rest : List ℕ) → eqb b 34 ≡ true → pair_of [] after ≡ pair_of bytes rest → QuotedAt (b ∷ after) bytes rest
quoted_end b after bytes rest q h = let k = same_pair [] bytes after rest h in
    rw (eqb-true b 34 q, k.1, ← k.0) (record { spelled = refl; quotable = refl })

-- a quoted text, with the backslash that comes before it
abbrev with_backslash : Bool → List ℕ → List ℕ
with_backslash true text = 92 ∷ text
with_backslash false text = text

quoted_from-is : (text : List ℕ) (escape : Bool) (bytes rest : List ℕ) → quoted_from text escape ≡ Some (bytes, rest)
    → QuotedAt (with_backslash escape text) bytes rest
quoted_from-is [] escape bytes rest h = absurd cc
quoted_from-is (b ∷ bs) true bytes rest h = by_escape (escaped b) refl h (λ ys. quoted_from-is bs false ys rest)
  where
    by_escape : (e : Option ℕ) → escaped b ≡ e → e >>= (λ e. with_front (e ∷ []) (quoted_at bs)) ≡ Some (bytes, rest)
        → ((ys : List ℕ) → quoted_at bs ≡ Some (ys, rest) → QuotedAt bs ys rest) → QuotedAt (92 ∷ b ∷ bs) bytes rest
    by_escape None is h on = absurd cc
    by_escape (Some e) is h on =
        let k = unfronted e (quoted_at bs) bytes rest h in
        let esc = escape_is b e is in
        rw k.2 (quoted_on (92 ∷ b ∷ []) bs k.0 rest e esc.0 esc.1 (on k.0 k.1))
quoted_from-is (b ∷ bs) false bytes rest h =
    by_test (eqb b 34) (eqb b 92) (is_quoted_byte b) refl refl refl h (quoted_from-is bs true bytes rest)
    (λ ys. quoted_from-is bs false ys rest)
  where
    by_test : (quote slash plain : Bool) → eqb b 34 ≡ quote → eqb b 92 ≡ slash → is_quoted_byte b ≡ plain
        → cond quote (Some ([], bs)) (cond slash (quoted_from bs true) (cond plain (with_front (b ∷ []) (quoted_at bs)) None))
        ≡ Some (bytes, rest)
        → (quoted_from bs true ≡ Some (bytes, rest) → QuotedAt (92 ∷ bs) bytes rest)
        → ((ys : List ℕ) → quoted_at bs ≡ Some (ys, rest) → QuotedAt bs ys rest) → QuotedAt (b ∷ bs) bytes rest
    by_test true slash plain q s p h escape on = quoted_end b bs bytes rest q h
    by_test false true plain q s p h escape on = rw (eqb-true b 92 s) (escape h)
    by_test false false true q s p h escape on =
        let k = unfronted b (quoted_at bs) bytes rest h in
        rw k.2 (quoted_on (b ∷ []) bs k.0 rest b (plain_quoted b p) (quotable_plain b p) (on k.0 k.1))
    by_test false false false q s p h escape on = absurd cc

quoted_at-quoted_byte : (b : ℕ) (text : List ℕ) → is_quotable b ≡ true
    → quoted_at (quoted_byte b ++ text) ≡ with_front (b ∷ []) (quoted_at text)
quoted_at-quoted_byte b text h = by_test (eqb b 10) (eqb b 34) (eqb b 92) (is_quoted_byte b) refl refl refl refl h
  where
    by_test : (n q s p : Bool) → eqb b 10 ≡ n → eqb b 34 ≡ q → eqb b 92 ≡ s → is_quoted_byte b ≡ p → (p || n || q || s) ≡ true
        → quoted_at (quoted_byte b ++ text) ≡ with_front (b ∷ []) (quoted_at text)
    by_test true q s p is_n is_q is_s is_p h = let k : b ≡ 10 = eqb-true b 10 is_n in rw k refl
    by_test false true s p is_n is_q is_s is_p h = let k : b ≡ 34 = eqb-true b 34 is_q in rw k refl
    by_test false false true p is_n is_q is_s is_p h = let k : b ≡ 92 = eqb-true b 92 is_s in rw k refl
    by_test false false false true is_n is_q is_s is_p h = rw (is_n, is_q, is_s) (quoted_at-step b text is_q ∙ rw (is_p, is_s) refl)
    by_test false false false false is_n is_q is_s is_p h = absurd cc

pub quoted_at-flat_map : (bytes rest : List ℕ) → list_all is_quotable bytes ≡ true
    → quoted_at (flat_map quoted_byte bytes ++ 34 ∷ rest) ≡ Some (bytes, rest)
quoted_at-flat_map [] rest h = refl
quoted_at-flat_map (b ∷ bytes) rest h =
    ap quoted_at (append_assoc (quoted_byte b) (flat_map quoted_byte bytes) (34 ∷ rest))
    ∙ quoted_at-quoted_byte b (flat_map quoted_byte bytes ++ 34 ∷ rest) (first_so (is_quotable b) (list_all is_quotable bytes) h)
    ∙ ap (with_front (b ∷ [])) (quoted_at-flat_map bytes rest (second_so (is_quotable b) (list_all is_quotable bytes) h))

-- ---- pieces

pub record PieceAt (text : List ℕ) (p : Piece) (rest : List ℕ) : Type 0 where
  pub spelled : text ≡ piece_text p ++ rest
  pub ok : is_piece p ≡ true
  pub longest : is_longest p rest ≡ true

or_true : (b : Bool) → (b || true) ≡ true
or_true true = refl
or_true false = refl

positive : (n : ℕ) → eqb n 0 ≡ false → ltb 0 n ≡ true
positive n h = grind (arith, nat_tests)

plain_piece : (text : List ℕ) → eqb (prefix_len is_plain_byte text) 0 ≡ false
    → PieceAt text (pieces.Plain (front is_plain_byte text)) (after is_plain_byte text)
plain_piece text h = record {
  spelled = sym (front-append-after is_plain_byte text);
  ok =
      both_so (ltb 0 (length (front is_plain_byte text))) (list_all is_plain_byte (front is_plain_byte text))
      (rw length-prefix_len (positive (prefix_len is_plain_byte text) h)) (list_all-front is_plain_byte text);
  longest = rw (begins-after is_plain_byte text) refl;
}

plain_at-is : (none : Bool) (text rest : List ℕ) (p : Piece) → eqb (prefix_len is_plain_byte text) 0 ≡ none
    → cond none None (pair_of (pieces.Plain (front is_plain_byte text)) (after is_plain_byte text)) ≡ Some (p, rest) → PieceAt text p rest
plain_at-is true text rest p none h = absurd cc
plain_at-is false text rest p none h = let k = same_pair (pieces.Plain (front is_plain_byte text)) p (after is_plain_byte text) rest h in
    rw (← k.0, ← k.1) (plain_piece text none)

list_all-take : (test : ℕ → Bool) (n : ℕ) (xs : List ℕ) → list_all test xs ≡ true → list_all test (take n xs) ≡ true
list_all-take test zero xs h = refl
list_all-take test (suc n) [] h = refl
list_all-take test (suc n) (x ∷ xs) h =
    both_so (test x) (list_all test (take n xs)) (first_so (test x) (list_all test xs) h)
    (list_all-take test n xs (second_so (test x) (list_all test xs) h))

name_taken : (text : List ℕ) → length (take (name_len text) text) ≡ name_len text
name_taken text = length-take-le (name_len text) text (omega (arith, prefix_len-le-length is_variable_byte text))

name_bytes : (text : List ℕ) → list_all is_variable_byte (take (name_len text) text) ≡ true
name_bytes text =
    let h = list_all-take is_variable_byte (name_len text) (front is_variable_byte text) (list_all-front is_variable_byte text) in
    subst (λ xs. list_all is_variable_byte xs ≡ true) (take-take (name_len text) (prefix_len is_variable_byte text) text (omega arith)) h

name_longest : (text : List ℕ) → is_longest (pieces.Var (take (name_len text) text)) (drop (name_len text) text) ≡ true
name_longest text = rw (name_taken text) (by_test (leb VARIABLE_LIMIT (prefix_len is_variable_byte text)) refl)
  where
    by_test : (long : Bool) → leb VARIABLE_LIMIT (prefix_len is_variable_byte text) ≡ long
        → (eqb (name_len text) VARIABLE_LIMIT || not (begins is_variable_byte (drop (name_len text) text))) ≡ true
    by_test true h = let e : name_len text ≡ VARIABLE_LIMIT = grind (arith, nat_tests) in rw e refl
    by_test false h = let e : name_len text ≡ prefix_len is_variable_byte text = grind (arith, nat_tests) in
        rw (e, begins-after is_variable_byte text) (or_true (eqb (prefix_len is_variable_byte text) VARIABLE_LIMIT))

variable_piece : (text : List ℕ) → eqb (name_len text) 0 ≡ false
    → PieceAt (36 ∷ text) (pieces.Var (take (name_len text) text)) (drop (name_len text) text)
variable_piece text h = record {
  spelled = ap (λ xs. 36 ∷ xs) (sym (take-append-drop (name_len text) text));
  ok =
      rw (name_taken text)
      (both_so (ltb 0 (name_len text) && leb (name_len text) VARIABLE_LIMIT) (list_all is_variable_byte (take (name_len text) text))
      (both_so (ltb 0 (name_len text)) (leb (name_len text) VARIABLE_LIMIT) (positive (name_len text) h) (grind (arith, nat_tests)))
      (name_bytes text));
  longest = name_longest text;
}

variable_at-is : (none : Bool) (text rest : List ℕ) (p : Piece) → eqb (name_len text) 0 ≡ none
    → cond none None (pair_of (pieces.Var (take (name_len text) text)) (drop (name_len text) text)) ≡ Some (p, rest)
    → PieceAt (36 ∷ text) p rest
variable_at-is true text rest p none h = absurd cc
variable_at-is false text rest p none h = let k = same_pair (pieces.Var (take (name_len text) text)) p (drop (name_len text) text) rest h in
    rw (← k.0, ← k.1) (variable_piece text none)

quoted_piece : (text rest : List ℕ) (p : Piece) (part : Part (List ℕ)) → quoted_at text ≡ part → part >>= as_quoted ≡ Some (p, rest)
    → PieceAt (34 ∷ text) p rest
quoted_piece text rest p None is h = absurd cc
quoted_piece text rest p (Some (bytes, more)) is h =
    let k = same_pair (pieces.Quoted bytes) p more rest h in
    let q = quoted_from-is text false bytes more is in
    rw (← k.0, ← k.1) (record {
      spelled = ap (λ xs. 34 ∷ xs) (q.spelled ∙ sym (append_assoc (flat_map quoted_byte bytes) (34 ∷ []) more));
      ok = q.quotable;
      longest = refl;
    })

pub piece_at-is : (text rest : List ℕ) (p : Piece) → piece_at text ≡ Some (p, rest) → PieceAt text p rest
piece_at-is [] rest p h = absurd cc
piece_at-is (b ∷ bs) rest p h = by_test (eqb b 34) (eqb b 36) refl refl h
  where
    by_test : (quote dollar : Bool) → eqb b 34 ≡ quote → eqb b 36 ≡ dollar
        → cond quote (quoted_at bs >>= as_quoted) (cond dollar (variable_at bs) (plain_at (b ∷ bs))) ≡ Some (p, rest)
        → PieceAt (b ∷ bs) p rest
    by_test true dollar q d h = rw (eqb-true b 34 q) (quoted_piece bs rest p (quoted_at bs) refl h)
    by_test false true q d h = rw (eqb-true b 36 d) (variable_at-is (eqb (name_len bs) 0) bs rest p refl h)
    by_test false false q d h = plain_at-is (eqb (prefix_len is_plain_byte (b ∷ bs)) 0) (b ∷ bs) rest p refl h

not_false : (b : Bool) → not b ≡ true → b ≡ false
not_false true h = absurd cc
not_false false h = refl

last : {A : Type 0} (q d : Bool) (x y z : A) → q ≡ false → d ≡ false → cond q x (cond d y z) ≡ z
last q d x y z h k = rw (h, k) refl

plain_spelled : (bytes rest : List ℕ) → is_piece (pieces.Plain bytes) ≡ true → begins is_plain_byte rest ≡ false
    → piece_at (bytes ++ rest) ≡ Some (pieces.Plain bytes, rest)
plain_spelled [] rest ok stop = absurd cc
plain_spelled (b ∷ bs) rest ok stop =
    let all : list_all is_plain_byte (b ∷ bs) ≡ true = second_so (ltb 0 (length (b ∷ bs))) (list_all is_plain_byte (b ∷ bs)) ok in
    let plain : is_plain_byte b ≡ true = first_so (is_plain_byte b) (list_all is_plain_byte bs) all in
    let len = prefix_len_at is_plain_byte (b ∷ bs) rest all stop in
    let some : eqb (prefix_len is_plain_byte (b ∷ bs ++ rest)) 0 ≡ false = rw len (eqb-suc-zero (length bs)) in
    let found : plain_at (b ∷ bs ++ rest) ≡ Some (pieces.Plain (b ∷ bs), rest) =
    rw (some, front_at is_plain_byte (b ∷ bs) rest all stop, after_at is_plain_byte (b ∷ bs) rest all stop) refl in
    last (eqb b 34) (eqb b 36) _ _ (plain_at (b ∷ bs ++ rest)) (plain_no_quote b plain) (plain_no_dollar b plain) ∙ found

at_least : (test : ℕ → Bool) (xs ys : List ℕ) → list_all test xs ≡ true → length xs ≤ prefix_len test (xs ++ ys)
at_least test [] ys h = omega arith
at_least test (x ∷ xs) ys h =
    rw (prefix_len-more test x (xs ++ ys) (first_so (test x) (list_all test xs) h))
    (omega (arith, at_least test xs ys (second_so (test x) (list_all test xs) h)))

name_len-spelled : (name rest : List ℕ) → is_variable name ≡ true → is_longest (pieces.Var name) rest ≡ true
    → name_len (name ++ rest) ≡ length name
name_len-spelled name rest ok longest = by_test (eqb (length name) VARIABLE_LIMIT) (begins is_variable_byte rest) refl refl longest
  where
    all : list_all is_variable_byte name ≡ true
    all = second_so (ltb 0 (length name) && leb (length name) VARIABLE_LIMIT) (list_all is_variable_byte name) ok

    short : length name ≤ VARIABLE_LIMIT
    short =
        let h =
        second_so (ltb 0 (length name)) (leb (length name) VARIABLE_LIMIT)
        (first_so (ltb 0 (length name) && leb (length name) VARIABLE_LIMIT) (list_all is_variable_byte name) ok) in
        grind (arith, nat_tests)

    by_test : (full goes_on : Bool) → eqb (length name) VARIABLE_LIMIT ≡ full → begins is_variable_byte rest ≡ goes_on
        → (full || not goes_on) ≡ true → name_len (name ++ rest) ≡ length name
    by_test true goes_on f g h = let e : length name ≡ VARIABLE_LIMIT = eqb-true (length name) VARIABLE_LIMIT f in
        omega (arith, e, at_least is_variable_byte name rest all)
    by_test false false f g h = omega (arith, prefix_len_at is_variable_byte name rest all g, short)
    by_test false true f g h = absurd cc

variable_spelled : (name rest : List ℕ) → is_variable name ≡ true → is_longest (pieces.Var name) rest ≡ true
    → piece_at (36 ∷ (name ++ rest)) ≡ Some (pieces.Var name, rest)
variable_spelled [] rest ok longest = absurd cc
variable_spelled (b ∷ bs) rest ok longest =
    let len = name_len-spelled (b ∷ bs) rest ok longest in
    let some : eqb (name_len (b ∷ bs ++ rest)) 0 ≡ false = rw len (eqb-suc-zero (length bs)) in
    rw (some, take_at (b ∷ bs) rest (name_len (b ∷ bs ++ rest)) (sym len), drop_at (b ∷ bs) rest (name_len (b ∷ bs ++ rest)) (sym len)) refl

pub piece_at-spelled : (p : Piece) (rest : List ℕ) → is_piece p ≡ true → is_longest p rest ≡ true
    → piece_at (piece_text p ++ rest) ≡ Some (p, rest)
piece_at-spelled (pieces.Plain bytes) rest ok longest = plain_spelled bytes rest ok (not_false (begins is_plain_byte rest) longest)
piece_at-spelled (pieces.Var name) rest ok longest = variable_spelled name rest ok longest
piece_at-spelled (pieces.Quoted bytes) rest ok longest =
    let regroup : (flat_map quoted_byte bytes ++ 34 ∷ []) ++ rest ≡ flat_map quoted_byte bytes ++ 34 ∷ rest =
    append_assoc (flat_map quoted_byte bytes) (34 ∷ []) rest in
    ap (λ xs. quoted_at xs >>= as_quoted) regroup
    ∙ ap (λ part. part >>= as_quoted) (quoted_at-flat_map bytes rest ok)

-- ---- the pieces of a word

begins_blank : (rest : List ℕ) (test : ℕ → Bool) → ((b : ℕ) → is_blank b ≡ true → test b ≡ false) → is_end rest ≡ true
    → begins test rest ≡ false
begins_blank [] test apart h = refl
begins_blank (b ∷ bs) test apart h = apart b h

longest_before : (p : Piece) (text rest : List ℕ) → is_longest p (text ++ rest) ≡ true → is_longest p text ≡ true
longest_before (pieces.Plain bytes) [] rest h = refl
longest_before (pieces.Plain bytes) (b ∷ bs) rest h = h
longest_before (pieces.Quoted bytes) text rest h = refl
longest_before (pieces.Var name) [] rest h = or_true (eqb (length name) VARIABLE_LIMIT)
longest_before (pieces.Var name) (b ∷ bs) rest h = h

longest_after : (p : Piece) (text rest : List ℕ) → is_end rest ≡ true → is_longest p text ≡ true → is_longest p (text ++ rest) ≡ true
longest_after (pieces.Plain bytes) [] rest ends h = rw (begins_blank rest is_plain_byte blank_not_plain ends) refl
longest_after (pieces.Plain bytes) (b ∷ bs) rest ends h = h
longest_after (pieces.Quoted bytes) text rest ends h = refl
longest_after (pieces.Var name) [] rest ends h =
    rw (begins_blank rest is_variable_byte blank_not_variable ends) (or_true (eqb (length name) VARIABLE_LIMIT))
longest_after (pieces.Var name) (b ∷ bs) rest ends h = h

-- a piece begins with a byte that is no blank
starts : (p : Piece) (rest : List ℕ) → is_piece p ≡ true → is_end (piece_text p ++ rest) ≡ false
starts (pieces.Plain []) rest ok = absurd cc
starts (pieces.Plain (b ∷ bs)) rest ok =
    plain_not_blank b
    (first_so (is_plain_byte b) (list_all is_plain_byte bs) (second_so (ltb 0 (length (b ∷ bs))) (list_all is_plain_byte (b ∷ bs)) ok))
starts (pieces.Quoted bytes) rest ok = refl
starts (pieces.Var name) rest ok = refl

some_byte : (text : List ℕ) → is_end text ≡ false → 0 < length text
some_byte [] h = absurd cc
some_byte (b ∷ bs) h = omega arith

shorter : (p : Piece) (rest : List ℕ) → is_piece p ≡ true → length rest < length (piece_text p ++ rest)
shorter p rest ok =
    let h : 0 < length (piece_text p ++ []) = some_byte (piece_text p ++ []) (starts p [] ok) in
    let k : length (piece_text p ++ []) ≡ length (piece_text p) = ap length (append-nil (piece_text p)) in
    omega (arith, length-append (piece_text p) rest, h, k)

pub record PiecesAt (text : List ℕ) (ps : List Piece) (rest : List ℕ) : Type 0 where
  pub spelled : text ≡ word_text ps ++ rest
  pub ok : are_pieces ps ≡ true
  pub ends : is_end rest ≡ true

no_pieces : (text rest : List ℕ) (ps : List Piece) → is_end text ≡ true → pair_of [] text ≡ Some (ps, rest) → PiecesAt text ps rest
no_pieces text rest ps ends h = let k = same_pair [] ps text rest h in rw (← k.0, ← k.1) (record { spelled = refl; ok = refl; ends = ends })

more_pieces : (text after_ rest : List ℕ) (p : Piece) (ps : List Piece) → PieceAt text p after_ → PiecesAt after_ ps rest
    → PiecesAt text (p ∷ ps) rest
more_pieces text after_ rest p ps one all = record {
  spelled = one.spelled ∙ ap (λ xs. piece_text p ++ xs) all.spelled ∙ sym (append_assoc (piece_text p) (word_text ps) rest);
  ok =
      both_so (is_piece p && is_longest p (word_text ps)) (are_pieces ps)
      (both_so (is_piece p) (is_longest p (word_text ps)) one.ok
      (longest_before p (word_text ps) rest (subst (λ xs. is_longest p xs ≡ true) all.spelled one.longest)))
      all.ok;
  ends = all.ends;
}

next_is : (k : ℕ) (text rest : List ℕ) (ps : List Piece) (part : Part Piece) → piece_at text ≡ part → next_piece k part ≡ Some (ps, rest)
    → length text ≤ suc k
    → ((after_ : List ℕ) (qs : List Piece) → length after_ ≤ k → pieces_at k after_ ≡ Some (qs, rest) → PiecesAt after_ qs rest)
    → PiecesAt text ps rest
next_is k text rest ps None is h l go = absurd cc
next_is k text rest ps (Some (p, after_)) is h l go =
    let one = piece_at-is text after_ p is in
    let r = unfronted p (pieces_at k after_) ps rest h in
    let s : length after_ < length text = subst (λ xs. length after_ < length xs) (sym one.spelled) (shorter p after_ one.ok) in
    rw r.2 (more_pieces text after_ rest p r.0 one (go after_ r.0 (omega arith) r.1))

pieces_step : (ends : Bool) (k : ℕ) (text rest : List ℕ) (ps : List Piece) → is_end text ≡ ends → length text ≤ suc k
    → pieces_at (suc k) text ≡ Some (ps, rest)
    → ((after_ : List ℕ) (qs : List Piece) → length after_ ≤ k → pieces_at k after_ ≡ Some (qs, rest) → PiecesAt after_ qs rest)
    → PiecesAt text ps rest
pieces_step true k text rest ps ends l h go = no_pieces text rest ps ends (sym (pieces_at-end (suc k) text ends) ∙ h)
pieces_step false k text rest ps ends l h go = next_is k text rest ps (piece_at text) refl (sym (pieces_at-step k text ends) ∙ h) l go

pub pieces_at-is : (k : ℕ) (text rest : List ℕ) (ps : List Piece) → length text ≤ k → pieces_at k text ≡ Some (ps, rest)
    → PiecesAt text ps rest
pieces_at-is zero [] rest ps l h = no_pieces [] rest ps refl (sym (pieces_at-end zero [] refl) ∙ h)
pieces_at-is zero (b ∷ bs) rest ps l h = absurd (omega arith)
pieces_at-is (suc k) text rest ps l h =
    pieces_step (is_end text) k text rest ps refl l h (λ after_ qs l h. pieces_at-is k after_ rest qs l h)

pub pieces_at-spelled : (ps : List Piece) (k : ℕ) (rest : List ℕ) → are_pieces ps ≡ true → is_end rest ≡ true
    → length (word_text ps ++ rest) ≤ k → pieces_at k (word_text ps ++ rest) ≡ Some (ps, rest)
pieces_at-spelled [] k rest ok ends l = pieces_at-end k rest ends
pieces_at-spelled (p ∷ ps) zero rest ok ends l =
    let is : is_piece p ≡ true =
    first_so (is_piece p) (is_longest p (word_text ps)) (first_so (is_piece p && is_longest p (word_text ps)) (are_pieces ps) ok) in
    let regroup : (piece_text p ++ word_text ps) ++ rest ≡ piece_text p ++ (word_text ps ++ rest) =
    append_assoc (piece_text p) (word_text ps) rest in
    absurd (omega (arith, shorter p (word_text ps ++ rest) is, ap length regroup))
pieces_at-spelled (p ∷ ps) (suc k) rest ok ends l =
    let one : (is_piece p && is_longest p (word_text ps)) ≡ true =
    first_so (is_piece p && is_longest p (word_text ps)) (are_pieces ps) ok in
    let is : is_piece p ≡ true = first_so (is_piece p) (is_longest p (word_text ps)) one in
    let longest : is_longest p (word_text ps ++ rest) ≡ true =
    longest_after p (word_text ps) rest ends (second_so (is_piece p) (is_longest p (word_text ps)) one) in
    let regroup : (piece_text p ++ word_text ps) ++ rest ≡ piece_text p ++ (word_text ps ++ rest) =
    append_assoc (piece_text p) (word_text ps) rest in
    let s : length (word_text ps ++ rest) ≤ k = omega (arith, shorter p (word_text ps ++ rest) is, ap length regroup) in
    ap (pieces_at (suc k)) regroup
    ∙ pieces_at-step k (piece_text p ++ (word_text ps ++ rest)) (starts p (word_text ps ++ rest) is)
    ∙ ap (next_piece k) (piece_at-spelled p (word_text ps ++ rest) is longest)
    ∙ ap (with_front (p ∷ []))
    (pieces_at-spelled ps k rest (second_so (is_piece p && is_longest p (word_text ps)) (are_pieces ps) ok) ends s)

-- ---- words

pub record WordAt (text : List ℕ) (word : List Piece) (rest : List ℕ) : Type 0 where
  pub spelled : text ≡ front is_blank text ++ word_text word ++ rest
  pub ok : is_word word ≡ true
  pub ends : is_end rest ≡ true

pub word_at-is : (text rest : List ℕ) (word : List Piece) → word_at text ≡ Some (word, rest) → WordAt text word rest
unfolding word_at
word_at-is text rest word h = by_pieces (pieces_of_word text) refl h
  where
    by_pieces : (part : Part (List Piece)) → pieces_of_word text ≡ part → part >>= if_word ≡ Some (word, rest) → WordAt text word rest
    by_pieces None is h = absurd cc
    by_pieces (Some ([], more)) is h = absurd cc
    by_pieces (Some (p ∷ ps, more)) is h =
        let k = same_pair (p ∷ ps) word more rest h in
        let all = pieces_at-is (length (without_blanks text)) (without_blanks text) more (p ∷ ps) (omega arith) is in
        rw (← k.0, ← k.1) (record {
          spelled =
              sym (front-append-after is_blank text) ∙ ap (λ xs. front is_blank text ++ xs) all.spelled
              ∙ sym (append_assoc (front is_blank text) (word_text (p ∷ ps)) more);
          ok = all.ok;
          ends = all.ends;
        })

not_blank : (text : List ℕ) → is_end text ≡ false → begins is_blank text ≡ false
not_blank [] h = absurd cc
not_blank (b ∷ bs) h = h

pub word_at-spelled : (text blanks rest : List ℕ) (word : List Piece) → list_all is_blank blanks ≡ true
    → text ≡ blanks ++ word_text word ++ rest → is_word word ≡ true → is_end rest ≡ true → word_at text ≡ Some (word, rest)
unfolding word_at
word_at-spelled text blanks rest [] all is ok ends = absurd cc
word_at-spelled text blanks rest (p ∷ ps) all is ok ends =
    let one : is_piece p ≡ true =
    first_so (is_piece p) (is_longest p (word_text ps)) (first_so (is_piece p && is_longest p (word_text ps)) (are_pieces ps) ok) in
    let regroup : word_text (p ∷ ps) ++ rest ≡ piece_text p ++ (word_text ps ++ rest) = append_assoc (piece_text p) (word_text ps) rest in
    let stop : begins is_blank (word_text (p ∷ ps) ++ rest) ≡ false =
    rw regroup (not_blank (piece_text p ++ (word_text ps ++ rest)) (starts p (word_text ps ++ rest) one)) in
    let left : without_blanks text ≡ word_text (p ∷ ps) ++ rest = ap (without_blanks) (is ∙ append_assoc blanks (word_text (p ∷ ps)) rest)
    ∙ after_at is_blank blanks (word_text (p ∷ ps) ++ rest) all stop in
    ap (λ xs. pieces_at (length xs) xs >>= if_word) left
    ∙ ap (λ part. part >>= if_word) (pieces_at-spelled (p ∷ ps) (length (word_text (p ∷ ps) ++ rest)) rest ok ends (omega arith))
