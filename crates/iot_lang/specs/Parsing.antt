-- How a line is parsed: from its front on, each part with what comes after it, or nothing if the part is malformed.
use Rattle.std.specs.Prelude.{ℕ, Bool, true, false, zero, suc, ◌≡◌, ◌||◌, ◌==◌, min, List, [], ◌∷◌, ◌++◌, length, take, drop, Option, None}
use Rattle.std.specs.Prelude.{Some}
use Rattle.std.specs.Prelude.{if◌then◌else◌, Result, Ok, Err}
use Rattle.std.specs.List.{prefix_len}
use Rattle.iot_lines.specs.Fronts.{front, after}
use Rattle.iot_lines.specs.Words.{without_blanks}
use Rattle.iot_lang.specs.Bytes.{is_plain_byte, is_variable_byte, is_quoted_byte}
use Rattle.iot_lang.specs.Lines.{is_end}
use Rattle.iot_lang.specs.declared.bytes.TheConstants.{VARIABLE_LIMIT}
use Rattle.iot_lang.specs.declared.faults.PartFault.{PartFault}
use Rattle.iot_lang.specs.declared.faults.PartFault.TheVariants as part_faults
use Rattle.iot_lang.specs.declared.words.Piece.{Piece}
use Rattle.iot_lang.specs.declared.words.Piece.TheVariants as pieces

infixl 10 ◌>>=◌
abbrev pub ◌>>=◌ : {A B : Type 0} → Option A → (A → Option B) → Option B
None >>= f = None
(Some x) >>= f = f x

-- a fault says that parsing gives nothing, unless memory ran out
abbrev pub Fails : {Y : Type 0} → PartFault → Option Y → Type 0
Fails part_faults.NoMemory parsed = Unit {0}
Fails part_faults.Malformed parsed = parsed ≡ None

-- what a function returned, seen by view, is what was parsed, unless memory ran out
abbrev pub Parses : {X Y : Type 0} → (X → Y) → Result X PartFault → Option Y → Type 0
Parses view (Ok x) parsed = parsed ≡ Some (view x)
Parses view (Err fault) parsed = Fails fault parsed

-- a part that was parsed, and what comes after it
abbrev pub Part : Type 0 → Type 0
Part A = Option (A × List ℕ)

-- what was parsed, after what was parsed before it
abbrev pub with_front : {A : Type 0} → List A → Part (List A) → Part (List A)
with_front before None = None
with_front before (Some part) = Some (before ++ part.0, part.1)

-- ---- words

-- what the byte after a backslash means
abbrev pub escaped : ℕ → Option ℕ
escaped b = if b == 110 then Some 10 else (if b == 34 || b == 92 then Some b else None)

-- what an escape means, after its backslash
abbrev pub escape_at : List ℕ → Part ℕ
escape_at [] = None
escape_at (b ∷ bs) = escaped b >>= (λ e. Some (e, bs))

-- one byte of a quoted text that doesn't end there
abbrev pub quoted_byte_at : ℕ → List ℕ → Part ℕ
quoted_byte_at b bs = if b == 92 then escape_at bs else (if is_quoted_byte b then Some (b, bs) else None)

-- a quoted text, after its first quote; whether a backslash comes before it
abbrev pub quoted_from : List ℕ → Bool → Part (List ℕ)
quoted_from [] escape = None
quoted_from (b ∷ bs) true = escaped b >>= (λ e. with_front (e ∷ []) (quoted_from bs false))
quoted_from (b ∷ bs) false =
    if b == 34 then Some ([], bs)
    else (if b == 92 then quoted_from bs true
    else (if is_quoted_byte b then with_front (b ∷ []) (quoted_from bs false) else None))

abbrev pub quoted_at : List ℕ → Part (List ℕ)
quoted_at text = quoted_from text false

abbrev pub plain_at : List ℕ → Part Piece
plain_at text =
    if prefix_len is_plain_byte text == 0 then None else Some (pieces.Plain (front is_plain_byte text), after is_plain_byte text)

-- how long the longest variable's name is that the text begins with
abbrev pub name_len : List ℕ → ℕ
name_len text = min (prefix_len is_variable_byte text) VARIABLE_LIMIT

abbrev pub variable_at : List ℕ → Part Piece
variable_at text = if name_len text == 0 then None else Some (pieces.Var (take (name_len text) text), drop (name_len text) text)

abbrev pub as_quoted : List ℕ × List ℕ → Part Piece
as_quoted part = Some (pieces.Quoted part.0, part.1)

abbrev pub piece_at : List ℕ → Part Piece
piece_at [] = None
piece_at (b ∷ bs) = if b == 34 then quoted_at bs >>= as_quoted else (if b == 36 then variable_at bs else plain_at (b ∷ bs))

-- the pieces up to a blank or the end, at most so many
unfoldable pub pieces_at : ℕ → List ℕ → Part (List Piece)
pieces_at zero text = Some ([], text)
pieces_at (suc k) text = if is_end text then Some ([], text) else piece_at text >>= (λ part. with_front (part.0 ∷ []) (pieces_at k part.1))

abbrev pub if_word : List Piece × List ℕ → Part (List Piece)
if_word ([], rest) = None
if_word (p ∷ ps, rest) = Some (p ∷ ps, rest)

-- a word, after blanks
unfoldable pub word_at : List ℕ → Part (List Piece)
word_at text = pieces_at (length (without_blanks text)) (without_blanks text) >>= if_word
