-- What a word is, and how it is written.
use Rattle.std.specs.Prelude.{ℕ, Bool, true, false, ◌&&◌, ◌||◌, not, ◌==◌, nat_lt, nat_le, List, [], ◌∷◌, length}
use Rattle.std.specs.List.{list_all, flat_map}
use Rattle.iot_lines.specs.Fronts.{begins}
use Rattle.iot_text.specs.Quotes.{quoted}
use Rattle.iot_lang.specs.declared.bytes.TheConstants.{VARIABLE_LIMIT}
use Rattle.iot_lang.specs.Bytes.{is_plain_byte, is_variable_byte, is_quoted_byte}
use Rattle.iot_lang.specs.declared.words.Piece.{Piece}
use Rattle.iot_lang.specs.declared.words.Piece.TheVariants as pieces

-- how a piece is written
abbrev pub piece_text : Piece → List ℕ
piece_text (pieces.Plain bytes) = bytes
piece_text (pieces.Quoted bytes) = quoted bytes
piece_text (pieces.Var name) = 36 ∷ name

-- a word is written as its pieces side by side
abbrev pub word_text : List Piece → List ℕ
word_text ps = flat_map piece_text ps

-- a variable's name: 1 to 32 letters, digits and `_`
abbrev pub is_variable : List ℕ → Bool
is_variable name = nat_lt 0 (length name) && nat_le (length name) VARIABLE_LIMIT && list_all is_variable_byte name

-- whether a piece has bytes of its own sort
abbrev pub is_piece : Piece → Bool
is_piece (pieces.Plain bytes) = nat_lt 0 (length bytes) && list_all is_plain_byte bytes
is_piece (pieces.Quoted bytes) = list_all (λ b. is_quoted_byte b || b == 10 || b == 34 || b == 92) bytes
is_piece (pieces.Var name) = is_variable name

-- whether a piece is longest before this text: the text's first byte could not belong to it
abbrev pub is_longest : Piece → List ℕ → Bool
is_longest (pieces.Plain bytes) later = not (begins is_plain_byte later)
is_longest (pieces.Quoted bytes) later = true
is_longest (pieces.Var name) later = length name == VARIABLE_LIMIT || not (begins is_variable_byte later)

-- whether each is a piece, and longest before the pieces after it
abbrev pub are_pieces : List Piece → Bool
are_pieces [] = true
are_pieces (p ∷ ps) = is_piece p && is_longest p (word_text ps) && are_pieces ps

-- whether this is a word: one or more pieces
abbrev pub is_word : List Piece → Bool
is_word [] = false
is_word (p ∷ ps) = are_pieces (p ∷ ps)
