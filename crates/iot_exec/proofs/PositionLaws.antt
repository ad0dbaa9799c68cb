-- Positions, block by block.
use Rattle.std.proofs.Common.{◌≡◌, ℕ, zero, suc, ◌+◌, ◌<◌, ◌≤◌, ◌==◌, false, subst, List, [], ◌∷◌, ◌++◌, Some, None, length, drop, get_or}
use Rattle.std.proofs.Common.{refl, sym, ap, ◌∙◌, add-one, length-drop, drop-cons, arith}
use Rattle.std.proofs.lemmas.List.{nil_from_length}
use Rattle.iot_lang.specs.Code.{Code, End}
use Rattle.iot_lang.specs.Blocks.{with_statement, code_of_statements}
use Rattle.iot_lang.specs.declared.blocks.Stmt.{Stmt}
use Rattle.iot_lang.specs.declared.blocks.Stmt.TheVariants as statements
use Rattle.iot_exec.specs.Places.{Frame, Rest, reached}
use Rattle.iot_exec.specs.declared.env.Env.{Env}
use Rattle.iot_exec.specs.Positions.{rest_of, skip, block_in, rest_in, round_it, left_in, left_round, left_around, open_weight}
use Rattle.iot_exec.specs.Positions.{role_weight, place_at}
use Rattle.iot_exec.specs.declared.position.Role.{Role}
use Rattle.iot_exec.specs.declared.position.Open.{Open}

pub rest_of_statement : (s : Stmt) (rest : Code) → rest_of (with_statement s rest) ≡ rest
rest_of_statement (statements.Do command) rest = refl
rest_of_statement statements.Stop rest = refl
rest_of_statement (statements.If condition body None) rest = refl
rest_of_statement (statements.If condition body (Some other)) rest = refl
rest_of_statement (statements.For variable path body) rest = refl

nothing_left : (at : ℕ) → skip at End ≡ End
nothing_left zero = refl
nothing_left (suc at) = nothing_left at

-- statements from a place on
pub skipped : (ss : List Stmt) (at : ℕ) → code_of_statements (drop at ss) ≡ skip at (code_of_statements ss)
skipped ss zero = refl
skipped [] (suc at) = sym (nothing_left at)
skipped (s ∷ ss) (suc at) = skipped ss at ∙ ap (skip at) (sym (rest_of_statement s (code_of_statements ss)))

pub drop_past : {A : Type 0} (xs : List A) (i : ℕ) → length xs ≤ i → drop i xs ≡ []
drop_past xs i over = nil_from_length (drop i xs) (omega (arith, length-drop i xs))

-- after the last statement
pub skipped_all : (ss : List Stmt) (at : ℕ) → length ss ≤ at → skip at (code_of_statements ss) ≡ End
skipped_all ss at over = sym (skipped ss at) ∙ ap code_of_statements (drop_past ss at over)

-- one statement further
pub skip_more : (at : ℕ) (code : Code) → skip (at + 1) code ≡ rest_of (skip at code)
skip_more zero code = refl
skip_more (suc at) code =
    let more : suc at + 1 ≡ suc (at + 1) = omega arith in
    ap (λ at. skip at code) more ∙ skip_more at (rest_of code)

-- ---- the innermost block

pub left_in_last : (script : Code) (outer : List Open) (opened : Open) (code : Code)
    → left_in script (outer ++ opened ∷ []) code ≡ rest_in script (left_in script outer code) opened
left_in_last script [] opened code = refl
left_in_last script (first ∷ outer) opened code = left_in_last script outer opened (rest_in script code first)

pub left_round_last : (script : Code) (outer : List Open) (opened : Open) (code : Code) (frames : List Frame)
    → left_round script (outer ++ opened ∷ []) code frames
    ≡ round_it (left_in script outer code) opened.role ++ left_round script outer code frames
left_round_last script [] opened code frames = refl
left_round_last script (first ∷ outer) opened code frames =
    left_round_last script outer opened (rest_in script code first) (round_it code first.role ++ frames)

pub open_weight_last : (outer : List Open) (opened : Open)
    → open_weight (outer ++ opened ∷ []) ≡ open_weight outer + role_weight opened.role
open_weight_last [] opened = omega arith
open_weight_last (first ∷ outer) opened = omega (arith, open_weight_last outer opened)

-- ---- a position is the blocks round it and the innermost one

pub around_is : (script : Code) (first : Open) (outer : List Open) (opened : Open)
    → left_around script (first ∷ (outer ++ opened ∷ []))
    ≡ round_it (left_in script (first ∷ outer) End) opened.role ++ left_around script (first ∷ outer)
around_is script first outer opened = left_round_last script outer opened (rest_in script End first) []

module _ (script : Code) (outer : List Open) where
  pub here_is : (opened : Open)
      → left_in script (outer ++ opened ∷ []) End ≡ skip opened.at (block_in script (left_in script outer End) opened.role)
  here_is opened = left_in_last script outer opened End

  pub advanced_here : (role : Role) (at : ℕ)
      → left_in script (outer ++ record { role = role; at = at + 1 } ∷ []) End
      ≡ rest_of (left_in script (outer ++ record { role = role; at = at } ∷ []) End)
  advanced_here role at =
      here_is (record { role = role; at = at + 1 })
      ∙ skip_more at (block_in script (left_in script outer End) role)
      ∙ ap rest_of (sym (here_is (record { role = role; at = at })))

  -- after the last statement
  pub past_here : (role : Role) (at : ℕ) (ss : List Stmt) → code_of_statements ss ≡ block_in script (left_in script outer End) role
      → length ss ≤ at → left_in script (outer ++ record { role = role; at = at } ∷ []) End ≡ End
  past_here role at ss is over = here_is (record { role = role; at = at }) ∙ ap (skip at) (sym is) ∙ skipped_all ss at over

pub same_around : (script : Code) (outer : List Open) (role : Role) (at more : ℕ)
    → left_around script (outer ++ record { role = role; at = more } ∷ [])
    ≡ left_around script (outer ++ record { role = role; at = at } ∷ [])
same_around script [] role at more = refl
same_around script (first ∷ outer) role at more =
    around_is script first outer (record { role = role; at = more }) ∙ sym (around_is script first outer (record { role = role; at = at }))

pub same_weight : (outer : List Open) (role : Role) (at more : ℕ)
    → open_weight (outer ++ record { role = role; at = more } ∷ []) ≡ open_weight (outer ++ record { role = role; at = at } ∷ [])
same_weight outer role at more =
    open_weight_last outer (record { role = role; at = more }) ∙ sym (open_weight_last outer (record { role = role; at = at }))

-- a block is entered: the old position is all round it
module _ (items all : List Open) (opened : Open) (role : Role) (is : items ≡ all) (new : opened ≡ record { role = role; at = 0 }) where
  pub entered_here : (script : Code) → left_in script (items ++ opened ∷ []) End ≡ block_in script (left_in script all End) role
  entered_here script =
      here_is script items opened
      ∙ ap (λ (opened : Open). rest_in script (left_in script items End) opened) new
      ∙ ap (λ (items : List Open). block_in script (left_in script items End) role) is

  pub entered_weight : open_weight (items ++ opened ∷ []) ≡ open_weight all + role_weight role
  entered_weight =
      open_weight_last items opened
      ∙ ap (λ (opened : Open). open_weight items + role_weight opened.role) new
      ∙ ap (λ (items : List Open). open_weight items + role_weight role) is

grown : (script : Code) (outer : List Open) (old opened : Open)
    → left_around script ((outer ++ old ∷ []) ++ opened ∷ [])
    ≡ round_it (left_in script (outer ++ old ∷ []) End) opened.role ++ left_around script (outer ++ old ∷ [])
grown script [] old opened = around_is script old [] opened
grown script (first ∷ outer) old opened = around_is script first (outer ++ old ∷ []) opened

pub entered_around : (script : Code) (items outer : List Open) (old opened : Open) (role : Role) → items ≡ outer ++ old ∷ []
    → opened ≡ record { role = role; at = 0 }
    → left_around script (items ++ opened ∷ [])
    ≡ round_it (left_in script (outer ++ old ∷ []) End) role ++ left_around script (outer ++ old ∷ [])
entered_around script items outer old opened role is new =
    ap (λ (items : List Open). left_around script (items ++ opened ∷ [])) is
    ∙ grown script outer old opened
    ∙ ap (λ (opened : Open). round_it (left_in script (outer ++ old ∷ []) End) opened.role ++ left_around script (outer ++ old ∷ [])) new

-- a block is left: what was round it is the new position
module _ (all : List Open) (new opened : Open) (items : List Open) (is : all ≡ items ++ new ∷ []) where
  pub left_around_is : (script : Code)
      → left_around script (all ++ opened ∷ [])
      ≡ round_it (left_in script (items ++ new ∷ []) End) opened.role ++ left_around script (items ++ new ∷ [])
  left_around_is script = ap (λ (all : List Open). left_around script (all ++ opened ∷ [])) is ∙ grown script items new opened

  pub left_weight_is : open_weight (all ++ opened ∷ []) ≡ open_weight (items ++ new ∷ []) + role_weight opened.role
  left_weight_is = ap (λ (all : List Open). open_weight (all ++ opened ∷ [])) is ∙ open_weight_last (items ++ new ∷ []) opened

-- if a statement is left, nothing is to be passed over
reached_at : (s : Stmt) (rest : Code) (frames : List Frame) (env : Env)
    → place_at (with_statement s rest) frames env ≡ reached (Rest (with_statement s rest) ∷ frames) env
reached_at (statements.Do command) rest frames env = refl
reached_at statements.Stop rest frames env = refl
reached_at (statements.If condition body None) rest frames env = refl
reached_at (statements.If condition body (Some other)) rest frames env = refl
reached_at (statements.For variable path body) rest frames env = refl

pub is_reached : (ss : List Stmt) (code : Code) (frames : List Frame) (env : Env) → (length ss == 0) ≡ false → code_of_statements ss ≡ code
    → place_at code frames env ≡ reached (Rest code ∷ frames) env
is_reached [] code frames env some is = absurd cc
is_reached (s ∷ ss) code frames env some is =
    subst (λ (code : Code). place_at code frames env ≡ reached (Rest code ∷ frames) env) is
    (reached_at s (code_of_statements ss) frames env)
