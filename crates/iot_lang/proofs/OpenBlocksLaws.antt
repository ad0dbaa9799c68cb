-- Lines leave blocks open within a limit exactly if they begin a script within it.
use Rattle.std.proofs.Common.{◌≡◌, ◌⊎◌, inl, inr, ◌+◌, ◌<◌, ◌≤◌, ◌++◌, ℕ, suc, Bool, true, false, cond, ltb, List, [], ◌∷◌, length}
use Rattle.std.proofs.Common.{replicate, Option, Some, None, refl, sym, ap, subst, ◌∙◌, append_assoc, arith}
use Rattle.iot_lang.specs.OpenBlocks.{open_after}
use Rattle.std.proofs.lemmas.List.{append-nil}
use Rattle.std.proofs.lemmas.Bool.Decides.{nat_tests}
use Rattle.iot_lang.specs.Code.{Code, End, Plain, Halt, If, IfElse, For, script_lines, depth}
use Rattle.iot_lang.specs.declared.words.Cond.{Cond}
use Rattle.iot_lang.specs.declared.lines.Line.{Line}
use Rattle.iot_lang.specs.declared.lines.Line.TheVariants as says

-- ---- one part of the lines after another

abbrev then_lines : ℕ → Option (List Bool) → List Line → Option (List Bool)
then_lines limit None lines = None
then_lines limit (Some st) lines = open_after limit st lines

chosen : (t : Bool) (limit : ℕ) (x y : Option (List Bool)) (lines : List Line) → x ≡ then_lines limit y lines
    → cond t x None ≡ then_lines limit (cond t y None) lines
chosen true limit x y lines h = h
chosen false limit x y lines h = refl

pub open_after-append : (limit : ℕ) (st : List Bool) (xs ys : List Line)
    → open_after limit st (xs ++ ys) ≡ then_lines limit (open_after limit st xs) ys
open_after-append limit st [] ys = refl
open_after-append limit st (says.Do command ∷ xs) ys = open_after-append limit st xs ys
open_after-append limit st (says.Stop ∷ xs) ys = open_after-append limit st xs ys
open_after-append limit st (says.If condition ∷ xs) ys =
    chosen (ltb (length st) limit) limit _ _ ys (open_after-append limit (true ∷ st) xs ys)
open_after-append limit st (says.For x p ∷ xs) ys = chosen (ltb (length st) limit) limit _ _ ys (open_after-append limit (false ∷ st) xs ys)
open_after-append limit [] (says.Else ∷ xs) ys = refl
open_after-append limit (true ∷ st) (says.Else ∷ xs) ys = open_after-append limit (false ∷ st) xs ys
open_after-append limit (false ∷ st) (says.Else ∷ xs) ys = refl
open_after-append limit [] (says.Close ∷ xs) ys = refl
open_after-append limit (b ∷ st) (says.Close ∷ xs) ys = open_after-append limit st xs ys

pub through : (limit : ℕ) (st st' : List Bool) (xs ys : List Line) → open_after limit st xs ≡ Some st'
    → open_after limit st (xs ++ ys) ≡ open_after limit st' ys
through limit st st' xs ys h = open_after-append limit st xs ys ∙ ap (λ o. then_lines limit o ys) h

-- ---- whole statements leave the blocks as they were

below : (limit n : ℕ) (x : Option (List Bool)) → n < limit → cond (ltb n limit) x None ≡ x
below limit n x h = let t : ltb n limit ≡ true = grind (arith, nat_tests) in rw t refl

pub whole : (c : Code) (limit : ℕ) (st : List Bool) → length st + depth c ≤ limit → open_after limit st (script_lines c) ≡ Some st
whole End limit st h = refl
whole (Plain command rest) limit st h = whole rest limit st h
whole (Halt rest) limit st h = whole rest limit st h
whole (If condition body rest) limit st h =
    below limit (length st) _ (omega arith)
    ∙ through limit (true ∷ st) (true ∷ st) (script_lines body) (says.Close ∷ script_lines rest)
    (whole body limit (true ∷ st) (omega arith))
    ∙ whole rest limit st (omega arith)
whole (IfElse condition body other rest) limit st h =
    below limit (length st) _ (omega arith)
    ∙ ap (open_after limit (true ∷ st)) (append_assoc (script_lines body) (says.Else ∷ script_lines other) (says.Close ∷ script_lines rest))
    ∙ through limit (true ∷ st) (true ∷ st) (script_lines body) (says.Else ∷ (script_lines other ++ says.Close ∷ script_lines rest))
    (whole body limit (true ∷ st) (omega arith))
    ∙ through limit (false ∷ st) (false ∷ st) (script_lines other) (says.Close ∷ script_lines rest)
    (whole other limit (false ∷ st) (omega arith))
    ∙ whole rest limit st (omega arith)
whole (For x p body rest) limit st h =
    below limit (length st) _ (omega arith)
    ∙ through limit (false ∷ st) (false ∷ st) (script_lines body) (says.Close ∷ script_lines rest)
    (whole body limit (false ∷ st) (omega arith))
    ∙ whole rest limit st (omega arith)

-- ---- and are within the limit

room : (n limit : ℕ) (x : Option (List Bool)) (st : List Bool) → cond (ltb n limit) x None ≡ Some st → (n < limit) × (x ≡ Some st)
room n limit x st h = by_test (ltb n limit) refl h
  where
    by_test : (t : Bool) → ltb n limit ≡ t → cond t x None ≡ Some st → (n < limit) × (x ≡ Some st)
    by_test true e h = (grind (arith, nat_tests), h)
    by_test false e h = cc

pub within : (c : Code) (limit : ℕ) (st st' : List Bool) (ys : List Line) → length st ≤ limit
    → open_after limit st (script_lines c ++ ys) ≡ Some st' → length st + depth c ≤ limit
within End limit st st' ys l h = omega arith
within (Plain command rest) limit st st' ys l h = within rest limit st st' ys l h
within (Halt rest) limit st st' ys l h = within rest limit st st' ys l h
within (If condition body rest) limit st st' ys l h =
    let r = room (length st) limit _ st' h in
    let tail : List Line = says.Close ∷ (script_lines rest ++ ys) in
    let e : open_after limit (true ∷ st) (script_lines body ++ tail) ≡ Some st' =
    ap (open_after limit (true ∷ st)) (sym (append_assoc (script_lines body) (says.Close ∷ script_lines rest) ys))
    ∙ r.1 in
    let b : suc (length st) + depth body ≤ limit = within body limit (true ∷ st) st' tail (omega (arith, r.0)) e in
    let f = sym (through limit (true ∷ st) (true ∷ st) (script_lines body) tail (whole body limit (true ∷ st) b)) ∙ e in
    let t : length st + depth rest ≤ limit = within rest limit st st' ys l f in
    omega (arith, b, t)
within (IfElse condition body other rest) limit st st' ys l h =
    let r = room (length st) limit _ st' h in
    let tail : List Line = says.Close ∷ (script_lines rest ++ ys) in
    let turn : List Line = says.Else ∷ (script_lines other ++ tail) in
    let regroup : script_lines body ++ turn
    ≡ ((script_lines body ++ says.Else ∷ script_lines other) ++ says.Close ∷ script_lines rest) ++ ys = simp append_assoc in
    let e : open_after limit (true ∷ st) (script_lines body ++ turn) ≡ Some st' = ap (open_after limit (true ∷ st)) regroup ∙ r.1 in
    let b : suc (length st) + depth body ≤ limit = within body limit (true ∷ st) st' turn (omega (arith, r.0)) e in
    let f : open_after limit (false ∷ st) (script_lines other ++ tail) ≡ Some st' =
    sym (through limit (true ∷ st) (true ∷ st) (script_lines body) turn (whole body limit (true ∷ st) b))
    ∙ e in
    let o : suc (length st) + depth other ≤ limit = within other limit (false ∷ st) st' tail (omega (arith, r.0)) f in
    let g = sym (through limit (false ∷ st) (false ∷ st) (script_lines other) tail (whole other limit (false ∷ st) o)) ∙ f in
    let t : length st + depth rest ≤ limit = within rest limit st st' ys l g in
    omega (arith, b, o, t)
within (For x p body rest) limit st st' ys l h =
    let r = room (length st) limit _ st' h in
    let tail : List Line = says.Close ∷ (script_lines rest ++ ys) in
    let e : open_after limit (false ∷ st) (script_lines body ++ tail) ≡ Some st' =
    ap (open_after limit (false ∷ st)) (sym (append_assoc (script_lines body) (says.Close ∷ script_lines rest) ys))
    ∙ r.1 in
    let b : suc (length st) + depth body ≤ limit = within body limit (false ∷ st) st' tail (omega (arith, r.0)) e in
    let f = sym (through limit (false ∷ st) (false ∷ st) (script_lines body) tail (whole body limit (false ∷ st) b)) ∙ e in
    let t : length st + depth rest ≤ limit = within rest limit st st' ys l f in
    omega (arith, b, t)

-- ---- lines that leave blocks open can be completed, by closing all of them

abbrev pub closes : ℕ → List Line
closes n = replicate n says.Close

-- the lines are statements, a `}`, and what may come after it
abbrev Closing : (List Line → Type 0) → List Line → Type 0
Closing After lines = (c : Code) × (more : List Line) × (lines ≡ script_lines c ++ says.Close ∷ more) × After more

-- the lines complete a script in which these blocks are open
abbrev Completes : List Bool → List Line → Type 0
Completes [] lines = (c : Code) × (lines ≡ script_lines c)
Completes (false ∷ st) lines = Closing (λ more. Completes st more) lines
Completes (true ∷ st) lines =
    Closing (λ more. Completes st more) lines
    ⊎ ((c : Code) × (more : List Line) × (lines ≡ script_lines c ++ says.Else ∷ more) × Closing (λ more. Completes st more) more)

closing_front : (front lines : List Line) (make : Code → Code) (After : List Line → Type 0)
    → ((c : Code) → script_lines (make c) ≡ front ++ script_lines c) → Closing After lines → Closing After (front ++ lines)
closing_front front lines make After h (c, more, e, after) = (
  make c,
  more,
  ap (λ ls. front ++ ls) e ∙ sym (append_assoc front (script_lines c) (says.Close ∷ more))
      ∙ ap (λ ls. ls ++ says.Close ∷ more) (sym (h c)),
  after,
)

-- one more statement
front_of : (st : List Bool) (front lines : List Line) (make : Code → Code) → ((c : Code) → script_lines (make c) ≡ front ++ script_lines c)
    → Completes st lines → Completes st (front ++ lines)
front_of [] front lines make h (c, e) = (make c, ap (λ ls. front ++ ls) e ∙ sym (h c))
front_of (false ∷ st) front lines make h k = closing_front front lines make (λ more. Completes st more) h k
front_of (true ∷ st) front lines make h (inl k) = inl (closing_front front lines make (λ more. Completes st more) h k)
front_of (true ∷ st) front lines make h (inr (c, more, e, k)) =
    inr (
      make c,
      more,
      ap (λ ls. front ++ ls) e ∙ sym (append_assoc front (script_lines c) (says.Else ∷ more))
          ∙ ap (λ ls. ls ++ says.Else ∷ more) (sym (h c)),
      k,
    )

all_closed : (st : List Bool) → Completes st (closes (length st))
all_closed [] = (End, refl)
all_closed (false ∷ st) = (End, closes (length st), refl, all_closed st)
all_closed (true ∷ st) = inl (End, closes (length st), refl, all_closed st)

-- a block's first line, after which the block and what follows it are complete
closed_for : (st : List Bool) (lines : List Line) (line : Line) (make : Code → Code → Code)
    → ((body c : Code) → script_lines (make body c) ≡ line ∷ script_lines body ++ says.Close ∷ script_lines c)
    → Closing (λ more. Completes st more) lines → Completes st (line ∷ lines)
closed_for st lines line make h (body, more, e, after) =
    let front : List Line = line ∷ script_lines body ++ says.Close ∷ [] in
    let regroup : front ++ more ≡ line ∷ lines = ap (λ ls. line ∷ ls) (append_assoc (script_lines body) (says.Close ∷ []) more ∙ sym e) in
    let P : List Line → Type 0 = λ ls. Completes st ls in
    subst P regroup
    (front_of st front more (make body)
    (λ c. h body c ∙ ap (λ ls. line ∷ ls) (sym (append_assoc (script_lines body) (says.Close ∷ []) (script_lines c)))) after)

-- the same for an `if`, whose body may have an else block after it
closed_if : (st : List Bool) (lines : List Line) (condition : Cond) → Completes (true ∷ st) lines → Completes st (says.If condition ∷ lines)
closed_if st lines condition (inl k) = closed_for st lines (says.If condition) (λ body c. If condition body c) (λ body c. refl) k
closed_if st lines condition (inr (body, more, e, (other, more', e', after))) =
    let front : List Line = says.If condition ∷ script_lines body ++ says.Else ∷ script_lines other ++ says.Close ∷ [] in
    let first : script_lines body ++ (says.Else ∷ (script_lines other ++ says.Close ∷ more')) ≡ lines =
    ap (λ ls. script_lines body ++ says.Else ∷ ls) (sym e')
    ∙ sym e in
    let regroup : front ++ more' ≡ says.If condition ∷ lines = rw (← first) (simp append_assoc) in
    let P : List Line → Type 0 = λ ls. Completes st ls in
    subst P regroup (front_of st front more' (λ c. IfElse condition body other c) (λ c. simp append_assoc) after)

pub complete : (limit : ℕ) (st st' : List Bool) (xs : List Line) → open_after limit st xs ≡ Some st'
    → Completes st (xs ++ closes (length st'))
complete limit st st' [] h = let e : st ≡ st' = cc in rw (← e) (all_closed st)
complete limit st st' (says.Do command ∷ xs) h =
    front_of st (says.Do command ∷ []) (xs ++ closes (length st')) (λ c. Plain command c) (λ c. refl) (complete limit st st' xs h)
complete limit st st' (says.Stop ∷ xs) h =
    front_of st (says.Stop ∷ []) (xs ++ closes (length st')) Halt (λ c. refl) (complete limit st st' xs h)
complete limit st st' (says.If condition ∷ xs) h =
    closed_if st (xs ++ closes (length st')) condition (complete limit (true ∷ st) st' xs (room (length st) limit _ st' h).1)
complete limit st st' (says.For x p ∷ xs) h =
    closed_for st (xs ++ closes (length st')) (says.For x p) (λ body c. For x p body c) (λ body c. refl)
    (complete limit (false ∷ st) st' xs (room (length st) limit _ st' h).1)
complete limit [] st' (says.Else ∷ xs) h = absurd cc
complete limit (false ∷ st) st' (says.Else ∷ xs) h = absurd cc
complete limit (true ∷ st) st' (says.Else ∷ xs) h = inr (End, xs ++ closes (length st'), refl, complete limit (false ∷ st) st' xs h)
complete limit [] st' (says.Close ∷ xs) h = absurd cc
complete limit (false ∷ st) st' (says.Close ∷ xs) h = (End, xs ++ closes (length st'), refl, complete limit st st' xs h)
complete limit (true ∷ st) st' (says.Close ∷ xs) h = inl (End, xs ++ closes (length st'), refl, complete limit st st' xs h)

pub open_after-closes : (limit : ℕ) (st : List Bool) → open_after limit st (closes (length st)) ≡ Some []
open_after-closes limit [] = refl
open_after-closes limit (b ∷ st) = open_after-closes limit st

-- ---- the law

-- the lines, and a `}` for each block that they leave open, are those of a script within the limit
pub record Completed (limit : ℕ) (lines : List Line) (st : List Bool) : Type 0 where
  pub script : Code
  pub deep : depth script ≤ limit
  pub whole_lines : lines ++ closes (length st) ≡ script_lines script

pub completed : (limit : ℕ) (st : List Bool) (lines : List Line) → open_after limit [] lines ≡ Some st → Completed limit lines st
completed limit st lines h =
    let k = complete limit [] st lines h in
    let e : open_after limit [] (script_lines k.0 ++ []) ≡ Some [] =
    rw (append-nil, ← k.1) (through limit [] st lines (closes (length st)) h ∙ open_after-closes limit st) in
    let d : 0 + depth k.0 ≤ limit = within k.0 limit [] [] [] (omega arith) e in
    record { script = k.0; deep = omega (arith, d); whole_lines = k.1 }

-- lines that are not allowed begin no script within the limit
pub not_begun : (limit : ℕ) (lines more : List Line) (script : Code) → open_after limit [] lines ≡ None → depth script ≤ limit
    → lines ++ more ≡ script_lines script → ⊥
not_begun limit lines more script none deep e =
    let all : open_after limit [] (script_lines script) ≡ Some [] = whole script limit [] (omega arith) in
    let cut : open_after limit [] (lines ++ more) ≡ None = open_after-append limit [] lines more ∙ ap (λ o. then_lines limit o more) none in
    let same : open_after limit [] (script_lines script) ≡ None = ap (open_after limit []) (sym e) ∙ cut in
    cc

-- lines that leave blocks open are no whole script
pub not_whole : (limit : ℕ) (script : Code) (b : Bool) (st : List Bool) → open_after limit [] (script_lines script) ≡ Some (b ∷ st)
    → depth script ≤ limit → ⊥
not_whole limit script b st h deep =
    let all : open_after limit [] (script_lines script) ≡ Some [] = whole script limit [] (omega arith) in
    cc

-- a higher limit changes nothing
pub raised : (limit : ℕ) (st st' : List Bool) (lines : List Line) → open_after limit st lines ≡ Some st'
    → open_after (suc limit) st lines ≡ Some st'
raised limit st st' [] h = h
raised limit st st' (says.Do command ∷ lines) h = raised limit st st' lines h
raised limit st st' (says.Stop ∷ lines) h = raised limit st st' lines h
raised limit st st' (says.If condition ∷ lines) h =
    let r = room (length st) limit _ st' h in
    below (suc limit) (length st) _ (omega (arith, r.0)) ∙ raised limit (true ∷ st) st' lines r.1
raised limit st st' (says.For x p ∷ lines) h =
    let r = room (length st) limit _ st' h in
    below (suc limit) (length st) _ (omega (arith, r.0)) ∙ raised limit (false ∷ st) st' lines r.1
raised limit [] st' (says.Else ∷ lines) h = absurd cc
raised limit (true ∷ st) st' (says.Else ∷ lines) h = raised limit (false ∷ st) st' lines h
raised limit (false ∷ st) st' (says.Else ∷ lines) h = absurd cc
raised limit [] st' (says.Close ∷ lines) h = absurd cc
raised limit (b ∷ st) st' (says.Close ∷ lines) h = raised limit st st' lines h

-- no more blocks are open than the limit
pub shallow : (limit : ℕ) (st st' : List Bool) (lines : List Line) → length st ≤ limit → open_after limit st lines ≡ Some st'
    → length st' ≤ limit
shallow limit st st' [] l h = let e : st ≡ st' = cc in rw (← e) l
shallow limit st st' (says.Do command ∷ lines) l h = shallow limit st st' lines l h
shallow limit st st' (says.Stop ∷ lines) l h = shallow limit st st' lines l h
shallow limit st st' (says.If condition ∷ lines) l h =
    let r = room (length st) limit _ st' h in
    shallow limit (true ∷ st) st' lines (omega (arith, r.0)) r.1
shallow limit st st' (says.For x p ∷ lines) l h =
    let r = room (length st) limit _ st' h in
    shallow limit (false ∷ st) st' lines (omega (arith, r.0)) r.1
shallow limit [] st' (says.Else ∷ lines) l h = absurd cc
shallow limit (true ∷ st) st' (says.Else ∷ lines) l h = shallow limit (false ∷ st) st' lines l h
shallow limit (false ∷ st) st' (says.Else ∷ lines) l h = absurd cc
shallow limit [] st' (says.Close ∷ lines) l h = absurd cc
shallow limit (b ∷ st) st' (says.Close ∷ lines) l h = shallow limit st st' lines (omega arith) h
