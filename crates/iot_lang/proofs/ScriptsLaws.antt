-- Texts, the lines that they spell, and the scripts that they begin.
use Rattle.std.proofs.Common.{◌≡◌, ◌⊎◌, inl, inr, ◌+◌, ◌<◌, ◌≤◌, ◌++◌, ℕ, zero, suc, Bool, true, false, not, List, [], ◌∷◌, length, take}
use Rattle.std.proofs.Common.{drop, replicate, Option, Some, None, refl, sym, ap, subst, ⊎_elim, ◌∙◌, append_assoc, arith, codes, add-one}
use Rattle.std.proofs.Common.{Result, Ok, Err, IfOk, IfErr}
use Rattle.iot_lang.specs.OpenBlocks.{open_after, opens_block}
use Rattle.iot_lines.specs.Words.{is_skipped}
use Rattle.std.specs.List.{list_all}
use Rattle.std.proofs.lemmas.List.{append-nil, take-append-drop, take-take, drop-drop, length-take-le}
use Rattle.std.proofs.lemmas.List.Elements.{filter-append}
use Rattle.iot_lang.specs.Lines.{SpellsLine, is_line}
use Rattle.iot_lang.specs.Code.{Code, script_lines, depth, same_code}
use Rattle.iot_lang.specs.Scripts.{SpellEach, said, SpellWithin, Spell, BeginWithin, Begin, IsFirstBad, IsTooDeep, IsBadStatement, IsOpen}
use Rattle.iot_lang.specs.Statements.{line_of, said_by, if_said}
use Rattle.iot_lang.specs.Parsing.{Fails}
use Rattle.iot_lang.specs.Faults.{HasFault, UnlessMemory, fault_at, line_fault}
use Rattle.iot_lang.specs.declared.faults.LangFault.{LangFault}
use Rattle.iot_lang.specs.declared.faults.LangFault.TheVariants as faults
use Rattle.iot_lang.specs.declared.faults.LineFault.{LineFault}
use Rattle.iot_lang.specs.declared.faults.LineFault.TheVariants as line_faults
use Rattle.iot_lang.specs.declared.faults.PartFault.{PartFault}
use Rattle.iot_lang.specs.declared.faults.PartFault.TheVariants as part_faults
use Rattle.iot_lang.specs.declared.lines.Line.{Line}
use Rattle.iot_lang.specs.declared.lines.Line.TheVariants as says
use Rattle.iot_lines.proofs.FrontsLaws.{both_so}
use Rattle.iot_lang.proofs.StatementsLaws.{line_of-is, line_of-spelled}
use Rattle.iot_lang.proofs.OpenBlocksLaws.{closes, completed, not_begun, not_whole, raised, shallow, through, within}
use Rattle.iot_lang.specs.declared.nesting.TheConstants.{DEPTH_LIMIT}

-- ---- texts, one after another

pub said-append : (xs ys : List (List ℕ)) → said (xs ++ ys) ≡ said xs ++ said ys
said-append xs ys = filter-append (λ text. not (is_skipped text)) xs ys

pub spell_append : (xs ys : List (List ℕ)) (v w : List Line) → SpellEach xs v → SpellEach ys w → SpellEach (xs ++ ys) (v ++ w)
spell_append [] ys [] w h k = k
spell_append [] ys (l ∷ v) w h k = absurd h
spell_append (x ∷ xs) ys [] w h k = absurd h
spell_append (x ∷ xs) ys (l ∷ v) w h k = (h.0, spell_append xs ys v w h.1 k)

pub record Split (xs ys : List (List ℕ)) (lines : List Line) : Type 0 where
  pub front : List Line
  pub rest : List Line
  pub whole_ : lines ≡ front ++ rest
  pub front_spelled : SpellEach xs front
  pub rest_spelled : SpellEach ys rest

pub spell_split : (xs ys : List (List ℕ)) (lines : List Line) → SpellEach (xs ++ ys) lines → Split xs ys lines
spell_split [] ys lines h = record { front = []; rest = lines; whole_ = refl; front_spelled = tt; rest_spelled = h }
spell_split (x ∷ xs) ys [] h = absurd h
spell_split (x ∷ xs) ys (l ∷ lines) h =
    let s = spell_split xs ys lines h.1 in
    record {
      front = l ∷ s.front;
      rest = s.rest;
      whole_ = ap (λ ls. l ∷ ls) s.whole_;
      front_spelled = (h.0, s.front_spelled);
      rest_spelled = s.rest_spelled;
    }

pub spell_same : (xs : List (List ℕ)) (v w : List Line) → SpellEach xs v → SpellEach xs w → v ≡ w
spell_same [] [] [] h k = refl
spell_same [] [] (l ∷ w) h k = absurd k
spell_same [] (l ∷ v) w h k = absurd h
spell_same (x ∷ xs) [] w h k = absurd h
spell_same (x ∷ xs) (l ∷ v) [] h k = absurd k
spell_same (x ∷ xs) (l ∷ v) (m ∷ w) h k =
    let a = line_of-spelled x l h.0 in
    let b = line_of-spelled x m k.0 in
    let e : l ≡ m = cc in
    rw (e, spell_same xs v w h.1 k.1) refl

pub spelled_lines : (xs : List (List ℕ)) (v : List Line) → SpellEach xs v → list_all is_line v ≡ true
spelled_lines [] [] h = refl
spelled_lines [] (l ∷ v) h = absurd h
spelled_lines (x ∷ xs) [] h = absurd h
spelled_lines (x ∷ xs) (l ∷ v) h = both_so (is_line l) (list_all is_line v) h.0.0 (spelled_lines xs v h.1)

-- ---- lines that leave blocks open begin a script

brace_closes : SpellsLine (codes "}") says.Close
brace_closes = (refl, ([], [], refl, refl, refl, refl))

closes_spelled : (n : ℕ) → SpellEach (said (replicate n (codes "}"))) (closes n)
closes_spelled zero = tt
closes_spelled (suc n) = (brace_closes, closes_spelled n)

pub begins_script : (limit : ℕ) (st : List Bool) (texts : List (List ℕ)) (v : List Line) → SpellEach (said texts) v
    → open_after limit [] v ≡ Some st → BeginWithin limit texts
begins_script limit st texts v h open_ =
    let c = completed limit st v open_ in
    let more : List (List ℕ) = replicate (length st) (codes "}") in
    let all : SpellEach (said texts ++ said more) (v ++ closes (length st)) =
    spell_append (said texts) (said more) v (closes (length st)) h (closes_spelled (length st)) in
    (more, c.script, record { deep = c.deep; spelled = rw (said-append texts more, ← c.whole_lines) all })

pub begins_none : (limit : ℕ) (texts : List (List ℕ)) (v : List Line) → SpellEach (said texts) v → open_after limit [] v ≡ None
    → BeginWithin limit texts → ⊥
begins_none limit texts v h none (more, script, spelled) =
    let s =
    spell_split (said texts) (said more) (script_lines script)
    (subst (λ ts. SpellEach ts (script_lines script)) (said-append texts more) spelled.spelled) in
    let same : v ≡ s.front = spell_same (said texts) v s.front h s.front_spelled in
    not_begun limit v s.rest script none spelled.deep (ap (λ ls. ls ++ s.rest) same ∙ sym s.whole_)

-- ---- a part of a beginning is one too

pub begins_part : (limit : ℕ) (xs ys : List (List ℕ)) → BeginWithin limit (xs ++ ys) → BeginWithin limit xs
begins_part limit xs ys (more, script, spelled) = (
  ys ++ more,
  script,
  record {
    deep = spelled.deep;
    spelled = subst (λ ts. SpellEach (said ts) (script_lines script)) (append_assoc xs ys more) spelled.spelled;
  },
)

pub begins_whole : (limit : ℕ) (texts : List (List ℕ)) (script : Code) → SpellWithin limit texts script → BeginWithin limit texts
begins_whole limit texts script spelled = ([], script, record { deep = spelled.deep; spelled = rw (append-nil texts) spelled.spelled })

pub begins_take : (n : ℕ) (texts : List (List ℕ)) → Begin texts → Begin (take n texts)
begins_take n texts h = begins_part DEPTH_LIMIT (take n texts) (drop n texts) (rw (take-append-drop n texts) h)

pub begins_more : (texts : List (List ℕ)) → Begin texts → BeginWithin (DEPTH_LIMIT + 1) texts
begins_more texts (more, script, spelled) = (more, script, record { deep = omega (arith, spelled.deep); spelled = spelled.spelled })

-- ---- the answers exclude one another

-- a script's lines have no first bad one
pub not_bad : (n : ℕ) (texts : List (List ℕ)) → Begin texts → IsFirstBad texts n → ⊥
not_bad n texts begin bad = bad.bad (begins_take (n + 1) texts begin)

earlier : (n m : ℕ) (texts : List (List ℕ)) → n < m → IsFirstBad texts n → IsFirstBad texts m → ⊥
earlier n m texts l one two = one.bad (subst Begin (take-take (n + 1) m texts (omega arith)) (begins_take (n + 1) (take m texts) two.good))

pub same_bad : (n m : ℕ) (texts : List (List ℕ)) → IsFirstBad texts n → IsFirstBad texts m → n ≡ m
same_bad n m texts one two =
    ⊎_elim (λ l. absurd (earlier n m texts l one two)) (λ k. ⊎_elim (λ e. e) (λ l. absurd (earlier m n texts l two one)) k) (compared n m)
  where
    compared : (n m : ℕ) → (n < m) ⊎ ((n ≡ m) ⊎ (m < n))
    compared n m = grind arith

pub same_script : (texts : List (List ℕ)) (c d : Code) → Spell texts c → Spell texts d → c ≡ d
same_script texts c d one two = same_code c d (spell_same (said texts) (script_lines c) (script_lines d) one.spelled two.spelled)

-- ---- one more line

-- these texts have been taken as these lines, which leave these blocks open
pub record AreTaken (texts : List (List ℕ)) (v : List Line) (st : List Bool) : Type 0 where
  pub spelled : SpellEach (said texts) v
  pub sound : open_after DEPTH_LIMIT [] v ≡ Some st

-- what a text says
pub record Says (text : List ℕ) (line : Line) : Type 0 where
  pub kept : is_skipped text ≡ false
  pub spells : SpellsLine text line

said_is : (skipped : Bool) (line : Option Line) (found : Option Line) → if_said skipped line ≡ Some found
    → ((skipped ≡ true) × (found ≡ None)) ⊎ ((l : Line) × (skipped ≡ false) × (line ≡ Some l) × (found ≡ Some l))
said_is true line found h = inl (refl, cc)
said_is false None found h = absurd cc
said_is false (Some l) found h = inr (l, refl, refl, cc)

pub says_line : (text : List ℕ) (line : Line) → said_by text ≡ Some (Some line) → Says text line
says_line text line h =
    ⊎_elim (λ k. absurd cc)
    (λ (l, kept, is, same). let e : l ≡ line = cc in record { kept = kept; spells = line_of-is text line (is ∙ ap Some e) })
    (said_is (is_skipped text) (line_of text) (Some line) h)

pub record SaysBad (text : List ℕ) : Type 0 where
  pub kept : is_skipped text ≡ false
  pub none : line_of text ≡ None

bad_is : (skipped : Bool) (line : Option Line) → if_said skipped line ≡ None → (skipped ≡ false) × (line ≡ None)
bad_is true line h = absurd cc
bad_is false None h = (refl, refl)
bad_is false (Some l) h = absurd cc

pub says_bad : (text : List ℕ) → said_by text ≡ None → SaysBad text
says_bad text h = let k = bad_is (is_skipped text) (line_of text) h in record { kept = k.0; none = k.1 }

said_one : (texts : List (List ℕ)) (text : List ℕ) → is_skipped text ≡ false → said (texts ++ text ∷ []) ≡ said texts ++ text ∷ []
said_one texts text kept = said-append texts (text ∷ []) ∙ (rw kept refl)

said_none : (texts : List (List ℕ)) (text : List ℕ) → is_skipped text ≡ true → said (texts ++ text ∷ []) ≡ said texts
said_none texts text skipped = said-append texts (text ∷ []) ∙ (rw (skipped, append-nil) refl)

pub taken_skipped : (texts : List (List ℕ)) (text : List ℕ) (v : List Line) (st : List Bool) → is_skipped text ≡ true → AreTaken texts v st
    → AreTaken (texts ++ text ∷ []) v st
taken_skipped texts text v st skipped r = record { spelled = rw (said_none texts text skipped) r.spelled; sound = r.sound }

spelled_more : (texts : List (List ℕ)) (text : List ℕ) (v : List Line) (line : Line) → Says text line → SpellEach (said texts) v
    → SpellEach (said (texts ++ text ∷ [])) (v ++ line ∷ [])
spelled_more texts text v line s h = rw (said_one texts text s.kept) (spell_append (said texts) (text ∷ []) v (line ∷ []) h (s.spells, tt))

pub taken_line : (texts : List (List ℕ)) (text : List ℕ) (v : List Line) (st st' : List Bool) (line : Line) → Says text line
    → open_after DEPTH_LIMIT st (line ∷ []) ≡ Some st' → AreTaken texts v st → AreTaken (texts ++ text ∷ []) (v ++ line ∷ []) st'
taken_line texts text v st st' line s moved r =
    record { spelled = spelled_more texts text v line s r.spelled; sound = through DEPTH_LIMIT [] st v (line ∷ []) r.sound ∙ moved }

-- a line that is not allowed there
pub bad_line : (texts : List (List ℕ)) (text : List ℕ) (v : List Line) (st : List Bool) (line : Line) → Says text line
    → open_after (DEPTH_LIMIT + 1) st (line ∷ []) ≡ None → AreTaken texts v st → BeginWithin (DEPTH_LIMIT + 1) (texts ++ text ∷ []) → ⊥
bad_line texts text v st line s none r =
    begins_none (DEPTH_LIMIT + 1) (texts ++ text ∷ []) (v ++ line ∷ []) (spelled_more texts text v line s r.spelled)
    (through (DEPTH_LIMIT + 1) [] st v (line ∷ []) (raised DEPTH_LIMIT [] st v r.sound) ∙ none)

full : (st : List Bool) (line : Line) → opens_block line ≡ true → length st ≡ DEPTH_LIMIT
    → (open_after DEPTH_LIMIT st (line ∷ []) ≡ None) × ((st' : List Bool) × (open_after (DEPTH_LIMIT + 1) st (line ∷ []) ≡ Some st'))
full st (says.If condition) o l = rw l (refl, (true ∷ st, refl))
full st (says.For x p) o l = rw l (refl, (false ∷ st, refl))
full st (says.Do command) o l = absurd cc
full st says.Stop o l = absurd cc
full st says.Else o l = absurd cc
full st says.Close o l = absurd cc

-- a line that opens a block too many
pub deep_line : (texts : List (List ℕ)) (text : List ℕ) (v : List Line) (st : List Bool) (line : Line) → Says text line
    → opens_block line ≡ true → DEPTH_LIMIT ≤ length st → AreTaken texts v st
    → (Begin (texts ++ text ∷ []) → ⊥) × BeginWithin (DEPTH_LIMIT + 1) (texts ++ text ∷ [])
deep_line texts text v st line s opening much r =
    let f = full st line opening (omega (arith, shallow DEPTH_LIMIT [] st v (omega arith) r.sound)) in
    let more = spelled_more texts text v line s r.spelled in (
      begins_none DEPTH_LIMIT (texts ++ text ∷ []) (v ++ line ∷ []) more (through DEPTH_LIMIT [] st v (line ∷ []) r.sound ∙ f.0),
      begins_script (DEPTH_LIMIT + 1) f.1.0 (texts ++ text ∷ []) (v ++ line ∷ []) more
          (through (DEPTH_LIMIT + 1) [] st v (line ∷ []) (raised DEPTH_LIMIT [] st v r.sound) ∙ f.1.1),
    )

-- a text that is no line
pub no_line : (limit : ℕ) (texts : List (List ℕ)) (text : List ℕ) → SaysBad text → BeginWithin limit (texts ++ text ∷ []) → ⊥
no_line limit texts text bad (more, script, spelled) =
    let regroup : said ((texts ++ text ∷ []) ++ more) ≡ said texts ++ (text ∷ said more) = said-append (texts ++ text ∷ []) more
    ∙ ap (λ ts. ts ++ said more) (said_one texts text bad.kept) ∙ append_assoc (said texts) (text ∷ []) (said more) in
    let s =
    spell_split (said texts) (text ∷ said more) (script_lines script)
    (subst (λ ts. SpellEach ts (script_lines script)) regroup spelled.spelled) in
    by_line s.rest s.rest_spelled
  where
    by_line : (rest : List Line) → SpellEach (text ∷ said more) rest → ⊥
    by_line [] h = h
    by_line (l ∷ rest) h = let k = line_of-spelled text l h.0 in let e = bad.none in cc

-- ---- the end

pub taken_script : (texts : List (List ℕ)) (script : Code) → AreTaken texts (script_lines script) [] → Spell texts script
taken_script texts script r =
    let d : 0 + depth script ≤ DEPTH_LIMIT = within script DEPTH_LIMIT [] [] [] (omega arith) (rw append-nil r.sound) in
    record { deep = omega (arith, d); spelled = r.spelled }

pub taken_open : (texts : List (List ℕ)) (v : List Line) (b : Bool) (st : List Bool) (script : Code) → AreTaken texts v (b ∷ st)
    → Spell texts script → ⊥
taken_open texts v b st script r spelled =
    let same = spell_same (said texts) v (script_lines script) r.spelled spelled.spelled in
    not_whole DEPTH_LIMIT script b st (ap (open_after DEPTH_LIMIT []) (sym same) ∙ r.sound) spelled.deep

pub taken_begins : (texts : List (List ℕ)) (v : List Line) (st : List Bool) → AreTaken texts v st → Begin texts
taken_begins texts v st r = begins_script DEPTH_LIMIT st texts v r.spelled r.sound

-- a line that was refused
pub refused_line : (fault : PartFault) (texts : List (List ℕ)) (text : List ℕ) → line_fault fault ≡ line_faults.BadStatement
    → Fails fault (said_by text) → BeginWithin (DEPTH_LIMIT + 1) (texts ++ text ∷ []) → ⊥
refused_line part_faults.NoMemory texts text e h = absurd cc
refused_line part_faults.Malformed texts text e h = no_line (DEPTH_LIMIT + 1) texts text (says_bad text h)

-- ---- all answers

-- what is answered, if memory does not run out
pub only_script : (texts : List (List ℕ)) (result : Result Code LangFault) (script : Code) → IfOk result (λ s. Spell texts s)
    → IfErr result (λ f. HasFault texts f) → Spell texts script → UnlessMemory result (Ok script)
only_script texts (Ok s) script ok err h = inl (ap Ok (same_script texts s script ok h))
only_script texts (Err faults.NoMemory) script ok err h = inr refl
only_script texts (Err (faults.BadStatement n)) script ok err h =
    absurd (⊎_elim (λ b. not_bad n texts (begins_whole DEPTH_LIMIT texts script h) b.first) (λ o. o.open_ script h) err)
only_script texts (Err (faults.TooDeep n)) script ok err h = absurd (not_bad n texts (begins_whole DEPTH_LIMIT texts script h) err.first)

pub only_bad : (texts : List (List ℕ)) (result : Result Code LangFault) (n : ℕ) → IfOk result (λ s. Spell texts s)
    → IfErr result (λ f. HasFault texts f) → IsBadStatement texts n → UnlessMemory result (Err (faults.BadStatement n))
only_bad texts (Ok s) n ok err h = absurd (not_bad n texts (begins_whole DEPTH_LIMIT texts s ok) h.first)
only_bad texts (Err faults.NoMemory) n ok err h = inr refl
only_bad texts (Err (faults.BadStatement m)) n ok err h =
    inl
    (⊎_elim (λ b. ap (λ k. Err (faults.BadStatement k)) (same_bad m n texts b.first h.first))
    (λ o. absurd (not_bad n texts o.good h.first)) err)
only_bad texts (Err (faults.TooDeep m)) n ok err h =
    absurd
    (h.not_deeper (subst (λ k. BeginWithin (DEPTH_LIMIT + 1) (take (k + 1) texts)) (same_bad m n texts err.first h.first) err.deeper))

pub only_deep : (texts : List (List ℕ)) (result : Result Code LangFault) (n : ℕ) → IfOk result (λ s. Spell texts s)
    → IfErr result (λ f. HasFault texts f) → IsTooDeep texts n → UnlessMemory result (Err (faults.TooDeep n))
only_deep texts (Ok s) n ok err h = absurd (not_bad n texts (begins_whole DEPTH_LIMIT texts s ok) h.first)
only_deep texts (Err faults.NoMemory) n ok err h = inr refl
only_deep texts (Err (faults.BadStatement m)) n ok err h =
    absurd
    (⊎_elim
    (λ b. b.not_deeper (subst (λ k. BeginWithin (DEPTH_LIMIT + 1) (take (k + 1) texts)) (same_bad n m texts h.first b.first) h.deeper))
    (λ o. not_bad n texts o.good h.first) err)
only_deep texts (Err (faults.TooDeep m)) n ok err h = inl (ap (λ k. Err (faults.TooDeep k)) (same_bad m n texts err.first h.first))

pub only_open : (texts : List (List ℕ)) (result : Result Code LangFault) (n : ℕ) → IfOk result (λ s. Spell texts s)
    → IfErr result (λ f. HasFault texts f) → IsOpen texts n → UnlessMemory result (Err (faults.BadStatement n))
only_open texts (Ok s) n ok err h = absurd (h.open_ s ok)
only_open texts (Err faults.NoMemory) n ok err h = inr refl
only_open texts (Err (faults.BadStatement m)) n ok err h =
    inl (⊎_elim (λ b. absurd (not_bad m texts h.good b.first)) (λ o. ap (λ k. Err (faults.BadStatement k)) (o.after ∙ sym h.after)) err)
only_open texts (Err (faults.TooDeep m)) n ok err h = absurd (not_bad m texts h.good err.first)

-- ---- the loop over the lines

-- line n of the texts, and those after it
pub record At (texts : List (List ℕ)) (n : ℕ) (text : List ℕ) (rest : List (List ℕ)) : Type 0 where
  pub there : n < length texts
  pub taken : take (n + 1) texts ≡ take n texts ++ text ∷ []
  pub left : drop (n + 1) texts ≡ rest

pub at_line : (texts : List (List ℕ)) (n : ℕ) (text : List ℕ) (rest : List (List ℕ)) → drop n texts ≡ text ∷ rest → At texts n text rest
at_line texts n text rest h = record {
  there = length_of texts n text rest h;
  taken = rw add-one (taken_at texts n text rest h);
  left = sym (drop-drop 1 n texts) ∙ ap (drop 1) h;
}
  where
    length_of : (texts : List (List ℕ)) (n : ℕ) (text : List ℕ) (rest : List (List ℕ)) → drop n texts ≡ text ∷ rest → n < length texts
    length_of [] zero text rest h = absurd cc
    length_of [] (suc n) text rest h = absurd cc
    length_of (t ∷ texts) zero text rest h = omega arith
    length_of (t ∷ texts) (suc n) text rest h = omega (arith, length_of texts n text rest h)

    taken_at : (texts : List (List ℕ)) (n : ℕ) (text : List ℕ) (rest : List (List ℕ)) → drop n texts ≡ text ∷ rest
        → take (suc n) texts ≡ take n texts ++ text ∷ []
    taken_at [] zero text rest h = absurd cc
    taken_at [] (suc n) text rest h = absurd cc
    taken_at (t ∷ texts) zero text rest h = let e : t ≡ text = cc in rw e refl
    taken_at (t ∷ texts) (suc n) text rest h = ap (λ ts. t ∷ ts) (taken_at texts n text rest h)

first_bad : (texts : List (List ℕ)) (n : ℕ) (text : List ℕ) (rest : List (List ℕ)) → At texts n text rest → Begin (take n texts)
    → (Begin (take n texts ++ text ∷ []) → ⊥) → IsFirstBad texts n
first_bad texts n text rest at good bad = record { there = at.there; good = good; bad = λ b. bad (subst Begin at.taken b) }

-- the fault of the first line that is refused
pub fault_found : (fault : LineFault) (texts : List (List ℕ)) (n : ℕ) (text : List ℕ) (rest : List (List ℕ)) → At texts n text rest
    → Begin (take n texts)
    → (fault ≡ line_faults.BadStatement → BeginWithin (DEPTH_LIMIT + 1) (take n texts ++ text ∷ []) → ⊥)
    → (fault ≡ line_faults.TooDeep → (Begin (take n texts ++ text ∷ []) → ⊥) × BeginWithin (DEPTH_LIMIT + 1) (take n texts ++ text ∷ []))
    → HasFault texts (fault_at fault n)
fault_found line_faults.NoMemory texts n text rest at good bad deep = tt
fault_found line_faults.BadStatement texts n text rest at good bad deep = inl (record {
  first = first_bad texts n text rest at good (λ b. bad refl (begins_more (take n texts ++ text ∷ []) b));
  not_deeper = λ b. bad refl (subst (BeginWithin (DEPTH_LIMIT + 1)) at.taken b);
})
fault_found line_faults.TooDeep texts n text rest at good bad deep = record {
  first = first_bad texts n text rest at good (deep refl).0;
  deeper = rw at.taken (deep refl).1;
}

-- no line is left
pub all_taken : (texts : List (List ℕ)) (n : ℕ) → drop n texts ≡ [] → take n texts ≡ texts
all_taken texts n none = sym (append-nil (take n texts)) ∙ ap (λ ts. take n texts ++ ts) (sym none) ∙ take-append-drop n texts

pub count_is : (texts : List (List ℕ)) (n : ℕ) → drop n texts ≡ [] → n ≤ length texts → n ≡ length texts
count_is texts n none within_ = sym (length-take-le n texts within_) ∙ ap length (all_taken texts n none)
