-- Laws of the scripts in an input: which fault one has, and that it has one fault or spells one script.
use Rattle.std.proofs.Common.{◌≡◌, inl, inr, ℕ, ◌+◌, ◌<◌, ◌≤◌, ◌^◌, nat_le, not, List, [], ◌∷◌, ◌++◌, length, take, Option, Some, None, Err}
use Rattle.std.proofs.Common.{sym, ap, subst, ◌∙◌, length-append, arith}
use Rattle.std.proofs.lemmas.Bool.{cond_both}
use Rattle.std.proofs.lemmas.Bool.Decides.{nat_tests}
use Rattle.std.proofs.lemmas.List.{take-take}
use Rattle.std.proofs.lemmas.List.Quantifiers.{position-Some}
use Rattle.iot_lang.specs.Code.{Code}
use Rattle.iot_lang.specs.Faults.{HasFault}
use Rattle.iot_lang.specs.Scripts.{Begin, BeginWithin, Spell, IsFirstBad}
use Rattle.iot_lang.specs.declared.faults.LangFault.{LangFault}
use Rattle.iot_lang.specs.declared.nesting.TheConstants.{DEPTH_LIMIT}
use Rattle.iot_lang.specs.declared.faults.LangFault.TheVariants as language
use Rattle.iot_lang.proofs.ScriptsLaws.{begins_take, begins_whole, not_bad, same_bad}
use Rattle.iot_event.specs.Bytes.{fits_line}
use Rattle.iot_event.specs.Closing.{Closed}
use Rattle.iot_event.specs.Scripts.{first_unfit, whole_lines, SpellsScript, IsUnfit, IsRefused, HasScriptFault, unfit, statement, depth}
use Rattle.iot_event.specs.FirstFault.{FitsPlace, place_of_fault, unless_unfit, first_fault}
use Rattle.iot_event.specs.Results.{AnswersLines}
use Rattle.iot_event.specs.declared.fault.EventFault.{EventFault}
use Rattle.iot_event.specs.declared.fault.EventFault.TheVariants as faults

-- ---- places

unfit_within : (inside : List (List ℕ)) (closing : List ℕ) (place : ℕ) → first_unfit (inside ++ closing ∷ []) ≡ Some place
    → place ≤ length inside
unfit_within inside closing place is =
    let there = (position-Some (λ line. not (fits_line line)) (inside ++ closing ∷ []) place [] is).0 in
    omega (arith, there, length-append inside (closing ∷ []))

-- the numbers of lines fit
pub unfit_fits : (place : Option ℕ) (inside : List (List ℕ)) (closing : List ℕ) (first : ℕ)
    → place ≡ first_unfit (inside ++ closing ∷ []) → first + length inside < 2 ^ 64 → FitsPlace place first
unfit_fits None inside closing first is within = tt
unfit_fits (Some place) inside closing first is within = omega (arith, within, unfit_within inside closing place (sym is))

pub fault_fits : (fault : LangFault) (texts : List (List ℕ)) (first : ℕ)
    → HasFault texts fault → first + length texts < 2 ^ 64 → FitsPlace (place_of_fault fault) first
fault_fits language.NoMemory texts first has within = tt
fault_fits (language.BadStatement line) texts first (inl bad) within = omega (arith, within, bad.first.there)
fault_fits (language.BadStatement line) texts first (inr open_) within = omega (arith, within, open_.after)
fault_fits (language.TooDeep line) texts first has within = omega (arith, within, has.first.there)

-- ---- lines that begin a script

-- fewer lines than begin a script begin one
begun_before : (texts : List (List ℕ)) (n m : ℕ) → n ≤ m → Begin (take m texts) → Begin (take n texts)
begun_before texts n m h begun = subst (λ (ls : List (List ℕ)). Begin ls) (take-take n m texts h) (begins_take n (take m texts) begun)

-- so do the lines before one that the language refuses
begun_bad : (texts : List (List ℕ)) (n m : ℕ) → HasFault texts (language.BadStatement m) → n ≤ m → Begin (take n texts)
begun_bad texts n m (inl bad) h = begun_before texts n m h bad.first.good
begun_bad texts n m (inr open_) h = begins_take n texts open_.good

-- ---- the fault that a script has

-- what the language refuses, unless a line breaks the rule on bytes and length first
unless : (script : Closed) (first line : ℕ) (place : Option ℕ) (refused : LangFault) (fault : EventFault)
    → place ≡ first_unfit (whole_lines script)
    → HasFault script.inside refused
    → ((n : ℕ) → n ≤ line → Begin (take n script.inside))
    → (IsRefused script refused line → AnswersLines script first (Err fault))
    → AnswersLines script first (Err (unless_unfit place line first fault))
unless script first line None refused fault is has begun leads =
    leads (record { earlier = λ n some. let never : None ≡ Some n = is ∙ some in absurd cc; refused = has })
unless script first line (Some place) refused fault is has begun leads =
    cond_both (nat_le place line) (faults.BadLine (first + place)) fault (λ (f : EventFault). AnswersLines script first (Err f))
    (λ le. unfit place (record { unfit = sym is; begun = begun place (grind (arith, nat_tests)) }))
    (λ gt. leads (record {
      earlier = λ n some. let same : Some place ≡ Some n = is ∙ some in let e : place ≡ n = cc in grind (arith, nat_tests);
      refused = has;
    }))

pub fault_found : (script : Closed) (first : ℕ) (place : Option ℕ) (refused : LangFault)
    → place ≡ first_unfit (whole_lines script) → HasFault script.inside refused
    → AnswersLines script first (Err (first_fault refused place first))
fault_found script first place language.NoMemory is has = tt
fault_found script first place (language.BadStatement line) is has =
    unless script first line place (language.BadStatement line) (faults.BadStatement (first + line)) is has
    (λ n h. begun_bad script.inside n line has h)
    (statement line)
fault_found script first place (language.TooDeep line) is has =
    unless script first line place (language.TooDeep line) (faults.TooDeep (first + line)) is has
    (λ n h. begun_before script.inside n line h has.first.good)
    (depth line)

-- the only fault of a script that the language accepts
pub unfit_found : (script : Closed) (first place : ℕ) (code : Code)
    → Some place ≡ first_unfit (whole_lines script) → Spell script.inside code
    → HasScriptFault script first (faults.BadLine (first + place))
unfit_found script first place code is spelled =
    unfit place (record { unfit = sym is; begun = begins_take place script.inside (begins_whole DEPTH_LIMIT script.inside code spelled) })

-- ---- two faults that the language finds are one

same_statement : (texts : List (List ℕ)) (n m : ℕ) → HasFault texts (language.BadStatement n) → HasFault texts (language.BadStatement m)
    → n ≡ m
same_statement texts n m (inl one) (inl two) = same_bad n m texts one.first two.first
same_statement texts n m (inl one) (inr two) = absurd (not_bad n texts two.good one.first)
same_statement texts n m (inr one) (inl two) = absurd (not_bad m texts one.good two.first)
same_statement texts n m (inr one) (inr two) = one.after ∙ sym two.after

statement_or_depth : (texts : List (List ℕ)) (n m : ℕ) → HasFault texts (language.BadStatement n) → HasFault texts (language.TooDeep m) → ⊥
statement_or_depth texts n m (inl one) two =
    one.not_deeper
    (subst (λ (k : ℕ). BeginWithin (DEPTH_LIMIT + 1) (take (k + 1) texts)) (same_bad m n texts two.first one.first) two.deeper)
statement_or_depth texts n m (inr one) two = not_bad m texts one.good two.first

-- ---- a line that breaks the rule on bytes and length leaves no fault before it

bad_before : (texts : List (List ℕ)) (n m : ℕ) → n < m → Begin (take m texts) → IsFirstBad texts n → ⊥
bad_before texts n m less begun bad = bad.bad (begun_before texts (n + 1) m (omega (arith, less)) begun)

unfit_or_statement : (script : Closed) (n m : ℕ) → IsUnfit script n → IsRefused script (language.BadStatement m) m → ⊥
unfit_or_statement script n m one two = by_case two.refused
  where
    by_case : HasFault script.inside (language.BadStatement m) → ⊥
    by_case (inl bad) = bad_before script.inside m n (two.earlier n one.unfit) one.begun bad.first
    by_case (inr open_) = omega (arith, two.earlier n one.unfit, open_.after, unfit_within script.inside script.closing n one.unfit)

unfit_or_depth : (script : Closed) (n m : ℕ) → IsUnfit script n → IsRefused script (language.TooDeep m) m → ⊥
unfit_or_depth script n m one two = bad_before script.inside m n (two.earlier n one.unfit) one.begun two.refused.first

same_unfit : (script : Closed) (n m : ℕ) → IsUnfit script n → IsUnfit script m → n ≡ m
same_unfit script n m one two = let same : Some n ≡ Some m = sym one.unfit ∙ two.unfit in cc

-- ---- a script has one fault, or spells one script

pub same_fault : (script : Closed) (first : ℕ) (f g : EventFault) → HasScriptFault script first f → HasScriptFault script first g → f ≡ g
same_fault script first _ _ (unfit n one) (unfit m two) = ap (λ (k : ℕ). faults.BadLine (first + k)) (same_unfit script n m one two)
same_fault script first _ _ (unfit n one) (statement m two) = absurd (unfit_or_statement script n m one two)
same_fault script first _ _ (unfit n one) (depth m two) = absurd (unfit_or_depth script n m one two)
same_fault script first _ _ (statement n one) (unfit m two) = absurd (unfit_or_statement script m n two one)
same_fault script first _ _ (statement n one) (statement m two) =
    ap (λ (k : ℕ). faults.BadStatement (first + k)) (same_statement script.inside n m one.refused two.refused)
same_fault script first _ _ (statement n one) (depth m two) = absurd (statement_or_depth script.inside n m one.refused two.refused)
same_fault script first _ _ (depth n one) (unfit m two) = absurd (unfit_or_depth script m n two one)
same_fault script first _ _ (depth n one) (statement m two) = absurd (statement_or_depth script.inside m n two.refused one.refused)
same_fault script first _ _ (depth n one) (depth m two) =
    ap (λ (k : ℕ). faults.TooDeep (first + k)) (same_bad n m script.inside one.refused.first two.refused.first)

pub no_fault : (script : Closed) (first : ℕ) (code : Code) (fault : EventFault) → SpellsScript script code
    → HasScriptFault script first fault → ⊥
no_fault script first code _ spells (unfit n has) = let never : None ≡ Some n = sym spells.fits ∙ has.unfit in cc
no_fault script first code _ spells (statement n has) = by_case has.refused
  where
    by_case : HasFault script.inside (language.BadStatement n) → ⊥
    by_case (inl bad) = not_bad n script.inside (begins_whole DEPTH_LIMIT script.inside code spells.spelled) bad.first
    by_case (inr open_) = open_.open_ code spells.spelled
no_fault script first code _ spells (depth n has) =
    not_bad n script.inside (begins_whole DEPTH_LIMIT script.inside code spells.spelled) has.refused.first
