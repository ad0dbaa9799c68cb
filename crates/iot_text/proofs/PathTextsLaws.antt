-- Laws of the texts of paths.
use Rattle.std.proofs.Common.{◌≡◌, ℕ, zero, suc, ◌+◌, ◌<◌, ◌≤◌, Bool, true, false, cond, not, ◌&&◌, ◌⊎◌, inl, inr, List, [], ◌∷◌, ◌++◌}
use Rattle.std.proofs.Common.{length, take, drop, refl, sym, ◌∙◌, ap, subst, arith, get_or, take-append-drop, ◌-◌, length-drop}
use Rattle.std.proofs.Common.{length-append, Some, None, ◌≢◌, append_assoc, append-nil, ◌||◌}
use Rattle.std.proofs.lemmas.List.{drop_more, take_rest, drop-drop, length-take-le, take_all}
use Rattle.std.specs.List.{list_all, before_first, prefix_len, position_or_len}
use Rattle.std.specs.Cmp.{first_so, second_so}
use Rattle.std.proofs.lemmas.Grind.{flat_map-append}
use Rattle.std.proofs.lemmas.List.Sums.{take_while-cons, passes_at_first, prefix_len-le-length}
use mathlib.Core.Bool.{true≢false}
use borrow.Author.Tests.{eqb-true}
use Rattle.iot_text.specs.Names.{is_name_byte, is_name, is_dots, IsName, beginning_len}
use Rattle.iot_text.specs.Paths.{is_slash, IsPath, names_text, path_text, IsPathText, IsNoPathText, extended, slash_parts, names_of}
use Rattle.iot_text.specs.Paths.{path_of, BeginsPath, LongestBeginning}
use Rattle.std.specs.Prelude.{Option, if◌then◌else◌, unwrap_or, codes, bytes_eq}
use Rattle.std.proofs.Math.Seq.{take-append-add}
use Rattle.std.specs.Cmp.Lexicographic.{bytes_decides}
use Rattle.iot_text.proofs.PathsLaws.{IsPath-push}
use Rattle.iot_text.proofs.NamesLaws.{NameParts, name_parts, name_from_parts}

-- ---- where a name ends in a text

-- a byte of a name is no slash
pub not_slash : (b : ℕ) → is_name_byte b ≡ true → is_slash b ≡ false
not_slash b named = by (is_slash b) refl
  where
    by : (s : Bool) → is_slash b ≡ s → s ≡ false
    by false e = refl
    by true e = absurd (true≢false (sym named ∙ ap is_name_byte (eqb-true b 47 e)))

-- but for the root's, the text of a path is its names' texts
pub path_text-names : (path : List (List ℕ)) → 0 < length (names_text path) → path_text path ≡ names_text path
path_text-names [] some = absurd (omega arith)
path_text-names (name ∷ names) some = refl

pub path_text-some : (path : List (List ℕ)) → 0 < length path → path_text path ≡ names_text path
path_text-some [] some = absurd (omega arith)
path_text-some (name ∷ names) some = refl

-- nothing is left, or a slash comes next
abbrev pub at_end : List ℕ → Bool
at_end [] = true
at_end (b ∷ bs) = is_slash b

pub names_text-at_end : (path : List (List ℕ)) → at_end (names_text path) ≡ true
names_text-at_end [] = refl
names_text-at_end (name ∷ names) = refl

pub at_end-after_names : (path : List (List ℕ)) (rest : List ℕ) → at_end (names_text path ++ 47 ∷ rest) ≡ true
at_end-after_names [] rest = refl
at_end-after_names (name ∷ names) rest = refl

-- two names at the front of one text are equal, if a slash or the end follows each
pub same_name : (m n s t : List ℕ) → list_all is_name_byte m ≡ true → list_all is_name_byte n ≡ true → at_end s ≡ true → at_end t ≡ true
    → m ++ s ≡ n ++ t → (m ≡ n) × (s ≡ t)
same_name [] [] s t mb nb se te e = (refl, e)
same_name [] (c ∷ cs) s t mb nb se te e =
    absurd (true≢false (sym (ap at_end (sym e) ∙ se) ∙ not_slash c (first_so (is_name_byte c) _ nb)))
same_name (c ∷ cs) [] s t mb nb se te e =
    absurd (true≢false (sym (ap at_end e ∙ te) ∙ not_slash c (first_so (is_name_byte c) _ mb)))
same_name (c ∷ cs) (d ∷ ds) s t mb nb se te e =
    let head : c ≡ d = cc in
    let tails : cs ++ s ≡ ds ++ t = cc in
    let rest = same_name cs ds s t (second_so (is_name_byte c) _ mb) (second_so (is_name_byte d) _ nb) se te tails in
    ((λ i. head i ∷ rest.0 i), rest.1)

before_first-slash : (b : ℕ) (bs : List ℕ) → is_slash b ≡ true → before_first is_slash (b ∷ bs) ≡ []
before_first-slash b bs e = take_while-cons (λ x. not (is_slash x)) b bs ∙ ap (λ s. cond (not s) (b ∷ before_first is_slash bs) []) e

before_first-no_slash : (b : ℕ) (bs : List ℕ) → is_slash b ≡ false → before_first is_slash (b ∷ bs) ≡ b ∷ before_first is_slash bs
before_first-no_slash b bs e = take_while-cons (λ x. not (is_slash x)) b bs ∙ ap (λ s. cond (not s) (b ∷ before_first is_slash bs) []) e

-- a name ends at the first slash
pub before_first-name : (name more : List ℕ) → list_all is_name_byte name ≡ true → at_end more ≡ true
    → before_first is_slash (name ++ more) ≡ name
before_first-name [] [] named ended = refl
before_first-name [] (b ∷ bs) named ended = before_first-slash b bs ended
before_first-name (c ∷ cs) more named ended =
    before_first-no_slash c (cs ++ more) (not_slash c (first_so (is_name_byte c) _ named))
    ∙ ap (λ bs. c ∷ bs) (before_first-name cs more (second_so (is_name_byte c) _ named) ended)

-- a name that begins like the first k bytes of a text has them all, or is what the text has before its first slash
pub covered : (name more rest r : List ℕ) (k : ℕ) → list_all is_name_byte name ≡ true → at_end more ≡ true → name ++ more ≡ take k rest ++ r
    → k ≤ length rest
    → ((k ≤ length name) × (k ≤ prefix_len is_name_byte rest)) ⊎ (before_first is_slash rest ≡ name)
covered name more rest r zero named ended e fits = inl (omega arith, omega arith)
covered name more [] r (suc k) named ended e fits = absurd (omega arith)
covered [] more (x ∷ rest) r (suc k) named ended e fits =
    inr (before_first-slash x rest (ap at_end (sym e) ∙ ended))
covered (c ∷ cs) more (x ∷ rest) r (suc k) named ended e fits =
    let head : c ≡ x = cc in
    let tails : cs ++ more ≡ take k rest ++ r = cc in
    let byte : is_name_byte x ≡ true = ap is_name_byte (sym head) ∙ first_so (is_name_byte c) _ named in
    elim (covered cs more rest r k (second_so (is_name_byte c) _ named) ended tails (omega arith)) [
      | inl both ↦
          inl (omega (arith, both.0), subst (λ b. suc k ≤ cond b (1 + prefix_len is_name_byte rest) 0) (sym byte) (omega (arith, both.1)))
      | inr same ↦ inr (before_first-no_slash x rest (not_slash x byte) ∙ (λ i. (sym head) i ∷ same i))
    ]

-- ---- the path of a text

-- the parts of the names' texts are the names
slash_parts-names : (name : List ℕ) (names : List (List ℕ)) → list_all is_name_byte name ≡ true → IsPath names
    → slash_parts (name ++ names_text names) ≡ name ∷ names
slash_parts-names [] [] named valid = refl
slash_parts-names [] (next ∷ names) named valid =
    ap (λ parts. [] ∷ parts)
    (slash_parts-names next names (name_parts next (first_so (is_name next) _ valid)).name_bytes (second_so (is_name next) _ valid))
slash_parts-names (b ∷ bs) names named valid =
    let plain : is_slash b ≡ false = not_slash b (first_so (is_name_byte b) _ named) in
    ap (λ s. if s then [] ∷ slash_parts (bs ++ names_text names) else extended b (slash_parts (bs ++ names_text names))) plain
    ∙ ap (extended b) (slash_parts-names bs names (second_so (is_name_byte b) _ named) valid)

names_of-some : (rest : List ℕ) (names : List (List ℕ)) → 0 < length rest → slash_parts rest ≡ names → list_all is_name names ≡ true
    → names_of rest ≡ Some names
names_of-some [] names some e valid = absurd (omega arith)
names_of-some (b ∷ bs) names some e valid =
    ap (λ parts. if list_all is_name parts then Some parts else None) e ∙ ap (λ v. if v then Some names else None) valid

-- the text of a path gives it back
pub spelled_back : (path : List (List ℕ)) → IsPath path → path_of (path_text path) ≡ Some path
unfolding path_of
spelled_back [] valid = refl
spelled_back (name ∷ names) valid =
    let parts : NameParts name = name_parts name (first_so (is_name name) _ valid) in
    names_of-some (name ++ names_text names) (name ∷ names) (omega (arith, parts.not_empty, length-append name (names_text names)))
    (slash_parts-names name names parts.name_bytes (second_so (is_name name) _ valid)) valid

-- the text of a path gives it back
pub path_of-spelled : (text : List ℕ) (path : List (List ℕ)) → IsPathText text path → path_of text ≡ Some path
path_of-spelled text path is = ap path_of (sym is.spelled) ∙ spelled_back path is.names

-- the parts give the text back
names_text-extended : (b : ℕ) (parts : List (List ℕ)) (rest : List ℕ) → names_text parts ≡ 47 ∷ rest
    → names_text (extended b parts) ≡ 47 ∷ (b ∷ rest)
names_text-extended b [] rest e = absurd (cc)
names_text-extended b (part ∷ parts) rest e = let tails : part ++ names_text parts ≡ rest = cc in ap (λ t. 47 ∷ (b ∷ t)) tails

names_text-slash_parts : (rest : List ℕ) → names_text (slash_parts rest) ≡ 47 ∷ rest
names_text-slash_parts [] = refl
names_text-slash_parts (b ∷ bs) = by (is_slash b) refl (names_text-slash_parts bs)
  where
    by : (s : Bool) → is_slash b ≡ s → names_text (slash_parts bs) ≡ 47 ∷ bs
        → names_text (if s then [] ∷ slash_parts bs else extended b (slash_parts bs)) ≡ 47 ∷ (b ∷ bs)
    by true e later = ap (λ t. 47 ∷ t) later ∙ ap (λ c. 47 ∷ (c ∷ bs)) (sym (eqb-true b 47 e))
    by false e later = names_text-extended b (slash_parts bs) bs later

slash_parts-some : (rest : List ℕ) → path_text (slash_parts rest) ≡ 47 ∷ rest
slash_parts-some rest =
    path_text-names (slash_parts rest) (omega (arith, ap length (names_text-slash_parts rest))) ∙ names_text-slash_parts rest

names_of-spells : (rest : List ℕ) (path : List (List ℕ)) → names_of rest ≡ Some path → IsPathText (47 ∷ rest) path
names_of-spells [] path e = subst (IsPathText (47 ∷ [])) (ap (λ o. unwrap_or o []) e) (record { names = refl; spelled = refl })
names_of-spells (b ∷ bs) path e = by (list_all is_name (slash_parts (b ∷ bs))) refl e
  where
    by : (v : Bool) → list_all is_name (slash_parts (b ∷ bs)) ≡ v → (if v then Some (slash_parts (b ∷ bs)) else None) ≡ Some path
        → IsPathText (47 ∷ (b ∷ bs)) path
    by true valid same =
        subst (IsPathText (47 ∷ (b ∷ bs))) (ap (λ o. unwrap_or o []) same) (record { names = valid; spelled = slash_parts-some (b ∷ bs) })
    by false valid same = absurd (cc)

-- what gives a path is its text
pub path_of-spells : (text : List ℕ) (path : List (List ℕ)) → path_of text ≡ Some path → IsPathText text path
unfolding path_of
path_of-spells [] path e = absurd (cc)
path_of-spells (b ∷ rest) path e = by (is_slash b) refl e
  where
    by : (s : Bool) → is_slash b ≡ s → (if s then names_of rest else None) ≡ Some path → IsPathText (b ∷ rest) path
    by true slash same = subst (λ c. IsPathText (c ∷ rest) path) (sym (eqb-true b 47 slash)) (names_of-spells rest path same)
    by false slash same = absurd (cc)

-- what is no path's text gives none
pub path_of-none : (text : List ℕ) → IsNoPathText text → path_of text ≡ None
path_of-none text never = by (path_of text) refl
  where
    by : (o : Option (List (List ℕ))) → path_of text ≡ o → path_of text ≡ None
    by None e = e
    by (Some path) e = absurd (never path (path_of-spells text path e))

pub path_of-no_slash : (text : List ℕ) → (0 < length text → get_or text 0 0 ≢ 47) → path_of text ≡ None
unfolding path_of
path_of-no_slash [] first = refl
path_of-no_slash (b ∷ rest) first = by (is_slash b) refl
  where
    by : (s : Bool) → is_slash b ≡ s → (if s then names_of rest else None) ≡ None
    by true slash = absurd (first (omega arith) (eqb-true b 47 slash))
    by false slash = refl

pub path_of-root : (text : List ℕ) → length text ≡ 1 → get_or text 0 0 ≡ 47 → path_of text ≡ Some []
unfolding path_of
path_of-root [] one first = absurd (omega arith)
path_of-root (b ∷ []) one first = ap (λ c. path_of (c ∷ [])) first
path_of-root (b ∷ (c ∷ rest)) one first = absurd (omega arith)

-- ---- reading a path

-- if it is longer than that of the root, the text of a path is its names' texts
pub names_text-long : (path : List (List ℕ)) → 1 < length (path_text path) → path_text path ≡ names_text path
names_text-long [] long = absurd (omega arith)
names_text-long (name ∷ names) long = refl

-- a path whose text begins with that of other names begins with these names
pub record Follows (q ns : List (List ℕ)) (rest : List ℕ) : Type 0 where
  pub below : List (List ℕ)
  pub split : q ≡ ns ++ below
  pub valid : IsPath below
  pub spelled : names_text below ≡ 47 ∷ rest

pub follows : (ns q : List (List ℕ)) (rest : List ℕ) → IsPath ns → IsPath q → names_text q ≡ names_text ns ++ 47 ∷ rest → Follows q ns rest
follows [] q rest vn vq e = record { below = q; split = refl; valid = vq; spelled = e }
follows (n ∷ ns) [] rest vn vq e = absurd (cc)
follows (n ∷ ns) (m ∷ q) rest vn vq e =
    let tails : m ++ names_text q ≡ (n ++ names_text ns) ++ 47 ∷ rest = cc in
    let regrouped : m ++ names_text q ≡ n ++ (names_text ns ++ 47 ∷ rest) = tails ∙ append_assoc n (names_text ns) (47 ∷ rest) in
    let named : NameParts n = name_parts n (first_so (is_name n) _ vn) in
    let other : NameParts m = name_parts m (first_so (is_name m) _ vq) in
    let same =
    same_name m n (names_text q) (names_text ns ++ 47 ∷ rest) other.name_bytes named.name_bytes (names_text-at_end q)
    (at_end-after_names ns rest) regrouped in
    let up = follows ns q rest (second_so (is_name n) _ vn) (second_so (is_name m) _ vq) same.1 in
    record { below = up.below; split = (λ i. same.0 i ∷ up.split i); valid = up.valid; spelled = up.spelled }

-- the next name of a path whose text begins like that
pub record NextName (rest : List ℕ) : Type 0 where
  pub name : List ℕ
  pub more : List ℕ
  pub named : IsName name
  pub ended : at_end more ≡ true
  pub spelled : name ++ more ≡ rest

next_of : (below : List (List ℕ)) (rest : List ℕ) → IsPath below → names_text below ≡ 47 ∷ rest → NextName rest
next_of [] rest valid e = absurd (cc)
next_of (name ∷ names) rest valid e = record {
  name = name;
  more = names_text names;
  named = first_so (is_name name) _ valid;
  ended = names_text-at_end names;
  spelled = cc;
}

pub next_name : (ns q : List (List ℕ)) (rest : List ℕ) → IsPath ns → IsPath q → path_text q ≡ names_text ns ++ 47 ∷ rest
    → 0 < length (names_text ns) + length rest → NextName rest
next_name ns q rest vn vq e long =
    let size : 1 < length (path_text q) = omega (arith, ap length e, length-append (names_text ns) (47 ∷ rest)) in
    let f = follows ns q rest vn vq (sym (names_text-long q size) ∙ e) in
    next_of f.below rest f.valid f.spelled

-- no name begins like the first k bytes, if these are more than begin any name
no_cover : (rest r : List ℕ) (k : ℕ) → NextName (take k rest ++ r) → k ≤ length rest → beginning_len rest < k
    → ¬ IsName (before_first is_slash rest) → ⊥
no_cover rest r k next fits over bad =
    let parts : NameParts next.name = name_parts next.name next.named in
    elim (covered next.name next.more rest r k parts.name_bytes next.ended next.spelled fits) [
      | inl both ↦ omega (arith, both.0, both.1, parts.within_limit)
      | inr same ↦ bad (subst IsName (sym same) next.named)
    ]

no_name : (rest : List ℕ) → NextName rest → ¬ IsName (before_first is_slash rest) → ⊥
no_name rest next bad =
    let parts : NameParts next.name = name_parts next.name next.named in
    let same = before_first-name next.name next.more parts.name_bytes next.ended in
    bad (subst IsName (sym same ∙ ap (before_first is_slash) next.spelled) next.named)

-- ---- the longest beginning

-- a name that begins with these bytes
record Extension (bytes : List ℕ) : Type 0 where
  pub rest : List ℕ
  pub named : IsName (bytes ++ rest)

with_letter : (bytes : List ℕ) → IsName (bytes ++ codes "a") → Extension bytes
with_letter bytes named = record { rest = codes "a"; named = named }

dots : (bytes : List ℕ) → is_dots bytes ≡ true → Extension bytes
unfolding is_name
dots bytes e = by (bytes_eq bytes (codes ".")) refl
  where
    by : (one : Bool) → bytes_eq bytes (codes ".") ≡ one → Extension bytes
    by true one = subst Extension (sym ((bytes_decides bytes (codes ".")).0 one)) (with_letter (codes ".") refl)
    by false one =
        subst Extension (sym ((bytes_decides bytes (codes "..")).0 (ap (λ b. b || bytes_eq bytes (codes "..")) (sym one) ∙ e)))
        (with_letter (codes "..") refl)

extension : (bytes : List ℕ) → list_all is_name_byte bytes ≡ true → length bytes ≤ 32 → Extension bytes
unfolding is_name
extension [] named fits = with_letter [] refl
extension (b ∷ bs) named fits = by (is_dots (b ∷ bs)) refl
  where
    by : (are : Bool) → is_dots (b ∷ bs) ≡ are → Extension (b ∷ bs)
    by true are = dots (b ∷ bs) are
    by false are = record {
      rest = [];
      named =
          subst IsName (sym (append-nil (b ∷ bs)))
          (name_from_parts (b ∷ bs) (record { not_empty = omega arith; within_limit = fits; not_dots = are; name_bytes = named }));
    }

take-prefix_len : (p : ℕ → Bool) (xs : List ℕ) (k : ℕ) → k ≤ prefix_len p xs → list_all p (take k xs) ≡ true
take-prefix_len p xs zero within = refl
take-prefix_len p [] (suc k) within = refl
take-prefix_len p (x ∷ xs) (suc k) within = by (p x) refl (λ less. take-prefix_len p xs k less)
  where
    by : (b : Bool) → p x ≡ b → (k ≤ prefix_len p xs → list_all p (take k xs) ≡ true) → list_all p (x ∷ take k xs) ≡ true
    by true e later =
        (λ i. e i && list_all p (take k xs)) ∙ later (omega (arith, subst (λ b. suc k ≤ cond b (1 + prefix_len p xs) 0) e within))
    by false e later = absurd (omega (arith, subst (λ b. suc k ≤ cond b (1 + prefix_len p xs) 0) e within))

pub names_text-push : (path : List (List ℕ)) (name : List ℕ) → names_text (path ++ name ∷ []) ≡ names_text path ++ 47 ∷ name
names_text-push path name = flat_map-append (λ n. 47 ∷ n) path (name ∷ []) ∙ ap (λ t. names_text path ++ 47 ∷ t) (append-nil name)

-- one more name in the path is one more in its text
pub path_text-push : (path : List (List ℕ)) (name : List ℕ) → path_text (path ++ name ∷ []) ≡ names_text path ++ 47 ∷ name
path_text-push path name =
    path_text-names (path ++ name ∷ []) (rw (names_text-push path name) (omega (arith, length-append (names_text path) (47 ∷ name))))
    ∙ names_text-push path name

front : (ns : List (List ℕ)) (rest : List ℕ) (k : ℕ)
    → take (length (names_text ns) + 1 + k) (names_text ns ++ 47 ∷ rest) ≡ names_text ns ++ 47 ∷ take k rest
front ns rest k =
    let same : length (names_text ns) + 1 + k ≡ length (names_text ns) + suc k = omega arith in
    ap (λ n. take n (names_text ns ++ 47 ∷ rest)) same ∙ take-append-add (names_text ns) (47 ∷ rest) (suc k)

begins : (ns : List (List ℕ)) (rest : List ℕ) → IsPath ns
    → BeginsPath (take (length (names_text ns) + 1 + beginning_len rest) (names_text ns ++ 47 ∷ rest))
begins ns rest valid =
    let k : ℕ = beginning_len rest in
    let name : List ℕ = take k rest in
    let size : k ≤ prefix_len is_name_byte rest = omega arith in
    let within : k ≤ length rest = omega (arith, prefix_len-le-length is_name_byte rest) in
    let most : length name ≤ 32 = omega (arith, length-take-le k rest within) in
    let x = extension name (take-prefix_len is_name_byte rest k size) most in
    let grouped : names_text ns ++ 47 ∷ (name ++ x.rest) ≡ (names_text ns ++ 47 ∷ name) ++ x.rest =
    sym (append_assoc (names_text ns) (47 ∷ name) x.rest) in (
      ns ++ (name ++ x.rest) ∷ [],
      x.rest,
      record {
        names = IsPath-push ns (name ++ x.rest) valid x.named;
        spelled = path_text-push ns (name ++ x.rest) ∙ grouped ∙ ap (λ t. t ++ x.rest) (sym (front ns rest k));
      },
    )

no_more : (ns : List (List ℕ)) (rest : List ℕ) (k : ℕ) → IsPath ns → ¬ IsName (before_first is_slash rest) → beginning_len rest < k
    → k ≤ length rest
    → ¬ BeginsPath (take (length (names_text ns) + 1 + k) (names_text ns ++ 47 ∷ rest))
no_more ns rest k valid bad over fits b =
    let text : path_text b.0 ≡ names_text ns ++ 47 ∷ (take k rest ++ b.1) =
    b.2.spelled ∙ ap (λ t. t ++ b.1) (front ns rest k) ∙ append_assoc (names_text ns) (47 ∷ take k rest) b.1 in
    let some : 0 < length (names_text ns) + length (take k rest ++ b.1) =
    omega (arith, length-append (take k rest) b.1, length-take-le k rest fits) in
    no_cover rest b.1 k (next_name ns b.0 (take k rest ++ b.1) valid b.2.names text some) fits over bad

pub longest : (ns : List (List ℕ)) (rest : List ℕ) → IsPath ns → ¬ IsName (before_first is_slash rest)
    → LongestBeginning (names_text ns ++ 47 ∷ rest) (length (names_text ns) + 1 + beginning_len rest)
longest ns rest valid bad =
    let size : length (names_text ns ++ 47 ∷ rest) ≡ length (names_text ns) + suc (length rest) =
    length-append (names_text ns) (47 ∷ rest) in
    record {
      within = omega (arith, prefix_len-le-length is_name_byte rest);
      begins = begins ns rest valid;
      longest = λ n over fits b.
          let k : ℕ = n - (length (names_text ns) + 1) in
          let same : n ≡ length (names_text ns) + 1 + k = omega arith in
          no_more ns rest k valid bad (omega arith) (omega arith) (subst (λ m. BeginsPath (take m (names_text ns ++ 47 ∷ rest))) same b);
    }

pub no_path : (ns : List (List ℕ)) (rest : List ℕ) → IsPath ns → 0 < length (names_text ns) + length rest
    → ¬ IsName (before_first is_slash rest)
    → IsNoPathText (names_text ns ++ 47 ∷ rest)
no_path ns rest valid some bad path is = no_name rest (next_name ns path rest valid is.names is.spelled some) bad

-- what refuses the text at a bad name
pub refused : (ns : List (List ℕ)) (rest text : List ℕ) (at : ℕ) → IsPath ns → names_text ns ++ 47 ∷ rest ≡ text → 1 < length text
    → ¬ IsName (before_first is_slash rest)
    → at ≡ length (names_text ns) + 1 + beginning_len rest → IsNoPathText text × LongestBeginning text at
refused ns rest text at valid spelled long bad place =
    let some : 0 < length (names_text ns) + length rest = omega (arith, ap length spelled, length-append (names_text ns) (47 ∷ rest)) in
    rw (← spelled, place) (no_path ns rest valid some bad, longest ns rest valid bad)

-- ---- the next name

-- what comes before the first slash, the slash, and the rest
pub at_slash : (rest : List ℕ) → position_or_len is_slash rest < length rest
    → rest ≡ before_first is_slash rest ++ 47 ∷ drop (position_or_len is_slash rest + 1) rest
at_slash rest within =
    let n : ℕ = position_or_len is_slash rest in
    let slash : get_or rest n 0 ≡ 47 = eqb-true (get_or rest n 0) 47 (passes_at_first is_slash rest 0 within) in
    sym (take-append-drop n rest) ∙ ap (λ t. take n rest ++ t) (drop_more rest n 0 within ∙ ap (λ b. b ∷ drop (n + 1) rest) slash)

-- the names so far, a slash and the rest are the text still, with the name more
pub spelled_on : (ns : List (List ℕ)) (text : List ℕ) (start : ℕ) → names_text ns ++ 47 ∷ drop start text ≡ text
    → position_or_len is_slash (drop start text) < length (drop start text)
    → names_text (ns ++ before_first is_slash (drop start text) ∷ []) ++ 47
    ∷ drop (start + position_or_len is_slash (drop start text) + 1) text
    ≡ text
spelled_on ns text start spelled within =
    let rest : List ℕ = drop start text in
    let n : ℕ = position_or_len is_slash rest in
    let name : List ℕ = before_first is_slash rest in
    let later : drop (n + 1) rest ≡ drop (start + n + 1) text = drop-drop (n + 1) start text ∙ ap (λ k. drop k text) (omega arith) in
    ap (λ t. t ++ 47 ∷ drop (start + n + 1) text) (names_text-push ns name)
    ∙ append_assoc (names_text ns) (47 ∷ name) (47 ∷ drop (start + n + 1) text)
    ∙ ap (λ t. names_text ns ++ 47 ∷ (name ++ 47 ∷ t)) (sym later)
    ∙ ap (λ t. names_text ns ++ 47 ∷ t) (sym (at_slash rest within))
    ∙ spelled

-- the part that is read next, as the program cuts it out
pub next_part : (text : List ℕ) (start len : ℕ) → len ≡ position_or_len is_slash (take (length text - start) (drop start text))
    → take len (take (length text - start) (drop start text)) ≡ before_first is_slash (drop start text)
next_part text start len e =
    ap (λ n. take n (take (length text - start) (drop start text))) e ∙ ap (before_first is_slash) (take_rest text start)

-- the last name completes the path
pub completed : (ns : List (List ℕ)) (text : List ℕ) (start len : ℕ) (name : List ℕ) → IsPath ns
    → names_text ns ++ 47 ∷ drop start text ≡ text → start + len ≡ length text
    → name ≡ take len (take (length text - start) (drop start text)) → IsName name → IsPathText text (ns ++ name ∷ [])
completed ns text start len name valid spelled ends is named =
    let rest : List ℕ = drop start text in
    let whole : name ≡ rest = is ∙ ap (take len) (take_rest text start) ∙ take_all len rest (omega (arith, length-drop start text)) in
    record {
      names = IsPath-push ns name valid named;
      spelled = path_text-push ns name ∙ ap (λ t. names_text ns ++ 47 ∷ t) whole ∙ spelled;
    }

-- these names were parsed, and the rest begins after their text and a slash
pub record Stepped (ns : List (List ℕ)) (text : List ℕ) (start : ℕ) : Type 0 where
  pub spelled : names_text ns ++ 47 ∷ drop start text ≡ text
  pub started : start ≡ length (names_text ns) + 1

pub stepped : (ns : List (List ℕ)) (text : List ℕ) (start len : ℕ) (name : List ℕ) → Stepped ns text start
    → len ≡ position_or_len is_slash (take (length text - start) (drop start text))
    → name ≡ take len (take (length text - start) (drop start text)) → start + len ≢ length text
    → Stepped (ns ++ name ∷ []) text (start + len + 1)
stepped ns text start len name now len_is name_is more =
    let within : start
    ≤ length text = omega (arith, now.started, ap length now.spelled, length-append (names_text ns) (47 ∷ drop start text)) in
    let rest : List ℕ = drop start text in
    let n : len ≡ position_or_len is_slash rest = len_is ∙ ap (position_or_len is_slash) (take_rest text start) in
    let least : position_or_len is_slash rest ≤ length rest = prefix_len-le-length (λ x. not (is_slash x)) rest in
    let inside : position_or_len is_slash rest < length rest = omega (arith, length-drop start text) in
    let part : name ≡ before_first is_slash rest = name_is ∙ next_part text start len len_is in
    let size : length (before_first is_slash rest) ≡ position_or_len is_slash rest =
    length-take-le (position_or_len is_slash rest) rest least in
    rw (part, n) (record {
      spelled = spelled_on ns text start now.spelled inside;
      started =
          omega (
            arith,
            now.started,
            ap length (names_text-push ns (before_first is_slash rest)),
            length-append (names_text ns) (47 ∷ before_first is_slash rest),
            size,
          );
    })
