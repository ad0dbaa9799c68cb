-- Laws of lines that are put together from pieces.
use Rattle.std.proofs.Common.{◌≡◌, ℕ, List, [], ◌∷◌, ◌++◌, refl, sym, ap, ◌∙◌, append_assoc, append-nil}
use Rattle.iot_text.specs.Texts.{AppendsPart}
use Rattle.iot_text.proofs.TextsLaws.{no_part, Leaves, leaves_all, leaves_next, leaves_part}
use Rattle.iot_inspect.specs.Texts.{or_empty}

-- six pieces, one after the other
pub six_pieces : (o a b c d e f : List ℕ) (p q r s t u whole : List ℕ) → a ≡ o ++ p → b ≡ a ++ q → c ≡ b ++ r → d ≡ c ++ s → e ≡ d ++ t
    → f ≡ e ++ u → ((((p ++ q) ++ r) ++ s) ++ t) ++ u ≡ whole → f ≡ o ++ whole
six_pieces o a b c d e f p q r s t u whole first second third fourth fifth sixth is =
    let regroup : (((((o ++ p) ++ q) ++ r) ++ s) ++ t) ++ u ≡ o ++ (((((p ++ q) ++ r) ++ s) ++ t) ++ u) = simp append_assoc in
    sixth
    ∙ ap (λ (x : List ℕ). x ++ u)
    (fifth
    ∙ ap (λ (x : List ℕ). x ++ t)
    (fourth ∙ ap (λ (x : List ℕ). x ++ s) (third ∙ ap (λ (x : List ℕ). x ++ r) (second ∙ ap (λ (x : List ℕ). x ++ q) first))))
    ∙ regroup
    ∙ ap (λ (x : List ℕ). o ++ x) is

-- one of them was appended in part
module _ (o p q r s t u whole : List ℕ) (is : ((((p ++ q) ++ r) ++ s) ++ t) ++ u ≡ whole) where
  in_turn : p ++ (q ++ (r ++ (s ++ (t ++ u)))) ≡ whole
  in_turn =
      let regroup : p ++ (q ++ (r ++ (s ++ (t ++ u)))) ≡ ((((p ++ q) ++ r) ++ s) ++ t) ++ u = simp append_assoc in
      regroup ∙ is

  after_first : (a : List ℕ) → a ≡ o ++ p → Leaves o a (q ++ (r ++ (s ++ (t ++ u)))) whole
  after_first a first = leaves_next o o a whole _ whole p (leaves_all o whole) first (sym in_turn)

  after_second : (a b : List ℕ) → a ≡ o ++ p → b ≡ a ++ q → Leaves o b (r ++ (s ++ (t ++ u))) whole
  after_second a b first second = leaves_next o a b _ _ whole q (after_first a first) second refl

  after_third : (a b c : List ℕ) → a ≡ o ++ p → b ≡ a ++ q → c ≡ b ++ r → Leaves o c (s ++ (t ++ u)) whole
  after_third a b c first second third = leaves_next o b c _ _ whole r (after_second a b first second) third refl

  after_fourth : (a b c d : List ℕ) → a ≡ o ++ p → b ≡ a ++ q → c ≡ b ++ r → d ≡ c ++ s → Leaves o d (t ++ u) whole
  after_fourth a b c d first second third fourth = leaves_next o c d _ _ whole s (after_third a b c first second third) fourth refl

  after_fifth : (a b c d e : List ℕ) → a ≡ o ++ p → b ≡ a ++ q → c ≡ b ++ r → d ≡ c ++ s → e ≡ d ++ t → Leaves o e u whole
  after_fifth a b c d e first second third fourth fifth =
      leaves_next o d e _ _ whole t (after_fourth a b c d first second third fourth) fifth refl

  pub second_part : (a x : List ℕ) → a ≡ o ++ p → AppendsPart a x q → AppendsPart o x whole
  second_part a x first part = leaves_part o a x _ _ whole q (after_first a first) refl part

  pub third_part : (a b x : List ℕ) → a ≡ o ++ p → b ≡ a ++ q → AppendsPart b x r → AppendsPart o x whole
  third_part a b x first second part = leaves_part o b x _ _ whole r (after_second a b first second) refl part

  pub fourth_part : (a b c x : List ℕ) → a ≡ o ++ p → b ≡ a ++ q → c ≡ b ++ r → AppendsPart c x s → AppendsPart o x whole
  fourth_part a b c x first second third part = leaves_part o c x _ _ whole s (after_third a b c first second third) refl part

  pub fifth_part : (a b c d x : List ℕ) → a ≡ o ++ p → b ≡ a ++ q → c ≡ b ++ r → d ≡ c ++ s → AppendsPart d x t → AppendsPart o x whole
  fifth_part a b c d x first second third fourth part =
      leaves_part o d x _ _ whole t (after_fourth a b c d first second third fourth) refl part

  pub sixth_part : (a b c d e x : List ℕ) → a ≡ o ++ p → b ≡ a ++ q → c ≡ b ++ r → d ≡ c ++ s → e ≡ d ++ t → x ≡ e
      → AppendsPart o x whole
  sixth_part a b c d e x first second third fourth fifth same =
      leaves_part o e x u [] whole u (after_fifth a b c d e first second third fourth fifth) (sym (append-nil u)) (no_part e x u same)

-- the words of a line about a transaction that waits
pub item_words : (word tid space script option stage count acts cut end : List ℕ)
    → ((((word ++ ((tid ++ (space ++ script)) ++ space)) ++ ((option ++ (space ++ stage)) ++ space)) ++ (count ++ acts)) ++ cut) ++ end
    ≡ (((((((word ++ tid) ++ (space ++ script)) ++ (space ++ option)) ++ (space ++ stage)) ++ (space ++ count)) ++ acts) ++ cut) ++ end
item_words word tid space script option stage count acts cut end = simp append_assoc

-- the words of a line about a transaction that runs
pub running_words : (word tid space script class count acts end : List ℕ)
    → ((((word ++ ((tid ++ (space ++ script)) ++ space)) ++ class) ++ space) ++ (count ++ acts)) ++ end
    ≡ (((((word ++ tid) ++ (space ++ script)) ++ (space ++ class)) ++ (space ++ count)) ++ acts) ++ end
running_words word tid space script class count acts end = simp append_assoc

-- the words of a line about a commit
pub log_words : (word number space tid script way end : List ℕ)
    → ((((word ++ number) ++ space) ++ ((tid ++ (space ++ script)) ++ space)) ++ way) ++ end
    ≡ ((((word ++ number) ++ (space ++ tid)) ++ (space ++ script)) ++ (space ++ way)) ++ end
log_words word number space tid script way end = simp append_assoc

-- the words of a line about a read
pub read_words : (word number space question equals answer end : List ℕ)
    → (((((word ++ number) ++ space) ++ question) ++ equals) ++ answer) ++ end
    ≡ ((((word ++ number) ++ (space ++ question)) ++ equals) ++ answer) ++ end
read_words word number space question equals answer end = simp append_assoc

-- the words of a file's row
pub file_words : (word path space contents mode end : List ℕ)
    → ((word ++ path) ++ space) ++ (contents ++ (mode ++ end)) ≡ (((word ++ path) ++ (space ++ contents)) ++ mode) ++ end
file_words word path space contents mode end = simp append_assoc

-- the words of the state of a transaction
pub state_words : (option space stage end : List ℕ) → (option ++ space) ++ (stage ++ end) ≡ (option ++ (space ++ stage)) ++ end
state_words option space stage end = simp append_assoc

-- ---- `empty`, if nothing is to be told

-- a front of what is to be told
pub part_or_empty : (old new added : List ℕ) → AppendsPart old new added → AppendsPart old new (or_empty added)
part_or_empty old new [] p = no_part old new (or_empty []) (p.appended ∙ ap (λ t. old ++ t) (none p.part p.rest p.beginning) ∙ append-nil
    old)
  where
    none : (part rest : List ℕ) → part ++ rest ≡ [] → part ≡ []
    none [] rest is = refl
    none (b ∷ bs) rest is = absurd cc
part_or_empty old new (b ∷ bs) p = p
