-- What acts print in turn, compared part by part.
use Rattle.std.proofs.Common.{◌≡◌, ℕ, ◌+◌, ◌<◌, ◌&&◌, Bool, true, false, List, [], ◌∷◌, ◌++◌, length, take, drop, get_or}
use Rattle.std.proofs.Common.{refl, sym, ap, ◌∙◌}
use Rattle.std.proofs.lemmas.List.{drop_more}
use Rattle.std.specs.Prelude.{bytes_eq}
use Rattle.iot_access.specs.Access.{lines_of}
use Rattle.iot_tree.specs.declared.acts.Act.{Act}
use Rattle.iot_audit.specs.Audits.{are_same}

-- one test before two others
grouped : (a b c both : Bool) → both ≡ (b && c) → (a && both) ≡ ((a && b) && c)
grouped true b c both is = is
grouped false b c both is = refl

-- lines are those of two parts if they begin with the first part, and go on with the other
in_parts : (lines said more : List (List ℕ))
    → are_same lines (said ++ more) ≡ (are_same (take (length said) lines) said && are_same (drop (length said) lines) more)
in_parts lines [] more = refl
in_parts [] (line ∷ said) more = refl
in_parts (first ∷ lines) (line ∷ said) more = grouped (bytes_eq first line) _ _ _ (in_parts lines said more)

module _ (acts : List Act) (at : ℕ) (act : Act) (said : List (List ℕ)) (in_range : at < length acts) (here : act ≡ get_or acts at act)
    (says : said ≡ act.lines) where
  -- the lines of the acts from here on are those of the first of them, and of the others
  first_lines : lines_of (drop at acts) ≡ said ++ lines_of (drop (at + 1) acts)
  first_lines =
      ap lines_of (drop_more acts at act in_range)
      ∙ ap (λ (act : Act). act.lines ++ lines_of (drop (at + 1) acts)) (sym here)
      ∙ ap (λ (lines : List (List ℕ)). lines ++ lines_of (drop (at + 1) acts)) (sym says)

  module _ (lines rest : List (List ℕ)) (so_far : are_same lines (lines_of acts) ≡ are_same rest (lines_of (drop at acts))) where
    here_parts : are_same lines (lines_of acts)
        ≡ (are_same (take (length said) rest) said && are_same (drop (length said) rest) (lines_of (drop (at + 1) acts)))
    here_parts = so_far ∙ ap (are_same rest) first_lines ∙ in_parts rest said (lines_of (drop (at + 1) acts))

    -- what is left begins with the lines of the act
    pub print_on : (after : List (List ℕ)) → are_same (take (length said) rest) said ≡ true → after ≡ drop (length said) rest
        → are_same lines (lines_of acts) ≡ are_same after (lines_of (drop (at + 1) acts))
    print_on after begins is =
        here_parts
        ∙ ap (λ (b : Bool). b && are_same (drop (length said) rest) (lines_of (drop (at + 1) acts))) begins
        ∙ ap (λ (left : List (List ℕ)). are_same left (lines_of (drop (at + 1) acts))) (sym is)

    -- it does not
    pub prints_other : are_same (take (length said) rest) said ≡ false → false ≡ are_same lines (lines_of acts)
    prints_other begins =
        sym (here_parts
        ∙ ap (λ (b : Bool). b && are_same (drop (length said) rest) (lines_of (drop (at + 1) acts))) begins)
