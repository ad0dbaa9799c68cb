-- Texts that lie in bytes, one after the other.
use Rattle.std.proofs.Common.{◌≡◌, ℕ, ◌+◌, ◌<◌, ◌≤◌, List, [], ◌∷◌, ◌++◌, length, drop, get_or, refl, sym, ap, ◌∙◌, append_assoc, arith}
use Rattle.std.proofs.Common.{length-append, add-one}
use Rattle.std.proofs.lemmas.List.{drop-drop, drop_at, drop_more, get_or-drop}
use Rattle.iot_codec.specs.Places.{LiesAt}

-- nothing lies anywhere in the bytes
pub lies_none : (bytes : List ℕ) (at : ℕ) → at ≤ length bytes → LiesAt bytes at [] at
lies_none bytes at within = record { there = refl; long = omega arith; within = within }

-- two texts make one
pub lies_then : (bytes : List ℕ) (at mid end : ℕ) (one other : List ℕ) → LiesAt bytes at one mid → LiesAt bytes mid other end
    → LiesAt bytes at (one ++ other) end
lies_then bytes at mid end one other p q = record {
  there = p.there ∙ ap (λ (t : List ℕ). one ++ t) q.there ∙ sym (append_assoc one other (drop end bytes));
  long = omega (arith, p.long, q.long, length-append one other);
  within = q.within;
}

-- what is left after the front of a text
rest_is : (bytes : List ℕ) (at : ℕ) (one rest : List ℕ) → drop at bytes ≡ one ++ rest → drop (at + length one) bytes ≡ rest
rest_is bytes at one rest e =
    sym (drop-drop (length one) at bytes) ∙ ap (λ (t : List ℕ). drop (length one) t) e ∙ drop_at one rest (length one) refl

-- a text that lies there begins with its front
pub lies_first : (bytes : List ℕ) (at end : ℕ) (one other : List ℕ) → LiesAt bytes at (one ++ other) end
    → LiesAt bytes at one (at + length one)
lies_first bytes at end one other p =
    let parted : drop at bytes ≡ one ++ (other ++ drop end bytes) = p.there ∙ append_assoc one other (drop end bytes) in
    record {
      there = parted ∙ ap (λ (t : List ℕ). one ++ t) (sym (rest_is bytes at one (other ++ drop end bytes) parted));
      long = refl;
      within = omega (arith, p.long, p.within, length-append one other);
    }

-- and its back lies after that
pub lies_second : (bytes : List ℕ) (at end : ℕ) (one other : List ℕ) → LiesAt bytes at (one ++ other) end
    → LiesAt bytes (at + length one) other end
lies_second bytes at end one other p = record {
  there = rest_is bytes at one (other ++ drop end bytes) (p.there ∙ append_assoc one other (drop end bytes));
  long = omega (arith, p.long, length-append one other);
  within = p.within;
}

-- a text that lies there is no longer than all the bytes
pub lies_short : (bytes : List ℕ) (at end : ℕ) (text : List ℕ) → LiesAt bytes at text end → length text ≤ length bytes
lies_short bytes at end text p = omega (arith, p.long, p.within)

-- a text from its first byte on
pub lies_tag : (bytes : List ℕ) (at end tag : ℕ) (text : List ℕ) → at < length bytes → get_or bytes at 0 ≡ tag
    → LiesAt bytes (at + 1) text end → LiesAt bytes at (tag ∷ text) end
lies_tag bytes at end tag text within is p = record {
  there = drop_more bytes at 0 within ∙ (λ i. is i ∷ p.there i);
  long = omega (arith, p.long, add-one (length text));
  within = p.within;
}

-- the first byte of a text that lies there
pub tag_within : (bytes : List ℕ) (at end tag : ℕ) (text : List ℕ) → LiesAt bytes at (tag ∷ text) end → at < length bytes
tag_within bytes at end tag text p = omega (arith, p.long, p.within, add-one (length text))

pub tag_is : (bytes : List ℕ) (at end tag : ℕ) (text : List ℕ) → LiesAt bytes at (tag ∷ text) end → get_or bytes at 0 ≡ tag
tag_is bytes at end tag text p = rw (← add-zero-right at, ← get_or-drop at bytes 0 0, p.there) refl
  where
    add-zero-right : (n : ℕ) → n + 0 ≡ n
    add-zero-right n = omega arith

-- and the rest lies after it
pub lies_after_tag : (bytes : List ℕ) (at end tag : ℕ) (text : List ℕ) → LiesAt bytes at (tag ∷ text) end → LiesAt bytes (at + 1) text end
lies_after_tag bytes at end tag text p = lies_second bytes at end (tag ∷ []) text p
