-- Laws of profiles: what the lines of one give is a profile.
use Rattle.std.proofs.Common.{◌≡◌, ℕ, ◌+◌, ◌<◌, not, nat_lt, true, List, [], ◌∷◌, ◌++◌, length, bytes_eq, codes}
use Rattle.std.proofs.Common.{Option, Some, None, Result, Ok, Err, IfOk, refl, subst, arith, length-append}
use Rattle.std.specs.List.{AllByRecursion}
use Rattle.std.specs.Map.{lookup}
use Rattle.std.proofs.lemmas.Bool.{cond_both}
use Rattle.std.proofs.lemmas.Bool.Decides.{nat_tests}
use Rattle.iot_lines.specs.Words.{words, is_skipped}
use Rattle.iot_text.specs.Paths.{path_of}
use Rattle.iot_tree.specs.Profiles.{Profile, IsWish, IsProfile}
use Rattle.iot_tree.specs.declared.limits.TheConstants.{PRIORITY_LIMIT, WISH_LIMIT}
use Rattle.iot_tree.specs.declared.profile.Reach.{Reach}
use Rattle.iot_tree.specs.declared.profile.Reach.TheVariants.{Path, Below}
use Rattle.iot_tree.specs.declared.profile.Wish.{Wish}
use Rattle.iot_event.specs.Bytes.{fits_line}
use Rattle.iot_event.specs.Closing.{Closed}
use Rattle.iot_event.specs.Profiles.{wish_with, wish_of, wish_after, after_line, go_on, wishes_of, profile_of}
use Rattle.iot_event.specs.declared.fault.EventFault.{EventFault}
use Rattle.iot_event.specs.declared.fault.EventFault.TheVariants.{BadLine, TooMany}
use Rattle.iot_event.proofs.FormsLaws.{Fits, none_fits, if_fits, map_fits, then_fits, number_fits, path_fits}

-- ---- a line's wish

wish_with_fits : (priority path : List ℕ) (reach : Reach) → Fits IsWish (wish_with priority path reach)
wish_with_fits priority path reach =
    then_fits _ _ (number_fits priority PRIORITY_LIMIT)
    (λ n within. map_fits _ _ (path_fits path (path_of path) refl) (λ p is. record { least = within.0; most = within.1; path = is }))

wish_fits : (found : List (List ℕ)) → Fits IsWish (wish_of found)
wish_fits [] = none_fits
wish_fits (a ∷ []) = none_fits
wish_fits (a ∷ b ∷ []) = wish_with_fits a b Path
wish_fits (a ∷ b ∷ c ∷ []) = if_fits (bytes_eq c (codes "below")) _ _ (wish_with_fits a b Below) none_fits
wish_fits (a ∷ b ∷ c ∷ d ∷ more) = none_fits

-- ---- all of them

-- the wishes that come out, if any do, are a profile; as a record, which is found by its name
record Yields (result : Result Profile EventFault) : Type 0 where
  yields : IfOk result IsProfile

refused : (fault : EventFault) → Yields (Err fault)
refused fault = record { yields = tt }

each_push : (before : Profile) (wish : Wish) → AllByRecursion IsWish before → IsWish wish → AllByRecursion IsWish (before ++ wish ∷ [])
each_push [] wish all is = (is, tt)
each_push (first ∷ more) wish all is = (all.0, each_push more wish all.1 is)

push_yields : (before : Profile) (wish : Wish) → IsProfile before → IsWish wish → nat_lt (length before) WISH_LIMIT ≡ true
    → IsProfile (before ++ wish ∷ [])
push_yields before wish are is few =
    let less : length before < WISH_LIMIT = grind (arith, nat_tests) in
    record { few = omega (arith, less, length-append before (wish ∷ [])); each = each_push before wish are.each is }

wish_yields : (before : Profile) (wish : Option Wish) (number : ℕ) → IsProfile before → Fits IsWish wish
    → Yields (wish_after before wish number)
wish_yields before None number are fit = refused (BadLine number)
wish_yields before (Some wish) number are fit =
    cond_both (nat_lt (length before) WISH_LIMIT) (Ok (before ++ wish ∷ [])) (Err (TooMany number)) Yields
    (λ few. record { yields = push_yields before wish are fit.fits few })
    (λ many. refused (TooMany number))

line_yields : (line : List ℕ) (number : ℕ) (before : Profile) → IsProfile before → Yields (after_line line number before)
line_yields line number before are =
    cond_both (not (fits_line line)) (Err (BadLine number)) _ Yields
    (λ unfit. refused (BadLine number))
    (λ fits. cond_both (is_skipped line) (Ok before) (wish_after before (wish_of (words line)) number) Yields
    (λ skipped. record { yields = are })
    (λ said. wish_yields before (wish_of (words line)) number are (wish_fits (words line))))

go_on_yields : (wishes : Result Profile EventFault) (next : Profile → Result Profile EventFault) → Yields wishes
    → ((profile : Profile) → IsProfile profile → Yields (next profile)) → Yields (go_on wishes next)
go_on_yields (Ok profile) next first later = later profile first.yields
go_on_yields (Err fault) next first later = refused fault

wishes_yield : (lines : List (List ℕ)) (number : ℕ) (before : Profile) → IsProfile before → Yields (wishes_of lines number before)
wishes_yield [] number before are = record { yields = are }
wishes_yield (line ∷ later) number before are =
    go_on_yields (after_line line number before) _ (line_yields line number before are)
    (λ after is. wishes_yield later (number + 1) after is)

-- the lines of a profile give one, if they give any
profile_yields : (block : Closed) (first : ℕ) → Yields (profile_of block first)
profile_yields block first =
    go_on_yields (wishes_of block.inside first []) _ (wishes_yield block.inside first [] (record { few = omega arith; each = tt }))
    (λ wishes are. cond_both (fits_line block.closing) (Ok wishes) (Err (BadLine (first + length block.inside))) Yields
    (λ fits. record { yields = are })
    (λ unfit. refused (BadLine (first + length block.inside))))

pub is_profile : (block : Closed) (first : ℕ) (profile : Profile) → profile_of block first ≡ Ok profile → IsProfile profile
is_profile block first profile is = (subst Yields is (profile_yields block first)).yields

-- ---- profiles by their names

-- each of them is a profile
abbrev pub AreProfiles : List (List ℕ × Profile) → Type 0
AreProfiles named = AllByRecursion (λ (it : List ℕ × Profile). IsProfile it.1) named

pub are_profiles-push : (named : List (List ℕ × Profile)) (name : List ℕ) (profile : Profile) → AreProfiles named → IsProfile profile
    → AreProfiles (named ++ (name, profile) ∷ [])
are_profiles-push [] name profile are is = (is, tt)
are_profiles-push (first ∷ more) name profile are is = (are.0, are_profiles-push more name profile are.1 is)

pub named_fits : (name : List ℕ) (named : List (List ℕ × Profile)) → AreProfiles named → Fits IsProfile (lookup (bytes_eq name) named)
named_fits name [] are = none_fits
named_fits name (first ∷ more) are =
    if_fits (bytes_eq name first.0) (Some first.1) (lookup (bytes_eq name) more) (record { fits = are.0 }) (named_fits name more are.1)
