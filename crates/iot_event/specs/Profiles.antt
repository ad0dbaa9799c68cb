-- What the lines of a profile are: its wishes, or the fault of the first bad line.
use Rattle.std.specs.Prelude.{ℕ, ◌+◌, not, nat_lt, List, [], ◌∷◌, ◌++◌, length, Option, Some, None, Result, Ok, Err}
use Rattle.std.specs.Prelude.{codes, bytes_eq, if◌then◌else◌}
use Rattle.std.specs.Option.{option_map, option_and_then}
use Rattle.iot_lines.specs.Words.{words, is_skipped}
use Rattle.iot_text.specs.Paths.{path_of}
use Rattle.iot_tree.specs.Profiles.{Profile}
use Rattle.iot_tree.specs.declared.limits.TheConstants.{PRIORITY_LIMIT, WISH_LIMIT}
use Rattle.iot_tree.specs.declared.profile.Reach.{Reach}
use Rattle.iot_tree.specs.declared.profile.Reach.TheVariants.{Path, Below}
use Rattle.iot_tree.specs.declared.profile.Wish.{Wish}
use Rattle.iot_event.specs.Bytes.{fits_line}
use Rattle.iot_event.specs.Numbers.{number_of}
use Rattle.iot_event.specs.Closing.{Closed}
use Rattle.iot_event.specs.declared.fault.EventFault.{EventFault}
use Rattle.iot_event.specs.declared.fault.EventFault.TheVariants.{BadLine, TooMany}

-- a wish of this reach, if the priority is one and the path is
abbrev pub wish_with : (priority path : List ℕ) → Reach → Option Wish
wish_with priority path reach =
    option_and_then (λ n. option_map (λ p. record { priority = n; path = p; reach = reach }) (path_of path))
    (number_of priority PRIORITY_LIMIT)

-- the wish that these words are, `PRIORITY P` or `PRIORITY P below`, if they are one
abbrev pub wish_of : (words : List (List ℕ)) → Option Wish
wish_of (priority ∷ path ∷ []) = wish_with priority path Path
wish_of (priority ∷ path ∷ last ∷ []) = if bytes_eq last (codes "below") then wish_with priority path Below else None
wish_of _ = None

-- a wish after these, if there is one and there may be one more; else the fault of the line of this number
abbrev pub wish_after : (before : Profile) → Option Wish → (number : ℕ) → Result Profile EventFault
wish_after before None number = Err (BadLine number)
wish_after before (Some wish) number = if nat_lt (length before) WISH_LIMIT then Ok (before ++ wish ∷ []) else Err (TooMany number)

-- the wishes after a line inside, if these come before it, or its fault; the rule on bytes and length comes first
abbrev pub after_line : (line : List ℕ) (number : ℕ) (before : Profile) → Result Profile EventFault
after_line line number before =
    if not (fits_line line) then Err (BadLine number)
    else if is_skipped line then Ok before
    else wish_after before (wish_of (words line)) number

-- the fault, or what comes after these wishes
abbrev pub go_on : Result Profile EventFault → (next : Profile → Result Profile EventFault) → Result Profile EventFault
go_on (Ok wishes) next = next wishes
go_on (Err fault) next = Err fault

-- the wishes after the lines inside, the first of which has this number, if these come before them; or the first fault
abbrev pub wishes_of : (lines : List (List ℕ)) (number : ℕ) (before : Profile) → Result Profile EventFault
wishes_of [] number before = Ok before
wishes_of (line ∷ later) number before = go_on (after_line line number before) (λ after. wishes_of later (number + 1) after)

-- the profile, if its closing line, of this number, keeps the rule on bytes and length
abbrev pub closed_with : (closing : List ℕ) (number : ℕ) (profile : Profile) → Result Profile EventFault
closed_with closing number profile = if fits_line closing then Ok profile else Err (BadLine number)

-- the profile that these lines are, the first of which inside has this number; or the fault of the first bad line
abbrev pub profile_of : Closed → (first : ℕ) → Result Profile EventFault
profile_of block first = go_on (wishes_of block.inside first []) (λ wishes. closed_with block.closing (first + length block.inside) wishes)
