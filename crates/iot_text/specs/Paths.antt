-- Paths as lists of names, and their texts.
use Rattle.std.specs.Prelude.{ℕ, ◌≡◌, ◌<◌, ◌≤◌, ◌==◌, Bool, IsTrue, List, [], ◌∷◌, ◌++◌, length, take, map, ⊤, Option, Some, None, ◌-◌}
use Rattle.std.specs.Prelude.{◌&&◌, nat_lt, bytes_eq, slice_get, if◌then◌else◌}
use Rattle.std.specs.List.{list_all, flat_map, starts_with}
use Rattle.std.specs.Cmp.Lexicographic.{slice_cmp}
use Rattle.std.specs.Ordering.{nat_cmp}
use Rattle.std.specs.declared.cmp.Ordering.{Ordering}
use Rattle.iot_text.specs.Names.{is_name}
use Rattle.iot_text.specs.declared.faults.TextFault.{TextFault}
use Rattle.iot_text.specs.declared.faults.TextFault.TheVariants.{NoMemory, BadName, BadPath}

-- whether the byte comes before a name
abbrev pub is_slash : ℕ → Bool
is_slash b = b == 47

-- the list is a path: each of its elements is a name
abbrev pub IsPath : List (List ℕ) → Type 0
IsPath path = IsTrue (list_all is_name path)

-- each name after a `/`
abbrev pub names_text : List (List ℕ) → List ℕ
names_text names = flat_map (λ name. 47 ∷ name) names

-- the text of a path: `/` for the empty list, else each name after a `/`
abbrev pub path_text : List (List ℕ) → List ℕ
path_text [] = 47 ∷ []
path_text (name ∷ names) = names_text (name ∷ names)

-- the text is that of this path
pub record IsPathText (text : List ℕ) (path : List (List ℕ)) : Type 0 where
  pub names : IsPath path
  pub spelled : path_text path ≡ text

-- the text is that of no path
abbrev pub IsNoPathText : List ℕ → Type 0
IsNoPathText text = (path : List (List ℕ)) → ¬ IsPathText text path

-- a byte before the first part
abbrev pub extended : ℕ → List (List ℕ) → List (List ℕ)
extended b [] = (b ∷ []) ∷ []
extended b (part ∷ parts) = (b ∷ part) ∷ parts

-- the parts of a text between its slashes
abbrev pub slash_parts : List ℕ → List (List ℕ)
slash_parts [] = [] ∷ []
slash_parts (b ∷ bs) = if is_slash b then [] ∷ slash_parts bs else extended b (slash_parts bs)

-- the path that has this text after its first slash
abbrev pub names_of : List ℕ → Option (List (List ℕ))
names_of [] = Some []
names_of (b ∷ bs) = if list_all is_name (slash_parts (b ∷ bs)) then Some (slash_parts (b ∷ bs)) else None

-- the path that has this text, if one has
unfoldable pub path_of : List ℕ → Option (List (List ℕ))
path_of [] = None
path_of (b ∷ rest) = if is_slash b then names_of rest else None

-- the text begins the text of some path
abbrev pub BeginsPath : List ℕ → Type 0
BeginsPath text = (path : List (List ℕ)) × (rest : List ℕ) × IsPathText (text ++ rest) path

-- the first `at` bytes of the text begin the text of some path, and no more of them do
pub record LongestBeginning (text : List ℕ) (at : ℕ) : Type 0 where
  pub within : at ≤ length text
  pub begins : BeginsPath (take at text)
  pub longest : (n : ℕ) → at < n → n ≤ length text → ¬ BeginsPath (take n text)

-- why the text is not parsed as a path; running out of memory needs no reason
abbrev pub RefusesPath : List ℕ → TextFault → Type 0
RefusesPath text NoMemory = ⊤
RefusesPath text BadName = ⊥
RefusesPath text (BadPath at) = IsNoPathText text × LongestBeginning text at

-- the last name of a path, which the root's has not
abbrev pub last_of : List (List ℕ) → Option (List ℕ)
last_of path = slice_get path (length path - 1)

-- the path without its last name; the root's has no parent
abbrev pub parent_of : List (List ℕ) → Option (List (List ℕ))
parent_of [] = None
parent_of (name ∷ names) = Some (take (length names) (name ∷ names))

-- a path and its ancestors, from the root down
abbrev pub prefixes : List (List ℕ) → List (List (List ℕ))
prefixes [] = [] ∷ []
prefixes (name ∷ names) = [] ∷ map (λ below. name ∷ below) (prefixes names)

-- the path lies below the other: it has the names of the other, and more
abbrev pub IsBelow : List (List ℕ) → List (List ℕ) → Type 0
IsBelow path other = (name : List ℕ) × (names : List (List ℕ)) × (path ≡ other ++ name ∷ names)

-- whether it does
abbrev pub is_below : List (List ℕ) → List (List ℕ) → Bool
is_below path other = nat_lt (length other) (length path) && starts_with bytes_eq path other

-- paths in order: name by name, names by bytes, a prefix first
abbrev pub path_cmp : List (List ℕ) → List (List ℕ) → Ordering
path_cmp = slice_cmp (slice_cmp nat_cmp)
