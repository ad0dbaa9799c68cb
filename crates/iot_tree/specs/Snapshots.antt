-- What a tree knows, and a tree cut down to what is known of it.
use Rattle.std.specs.Prelude.{◌≡◌, ◌⊎◌, ◌&&◌, ◌||◌, Bool, true, false, List, [], ◌∷◌, is_some, if◌then◌else◌, Some, None}
use Rattle.std.specs.FinMap.{get, entries}
use Rattle.std.specs.List.{AllByRecursion, list_all, list_any, filter_map}
use Rattle.std.specs.Ordering.{eq_by_cmp}
use Rattle.std.specs.declared.cmp.Ordering.TheVariants.{Less}
use Rattle.iot_text.specs.Paths.{path_cmp, prefixes, is_below}
use Rattle.iot_tree.specs.Ancestors.{proper_prefixes}
use Rattle.iot_tree.specs.Questions.{answer_of}
use Rattle.iot_tree.specs.Rows.{map_of}
use Rattle.iot_tree.specs.Tree.{Nodes, Path, Row}
use Rattle.iot_tree.specs.declared.nodes.Node.{Node}
use Rattle.iot_tree.specs.declared.nodes.Node.TheVariants.{Dir, File, FarDir, FarFile}
use Rattle.iot_tree.specs.declared.questions.Answer.{Answer}
use Rattle.iot_tree.specs.declared.questions.Answer.TheVariants.{Away, Absent, IsDir, IsFile, Bytes, Names, On, Off}
use Rattle.iot_tree.specs.declared.questions.Question.{Question}
use Rattle.iot_tree.specs.declared.want.Want.{Want}
use Rattle.iot_tree.specs.declared.want.Want.TheVariants as wanted

-- ---- lists of paths

-- whether the path is one of these
abbrev pub has : List Path → Path → Bool
has paths p = list_any (eq_by_cmp path_cmp p) paths

-- the paths are in strictly rising order
abbrev pub ArePathsRising : List Path → Type 0
ArePathsRising [] = Unit {0}
ArePathsRising (p ∷ paths) = AllByRecursion (λ q. path_cmp p q ≡ Less) paths × ArePathsRising paths

-- ---- what is known

-- whether the inside of the object is known
abbrev pub is_known : Node → Bool
is_known Dir = true
is_known (File bytes mode) = true
is_known FarDir = false
is_known (FarFile mode) = false

-- the paths of the rows that pass the test
abbrev pub paths_where : (Row → Bool) → List Row → List Path
paths_where test = filter_map (λ row. if test row then Some row.0 else None)

-- the paths that t maps to Dir or File, in their order
abbrev pub known : Nodes → List Path
known t = paths_where (λ row. is_known row.1) (entries t)

-- what is wanted: nothing, p and all paths above it, or these and all paths of s below p
abbrev pub wants : Nodes → Want → Path → Bool
wants s wanted.Nothing q = false
wants s (wanted.Path p) q = has (prefixes p) q
wants s (wanted.Below p) q = has (prefixes p) q || (is_below q p && is_some (get s q))

-- the paths k, and those that are wanted
abbrev pub widen : (Path → Bool) → Nodes → Want → Path → Bool
widen k s want q = k q || wants s want q

-- ---- a tree cut down to what is known

-- the object without its inside
abbrev pub far : Node → Node
far Dir = FarDir
far (File bytes mode) = (FarFile mode)
far FarDir = FarDir
far (FarFile mode) = (FarFile mode)

-- the object with its inside, if that is known
abbrev pub seen : Bool → Node → Node
seen true node = node
seen false node = far node

-- whether the paths above p are all among k
abbrev pub is_reached : (Path → Bool) → Path → Bool
is_reached k p = list_all k (proper_prefixes p)

-- the rows of which all paths above are among k; a row whose own path is not among them is far
abbrev pub cut_rows : (Path → Bool) → List Row → List Row
cut_rows k = filter_map (λ row. if is_reached k row.0 then Some (row.0, seen (k row.0) row.1) else None)

-- the tree that has exactly these rows of s
abbrev pub prune : Nodes → (Path → Bool) → Nodes
prune s k = map_of (cut_rows k (entries s))

-- t answers each question as s does, or Away
abbrev pub AnswersOrAway : Nodes → Nodes → Type 0
AnswersOrAway s t = (question : Question) → (answer_of t question ≡ answer_of s question) ⊎ (answer_of t question ≡ Away)

-- whether the answer is away
abbrev pub is_away : Answer → Bool
is_away Away = true
is_away Absent = false
is_away IsDir = false
is_away IsFile = false
is_away (Bytes bytes) = false
is_away (Names children) = false
is_away On = false
is_away Off = false
