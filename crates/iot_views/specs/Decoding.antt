-- Decoding a value of each type, with the first fault from the left.
use Rattle.std.specs.Prelude.{ℕ, List, [], ◌∷◌, map, Option, None, nat_lt}
use Rattle.std.specs.List.{list_all}
use Rattle.std.specs.declared.cmp.Ordering.{Ordering}
use Rattle.std.specs.Ordering.{nat_cmp}
use Rattle.std.specs.Cmp.Lexicographic.{slice_cmp}
use Rattle.iot_text.specs.Names.{is_name}
use Rattle.iot_text.specs.Paths.{path_cmp}
use Rattle.iot_tree.specs.declared.kinds.Kind as object
use Rattle.iot_tree.specs.declared.kinds.Kind.TheVariants as kinds
use Rattle.iot_tree.specs.declared.questions.Question.{Question}
use Rattle.iot_tree.specs.declared.questions.Question.TheVariants as asks
use Rattle.iot_tree.specs.declared.questions.Answer.{Answer}
use Rattle.iot_tree.specs.declared.questions.Answer.TheVariants as answers
use Rattle.iot_tree.specs.declared.updates.Update.{Update}
use Rattle.iot_tree.specs.declared.updates.Update.TheVariants.{Put, MakeDir, Remove, Move, SetMode}
use Rattle.iot_tree.specs.declared.acts.Read.{Read}
use Rattle.iot_tree.specs.declared.access.Access.{Access}
use Rattle.iot_tree.specs.declared.acts.Act.{Act}
use Rattle.iot_tree.specs.declared.labels.Label.{Label}
use Rattle.iot_tree.specs.declared.labels.OnConflict.{OnConflict}
use Rattle.iot_tree.specs.declared.labels.OnConflict.TheVariants.{Reexec, Resolver, Abort, Manual}
use Rattle.iot_tree.specs.declared.labels.Way.{Way}
use Rattle.iot_tree.specs.declared.labels.Way.TheVariants.{Certified, Reexecuted, Resolved}
use Rattle.iot_tree.specs.declared.limits.TheConstants.{ACT_LIMIT, CONTENTS_LIMIT, PRIORITY_LIMIT, WALK_LIMIT, WISH_LIMIT}
use Rattle.iot_tree.specs.declared.changes.Changes.{Changes}
use Rattle.iot_tree.specs.declared.nodes.Mode.{Mode}
use Rattle.iot_tree.specs.declared.nodes.Mode.TheVariants as modes
use Rattle.iot_tree.specs.declared.nodes.Node.{Node}
use Rattle.iot_tree.specs.declared.nodes.Node.TheVariants.{Dir, File, FarDir, FarFile}
use Rattle.iot_tree.specs.declared.profile.Reach.{Reach}
use Rattle.iot_tree.specs.declared.profile.Reach.TheVariants as reaches
use Rattle.iot_tree.specs.declared.profile.Wish.{Wish}
use Rattle.iot_tree.specs.declared.want.Want.{Want}
use Rattle.iot_tree.specs.declared.want.Want.TheVariants as wants
use Rattle.iot_tree.specs.Profiles.{Profile}
use Rattle.iot_tree.specs.Rows.{map_of}
use Rattle.iot_tree.specs.Tree.{Nodes, Path, Row}
use Rattle.iot_views.specs.Decoders.{Decoder, ◌>>=◌, done, tested, bytes_at, number_at, at_most, from_to, items_at, list_at, tagged}
use Rattle.iot_views.specs.Decoders.{optional_at}
use Rattle.iot_views.specs.Rules.{is_printable, is_content_byte, rises, is_after, path_follows, node_follows}

-- bytes that are a name
unfoldable pub name_at : Decoder (List ℕ)
name_at = do
  len ← number_at
  tested is_name (bytes_at len)

unfoldable pub path_at : Decoder (List (List ℕ))
path_at = list_at name_at

-- bytes that contents may have, not too many
unfoldable pub contents_at : Decoder (List ℕ)
contents_at = do
  len ← at_most CONTENTS_LIMIT
  tested (list_all is_content_byte) (bytes_at len)

-- bytes that a line may have
unfoldable pub line_at : Decoder (List ℕ)
line_at = do
  len ← number_at
  tested (list_all is_printable) (bytes_at len)

unfoldable pub lines_at : Decoder (List (List ℕ))
lines_at = list_at line_at

-- a pair: the key, which has to rise, and then the value; a key that does not is a fault where it begins
unfoldable pub pair_at : {K V : Type 0} → (K → K → Ordering) → Decoder K → Decoder V → Option (K × V) → Decoder (K × V)
pair_at cmp key value previous = do
  k ← tested (rises cmp previous) key
  v ← value
  done (k, v)

-- pairs whose keys rise
abbrev pub table_at : {K V : Type 0} → (K → K → Ordering) → Decoder K → Decoder V → Decoder (List (K × V))
table_at cmp key value = do
  n ← number_at
  items_at (pair_at cmp key value) n None

unfoldable pub files_at : Decoder (List (List (List ℕ) × List ℕ))
files_at = table_at path_cmp path_at contents_at

-- the tag of a directory or of a file
unfoldable pub kind_at : Decoder object.Kind
kind_at = tagged ((3, done kinds.IsDir) ∷ (4, done kinds.IsFile) ∷ [])

unfoldable pub children_at : Decoder (List (List ℕ × object.Kind))
children_at = table_at (slice_cmp nat_cmp) name_at kind_at

-- a mode: 0 for off, 1 for on
unfoldable pub mode_at : Decoder Mode
mode_at = tagged ((0, done modes.Off) ∷ (1, done modes.On) ∷ [])

-- what a tag of a question is followed by
abbrev pub question_table : List (ℕ × Decoder Question)
question_table =
    (1, (do path ← path_at; done (asks.Kind path)))
    ∷ (2, (do path ← path_at; done (asks.Content path)))
    ∷ (3, (do path ← path_at; done (asks.Names path)))
    ∷ (4, (do path ← path_at; done (asks.Mode path)))
    ∷ []

unfoldable pub question_at : Decoder Question
question_at = tagged question_table

-- what a tag of an answer is followed by
abbrev pub answer_table : List (ℕ × Decoder Answer)
answer_table =
    (1, done answers.Away)
    ∷ (2, done answers.Absent)
    ∷ (3, done answers.IsDir)
    ∷ (4, done answers.IsFile)
    ∷ (5, (do contents ← contents_at; done (answers.Bytes contents)))
    ∷ (6, (do children ← children_at; done (answers.Names children)))
    ∷ (7, done answers.On)
    ∷ (8, done answers.Off)
    ∷ []

unfoldable pub answer_at : Decoder Answer
answer_at = tagged answer_table

unfoldable pub read_at : Decoder Read
read_at = do
  question ← question_at
  answer ← answer_at
  done (record { question = question; answer = answer })

unfoldable pub reads_at : Decoder (List Read)
reads_at = list_at read_at

-- what a tag of an update is followed by
abbrev pub update_table : List (ℕ × Decoder Update)
update_table =
    (1, (do path ← path_at; contents ← contents_at; done (Put path contents)))
    ∷ (2, (do path ← path_at; done (MakeDir path)))
    ∷ (3, (do path ← path_at; done (Remove path)))
    ∷ (4, (do path ← path_at; other ← path_at; done (Move path other)))
    ∷ (5, (do path ← path_at; mode ← mode_at; done (SetMode path mode)))
    ∷ []

unfoldable pub update_at : Decoder Update
update_at = tagged update_table

-- 0, or an update
unfoldable pub optional_update_at : Decoder (Option Update)
optional_update_at = optional_at update_at

unfoldable pub act_at : Decoder Act
act_at = do
  reads ← reads_at
  update ← optional_update_at
  lines ← lines_at
  done (record { reads = reads; update = update; lines = lines })

-- acts, not too many
unfoldable pub acts_at : Decoder (List Act)
acts_at = do
  n ← at_most ACT_LIMIT
  items_at (λ _. act_at) n None

unfoldable pub way_at : Decoder Way
way_at = tagged ((1, done Certified) ∷ (2, done Reexecuted) ∷ (3, done Resolved) ∷ [])

unfoldable pub label_at : Decoder Label
label_at = do
  client ← at_most 7
  tid ← number_at
  script ← name_at
  budget ← at_most ACT_LIMIT
  way ← way_at
  kept ← files_at
  done (record { client = client; tid = tid; script = script; budget = budget; way = way; kept = kept })

-- what a tag of an option is followed by
abbrev pub option_table : List (ℕ × Decoder OnConflict)
option_table =
    (1, done Reexec)
    ∷ (2, (do script ← name_at; done (Resolver script)))
    ∷ (3, done Abort)
    ∷ (4, done Manual)
    ∷ []

unfoldable pub option_at : Decoder OnConflict
option_at = tagged option_table

-- a number of acts, not too many
abbrev pub budget_at : Decoder ℕ
budget_at = at_most ACT_LIMIT

-- a base read: the read, and then its place
unfoldable pub base_at : Decoder (Read × ℕ)
base_at = do
  read ← read_at
  place ← number_at
  done (read, place)

-- the reads, and their places
abbrev pub parted : List (Read × ℕ) → List Read × List ℕ
parted bases = (map (λ base. base.0) bases, map (λ base. base.1) bases)

abbrev pub bases_at : Decoder (List Read × List ℕ)
bases_at = do
  bases ← list_at base_at
  done (parted bases)

abbrev pub updates_at : Decoder (List Update)
updates_at = list_at update_at

unfoldable pub access_at : Decoder Access
access_at = do
  bases ← bases_at
  updates ← updates_at
  done (record { reads = bases.0; updates = updates; places = bases.1 })

-- a path that is greater than the one before it; one that is not is a fault where it begins
abbrev pub next_path_at : Option (List (List ℕ)) → Decoder (List (List ℕ))
next_path_at previous = tested (is_after path_cmp previous) path_at

-- paths that rise
unfoldable pub paths_at : Decoder (List (List (List ℕ)))
paths_at = do
  n ← number_at
  items_at next_path_at n None

-- what a tag of a node is followed by
abbrev pub node_table : List (ℕ × Decoder Node)
node_table =
    (1, done Dir)
    ∷ (2, (do mode ← mode_at; contents ← contents_at; done (File contents mode)))
    ∷ (3, done FarDir)
    ∷ (4, (do mode ← mode_at; done (FarFile mode)))
    ∷ []

unfoldable pub node_at : Decoder Node
node_at = tagged node_table

-- a row that may follow the one before it: a path that may not, or else a node that may not, is a fault where it begins
unfoldable pub row_at : Option Row → Decoder Row
row_at previous = do
  path ← tested (path_follows previous) path_at
  node ← tested (node_follows previous) node_at
  done (path, node)

-- a number that is not 0; a 0 is a fault where it begins
abbrev pub at_least_one : Decoder ℕ
at_least_one = tested (λ n. nat_lt 0 n) number_at

-- rows of a tree: at least one
unfoldable pub rows_at : Decoder (List Row)
rows_at = do
  n ← at_least_one
  items_at row_at n None

unfoldable pub tree_at : Decoder Nodes
tree_at = do
  rows ← rows_at
  done (map_of rows)

-- what a tag of a want is followed by
abbrev pub want_table : List (ℕ × Decoder Want)
want_table =
    (1, done wants.Nothing)
    ∷ (2, (do path ← path_at; done (wants.Path path)))
    ∷ (3, (do path ← path_at; done (wants.Below path)))
    ∷ []

unfoldable pub want_at : Decoder Want
want_at = tagged want_table

-- what a client knows: paths that rise, with their stamps
unfoldable pub known_at : Decoder (List (Path × ℕ))
known_at = table_at path_cmp path_at number_at

-- a node, and then its stamp
unfoldable pub stamped_node_at : Decoder (Node × ℕ)
stamped_node_at = do
  node ← node_at
  stamp ← number_at
  done (node, stamp)

-- rows with their stamps, whose paths rise; they need not be those of a tree
unfoldable pub stamped_rows_at : Decoder (List (Path × (Node × ℕ)))
stamped_rows_at = table_at path_cmp path_at stamped_node_at

unfoldable pub changes_at : Decoder Changes
changes_at = do
  rows ← stamped_rows_at
  gone ← paths_at
  done (record { rows = rows; gone = gone })

-- how far a wish reaches: 0 for its path, 1 for the paths below it, too
unfoldable pub reach_at : Decoder Reach
reach_at = tagged ((0, done reaches.Path) ∷ (1, done reaches.Below) ∷ [])

unfoldable pub wish_at : Decoder Wish
wish_at = do
  priority ← from_to 1 PRIORITY_LIMIT
  path ← path_at
  reach ← reach_at
  done (record { priority = priority; path = path; reach = reach })

-- wishes, not too many
unfoldable pub profile_at : Decoder Profile
profile_at = do
  n ← at_most WISH_LIMIT
  items_at (λ _. wish_at) n None

-- a limit within which paths are taken along
abbrev pub walk_limit_at : Decoder ℕ
walk_limit_at = from_to 1 WALK_LIMIT
