-- Reads that guard an update, by the tests and by the definition.
use Rattle.std.proofs.Common.{◌≡◌, ◌≢◌, ◌⊎◌, ℕ, ◌==◌, Bool, true, false, not, ◌&&◌, ◌||◌, List, [], ◌∷◌, length, get_or}
use Rattle.std.proofs.Common.{drop, ◌<◌, ◌+◌, Option, Some, None, inl, inr, refl, ap, ◌∙◌, arith, bytes_eq}
use Rattle.std.proofs.lemmas.Bool.{and_from, and_parts, or_cases, or_left, or_right, both_ways, not_from_false}
use Rattle.std.proofs.lemmas.Bool.{false_from_ne_true, eqb-true}
use Rattle.std.specs.List.{list_any}
use Rattle.std.specs.Cmp.Lexicographic.{pointwise, pointwise_decides, bytes_decides}
use Rattle.iot_tree.specs.Tree.{Path}
use Rattle.iot_tree.specs.declared.updates.Update.{Update}
use Rattle.iot_tree.specs.declared.updates.Update.TheVariants.{Put, MakeDir, Remove, Move, SetMode}
use Rattle.iot_tree.specs.declared.acts.Read.{Read}
use Rattle.iot_tree.specs.declared.questions.Question.{Question}
use Rattle.iot_tree.specs.declared.questions.Question.TheVariants.{Kind, Content, Names, Mode}
use Rattle.iot_tree.specs.declared.questions.Answer.{Answer}
use Rattle.iot_tree.specs.declared.questions.Answer.TheVariants as answers
use Rattle.iot_acts.specs.Paths.{parent_path, is_at_or_below}
use Rattle.iot_acts.specs.Guards.{Asked, AskedFree, GuardsPut, GuardsRemove, GuardsMove, GuardsSetMode, MayRemove, MayMove, GuardsIfAny}
use Rattle.iot_acts.specs.Guards.{over_file, over_contents, in_free, file_goes, empty_goes, file_to_file, dir_to_empty, any_to_free}
use Rattle.iot_acts.specs.Guards.{over_on}
use Rattle.iot_acts.specs.Guards.{over_off}
use Rattle.iot_kept.specs.declared.guards.Saying.TheVariants as sayings
use Rattle.iot_kept.specs.Guarding.{is_kind, is_contents, is_no_names, is_mode, is_said, says, said, is_free, is_root}
use Rattle.iot_kept.specs.Guarding.{guards_put, guards_remove, guards_move, may_move, guards}
use Rattle.iot_kept.proofs.FollowingLaws.{left_is}

-- ---- one of the reads passes a test

-- one from a place on does exactly if one of all does
pub record SaidOnWay (test : Read → Bool) (reads : List Read) (i : ℕ) : Type 0 where
  pub same : list_any test reads ≡ list_any test (drop i reads)

module _ (test : Read → Bool) (reads : List Read) (i : ℕ) (way : SaidOnWay test reads i) where
  module _ (read : Read) (within : i < length reads) (is : read ≡ get_or reads i read) where
    here : list_any test reads ≡ (test read || list_any test (drop (i + 1) reads))
    here = way.same ∙ ap (list_any test) (left_is reads i read within is)

-- ---- what a read says

read_is : (read : Read) (question : Question) (answer : Answer) → read.question ≡ question → read.answer ≡ answer
    → read ≡ record { question = question; answer = answer }
read_is read question answer q a = λ i. record { question = q i; answer = a i }

same_path : (at path : Path) → pointwise bytes_eq at path ≡ true → at ≡ path
same_path at path e = (pointwise_decides bytes_decides at path).0 e

own_path : (path : Path) → pointwise bytes_eq path path ≡ true
own_path path = (pointwise_decides bytes_decides path path).1 refl

not_both : {X : Type 0} (a : Bool) → (a && false) ≡ true → X
not_both a e = absurd (both_ways false refl (and_parts a false e).1)

not_false : (b : Bool) → not b ≡ true → b ≡ false
not_false true e = absurd cc
not_false false e = refl

absent_answer : (answer : Answer) → is_kind sayings.Absent answer ≡ true → answer ≡ answers.Absent
absent_answer answers.Away e = absurd cc
absent_answer answers.Absent e = refl
absent_answer answers.IsDir e = absurd cc
absent_answer answers.IsFile e = absurd cc
absent_answer (answers.Bytes bytes) e = absurd cc
absent_answer (answers.Names children) e = absurd cc
absent_answer answers.On e = absurd cc
absent_answer answers.Off e = absurd cc

absent_parts : (path : Path) (question : Question) (answer : Answer) → is_said path sayings.Absent question answer ≡ true
    → (question ≡ Kind path) × (answer ≡ answers.Absent)
absent_parts path (Kind at) answer e =
    let parts = and_parts (pointwise bytes_eq at path) (is_kind sayings.Absent answer) e in
    (ap Kind (same_path at path parts.0), absent_answer answer parts.1)
absent_parts path (Content at) answer e = not_both (pointwise bytes_eq at path) e
absent_parts path (Names at) answer e = not_both (pointwise bytes_eq at path) e
absent_parts path (Mode at) answer e = not_both (pointwise bytes_eq at path) e

absent_read : (path : Path) (read : Read) → says path sayings.Absent read ≡ true
    → read ≡ record { question = Kind path; answer = answers.Absent }
absent_read path read e =
    let parts = absent_parts path read.question read.answer e in
    read_is read (Kind path) answers.Absent parts.0 parts.1

dir_answer : (answer : Answer) → is_kind sayings.IsDir answer ≡ true → answer ≡ answers.IsDir
dir_answer answers.Away e = absurd cc
dir_answer answers.Absent e = absurd cc
dir_answer answers.IsDir e = refl
dir_answer answers.IsFile e = absurd cc
dir_answer (answers.Bytes bytes) e = absurd cc
dir_answer (answers.Names children) e = absurd cc
dir_answer answers.On e = absurd cc
dir_answer answers.Off e = absurd cc

dir_parts : (path : Path) (question : Question) (answer : Answer) → is_said path sayings.IsDir question answer ≡ true
    → (question ≡ Kind path) × (answer ≡ answers.IsDir)
dir_parts path (Kind at) answer e =
    let parts = and_parts (pointwise bytes_eq at path) (is_kind sayings.IsDir answer) e in
    (ap Kind (same_path at path parts.0), dir_answer answer parts.1)
dir_parts path (Content at) answer e = not_both (pointwise bytes_eq at path) e
dir_parts path (Names at) answer e = not_both (pointwise bytes_eq at path) e
dir_parts path (Mode at) answer e = not_both (pointwise bytes_eq at path) e

dir_read : (path : Path) (read : Read) → says path sayings.IsDir read ≡ true
    → read ≡ record { question = Kind path; answer = answers.IsDir }
dir_read path read e =
    let parts = dir_parts path read.question read.answer e in
    read_is read (Kind path) answers.IsDir parts.0 parts.1

file_answer : (answer : Answer) → is_kind sayings.IsFile answer ≡ true → answer ≡ answers.IsFile
file_answer answers.Away e = absurd cc
file_answer answers.Absent e = absurd cc
file_answer answers.IsDir e = absurd cc
file_answer answers.IsFile e = refl
file_answer (answers.Bytes bytes) e = absurd cc
file_answer (answers.Names children) e = absurd cc
file_answer answers.On e = absurd cc
file_answer answers.Off e = absurd cc

file_parts : (path : Path) (question : Question) (answer : Answer) → is_said path sayings.IsFile question answer ≡ true
    → (question ≡ Kind path) × (answer ≡ answers.IsFile)
file_parts path (Kind at) answer e =
    let parts = and_parts (pointwise bytes_eq at path) (is_kind sayings.IsFile answer) e in
    (ap Kind (same_path at path parts.0), file_answer answer parts.1)
file_parts path (Content at) answer e = not_both (pointwise bytes_eq at path) e
file_parts path (Names at) answer e = not_both (pointwise bytes_eq at path) e
file_parts path (Mode at) answer e = not_both (pointwise bytes_eq at path) e

file_read : (path : Path) (read : Read) → says path sayings.IsFile read ≡ true
    → read ≡ record { question = Kind path; answer = answers.IsFile }
file_read path read e =
    let parts = file_parts path read.question read.answer e in
    read_is read (Kind path) answers.IsFile parts.0 parts.1

bytes_answer : (answer : Answer) → is_contents sayings.HasBytes answer ≡ true → (bytes : List ℕ) × (answer ≡ answers.Bytes bytes)
bytes_answer answers.Away e = absurd cc
bytes_answer answers.Absent e = absurd cc
bytes_answer answers.IsDir e = absurd cc
bytes_answer answers.IsFile e = absurd cc
bytes_answer (answers.Bytes bytes) e = (bytes, refl)
bytes_answer (answers.Names children) e = absurd cc
bytes_answer answers.On e = absurd cc
bytes_answer answers.Off e = absurd cc

bytes_parts : (path : Path) (question : Question) (answer : Answer) → is_said path sayings.HasBytes question answer ≡ true
    → (question ≡ Content path) × ((bytes : List ℕ) × (answer ≡ answers.Bytes bytes))
bytes_parts path (Kind at) answer e = not_both (pointwise bytes_eq at path) e
bytes_parts path (Content at) answer e =
    let parts = and_parts (pointwise bytes_eq at path) (is_contents sayings.HasBytes answer) e in
    (ap Content (same_path at path parts.0), bytes_answer answer parts.1)
bytes_parts path (Names at) answer e = not_both (pointwise bytes_eq at path) e
bytes_parts path (Mode at) answer e = not_both (pointwise bytes_eq at path) e

empty_list : {X : Type 0} (xs : List X) → (length xs == 0) ≡ true → xs ≡ []
empty_list [] e = refl
empty_list (x ∷ xs) e = absurd (omega (arith, eqb-true (length (x ∷ xs)) 0 e))

empty_answer : (answer : Answer) → is_no_names sayings.IsEmpty answer ≡ true → answer ≡ answers.Names []
empty_answer answers.Away e = absurd cc
empty_answer answers.Absent e = absurd cc
empty_answer answers.IsDir e = absurd cc
empty_answer answers.IsFile e = absurd cc
empty_answer (answers.Bytes bytes) e = absurd cc
empty_answer (answers.Names children) e = ap answers.Names (empty_list children e)
empty_answer answers.On e = absurd cc
empty_answer answers.Off e = absurd cc

empty_parts : (path : Path) (question : Question) (answer : Answer) → is_said path sayings.IsEmpty question answer ≡ true
    → (question ≡ Names path) × (answer ≡ answers.Names [])
empty_parts path (Kind at) answer e = not_both (pointwise bytes_eq at path) e
empty_parts path (Content at) answer e = not_both (pointwise bytes_eq at path) e
empty_parts path (Names at) answer e =
    let parts = and_parts (pointwise bytes_eq at path) (is_no_names sayings.IsEmpty answer) e in
    (ap Names (same_path at path parts.0), empty_answer answer parts.1)
empty_parts path (Mode at) answer e = not_both (pointwise bytes_eq at path) e

empty_read : (path : Path) (read : Read) → says path sayings.IsEmpty read ≡ true
    → read ≡ record { question = Names path; answer = answers.Names [] }
empty_read path read e =
    let parts = empty_parts path read.question read.answer e in
    read_is read (Names path) (answers.Names []) parts.0 parts.1

mode_answer : (answer : Answer) → is_mode sayings.HasMode answer ≡ true → (answer ≡ answers.On) ⊎ (answer ≡ answers.Off)
mode_answer answers.Away e = absurd cc
mode_answer answers.Absent e = absurd cc
mode_answer answers.IsDir e = absurd cc
mode_answer answers.IsFile e = absurd cc
mode_answer (answers.Bytes bytes) e = absurd cc
mode_answer (answers.Names children) e = absurd cc
mode_answer answers.On e = inl refl
mode_answer answers.Off e = inr refl

mode_parts : (path : Path) (question : Question) (answer : Answer) → is_said path sayings.HasMode question answer ≡ true
    → (question ≡ Mode path) × ((answer ≡ answers.On) ⊎ (answer ≡ answers.Off))
mode_parts path (Kind at) answer e = not_both (pointwise bytes_eq at path) e
mode_parts path (Content at) answer e = not_both (pointwise bytes_eq at path) e
mode_parts path (Names at) answer e = not_both (pointwise bytes_eq at path) e
mode_parts path (Mode at) answer e =
    let parts = and_parts (pointwise bytes_eq at path) (is_mode sayings.HasMode answer) e in
    (ap Mode (same_path at path parts.0), mode_answer answer parts.1)

-- ---- what reads say

asked_from : (test : Read → Bool) (question : Question) (answer : Answer)
    → ((read : Read) → test read ≡ true → read ≡ record { question = question; answer = answer })
    → (reads : List Read) → list_any test reads ≡ true → Asked reads question answer
asked_from test question answer is [] e = absurd cc
asked_from test question answer is (read ∷ reads) e = elim (or_cases (test read) (list_any test reads) e) [
  | inl first ↦ inl (is read first)
  | inr later ↦ inr (asked_from test question answer is reads later)
]

asked_to : (test : Read → Bool) (question : Question) (answer : Answer) → test (record { question = question; answer = answer }) ≡ true
    → (reads : List Read) → Asked reads question answer → list_any test reads ≡ true
asked_to test question answer passes [] is = absurd is
asked_to test question answer passes (read ∷ reads) is = elim is [
  | inl first ↦ or_left (test read) (list_any test reads) (ap test first ∙ passes)
  | inr later ↦ or_right (test read) (list_any test reads) (asked_to test question answer passes reads later)
]

bytes_from : (path : Path) (reads : List Read) → said reads path sayings.HasBytes ≡ true
    → (bytes : List ℕ) × Asked reads (Content path) (answers.Bytes bytes)
bytes_from path [] e = absurd cc
bytes_from path (read ∷ reads) e = elim (or_cases (says path sayings.HasBytes read) (said reads path sayings.HasBytes) e) [
  | inl first ↦
      let parts = bytes_parts path read.question read.answer first in
      (parts.1.0, inl (read_is read (Content path) (answers.Bytes parts.1.0) parts.0 parts.1.1))
  | inr later ↦ let found = bytes_from path reads later in (found.0, inr found.1)
]

absent_from : (path : Path) (reads : List Read) → said reads path sayings.Absent ≡ true → Asked reads (Kind path) answers.Absent
absent_from path reads e = asked_from (says path sayings.Absent) (Kind path) answers.Absent (absent_read path) reads e

absent_to : (path : Path) (reads : List Read) → Asked reads (Kind path) answers.Absent → said reads path sayings.Absent ≡ true
absent_to path reads is =
    asked_to (says path sayings.Absent) (Kind path) answers.Absent
    (and_from (pointwise bytes_eq path path) (is_kind sayings.Absent answers.Absent) (own_path path) refl) reads is

dir_from : (path : Path) (reads : List Read) → said reads path sayings.IsDir ≡ true → Asked reads (Kind path) answers.IsDir
dir_from path reads e = asked_from (says path sayings.IsDir) (Kind path) answers.IsDir (dir_read path) reads e

dir_to : (path : Path) (reads : List Read) → Asked reads (Kind path) answers.IsDir → said reads path sayings.IsDir ≡ true
dir_to path reads is =
    asked_to (says path sayings.IsDir) (Kind path) answers.IsDir
    (and_from (pointwise bytes_eq path path) (is_kind sayings.IsDir answers.IsDir) (own_path path) refl) reads is

file_from : (path : Path) (reads : List Read) → said reads path sayings.IsFile ≡ true → Asked reads (Kind path) answers.IsFile
file_from path reads e = asked_from (says path sayings.IsFile) (Kind path) answers.IsFile (file_read path) reads e

file_to : (path : Path) (reads : List Read) → Asked reads (Kind path) answers.IsFile → said reads path sayings.IsFile ≡ true
file_to path reads is =
    asked_to (says path sayings.IsFile) (Kind path) answers.IsFile
    (and_from (pointwise bytes_eq path path) (is_kind sayings.IsFile answers.IsFile) (own_path path) refl) reads is

empty_from : (path : Path) (reads : List Read) → said reads path sayings.IsEmpty ≡ true → Asked reads (Names path) (answers.Names [])
empty_from path reads e = asked_from (says path sayings.IsEmpty) (Names path) (answers.Names []) (empty_read path) reads e

empty_to : (path : Path) (reads : List Read) → Asked reads (Names path) (answers.Names []) → said reads path sayings.IsEmpty ≡ true
empty_to path reads is =
    asked_to (says path sayings.IsEmpty) (Names path) (answers.Names [])
    (and_from (pointwise bytes_eq path path) (is_no_names sayings.IsEmpty (answers.Names [])) (own_path path) refl) reads is

bytes_to : (path : Path) (reads : List Read) (bytes : List ℕ) → Asked reads (Content path) (answers.Bytes bytes)
    → said reads path sayings.HasBytes ≡ true
bytes_to path reads bytes is =
    asked_to (says path sayings.HasBytes) (Content path) (answers.Bytes bytes)
    (and_from (pointwise bytes_eq path path) (is_contents sayings.HasBytes (answers.Bytes bytes)) (own_path path) refl) reads is

mode_later : (path : Path) (read : Read) (reads : List Read) → GuardsSetMode reads path → GuardsSetMode (read ∷ reads) path
mode_later path read reads (over_on asked) = over_on (inr asked)
mode_later path read reads (over_off asked) = over_off (inr asked)

mode_from : (path : Path) (reads : List Read) → said reads path sayings.HasMode ≡ true → GuardsSetMode reads path
mode_from path [] e = absurd cc
mode_from path (read ∷ reads) e = elim (or_cases (says path sayings.HasMode read) (said reads path sayings.HasMode) e) [
  | inl first ↦
      let parts = mode_parts path read.question read.answer first in
      elim parts.1 [
        | inl on ↦ over_on (inl (read_is read (Mode path) answers.On parts.0 on))
        | inr off ↦ over_off (inl (read_is read (Mode path) answers.Off parts.0 off))
      ]
  | inr later ↦ mode_later path read reads (mode_from path reads later)
]

mode_to : (path : Path) (reads : List Read) → GuardsSetMode reads path → said reads path sayings.HasMode ≡ true
mode_to path reads (over_on asked) =
    asked_to (says path sayings.HasMode) (Mode path) answers.On
    (and_from (pointwise bytes_eq path path) (is_mode sayings.HasMode answers.On) (own_path path) refl) reads asked
mode_to path reads (over_off asked) =
    asked_to (says path sayings.HasMode) (Mode path) answers.Off
    (and_from (pointwise bytes_eq path path) (is_mode sayings.HasMode answers.Off) (own_path path) refl) reads asked

-- ---- guards

module _ (reads : List Read) where
  free_from : (path : Path) → is_free reads path ≡ true → AskedFree reads path
  free_from path e =
      let parts = and_parts (said reads path sayings.Absent) (said reads (parent_path path) sayings.IsDir) e in
      record { absent = absent_from path reads parts.0; parent = dir_from (parent_path path) reads parts.1 }

  free_to : (path : Path) → AskedFree reads path → is_free reads path ≡ true
  free_to path free =
      and_from (said reads path sayings.Absent) (said reads (parent_path path) sayings.IsDir) (absent_to path reads free.absent)
      (dir_to (parent_path path) reads free.parent)

  put_from : (path : Path) → guards_put reads path ≡ true → GuardsPut reads path
  put_from path e =
      elim (or_cases (said reads path sayings.IsFile) (said reads path sayings.HasBytes || is_free reads path) e) [
        | inl file ↦ over_file (file_from path reads file)
        | inr more ↦ elim (or_cases (said reads path sayings.HasBytes) (is_free reads path) more) [
          | inl known ↦ let found = bytes_from path reads known in over_contents found.0 found.1
          | inr free ↦ in_free (free_from path free)
        ]
      ]

  put_to : (path : Path) → GuardsPut reads path → guards_put reads path ≡ true
  put_to path (over_file asked) =
      or_left (said reads path sayings.IsFile) (said reads path sayings.HasBytes || is_free reads path) (file_to path reads asked)
  put_to path (over_contents bytes asked) =
      or_right (said reads path sayings.IsFile) (said reads path sayings.HasBytes || is_free reads path)
      (or_left (said reads path sayings.HasBytes) (is_free reads path) (bytes_to path reads bytes asked))
  put_to path (in_free free) =
      or_right (said reads path sayings.IsFile) (said reads path sayings.HasBytes || is_free reads path)
      (or_right (said reads path sayings.HasBytes) (is_free reads path) (free_to path free))

not_root_from : (path : Path) → not (is_root path) ≡ true → path ≢ []
not_root_from path e is = both_ways (is_root path) (not_false (is_root path) e) (ap is_root is)

not_root_to : (path : Path) → path ≢ [] → not (is_root path) ≡ true
not_root_to path differ = not_from_false (is_root path) (false_from_ne_true (is_root path) (λ e. differ (empty_list path e)))

module _ (reads : List Read) where
  remove_from : (path : Path) → guards_remove reads path ≡ true → MayRemove reads path
  remove_from path e =
      let parts = and_parts (not (is_root path)) (said reads path sayings.IsFile || said reads path sayings.IsEmpty) e in
      record {
        not_root = not_root_from path parts.0;
        guard = elim (or_cases (said reads path sayings.IsFile) (said reads path sayings.IsEmpty) parts.1) [
          | inl file ↦ file_goes (file_from path reads file)
          | inr none ↦ empty_goes (empty_from path reads none)
        ];
      }

  goes_to : (path : Path) → GuardsRemove reads path → (said reads path sayings.IsFile || said reads path sayings.IsEmpty) ≡ true
  goes_to path (file_goes asked) = or_left (said reads path sayings.IsFile) (said reads path sayings.IsEmpty) (file_to path reads asked)
  goes_to path (empty_goes asked) = or_right (said reads path sayings.IsFile) (said reads path sayings.IsEmpty) (empty_to path reads asked)

  remove_to : (path : Path) → MayRemove reads path → guards_remove reads path ≡ true
  remove_to path may =
      and_from (not (is_root path)) (said reads path sayings.IsFile || said reads path sayings.IsEmpty) (not_root_to path may.not_root)
      (goes_to path may.guard)

  module _ (from to : Path) where
    abbrev files : Bool
    files = said reads from sayings.IsFile && said reads to sayings.IsFile

    abbrev dirs : Bool
    dirs = said reads from sayings.IsDir && said reads to sayings.IsEmpty

    abbrev any : Bool
    any = said reads from sayings.IsDir || said reads from sayings.IsFile

    move_from : guards_move reads from to ≡ true → GuardsMove reads from to
    move_from e = elim (or_cases files (dirs || (any && is_free reads to)) e) [
      | inl both ↦
          let parts = and_parts (said reads from sayings.IsFile) (said reads to sayings.IsFile) both in
          file_to_file (file_from from reads parts.0) (file_from to reads parts.1)
      | inr more ↦ elim (or_cases dirs (any && is_free reads to) more) [
        | inl both ↦
            let parts = and_parts (said reads from sayings.IsDir) (said reads to sayings.IsEmpty) both in
            dir_to_empty (dir_from from reads parts.0) (empty_from to reads parts.1)
        | inr both ↦
            let parts = and_parts any (is_free reads to) both in
            elim (or_cases (said reads from sayings.IsDir) (said reads from sayings.IsFile) parts.0) [
              | inl dir ↦ any_to_free (inl (dir_from from reads dir)) (free_from reads to parts.1)
              | inr file ↦ any_to_free (inr (file_from from reads file)) (free_from reads to parts.1)
            ]
      ]
    ]

    any_to : Asked reads (Kind from) answers.IsDir ⊎ Asked reads (Kind from) answers.IsFile → any ≡ true
    any_to (inl dir) = or_left (said reads from sayings.IsDir) (said reads from sayings.IsFile) (dir_to from reads dir)
    any_to (inr file) = or_right (said reads from sayings.IsDir) (said reads from sayings.IsFile) (file_to from reads file)

    move_to : GuardsMove reads from to → guards_move reads from to ≡ true
    move_to (file_to_file one other) =
        or_left files (dirs || (any && is_free reads to))
        (and_from (said reads from sayings.IsFile) (said reads to sayings.IsFile) (file_to from reads one) (file_to to reads other))
    move_to (dir_to_empty one other) =
        or_right files (dirs || (any && is_free reads to))
        (or_left dirs (any && is_free reads to)
        (and_from (said reads from sayings.IsDir) (said reads to sayings.IsEmpty) (dir_to from reads one) (empty_to to reads other)))
    move_to (any_to_free one free) =
        or_right files (dirs || (any && is_free reads to))
        (or_right dirs (any && is_free reads to) (and_from any (is_free reads to) (any_to one) (free_to reads to free)))

    abbrev last_two : Bool
    last_two = not (is_at_or_below to from) && guards_move reads from to

    may_from : may_move reads from to ≡ true → MayMove reads from to
    may_from e =
        let one = and_parts (not (is_root from)) (not (is_root to) && last_two) e in
        let two = and_parts (not (is_root to)) last_two one.1 in
        let three = and_parts (not (is_at_or_below to from)) (guards_move reads from to) two.1 in
        record {
          from_not_root = not_root_from from one.0;
          to_not_root = not_root_from to two.0;
          apart = not_false (is_at_or_below to from) three.0;
          guard = move_from three.1;
        }

    may_to : MayMove reads from to → may_move reads from to ≡ true
    may_to may =
        and_from (not (is_root from)) (not (is_root to) && last_two) (not_root_to from may.from_not_root)
        (and_from (not (is_root to)) last_two (not_root_to to may.to_not_root)
        (and_from (not (is_at_or_below to from)) (guards_move reads from to) (not_from_false (is_at_or_below to from) may.apart)
        (move_to may.guard)))

pub guards_from : (reads : List Read) (update : Option Update) → guards reads update ≡ true → GuardsIfAny reads update
guards_from reads None e = tt
guards_from reads (Some (Put path bytes)) e = put_from reads path e
guards_from reads (Some (MakeDir path)) e = free_from reads path e
guards_from reads (Some (Remove path)) e = remove_from reads path e
guards_from reads (Some (Move from to)) e = may_from reads from to e
guards_from reads (Some (SetMode path mode)) e = mode_from path reads e

pub guards_to : (reads : List Read) (update : Option Update) → GuardsIfAny reads update → guards reads update ≡ true
guards_to reads None given = refl
guards_to reads (Some (Put path bytes)) given = put_to reads path given
guards_to reads (Some (MakeDir path)) given = free_to reads path given
guards_to reads (Some (Remove path)) given = remove_to reads path given
guards_to reads (Some (Move from to)) given = may_to reads from to given
guards_to reads (Some (SetMode path mode)) given = mode_to path reads given
