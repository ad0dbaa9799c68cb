-- The access of acts that have spellings has one, if the tree before them has one.
use Rattle.std.proofs.Common.{ℕ, suc, ◌+◌, Bool, true, false, if◌then◌else◌, List, [], ◌∷◌, ◌++◌, map, drop, length}
use Rattle.std.proofs.Common.{Option, Some, None}
use Rattle.std.specs.Prelude.{bytes_eq}
use Rattle.std.specs.List.{AllByRecursion, starts_with}
use Rattle.iot_text.specs.Paths.{IsPath}
use Rattle.iot_text.proofs.PathsLaws.{IsPath-append, IsPath-drop}
use Rattle.iot_tree.specs.Tree.{Nodes, Path}
use Rattle.iot_tree.specs.declared.acts.Act.{Act}
use Rattle.iot_tree.specs.declared.acts.Read.{Read}
use Rattle.iot_tree.specs.declared.updates.Update.{Update}
use Rattle.iot_tree.specs.declared.updates.Update.TheVariants.{Put, MakeDir, Remove, Move, SetMode}
use Rattle.iot_tree.specs.declared.questions.Question.{Question}
use Rattle.iot_tree.specs.declared.questions.Question.TheVariants.{Kind, Content, Names as AskNames, Mode as AskMode}
use Rattle.iot_tree.specs.declared.questions.Answer.{Answer}
use Rattle.iot_tree.specs.declared.questions.Answer.TheVariants.{Away, Absent, IsDir, IsFile, Bytes, Names, On, Off}
use Rattle.iot_access.specs.Access.{AreNumbers, access_of, cons_update, lines_of, updates_of}
use Rattle.iot_access.specs.Asked.{cons_unless, first_asked, none_asked, or_asked}
use Rattle.iot_access.specs.BaseReads.{Base, origin, base_names, base_mode, settled, base_from, base_of, cons_base, based_reads, based}
use Rattle.iot_access.specs.BaseReads.{done_more}
use Rattle.iot_access.specs.Sources.{source, mode_source, hidden, carried}
use Rattle.iot_access.proofs.AccessLaws.{as_many_places}
use Rattle.iot_views.specs.Rules.{IsAccess, IsAct, IsAnswer, IsOptionalUpdate, IsQuestion, IsRead, IsUpdate, AreLines, AreReads, AreUpdates}
use Rattle.iot_limits.specs.Spelled.{IsSpelledTree}
use Rattle.iot_limits.proofs.AnswerLaws.{tree_answers}

-- ---- where a row comes from

abbrev IsPathIfAny : Option Path → Type 0
IsPathIfAny None = Unit {0}
IsPathIfAny (Some p) = IsPath p

hidden_path : (p : Path) (s : Path → Option Path) (k : Path) → IsPathIfAny (s k) → IsPathIfAny (hidden p s k)
hidden_path p s k is = by (starts_with bytes_eq k p)
  where
    by : (b : Bool) → IsPathIfAny (if b then None else s k)
    by true = tt
    by false = is

came_path : (p q k : Path) → IsPath p → IsPath k → IsPath (p ++ drop (length q) k)
came_path p q k valid is = IsPath-append p (drop (length q) k) valid (IsPath-drop (length q) k is)

carried_path : (p q : Path) (s : Path → Option Path) (k : Path) → IsPathIfAny (s (p ++ drop (length q) k)) → IsPathIfAny (s k)
    → IsPathIfAny (carried p q s k)
carried_path p q s k inside outside = by (starts_with bytes_eq k q)
  where
    by : (b : Bool) → IsPathIfAny (if b then s (p ++ drop (length q) k) else hidden p s k)
    by true = inside
    by false = hidden_path p s k outside

source_path : (done : List Update) → AllByRecursion IsUpdate done → (k : Path) → IsPath k → IsPathIfAny (source done k)
source_path [] are k is = is
source_path (Put p bytes ∷ done) are k is = hidden_path p (source done) k (source_path done are.1 k is)
source_path (MakeDir p ∷ done) are k is = hidden_path p (source done) k (source_path done are.1 k is)
source_path (Remove p ∷ done) are k is = hidden_path p (source done) k (source_path done are.1 k is)
source_path (Move p q ∷ done) are k is =
    carried_path p q (source done) k (source_path done are.1 (p ++ drop (length q) k) (came_path p q k are.0.0 is))
    (source_path done are.1 k is)
source_path (SetMode p mode ∷ done) are k is = source_path done are.1 k is

mode_source_path : (done : List Update) → AllByRecursion IsUpdate done → (k : Path) → IsPath k → IsPathIfAny (mode_source done k)
mode_source_path [] are k is = is
mode_source_path (Put p bytes ∷ done) are k is = mode_source_path done are.1 k is
mode_source_path (MakeDir p ∷ done) are k is = hidden_path p (mode_source done) k (mode_source_path done are.1 k is)
mode_source_path (Remove p ∷ done) are k is = hidden_path p (mode_source done) k (mode_source_path done are.1 k is)
mode_source_path (Move p q ∷ done) are k is =
    carried_path p q (mode_source done) k (mode_source_path done are.1 (p ++ drop (length q) k) (came_path p q k are.0.0 is))
    (mode_source_path done are.1 k is)
mode_source_path (SetMode p mode ∷ done) are k is = hidden_path p (mode_source done) k (mode_source_path done are.1 k is)

origin_path : (done : List Update) → AllByRecursion IsUpdate done → (question : Question) → IsQuestion question
    → IsPathIfAny (origin done question)
origin_path done are (Kind p) is = source_path done are p is
origin_path done are (Content p) is = source_path done are p is
origin_path done are (AskNames p) is = source_path done are p is
origin_path done are (AskMode p) is = mode_source_path done are p is

-- ---- base reads

abbrev IsReadIfAny : Option Read → Type 0
IsReadIfAny None = Unit {0}
IsReadIfAny (Some read) = IsRead read

abbrev AreBaseReads : List Base → Type 0
AreBaseReads bases = AllByRecursion (λ base. IsRead base.1) bases

module _ (before : Nodes) (spelled : IsSpelledTree before) where
  names_spelled : (o : Path) (answer : Answer) → IsAnswer answer → IsAnswer (base_names before o answer)
  names_spelled o (Names children) has = tree_answers before spelled (AskNames o)
  names_spelled o Away has = tt
  names_spelled o Absent has = tt
  names_spelled o IsDir has = tt
  names_spelled o IsFile has = tt
  names_spelled o (Bytes bytes) has = has
  names_spelled o On has = tt
  names_spelled o Off has = tt

  mode_spelled : (o : Path) (answer : Answer) → IsAnswer (base_mode before o answer)
  mode_spelled o Away = tt
  mode_spelled o _ = tree_answers before spelled (AskMode o)

  settled_spelled : (question : Question) (answer : Answer) → IsQuestion question → IsReadIfAny (settled question answer)
  settled_spelled question Away is = record { question = is; answer = tt }
  settled_spelled question Absent is = tt
  settled_spelled question IsDir is = tt
  settled_spelled question IsFile is = tt
  settled_spelled question (Bytes bytes) is = tt
  settled_spelled question (Names children) is = tt
  settled_spelled question On is = tt
  settled_spelled question Off is = tt

  from_spelled : (question : Question) (answer : Answer) (found : Option Path) → IsQuestion question → IsAnswer answer → IsPathIfAny found
      → IsReadIfAny (base_from before question answer found)
  from_spelled (Kind p) answer (Some o) is has path = record { question = path; answer = has }
  from_spelled (Content p) answer (Some o) is has path = record { question = path; answer = has }
  from_spelled (AskNames p) answer (Some o) is has path = record { question = path; answer = names_spelled o answer has }
  from_spelled (AskMode p) answer (Some o) is has path = record { question = path; answer = mode_spelled o answer }
  from_spelled question answer None is has path = settled_spelled question answer is

  cons_spelled : (place : ℕ) (found : Option Read) (rest : List Base) → IsReadIfAny found → AreBaseReads rest
      → AreBaseReads (cons_base place found rest)
  cons_spelled place None rest is are = are
  cons_spelled place (Some read) rest is are = (is, are)

  reads_spelled : (reads : List Read) (done : List Update) (place : ℕ) (rest : List Base) → AreReads reads → AllByRecursion IsUpdate done
      → AreBaseReads rest → AreBaseReads (based_reads reads before done place rest)
  reads_spelled [] done place rest are updates more = more
  reads_spelled (read ∷ reads) done place rest are updates more =
      cons_spelled place (base_of before done read) (based_reads reads before done (suc place) rest)
      (from_spelled read.question read.answer (origin done read.question) are.0.question are.0.answer
      (origin_path done updates read.question are.0.question))
      (reads_spelled reads done (suc place) rest are.1 updates more)

  done_spelled : (done : List Update) (update : Option Update) → AllByRecursion IsUpdate done → IsOptionalUpdate update
      → AllByRecursion IsUpdate (done_more done update)
  done_spelled done None are is = are
  done_spelled done (Some update) are is = (is, are)

  bases_spelled : (acts : List Act) (done : List Update) (place : ℕ) → AllByRecursion IsAct acts → AllByRecursion IsUpdate done
      → AreBaseReads (based acts before done place)
  bases_spelled [] done place are updates = tt
  bases_spelled (act ∷ acts) done place are updates =
      reads_spelled act.reads done place (based acts before (done_more done act.update) (length act.reads + place)) are.0.reads updates
      (bases_spelled acts (done_more done act.update) (length act.reads + place) are.1 (done_spelled done act.update updates are.0.update))

-- ---- the access

some_spelled : (bases : List Base) (f : Question → Bool) → AreBaseReads bases → AreBaseReads (first_asked f bases)
some_spelled [] f are = tt
some_spelled (base ∷ bases) f are = by (f base.1.question) (some_spelled bases (or_asked f base.1.question) are.1)
  where
    by : (b : Bool) → AreBaseReads (first_asked (or_asked f base.1.question) bases)
        → AreBaseReads (cons_unless b base (first_asked (or_asked f base.1.question) bases))
    by true rest = rest
    by false rest = (are.0, rest)

reads_apart : (bases : List Base) → AreBaseReads bases → AreReads (map (λ base. base.1) bases)
reads_apart [] are = tt
reads_apart (base ∷ bases) are = (are.0, reads_apart bases are.1)

pub updates_spelled : (acts : List Act) → AllByRecursion IsAct acts → AreUpdates (updates_of acts)
updates_spelled [] are = tt
updates_spelled (act ∷ acts) are = by act.update are.0.update (updates_spelled acts are.1)
  where
    by : (update : Option Update) → IsOptionalUpdate update → AreUpdates (updates_of acts)
        → AreUpdates (cons_update update (updates_of acts))
    by None is later = later
    by (Some update) is later = (is, later)

pub asked_spelled : (acts : List Act) (before : Nodes) → AllByRecursion IsAct acts → IsSpelledTree before
    → AreReads (access_of acts before).reads
asked_spelled acts before are spelled =
    reads_apart (first_asked none_asked (based acts before [] 1))
    (some_spelled (based acts before [] 1) none_asked (bases_spelled before spelled acts [] 1 are tt))

pub access_spelled : (acts : List Act) (before : Nodes) → AllByRecursion IsAct acts → IsSpelledTree before
    → AreNumbers (access_of acts before).places → IsAccess (access_of acts before)
access_spelled acts before are spelled numbers = record {
  bases = record {
    even = as_many_places acts before;
    reads = asked_spelled acts before are spelled;
    places = numbers;
  };
  updates = updates_spelled acts are;
}

-- ---- the lines

lines_joined : (one other : List (List ℕ)) → AreLines one → AreLines other → AreLines (one ++ other)
lines_joined [] other first second = second
lines_joined (line ∷ one) other first second = (first.0, lines_joined one other first.1 second)

pub lines_spelled : (acts : List Act) → AllByRecursion IsAct acts → AreLines (lines_of acts)
lines_spelled [] are = tt
lines_spelled (act ∷ acts) are = lines_joined act.lines (lines_of acts) are.0.lines (lines_spelled acts are.1)
