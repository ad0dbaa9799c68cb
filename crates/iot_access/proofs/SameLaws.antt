-- The same acts have the same access on each tree on which its base reads hold.
use Rattle.std.proofs.Common.{◌≡◌, ℕ, suc, ◌+◌, List, [], ◌∷◌, map, length, Option, Some, None, refl, sym, ap}
use Rattle.iot_tree.specs.Tree.{IsTree, Nodes, Path}
use Rattle.iot_tree.specs.declared.access.Access.{Access}
use Rattle.iot_tree.specs.declared.acts.Act.{Act}
use Rattle.iot_tree.specs.declared.acts.Read.{Read}
use Rattle.iot_tree.specs.declared.updates.Update.{Update}
use Rattle.iot_tree.specs.declared.questions.Question.{Question}
use Rattle.iot_tree.specs.declared.questions.Question.TheVariants.{Kind, Content, Names as AskNames, Mode as AskMode}
use Rattle.iot_tree.specs.declared.questions.Answer.{Answer}
use Rattle.iot_tree.specs.declared.questions.Answer.TheVariants.{Away, Absent, IsDir, IsFile, Bytes, Names, On, Off}
use Rattle.iot_acts.specs.Guards.{AllGuarded}
use Rattle.iot_acts.specs.Traces.{ActsHold, ReadsHold}
use Rattle.iot_acts.specs.Turns.{Answers}
use Rattle.iot_access.specs.Access.{access_of, updates_of}
use Rattle.iot_access.specs.Asked.{first_asked, none_asked}
use Rattle.iot_access.specs.BaseReads.{Base, origin, base_at, base_from, base_of, cons_base, based_reads, based, done_more}
use Rattle.iot_access.proofs.BaseReadsLaws.{BasesHold}
use Rattle.iot_access.proofs.AskedLaws.{all_hold, none_known}
use Rattle.iot_access.proofs.BeforeLaws.{HoldsIfAny, bases_hold_before}

module _ (t u : Nodes) where
  -- names are the tree's own, and so the other's if they hold there
  names_same : (o : Path) (answer : Answer) → Answers u (base_at t (AskNames o) o answer)
      → base_at t (AskNames o) o answer ≡ base_at u (AskNames o) o answer
  names_same o (Names children) holds = ap (λ (answer : Answer). record { question = AskNames o; answer = answer }) (sym holds)
  names_same o Away holds = refl
  names_same o Absent holds = refl
  names_same o IsDir holds = refl
  names_same o IsFile holds = refl
  names_same o (Bytes bytes) holds = refl
  names_same o On holds = refl
  names_same o Off holds = refl

  -- and so is a mode, if it is not away
  mode_same : (o : Path) (answer : Answer) → Answers u (base_at t (AskMode o) o answer)
      → base_at t (AskMode o) o answer ≡ base_at u (AskMode o) o answer
  mode_same o Away holds = refl
  mode_same o Absent holds = ap (λ (answer : Answer). record { question = AskMode o; answer = answer }) (sym holds)
  mode_same o IsDir holds = ap (λ (answer : Answer). record { question = AskMode o; answer = answer }) (sym holds)
  mode_same o IsFile holds = ap (λ (answer : Answer). record { question = AskMode o; answer = answer }) (sym holds)
  mode_same o (Bytes bytes) holds = ap (λ (answer : Answer). record { question = AskMode o; answer = answer }) (sym holds)
  mode_same o (Names children) holds = ap (λ (answer : Answer). record { question = AskMode o; answer = answer }) (sym holds)
  mode_same o On holds = ap (λ (answer : Answer). record { question = AskMode o; answer = answer }) (sym holds)
  mode_same o Off holds = ap (λ (answer : Answer). record { question = AskMode o; answer = answer }) (sym holds)

  from_same : (question : Question) (answer : Answer) (found : Option Path) → HoldsIfAny u (base_from t question answer found)
      → base_from t question answer found ≡ base_from u question answer found
  from_same (Kind p) answer (Some o) holds = refl
  from_same (Content p) answer (Some o) holds = refl
  from_same (AskNames p) answer (Some o) holds = ap Some (names_same o answer holds)
  from_same (AskMode p) answer (Some o) holds = ap Some (mode_same o answer holds)
  from_same question answer None holds = refl

  cons_same : (place : ℕ) (one other : Option Read) (rest later : List Base) → (HoldsIfAny u one → one ≡ other)
      → (BasesHold u rest → rest ≡ later) → BasesHold u (cons_base place one rest) → cons_base place one rest ≡ cons_base place other later
  cons_same place None other rest later first same hold = λ i. cons_base place (first tt i) (same hold i)
  cons_same place (Some read) other rest later first same hold = λ i. cons_base place (first hold.0 i) (same hold.1 i)

  reads_same : (reads : List Read) (done : List Update) (place : ℕ) (rest later : List Base) → (BasesHold u rest → rest ≡ later)
      → BasesHold u (based_reads reads t done place rest)
      → based_reads reads t done place rest ≡ based_reads reads u done place later
  reads_same [] done place rest later same hold = same hold
  reads_same (read ∷ reads) done place rest later same hold =
      cons_same place (base_of t done read) (base_of u done read) (based_reads reads t done (suc place) rest)
      (based_reads reads u done (suc place) later) (from_same read.question read.answer (origin done read.question))
      (reads_same reads done (suc place) rest later same) hold

  acts_same : (acts : List Act) (done : List Update) (place : ℕ) → BasesHold u (based acts t done place)
      → based acts t done place ≡ based acts u done place
  acts_same [] done place hold = refl
  acts_same (act ∷ acts) done place hold =
      reads_same act.reads done place (based acts t (done_more done act.update) (length act.reads + place))
      (based acts u (done_more done act.update) (length act.reads + place))
      (acts_same acts (done_more done act.update) (length act.reads + place)) hold

  pub same_access : (acts : List Act) → IsTree t → AllGuarded acts → ActsHold t acts → ReadsHold u (access_of acts t).reads
      → access_of acts t ≡ access_of acts u
  same_access acts tree guarded done hold =
      let of : List Base → Access = λ bases.
      record { reads = map (λ base. base.1) bases; updates = updates_of acts; places = map (λ base. base.0) bases } in
      let held : BasesHold t (based acts t [] 1) = bases_hold_before acts t tree guarded done in
      let all : BasesHold u (based acts t [] 1) = all_hold t u (based acts t [] 1) none_asked (none_known t u) held hold in
      ap (λ (bases : List Base). of (first_asked none_asked bases)) (acts_same acts [] 1 all)
