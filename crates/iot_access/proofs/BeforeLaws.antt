-- Each base read holds on the tree before.
use Rattle.std.proofs.Common.{◌≡◌, ◌≢◌, ℕ, suc, ◌+◌, length, IsSome, List, [], ◌∷◌, Option, Some, None, refl, sym, ap}
use Rattle.std.proofs.Common.{subst, ◌∙◌, true}
use Rattle.std.proofs.lemmas.Bool.{both_ways}
use Rattle.std.specs.FinMap.{get, insert, remove}
use Rattle.std.specs.List.{zip}
use Rattle.iot_tree.specs.Tree.{Nodes, IsTree, Path}
use Rattle.iot_tree.specs.Questions.{answer_of, kind_answer, kind_at, content_answer, names_answer, mode_answer, children_of, is_far_above}
use Rattle.iot_tree.specs.Updates.{Fits, mode_in, moved, updated}
use Rattle.iot_tree.specs.declared.nodes.Node.{Node}
use Rattle.iot_tree.specs.declared.nodes.Node.TheVariants.{Dir, File}
use Rattle.iot_tree.specs.declared.acts.Act.{Act}
use Rattle.iot_tree.specs.declared.acts.Read.{Read}
use Rattle.iot_tree.specs.declared.updates.Update.{Update}
use Rattle.iot_tree.specs.declared.updates.Update.TheVariants.{Put, MakeDir, Remove, Move, SetMode}
use Rattle.iot_tree.specs.declared.questions.Question.{Question}
use Rattle.iot_tree.specs.declared.questions.Question.TheVariants.{Kind, Content, Names as AskNames, Mode as AskMode}
use Rattle.iot_tree.specs.declared.questions.Answer.{Answer}
use Rattle.iot_tree.specs.declared.questions.Answer.TheVariants.{Away, Absent, IsDir, IsFile, Bytes, Names, On, Off}
use Rattle.iot_tree.proofs.TreeLaws.{no_far_above}
use Rattle.iot_acts.specs.Traces.{ReadsHold, ActsHold, FitsIfAny, after_update}
use Rattle.iot_acts.specs.Guards.{GuardsIfAny, AllGuarded}
use Rattle.iot_access.specs.Sources.{source, mode_source}
use Rattle.iot_access.specs.Asked.{first_asked, none_asked}
use Rattle.iot_access.proofs.AskedLaws.{first_hold}
use Rattle.iot_access.specs.BaseReads.{Base, origin, base_at, settled, base_from, base_of, cons_base, based_reads, based, done_more}
use Rattle.iot_acts.specs.Turns.{Answers}
use Rattle.iot_access.proofs.BaseReadsLaws.{BasesHold, reads_beside, other_names, kind_not_away, content_not_away, names_not_away}
use Rattle.iot_access.proofs.BaseReadsLaws.{mode_not_away, mode_away}
use Rattle.iot_tree.proofs.ChildKindLaws.{Child}
use Rattle.iot_access.proofs.ModelessLaws.{told, kind_told, content_told, names_told, same_far_dir}
use Rattle.iot_access.proofs.TiedLaws.{Tied, tied_first, no_source}
use Rattle.iot_acts.proofs.TraceLaws.{tree_after}
use Rattle.iot_tree.proofs.UpdateLaws.{tree_updated, moved_at, moved_else, other_stays}
use Rattle.iot_access.proofs.StepLaws.{step, put_else, not_at, set_row}
use Rattle.iot_access.proofs.ModeStepLaws.{modes_far}
use Rattle.iot_access.proofs.FarLaws.{FarTied, far_first, far_alike, far_hidden, far_carried}
use Rattle.iot_access.proofs.OwnLaws.{IsNear, IsNoFarDir, Own, own_after, own_modes_after}

-- ---- a run on the tree before

pub record Sound (done : List Update) (t u : Nodes) : Type 0 where
  pub tied : Tied (source done) t u t u
  pub far : FarTied (source done) t u
  pub own : Own IsNear (source done) u
  pub far_modes : FarTied (mode_source done) t u
  pub own_modes : Own IsNoFarDir (mode_source done) u

sound_first : (t : Nodes) → Sound [] t t
sound_first t = record {
  tied = tied_first t t;
  far = far_first t;
  own = λ k is. absurd (no_source k (sym is));
  far_modes = far_first t;
  own_modes = λ k is. absurd (no_source k (sym is));
}

module _ (done : List Update) (t u : Nodes) (tree : IsTree u) (sound : Sound done t u) where
  far_after : (update : Update) → Fits u update → FarTied (source (update ∷ done)) t (updated u update)
  far_after (Put p bytes) fits =
      let new : Node = File bytes (mode_in (get u p)) in
      far_hidden (source done) t u (insert u p new) p sound.far (put_else u p new)
  far_after (MakeDir p) fits = far_hidden (source done) t u (insert u p Dir) p sound.far (put_else u p Dir)
  far_after (Remove p) fits = far_hidden (source done) t u (remove u p) p sound.far (λ k out. other_stays u p k (not_at p k out))
  far_after (Move p q) fits =
      far_carried (source done) t u (moved u p q) p q sound.far tree (tree_updated u (Move p q) tree fits) fits.mapped
      (moved_at u tree p q fits) (moved_else u tree p q fits)
  far_after (SetMode p mode) fits = λ k o is.
      far_alike u (updated u (SetMode p mode))
      (λ j. same_far_dir (get (updated u (SetMode p mode)) j) (get u j) (set_row u p mode j)) k
      ∙ sound.far k o is

  sound_after : (reads : List Read) → ReadsHold u reads → (update : Option Update) → GuardsIfAny reads update → FitsIfAny u update
      → Sound (done_more done update) t (after_update u update)
  sound_after reads hold None guard fits = sound
  sound_after reads hold (Some update) guard fits = record {
    tied = step done t u t u sound.tied tree tree reads hold hold (Some update) guard fits fits;
    far = far_after update fits;
    own = own_after done u tree sound.own update fits;
    far_modes = modes_far done t u tree sound.far_modes update fits;
    own_modes = own_modes_after done u tree sound.own_modes update fits;
  }

-- ---- what the tree before answers

-- the base read, if there is one, holds
abbrev pub HoldsIfAny : Nodes → Option Read → Type 0
HoldsIfAny t None = Unit {0}
HoldsIfAny t (Some read) = Answers t read

module _ (done : List Update) (t u : Nodes) (tree_t : IsTree t) (tree_u : IsTree u) (sound : Sound done t u) where
  kind_held : (k o : Path) → source done k ≡ Some o → answer_of t (Kind o) ≡ answer_of u (Kind k)
  kind_held k o is =
      told (λ row. kind_answer (kind_at row (is_far_above t o))) (kind_told (is_far_above t o)) (get t o) (get u k)
      (sym (sound.tied.first k o is))
      ∙ ap (λ far. kind_answer (kind_at (get u k) far)) (sym (sound.far k o is))

  content_held : (k o : Path) → source done k ≡ Some o → answer_of t (Content o) ≡ answer_of u (Content k)
  content_held k o is =
      told (λ row. content_answer row (is_far_above t o)) (content_told (is_far_above t o)) (get t o) (get u k)
      (sym (sound.tied.first k o is))
      ∙ ap (content_answer (get u k)) (sym (sound.far k o is))

  names_held : (k o : Path) → source done k ≡ Some o → (answer : Answer) → ((names : List Child) → answer ≢ Names names)
      → answer_of u (AskNames k) ≡ answer → answer_of t (AskNames o) ≡ answer
  names_held k o is answer no_names h =
      other_names (get t o) (is_far_above t o) (children_of u k) (children_of t o) answer no_names
      (told (λ row. names_answer row (is_far_above t o) (children_of u k)) (names_told (is_far_above t o) (children_of u k)) (get t o)
      (get u k) (sym (sound.tied.first k o is))
      ∙ ap (λ far. names_answer (get u k) far (children_of u k)) (sym (sound.far k o is)) ∙ h)

  -- a mode that is away after is away before
  away_held : (k o : Path) → mode_source done k ≡ Some o → answer_of u (AskMode k) ≡ Away → answer_of t (AskMode o) ≡ Away
  away_held k o is away =
      let above : is_far_above t o ≡ true =
      sym (sound.far_modes k o is) ∙ (mode_away (get u k) (is_far_above u k) away).1 in
      ap (mode_answer (get t o)) above ∙ by above (get t o) refl
    where
      by : is_far_above t o ≡ true → (row : Option Node) → get t o ≡ row → mode_answer row true ≡ Away
      by above None here = refl
      by above (Some node) here =
          absurd (both_ways _ (no_far_above t tree_t o (subst IsSome (sym here) refl)) above)

  from_row : (question : Question) (answer : Answer) (o : Path) → origin done question ≡ Some o → answer_of u question ≡ answer
      → Answers t (base_at t question o answer)
  from_row (Kind k) answer o is h = kind_held k o is ∙ h
  from_row (Content k) answer o is h = content_held k o is ∙ h
  from_row (AskNames k) (Names names) o is h = refl
  from_row (AskNames k) Away o is h = names_held k o is Away (λ names same. cc) h
  from_row (AskNames k) Absent o is h = names_held k o is Absent (λ names same. cc) h
  from_row (AskNames k) IsDir o is h = names_held k o is IsDir (λ names same. cc) h
  from_row (AskNames k) IsFile o is h = names_held k o is IsFile (λ names same. cc) h
  from_row (AskNames k) (Bytes bytes) o is h = names_held k o is (Bytes bytes) (λ names same. cc) h
  from_row (AskNames k) On o is h = names_held k o is On (λ names same. cc) h
  from_row (AskNames k) Off o is h = names_held k o is Off (λ names same. cc) h
  from_row (AskMode k) Away o is h = away_held k o is h
  from_row (AskMode k) Absent o is h = refl
  from_row (AskMode k) IsDir o is h = refl
  from_row (AskMode k) IsFile o is h = refl
  from_row (AskMode k) (Bytes bytes) o is h = refl
  from_row (AskMode k) (Names names) o is h = refl
  from_row (AskMode k) On o is h = refl
  from_row (AskMode k) Off o is h = refl

  never_away : (question : Question) → origin done question ≡ None → answer_of u question ≢ Away
  never_away (Kind k) is away = kind_not_away (get u k) (ap (λ far. kind_answer (kind_at (get u k) far)) (sym (sound.own k is).1) ∙ away)
  never_away (Content k) is away =
      content_not_away (get u k) (sound.own k is).0.no_far_file (ap (content_answer (get u k)) (sym (sound.own k is).1) ∙ away)
  never_away (AskNames k) is away =
      names_not_away (get u k) (children_of u k) (sound.own k is).0.no_far_dir
      (ap (λ far. names_answer (get u k) far (children_of u k)) (sym (sound.own k is).1) ∙ away)
  never_away (AskMode k) is away = mode_not_away (get u k) (ap (mode_answer (get u k)) (sym (sound.own_modes k is).1) ∙ away)

  own_row : (question : Question) (answer : Answer) → origin done question ≡ None → answer_of u question ≡ answer
      → HoldsIfAny t (settled question answer)
  own_row question Away is h = absurd (never_away question is h)
  own_row question Absent is h = tt
  own_row question IsDir is h = tt
  own_row question IsFile is h = tt
  own_row question (Bytes bytes) is h = tt
  own_row question (Names names) is h = tt
  own_row question On is h = tt
  own_row question Off is h = tt

  held : (question : Question) (answer : Answer) (found : Option Path) → origin done question ≡ found
      → answer_of u question ≡ answer → HoldsIfAny t (base_from t question answer found)
  held question answer (Some o) is h = from_row question answer o is h
  held question answer None is h = own_row question answer is h

  cons_held : (place : ℕ) (found : Option Read) (rest : List Base) → HoldsIfAny t found → BasesHold t rest
      → BasesHold t (cons_base place found rest)
  cons_held place None rest here later = later
  cons_held place (Some read) rest here later = (here, later)

  reads_held : (reads : List Read) (place : ℕ) (rest : List Base) → ReadsHold u reads → BasesHold t rest
      → BasesHold t (based_reads reads t done place rest)
  reads_held [] place rest hold later = later
  reads_held (read ∷ reads) place rest hold later =
      cons_held place (base_of t done read) (based_reads reads t done (suc place) rest)
      (held read.question read.answer (origin done read.question) refl hold.0)
      (reads_held reads (suc place) rest hold.1 later)

acts_held : (acts : List Act) (done : List Update) (t u : Nodes) (place : ℕ) → IsTree t → IsTree u → Sound done t u → AllGuarded acts
    → ActsHold u acts → BasesHold t (based acts t done place)
acts_held [] done t u place tree_t tree_u sound guarded hold = tt
acts_held (act ∷ acts) done t u place tree_t tree_u sound guarded hold =
    reads_held done t u tree_t tree_u sound act.reads place (based acts t (done_more done act.update) (length act.reads + place)) hold.0
    (acts_held acts (done_more done act.update) t (after_update u act.update) (length act.reads + place) tree_t
    (tree_after u act.update tree_u hold.1) (sound_after done t u tree_u sound act.reads hold.0 act.update guarded.0 hold.1) guarded.1
    hold.2)

-- each base answer is what the tree before answers, whole or not
pub bases_hold_before : (acts : List Act) (before : Nodes) → IsTree before → AllGuarded acts → ActsHold before acts
    → BasesHold before (based acts before [] 1)
bases_hold_before acts before tree guarded hold = acts_held acts [] before before 1 tree tree (sound_first before) guarded hold

-- the same of reads beside their places
pub held_before : (acts list : List Act) (before : Nodes) (reads : List Read) (places : List ℕ) → IsTree before → AllGuarded acts
    → ActsHold before acts → list ≡ acts → length places ≡ length reads
    → zip places reads ≡ first_asked none_asked (based list before [] 1) → ReadsHold before reads
held_before acts list before reads places tree guarded hold same even is =
    subst (ReadsHold before) (reads_beside places reads even)
    (subst (BasesHold before) (sym (is ∙ ap (λ (acts : List Act). first_asked none_asked (based acts before [] 1)) same))
    (first_hold before before (based acts before [] 1) none_asked (bases_hold_before acts before tree guarded hold)))
