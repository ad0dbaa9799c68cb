-- Bodies of checkpoints and the states that they spell.
use Rattle.std.proofs.Common.{◌≡◌, ℕ, ◌+◌, ◌<◌, ◌^◌, List, [], ◌++◌, length, sym, ap, ◌∙◌, subst}
use Rattle.std.specs.Prelude.{IfOk, IfSome, Option, Some, None, Result, Ok, Err, refl}
use Rattle.std.specs.FinMap.{entries}
use Rattle.iot_tree.specs.Tree.{IsWhole, Nodes, Row}
use Rattle.iot_tree.specs.declared.labels.Label.{Label}
use Rattle.iot_stamp.specs.Pairing.{stamps_of}
use Rattle.iot_stamp.specs.Stamps.{Stamps}
use Rattle.iot_stamp.proofs.PairingLaws.{list_paired, nodes_paired}
use Rattle.iot_bodies.specs.Rules.{IsServerBody}
use Rattle.iot_bodies.specs.Spelling.{server_spelling}
use Rattle.iot_bodies.specs.declared.server.ServerBody.{ServerBody}
use Rattle.iot_durable.specs.Rules.{IsThis}
use Rattle.iot_slots.specs.declared.version.Version.{Version}
use Rattle.iot_slots.specs.declared.version.Version.TheVariants.{One, Two}
use Rattle.iot_versions.specs.Versions.{SpellsServer}
use Rattle.iot_versions.proofs.OneLaws.{server_one}
use Rattle.iot_store.specs.Bodies.{AreApart, IsBody, IsState, body_of, stamps_in_order}
use Rattle.iot_store.specs.Reading.{FitStamps, state_with}
use Rattle.iot_store.specs.States.{State}
use Rattle.iot_store.proofs.RowsLaws.{fit_count, fit_numbers, fit_positive, fit_whole, fit_within, stamps_again, stamps_fit}

-- the state of these parts
abbrev pub state_of_parts : ServerBody → State
state_of_parts parts = record { tree = parts.tree; labels = parts.labels; stamps = stamps_of (entries parts.tree) parts.stamps }

abbrev FitParts : ServerBody → Type 0
FitParts parts = FitStamps (entries parts.tree) parts.stamps (length parts.labels)

-- parts that are spelled have a spelling
parts_have : (version : Version) (body : List ℕ) (parts : ServerBody) → SpellsServer version body parts → IsServerBody parts
parts_have One body parts m = m.value.0
parts_have Two body parts m = m.value

-- bytes that spell parts which make a state spell the whole of it
pub parts_body : (version : Version) (body : List ℕ) (parts : ServerBody) → SpellsServer version body parts → FitParts parts
    → AreApart parts.labels → length parts.labels + 1 < 2 ^ 64 → IsBody version body (state_of_parts parts)
parts_body version body parts m fit apart few =
    let commits : ℕ = length parts.labels in
    let has : IsServerBody parts = parts_have version body parts m in
    let same : stamps_in_order (stamps_of (entries parts.tree) parts.stamps) ≡ parts.stamps =
    list_paired parts.tree parts.stamps (fit_count (entries parts.tree) parts.stamps commits fit) in
    record {
      value = record {
        tree = has.tree;
        whole = fit_whole parts.tree parts.stamps commits fit;
        labels = has.labels;
        apart = apart;
        few = few;
        nodes = nodes_paired parts.tree parts.stamps;
        positive = fit_positive parts.tree parts.stamps commits fit;
        within = fit_within parts.tree parts.stamps commits fit;
      };
      spelled = subst (λ (stamps : List ℕ). SpellsServer version body
          (record { tree = parts.tree; labels = parts.labels; stamps = stamps }))
          (sym same) m;
    }

-- ---- a state whose whole the bytes spell

fit_state : (state : State) → IsState state → FitParts (body_of state)
fit_state state is =
    subst (λ (t : Nodes). FitStamps (entries t) (stamps_in_order state.stamps) (length state.labels)) is.nodes
    (stamps_fit state.stamps (length state.labels) (subst IsWhole (sym is.nodes) is.whole) is.positive is.within)

-- its parts have a spelling
state_has : (state : State) → IsState state → IsServerBody (body_of state)
state_has state is = record {
  tree = is.tree;
  labels = is.labels;
  stamps = fit_numbers (entries state.tree) (stamps_in_order state.stamps) (length state.labels) is.few (fit_state state is);
}

module _ (version : Version) (body : List ℕ) (state : State) (is : IsBody version body state) where
  -- they are not those of no parts
  pub spells_parts : ((parts : ServerBody) → SpellsServer version body parts → ⊥) → ⊥
  spells_parts none = none (body_of state) is.spelled

  -- and whatever parts they spell are its parts
  module _ (short : length body < 2 ^ 64) (parts : ServerBody) (m : SpellsServer version body parts) where
    parts_are : body_of state ≡ parts
    parts_are = server_one version body (body_of state) parts short is.spelled m

    pub parts_fit : FitParts parts
    parts_fit = subst FitParts parts_are (fit_state state is.value)

    pub parts_apart : AreApart parts.labels
    parts_apart = subst (λ (p : ServerBody). AreApart p.labels) parts_are is.value.apart

    pub state_is : state_of_parts parts ≡ state
    state_is =
        let rows : state_of_parts (body_of state) ≡ state_of_parts parts = ap state_of_parts parts_are in
        let stamps : stamps_of (entries state.tree) (stamps_in_order state.stamps) ≡ state.stamps =
        ap (λ (t : Nodes). stamps_of (entries t) (stamps_in_order state.stamps)) (sym is.value.nodes) ∙ stamps_again state.stamps in
        sym rows ∙ (λ i. record { tree = state.tree; labels = state.labels; stamps = stamps i })

-- the bytes spell the whole of one state at most
pub body_one : (version : Version) (body : List ℕ) (one other : State) → length body < 2 ^ 64 → IsBody version body one
    → IsBody version body other → one ≡ other
body_one version body one other short p q =
    sym (state_is version body one p short (body_of other) q.spelled) ∙ state_is version body other q short (body_of other) q.spelled

-- ---- what is spelled of a state

pub body_spelled : (state : State) (t : Nodes) (labels : List Label) (stamped : Stamps) (stamps cleared out : List ℕ) → IsState state
    → t ≡ state.tree → labels ≡ state.labels → stamped ≡ state.stamps → stamps ≡ stamps_in_order stamped → cleared ≡ []
    → out ≡ cleared ++ server_spelling (record { tree = t; labels = labels; stamps = stamps }) → IsBody Two out state
body_spelled state t labels stamped stamps cleared out is tree_is labels_are stamped_is stamps_are none spelled = record {
  value = is;
  spelled = record {
    value = state_has state is;
    spelled =
        let in_order = stamps_are ∙ ap stamps_in_order stamped_is in
        sym (spelled ∙ (λ i. none i ++ server_spelling (record { tree = tree_is i; labels = labels_are i; stamps = in_order i })));
  };
}

-- ---- what is read of a body

-- rows and stamps that fit, under other names
pub fit_same : (rows other : List Row) (stamps more : List ℕ) (commits n : ℕ) → rows ≡ other → stamps ≡ more → commits ≡ n
    → FitStamps rows stamps commits → FitStamps other more n
fit_same rows other stamps more commits n rows_are stamps_are commits_are fit =
    subst (λ (k : ℕ). FitStamps other more k) commits_are
    (subst (λ (ss : List ℕ). FitStamps other ss commits) stamps_are (subst (λ (rs : List Row). FitStamps rs stamps commits) rows_are fit))

-- the commits that were made of the parts of a body, if no transaction has two of them
pub record AreMade {E : Type 0} (result : Result (Option State) E) (parts : ServerBody) : Type 0 where
  pub made : IfOk result (λ read. IfSome read (λ state. state ≡ state_of_parts parts))
  pub apart : IfOk result (λ read. IfSome read (λ _. AreApart parts.labels))
  pub none : IfOk result (λ read. read ≡ None → AreApart parts.labels → ⊥)
  pub few : IfOk result (λ read. IfSome read (λ _. length parts.labels + 1 < 2 ^ 64))

pub state_with_parts : (parts : ServerBody) (stamped : Stamps) → stamped ≡ stamps_of (entries parts.tree) parts.stamps
    → state_with stamped parts.labels ≡ state_of_parts parts
state_with_parts parts stamped is =
    ap (λ (s : Stamps). state_with s parts.labels) is
    ∙ (λ i. record {
      tree = nodes_paired parts.tree parts.stamps i;
      labels = parts.labels;
      stamps = stamps_of (entries parts.tree) parts.stamps;
    })

module _ {E : Type 0} (version : Version) (body : List ℕ) (parts : ServerBody) (m : SpellsServer version body parts) where
  pub read_found : (result : Result (Option State) E) → FitParts parts → AreMade result parts
      → IfOk result (λ read. IfSome read (IsBody version body))
  read_found (Ok (Some state)) fit are =
      subst (IsBody version body) (sym are.made) (parts_body version body parts m fit are.apart are.few)
  read_found (Ok None) fit are = tt
  read_found (Err fault) fit are = tt

  pub read_only : (result : Result (Option State) E) → length body < 2 ^ 64 → AreMade result parts → (state : State)
      → IsBody version body state → IfOk result (IsThis (λ (s : State). s) state)
  read_only (Ok (Some made)) short are state is = are.made ∙ state_is version body state is short parts m
  read_only (Ok None) short are state is = are.none refl (parts_apart version body state is short parts m)
  read_only (Err fault) short are state is = tt

pub read_sound : {E : Type 0} (version : Version) (body : List ℕ) (result : Result (Option State) E)
    → IfOk result (λ read. IfSome read (IsBody version body)) → IfOk result (λ read. IfSome read IsState)
read_sound version body (Ok (Some state)) found = found.value
read_sound version body (Ok None) found = tt
read_sound version body (Err fault) found = tt
