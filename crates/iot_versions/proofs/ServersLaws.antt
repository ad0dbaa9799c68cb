-- Servers' bodies in version 1.
use Rattle.std.proofs.Common.{◌≡◌, ℕ, ◌<◌, ◌^◌, true, false, List, ◌++◌, length, refl, sym, ◌∙◌}
use Rattle.std.specs.Cmp.{first_so}
use Rattle.std.specs.List.{list_all, AllByRecursion}
use Rattle.iot_bodies.proofs.ServerLaws.{server_laws}
use Rattle.iot_bodies.specs.Decoding.{server_at}
use Rattle.iot_bodies.specs.Rules.{IsServerBody}
use Rattle.iot_bodies.specs.Spelling.{server_spelling}
use Rattle.iot_bodies.specs.declared.server.ServerBody.{ServerBody}
use Rattle.iot_codec.specs.Laws.Labels.{label_laws}
use Rattle.iot_codec.specs.Laws.Lists.{list_laws}
use Rattle.iot_codec.specs.Laws.Parts.{number_laws}
use Rattle.iot_codec.specs.Spelling.{label_spelling, list_spelling, number_spelling, tree_spelling}
use Rattle.iot_slots.specs.declared.version.Version.TheVariants.{One, Two}
use Rattle.iot_views.specs.Decoders.{list_at, number_at}
use Rattle.iot_views.specs.Decoding.{label_at}
use Rattle.iot_views.specs.Rules.{IsLabel, IsNumber}
use Rattle.iot_wire.proofs.MessagesLaws.{call_one}
use Rattle.iot_versions.specs.Respelling.{Respells}
use Rattle.iot_versions.specs.Spelling.{old_tree_spelling, server_rest}
use Rattle.iot_versions.specs.Values.{is_old_label, is_old_server, is_old_tree}
use Rattle.iot_versions.specs.Versions.{SpellsServer}
use Rattle.iot_versions.proofs.FrontLaws.{front_one, left_short, whole_one}
use Rattle.iot_versions.proofs.ReadingLaws.{none_old, none_there}
use Rattle.iot_versions.proofs.RespellingLaws.{old_tree_one, respelled, spelled_before}

new_is : (body : ServerBody) → server_spelling body ≡ tree_spelling body.tree ++ server_rest body
unfolding server_spelling
new_is body = refl

tree_is_old : (body : ServerBody) → is_old_server body ≡ true → is_old_tree body.tree ≡ true
tree_is_old body old = first_so (is_old_tree body.tree) (list_all is_old_label body.labels) old

there : (old new : List ℕ) → length old < 2 ^ 64 → Respells old new → (body : ServerBody) → SpellsServer One old body
    → SpellsServer Two new body × (is_old_server body ≡ true)
there old new short r body m = (
  record {
    value = m.value.0;
    spelled =
        new_is body
        ∙ sym (respelled old new body.tree (server_rest body) short r m.value.0.tree (tree_is_old body m.value.1) (sym m.spelled));
  },
  m.value.1,
)

-- one that was read is the one
pub server_read : (old new : List ℕ) (body : ServerBody) → length new < 2 ^ 64 → Respells old new → SpellsServer Two new body
    → is_old_server body ≡ true → SpellsServer One old body
server_read old new body short r m is_old = record {
  value = (m.value, is_old);
  spelled = sym (spelled_before old new body.tree (server_rest body) short r m.value.tree (sym m.spelled ∙ new_is body));
}

-- version 2 has none
pub server_none : (old new : List ℕ) → length old < 2 ^ 64 → Respells old new → ((body : ServerBody) → SpellsServer Two new body → ⊥)
    → (body : ServerBody) → SpellsServer One old body → ⊥
server_none old new short r never body m =
    none_there (SpellsServer One old) (SpellsServer Two new) is_old_server (there old new short r) never body m

pub new_server_one : (bytes : List ℕ) (one other : ServerBody) → length bytes < 2 ^ 64 → SpellsServer Two bytes one
    → SpellsServer Two bytes other → one ≡ other
new_server_one bytes one other short m n = call_one IsServerBody server_spelling server_at server_laws bytes short one other m n

-- or one that version 1 does not have
pub server_new : (old new : List ℕ) (body : ServerBody) → length old < 2 ^ 64 → length new < 2 ^ 64 → Respells old new
    → SpellsServer Two new body → is_old_server body ≡ false
    → (other : ServerBody) → SpellsServer One old other → ⊥
server_new old new body short short_too r m not_old other n =
    none_old (SpellsServer One old) (SpellsServer Two new) is_old_server (there old new short r)
    (λ x y p q. new_server_one new x y short_too p q) body m not_old other n

-- ---- one at most

rest_one : (bytes : List ℕ) (one other : ServerBody) → length bytes < 2 ^ 64 → IsServerBody one → IsServerBody other
    → bytes ≡ server_rest one → bytes ≡ server_rest other → (one.labels ≡ other.labels) × (one.stamps ≡ other.stamps)
rest_one bytes one other short has has_too is is_too =
    let stamps : List ℕ = list_spelling number_spelling one.stamps in
    let labels =
    front_one (AllByRecursion IsLabel) (list_spelling label_spelling) (list_at label_at)
    (list_laws IsLabel label_spelling label_at label_laws) bytes one.labels other.labels stamps
    (list_spelling number_spelling other.stamps) short has.labels has_too.labels is is_too in (
      labels.0,
      whole_one (AllByRecursion IsNumber) (list_spelling number_spelling) (list_at number_at)
          (list_laws IsNumber number_spelling number_at number_laws) stamps one.stamps other.stamps
          (left_short bytes (list_spelling label_spelling one.labels) stamps is short) has.stamps has_too.stamps refl labels.1,
    )

pub old_server_one : (bytes : List ℕ) (one other : ServerBody) → length bytes < 2 ^ 64 → SpellsServer One bytes one
    → SpellsServer One bytes other → one ≡ other
old_server_one bytes one other short m n =
    let trees =
    old_tree_one bytes one.tree other.tree (server_rest one) (server_rest other) short m.value.0.tree n.value.0.tree
    (tree_is_old one m.value.1) (tree_is_old other n.value.1) (sym m.spelled) (sym n.spelled) in
    let rests =
    rest_one (server_rest one) one other (left_short bytes (old_tree_spelling one.tree) (server_rest one) (sym m.spelled) short)
    m.value.0 n.value.0 refl trees.1 in
    λ i. record { tree = trees.0 i; labels = rests.0 i; stamps = rests.1 i }
