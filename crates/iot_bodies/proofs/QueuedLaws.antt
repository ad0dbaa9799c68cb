-- The spelling of a queue, by its first transaction and the others.
use Rattle.std.proofs.Common.{◌≡◌, ℕ, suc, List, [], ◌∷◌, ◌++◌, length, refl, sym, ap, ◌∙◌, append_assoc}
use Rattle.std.specs.List.{flat_map}
use Rattle.std.proofs.lemmas.List.Concat.{flat_map-cons}
use Rattle.iot_tree.specs.declared.access.Access.{Access}
use Rattle.iot_access.specs.Access.{no_access}
use Rattle.iot_codec.specs.Spelling.{number_spelling, list_spelling}
use Rattle.iot_queue.specs.declared.items.Item.{Item}
use Rattle.iot_bodies.specs.Rules.{waiting_of}
use Rattle.iot_bodies.specs.Spelling.{waiting_spelling, other_spelling}
use Rattle.iot_bodies.specs.declared.client.Waiting.{Waiting}

-- as many wait
length-waiting_of : (items : List Item) (access : Access) → length (waiting_of items access) ≡ length items
length-waiting_of [] access = refl
length-waiting_of (item ∷ items) access = ap suc (length-waiting_of items no_access)

-- those that have no access
others_spelled : (items : List Item) → flat_map waiting_spelling (waiting_of items no_access) ≡ flat_map other_spelling items
others_spelled [] = refl
others_spelled (item ∷ items) =
    flat_map-cons waiting_spelling (record { item = item; access = no_access }) (waiting_of items no_access)
    ∙ ap (λ (rest : List ℕ). other_spelling item ++ rest) (others_spelled items)
    ∙ sym (flat_map-cons other_spelling item items)

-- the number of those that wait, then the first with its access, and then the others
queue_spelled : (first : Item) (others : List Item) (access : Access)
    → list_spelling waiting_spelling (waiting_of (first ∷ others) access)
    ≡ number_spelling (length (first ∷ others))
    ++ (waiting_spelling (record { item = first; access = access }) ++ flat_map other_spelling others)
queue_spelled first others access =
    let one : Waiting = record { item = first; access = access } in
    ap (λ (n : ℕ). number_spelling n ++ flat_map waiting_spelling (waiting_of (first ∷ others) access))
    (length-waiting_of (first ∷ others) access)
    ∙ ap (λ (rest : List ℕ). number_spelling (length (first ∷ others)) ++ rest)
    (flat_map-cons waiting_spelling one (waiting_of others no_access)
    ∙ ap (λ (rest : List ℕ). waiting_spelling one ++ rest) (others_spelled others))

-- after the number and the first one, the others are left
pub queue_appended : (items : List Item) (first : Item) (others : List Item) (access : Access) (old counted begun : List ℕ)
    → items ≡ first ∷ others → counted ≡ old ++ number_spelling (length items)
    → begun ≡ counted ++ waiting_spelling (record { item = first; access = access })
    → old ++ list_spelling waiting_spelling (waiting_of items access) ≡ begun ++ flat_map other_spelling others
queue_appended items first others access old counted begun is count one =
    rw (is, one, rw is at count, queue_spelled first others access) (simp append_assoc)
