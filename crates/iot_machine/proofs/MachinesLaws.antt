-- What keeps a machine sound: another server, another client in a place, and one more client.
use Rattle.std.proofs.Common.{◌≡◌, ℕ, ◌<◌, List, [], ◌∷◌, ◌++◌, length}
use Rattle.std.proofs.Common.{slice_index_or, refl, sym, subst, arith}
use Rattle.std.proofs.lemmas.List.{length-set, length-append}
use Rattle.std.specs.List.{AllByRecursion}
use Rattle.iot_machine.specs.Clients.{new_client}
use Rattle.iot_machine.specs.Machine.{Machine, Client, Commit, no_client, client_in, put_client}
use Rattle.iot_machine.specs.Events.{client_of, add_client}
use Rattle.iot_machine.specs.Sound.{Possibly, IsSureOf, AreNumbered, IsNumbered}
use Rattle.iot_machine.specs.Sound.{Knows, HasPlans, IsListed, AreOnce, IsSound}
use Rattle.iot_machine.proofs.FollowsLaws.{all_push, all_set, at_set, at_push, all_as}
use Rattle.iot_machine.proofs.PossiblyLaws.{possibly_as, Within, Continues}

-- ---- a machine, and one of its parts anew

listed_from : (m n : Machine) → n.clients ≡ m.clients → (commit : Commit) → IsListed m commit → IsListed n commit
listed_from m n same commit it = record { client = rw same it.client; known = rw same it.known }

-- the same clients, and a server that has no other states
pub sound_from : (m n : Machine) → n.clients ≡ m.clients → Within m.server n.server → IsSound m → IsSound n
sound_from m n clients within sound = record {
  sure = within.sure sound.sure;
  sure_of = rw clients sound.sure_of;
  numbered = rw clients sound.numbered;
  planned = rw clients sound.planned;
  listed = possibly_as n.server (λ list. all_as (IsListed m) (IsListed n) list (listed_from m n clients))
      (within.each (AllByRecursion (IsListed m)) sound.listed);
  once = within.each AreOnce sound.once;
}

-- another machine with this commit in its list, whose client knows of it too
pub listed_by : (m n : Machine) (commit : Commit) → (commit.entry.client < length m.clients → commit.entry.client < length n.clients)
    → (Possibly (Knows commit) (client_in m commit.entry.client).node → Possibly (Knows commit) (client_in n commit.entry.client).node)
    → IsListed m commit → IsListed n commit
listed_by m n commit within known it = record { client = within it.client; known = known it.known }

-- another client at a place, of which the same holds
pub put_sound : (c : ℕ) (client : Client) (m : Machine) → Continues (client_in m c).node client.node → IsSound m
    → IsSound (put_client c client m)
put_sound c client m continues sound = record {
  sure = sound.sure;
  sure_of = all_set IsSureOf m.clients c client no_client continues.sure sound.sure_of;
  numbered = all_set IsNumbered m.clients c client no_client continues.numbered sound.numbered;
  planned = all_set HasPlans m.clients c client no_client continues.planned sound.planned;
  listed = possibly_as m.server (λ list. all_as (IsListed m) (IsListed (put_client c client m)) list stays) sound.listed;
  once = sound.once;
}
  where
    stays : (commit : Commit) → IsListed m commit → IsListed (put_client c client m) commit
    stays commit it = listed_by m (put_client c client m) commit
        (subst (λ (n : ℕ). commit.entry.client < n) (sym (length-set m.clients c client)))
        (at_set (λ one. Possibly (Knows commit) one.node) m.clients c commit.entry.client client no_client
        (λ same. continues.known commit))
        it

-- a client of which nothing is known
pub new_numbered : AreNumbered new_client
new_numbered = record { apart = tt; given = tt; rise = tt; few = omega arith }

-- one more client
pub added_sound : (name : List ℕ) (m : Machine) → IsSound m → IsSound (add_client name m)
added_sound name m sound = record {
  sure = sound.sure;
  sure_of = all_push IsSureOf m.clients new (λ up. refl) sound.sure_of;
  numbered = all_push IsNumbered m.clients new (record { is = new_numbered; may_be = tt }) sound.numbered;
  planned = all_push HasPlans m.clients new (record { is = tt; may_be = tt }) sound.planned;
  listed = possibly_as m.server (λ list. all_as (IsListed m) (IsListed (add_client name m)) list stays) sound.listed;
  once = sound.once;
}
  where
    new : Client
    new = client_of name m

    more : {n : ℕ} → n < length m.clients → n < length (m.clients ++ new ∷ [])
    more within = omega (arith, length-append m.clients (new ∷ []), within)

    stays : (commit : Commit) → IsListed m commit → IsListed (add_client name m) commit
    stays commit it = listed_by m (add_client name m) commit more
        (at_push (λ one. Possibly (Knows commit) one.node) m.clients commit.entry.client new no_client it.client)
        it

-- it stands at the place behind the others
last_at : {A : Type 0} (xs : List A) (x d : A) → slice_index_or (xs ++ x ∷ []) (length xs) d ≡ x
last_at [] x d = refl
last_at (y ∷ ys) x d = last_at ys x d

pub added_at : (name : List ℕ) (m : Machine) → client_in (add_client name m) (length m.clients) ≡ client_of name m
added_at name m = last_at m.clients (client_of name m) no_client
