-- What is said of a commit that was in doubt and was kept: what it would have said at first.
use Rattle.std.proofs.Common.{◌≡◌, ℕ, zero, suc, List, [], ◌∷◌, map, slice_index_or, refl, ap}
use Rattle.std.proofs.Math.Seq.{drop-append_seam}
use Rattle.iot_machine.specs.Events.{names_in}
use Rattle.iot_machine.specs.Machine.{Machine, Client, Commit, no_client, client_in, add_commit}
use Rattle.iot_machine.specs.Serving.{commit_text, added_text, kept_text}
use Rattle.iot_machine.specs.Texts.{transaction_name}

pub kept_added : (names : List (List ℕ)) (commits : List Commit) (commit : Commit)
    → kept_text names commits (add_commit commit commits)
    ≡ commit_text (transaction_name (slice_index_or names commit.entry.client []) commit.entry.number) commit commits
kept_added names commits commit = ap (added_text names commits) (drop-append_seam commits (commit ∷ []))

-- the name at a place is that of the client there
names_at : (clients : List Client) (c : ℕ)
    → slice_index_or (map (λ (client : Client). client.name) clients) c [] ≡ (slice_index_or clients c no_client).name
names_at [] c = refl
names_at (client ∷ clients) zero = refl
names_at (client ∷ clients) (suc c) = names_at clients c

pub name_at : (m : Machine) (c : ℕ) → slice_index_or (names_in m) c [] ≡ (client_in m c).name
name_at m c = names_at m.clients c
