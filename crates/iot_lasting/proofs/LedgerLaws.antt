-- Pieces that follow each other, and what is counted of them.
use Rattle.std.proofs.Common.{◌≡◌, ℕ, zero, suc, ◌+◌, ◌<◌, ◌≤◌, ◌==◌, Bool, false, List, [], ◌∷◌, ◌++◌, Option, Some, None}
use Rattle.std.proofs.Common.{inl, inr, refl, sym, ap, subst, ◌∙◌, length, map, slice_index_or, slice_set, arith}
use Rattle.std.proofs.lemmas.Bool.{cases_lt}
use Rattle.std.proofs.lemmas.Bool.Decides.{nat_tests}
use Rattle.std.proofs.lemmas.List.{append_assoc, append-nil, length-set}
use Rattle.iot_machine.specs.Machine.{Client, Commit, no_client}
use Rattle.iot_machine.specs.Serving.{server_name}
use Rattle.iot_machine.specs.Texts.{stopped_line}
use Rattle.iot_lasting.specs.Ledger.{Row, Ledger, row_of, row_at}
use Rattle.iot_lasting.specs.Sayings as forms
use Rattle.iot_lasting.specs.Sayings.{IsOther}
use Rattle.iot_lasting.specs.Telling.{Piece, StopLine, CommitSaid, Joins, Other, once_more, note, piece_text, noted, told}
use Rattle.iot_lasting.specs.Telling.{Fits, AllFit, is_stop_of, one_if, stop_lines, commit_in, commits_in}

-- ---- one text after the other

-- from one ledger to another, by this text
pub record Told (l : Ledger) (text : List ℕ) (k : Ledger) : Type 0 where
  pub pieces : List Piece
  pub fit : AllFit l pieces
  pub whole : text ≡ told l pieces
  pub is : k ≡ noted l pieces

noted_then : (l : Ledger) (some_ more : List Piece) → noted l (some_ ++ more) ≡ noted (noted l some_) more
noted_then l [] more = refl
noted_then l (piece ∷ some_) more = noted_then (note l piece) some_ more

told_pieces : (l : Ledger) (some_ more : List Piece) → told l (some_ ++ more) ≡ told l some_ ++ told (noted l some_) more
told_pieces l [] more = refl
told_pieces l (piece ∷ some_) more = ap (λ (rest : List ℕ). piece_text l piece ++ rest) (told_pieces (note l piece) some_ more)
    ∙ sym (append_assoc (piece_text l piece) (told (note l piece) some_) (told (noted (note l piece) some_) more))

fit_then : (l : Ledger) (some_ more : List Piece) → AllFit l some_ → AllFit (noted l some_) more → AllFit l (some_ ++ more)
fit_then l [] more front rest = rest
fit_then l (piece ∷ some_) more front rest = (front.0, fit_then (note l piece) some_ more front.1 rest)

pub told_then : (l k h : Ledger) (front rest text : List ℕ) → text ≡ front ++ rest → Told l front k → Told k rest h → Told l text h
told_then l k h front rest text whole one two = record {
  pieces = one.pieces ++ two.pieces;
  fit = fit_then l one.pieces two.pieces one.fit (subst (λ (k : Ledger). AllFit k two.pieces) one.is two.fit);
  whole = whole ∙ ap (λ (front : List ℕ). front ++ rest) one.whole
      ∙ ap (λ (rest : List ℕ). told l one.pieces ++ rest) (two.whole ∙ ap (λ (k : Ledger). told k two.pieces) one.is)
      ∙ sym (told_pieces l one.pieces two.pieces);
  is = two.is ∙ ap (λ (k : Ledger). noted k two.pieces) one.is ∙ sym (noted_then l one.pieces two.pieces);
}

pub told_nothing : (l k : Ledger) → k ≡ l → Told l [] k
told_nothing l k is = record { pieces = []; fit = tt; whole = refl; is = is }

pub told_piece : (l : Ledger) (piece : Piece) → Fits l piece → Told l (piece_text l piece) (note l piece)
told_piece l piece fits =
    record { pieces = piece ∷ []; fit = (fits, tt); whole = sym (append-nil (piece_text l piece)); is = refl }

pub told_other : (l : Ledger) (text : List ℕ) → IsOther l text → Told l text l
told_other l text other = told_piece l (Other text) other

-- ---- rows

-- the one that is put at a place stops once more
pub once_set : (rows : List Row) (c : ℕ) (row : Row)
    → slice_set (slice_set rows c row) c (once_more (row_at (slice_set rows c row) c)) ≡ slice_set rows c (once_more row)
once_set [] c row = refl
once_set (first ∷ rows) zero row = refl
once_set (first ∷ rows) (suc c) row = ap (λ (rows : List Row). first ∷ rows) (once_set rows c row)

-- the one at the place has the name of the one before it
pub name_set : (rows : List Row) (c : ℕ) (row : Row) → row.name ≡ (row_at rows c).name
    → (row_at (slice_set rows c row) c).name ≡ row.name
name_set [] c row is = sym is
name_set (first ∷ rows) zero row is = refl
name_set (first ∷ rows) (suc c) row is = name_set rows c row is

-- the rows of clients
pub rows_set : (clients : List Client) (c : ℕ) (client : Client)
    → map row_of (slice_set clients c client) ≡ slice_set (map row_of clients) c (row_of client)
rows_set [] c client = refl
rows_set (first ∷ clients) zero client = refl
rows_set (first ∷ clients) (suc c) client = ap (λ (rows : List Row). row_of first ∷ rows) (rows_set clients c client)

pub rows_itself : (clients : List Client) (c : ℕ)
    → slice_set (map row_of clients) c (row_of (slice_index_or clients c no_client)) ≡ map row_of clients
rows_itself [] c = refl
rows_itself (first ∷ clients) zero = refl
rows_itself (first ∷ clients) (suc c) = ap (λ (rows : List Row). row_of first ∷ rows) (rows_itself clients c)

pub rows_at : (clients : List Client) (c : ℕ) → row_at (map row_of clients) c ≡ row_of (slice_index_or clients c no_client)
rows_at [] c = refl
rows_at (first ∷ clients) zero = refl
rows_at (first ∷ clients) (suc c) = rows_at clients c

pub rows_names : (clients : List Client)
    → map (λ (client : Client). client.name) clients ≡ map (λ (row : Row). row.name) (map row_of clients)
rows_names [] = refl
rows_names (first ∷ clients) = ap (λ (names : List (List ℕ)). first.name ∷ names) (rows_names clients)

pub rows_push : (clients : List Client) (client : Client) → map row_of (clients ++ client ∷ []) ≡ map row_of clients ++ row_of client ∷ []
rows_push [] client = refl
rows_push (first ∷ clients) client = ap (λ (rows : List Row). row_of first ∷ rows) (rows_push clients client)

-- nothing is behind the end, and nothing is put there
none_set : (rows : List Row) (c : ℕ) (row : Row) → length rows ≤ c → slice_set rows c row ≡ rows
none_set [] c row beyond = refl
none_set (first ∷ rows) zero row beyond = absurd (omega (arith, beyond))
none_set (first ∷ rows) (suc c) row beyond = ap (λ (rows : List Row). first ∷ rows) (none_set rows c row (omega (arith, beyond)))

none_at : (rows : List Row) (c : ℕ) → length rows ≤ c → (row_at rows c).name ≡ []
none_at [] c beyond = refl
none_at (first ∷ rows) zero beyond = absurd (omega (arith, beyond))
none_at (first ∷ rows) (suc c) beyond = none_at rows c (omega (arith, beyond))

-- ---- stops

-- the server stops
pub server_stops : (clients : List Row) (commits : List Commit) (k : ℕ)
    → Told (record { stops = k; clients = clients; commits = commits }) (stopped_line server_name)
    (record { stops = k + 1; clients = clients; commits = commits })
server_stops clients commits k = told_piece (record { stops = k; clients = clients; commits = commits }) (StopLine None) tt

-- The client at this place stops. One that there is not has no name, and nothing is noted.
pub client_stops : (rows : List Row) (c k : ℕ) (name : List ℕ) (stops : ℕ) (commits : List Commit) → name ≡ (row_at rows c).name
    → Told (record { stops = stops; clients = slice_set rows c (record { name = name; stops = k }); commits = commits })
    (stopped_line name)
    (record { stops = stops; clients = slice_set rows c (record { name = name; stops = k + 1 }); commits = commits })
client_stops rows c k name stops commits is = elim (cases_lt c (length rows)) [
  | inl within ↦ record {
    pieces = StopLine (Some c) ∷ [];
    fit = (subst (λ (n : ℕ). c < n) (sym (length-set rows c row)) within, tt);
    whole = ap stopped_line (sym (name_set rows c row is)) ∙ sym (append-nil (stopped_line (row_at (slice_set rows c row) c).name));
    is = ap ledger (sym (once_set rows c row));
  }
  | inr beyond ↦ rw (none_set rows c row beyond, none_set rows c (once_more row) beyond)
      (told_other (ledger rows) (stopped_line name) (forms.undeclared (ap stopped_line (is ∙ none_at rows c beyond))))
]
  where
    row : Row
    row = record { name = name; stops = k }

    ledger : List Row → Ledger
    ledger clients = record { stops = stops; clients = clients; commits = commits }

-- ---- what is counted

plus_nothing : (k : ℕ) → k ≡ k + 0
plus_nothing k = omega arith

not_one : (k : ℕ) (test : Bool) → test ≡ false → k ≡ k + one_if test
not_one k test is = rw is (plus_nothing k)

-- a client that has stopped once more, and the others
stops_set : (rows : List Row) (c k : ℕ) → c < length rows
    → (row_at (slice_set rows c (once_more (row_at rows c))) k).stops ≡ (row_at rows k).stops + one_if (k == c)
stops_set [] c k within = absurd (omega (arith, within))
stops_set (row ∷ rows) zero zero within = refl
stops_set (row ∷ rows) zero (suc k) within = not_one (row_at rows k).stops (suc k == 0) (grind (arith, nat_tests))
stops_set (row ∷ rows) (suc c) zero within = not_one row.stops (0 == suc c) (grind (arith, nat_tests))
stops_set (row ∷ rows) (suc c) (suc k) within =
    subst (λ (same : Bool). (row_at (slice_set rows c (once_more (row_at rows c))) k).stops ≡ (row_at rows k).stops + one_if same)
    (both k c) (stops_set rows c k (omega (arith, within)))
  where
    both : (k c : ℕ) → (k == c) ≡ (suc k == suc c)
    both k c = grind (arith, nat_tests)

-- one more that has not stopped
stops_push : (rows : List Row) (name : List ℕ) (k : ℕ)
    → (row_at (rows ++ record { name = name; stops = 0 } ∷ []) k).stops ≡ (row_at rows k).stops
stops_push [] name zero = refl
stops_push [] name (suc k) = refl
stops_push (row ∷ rows) name zero = refl
stops_push (row ∷ rows) name (suc k) = stops_push rows name k

abbrev pub stops_in : Option ℕ → Ledger → ℕ
stops_in None l = l.stops
stops_in (Some c) l = (row_at l.clients c).stops

stops_by : (l : Ledger) (piece : Piece) → Fits l piece → (who : Option ℕ)
    → stops_in who (note l piece) ≡ stops_in who l + one_if (is_stop_of who piece)
stops_by l (StopLine None) fits None = refl
stops_by l (StopLine None) fits (Some k) = plus_nothing (stops_in (Some k) l)
stops_by l (StopLine (Some c)) fits None = plus_nothing l.stops
stops_by l (StopLine (Some c)) fits (Some k) = stops_set l.clients c k fits
stops_by l (CommitSaid commit) fits None = plus_nothing l.stops
stops_by l (CommitSaid commit) fits (Some k) = plus_nothing (stops_in (Some k) l)
stops_by l (Joins name) fits None = plus_nothing l.stops
stops_by l (Joins name) fits (Some k) = stops_push l.clients name k ∙ plus_nothing (stops_in (Some k) l)
stops_by l (Other other) fits who = plus_nothing (stops_in who l)

pub stops_noted : (l : Ledger) (pieces : List Piece) → AllFit l pieces → (who : Option ℕ)
    → stops_in who (noted l pieces) ≡ stops_in who l + stop_lines who pieces
stops_noted l [] fit who = plus_nothing (stops_in who l)
stops_noted l (piece ∷ pieces) fit who =
    let first : stops_in who (note l piece) ≡ stops_in who l + one_if (is_stop_of who piece) = stops_by l piece fit.0 who in
    let rest : stops_in who (noted (note l piece) pieces) ≡ stops_in who (note l piece) + stop_lines who pieces =
    stops_noted (note l piece) pieces fit.1 who in
    omega (arith, first, rest)

commits_by : (l : Ledger) (piece : Piece) → (note l piece).commits ≡ l.commits ++ commit_in piece
commits_by l (StopLine None) = sym (append-nil l.commits)
commits_by l (StopLine (Some c)) = sym (append-nil l.commits)
commits_by l (CommitSaid commit) = refl
commits_by l (Joins name) = sym (append-nil l.commits)
commits_by l (Other other) = sym (append-nil l.commits)

pub commits_noted : (l : Ledger) (pieces : List Piece) → (noted l pieces).commits ≡ l.commits ++ commits_in pieces
commits_noted l [] = sym (append-nil l.commits)
commits_noted l (piece ∷ pieces) =
    commits_noted (note l piece) pieces ∙ ap (λ (list : List Commit). list ++ commits_in pieces) (commits_by l piece)
    ∙ append_assoc l.commits (commit_in piece) (commits_in pieces)
