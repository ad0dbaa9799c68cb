-- A client with the server: what they are that are ready, what is known of their disks, how what they do goes together, and how a task is
-- one of the machine, also if the client is down.
use Rattle.std.proofs.Common.{is_some, length-append, suc, ◌&&◌, ◌*◌, ◌≤◌}
use Rattle.iot_disk.specs.Disk.{Storing}
use Rattle.iot_exchange.proofs.Common.{Answers, Asks, Bool, Both, Call, Client, ClientState, Compared, Declared, Does, DoesFrom, Err}
use Rattle.iot_exchange.proofs.Common.{Follows, Goes, Halt, IsAt, IsErrAnd, IsReadyWith, Item, ItemsStand, Keeps, KeepsDisk, KeepsDisks}
use Rattle.iot_exchange.proofs.Common.{Laptop, List, Medium, NoMemory, Nodes, None, Notes, Ok, OnConflict, Option, Over, Pair, PairStands}
use Rattle.iot_exchange.proofs.Common.{Repeats, Result, ServerNode, ServerStands, Some, StepFrom, StepsTo, SyncsNext, Tells, Then, Try}
use Rattle.iot_exchange.proofs.Common.{UnlessNoMemory, UpStands, Yields, after_acts, ap, append-nil, arith, codes, disk_in, false, has_any}
use Rattle.iot_exchange.proofs.Common.{joined, kept, length, line, not, pends, quiet, refl, runs_is, stamps_in, state_in, subst, sym, true}
use Rattle.iot_exchange.proofs.Common.{two, unless_over, waits_is, waits_of, yield_if, yielding, ℕ, [], ◌++◌, ◌+◌, ◌-◌, ◌<◌, ◌∙◌, ◌∷◌, ◌≡◌}
use Rattle.iot_exchange.proofs.StepsLaws.{answers_from, asks_from, behind, refuses_from, says_from, then_from}
use Rattle.iot_exchange.specs.{Pairs.AnyStands, Pairs.IsStandingWith, Pairs.KeepsServed, Words.SyncsAll}
use Rattle.iot_judging.proofs.FollowingLaws.{follows_kept}
use Rattle.iot_laptop.{proofs.NodesLaws.awake, proofs.NodesLaws.awake_stands, proofs.NodesLaws.node_is, specs.Alone.CertifiesAlone}
use Rattle.iot_laptop.specs.Alone.{ComparesAlone, NotesAlone, StartsAlone, YieldsAlone, YieldsAndNotes, certify_alone, change_by, set_class}
use Rattle.iot_laptop.specs.{Alone.yields_by, Calls.EndsAlone, Laptops.SamePlace, Laptops.StandsAnyhow, Laptops.is_alive}
use Rattle.iot_machine.{proofs.StepsLaws.at_each, specs.Calls.Gets, specs.Calls.OrSays, specs.Calls.Whole, specs.Calls.either}
use Rattle.iot_machine.specs.{Calls.or_text, Clients.begin, Events.IfUp, Events.is_drained, Transactions.Compares, Transactions.Starts}
use Rattle.{iot_machine.specs.Transactions.unless_stopped, iot_server_node.proofs.BeginningLaws.records_same}
use Rattle.iot_server_node.{proofs.BeginningLaws.records_then, specs.Disks.on_both, specs.Servers.disk_of}
use Rattle.iot_machine.specs.Clients as clients
use Rattle.iot_machine.proofs.StepsLaws as calls
use Rattle.iot_server_node.proofs.ServersLaws as servers
use Rattle.iot_laptop.proofs.RestartLaws as restarts
use Rattle.iot_laptop.specs.Alone as alone
use Rattle.iot_machine.specs.Transactions as machine

-- a call that leaves the client alive
abbrev pub StepsOn : {D A : Type 0} → Medium D → List Declared → (names : List (List ℕ)) → (c : ℕ) → Call Pair A → (u v : Both D)
    → (x y : List ℕ) → A → Type 0
StepsOn medium scripts names c call u v x y a = StepsTo (UpStands medium scripts names c) (UpStands medium scripts names c) call u v x y a

-- the same pair with another client in its place, under the same name
pub in_place : {D : Type 0} {medium : Medium D} {P Q : Laptop D → Client → Type 0} {names : List (List ℕ)} {c : ℕ} {old new : Laptop D}
    {server : ServerNode D} {pair : Pair} {n : Client} → PairStands c (IsAt P names c) (ServerStands medium names) (two old server) pair
    → Q new n → SamePlace old new → n.name ≡ pair.client.name → Follows (stamps_in new) pair.server.durable
    → PairStands c (IsAt Q names c) (ServerStands medium names) (two new server) (record pair { client = n })
in_place here is place name follows = record {
  place = here.place;
  client = record {
    is = is;
    place = place ∙ here.client.place;
    named = here.client.named ∙ ap (λ (name : List ℕ). Some name) (sym name);
    few = here.client.few;
  };
  server = here.server;
  follows = follows;
}

-- ---- disks

-- there are disks after a call, which stay as they are
keeps_new : {P I : Type 0} (storing : Storing P I) {old new : Option P} → KeepsDisk storing old new → KeepsDisk storing new new
keeps_new storing {new = new} keeps = servers.keeps_same storing new new (ap is_some keeps.new_has) refl

module _ {D : Type 0} {medium : Medium D} where
  -- a server that has its disks keeps them if nothing is done
  served_same : {server : ServerNode D} → KeepsDisk (on_both medium) (disk_of server) (disk_of server) → KeepsServed medium server server
  served_same has = record {
    server = has;
    beside = λ promoted arms had. had;
    records = records_same (on_both medium) _ _ refl;
  }

  pub keeps_then : {u v w : Both D} → KeepsDisks medium u v → KeepsDisks medium v w → KeepsDisks medium u w
  keeps_then one other = record {
    client = restarts.keeps_then medium _ _ _ one.client other.client;
    served = record {
      server = restarts.keeps_then (on_both medium) _ _ _ one.server other.server;
      beside = λ promoted arms had. other.beside promoted arms (one.beside promoted arms had);
      records = records_then (on_both medium) _ _ _ one.records other.records;
    };
  }

  -- so has each its disks afterwards
  pub keeps_now : {u v : Both D} → KeepsDisks medium u v → KeepsDisks medium v v
  keeps_now keeps = record { client = keeps_new medium keeps.client; served = served_same (keeps_new (on_both medium) keeps.served.server) }

  -- and after one more call of the client alone
  pub keeps_more : {u v : Both D} {laptop : Laptop D} → KeepsDisks medium u v → KeepsDisk medium (disk_in v.laptop) (disk_in laptop)
      → KeepsDisks medium u (two laptop v.server)
  keeps_more keeps more = keeps_then keeps (record { client = more; served = (keeps_now keeps).served })

  -- the client's is the same
  pub keeps_served : {u : Both D} {laptop : Laptop D} {server : ServerNode D} → KeepsDisks medium u u → disk_in laptop ≡ disk_in u.laptop
      → KeepsServed medium u.server server → KeepsDisks medium u (two laptop server)
  keeps_served keeps same served = record { client = rw same keeps.client; served = served }

  -- ---- alive or down

  -- one that is alive stands for its pair anyhow
  pub still : {scripts : List Declared} {names : List (List ℕ)} {c : ℕ} {u : Both D} {pair : Pair} → UpStands medium scripts names c u pair
      → AnyStands medium scripts names c u pair
  still here = in_place here (awake here.client.is) refl refl here.follows

  module _ {scripts : List Declared} {names : List (List ℕ)} {c : ℕ} {u : Both D} {pair : Pair} where
    pub anyhow : AnyStands medium scripts names c u pair → StandsAnyhow medium u.laptop
    anyhow here = record { scripts = scripts; machine = pair.client; stands = here.client.is }

    pub keeps_standing : AnyStands medium scripts names c u pair → KeepsDisks medium u u
    keeps_standing here = record {
      client = restarts.keeps_any medium u.laptop (anyhow here);
      served = served_same
          (servers.keeps_same (on_both medium) _ _ (servers.has_disk medium names u.server.post pair.server here.server.post) refl);
    }

    pub ready_by : UpStands medium scripts names c u pair → IsReadyWith medium scripts u
    ready_by here = record {
      names = names;
      c = c;
      pair = pair;
      stands = here;
      ready = record {
        scripts = scripts;
        names = names;
        c = c;
        pair = pair;
        stands = here;
        alive = record { scripts = scripts; machine = pair.client; stands = here.client.is };
        low = subst (λ (c : ℕ). c ≤ 7) (sym here.client.place) here.client.few;
        keeps = keeps_standing (still here);
      };
    }

-- a fact of each pair for which the two stand
abbrev pub OfEach : {D : Type 0} → Medium D → List Declared → Both D → (Pair → Type 0) → Type 0
OfEach medium scripts u P = (names : List (List ℕ)) (c : ℕ) (pair : Pair) → UpStands medium scripts names c u pair → P pair

module _ {D : Type 0} {medium : Medium D} {scripts : List Declared} where
  -- ---- one call, and then another

  pub each_from : {A : Type 0} {call : Try Pair A} {u v : Both D} {x y : List ℕ} {result : Result A Halt} → KeepsDisks medium u v
      → ((names : List (List ℕ)) (c : ℕ) (pair : Pair) → UpStands medium scripts names c u pair
      → DoesFrom medium scripts names c call pair v x y result) → Does medium scripts call u v x y result
  each_from keeps each = record { step = each; disks = keeps }

  -- from one pair, by which what follows may go
  pub goes_from : {A B : Type 0} {one : Try Pair A} {next : A → Try Pair B} {u v w : Both D} {x y z : List ℕ} {a : A}
      {inner : Result A Halt} {result : Result B Halt} {names : List (List ℕ)} {c : ℕ} {pair : Pair} → inner ≡ Ok a
      → Does medium scripts one u v x y inner → UpStands medium scripts names c u pair
      → ((after : Pair) → UpStands medium scripts names c v after → DoesFrom medium scripts names c (next a) after w y z result)
      → DoesFrom medium scripts names c (Goes one next) pair w x z result
  goes_from was it here each = let went = rw was at it in let s = (went.step _ _ _ here).is in behind s (each s.next s.stands)

  pub goes_then : {A B : Type 0} {one : Try Pair A} {next : A → Try Pair B} {u v w : Both D} {x y z : List ℕ} {a : A}
      {inner : Result A Halt} {result : Result B Halt} → inner ≡ Ok a → Does medium scripts one u v x y inner
      → Does medium scripts (next a) v w y z result → Does medium scripts (Goes one next) u w x z result
  goes_then {next = next} was it more = record {
    step = λ names c pair here. goes_from {next = next} was it here (more.step names c);
    disks = keeps_then it.disks more.disks;
  }

  -- memory ran out
  pub no_memory : {A : Type 0} {call : Try Pair A} {u v : Both D} {x y : List ℕ} {outer : Result A Halt}
      → IsErrAnd outer (λ halt. halt ≡ NoMemory) → KeepsDisks medium u v → Does medium scripts call u v x y outer
  no_memory {outer = Ok value} is keeps = absurd is
  no_memory {outer = Err halt} is keeps = rw is (record { step = λ names c pair here. record { is = tt }; disks = keeps })

  -- what a `?` hands on
  pub hands_on : {A B : Type 0} {one : Try Pair A} {next : A → Try Pair B} {u v : Both D} {x y : List ℕ} {inner : Result A Halt}
      {outer : Result B Halt} {fault : Halt} → inner ≡ Err fault → IsErrAnd outer (λ other. other ≡ fault)
      → Does medium scripts one u v x y inner → Does medium scripts (Goes one next) u v x y outer
  hands_on {fault = NoMemory} was is it = no_memory is it.disks
  hands_on {outer = Ok value} was is it = absurd is
  hands_on {outer = Err other} was is it = rw is (each_from it.disks (λ names c pair here.
      let over = rw was at it in
      let s = (over.step names c pair here).is in behind s (record { is = quiet _ (refl, refl, refl) s.stands })))

  -- a call that always goes on
  pub then_does : {A B : Type 0} {one : Call Pair A} {next : A → Try Pair B} {u v w : Both D} {x y z : List ℕ} {a : A}
      {result : Result B Halt} → ((names : List (List ℕ)) (c : ℕ) → StepsOn medium scripts names c one u v x y a)
      → KeepsDisks medium u v → Does medium scripts (next a) v w y z result → Does medium scripts (Then one next) u w x z result
  then_does it keeps more = record {
    step = λ names c pair here. then_from (it names c) here (more.step names c);
    disks = keeps_then keeps more.disks;
  }

  -- a look at the pair, or a test, whose answer is known
  pub asks_then : {A B : Type 0} {ask : Pair → A} {next : A → Try Pair B} {u v : Both D} {x y : List ℕ} {a : A} {result : Result B Halt}
      → OfEach medium scripts u (λ pair. a ≡ ask pair) → Does medium scripts (next a) u v x y result
      → Does medium scripts (Then (Asks ask) next) u v x y result
  asks_then is it = record { step = λ names c pair here. asks_from (is names c pair here) (it.step names c pair here); disks = it.disks }

  -- ---- answers, refusals, and what is said

  pub answers : {A : Type 0} {u v : Both D} {x : List ℕ} {a : A} → KeepsDisks medium u v
      → Does medium scripts (Answers (Some a)) v v x x (Ok a)
  answers keeps = record { step = λ names c pair here. answers_from here; disks = keeps_now keeps }

  pub tells : {A : Type 0} {text : Pair → List ℕ} {u v : Both D} {x y : List ℕ} {a : A} → KeepsDisks medium u v
      → OfEach medium scripts v (λ pair. y ≡ x ++ text pair) → Does medium scripts (Tells text (Some a)) v v x y (Ok a)
  tells keeps wrote = record { step = λ names c pair here. says_from (wrote names c pair here) here; disks = keeps_now keeps }

  pub refuses : {A : Type 0} {text : List ℕ} {u v : Both D} {x y : List ℕ} → KeepsDisks medium u v → y ≡ x ++ text
      → Does {A = A} medium scripts (Tells (λ _. text) None) v v x y (Err Over)
  refuses keeps wrote = record { step = λ names c pair here. refuses_from wrote (still here); disks = keeps_now keeps }

  -- it goes on, and then this is answered, or said
  pub then_answers : {A B : Type 0} {one : Try Pair A} {f : A → B} {u v : Both D} {x y : List ℕ} {a : A} {b : B} {inner : Result A Halt}
      → inner ≡ Ok a → b ≡ f a → Does medium scripts one u v x y inner
      → Does medium scripts (Goes one (λ a. Answers (Some (f a)))) u v x y (Ok b)
  then_answers {f = f} was is it = rw is (goes_then {next = λ a. Answers (Some (f a))} was it (answers it.disks))

  pub then_tells : {A B : Type 0} {one : Try Pair A} {text : Pair → List ℕ} {u v : Both D} {x y z : List ℕ} {a : A} {b : B}
      {inner : Result A Halt} → inner ≡ Ok a → Does medium scripts one u v x y inner → OfEach medium scripts v (λ pair. z ≡ y ++ text pair)
      → Does medium scripts (Goes one (λ _. Tells text (Some b))) u v x z (Ok b)
  then_tells was it wrote = goes_then was it (tells it.disks wrote)

  -- this text follows if nothing was said
  pub or_says : {A : Type 0} {call : Try Pair A} {other : List ℕ} {u v : Both D} {x z w : List ℕ} {result : Result A Halt}
      → ((text : List ℕ) → z ≡ x ++ text → w ≡ x ++ or_text other text) → Does medium scripts call u v x z result
      → Does medium scripts (OrSays other call) u v x w result
  or_says {result = Err NoMemory} each it = record { step = λ names c pair here. record { is = tt }; disks = it.disks }
  or_says {other = other} each it = each_from it.disks (λ names c pair here.
      let s = (it.step names c pair here).is in
      record {
        is = record {
          text = or_text other s.text;
          next = s.next;
          wrote = each s.text s.wrote;
          step = record { said = s.text; done = s.step; is = refl };
          stands = s.stands;
        };
      })

  -- ---- after a call that goes on

  pub ready_after : {A : Type 0} {call : Try Pair A} {u v : Both D} {x y : List ℕ} {a : A} {inner : Result A Halt} → inner ≡ Ok a
      → Does medium scripts call u v x y inner → {names : List (List ℕ)} {c : ℕ} {pair : Pair} → UpStands medium scripts names c u pair
      → IsReadyWith medium scripts v
  ready_after was it here = let went = rw was at it in ready_by (went.step _ _ _ here).is.stands

-- ---- what the client does alone

-- a call of the client is one of the pair, and leaves its name
pub record Lifts {A : Type 0} (one : Call Client A) (call : Call Pair A) : Type 0 where
  pub lift : (pair : Pair) (text : List ℕ) (a : A) (n : Client) → one pair.client text a n
      → call pair text a (record pair { client = n }) × (n.name ≡ pair.client.name)

lift_then : {A B : Type 0} {one : Call Client A} {call : Call Pair A} {next : A → Call Client B} {more : A → Call Pair B}
    → Lifts one call → ((a : A) → Lifts (next a) (more a)) → Lifts (Then one next) (Then call more)
lift_then lifts each = record {
  lift = λ pair text b n it.
      let mid : Pair = record pair { client = it.mid } in
      let one = lifts.lift pair it.front it.answer it.mid it.first in
      let more = (each it.answer).lift mid it.rest b n it.second in (
        record { mid = mid; front = it.front; rest = it.rest; answer = it.answer; first = one.0; second = more.0; whole = it.whole },
        more.1 ∙ one.1,
      );
}

-- a look at the client, and no change but of its classes
lift_gets : {A : Type 0} (ask : Client → A) (change : Client → Client) → ((m : Client) → (change m).name ≡ m.name)
    → Lifts (Gets ask change) (Gets (λ pair. ask pair.client) (λ pair. record pair { client = change pair.client }))
lift_gets ask change same = record {
  lift = λ pair text b n it. ((it.0, it.1, (λ i. record pair { client = it.2 i })), (λ i. (it.2 i).name) ∙ same pair.client);
}

-- a change of what it keeps
pub notes : (change : ClientState → ClientState) → Lifts (NotesAlone change) (Notes change)
notes change = lift_then (record { lift = λ pair text a n it. (record { inner = n; step = it; is = refl }, (λ i. (it.is i).name)) })
    (λ on. lift_gets (λ _. unless_stopped on) (λ m. m) (λ m. refl))

lift_unless : {A B : Type 0} {next : A → Try Client B} {more : A → Try Pair B} → ((a : A) → Lifts (next a) (more a)) → (o : Option A)
    → Lifts (unless_over next o) (unless_over more o)
lift_unless each None = lift_gets (λ _. None) (λ m. m) (λ m. refl)
lift_unless each (Some a) = each a

-- the beginning of a transaction
pub starts : (script : Declared) (option : OnConflict Declared) (first : Bool)
    → Lifts (StartsAlone script option first) (Starts script option first)
starts script option first = lift_then (lift_gets (λ client. client.node.durable.last + 1) (λ m. m) (λ m. refl)) (λ number.
    lift_then (notes (begin script option)) (lift_unless (λ done. lift_gets (λ _. Some number) (set_class number first) (λ m. refl))))

-- ---- one that yields

pub yields_pair : (number : ℕ) (pair : Pair) → record pair { client = yielding number pair.client } ≡ yield_if number (pends pair) pair
yields_pair number pair =
    elim (pends pair) as (λ b. record pair { client = record pair.client { first = yields_by number b pair.client.first } }
    ≡ yield_if number b pair) [ true ↦ refl | false ↦ refl ]

pub yields : (number : ℕ) → Lifts (YieldsAlone number) (Yields number)
yields number = record {
  lift = λ pair text a n it. ((it.0, (λ i. record pair { client = it.1 i }) ∙ yields_pair number pair), (λ i. (it.1 i).name));
}

pub yields_then : (number : ℕ) (change : ClientState → ClientState)
    → Lifts (YieldsAndNotes number change) (Then (Yields number) (λ _. Notes change))
yields_then number change = lift_then (yields number) (λ _. notes change)

-- ---- one that is certified

compares : (it : clients.Running) → Lifts (ComparesAlone it) (Compares it)
compares it = record { lift = by }
  where
    by : (pair : Pair) (text : List ℕ) (found : Compared) (n : Client) → ComparesAlone it pair.client text found n
        → Compares it pair text found (record pair { client = n }) × (n.name ≡ pair.client.name)
    by pair text found n (alone.same is silent same stays) =
        (machine.same is silent same (λ i. record pair { client = stays i }), (λ i. (stays i).name))
    by pair text found n (alone.parts read question is silent same stays) =
        (machine.parts read question is silent same (λ i. record pair { client = stays i }), (λ i. (stays i).name))

-- what was found is noted
abbrev pub noted : (number : ℕ) → Compared → Try Pair Compared
noted number found = Goes (Notes (change_by number found)) (λ _. Answers (Some found))

abbrev pub certifying : Option clients.Running → Try Pair Compared
certifying None = Answers None
certifying (Some it) = Then (Yields it.number) (λ _. Then (Compares it) (noted it.number))

-- the one with this number is certified, and what was found is noted
abbrev pub Certifying : (number : ℕ) → Try Pair Compared
Certifying number = Then (Asks (λ pair. clients.numbered number (kept pair))) certifying

lift_certifying : (o : Option clients.Running) → Lifts (certify_alone o) (certifying o)
lift_certifying None = lift_gets (λ _. None) (λ m. m) (λ m. refl)
lift_certifying (Some it) = lift_then (yields it.number) (λ _. lift_then (compares it) (λ found.
    lift_then (notes (change_by it.number found)) (lift_unless (λ _. lift_gets (λ _. Some found) (λ m. m) (λ m. refl)))))

pub certifies_one : (number : ℕ) → Lifts (CertifiesAlone number) (Certifying number)
certifies_one number = lift_then (lift_gets (λ client. clients.numbered number client.node.durable) (λ m. m) (λ m. refl)) lift_certifying

-- ---- one call of the client

module _ {D : Type 0} {medium : Medium D} where
  module _ {A : Type 0} {scripts : List Declared} {one : Try Client A} {call : Try Pair A} {u v : Both D} {new : Laptop D} {x y : List ℕ}
    where
      -- what it holds then still follows the server's list
      pub by_call : {result : Result A Halt} → Lifts one call → KeepsDisks medium u v → SamePlace v.laptop new
          → UnlessNoMemory result (OfEach medium scripts v (λ pair. Follows (stamps_in new) pair.server.durable))
          → EndsAlone medium scripts one v.laptop new x y result → KeepsDisk medium (disk_in v.laptop) (disk_in new)
          → Does medium scripts call v (two new v.server) x y result
      by_call {result = Err NoMemory} lifts keeps place follows it more =
          record { step = λ names c pair here. record { is = tt }; disks = keeps_more (keeps_now keeps) more }
      by_call lifts keeps place follows it more = record {
        step = λ names c pair here.
            let t = it.is.step pair.client here.client.is in
            let did = lifts.lift pair t.0 _ t.1 t.3 in record {
              is = record {
                text = t.0;
                next = record pair { client = t.1 };
                wrote = t.2;
                step = did.0;
                stands = in_place here t.4 place did.1 (follows names c pair here);
              };
            };
        disks = keeps_more (keeps_now keeps) more;
      }

      -- one that does not ask the server
      pub by_client : {result : Result A Halt} → Lifts one call → KeepsDisks medium u v → Keeps medium v.laptop new result
          → EndsAlone medium scripts one v.laptop new x y result → Does medium scripts call v (two new v.server) x y result
      by_client {result = Err NoMemory} lifts keeps own it = by_call lifts keeps own.place tt it own.disk
      by_client lifts keeps own it =
          by_call lifts keeps own.place (λ names c pair here. follows_kept _ _ pair.server.durable own.trails here.follows) it own.disk

-- ---- again and again

-- so much was done in these rounds that what is left makes the whole
pub record SoFar {D : Type 0} (medium : Medium D) (scripts : List Declared) (most : ℕ) (round : Try Pair Bool) (u : Both D) (x : List ℕ)
    (done : ℕ) (v : Both D) (y : List ℕ) : Type 0 where
  pub whole : (w : Both D) (z : List ℕ) (result : Result (Unit {0}) Halt)
      → Does medium scripts (Repeats (most - done) round) v w y z result → Does medium scripts (Repeats most round) u w x z result

module _ {D : Type 0} {medium : Medium D} {scripts : List Declared} {most : ℕ} {round : Try Pair Bool} {u : Both D} {x : List ℕ} where
  pub none_yet : SoFar medium scripts most round u x 0 u x
  none_yet = record { whole = λ w z result it. let all : most - 0 ≡ most = omega arith in rw all at it }

  module _ {done : ℕ} {v : Both D} {y : List ℕ} (so_far : SoFar medium scripts most round u x done v y) where
    -- one round more is done
    more : {w : Both D} {z : List ℕ} {result : Result (Unit {0}) Halt} → done < most
        → Does medium scripts (Goes round (either (Repeats (most - (done + 1)) round) (Answers (Some tt)))) v w y z result
        → Does medium scripts (Repeats most round) u w x z result
    more {w} {z} {result} within it = so_far.whole w z result
        (let left : most - done ≡ suc (most - (done + 1)) = omega (arith, within) in rw left it)

    module _ {w : Both D} {z : List ℕ} {inner : Result Bool Halt} (within : done < most)
        (it : Does medium scripts round v w y z inner) where
      -- and it goes on
      pub one_more : {b : Bool} → inner ≡ Ok b → b ≡ true → SoFar medium scripts most round u x (done + 1) w z
      one_more was on = record { whole = λ last t result rest. more within (goes_then (rw on at was) it rest) }

      -- that was the last one
      pub last_round : {b : Bool} → inner ≡ Ok b → b ≡ false → Does medium scripts (Repeats most round) u w x z (Ok tt)
      last_round was off = more within (goes_then (rw off at was) it (answers it.disks))

      -- it has not gone on
      pub halted_round : {outer : Result (Unit {0}) Halt} {fault : Halt} → inner ≡ Err fault → IsErrAnd outer (λ other. other ≡ fault)
          → Does medium scripts (Repeats most round) u w x z outer
      halted_round was is = more within (hands_on was is it)

    -- no more are to be made
    pub all_rounds : most ≤ done → KeepsDisks medium v v → Does medium scripts (Repeats most round) u v x y (Ok tt)
    all_rounds all keeps = so_far.whole v y (Ok tt) (let none : most - done ≡ 0 = omega (arith, all) in rw none (answers keeps))

-- ---- a text if nothing was said

pub if_silent : (other x z w : List ℕ) → length z ≡ length x → w ≡ z ++ other → (text : List ℕ) → z ≡ x ++ text
    → w ≡ x ++ or_text other text
if_silent other x z w same wrote [] is = wrote ∙ ap (λ (l : List ℕ). l ++ other) (is ∙ append-nil x)
if_silent other x z w same wrote (byte ∷ bytes) is =
    let long = ap length is in absurd (omega (arith, same, long, length-append x (byte ∷ bytes)))

pub if_spoken : (other x z : List ℕ) → (length z ≡ length x → ⊥) → (text : List ℕ) → z ≡ x ++ text → z ≡ x ++ or_text other text
if_spoken other x z longer [] is = absurd (longer (ap length (is ∙ append-nil x)))
if_spoken other x z longer (byte ∷ bytes) is = is

-- ---- what a client knows of its pair

module _ {D : Type 0} {medium : Medium D} {scripts : List Declared} {u : Both D} (b : Bool) where
  pub up_is : u.laptop.link.up ≡ b → OfEach medium scripts u (λ pair. b ≡ pair.client.link.up)
  up_is is names c pair here = sym is ∙ ap (λ link. link.up) here.client.is.link

  pub drained_is : (is_alive u.laptop && not (waits_of (state_in u.laptop).items) && not (has_any (state_in u.laptop).running)
      && u.laptop.link.up) ≡ b → OfEach medium scripts u (λ pair. b ≡ is_drained pair)
  drained_is is names c pair here =
      let it = here.client.is in
      sym is ∙ (λ i. (sym (node_is medium u.laptop pair.client it.node) ∙ it.alive) i && not (waits_is _ _ _ _ it.state i)
      && not (runs_is _ _ _ _ it.state i) && (it.link i).up)

-- ---- all of them

pub items_long : (items : List Item) (t : Nodes) (ms : List clients.Item) → ItemsStand items t ms → length items ≡ length ms
items_long [] t [] stand = refl
items_long (item ∷ items) t (m ∷ ms) stand = ap suc (items_long items (after_acts t item.acts) ms stand.1)
items_long items t ms stand = absurd stand

pub all_by : {D : Type 0} {medium : Medium D} {scripts : List Declared} {u w : Both D} {x z : List ℕ} {most : ℕ}
    {result : Result (Unit {0}) Halt} → most ≡ 3 * length (state_in u.laptop).items
    → Does medium scripts (Repeats most SyncsNext) u w x z result → Does medium scripts SyncsAll u w x z result
all_by is it = asks_then (λ names c pair here. items_long _ _ _ here.client.is.state.items) (rw is at it)

-- ---- a task, of a client that is alive or down

wholly : {W : Type 0} {P Q : W → Pair → Type 0} {call : Try Pair (Unit {0})} {o : Option (Unit {0})} {pair : Pair} {v : W} {x y : List ℕ}
    → ((n : Pair) → P v n → Q v n) → StepFrom P call pair v x y o → StepFrom Q (Whole call) pair v x y tt
wholly less it = joined it (quiet _ (refl, refl) (less it.next it.stands))

abbrev IsTask : {D : Type 0} → Medium D → List Declared → (names : List (List ℕ)) → (c : ℕ) → Try Pair (Unit {0}) → (u v : Both D)
    → (x y : List ℕ) → Type 0
IsTask medium scripts names c call u v x y =
    StepsTo (AnyStands medium scripts names c) (AnyStands medium scripts names c) (IfUp call) u v x y tt

module _ {D : Type 0} {medium : Medium D} {scripts : List Declared} {u : Both D} where
  up_there : {names : List (List ℕ)} {c : ℕ} {pair : Pair} → is_alive u.laptop ≡ true → AnyStands medium scripts names c u pair
      → UpStands medium scripts names c u pair
  up_there {pair = pair} alive here =
      in_place here (awake_stands medium scripts u.laptop pair.client alive here.client.is) refl refl here.follows

  pub ready_there : is_alive u.laptop ≡ true → IsStandingWith medium scripts u → IsReadyWith medium scripts u
  ready_there alive it = ready_by (up_there alive it.stands)

  module _ {call : Try Pair (Unit {0})} {x y : List ℕ} (names : List (List ℕ)) (c : ℕ) where
    -- it says that it is down
    pub says_down : is_alive u.laptop ≡ false → y ≡ x ++ line (codes "down") → IsTask medium scripts names c call u u x y
    says_down down wrote =
        calls.bind {a = false} (calls.asks (λ pair here. sym (node_is medium u.laptop pair.client here.client.is.node ∙ down)))
        (calls.says (λ pair here. wrote))

    module _ {v : Both D} {inner : Result (Unit {0}) Halt} (alive : is_alive u.laptop ≡ true)
        (it : Does medium scripts call u v x y inner) where
      if_up : ((pair : Pair) → UpStands medium scripts names c u pair
          → StepFrom (AnyStands medium scripts names c) (Whole call) pair v x y tt) → IsTask medium scripts names c call u v x y
      if_up each = calls.bind {a = true} (calls.asks (λ pair here. sym (node_is medium u.laptop pair.client here.client.is.node ∙ alive)))
          (at_each (λ pair here. each pair (up_there alive here)))

      pub all_done : inner ≡ Ok tt → IsTask medium scripts names c call u v x y
      all_done was = let did = rw was at it in if_up (λ pair here. wholly (λ n here. still here) (did.step names c pair here).is)

      pub all_over : inner ≡ Err Over → IsTask medium scripts names c call u v x y
      all_over was = let did = rw was at it in if_up (λ pair here. wholly (λ n here. here) (did.step names c pair here).is)
