-- An exchange of a client with the server; what a client asks for, and holds if it comes; and what it knows of its transactions.
use Rattle.std.{proofs.Common.◌⊎◌, specs.Prelude.nat_lt, specs.Prelude.not, specs.declared.alloc.Global.Global}
use Rattle.iot_exchange.proofs.Common.{Asked, AsksAll}
use Rattle.iot_exchange.proofs.Common.{AsksFor, Bool, Both, Call, Came, Client, ClientState, Commit, Declared, Does, Err, Errand, Follows}
use Rattle.iot_exchange.proofs.Common.{Grows, Halt, IsAt, IsOneMessage, IsReply, IsTree, Item, Judgment, KeepsDisks, Laptop, LaptopStands}
use Rattle.iot_exchange.proofs.Common.{List, Medium, Message, NoMemory, Node, Nodes, None, Notes, Objects, Ok, Option, Over, Pair}
use Rattle.iot_exchange.proofs.Common.{PairStands, Query, Reclassed, Refresh, Result, ServerNode, ServerStands, Some, SpellsCut, SpellsTree}
use Rattle.iot_exchange.proofs.Common.{SpellsVerdict, Stamps, StepsTo, UnlessNoMemory, UpStands, Vec, ap, arith, base_of, brought}
use Rattle.iot_exchange.proofs.Common.{call_one, false, has_any, held_for, hold, inl, inr, length, new_client, nodes_of, nothing_held}
use Rattle.iot_exchange.proofs.Common.{pends, refl, reply_laws, reply_spelling, request_of, rules, runs_is, stamps_in, stamps_of}
use Rattle.iot_exchange.proofs.Common.{state_in, state_of, subst, sym, true, two, waits_is, waits_of, ℕ, [], ◌++◌, ◌<◌, ◌^◌, ◌∙◌, ◌∷◌, ◌≡◌}
use Rattle.iot_exchange.proofs.DoesLaws.{OfEach, StepsOn, answers, by_call, in_place, notes, then_does}
use Rattle.iot_exchange.proofs.FollowingLaws.{follows_brought, follows_nothing, held_is, makes_cut, nodes_none, nothing_tree}
use Rattle.iot_exchange.specs.{Pairs.Exchanges, Pairs.IfReplied, Pairs.Serves, Pairs.Spells, Pairs.answered, Words.IsErrand, Words.is_up}
use Rattle.iot_judging.proofs.FollowingLaws.{follows_on}
use Rattle.iot_laptop.specs.{Calls.IsNoFetch, Calls.TakesReply, Calls.TakesStamps, Laptops.after_passage, Messages.BringsTree}
use Rattle.iot_link.specs.{Links.passage, declared.passages.Passage.Passage}
use Rattle.iot_link.specs.declared.passages.Passage.TheVariants.{Away, Both as Reaches, ReplyLost, RequestLost}
use Rattle.iot_machine.{proofs.StepsLaws.asks, proofs.StepsLaws.bind, proofs.StepsLaws.gets, proofs.WholeLaws.whole_comes, specs.Calls.At}
use Rattle.iot_machine.specs.{Clients.most_running, Machine.break, Machine.its_server, Serving.Judges, Serving.Lends, Serving.Submission}
use Rattle.iot_machine.specs.Transactions.{Brings, Exchange, Handles, Holds, counted, exchange_by, holds, is_full, runs}
use Rattle.iot_server_node.{proofs.ServersLaws.up_is, specs.Messages.said_of, specs.Servers.HavingAnswered}
use Rattle.iot_server_node.specs.{Servers.IsHanded, Servers.IsNamedIn, Servers.ServesBy, declared.server.Served.Served}
use Rattle.{iot_stamp.proofs.CutsLaws.nothing_sent, iot_standing.proofs.StatesLaws.many_is, iot_tree.specs.Tree.IsWhole}
use Rattle.iot_tree.specs.declared.want.Want.TheVariants as wanted
use Rattle.iot_laptop.specs.declared.errand.Errand as code
use Rattle.iot_laptop.specs.declared.errand.Errand.TheVariants as errands

-- ---- what the server does

module _ {D : Type 0} (medium : Medium D) (message : Message) (old new : ServerNode D) (x : List ℕ) where
  -- whatever is asked
  pub serves : (served : Option Served) (y : List ℕ)
      → ((client : ℕ) (held : Stamps) (errand : Errand) (names : List (List ℕ)) → IsErrand client held errand message.request.items
      → ServesBy medium names (Lends (nodes_of held) errand) (SpellsCut (stamps_of old) held errand) message.handed served old new x y)
      → ((it : Submission) (names : List (List ℕ)) → IsHanded message it → IsNamedIn names it
      → ServesBy medium names (Judges it) (SpellsVerdict it.reads) message.handed served old new x y)
      → (names : List (List ℕ)) (query : Query) → AsksFor names message old query
      → ServesBy medium names (request_of query) (Spells query) message.handed served old new x y
  serves served y lends judges names (Objects client held server tree errand) asked =
      rw (asked.1, asked.2) (lends client held errand names asked.0)
  serves served y lends judges names (Judgment it) asked = judges it names asked.0 asked.1

  -- it replies, and what it committed is said
  pub replies : {A : Type 0} {names : List (List ℕ)} {call : Call (Node (List Commit)) (Option A)} {Spelled : List ℕ → A → Type 0}
      (served : Served) {mid y : List ℕ} → y ≡ mid ++ said_of served.committed message.handed
      → ServesBy medium names call Spelled message.handed (Some served) old new x mid
      → Serves (ServerStands medium names) Spelled call (Some served.reply) old new x y
  replies served wrote it = record {
    is = (it.1.0, it.1.1, λ n. rw (wrote ∙ ap (λ (z : List ℕ). z ++ said_of served.committed message.handed) it.0) (it.1.2 n x));
  }

-- ---- how far a message gets

same_name : (p : Passage) (m : Client) → (after_passage p m).name ≡ m.name
same_name Away m = refl
same_name p m = refl

-- ---- what the server makes of it

-- the server has answered, and so many more are to be counted
abbrev AnsweredBy : {D : Type 0} → Medium D → List Declared → (names : List (List ℕ)) → (c : ℕ) → (ℕ → ℕ) → Both D → Pair → Type 0
AnsweredBy medium scripts names c count =
    PairStands c (IsAt (LaptopStands medium scripts) names c) (λ server node n. ServerStands medium names server node (count n))

-- a request that it answered counts
counts : {D A : Type 0} {medium : Medium D} {scripts : List Declared} {names : List (List ℕ)} {c : ℕ} (a : Option A) {w : Both D}
    {z : List ℕ} → StepsTo (AnsweredBy medium scripts names c (answered a)) (UpStands medium scripts names c) (counted a) w w z z a
counts None = gets (λ pair here. (refl, here))
counts (Some a) =
    gets (λ pair here. (refl, record { place = here.place; client = here.client; server = here.server; follows = here.follows }))

module _ {D A : Type 0} {medium : Medium D} {scripts : List Declared} {names : List (List ℕ)} {c : ℕ} {server later : ServerNode D}
    {request : Call (Node (List Commit)) (Option A)} {x y : List ℕ} {laptop : Laptop D}
    (grows : (node after : Node (List Commit)) (text : List ℕ) (a : Option A) → request node text a after
    → Grows node.durable after.durable) where
  -- it alone does it
  by_server : {a : Option A} (count : ℕ → ℕ)
      → ((n : ℕ) → StepsTo (HavingAnswered medium names n) (HavingAnswered medium names (count n)) request server later x y a)
      → StepsTo (UpStands medium scripts names c) (AnsweredBy medium scripts names c count) (At its_server request) (two laptop server)
      (two laptop later) x y a
  by_server count it = record {
    step = λ pair here.
        let t = (it pair.requests).step pair.server here.server in (
          t.0,
          record pair { server = t.1 },
          t.2,
          record { inner = t.1; step = t.3; is = refl },
          record {
            place = here.place;
            client = here.client;
            server = t.4;
            follows = follows_on (stamps_in laptop) pair.server.durable t.1.durable (grows pair.server t.1 t.0 _ t.3) here.follows;
          },
        );
  }

  handles : {Spelled : List ℕ → A → Type 0} (reply : Option (Vec ℕ Global))
      → Serves (ServerStands medium names) Spelled request reply server later x y
      → Exchanges (UpStands medium scripts names c) Spelled (Handles request) reply (two laptop server) (two laptop later) x y
  handles None it = record { is = bind (by_server (answered {A = A} None) it.is) (counts None) }
  handles (Some reply) it = record { is = (it.is.0, it.is.1, bind (by_server (answered (Some it.is.0)) it.is.2) (counts (Some it.is.0))) }

-- ---- an exchange that gets so far

module _ {D : Type 0} {medium : Medium D} {old new : Laptop D} (server : ServerNode D) {server_up : Bool} {p : Passage}
    (up : server_up ≡ is_up server) (is : p ≡ passage old.link server_up) (after : Reclassed medium (after_passage p) old new) where
  module _ {scripts : List Declared} {names : List (List ℕ)} {c : ℕ} where
    -- what the client is then
    linked : {q : Passage} {later : ServerNode D} {pair : Pair} → p ≡ q → UpStands medium scripts names c (two old later) pair
        → UpStands medium scripts names c (two new later) (record pair { client = after_passage q pair.client })
    linked {q} {pair = pair} how here =
        let it : Reclassed medium (after_passage q) old new = rw how at after in
        in_place here (it.stands scripts pair.client here.client.is) it.place (same_name q pair.client) (rw it.stamps here.follows)

    module _ {A : Type 0} {request : Call (Node (List Commit)) (Option A)} where
      exchanged : {q : Passage} {v : Both D} {x y : List ℕ} {a : Option A} → p ≡ q
          → StepsOn medium scripts names c (exchange_by request q) (two old server) v x y a
          → StepsOn medium scripts names c (Exchange request) (two old server) v x y a
      exchanged how one = bind (asks (λ pair here.
          let alive = sym (up_is medium names server pair.server pair.requests here.server) in
          sym how ∙ is ∙ ap (passage old.link) up ∙ (λ i. passage (here.client.is.link i) (alive i)))) one

      -- it was not sent
      pub away : {x : List ℕ} → p ≡ Away → StepsOn medium scripts names c (Exchange request) (two old server) (two new server) x x None
      away how = exchanged how (gets (λ pair here. (refl, linked how here)))

      -- that, or it was lost
      pub unsent : {Spelled : List ℕ → A → Type 0} {x : List ℕ} → (p ≡ Away) ⊎ (p ≡ RequestLost)
          → Exchanges (UpStands medium scripts names c) Spelled (Exchange request) None (two old server) (two new server) x x
      unsent (inl how) = record { is = away how }
      unsent (inr how) = record { is = exchanged how (gets (λ pair here. (refl, linked how here))) }

      module _ {Spelled : List ℕ → A → Type 0} {later : ServerNode D} {x y : List ℕ}
          (grows : (node after : Node (List Commit)) (text : List ℕ) (a : Option A) → request node text a after
          → Grows node.durable after.durable) where
        -- the server handled it, and its reply is lost
        pub reply_lost : (reply : Option (Vec ℕ Global)) → p ≡ ReplyLost
            → Serves (ServerStands medium names) Spelled request reply server later x y
            → Exchanges (UpStands medium scripts names c) Spelled (Exchange request) None (two old server) (two new later) x y
        reply_lost None how served =
            record { is = exchanged how (bind (handles grows None served).is (gets (λ pair here. (refl, linked how here)))) }
        reply_lost (Some reply) how served =
            record { is = exchanged how (bind (handles grows (Some reply) served).is.2 (gets (λ pair here. (refl, linked how here)))) }

        -- the reply comes
        pub comes : {reply : Vec ℕ Global} → p ≡ Reaches
            → Serves (ServerStands medium names) Spelled request (Some reply) server later x y
            → Exchanges (UpStands medium scripts names c) Spelled (Exchange request) (Some reply) (two old server) (two new later) x y
        comes {reply} how served =
            let e = (handles {laptop = old} grows (Some reply) served).is in
            record { is = (e.0, e.1, exchanged how (bind e.2 (gets (λ pair here. (refl, linked how here))))) }

        -- none comes, since the server stopped
        pub none_comes : {last : Laptop D} → p ≡ Reaches
            → Serves (ServerStands medium names) Spelled request None server later x y → Reclassed medium break new last
            → Exchanges (UpStands medium scripts names c) Spelled (Exchange request) None (two old server) (two last later) x y
        none_comes how served broke = record {
          is = exchanged how (bind (handles grows None served).is (gets (λ pair here.
              let mid = linked how here in (
                refl,
                in_place mid (broke.stands scripts pair.client mid.client.is) broke.place refl (rw broke.stamps mid.follows),
              ))));
        }

-- ---- tests

pub no_items : (items : List Item) → waits_of items ≡ false → items ≡ []
no_items [] is = refl
no_items (item ∷ items) is = absurd cc

module _ {D : Type 0} {medium : Medium D} {scripts : List Declared} {u : Both D} (b : Bool) where
  -- whether a transaction runs
  pub runs_here : has_any (state_in u.laptop).running ≡ b → OfEach medium scripts u (λ pair. b ≡ runs pair)
  runs_here is names c pair here = sym is ∙ runs_is _ _ _ _ here.client.is.state

  -- whether as many run as may
  pub full_here : not (nat_lt (length (state_in u.laptop).running) most_running) ≡ b → OfEach medium scripts u (λ pair. b ≡ is_full pair)
  full_here is names c pair here = sym is ∙ ap (λ (n : ℕ). not (nat_lt n most_running)) (many_is _ _ _ _ here.client.is.state)

  -- whether transactions wait
  pub pends_here : waits_of (state_in u.laptop).items ≡ b → OfEach medium scripts u (λ pair. b ≡ pends pair)
  pends_here is names c pair here = sym is ∙ waits_is _ _ _ _ here.client.is.state

-- ---- what is held

-- what is asked for by itself is held, and what runs goes on
pub asked_holds : (errand : code.Errand) → IsNoFetch errand → held_for errand ≡ hold
asked_holds (errands.Fetch number path) none = absurd none
asked_holds errand none = refl

brings : {D : Type 0} {medium : Medium D} {scripts : List Declared} {u v : Both D} {x y : List ℕ} (errand : Errand) {names : List (List ℕ)}
    {c : ℕ} {o : Option Nodes} → StepsOn medium scripts names c (Exchange (Lends (state_in u.laptop).held errand)) u v x y o
    → StepsOn medium scripts names c (Brings errand) u v x y o
brings errand it = bind (asks (λ pair here. here.client.is.state.held)) it

module _ {D : Type 0} {medium : Medium D} {scripts : List Declared} {u v : Both D} {x y : List ℕ} (errand : Errand)
    (change : Nodes → ClientState → ClientState) (keeps : KeepsDisks medium u v) where
  -- nothing came
  pub missed : ((names : List (List ℕ)) (c : ℕ)
      → StepsOn medium scripts names c (Exchange (Lends (state_in u.laptop).held errand)) u v x y None)
      → Does medium scripts (Holds change errand) u v x y (Ok false)
  missed none = then_does {next = holds change} (λ names c. brings errand (none names c)) keeps (answers keeps)

  pub no_reply : {message : Message} → Asked medium message None u v x y
      → IsErrand u.laptop.place (stamps_in u.laptop) errand message.request.items
      → Does medium scripts (Holds change errand) u v x y (Ok false)
  no_reply asked is = missed (λ names c. (asked.is scripts names c
      (Objects u.laptop.place (stamps_in u.laptop) (stamps_of u.server) (state_in u.laptop).held errand)
      (is, refl, held_is u.laptop.post)).is)

-- the errand for the server's whole tree
abbrev pub whole_errand : Errand
whole_errand = Refresh (wanted.Below [])

pub asks_whole : {D : Type 0} {laptop : Laptop D} {item : Item} {request : List ℕ} → AsksAll laptop item request
    → IsErrand laptop.place nothing_held whole_errand request
asks_whole asks = rw nothing_sent asks.asked

-- the reply makes one tree of a held one
same_tree : {held : Stamps} {bytes : List ℕ} {t u : Nodes} → length bytes < 2 ^ 64 → SpellsTree held bytes t → SpellsTree held bytes u
    → t ≡ u
same_tree {held} {bytes} short one other =
    let only : IsOneMessage IsReply reply_spelling bytes = call_one _ _ _ reply_laws bytes short in
    let objects = only _ _ one.spelled other.spelled in
    cc

-- the reply to a client that holds this lends this tree
pub record Lent {D : Type 0} (medium : Medium D) (held : Stamps) (errand : Errand) (reply : List ℕ) (call : Call Pair (Option Nodes))
    (u v : Both D) (x y : List ℕ) : Type 0 where
  pub brings : BringsTree (base_of held errand) reply
  pub cut : SpellsCut (stamps_of u.server) held errand reply brings.tree
  pub steps : (scripts : List Declared) (names : List (List ℕ)) (c : ℕ) → StepsOn medium scripts names c call u v x y (Some brings.tree)
  -- what is held then still follows the server's list
  pub follows : (scripts : List Declared)
      → OfEach medium scripts v (λ pair. Follows (brought (base_of held errand) brings.is.changes) pair.server.durable)

module _ {D : Type 0} {medium : Medium D} {message : Message} {reply : Vec ℕ Global} {u v : Both D} {x y : List ℕ}
    (came : Came medium message reply u v x y) where
  short : length reply.items < 2 ^ 64
  short = omega (arith, reply.ok, reply.small)

  module _ (client : ℕ) (held : Stamps) (tree : Nodes) (errand : Errand) (is : IsErrand client held errand message.request.items)
      (tree_is : tree ≡ nodes_of held) (there : (scripts : List Declared)
      → OfEach medium scripts v (λ pair. Follows held pair.server.durable × IsTree (nodes_of held))) where
    -- its stamps are those of each list for which it stands then
    its_stamps : (scripts : List Declared) → OfEach medium scripts v (λ pair. stamps_of u.server ≡ (state_of pair.server.durable).stamps)
    its_stamps scripts names c pair here =
        let stays = came.lends client held errand is in
        let up : is_up v.server ≡ true = stays.0 in
        let stands : ServerStands medium names v.server pair.server pair.requests = here.server in
        let now : stamps_of v.server ≡ (state_of pair.server.durable).stamps = search rules in sym stays.1 ∙ now

    abbrev replied : (scripts : List Declared) (names : List (List ℕ)) (c : ℕ)
        → IfReplied (SpellsCut (stamps_of u.server) held errand) (Some reply)
        (StepsOn medium scripts names c (Exchange (Lends tree errand)) u v x y)
    replied scripts names c = (came.asked.is scripts names c (Objects client held (stamps_of u.server) tree errand) (is, refl, tree_is)).is

    -- what the reply spells makes a tree of what is held
    spells_tree : {t : Nodes} → SpellsCut (stamps_of u.server) held errand reply.items t → SpellsTree (base_of held errand) reply.items t
    spells_tree cut =
        let ready = came.ready in
        let s = (replied ready.scripts ready.names ready.c).2.step ready.pair ready.stands in
        let now = there ready.scripts ready.names ready.c s.1 s.4 in
        makes_cut held s.1.server.durable (stamps_of u.server) errand reply.items _ now.0 now.1
        (its_stamps ready.scripts ready.names ready.c s.1 s.4) cut

    lent : Lent medium held errand reply.items (Exchange (Lends tree errand)) u v x y
    lent =
        let first = replied came.ready.scripts came.ready.names came.ready.c in
        let spells = spells_tree first.1 in record {
          brings = record { tree = first.0; is = spells };
          cut = first.1;
          steps = λ scripts names c.
              let e = replied scripts names c in rw (same_tree short (spells_tree e.1) spells) at e.2;
          follows = λ scripts names c pair here.
              let now = there scripts names c pair here in
              follows_brought held pair.server.durable (stamps_of u.server) errand reply.items first.0 now.0 now.1
              (its_stamps scripts names c pair here) first.1 spells.changes short spells.spelled;
        }

  -- ---- what a client holds

  module _ (errand : Errand) (is : IsErrand u.laptop.place (stamps_in u.laptop) errand message.request.items) where
    -- the reply makes a tree of it, ..
    pub lent_own : Lent medium (stamps_in v.laptop) errand reply.items (Exchange (Lends (state_in u.laptop).held errand)) u v x y
    lent_own = lent u.laptop.place (stamps_in v.laptop) _ errand (rw came.same is) (rw came.same (held_is u.laptop.post))
        (λ scripts names c pair here. (here.follows, subst IsTree (held_is v.laptop.post) here.client.is.state.tree))

    -- .. which is held
    pub holds_own : {scripts : List Declared} {new : Laptop D} {z : List ℕ} {inner : Result (Unit {0}) Halt} {outer : Result Bool Halt}
        (change : Nodes → ClientState → ClientState) → KeepsDisks medium u v
        → TakesReply medium change (base_of (stamps_in v.laptop) errand) reply.items v.laptop new y z inner
        → ((t : Nodes) → Does medium scripts (Notes (change t)) v (two new v.server) y z inner
        → Does medium scripts (holds change (Some t)) v (two new v.server) y z outer)
        → Does medium scripts (Holds change errand) u (two new v.server) x z outer
    holds_own {scripts} {new} {inner = inner} change keeps took after =
        then_does {next = holds change} (λ names c. brings errand (lent_own.steps scripts names c)) keeps
        (after lent_own.brings.tree (by_call (notes (change lent_own.brings.tree)) keeps took.place (followed inner took.stamps)
        (took.does lent_own.brings.tree lent_own.brings.is scripts) took.disk))
      where
        followed : (inner : Result (Unit {0}) Halt) → TakesStamps (base_of (stamps_in v.laptop) errand) reply.items v.laptop new inner
            → UnlessNoMemory inner (OfEach medium scripts v (λ pair. Follows (stamps_in new) pair.server.durable))
        followed (Ok done) takes = λ names c pair here. rw (takes _ lent_own.brings.is.spelled) (lent_own.follows scripts names c pair here)
        followed (Err NoMemory) takes = tt
        followed (Err Over) takes = λ names c pair here. rw takes (follows_nothing pair.server.durable)

  -- ---- the server's whole tree

  module _ (asks : IsErrand u.laptop.place nothing_held whole_errand message.request.items) where
    pub lent_whole : Lent medium nothing_held whole_errand reply.items (Exchange (Lends new_client.held whole_errand)) u v x y
    lent_whole = lent u.laptop.place nothing_held new_client.held whole_errand asks (sym nodes_none)
        (λ scripts names c pair here. (follows_nothing pair.server.durable, nothing_tree))

    -- the reply makes it of nothing
    pub whole_came : BringsTree nothing_held reply.items × ((t : Nodes) → SpellsTree nothing_held reply.items t → IsWhole t)
    whole_came = (
      lent_whole.brings,
      λ t of.
          let cut = lent_whole.cut in
          rw (same_tree short of lent_whole.brings.is, cut.cut, nodes_none, whole_comes (nodes_of (stamps_of u.server)) cut.tree) cut.whole,
    )
