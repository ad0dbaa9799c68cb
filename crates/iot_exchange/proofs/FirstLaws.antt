-- The first transaction that waits, in a client and in each pair for which it stands with the server: how it is decided of, submitted and
-- resolved. What a client is told of one is what the machine says, and one that conflicts is resolved by the script that is planned for
-- it, on the server's whole tree.
use Rattle.std.proofs.{Common.Global, Common.if◌then◌else◌, lemmas.List.nil_from_length, lemmas.Option.slice_get_within}
use Rattle.std.specs.{FinMap.empty, FinMap.entries, FinMap.len-empty, FinMap.len-entries, List.AllByRecursion}
use Rattle.{iot_access.specs.Access.access_of, iot_acts.specs.Turns.reads_of, iot_client.specs.Messages.way_of}
use Rattle.iot_exchange.proofs.Common.{Asked, AsksAll, AsksFor, Both, Came, Client, Code, Declared, Does, DoesFrom, Err, Halt, HasNamed}
use Rattle.iot_exchange.proofs.Common.{IsCodeOf, IsErrAnd, IsReadyWith, IsSome, Item, Judgment, Keeps, KeepsDisks, Laptop, LaptopStands}
use Rattle.iot_exchange.proofs.Common.{List, Medium, Message, Nodes, None, Notes, Objects, Ok, OnConflict, Over, Pair, Refresh}
use Rattle.iot_exchange.proofs.Common.{Result, ServerNode, Some, SpellsVerdict, Stage, Try, UpStands, Vec, after_acts, ap, codes, false}
use Rattle.iot_exchange.proofs.Common.{kept, length, line, name_of, new_client, nothing_held, option_named, refl, same_Some, script_named}
use Rattle.iot_exchange.proofs.Common.{slice_get, slice_get-get_or, slice_index_or, stamps_of, state_in, subst, sym, synced_by}
use Rattle.iot_exchange.proofs.Common.{told_synced, told_text, transaction_name, true, two, waits_of, ℕ, [], ◌++◌, ◌<◌, ◌∙◌, ◌∷◌, ◌≡◌}
use Rattle.iot_exchange.proofs.DoesLaws.{asks_then, by_client, each_from, items_long, keeps_more, notes, refuses, still}
use Rattle.iot_exchange.proofs.{ExchangeLaws.asks_whole, ExchangeLaws.lent_whole, ExchangeLaws.whole_errand, FollowingLaws.nodes_none}
use Rattle.iot_exchange.proofs.StepsLaws.{asks_from, refuses_from, says_from, then_from}
use Rattle.iot_exchange.specs.{Pairs.MissesAll, Queues.First, Saying.resolver_said, Words.Verdict, declared.queues.Synced.Synced as Sync}
use Rattle.iot_exec.specs.Files.{files_of}
use Rattle.iot_kept.specs.Changes.{HeadIs, IsByHand, IsSubmittedIn}
use Rattle.iot_laptop.specs.Calls.{HandsIn, IsHeadPlan, Plans, Resolves, TakesVerdict, access_in, acts_in, decision, decision_on, head_name}
use Rattle.iot_laptop.specs.{Calls.head_reads, Calls.label_in, Calls.undecided_word, Messages.IsVerdict, declared.needs.Submitted.Submitted}
use Rattle.{iot_laptop.specs.declared.needs.Undecided.Undecided, iot_limits.proofs.SpelledLaws.no_files_are_spelled}
use Rattle.iot_machine.specs.Clients.{Plan, local_run, plan_by, plan_of, reach, resolution_of}
use Rattle.iot_machine.specs.{Serving.Conflict, Sound.CanResolve, Sound.IsPlanned, Texts.manual_line, Texts.resolve_line}
use Rattle.iot_machine.specs.Transactions.{IfManual, Moved, NotesAloud, Stays, Submits, Synced, Syncs, Unanswered}
use Rattle.iot_machine.specs.Transactions.{if_manual, is_manual, item_name, resolves, submission_of, submits, sync_at, sync_head, told}
use Rattle.iot_node.specs.declared.lines.Transaction.{Transaction}
use Rattle.{iot_queue.specs.declared.items.Resolution.Resolution, iot_server_node.specs.Servers.IsSubmission}
use Rattle.iot_standing.proofs.StatesLaws.{HeadStands, head_stands}
use Rattle.iot_standing.specs.Kept.{ItemStands, ResolutionStands, StageStands, access_by, access_kept}
use Rattle.iot_standing.specs.{Scripts.ItemIsNamed, States.head_option, States.head_plan, States.told_change}
use Rattle.{iot_text.specs.Paths.path_cmp, iot_tree.specs.declared.acts.Act.Act, iot_tree.specs.declared.acts.Read.Read}
use Rattle.iot_tree.specs.declared.want.Want.TheVariants as wanted
use Rattle.iot_tree.specs.declared.labels.OnConflict as labels
use Rattle.iot_queue.specs.declared.items.Stage.TheVariants as kept_stages
use Rattle.iot_resolve.specs.Plans as resolves
use Rattle.iot_resolve.specs.declared.plan.Plan as plans
use Rattle.iot_machine.specs.Clients as clients
use Rattle.iot_machine.specs.Options as options
use Rattle.iot_laptop.specs.declared.needs.Undecided.TheVariants as why

-- ---- stages

-- a stage as it is kept, and as the machine has it
pub data SameStage : Stage → clients.Stage → Type 0 where
  waiting : SameStage kept_stages.Waiting clients.Waiting
  conflict : SameStage kept_stages.Conflict clients.Conflict
  manual : SameStage kept_stages.Manual clients.Manual
  resolved : {done : Resolution} {it : clients.Resolution} → ResolutionStands done it
      → SameStage (kept_stages.Resolved done) (clients.Resolved it)

pub same_stage : (s : Stage) (ms : clients.Stage) → StageStands s ms → SameStage s ms
same_stage kept_stages.Waiting clients.Waiting it = waiting
same_stage kept_stages.Conflict clients.Conflict it = conflict
same_stage kept_stages.Manual clients.Manual it = manual
same_stage (kept_stages.Resolved done) (clients.Resolved m) it = resolved it
same_stage stage other it = absurd it

-- one that waits for a decision by hand is that in the machine, too
manual_stage : {s : Stage} {ms : clients.Stage} → SameStage s ms → s ≡ kept_stages.Manual → ms ≡ clients.Manual
manual_stage manual is = refl
manual_stage same is = absurd cc

conflict_stage : {s : Stage} {ms : clients.Stage} → SameStage s ms → s ≡ kept_stages.Conflict → ms ≡ clients.Conflict
conflict_stage conflict is = refl
conflict_stage same is = absurd cc

-- ---- the first that waits

module _ {D : Type 0} {laptop : Laptop D} {Is : Item → Type 0} {t : Transaction} where
  pub first_of : (items : List Item) → (state_in laptop).items ≡ items → head_name laptop items ≡ Some t → HeadIs Is items
      → First Is laptop t
  first_of [] same named is = absurd cc
  first_of (item ∷ rest) same named is = record { item = item; rest = rest; items = same; named = sym (same_Some _ _ named); is = is }

module _ {D : Type 0} (laptop : Laptop D) where
  pub none_waits : (items : List Item) → head_name laptop items ≡ None → items ≡ []
  none_waits [] is = refl
  none_waits (item ∷ items) is = absurd cc

  pub some_waits : {t : Transaction} (items : List Item) → head_name laptop items ≡ Some t → waits_of items ≡ true
  some_waits [] is = absurd cc
  some_waits (item ∷ items) is = refl

  -- if it is decided of, it waits for that
  decided_on : {t : Transaction} (item : Item) (stage : Stage) → decision_on laptop item stage ≡ Ok t
      → (stage ≡ kept_stages.Manual) × (record { client = laptop.name; number = item.tid } ≡ t)
  decided_on item kept_stages.Manual is = (refl, cc)
  decided_on item stage is = absurd cc

  pub decided : {t : Transaction} (items : List Item) → (state_in laptop).items ≡ items → decision laptop items ≡ Ok t
      → First IsByHand laptop t
  decided [] same is = absurd cc
  decided (item ∷ rest) same is =
      let on = decided_on item item.stage is in record { item = item; rest = rest; items = same; named = sym on.1; is = on.0 }

  -- or not
  refused_on : {u : Undecided} {s : Stage} {ms : clients.Stage} (item : Item) → SameStage s ms → decision_on laptop item s ≡ Err u
      → (u ≡ why.NotManual) × (is_manual ms ≡ false)
  refused_on item manual is = absurd cc
  refused_on item same is = (cc, refl)

  -- if nothing is decided of it, it does not wait for that
  pub is_undecided : {t : Transaction} {u : Undecided} (items : List Item) → head_name laptop items ≡ Some t → decision laptop items ≡ Err u
      → HeadIs (λ item. IsByHand item → ⊥) items
  is_undecided [] named is = absurd cc
  is_undecided (item ∷ items) named is = λ by_hand. let e = sym is ∙ ap (decision_on laptop item) by_hand in absurd cc

-- an option that resolves has a plan
some_plan : (held : Nodes) (mi : clients.Item) (option : OnConflict Declared) → CanResolve option
    → (p : Plan) × (plan_by held mi option ≡ Some p)
some_plan held mi options.Reexec can = (_, refl)
some_plan held mi (options.Resolver script) can = (_, refl)
some_plan held mi option can = absurd can

-- ---- in a pair

module _ {D : Type 0} {medium : Medium D} {scripts : List Declared} {names : List (List ℕ)} {c : ℕ} {old : Both D} {pair : Pair}
    (here : UpStands medium scripts names c old pair) where
  -- none waits
  none_here : (state_in old.laptop).items ≡ [] → [] ≡ (kept pair).items
  none_here none = sym (nil_from_length _ (sym (items_long _ _ _ here.client.is.state.items) ∙ ap length none))

  module _ {Is : Item → Type 0} {t : Transaction} (first : First Is old.laptop t) where
    -- it is the first of the machine's
    pub head : HeadStands (state_in old.laptop).held first.item first.rest (kept pair).items
    head = head_stands _ _ _ _ here.client.is.state first.item first.rest first.items

    pub stage_there : SameStage first.item.stage head.first.stage
    stage_there = same_stage first.item.stage head.first.stage head.stands.stage

    -- its name in each pair for which the two stand
    pub name_there : {new : Both D} {after : Pair} → UpStands medium scripts names c new after → item_name head.first after ≡ name_of t
    name_there there = let stands = head.stands in cc

    -- something is planned for it if it conflicts
    pub planned_there : first.item.stage ≡ kept_stages.Conflict → (p : Plan) × (plan_of (kept pair).held head.first ≡ Some p)
    planned_there is =
        some_plan (kept pair).held head.first head.first.option
        (subst (IsPlanned head.first.option) (conflict_stage stage_there is) head.stands.planned)

    module _ {new : Both D} {x z : List ℕ} where
      -- it is submitted
      submits_at : {s : Stage} {ms : clients.Stage} {result : Result Synced Halt} → SameStage s ms → IsSubmittedIn s
          → DoesFrom medium scripts names c (Submits head.first) pair new x z result
          → DoesFrom medium scripts names c (sync_at head.first ms) pair new x z result
      submits_at waiting is it = it
      submits_at (resolved done) is it = it
      submits_at same is it = absurd is

      pub submits_from : {result : Result Synced Halt} → IsSubmittedIn first.item.stage
          → DoesFrom medium scripts names c (submits head.first.option (submission_of head.first pair)) pair new x z result
          → DoesFrom medium scripts names c Syncs pair new x z result
      submits_from is it = asks_from {next = sync_head} (sym head.split) (submits_at stage_there is (asks_from refl it))

      -- it is resolved
      resolves_at : {ms : clients.Stage} {p : Plan} {result : Result Synced Halt} → ms ≡ clients.Conflict
          → plan_of (kept pair).held head.first ≡ Some p
          → DoesFrom medium scripts names c (resolves (name_of t) (Some p)) pair new x z result
          → DoesFrom medium scripts names c (sync_at head.first ms) pair new x z result
      resolves_at is planned it = rw is (asks_from (sym (name_there here)) (asks_from (sym planned) it))

      pub resolves_from : {p : Plan} {result : Result Synced Halt} → first.item.stage ≡ kept_stages.Conflict
          → plan_of (kept pair).held head.first ≡ Some p
          → DoesFrom medium scripts names c (resolves (name_of t) (Some p)) pair new x z result
          → DoesFrom medium scripts names c Syncs pair new x z result
      resolves_from is planned it = asks_from (sym head.split) (resolves_at (conflict_stage stage_there is) planned it)

      -- no message gets through
      misses_at : {s : Stage} {ms : clients.Stage} → SameStage s ms → (s ≡ kept_stages.Manual → ⊥)
          → (s ≡ kept_stages.Conflict → (p : Plan) × (plan_of (kept pair).held head.first ≡ Some p))
          → MissesAll medium old new → z ≡ x ++ line (codes "away")
          → DoesFrom medium scripts names c (sync_at head.first ms) pair new x z (Ok Unanswered)
      misses_at conflict not_manual planned misses wrote =
          let p = planned refl in
          resolves_at refl p.1
          (then_from (misses.none scripts names c (Objects 0 nothing_held nothing_held new_client.held (Refresh (wanted.Below []))) x) here
          (λ after there. says_from wrote there))
      misses_at manual not_manual planned misses wrote = absurd (not_manual refl)
      misses_at same not_manual planned misses wrote = asks_from refl
          (then_from (misses.none scripts names c (Judgment (submission_of head.first pair)) x) here (λ after there. says_from wrote there))

-- ---- without the server

module _ {D : Type 0} {medium : Medium D} {scripts : List Declared} {old : Both D} {x y : List ℕ} where
  pub syncs_none : (state_in old.laptop).items ≡ [] → KeepsDisks medium old old → y ≡ x ++ line (codes "nothing")
      → Does medium scripts Syncs old old x y (Ok Stays)
  syncs_none none keeps wrote = each_from keeps (λ names c pair here. asks_from (none_here here none) (says_from wrote here))

  -- it waits for a decision by hand
  pub syncs_by_hand : {t : Transaction} → First IsByHand old.laptop t → KeepsDisks medium old old → y ≡ x ++ manual_line (name_of t)
      → Does medium scripts Syncs old old x y (Ok Stays)
  syncs_by_hand first keeps wrote = each_from keeps (λ names c pair here. asks_from {next = sync_head} (sym (head here first).split)
      (rw (manual_stage (stage_there here first) first.is)
      (says_from (wrote ∙ ap (λ (n : List ℕ). x ++ manual_line n) (sym (name_there here first here))) here)))

  -- no message gets through
  pub syncs_away : {new : Both D} {t : Transaction} → First (λ item. IsByHand item → ⊥) old.laptop t → KeepsDisks medium old new
      → MissesAll medium old new → y ≡ x ++ line (codes "away") → Does medium scripts Syncs old new x y (Ok Unanswered)
  syncs_away first keeps misses wrote = each_from keeps (λ names c pair here. asks_from {next = sync_head} (sym (head here first).split)
      (misses_at here first (stage_there here first) first.is (planned_there here first) misses wrote))

-- ---- decisions by hand

module _ {D : Type 0} {medium : Medium D} {scripts : List Declared} {old : Both D} {call : clients.Item → Try Pair (Unit {0})}
    {x y : List ℕ} where
  -- it is said why nothing is decided
  pub undecided : {u : Undecided} (items : List Item) → (state_in old.laptop).items ≡ items → decision old.laptop items ≡ Err u
      → KeepsDisks medium old old → y ≡ x ++ line (undecided_word u) → Does medium scripts (IfManual call) old old x y (Err Over)
  undecided {u} [] same is keeps wrote =
      let nothing : u ≡ why.Nothing = cc in
      asks_then {next = if_manual call} (λ names c pair here. none_here here same) (refuses keeps (rw nothing at wrote))
  undecided (item ∷ items) same is keeps wrote = each_from keeps (λ names c pair here.
      let first : First (λ _. Unit {0}) old.laptop (record { client = old.laptop.name; number = item.tid }) =
      record { item = item; rest = items; items = same; named = refl; is = tt } in
      let refused = refused_on old.laptop item (stage_there here first) is in
      asks_from {next = if_manual call} (sym (head here first).split) (rw refused.1 (refuses_from (rw refused.0 at wrote) (still here))))

  -- it is decided of
  pub decides : {t : Transaction} {new : Both D} {result : Result (Unit {0}) Halt}
      → decision old.laptop (state_in old.laptop).items ≡ Ok t → KeepsDisks medium old new
      → ((names : List (List ℕ)) (c : ℕ) (mi : clients.Item)
      → ((after : Pair) → UpStands medium scripts names c new after → item_name mi after ≡ name_of t)
      → (pair : Pair) → UpStands medium scripts names c old pair → DoesFrom medium scripts names c (call mi) pair new x y result)
      → Does medium scripts (IfManual call) old new x y result
  decides is keeps each = each_from keeps (λ names c pair here.
      let first = decided old.laptop _ refl is in
      let mi = (head here first).first in
      asks_from {next = if_manual call} (sym (head here first).split)
      (rw (manual_stage (stage_there here first) first.is) (each names c mi (λ after there. name_there here first there) pair here)))

-- no files are listed if none are kept
no_files : entries (empty {K = List (List ℕ)} {X = List ℕ} {R = path_cmp}) ≡ []
no_files = nil_from_length _ (sym (len-entries empty) ∙ len-empty path_cmp (List ℕ))

-- a resolution's way by the option as it is kept, and by the machine's
ways_are : (option : OnConflict Declared) → CanResolve option → clients.way_of option ≡ way_of (option_named option)
ways_are options.Reexec can = refl
ways_are (options.Resolver script) can = refl
ways_are option can = absurd can

-- the message that submits a transaction
abbrev pub message_of : Submitted → Message
message_of it = record { request = it.request; handed = Some (record { printed = it.printed; way = it.way }) }

-- ---- what is submitted

module _ {D : Type 0} {medium : Medium D} {scripts : List Declared} {names : List (List ℕ)} {c : ℕ} {old : Both D} {pair : Pair}
    (here : UpStands medium scripts names c old pair) {Is : Item → Type 0} {t : Transaction} (first : First Is old.laptop t) where
  abbrev mi : clients.Item
  mi = (head here first).first

  abbrev transaction : Transaction
  transaction = record { client = old.laptop.name; number = first.item.tid }

  -- the client of the pair has its name among these
  named_in : (pair.place < length names) × (item_name mi pair ≡ transaction_name (slice_index_or names pair.place []) mi.number)
  named_in =
      let there : slice_get names pair.place ≡ Some pair.client.name = ap (slice_get names) here.place ∙ here.client.named in
      let within : pair.place < length names = slice_get_within names pair.place pair.client.name there in
      let named = slice_get-get_or names pair.place [] within in
      (within, cc)

  -- by its stage
  submission_by : {s : Stage} {ms : clients.Stage} → SameStage s ms → IsSubmittedIn s → IsPlanned mi.option ms
      → (state_in old.laptop).access ≡ access_by ms
      → IsSubmission (label_in old.laptop.place first.item s) (acts_in first.item s) (access_in (state_in old.laptop) first.item s)
      transaction (submission_of (record mi { stage = ms }) pair)
  submission_by waiting is planned has =
      let stands = (head here first).stands in
      record {
        name = name_there here first here ∙ ap name_of first.named;
        has_label = cc no_files;
        base = (state_in old.laptop).held;
        tree = here.client.is.state.tree;
        has_acts = stands.acts;
        has_access = refl;
        reads = ap (λ (t : Nodes). reads_of (local_run t mi).acts) (sym here.client.is.state.held) ∙ ap reads_of (sym stands.acts);
        spelled = record { script = stands.script; kept = no_files_are_spelled };
      }
  submission_by (resolved {it = it} done) is planned has =
      let stands = (head here first).stands in
      let its_way = ways_are mi.option planned ∙ ap way_of (sym stands.option) in
      record {
        name = name_there here first here ∙ ap name_of first.named;
        has_label = cc;
        base = _;
        tree = done.tree;
        has_acts = done.acts;
        -- it is that of its acts, on the server's tree of then
        has_access = has ∙ ap (λ (acts : List Act). access_of acts it.tree) (sym done.acts);
        reads = ap reads_of (sym done.acts);
        spelled = record { script = done.script; kept = done.files };
      }
  submission_by same is planned has = absurd is

  module _ {it : Submitted} (hands : HandsIn old.laptop first.item it) where
    submission : IsSubmission (label_in old.laptop.place first.item first.item.stage) (acts_in first.item first.item.stage)
        (access_in (state_in old.laptop) first.item first.item.stage) transaction (submission_of mi pair)
    submission =
        submission_by (stage_there here first) hands.submitted (head here first).stands.planned
        (here.client.is.state.access ∙ ap access_kept (head here first).split)

    -- the message asks for a judgment of what the machine submits
    asks_judgment : AsksFor names (message_of it) old.server (Judgment (submission_of mi pair))
    asks_judgment = (
      record {
        label = label_in old.laptop.place first.item first.item.stage;
        acts = acts_in first.item first.item.stage;
        access = access_in (state_in old.laptop) first.item first.item.stage;
        asked = hands.asked;
        transaction = transaction;
        handed = rw (← hands.transaction, ← hands.output, ← hands.way);
        submission = submission;
      },
      record { client = named_in.0; name = named_in.1 },
    )

    -- what the reply says of it
    says_it : (bytes : List ℕ) (told : Verdict) → SpellsVerdict (submission_of mi pair).reads bytes told
        → SpellsVerdict (head_reads (state_in old.laptop).items) bytes told
    says_it bytes told is = subst (λ (r : List Read). SpellsVerdict r bytes told) (submission.reads ∙ sym (ap head_reads first.items)) is

-- ---- what becomes of it

-- what is told of it is one change of what the client keeps, which is said
module _ {D : Type 0} {medium : Medium D} {scripts : List Declared} {u v : Both D} {x y : List ℕ} {result : Result Synced Halt} where
  told_by : {name other : List ℕ} (verdict : Verdict) (option : OnConflict Declared) → other ≡ name
      → Does medium scripts (NotesAloud (told_change verdict (option_named option)) (told_text name verdict (option_named option))
      (told_synced verdict (option_named option))) u v x y result → Does medium scripts (told other option (Some verdict)) u v x y result
  told_by (Conflict read question) options.Manual same it = rw same it
  told_by verdict option same it = rw same it

-- a fault that was handed on
pub synced_err : (fault : Halt) (outer : Result Sync Halt) → IsErrAnd outer (λ other. other ≡ fault)
    → IsErrAnd (synced_by outer) (λ other. other ≡ fault)
synced_err fault (Ok synced) is = absurd is
synced_err fault (Err halt) is = is

module _ {D : Type 0} {laptop : Laptop D} {t : Transaction} (it : Submitted) (first : First (λ item. HandsIn laptop item it) laptop t)
    {server : ServerNode D} where
  -- no reply came
  pub submits_away : {medium : Medium D} {scripts : List Declared} {mid : Both D} {x y z : List ℕ}
      → Asked medium (message_of it) None (two laptop server) mid x y → KeepsDisks medium (two laptop server) mid
      → z ≡ y ++ line (codes "away") → Does medium scripts Syncs (two laptop server) mid x z (Ok Unanswered)
  submits_away {scripts = scripts} asked keeps wrote = each_from keeps
      (λ names c pair here. submits_from here first first.is.submitted (then_from
      (asked.is scripts names c (Judgment (submission_of (mi here first) pair)) (asks_judgment here first first.is)).is here
      (λ after there. says_from wrote there)))

  module _ {medium : Medium D} {mid : Both D} {x y : List ℕ} {reply : Vec ℕ Global}
      (came : Came medium (message_of it) reply (two laptop server) mid x y) where
    -- a verdict came
    pub verdict_came : IsVerdict (head_reads (state_in laptop).items) reply.items
    verdict_came =
        let ready = came.ready in
        let e = (came.asked.is ready.scripts ready.names ready.c (Judgment (submission_of (mi ready.stands first) ready.pair))
        (asks_judgment ready.stands first first.is)).is in
        record { told = e.0; is = says_it ready.stands first first.is reply.items e.0 e.1 }

    -- what the reply says of it becomes of it
    pub submits_told : {scripts : List Declared} {new : Laptop D} {z w : List ℕ} {inner : Result
        (Unit {0}) Halt} {result : Result Synced Halt} → KeepsDisks medium (two laptop server) mid → Keeps medium mid.laptop new inner
        → TakesVerdict medium reply.items mid.laptop new y z inner
        → ((verdict : Verdict) (option : labels.OnConflict) → SpellsVerdict (head_reads (state_in laptop).items) reply.items verdict
        → head_option (state_in laptop).items ≡ Some option
        → Does medium scripts (Notes (told_change verdict option)) mid (two new mid.server) y z inner → Does medium scripts
        (NotesAloud (told_change verdict option) (told_text (name_of t) verdict option) (told_synced verdict option))
        mid (two new mid.server) y w result) → Does medium scripts Syncs (two laptop server) (two new mid.server) x w result
    submits_told {scripts} keeps own does after = each_from (keeps_more keeps own.disk) (λ names c pair here.
        let m = mi here first in
        let e = (came.asked.is scripts names c (Judgment (submission_of m pair)) (asks_judgment here first first.is)).is in
        let spells = says_it here first first.is reply.items e.0 e.1 in
        let has : head_option (state_in laptop).items ≡ Some (option_named m.option) =
        ap head_option first.items ∙ ap (λ (l : labels.OnConflict). Some l) (head here first).stands.option in
        submits_from here first first.is.submitted (then_from e.2 here
        ((told_by e.0 m.option (name_there here first here) (after e.0 (option_named m.option) spells has
        (by_client (notes (told_change e.0 (option_named m.option))) keeps own
        (does e.0 (option_named m.option) (rw came.same spells) (rw came.same has) scripts)))).step names c)))

-- ---- plans

-- what the machine plans if the client plans this, by this script
abbrev plan_as : (local : Nodes) → plans.Plan → Declared → Plan
plan_as local plan script = record {
  said = resolver_said plan;
  script = script;
  budget = plan.budget;
  offered = if plan.keeps then files_of local else [];
}

-- it is planned by the script of the name that the client has
record IsPlannedBy (scripts : List Declared) (held : Nodes) (item : Item) (mi : clients.Item) (option : OnConflict Declared)
    (plan : plans.Plan) : Type 0 where
  script : Declared
  named : script_named plan.script scripts ≡ Some script
  is : plan_by held mi option ≡ Some (plan_as (after_acts held item.acts) plan script)

module _ {scripts : List Declared} {held : Nodes} {item : Item} {mi : clients.Item} (stands : ItemStands held item mi)
    {plan : plans.Plan} where
  planned_by : (option : OnConflict Declared) → HasNamed scripts option → script_named mi.script.name scripts ≡ Some mi.script
      → resolves.plan_for item.script item.budget (option_named option) ≡ Some plan → IsPlannedBy scripts held item mi option plan
  planned_by options.Reexec has own is = record { script = mi.script; named = rw (← same_Some _ plan is, stands.name) own; is = cc }
  planned_by (options.Resolver script) has own is =
      rw (← same_Some _ plan is) (record { script = script; named = has; is = rw stands.tree })
  planned_by option has own is = absurd cc

-- the same is planned in each client of the machine for which it stands
module _ {D : Type 0} {medium : Medium D} {scripts : List Declared} {laptop : Laptop D} {Is : Item → Type 0} {t : Transaction}
    (first : First Is laptop t) (plan : plans.Plan) (is : IsHeadPlan (state_in laptop).items plan) where
  module _ (m : Client) (here : LaptopStands medium scripts laptop m) where
    its_head : HeadStands (state_in laptop).held first.item first.rest m.node.durable.items
    its_head = head_stands _ _ _ _ here.state first.item first.rest first.items

    its_plan : IsPlannedBy scripts (state_in laptop).held first.item its_head.first its_head.first.option plan
    its_plan =
        let named = (subst (AllByRecursion (ItemIsNamed scripts)) its_head.split here.named.items).0 in
        planned_by its_head.stands its_head.first.option named.resolver named.script
        (rw its_head.stands.option at (rw first.items at is).1)

  plans_it : {script : Declared} → script_named plan.script scripts ≡ Some script
      → Plans medium scripts laptop (plan_as (after_acts (state_in laptop).held first.item.acts) plan script)
  plans_it found m here =
      let it = its_plan m here in
      let same = same_Some _ _ (sym it.named ∙ found) in
      (λ i. head_plan (sym here.state.held i) ((its_head m here).split i)) ∙ (rw same at it.is)

-- ---- the first that waits

-- the message that asks for it
abbrev pub asking : Vec ℕ Global → Message
asking request = record { request = request; handed = None }

module _ {D : Type 0} {laptop : Laptop D} {t : Transaction} (request : Vec ℕ Global)
    (first : First (λ item. AsksAll laptop item request.items) laptop t) {server : ServerNode D} where
  -- no reply came
  pub resolves_away : {medium : Medium D} {scripts : List Declared} {mid : Both D} {x y z : List ℕ}
      → Asked medium (asking request) None (two laptop server) mid x y → KeepsDisks medium (two laptop server) mid
      → z ≡ y ++ line (codes "away") → Does medium scripts Syncs (two laptop server) mid x z (Ok Unanswered)
  resolves_away {scripts = scripts} asked keeps wrote = each_from keeps (λ names c pair here.
      let p = planned_there here first first.is.conflict in
      resolves_from here first first.is.conflict p.1 (then_from
      (asked.is scripts names c (Objects laptop.place nothing_held (stamps_of server) new_client.held whole_errand)
      (asks_whole first.is, refl, sym nodes_none)).is here (λ after there. says_from wrote there)))

  module _ (plan : plans.Plan) (is : IsHeadPlan (state_in laptop).items plan) where
    -- its script is declared
    pub declared_for : {medium : Medium D} {scripts : List Declared} → IsReadyWith medium scripts (two laptop server)
        → IsSome (script_named plan.script scripts)
    declared_for ready = rw (its_plan first plan is ready.pair.client ready.stands.client.is).named refl

    -- it is resolved on that by what is planned for it
    pub resolves_told : {medium : Medium D} {scripts : List Declared} {mid : Both D} {new : Laptop D} {x y z w : List ℕ}
        {reply : Vec ℕ Global} {code : Code} {inner : Result (Unit {0}) Halt} {result : Result Synced Halt}
        → IsCodeOf plan.script scripts code → Came medium (asking request) reply (two laptop server) mid x y
        → KeepsDisks medium (two laptop server) mid → Keeps medium mid.laptop new inner
        → Resolves medium reply.items code mid.laptop new y z inner → ((p : Plan) (u : Nodes)
        → Does medium scripts (Notes (reach (clients.Resolved (resolution_of p u)))) mid (two new mid.server) y z inner
        → Does medium scripts
        (NotesAloud (reach (clients.Resolved (resolution_of p u))) (resolve_line (name_of t) (resolver_said plan)) Moved)
        mid (two new mid.server) y w result) → Does medium scripts Syncs (two laptop server) (two new mid.server) x w result
    resolves_told {medium} {scripts} coded came keeps own does after = each_from (keeps_more keeps own.disk) (λ names c pair here.
        let plans = plans_it {medium = medium} {scripts = scripts} first plan is coded.is in
        let p : Plan = plan_as (after_acts (state_in laptop).held first.item.acts) plan coded.script in
        let whole = lent_whole came (asks_whole first.is) in
        resolves_from here first first.is.conflict
        (sym (ap (head_plan (kept pair).held) (head here first).split) ∙ plans pair.client here.client.is)
        (then_from (whole.steps scripts names c) here
        ((after p whole.brings.tree (by_client (notes (reach (clients.Resolved (resolution_of p whole.brings.tree)))) keeps own
        (does whole.brings.tree whole.brings.is scripts p (rw came.same plans) coded.has))).step names c)))
