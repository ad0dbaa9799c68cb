-- What is so of clients' states, and stays so when they change: the numbers of transactions, their plans, and what is in the list.
use Rattle.std.proofs.Common.{◌≡◌, ◌≢◌, ℕ, zero, suc, ◌+◌, ◌<◌, ◌≤◌, ◌==◌, Bool, true, false, cond, List, [], ◌∷◌, ◌++◌, map, length}
use Rattle.std.proofs.Common.{Option, Some, None, slice_index_or, slice_set, find, refl, sym, ap, subst, ◌∙◌, arith}
use Rattle.std.proofs.lemmas.Bool.Decides.{nat_tests}
use Rattle.std.proofs.lemmas.List.{length-append}
use Rattle.std.specs.List.{AllByRecursion}
use Rattle.iot_tree.specs.Tree.{Nodes}
use Rattle.iot_tree.specs.declared.limits.TheConstants.{ACT_LIMIT}
use Rattle.iot_machine.specs.Clients.{Declared, Item, Running, ClientState, most_running}
use Rattle.iot_machine.specs.Clients.{view, has_number, numbered, hold, begun, begin, with_running, anew, again, fetch, one_more, act_once}
use Rattle.iot_machine.specs.Clients.{waiting, joined, others, end, leave_by, leave, cut_by, cut, with_first, change_first}
use Rattle.iot_machine.specs.Machine.{Commit}
use Rattle.iot_machine.specs.Options.{OnConflict}
use Rattle.iot_machine.specs.Sound.{AreApart, numbers_of, Rise, AreNumbered, IsAnother, WaitsFirst, RunOthers, HasPlan, ArePlanned, Knows}

-- ---- lists

module _ {A : Type 0} (P : A → Type 0) where
  pub all_push : (xs : List A) (x : A) → P x → AllByRecursion P xs → AllByRecursion P (xs ++ x ∷ [])
  all_push [] x it all = (it, tt)
  all_push (y ∷ ys) x it all = (all.0, all_push ys x it all.1)

  pub all_at : (xs : List A) (place : ℕ) (d : A) → P d → AllByRecursion P xs → P (slice_index_or xs place d)
  all_at [] place d it all = it
  all_at (y ∷ ys) zero d it all = all.0
  all_at (y ∷ ys) (suc place) d it all = all_at ys place d it all.1

  -- one is put at a place, of which the same holds as of the one before it
  pub all_set : (xs : List A) (place : ℕ) (x d : A) → (P (slice_index_or xs place d) → P x) → AllByRecursion P xs
      → AllByRecursion P (slice_set xs place x)
  all_set [] place x d goes all = tt
  all_set (y ∷ ys) zero x d goes all = (goes all.0, all.1)
  all_set (y ∷ ys) (suc place) x d goes all = (all.0, all_set ys place x d goes all.1)

  -- at another place too, which may be the same one
  pub at_set : (xs : List A) (place other : ℕ) (x d : A) → (other ≡ place → P (slice_index_or xs place d) → P x)
      → P (slice_index_or xs other d) → P (slice_index_or (slice_set xs place x) other d)
  at_set [] place other x d goes it = it
  at_set (y ∷ ys) zero zero x d goes it = goes refl it
  at_set (y ∷ ys) zero (suc other) x d goes it = it
  at_set (y ∷ ys) (suc place) zero x d goes it = it
  at_set (y ∷ ys) (suc place) (suc other) x d goes it = at_set ys place other x d (λ same. goes (ap suc same)) it

  -- one more at the end
  pub at_push : (xs : List A) (place : ℕ) (x d : A) → place < length xs → P (slice_index_or xs place d)
      → P (slice_index_or (xs ++ x ∷ []) place d)
  at_push [] place x d within it = absurd (omega arith)
  at_push (y ∷ ys) zero x d within it = it
  at_push (y ∷ ys) (suc place) x d within it = at_push ys place x d (omega arith) it

pub all_as : {A : Type 0} (P Q : A → Type 0) (xs : List A) → ((x : A) → P x → Q x) → AllByRecursion P xs → AllByRecursion Q xs
all_as P Q [] goes all = tt
all_as P Q (x ∷ xs) goes all = (goes x all.0, all_as P Q xs goes all.1)

pub all_with : {A : Type 0} (P Q R : A → Type 0) (xs : List A) → ((x : A) → P x → Q x → R x) → AllByRecursion P xs → AllByRecursion Q xs
    → AllByRecursion R xs
all_with P Q R [] goes all others = tt
all_with P Q R (x ∷ xs) goes all others = (goes x all.0 others.0, all_with P Q R xs goes all.1 others.1)

pub all_of : {A : Type 0} (P : A → Type 0) (xs : List A) → ((x : A) → P x) → AllByRecursion P xs
all_of P [] each = tt
all_of P (x ∷ xs) each = (each x, all_of P xs each)

-- of the numbers of both lists
pub all_numbers : (P : ℕ → Type 0) (items : List Item) (running : List Running) → AllByRecursion P (numbers_of items running)
    → AllByRecursion (λ (item : Item). P item.number) items × AllByRecursion (λ (it : Running). P it.number) running
all_numbers P [] [] all = (tt, tt)
all_numbers P [] (it ∷ running) all = let rest = all_numbers P [] running all.1 in (tt, (all.0, rest.1))
all_numbers P (item ∷ items) running all = let rest = all_numbers P items running all.1 in ((all.0, rest.0), rest.1)

-- ---- the running transactions

-- one changes, but not its number
module _ (number : ℕ) (change : Running → Running) (same : (it : Running) → (change it).number ≡ it.number) where
  changed_numbers : (running : List Running) → map (λ it. it.number) (with_running number change running) ≡ map (λ it. it.number) running
  changed_numbers [] = refl
  changed_numbers (it ∷ running) = by_test (changed_numbers running) (has_number number it)
    where
      by_test : map (λ it. it.number) (with_running number change running) ≡ map (λ it. it.number) running → (b : Bool)
          → map (λ it. it.number) (cond b (change it ∷ running) (it ∷ with_running number change running))
          ≡ it.number ∷ map (λ it. it.number) running
      by_test rest true = ap (λ n. n ∷ map (λ it. it.number) running) (same it)
      by_test rest false = ap (λ numbers. it.number ∷ numbers) rest

  changed_all : (P : ℕ → Type 0) (running : List Running) → AllByRecursion (λ (it : Running). P it.number) running
      → AllByRecursion (λ (it : Running). P it.number) (with_running number change running)
  changed_all P [] all = tt
  changed_all P (it ∷ running) all = by_test (changed_all P running all.1) (has_number number it)
    where
      by_test : AllByRecursion (λ (it : Running). P it.number) (with_running number change running) → (b : Bool)
          → AllByRecursion (λ (it : Running). P it.number) (cond b (change it ∷ running) (it ∷ with_running number change running))
      by_test rest true = (subst P (sym (same it)) all.0, all.1)
      by_test rest false = (all.0, rest)

  changed_rise : (low : ℕ) (running : List Running) → Rise low running → Rise low (with_running number change running)
  changed_rise low [] rise = tt
  changed_rise low (it ∷ running) rise = by_test (changed_rise it.number running rise.1) (has_number number it)
    where
      by_test : Rise it.number (with_running number change running) → (b : Bool)
          → Rise low (cond b (change it ∷ running) (it ∷ with_running number change running))
      by_test rest true = (subst (λ n. low < n) (sym (same it)) rise.0, subst (λ n. Rise n running) (sym (same it)) rise.1)
      by_test rest false = (rise.0, rest)

  changed_length : (running : List Running) → length (with_running number change running) ≡ length running
  changed_length [] = refl
  changed_length (it ∷ running) = by_test (changed_length running) (has_number number it)
    where
      by_test : length (with_running number change running) ≡ length running → (b : Bool)
          → length (cond b (change it ∷ running) (it ∷ with_running number change running)) ≡ length (it ∷ running)
      by_test rest true = refl
      by_test rest false = ap suc rest

rise_lower : (low other : ℕ) (running : List Running) → other ≤ low → Rise low running → Rise other running
rise_lower low other [] less rise = tt
rise_lower low other (it ∷ running) less rise = (omega (arith, less, rise.0), rise.1)

-- one with a greater number begins
rise_push : (low last : ℕ) (running : List Running) (one : Running) → low ≤ last → last < one.number
    → AllByRecursion (λ (it : Running). it.number ≤ last) running → Rise low running → Rise low (running ++ one ∷ [])
rise_push low last [] one less above all rise = (omega (arith, less, above), tt)
rise_push low last (it ∷ running) one less above all rise = (rise.0, rise_push it.number last running one all.0 above all.1 rise.1)

-- one goes
module _ (number : ℕ) where
  others_rise : (low : ℕ) (running : List Running) → Rise low running → Rise low (others number running)
  others_rise low [] rise = tt
  others_rise low (it ∷ running) rise = by_test (others_rise it.number running rise.1) (has_number number it)
    where
      by_test : Rise it.number (others number running) → (b : Bool) → Rise low (cond b running (it ∷ others number running))
      by_test rest true = rise_lower it.number low running (omega (arith, rise.0)) rise.1
      by_test rest false = (rise.0, rest)

  others_all : (P : Running → Type 0) (running : List Running) → AllByRecursion P running → AllByRecursion P (others number running)
  others_all P [] all = tt
  others_all P (it ∷ running) all = by_test (others_all P running all.1) (has_number number it)
    where
      by_test : AllByRecursion P (others number running) → (b : Bool) → AllByRecursion P (cond b running (it ∷ others number running))
      by_test rest true = all.1
      by_test rest false = (all.0, rest)

  others_length : (running : List Running) → length (others number running) ≤ length running
  others_length [] = omega arith
  others_length (it ∷ running) = by_test (others_length running) (has_number number it)
    where
      by_test : length (others number running) ≤ length running → (b : Bool)
          → length (cond b running (it ∷ others number running)) ≤ length (it ∷ running)
      by_test rest true = omega arith
      by_test rest false = omega (arith, rest)

-- ---- numbers of which none is there twice

abbrev IsOtherThan : ℕ → ℕ → Type 0
IsOtherThan number other = other ≢ number

-- the numbers of both lists, from those of each
module _ (P : ℕ → Type 0) where
  both_numbers : (items : List Item) (running : List Running) → AllByRecursion (λ (item : Item). P item.number) items
      → AllByRecursion (λ (it : Running). P it.number) running → AllByRecursion P (numbers_of items running)
  both_numbers [] [] all others = tt
  both_numbers [] (it ∷ running) all others = (others.0, both_numbers [] running tt others.1)
  both_numbers (item ∷ items) running all others = (all.0, both_numbers items running all.1 others)

-- one more number, above all others
apart_push : (last : ℕ) (numbers : List ℕ) → AllByRecursion (λ number. number ≤ last) numbers → AreApart numbers
    → AreApart (numbers ++ (last + 1) ∷ [])
apart_push last [] all apart = (tt, tt)
apart_push last (number ∷ numbers) all apart = (
  all_push (IsOtherThan number) numbers (last + 1) (λ same. absurd (omega (arith, same, all.0))) apart.0,
  apart_push last numbers all.1 apart.1,
)

-- the one that begins
begun_numbers : (items : List Item) (running : List Running) (one : Running)
    → numbers_of items (running ++ one ∷ []) ≡ numbers_of items running ++ one.number ∷ []
begun_numbers [] [] one = refl
begun_numbers [] (it ∷ running) one = ap (λ numbers. it.number ∷ numbers) (begun_numbers [] running one)
begun_numbers (item ∷ items) running one = ap (λ numbers. item.number ∷ numbers) (begun_numbers items running one)

-- the first of those that run waits
cut_numbers : (items : List Item) (budget : ℕ) (it : Running) (running : List Running)
    → numbers_of (items ++ waiting budget it ∷ []) running ≡ numbers_of items (it ∷ running)
cut_numbers [] budget it running = refl
cut_numbers (item ∷ items) budget it running = ap (λ numbers. item.number ∷ numbers) (cut_numbers items budget it running)

-- one of those that run comes first, and the rest have other numbers
test_said : (number other : ℕ) → (other == number) ≡ true → other ≡ number
test_said number other = grind (arith, nat_tests)

module _ (number : ℕ) where
  -- what is so of all of them is so of the one that is found
  found_all : (P : ℕ → Type 0) (running : List Running) (one : Running) → find (has_number number) running ≡ Some one
      → AllByRecursion (λ (it : Running). P it.number) running → P number
  found_all P [] one is all = absurd cc
  found_all P (it ∷ running) one is all =
      by_test (λ later. found_all P running one later all.1) (has_number number it) refl is
    where
      by_test : (find (has_number number) running ≡ Some one → P number) → (b : Bool) → has_number number it ≡ b
          → cond b (Some it) (find (has_number number) running) ≡ Some one → P number
      by_test rest true this is = subst P (test_said number it.number this) all.0
      by_test rest false this is = rest is

  found_number : (running : List Running) (one : Running) → find (has_number number) running ≡ Some one → one.number ≡ number
  found_number [] one is = absurd cc
  found_number (it ∷ running) one is = by_test (found_number running one) (has_number number it) refl is
    where
      by_test : (find (has_number number) running ≡ Some one → one.number ≡ number) → (b : Bool) → has_number number it ≡ b
          → cond b (Some it) (find (has_number number) running) ≡ Some one → one.number ≡ number
      by_test rest true this is =
          let same : it ≡ one = cc in
          subst (λ (it : Running). it.number ≡ number) same (test_said number it.number this)
      by_test rest false this is = rest is

  test_differs : (other : ℕ) → (other == number) ≡ false → other ≢ number
  test_differs other = grind (arith, nat_tests)

  others_differ : (running : List Running) → AreApart (numbers_of [] running)
      → AllByRecursion (λ (it : Running). it.number ≢ number) (others number running)
  others_differ [] apart = tt
  others_differ (it ∷ running) apart = by_test (others_differ running apart.1) (has_number number it) refl
    where
      by_test : AllByRecursion (λ (it : Running). it.number ≢ number) (others number running) → (b : Bool) → has_number number it ≡ b
          → AllByRecursion (λ (it : Running). it.number ≢ number) (cond b running (it ∷ others number running))
      by_test rest true this = subst (λ n. AllByRecursion (λ (it : Running). it.number ≢ n) running) (test_said number it.number this)
          (all_numbers (IsOtherThan it.number) [] running apart.0).1
      by_test rest false this = (test_differs it.number this, rest)

  -- of those that wait and the others that run
  apart_others : (items : List Item) (running : List Running) → AreApart (numbers_of items running)
      → AreApart (numbers_of items (others number running))
  apart_others [] [] apart = tt
  apart_others [] (it ∷ running) apart = by_test (apart_others [] running apart.1) (has_number number it)
    where
      left : AllByRecursion (λ (other : Running). other.number ≢ it.number) (others number running)
      left = others_all number (λ other. other.number ≢ it.number) running
          (all_numbers (IsOtherThan it.number) [] running apart.0).1

      by_test : AreApart (numbers_of [] (others number running)) → (b : Bool)
          → AreApart (numbers_of [] (cond b running (it ∷ others number running)))
      by_test rest true = apart.1
      by_test rest false = (both_numbers (IsOtherThan it.number) [] (others number running) tt left, rest)
  apart_others (item ∷ items) running apart =
      let all = all_numbers (IsOtherThan item.number) items running apart.0 in (
        both_numbers (IsOtherThan item.number) items (others number running) all.0
            (others_all number (λ other. other.number ≢ item.number) running all.1),
        apart_others items running apart.1,
      )

  -- and of the one that waits now
  apart_joined : (items : List Item) (running : List Running) (one : Running) → one.number ≡ number
      → find (has_number number) running ≡ Some one → AreApart (numbers_of items running)
      → AreApart (numbers_of items (one ∷ others number running))
  apart_joined [] running one same is apart = (
    subst (λ n. AllByRecursion (IsOtherThan n) (numbers_of [] (others number running))) (sym same)
        (both_numbers (IsOtherThan number) [] (others number running) tt (others_differ running apart)),
    apart_others [] running apart,
  )
  apart_joined (item ∷ items) running one same is apart =
      let all = all_numbers (IsOtherThan item.number) items running apart.0 in
      let this : number ≢ item.number = found_all (IsOtherThan item.number) running one is all.1 in (
        both_numbers (IsOtherThan item.number) items (one ∷ others number running) all.0 (
          subst (λ n. n ≢ item.number) (sym same) this,
          others_all number (λ other. other.number ≢ item.number) running all.1,
        ),
        apart_joined items running one same is apart.1,
      )

-- ---- what a client keeps, and a transaction of its own that is in the list

-- what must hold of the one holds of the other too
pub record Follows (old new : ClientState) : Type 0 where
  pub numbered : AreNumbered old → AreNumbered new
  pub planned : ArePlanned old → ArePlanned new
  pub known : (commit : Commit) → Knows commit old → Knows commit new

pub follows_same : (s : ClientState) → Follows s s
follows_same s = record { numbered = λ it. it; planned = λ it. it; known = λ commit it. it }

pub hold_follows : (t : Nodes) (s : ClientState) → Follows s (hold t s)
hold_follows t s = record {
  numbered = λ it. record { apart = it.apart; given = it.given; rise = it.rise; few = it.few };
  planned = λ it. it;
  known = λ commit it. record { given = it.given; waits = it.waits; run = it.run };
}

pub begin_follows : (script : Declared) (option : OnConflict Declared) (s : ClientState) → length s.running < most_running
    → Follows s (begin script option s)
begin_follows script option s room = record {
  numbered = λ it. record {
    apart = subst AreApart (sym numbers) (apart_push s.last (numbers_of s.items s.running) it.given it.apart);
    given = subst (AllByRecursion (λ number. number ≤ s.last + 1)) (sym numbers)
        (all_push (λ number. number ≤ s.last + 1) (numbers_of s.items s.running) (s.last + 1) (omega arith)
        (all_as (λ number. number ≤ s.last) (λ number. number ≤ s.last + 1) (numbers_of s.items s.running)
        (λ number less. omega (arith, less)) it.given));
    rise = rise_push 0 s.last s.running new (omega arith) (omega arith)
        (all_numbers (λ number. number ≤ s.last) s.items s.running it.given).1 it.rise;
    few = omega (arith, length-append s.running (new ∷ []), room);
  };
  planned = λ it. it;
  known = λ commit it. record {
    given = omega (arith, it.given);
    waits = it.waits;
    run = all_push (λ (one : Running). one.number ≢ commit.entry.number) s.running new
        (λ same. absurd (omega (arith, same, it.given))) it.run;
  };
}
  where
    new : Running
    new = begun script option s

    numbers : numbers_of s.items (s.running ++ new ∷ []) ≡ numbers_of s.items s.running ++ (s.last + 1) ∷ []
    numbers = begun_numbers s.items s.running new

-- a running transaction changes, but not its number
running_follows : (number : ℕ) (change : Running → Running) → ((it : Running) → (change it).number ≡ it.number) → (t : Nodes)
    (s : ClientState) → Follows s (record s { held = t; running = with_running number change s.running })
running_follows number change same t s = record {
  numbered = λ it. record {
    apart = subst AreApart (sym numbers) it.apart;
    given = subst (AllByRecursion (λ number. number ≤ s.last)) (sym numbers) it.given;
    rise = changed_rise number change same 0 s.running it.rise;
    few = subst (λ n. n ≤ most_running) (sym (changed_length number change same s.running)) it.few;
  };
  planned = λ it. it;
  known = λ commit it. record {
    given = it.given;
    waits = it.waits;
    run = changed_all number change same (λ one. one ≢ commit.entry.number) s.running it.run;
  };
}
  where
    numbers : numbers_of s.items (with_running number change s.running) ≡ numbers_of s.items s.running
    numbers = ap (λ (running : List ℕ). map (λ (item : Item). item.number) s.items ++ running)
        (changed_numbers number change same s.running)

pub again_follows : (number : ℕ) (s : ClientState) → Follows s (again number s)
again_follows number s = running_follows number (anew (view s)) (λ it. refl) s.held s

pub fetch_follows : (number : ℕ) (t : Nodes) (s : ClientState) → Follows s (fetch number t s)
fetch_follows number t s = running_follows number (anew (view (hold t s))) (λ it. refl) t s

pub act_once_follows : (number : ℕ) (s : ClientState) → Follows s (act_once number s)
act_once_follows number s = running_follows number one_more (λ it. refl) s.held s

waits_push : (commit : Commit) (items : List Item) (item : Item) → item.number ≢ commit.entry.number → WaitsFirst commit items
    → WaitsFirst commit (items ++ item ∷ [])
waits_push commit [] item another waits = ((λ same. absurd (another same)), tt)
waits_push commit (first ∷ items) item another waits = (waits.0, all_push (IsAnother commit) items item another waits.1)

-- one of those that run joins those that wait
pub end_follows : (number : ℕ) (s : ClientState) → Follows s (end number s)
end_follows number s = by_running (numbered number s) refl
  where
    fewer : length s.running ≤ most_running → length (others number s.running) ≤ most_running
    fewer few = omega (arith, others_length number s.running, few)

    by_running : (found : Option Running) → numbered number s ≡ found
        → Follows s (record s { items = joined s.items found; running = others number s.running })
    by_running None is = record {
      numbered = λ it.
          let all = all_numbers (λ number. number ≤ s.last) s.items s.running it.given in
          record {
            apart = apart_others number s.items s.running it.apart;
            given = both_numbers (λ number. number ≤ s.last) s.items (others number s.running) all.0
                (others_all number (λ one. one.number ≤ s.last) s.running all.1);
            rise = others_rise number 0 s.running it.rise;
            few = fewer it.few;
          };
      planned = λ it. it;
      known = λ commit it. record {
        given = it.given;
        waits = it.waits;
        run = others_all number (λ one. one.number ≢ commit.entry.number) s.running it.run;
      };
    }
    by_running (Some one) is = record {
      numbered = λ it.
          let all = all_numbers (λ number. number ≤ s.last) s.items s.running it.given in
          let this : number ≤ s.last = found_all number (λ number. number ≤ s.last) s.running one is all.1 in
          record {
            apart = subst AreApart (sym numbers) (apart_joined number s.items s.running one same is it.apart);
            given = subst (AllByRecursion (λ number. number ≤ s.last)) (sym numbers)
                (both_numbers (λ number. number ≤ s.last) s.items (one ∷ others number s.running) all.0
                (subst (λ n. n ≤ s.last) (sym same) this, others_all number (λ one. one.number ≤ s.last) s.running all.1));
            rise = others_rise number 0 s.running it.rise;
            few = fewer it.few;
          };
      planned = λ it. all_push HasPlan s.items (waiting ACT_LIMIT one) tt it;
      known = λ commit it.
          let another : number ≢ commit.entry.number = found_all number (λ n. n ≢ commit.entry.number) s.running one is it.run in
          record {
            given = it.given;
            waits = waits_push commit s.items (waiting ACT_LIMIT one) (λ is. another (sym same ∙ is)) it.waits;
            run = others_all number (λ one. one.number ≢ commit.entry.number) s.running it.run;
          };
    }
      where
        same : one.number ≡ number
        same = found_number number s.running one is

        numbers : numbers_of (s.items ++ waiting ACT_LIMIT one ∷ []) (others number s.running)
            ≡ numbers_of s.items (one ∷ others number s.running)
        numbers = cut_numbers s.items ACT_LIMIT one (others number s.running)

-- the first of them does
pub cut_follows : (acts : ℕ) (s : ClientState) → Follows s (cut acts s)
cut_follows acts s = by_running s.running refl
  where
    by_running : (running : List Running) → s.running ≡ running → Follows s (cut_by acts running s)
    by_running [] is = follows_same s
    by_running (one ∷ running) is = record {
      numbered = λ it.
          let rise : Rise 0 (one ∷ running) = subst (Rise 0) is it.rise in
          let few : length (one ∷ running) ≤ most_running = subst (λ running. length running ≤ most_running) is it.few in
          record {
            apart = subst AreApart numbers it.apart;
            given = subst (AllByRecursion (λ number. number ≤ s.last)) numbers it.given;
            rise = rise_lower one.number 0 running (omega arith) rise.1;
            few = omega (arith, few);
          };
      planned = λ it. all_push HasPlan s.items (waiting acts one) tt it;
      known = λ commit it.
          let run : RunOthers commit (one ∷ running) = subst (RunOthers commit) is it.run in
          record { given = it.given; waits = waits_push commit s.items (waiting acts one) run.0 it.waits; run = run.1 };
    }
      where
        numbers : numbers_of s.items s.running ≡ numbers_of (s.items ++ waiting acts one ∷ []) running
        numbers = ap (numbers_of s.items) is ∙ sym (cut_numbers s.items acts one running)

pub leave_follows : (s : ClientState) → Follows s (leave s)
leave_follows s = by_items s.items refl
  where
    first_waits : (commit : Commit) (items : List Item) → AllByRecursion (IsAnother commit) items → WaitsFirst commit items
    first_waits commit [] all = tt
    first_waits commit (item ∷ items) all = ((λ same. absurd (all.0 same)), all.1)

    by_items : (items : List Item) → s.items ≡ items → Follows s (leave_by items s)
    by_items [] is = follows_same s
    by_items (item ∷ items) is = record {
      numbered = λ it.
          let apart : AreApart (numbers_of (item ∷ items) s.running) = subst (λ items. AreApart (numbers_of items s.running)) is it.apart in
          let given : AllByRecursion (λ number. number ≤ s.last) (numbers_of (item ∷ items) s.running) =
          subst (λ items. AllByRecursion (λ number. number ≤ s.last) (numbers_of items s.running)) is it.given in
          record { apart = apart.1; given = given.1; rise = it.rise; few = it.few };
      planned = λ it. (subst (AllByRecursion HasPlan) is it).1;
      known = λ commit it. record {
        given = it.given;
        waits = first_waits commit items (subst (WaitsFirst commit) is it.waits).1;
        run = it.run;
      };
    }

-- the first transaction is not the one that was committed
abbrev pub FirstIsAnother : Commit → List Item → Type 0
FirstIsAnother commit [] = Unit {0}
FirstIsAnother commit (item ∷ items) = IsAnother commit item

-- a change of the first transaction that leaves its number
module _ (change : Item → Item) (same : (item : Item) → (change item).number ≡ item.number) where
  pub first_numbered : (s : ClientState) → AreNumbered s → AreNumbered (change_first change s)
  first_numbered s it = record {
    apart = subst AreApart (sym (numbers s.items)) it.apart;
    given = subst (AllByRecursion (λ number. number ≤ s.last)) (sym (numbers s.items)) it.given;
    rise = it.rise;
    few = it.few;
  }
    where
      numbers : (items : List Item) → numbers_of (with_first change items) s.running ≡ numbers_of items s.running
      numbers [] = refl
      numbers (item ∷ items) = ap (λ n. n ∷ numbers_of items s.running) (same item)

  -- it still has a plan
  pub first_planned : (item : Item) (items : List Item) (s : ClientState) → s.items ≡ item ∷ items → (HasPlan item → HasPlan (change item))
      → AllByRecursion HasPlan s.items → AllByRecursion HasPlan (change_first change s).items
  first_planned item items s first goes all =
      let now : AllByRecursion HasPlan (item ∷ items) = subst (AllByRecursion HasPlan) first all in
      subst (λ (xs : List Item). AllByRecursion HasPlan (with_first change xs)) (sym first) (goes now.0, now.1)

  -- what was committed is another one
  pub first_known_still : (commit : Commit) (s : ClientState) → FirstIsAnother commit s.items → Knows commit s
      → Knows commit (change_first change s)
  first_known_still commit s another it = record { given = it.given; waits = waits s.items another it.waits; run = it.run }
    where
      waits : (items : List Item) → FirstIsAnother commit items → WaitsFirst commit items → WaitsFirst commit (with_first change items)
      waits [] another it = it
      waits (item ∷ items) another it = ((λ is. absurd (another (sym (same item) ∙ is))), it.1)
