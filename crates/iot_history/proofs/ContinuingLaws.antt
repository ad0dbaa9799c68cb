-- Events that are done one by one, of which only what was not said before is marked and written.
use Rattle.std.proofs.Common.{◌≡◌, ◌⊎◌, ℕ, ◌+◌, ◌-◌, ◌<◌, ◌≤◌, ◌==◌, Bool, true, false, if◌then◌else◌, List, [], ◌∷◌, ◌++◌, length, take}
use Rattle.std.proofs.Common.{replicate, slice_index_or, refl, sym, ap, subst, ◌∙◌, append_assoc, inl, inr, arith}
use Rattle.std.proofs.lemmas.Bool.Decides.{nat_tests}
use Rattle.std.proofs.lemmas.Bool.{cases_lt, cases_Bool}
use Rattle.std.proofs.lemmas.List.{append-nil, length-take-le, take_all}
use Rattle.iot_disk.specs.Disk.{Medium}
use Rattle.iot_event.specs.Declarations.{AreDeclared}
use Rattle.iot_event.specs.declared.event.Event.{Event}
use Rattle.iot_machine.specs.Machine.{Machine}
use Rattle.iot_machine.specs.Nodes.{Counts}
use Rattle.iot_machine.specs.Transcript.{Transcript}
use Rattle.iot_world.specs.World.{EventSteps, DeclaredOn}
use Rattle.iot_world.specs.declared.world.World.{World}
use Rattle.iot_app.specs.Played.{WroteFront}
use Rattle.iot_app.specs.Running.{IsOpened}
use Rattle.iot_app.proofs.PlayedLaws.{PlaysOn, plays_none, plays_more, plays_as, whole_transcript}
use Rattle.iot_history.specs.Continuing.{Continued, HasMarked, MayHaveMarked, PieceFails, SaidBefore, WroteRest, WroteSome, WroteCut}
use Rattle.iot_history.specs.declared.status.Status.{Status}
use Rattle.iot_history.specs.declared.status.Status.TheVariants as statuses
use Rattle.iot_history.proofs.MarksLaws.{has_marked, may_have_marked}

is_none : (n : ℕ) → (n == 0) ≡ true → n ≡ 0
is_none n h = grind (arith, nat_tests, h)

is_some : (n : ℕ) → (n == 0) ≡ false → 0 < n
is_some n h = grind (arith, nat_tests, h)

-- so many events are done, this is what the opening and they say, and the rest of it that is new was written
pub record SoFar (handed : List Counts) (old : ℕ) (events : List Event) (wrote : List ℕ → Type 0) (done : ℕ) (text : List ℕ) : Type 0 where
  pub before : List ℕ
  pub rest : List ℕ
  pub is : text ≡ before ++ rest
  pub written : wrote rest
  pub none : done < old → rest ≡ []
  pub said : old ≤ done → SaidBefore handed old events before

-- the same, but of what the last of them says, or the opening if there is none, only a front was written; it is new
pub record CutAt (handed : List Counts) (old : ℕ) (events : List Event) (wrote : List ℕ → Type 0) (done : ℕ) (text : List ℕ) : Type 0 where
  pub before : List ℕ
  pub said : SaidBefore handed old events before
  pub rest : List ℕ
  pub earlier : SaidBefore handed done events (before ++ rest)
  pub silent : done ≡ old → rest ≡ []
  pub last : List ℕ
  pub is : text ≡ before ++ rest ++ last
  pub front : WroteFront (λ part. wrote (rest ++ part)) last

module _ (handed : List Counts) (old : ℕ) (events : List Event) where
  -- the opening was written if it is new
  pub none_so_far : (wrote : List ℕ → Type 0) (opening : List ℕ) → wrote (if old == 0 then opening else [])
      → SoFar handed old events wrote 0 opening
  none_so_far wrote opening written = by_test (cases_Bool (old == 0))
    where
      by_test : ((old == 0) ≡ true) ⊎ ((old == 0) ≡ false) → SoFar handed old events wrote 0 opening
      by_test (inl new) = record {
        before = [];
        rest = opening;
        is = refl;
        written = subst (λ (b : Bool). wrote (if b then opening else [])) new written;
        none = λ more. absurd (omega (arith, more, is_none old new));
        said = λ few. record {
          none = λ first. refl;
          some = λ count later. absurd (omega (arith, later, is_none old new));
        };
      }
      by_test (inr none) = record {
        before = opening;
        rest = [];
        is = sym (append-nil opening);
        written = subst (λ (b : Bool). wrote (if b then opening else [])) none written;
        none = λ more. refl;
        said = λ few. absurd (omega (arith, few, is_some old none));
      }

  -- a front of it was
  pub none_cut : (wrote : List ℕ → Type 0) (opening : List ℕ) → (old == 0) ≡ true → WroteFront wrote opening
      → CutAt handed old events wrote 0 opening
  none_cut wrote opening new front = record {
    before = [];
    said = record { none = λ first. refl; some = λ count later. absurd (omega (arith, later, is_none old new)) };
    rest = [];
    earlier = record { none = λ first. refl; some = λ count later. absurd (omega (arith, later)) };
    silent = λ same. refl;
    last = opening;
    is = refl;
    front = record { count = front.count; cut = front.cut; written = front.written };
  }

  -- the events before the next one, of which the last may be the last old piece
  module _ (wrote : List ℕ → Type 0) (done left : ℕ) (text : List ℕ) (m : Machine) (left_is : left ≡ old - (done + 1))
      (told : Transcript handed (take done events) text m) (so_far : SoFar handed old events wrote done text) where
    -- all of them are old pieces, and the next is the first new one
    all_old : done < old → (left == 0) ≡ true → SaidBefore handed old events so_far.before
    all_old more new = record {
      none = λ first. absurd (omega (arith, first, more));
      some = λ count later.
          let here : done ≡ count = omega (arith, later, more, left_is, is_none left new) in
          let whole : text ≡ so_far.before =
          so_far.is ∙ ap (λ (r : List ℕ). so_far.before ++ r) (so_far.none more) ∙ append-nil so_far.before in (
            m,
            subst (λ (t : List ℕ). Transcript handed (take count events) t m) whole
                (subst (λ (k : ℕ). Transcript handed (take k events) text m) here told),
          );
    }

    said_now : (left == 0) ≡ true → SaidBefore handed old events so_far.before
    said_now new = by_order (cases_lt done old)
      where
        by_order : (done < old) ⊎ (old ≤ done) → SaidBefore handed old events so_far.before
        by_order (inr few) = so_far.said few
        by_order (inl more) = all_old more new

    -- what the next event says was written, too, if it is new
    pub more_so_far : (then_wrote : List ℕ → Type 0) (says : List ℕ)
        → ((r : List ℕ) → wrote r → then_wrote (r ++ (if left == 0 then says else [])))
        → SoFar handed old events then_wrote (done + 1) (text ++ says)
    more_so_far then_wrote says adds = by_test (cases_Bool (left == 0))
      where
        by_test : ((left == 0) ≡ true) ⊎ ((left == 0) ≡ false) → SoFar handed old events then_wrote (done + 1) (text ++ says)
        by_test (inl new) = record {
          before = so_far.before;
          rest = so_far.rest ++ says;
          is = ap (λ (t : List ℕ). t ++ says) so_far.is ∙ append_assoc so_far.before so_far.rest says;
          written =
              subst (λ (b : Bool). then_wrote (so_far.rest ++ (if b then says else []))) new (adds so_far.rest so_far.written);
          none = λ more. absurd (omega (arith, more, left_is, is_none left new));
          said = λ few. said_now new;
        }
        by_test (inr older) = record {
          before = text ++ says;
          rest = [];
          is = sym (append-nil (text ++ says));
          written =
              let silent : so_far.rest ≡ [] = so_far.none (omega (arith, left_is, is_some left older)) in
              subst then_wrote (append-nil so_far.rest ∙ silent)
              (subst (λ (b : Bool). then_wrote (so_far.rest ++ (if b then says else []))) older (adds so_far.rest so_far.written));
          none = λ more. refl;
          said = λ few. absurd (omega (arith, few, left_is, is_some left older));
        }

    -- or a front of it
    pub more_cut : (then_wrote : List ℕ → Type 0) (says : List ℕ) → (left == 0) ≡ true
        → WroteFront (λ part. then_wrote (so_far.rest ++ part)) says → CutAt handed old events then_wrote (done + 1) (text ++ says)
    more_cut then_wrote says new front = record {
      before = so_far.before;
      said = said_now new;
      rest = so_far.rest;
      earlier = record {
        none = λ first. absurd (omega (arith, first));
        some = λ count later.
            let here : done ≡ count = omega (arith, later) in (
              m,
              subst (λ (t : List ℕ). Transcript handed (take count events) t m) so_far.is
                  (subst (λ (k : ℕ). Transcript handed (take k events) text m) here told),
            );
      };
      silent = λ same. so_far.none (omega (arith, same));
      last = says;
      is = ap (λ (t : List ℕ). t ++ says) so_far.is;
      front = front;
    }

module _ {D : Type 0} (medium : Medium D) (handed : List Counts) (old : ℕ) (events : List Event) where
  module _ (wrote : List ℕ → Type 0) (world : World D) (done : ℕ)
      (plays : PlaysOn medium handed (SoFar handed old events wrote done) events world done) where
    -- in other words of what was written
    pub so_far_as : (then_wrote : List ℕ → Type 0) → ((r : List ℕ) → wrote r → then_wrote r)
        → PlaysOn medium handed (SoFar handed old events then_wrote done) events world done
    so_far_as then_wrote means =
        plays_as medium handed (SoFar handed old events wrote done) events world (SoFar handed old events then_wrote done) done
        (λ text so. record {
          before = so.before;
          rest = so.rest;
          is = so.is;
          written = means so.rest so.written;
          none = so.none;
          said = so.said;
        })
        plays

    -- the first so many events are done, and not all
    some_done : (marked : ℕ → Type 0) → done < length events → marked (done + 1 - old) → old ≤ done
        → WroteSome handed marked wrote old events
    some_done marked few marks later = record {
      done = done;
      few = few;
      wrote_rest = record {
        text = plays.text;
        machine = plays.machine;
        transcript = plays.transcript;
        before = plays.said.before;
        said = plays.said.said later;
        rest = plays.said.rest;
        is = plays.said.is;
        silent = λ less. absurd (omega (arith, later, less, length-take-le done events (omega (arith, few))));
        written = plays.said.written;
      };
      marks = marks;
    }

    pub some_or_none : (marked : ℕ → Type 0) → done < length events → marked (done + 1 - old)
        → WroteSome handed marked wrote old events ⊎ (wrote [] × marked 0)
    some_or_none marked few marks = by_order (cases_lt done old)
      where
        by_order : (done < old) ⊎ (old ≤ done) → WroteSome handed marked wrote old events ⊎ (wrote [] × marked 0)
        by_order (inl more) =
            let zero : done + 1 - old ≡ 0 = omega (arith, more) in
            inr (subst wrote (plays.said.none more) plays.said.written, subst marked zero marks)
        by_order (inr later) = inl (some_done marked few marks later)

    -- all events are done
    pub all_written : done ≡ length events → WroteRest handed wrote old events events
    all_written whole = by_order (cases_lt done old)
      where
        told : Transcript handed events plays.text plays.machine
        told =
            whole_transcript medium handed (SoFar handed old events wrote done) events world done plays (omega (arith, whole))

        by_order : (done < old) ⊎ (old ≤ done) → WroteRest handed wrote old events events
        by_order (inr later) = record {
          text = plays.text;
          machine = plays.machine;
          transcript = told;
          before = plays.said.before;
          said = plays.said.said later;
          rest = plays.said.rest;
          is = plays.said.is;
          silent = λ less. absurd (omega (arith, later, less, whole));
          written = plays.said.written;
        }
        by_order (inl more) = record {
          text = plays.text;
          machine = plays.machine;
          transcript = told;
          before = plays.text;
          said = record {
            none = λ first. absurd (omega (arith, first, more));
            some = λ count later. (
              plays.machine,
              subst (λ (es : List Event). Transcript handed es plays.text plays.machine)
                  (sym (take_all count events (omega (arith, later, more, whole)))) told,
            );
          };
          rest = [];
          is = sym (append-nil plays.text);
          silent = λ less. refl;
          written = subst wrote (plays.said.none more) plays.said.written;
        }

    -- the next event is done
    module _ (new : World D) (left : ℕ) (event : Event) (before after : List ℕ) (within : done < length events)
        (here : event ≡ slice_index_or events done event) (refines : EventSteps medium event world new before after)
        (none : before ≡ []) (left_is : left ≡ old - (done + 1))
        (declares : (later : List Event) → DeclaredOn (event ∷ later) world → DeclaredOn later new) where
      -- in a way that depends on the transcript so far
      then_more : (so_then : List ℕ → Type 0)
          → ((text : List ℕ) → Transcript handed (take done events) text plays.machine → SoFar handed old events wrote done text
          → so_then (text ++ after))
          → PlaysOn medium handed so_then events new (done + 1)
      then_more so_then adds =
          plays_more medium handed
          (λ text. Transcript handed (take done events) text plays.machine × SoFar handed old events wrote done text)
          events world new done event before after
          (record {
            text = plays.text;
            machine = plays.machine;
            transcript = plays.transcript;
            stands = plays.stands;
            said = (plays.transcript, plays.said);
            declared = plays.declared;
          })
          within here refines so_then declares
          (λ text says is so.
          subst (λ (t : List ℕ). so_then (text ++ t)) (is ∙ ap (λ (t : List ℕ). t ++ says) none) (adds text so.0 so.1))

      -- and what it says is written if it is new
      pub next_so_far : (then_wrote : List ℕ → Type 0)
          → ((r : List ℕ) → wrote r → then_wrote (r ++ (if left == 0 then after else [])))
          → PlaysOn medium handed (SoFar handed old events then_wrote (done + 1)) events new (done + 1)
      next_so_far then_wrote adds =
          then_more (SoFar handed old events then_wrote (done + 1))
          (λ text told so.
          more_so_far handed old events wrote done left text plays.machine left_is told so then_wrote after adds)

      -- or a front of it
      next_cut : (then_wrote : List ℕ → Type 0) → (left == 0) ≡ true
          → ((r : List ℕ) → wrote r → WroteFront (λ part. then_wrote (r ++ part)) after)
          → PlaysOn medium handed (CutAt handed old events then_wrote (done + 1)) events new (done + 1)
      next_cut then_wrote is_new adds =
          then_more (CutAt handed old events then_wrote (done + 1))
          (λ text told so.
          more_cut handed old events wrote done left text plays.machine left_is told so then_wrote after is_new
          (adds so.rest so.written))

  -- a front of the last piece was written
  cut_ends : (marked : ℕ → Type 0) (wrote : List ℕ → Type 0) (world : World D) (done : ℕ)
      → PlaysOn medium handed (CutAt handed old events wrote done) events world done
      → done ≤ length events → old ≤ done → marked (done + 1 - old) → WroteCut handed marked wrote old events
  cut_ends marked wrote world done plays few new marks = record {
    done = done;
    few = few;
    new = new;
    before = plays.said.before;
    said = plays.said.said;
    rest = plays.said.rest;
    earlier = plays.said.earlier;
    silent = plays.said.silent;
    last = plays.said.last;
    machine = plays.machine;
    transcript =
        subst (λ (t : List ℕ). Transcript handed (take done events) t plays.machine) plays.said.is plays.transcript;
    count = plays.said.front.count;
    cut = plays.said.front.cut;
    written = plays.said.front.written;
    marks = marks;
  }

  module _ (images : List ℕ → Type 0) (bodies : List (List ℕ)) where
    -- the opening is new, and was not said
    pub opening_fails : (wrote : List ℕ → Type 0) (world : World D) (opening piece : List ℕ) (status : Status)
        → IsOpened medium handed opening world → AreDeclared events 0 [] → piece ≡ opening → (old == 0) ≡ true
        → PieceFails images bodies wrote piece status → Continued handed images bodies wrote old events status
    opening_fails wrote world opening piece statuses.WriteFailed opened declared same new fails =
        let one : 1 ≡ 0 + 1 - old = omega (arith, is_none old new) in
        cut_ends (HasMarked images bodies) wrote world 0
        (plays_none medium handed (CutAt handed old events wrote 0) events opening world opened declared
        (none_cut handed old events wrote opening new (subst (WroteFront wrote) same fails.0)))
        (omega arith) (omega (arith, is_none old new))
        (subst (λ (n : ℕ). HasMarked images bodies n) one fails.1)
    opening_fails wrote world opening piece statuses.NoMemory opened declared same new fails = inr fails
    opening_fails wrote world opening piece statuses.Stopped opened declared same new fails =
        inr (fails.0, fails.1, omega (arith, is_none old new))
    opening_fails wrote world opening piece statuses.Done opened declared same new fails = absurd fails
    opening_fails wrote world opening piece statuses.Refused opened declared same new fails = absurd fails
    opening_fails wrote world opening piece statuses.ReadFailed opened declared same new fails = absurd fails
    opening_fails wrote world opening piece statuses.NoJournal opened declared same new fails = absurd fails
    opening_fails wrote world opening piece statuses.NoHistory opened declared same new fails = absurd fails

    module _ (wrote : List ℕ → Type 0) (done : ℕ) (within : done < length events) where
      -- the disk failed in a mark
      stopped : (some : WroteSome handed (MayHaveMarked images bodies) wrote old events ⊎ (wrote [] × MayHaveMarked images bodies 0))
          → old ≤ done + 1 → Continued handed images bodies wrote old events statuses.Stopped
      stopped (inl some) few = inl some
      stopped (inr none) few = inr (none.0, none.1, omega (arith, few, within))

    -- what the next event says is new, and was not said
    module _ (wrote : List ℕ → Type 0) (world : World D) (done : ℕ)
        (plays : PlaysOn medium handed (SoFar handed old events wrote done) events world done)
        (new : World D) (left : ℕ) (event : Event) (before after : List ℕ) (within : done < length events)
        (here : event ≡ slice_index_or events done event) (refines : EventSteps medium event world new before after)
        (none : before ≡ []) (left_is : left ≡ old - (done + 1))
        (declares : (later : List Event) → DeclaredOn (event ∷ later) world → DeclaredOn later new)
        (now : List (List ℕ)) (is : now ≡ bodies ++ replicate (done + 1 - old) []) (is_new : (left == 0) ≡ true)
        (then_wrote piece_wrote : List ℕ → Type 0) (joins : (r p : List ℕ) → wrote r → piece_wrote p → then_wrote (r ++ p)) where
      few_old : old ≤ done + 1
      few_old = omega (arith, left_is, is_none left is_new)

      front_of : (r : List ℕ) → wrote r → WroteFront piece_wrote after → WroteFront (λ part. then_wrote (r ++ part)) after
      front_of r written front = record {
        count = front.count;
        cut = front.cut;
        written = joins r (take front.count after) written front.written;
      }

      silent : piece_wrote [] → PlaysOn medium handed (SoFar handed old events then_wrote done) events world done
      silent nothing =
          so_far_as wrote world done plays then_wrote (λ r written. subst then_wrote (append-nil r) (joins r [] written nothing))

      pub next_fails : (piece : List ℕ) (status : Status) → piece ≡ after → PieceFails images now piece_wrote piece status
          → Continued handed images bodies then_wrote old events status
      next_fails piece statuses.WriteFailed same fails =
          cut_ends (HasMarked images bodies) then_wrote new (done + 1)
          (next_cut wrote world done plays new left event before after within here refines none left_is declares then_wrote is_new
          (λ r written. front_of r written (subst (WroteFront piece_wrote) same fails.0)))
          (omega (arith, within)) few_old
          (has_marked images bodies now (done + 1 - old) 1 (done + 1 + 1 - old) is (omega (arith, few_old)) fails.1)
      next_fails piece statuses.NoMemory same fails =
          some_or_none then_wrote world done (silent fails.0) (HasMarked images bodies) within
          (has_marked images bodies now (done + 1 - old) 0 (done + 1 - old) is (omega arith) fails.1)
      next_fails piece statuses.Stopped same fails =
          stopped then_wrote done within
          (some_or_none then_wrote world done (silent fails.0) (MayHaveMarked images bodies) within
          (may_have_marked images bodies now (done + 1 - old) 0 (done + 1 - old) is (omega arith) fails.1))
          few_old
      next_fails piece statuses.Done same fails = absurd fails
      next_fails piece statuses.Refused same fails = absurd fails
      next_fails piece statuses.ReadFailed same fails = absurd fails
      next_fails piece statuses.NoJournal same fails = absurd fails
      next_fails piece statuses.NoHistory same fails = absurd fails
