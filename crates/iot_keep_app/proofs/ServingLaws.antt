-- Requests that are answered one after another.
use Rattle.std.proofs.Common.{◌≡◌, inl, inr, ℕ, ◌+◌, ◌-◌, ◌^◌, length, arith, length-append, List, [], ◌∷◌, ◌++◌, Option, refl}
use Rattle.std.proofs.Common.{sym, ap, subst, ◌∙◌, append_assoc}
use Rattle.std.specs.Prelude.{Result, Ok, Err}
use Rattle.std.specs.Io.KnownBytes.{Appends, IsAtEnd}
use Rattle.std.proofs.KnownBytes.{Appends-trans}
use Rattle.std.proofs.lemmas.List.{append-nil}
use Rattle.iot_io.specs.ReadAll.{Took}
use Rattle.iot_io.proofs.ReadAllLaws.{Took-more}
use Rattle.iot_keep_app.specs.Frames.{frame, FrameFails, TookFrame, TookPart, WroteFront, WriteEnds}
use Rattle.iot_keep_app.specs.Serving.{Kept, Exchange, Effects, EachKeeps, IsAnswered, IsServed, Leads, asked, told, after, Rests, Served, Fails}
use Rattle.iot_keep_app.specs.Serving.{AtFrame, AtReply, AnswerFails, AnswerEnds, Exchanged, FailsAfter, ServeFails}
use Rattle.iot_keep_app.specs.Serving.{StepEnds, WroteReply}
use Rattle.iot_keep_app.specs.declared.fault.ServeFault.{ServeFault}
use Rattle.iot_keep_app.specs.declared.fault.ServeFault.TheVariants.{NoMemory, Foreign, Damaged, Stopped, ReadFailed, Cut}
use Rattle.iot_keep_app.specs.declared.fault.ServeFault.TheVariants.{TooLong, WriteFailed, TooMany}
use Rattle.iot_keep_app.specs.declared.serving.Next.{Next}
use Rattle.iot_keep_app.specs.declared.serving.Next.TheVariants.{Answered, AtEnd as NoMore}

-- so many exchanges were made, and each image stands for the state after them
pub record SoFar (it : Effects) (start now : Kept) (count : ℕ) : Type 0 where
  pub exchanges : List Exchange
  pub counted : length exchanges ≡ count
  pub leads : Leads start exchanges now
  pub took : it.took (asked exchanges)
  pub wrote : it.wrote (told exchanges)
  pub keeps : EachKeeps it.images now.state

-- one more
leads_more : (first : Kept) (done : List Exchange) (mid now : Kept) (it : Exchange) → Leads first done mid → IsServed mid it now
    → Leads first (done ++ it ∷ []) now
leads_more first [] mid now it leads served = (now, subst (λ (k : Kept). IsServed k it now) leads served, refl)
leads_more first (x ∷ done) mid now it (next, is, leads) served = (next, is, leads_more next done mid now it leads served)

asked_more : (done : List Exchange) (it : Exchange) → asked (done ++ it ∷ []) ≡ asked done ++ frame it.request
asked_more [] it = append-nil (frame it.request)
asked_more (x ∷ done) it =
    ap (λ (l : List ℕ). frame x.request ++ l) (asked_more done it) ∙ sym (append_assoc (frame x.request) (asked done) (frame it.request))

told_more : (done : List Exchange) (it : Exchange) → told (done ++ it ∷ []) ≡ told done ++ frame it.reply
told_more [] it = append-nil (frame it.reply)
told_more (x ∷ done) it =
    ap (λ (l : List ℕ). frame x.reply ++ l) (told_more done it) ∙ sym (append_assoc (frame x.reply) (told done) (frame it.reply))

-- what failed in a step failed after what was done before it
took_in : (before now : List ℕ → Type 0) (Is : List ℕ → Type 0) → ((l : List ℕ) → before l → now l) → TookPart before Is → TookPart now Is
took_in before now Is into it = record { part = it.part; taken = into it.part it.taken; is = it.is }

frame_in : (before now : List ℕ → Type 0) (at_end : Type 0) → ((l : List ℕ) → before l → now l) → (fault : ServeFault)
    → FrameFails before at_end fault → FrameFails now at_end fault
frame_in before now at_end into NoMemory it = took_in before now _ into it
frame_in before now at_end into ReadFailed it = took_in before now _ into it
frame_in before now at_end into Cut (it, end) = (took_in before now _ into it, end)
frame_in before now at_end into TooLong it = took_in before now _ into it
frame_in before now at_end into Foreign none = absurd none
frame_in before now at_end into (Damaged at) none = absurd none
frame_in before now at_end into Stopped none = absurd none
frame_in before now at_end into WriteFailed none = absurd none
frame_in before now at_end into TooMany none = absurd none

front_in : (before now : List ℕ → Type 0) (text : List ℕ) → ((l : List ℕ) → before l → now l) → WroteFront before text → WroteFront now text
front_in before now text into it = record { count = it.count; cut = it.cut; written = into _ it.written }

answer_in : (before now images : List ℕ → Type 0) (kept : Kept) (request : List ℕ) → ((l : List ℕ) → before l → now l)
    → (fault : ServeFault) → AnswerFails before images kept request fault → AnswerFails now images kept request fault
answer_in before now images kept request into NoMemory (wrote, keeps) = (into [] wrote, keeps)
answer_in before now images kept request into Stopped (wrote, doubt) = (into [] wrote, doubt)
answer_in before now images kept request into WriteFailed it = record {
  reply = it.reply;
  after = it.after;
  answered = it.answered;
  front = front_in before now (frame it.reply) into it.front;
  keeps = it.keeps;
}
answer_in before now images kept request into ReadFailed none = absurd none
answer_in before now images kept request into Foreign none = absurd none
answer_in before now images kept request into (Damaged at) none = absurd none
answer_in before now images kept request into Cut none = absurd none
answer_in before now images kept request into TooLong none = absurd none
answer_in before now images kept request into TooMany none = absurd none

-- what came before, and a step
module _ {S : Type 0} (left : S → Option (List ℕ)) (taken : S → ℕ) (s0 s1 s2 : S) (w0 w1 w2 : Option (List ℕ))
    (images1 images2 : List ℕ → Type 0) where
  abbrev first : Effects
  first = record { took = Took left taken s0 s1; at_end = IsAtEnd (left s1); wrote = Appends w0 w1; images = images1 }

  abbrev step : Effects
  step = record { took = Took left taken s1 s2; at_end = IsAtEnd (left s2); wrote = Appends w1 w2; images = images2 }

  abbrev whole : Effects
  whole = record { took = Took left taken s0 s2; at_end = IsAtEnd (left s2); wrote = Appends w0 w2; images = images2 }

  module _ (start mid : Kept) (count : ℕ) (far : SoFar first start mid count) where
    into : (l : List ℕ) → Took left taken s1 s2 l → Took left taken s0 s2 (asked far.exchanges ++ l)
    into l more = Took-more left taken s0 s1 s2 (asked far.exchanges) l far.took more

    onto : (l : List ℕ) → Appends w1 w2 l → Appends w0 w2 (told far.exchanges ++ l)
    onto l more = Appends-trans w0 w1 w2 (told far.exchanges) l far.wrote more

    pub goes_on : (now : Kept) → Exchanged step mid now → SoFar whole start now (count + 1)
    goes_on now it = record {
      exchanges = far.exchanges ++ it.exchange ∷ [];
      counted = omega (arith, length-append far.exchanges (it.exchange ∷ []), far.counted);
      leads = leads_more start far.exchanges mid now it.exchange far.leads it.served;
      took = subst (Took left taken s0 s2) (sym (asked_more far.exchanges it.exchange)) (into _ it.took);
      wrote = subst (Appends w0 w2) (sym (told_more far.exchanges it.exchange)) (onto _ it.wrote);
      keeps = it.keeps;
    }

    rests_in : Rests step mid → Rests (after whole far.exchanges) mid
    rests_in it = record { took = into [] it.took; wrote = onto [] it.wrote; keeps = it.keeps }

    pub all_served : Rests step mid → Served whole start (λ count rest last. Rests rest last)
    all_served it = record { exchanges = far.exchanges; last = mid; leads = far.leads; ends = rests_in it }

    at_frame : (fault : ServeFault) → AtFrame step mid fault → AtFrame (after whole far.exchanges) mid fault
    at_frame fault it = record {
      fails = frame_in _ _ (IsAtEnd (left s2)) into fault it.fails;
      wrote = onto [] it.wrote;
      keeps = it.keeps;
    }

    at_reply : (fault : ServeFault) → AtReply step mid fault → AtReply (after whole far.exchanges) mid fault
    at_reply fault it = record {
      request = it.request;
      took = record { taken = into _ it.took.taken; limit = it.took.limit };
      fails = answer_in _ _ images2 mid it.request onto fault it.fails;
    }

    fails_in : (done : ℕ) (fault : ServeFault) → Fails step mid fault → FailsAfter done (after whole far.exchanges) mid fault
    fails_in done NoMemory (inl it) = inl (at_frame NoMemory it)
    fails_in done NoMemory (inr it) = inr (at_reply NoMemory it)
    fails_in done Stopped it = at_reply Stopped it
    fails_in done WriteFailed it = at_reply WriteFailed it
    fails_in done ReadFailed it = at_frame ReadFailed it
    fails_in done Cut it = at_frame Cut it
    fails_in done TooLong it = at_frame TooLong it
    fails_in done TooMany none = absurd none
    fails_in done Foreign none = absurd none
    fails_in done (Damaged at) none = absurd none

    pub then_fails : (fault : ServeFault) → Fails step mid fault → ServeFails whole start fault
    then_fails fault it =
        record { exchanges = far.exchanges; last = mid; leads = far.leads; ends = fails_in (length far.exchanges) fault it }

-- as many requests were answered as are
pub too_many : (it : Effects) (start now : Kept) (count : ℕ) → SoFar it start now count → count ≡ 2 ^ 64 - 1 → ServeFails it start TooMany
too_many it start now count far all = record {
  exchanges = far.exchanges;
  last = now;
  leads = far.leads;
  ends = (
    record {
      took = subst it.took (sym (append-nil (asked far.exchanges))) far.took;
      wrote = subst it.wrote (sym (append-nil (told far.exchanges))) far.wrote;
      keeps = far.keeps;
    },
    far.counted ∙ all,
  );
}

-- the reply to a request was written, or a front of it
ends_with : (T : Type 0) (wrote images : List ℕ → Type 0) (before now : Kept) (request reply : List ℕ)
    → IsAnswered before (record { request = request; reply = reply }) now → EachKeeps images now.state → (result : Result T ServeFault)
    → WriteEnds wrote (frame reply) result → AnswerEnds wrote images before request now result
ends_with T wrote images before now request reply answered keeps (Ok done) front =
    record { reply = reply; answered = answered; written = front; keeps = keeps }
ends_with T wrote images before now request reply answered keeps (Err WriteFailed) front =
    record { reply = reply; after = now; answered = answered; front = front; keeps = keeps }
ends_with T wrote images before now request reply answered keeps (Err NoMemory) none = absurd none
ends_with T wrote images before now request reply answered keeps (Err ReadFailed) none = absurd none
ends_with T wrote images before now request reply answered keeps (Err Foreign) none = absurd none
ends_with T wrote images before now request reply answered keeps (Err (Damaged at)) none = absurd none
ends_with T wrote images before now request reply answered keeps (Err Stopped) none = absurd none
ends_with T wrote images before now request reply answered keeps (Err Cut) none = absurd none
ends_with T wrote images before now request reply answered keeps (Err TooLong) none = absurd none
ends_with T wrote images before now request reply answered keeps (Err TooMany) none = absurd none

pub reply_ends : (T : Type 0) (wrote images : List ℕ → Type 0) (before now : Kept) (request reply text : List ℕ) → text ≡ reply
    → IsAnswered before (record { request = request; reply = reply }) now → EachKeeps images now.state → (result : Result T ServeFault)
    → WriteEnds wrote (frame text) result → AnswerEnds wrote images before request now result
reply_ends T wrote images before now request reply text same answered keeps result front =
    ends_with T wrote images before now request reply answered keeps result
    (subst (λ (l : List ℕ). WriteEnds wrote (frame l) result) same front)

-- one request was read and answered
pub exchanged : (it : Effects) (before now : Kept) (request text : List ℕ) → text ≡ request → TookFrame it.took request
    → WroteReply it.wrote it.images before text now → Exchanged it before now
exchanged it before now request text same took done = record {
  exchange = record { request = request; reply = done.reply };
  took = took.taken;
  served = record {
    limit = took.limit;
    answered = subst (λ (l : List ℕ). IsAnswered before (record { request = l; reply = done.reply }) now) same done.answered;
  };
  wrote = done.written;
  keeps = done.keeps;
}

-- by what came next
pub at_answered : (it : Effects) (before now : Kept) (next : Next) → next ≡ Answered → StepEnds it before now (Ok next)
    → Exchanged it before now
at_answered it before now next is step = subst (λ (n : Next). StepEnds it before now (Ok n)) is step

pub at_no_more : (it : Effects) (before now : Kept) (next : Next) → next ≡ NoMore → StepEnds it before now (Ok next)
    → Rests it before × it.at_end
at_no_more it before now next is step = subst (λ (n : Next). StepEnds it before now (Ok n)) is step
