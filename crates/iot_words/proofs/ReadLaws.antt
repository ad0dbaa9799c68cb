-- What is read of the words: the job that they name, and a refusal only of words that name none.
use Rattle.std.proofs.Common.{◌≡◌, ◌∙◌, inl, inr, Bool, true, false, refl, sym, ap, subst, List, [], map, Option, Some, None, codes}
use Rattle.clap.specs.Words.{App, HasKind, HasMatchesOf, IsAmong, fault_of, first_value, found_of, is_simple_and_free, kind_of}
use Rattle.clap.specs.Words.{matches_of, rows_of}
use Rattle.clap.specs.Matches.{one_text}
use Rattle.clap.specs.Walk.{Text, first_of, one_of}
use Rattle.clap.specs.declared.error.Error.{Error}
use Rattle.clap.specs.declared.error.kind.ErrorKind.TheVariants.{OutOfMemory}
use Rattle.clap.specs.declared.parser.matches.ArgMatches.{ArgMatches}
use Rattle.clap.proofs.WalkLemmas.{first_value-rows, one_text-rows}
use Rattle.iot_words.specs.Command.{command}
use Rattle.iot_words.specs.Jobs.{chosen, job_of}
use Rattle.iot_words.specs.declared.faults.WordsFault.{WordsFault}
use Rattle.iot_words.specs.declared.faults.WordsFault.TheVariants.{NoMemory, Refused}
use Rattle.iot_words.specs.declared.jobs.Job.{Job}
use Rattle.iot_words.proofs.Uses.{Flag, Use, audit, image, json, name_of, nothing, row, save, spelled, state, upgrade}
use Rattle.iot_words.proofs.WalksLaws.{Apart, WalkAgrees, walk-Agrees}
use Rattle.iot_words.proofs.MatchesLaws.{fault_is, finally, flag_of, flag_text, gen_in, gen_of, has, matches_are}
use Rattle.iot_words.proofs.JobsLaws.{chosen_is, job_is, pick}

-- ---- what the parse of the command says

module _ (app : App) (made : app ≡ command) (words : List Text) where
  pub has_kind : (e : Error) → (is_simple_and_free app ≡ true → HasKind (fault_of app words) e) → HasKind (fault_of command words) e
  has_kind e kinds = subst (λ (a : App). HasKind (fault_of a words) e) made (kinds (rw made refl))

  pub no_fault : (is_simple_and_free app ≡ true → fault_of app words ≡ []) → fault_of command words ≡ []
  no_fault kinds = ap (λ (a : App). fault_of a words) (sym made) ∙ kinds (rw made refl)

  pub rows_are : (m : ArgMatches) → HasMatchesOf app words m → rows_of (found_of m) ≡ matches_of command words
  rows_are m matches = (matches (rw made refl)).0 ∙ ap (λ (a : App). matches_of a words) made

-- ---- the words

-- the uses that the words spell, if the command takes them
record Taken (words : List Text) : Type 0 where
  uses : List Use
  job : job_of words ≡ pick (Some uses)
  matches : matches_of command words ≡ finally (map row uses)
  apart : Apart uses

taken : (words : List Text) → fault_of command words ≡ [] → Taken words
taken words none = go (spelled [] nothing words) refl (walk-Agrees words [] nothing tt)
  where
    go : (r : Option (List Use)) → spelled [] nothing words ≡ r → WalkAgrees r (state [] nothing) words → Taken words
    go None e agrees = absurd (agrees (sym (fault_is words) ∙ none))
    go (Some us) e agrees = record {
      uses = us;
      job = job_is words ∙ ap pick e;
      matches = matches_are words us agrees.1;
      apart = agrees.2;
    }

-- the command takes words that name a job
free : (words : List Text) (job : Job) → job_of words ≡ Some job → fault_of command words ≡ []
free words job named = go (spelled [] nothing words) refl (walk-Agrees words [] nothing tt)
  where
    go : (r : Option (List Use)) → spelled [] nothing words ≡ r → WalkAgrees r (state [] nothing) words → fault_of command words ≡ []
    go None e agrees = absurd (let never : None ≡ Some job = ap pick (sym e) ∙ sym (job_is words) ∙ named in cc)
    go (Some us) e agrees = fault_is words ∙ agrees.0

pub refused_words : (words : List Text) (e : Error) (fault : WordsFault) → HasKind (fault_of command words) e
    → (kind_of e ≡ OutOfMemory → fault ≡ NoMemory) → fault ≡ Refused → job_of words ≡ None
refused_words words e fault (inl memory) no_memory refused = absurd
    (let never : NoMemory ≡ Refused = sym (no_memory memory) ∙ refused in cc)
refused_words words e fault (inr among) no_memory refused = go (job_of words) refl
  where
    go : (job : Option Job) → job_of words ≡ job → job ≡ None
    go None named = refl
    go (Some job) named = absurd (subst (IsAmong (kind_of e)) (free words job named) among)

flag_is : (text : Option Text) (given result : Bool) → text ≡ Some (flag_text given) → (text ≡ Some (codes "true") → result ≡ true)
    → (text ≡ Some (codes "false") → result ≡ false) → result ≡ given
flag_is text true result is yes' no' = yes' is
flag_is text false result is yes' no' = no' is

-- what the getter of a flag says of its result
abbrev pub Gives : ArgMatches → Text → Bool → Type 0
Gives m name result = (one_text (found_of m) name ≡ Some (codes "true") → result ≡ true)
    × (one_text (found_of m) name ≡ Some (codes "false") → result ≡ false)

given_is : (m : ArgMatches) (us : List Use) → rows_of (found_of m) ≡ finally (map row us) → (f : Flag) (result : Bool)
    → Gives m (name_of f) result → result ≡ has (name_of f) us
given_is m us rows f result gives = flag_is (one_text (found_of m) (name_of f)) _ result
    (one_text-rows (found_of m) (name_of f) ∙ ap (one_of (name_of f)) rows ∙ flag_of f us) gives.0 gives.1

-- what the getters give of the matches names the job of the words
pub read_job : (app : App) → app ≡ command → (words : List Text) (m : ArgMatches) (j s i u a : Bool) (text : Option Text)
    → (is_simple_and_free app ≡ true → fault_of app words ≡ []) → HasMatchesOf app words m
    → Gives m (codes "json") j → Gives m (codes "save") s → Gives m (codes "image") i → Gives m (codes "upgrade") u
    → Gives m (codes "audit") a
    → text ≡ first_value (found_of m) (codes "gen") → chosen j s i u a text ≡ job_of words
read_job app made words m j s i u a text kinds matches gives_json gives_save gives_image gives_upgrade gives_audit text_given =
    let t = taken words (no_fault app made words kinds) in
    let rows = rows_are app made words m matches ∙ t.matches in
    let text_is : text ≡ gen_in t.uses =
    text_given ∙ first_value-rows (found_of m) (codes "gen") ∙ ap (first_of (codes "gen")) rows ∙ gen_of t.uses in
    let is = given_is m t.uses rows in
    rw (is json j gives_json, is save s gives_save, is image i gives_image, is upgrade u gives_upgrade, is audit a gives_audit, text_is)
    (sym (chosen_is t.uses t.apart) ∙ sym t.job)
