-- Laws of the forms of event lines: a form's numbers are within their limits, and its path is a path.
use Rattle.std.proofs.Common.{◌≡◌, ℕ, ◌≤◌, ◌&&◌, nat_le, Bool, true, false, List, [], ◌∷◌, Option, Some, None}
use Rattle.std.proofs.Common.{codes, bytes_eq, refl, arith}
use Rattle.std.specs.Option.{option_map, option_or, option_and_then, IfSome}
use Rattle.std.specs.Prelude.{if◌then◌else◌}
use Rattle.std.specs.Str.Parse.{digits_value}
use Rattle.std.proofs.lemmas.Bool.Decides.{nat_tests}
use Rattle.iot_text.specs.Names.{is_name}
use Rattle.iot_text.specs.Paths.{IsPath, path_of}
use Rattle.iot_text.proofs.PathTextsLaws.{path_of-spells}
use Rattle.iot_tree.specs.Profiles.{IsWalkLimit}
use Rattle.iot_tree.specs.declared.limits.TheConstants.{WALK_LIMIT}
use Rattle.iot_event.specs.declared.form.TheConstants.{STEP_LIMIT, TRANSACTION_LIMIT, READS_LIMIT, STOP_LIMIT}
use Rattle.iot_disk.specs.declared.disk.Pick.{Pick}
use Rattle.iot_event.specs.declared.event.Choice.{Choice}
use Rattle.iot_event.specs.declared.event.NodeEvent.TheVariants.{Show, Stop, Crash, Restart}
use Rattle.iot_event.specs.declared.event.LinkEvent.TheVariants.{Lose}
use Rattle.iot_event.specs.declared.event.Task.{Task}
use Rattle.iot_event.specs.declared.event.Task.TheVariants as tasks
use Rattle.iot_event.specs.declared.event.ClientEvent.{ClientEvent}
use Rattle.iot_event.specs.declared.event.ClientEvent.TheVariants.{Node, Link, Task as Does}
use Rattle.iot_event.specs.declared.form.Form.{Form}
use Rattle.iot_event.specs.declared.form.Form.TheVariants as forms
use Rattle.iot_event.specs.Numbers.{is_number, number_of}
use Rattle.iot_event.specs.Declarations.{MayBeNamed, IsCall, IsWithin}
use Rattle.iot_event.specs.Forms.{one_word, node_event, link_event, lone_task, lone_event, two_words}
use Rattle.iot_event.specs.Forms.{loss_of, event_with, event_of_words, three_words, plain_choice, resolver_choice, script_task}
use Rattle.iot_event.specs.Forms.{choosing_form, pick_of, stop_form, stop_words, step_words, walk_words, form_of}

-- ---- what fits, whatever is declared

-- the value, if there is one, fits; as a record, which is found by its name
pub record Fits {X : Type 0} (P : X → Type 0) (found : Option X) : Type 0 where
  pub fits : IfSome found P

pub none_fits : {X : Type 0} {P : X → Type 0} → Fits P None
none_fits = record { fits = tt }

pub some_fits : {X : Type 0} {P : X → Type 0} (x : X) → P x → Fits P (Some x)
some_fits x fit = record { fits = fit }

pub any_fits : {X : Type 0} (found : Option X) → Fits (λ x. Unit {0}) found
any_fits None = none_fits
any_fits (Some x) = record { fits = tt }

pub if_fits : {X : Type 0} {P : X → Type 0} (test : Bool) (yes_ no_ : Option X) → Fits P yes_ → Fits P no_
    → Fits P (if test then yes_ else no_)
if_fits true yes_ no_ first second = first
if_fits false yes_ no_ first second = second

or_fits : {X : Type 0} {P : X → Type 0} (first second : Option X) → Fits P first → Fits P second → Fits P (option_or first second)
or_fits None second one two = two
or_fits (Some x) second one two = record { fits = one.fits }

pub map_fits : {X Y : Type 0} {P : X → Type 0} {Q : Y → Type 0} (f : X → Y) (found : Option X) → Fits P found
    → ((x : X) → P x → Q (f x)) → Fits Q (option_map f found)
map_fits f None fit follows = none_fits
map_fits f (Some x) fit follows = record { fits = follows x fit.fits }

pub then_fits : {X Y : Type 0} {P : X → Type 0} {Q : Y → Type 0} (f : X → Option Y) (found : Option X) → Fits P found
    → ((x : X) → P x → Fits Q (f x)) → Fits Q (option_and_then f found)
then_fits f None fit follows = none_fits
then_fits f (Some x) fit follows = follows x fit.fits

-- ---- a form's numbers and its path

-- the path of a task is one, and its numbers are within the limits
abbrev pub TaskFits : Task (List ℕ) (List ℕ) → Type 0
TaskFits (tasks.Hoard path) = IsPath path
TaskFits (tasks.Walk profile limit) = IsWalkLimit limit
TaskFits (tasks.Step count transaction) = (1 ≤ count) × (count ≤ STEP_LIMIT) × MayBeNamed transaction
TaskFits (tasks.End transaction) = MayBeNamed transaction
TaskFits (tasks.Reads item) = (1 ≤ item) × (item ≤ READS_LIMIT)
TaskFits _ = Unit {0}

abbrev pub EventFits : ClientEvent (List ℕ) (List ℕ) → Type 0
EventFits (Node what) = IsWithin what
EventFits (Link what) = Unit {0}
EventFits (Does what) = TaskFits what

abbrev pub FormFits : Form → Type 0
FormFits (forms.At client what) = EventFits what
FormFits (forms.Server what) = IsWithin what
FormFits (forms.StopBackup calls pick) = IsCall calls
FormFits _ = Unit {0}

-- a number within its limit
pub number_fits : (word : List ℕ) (limit : ℕ) → Fits (λ n. (1 ≤ n) × (n ≤ limit)) (number_of word limit)
number_fits word limit = by (is_number word) (nat_le 1 number) (nat_le number limit) refl refl
  where
    number : ℕ
    number = digits_value 10 word

    by : (is least most : Bool) → nat_le 1 number ≡ least → nat_le number limit ≡ most
        → Fits (λ n. (1 ≤ n) × (n ≤ limit)) (if is && least && most then Some number else None)
    by true true true one two = record { fits = (grind (arith, nat_tests, one), grind (arith, nat_tests, two)) }
    by true true false one two = none_fits
    by true false most one two = none_fits
    by false least most one two = none_fits

pub path_fits : (word : List ℕ) (path : Option (List (List ℕ))) → path_of word ≡ path → Fits IsPath path
path_fits word None is = none_fits
path_fits word (Some path) is = record { fits = (path_of-spells word path is).names }

node_event_fits : (word : List ℕ) → Fits IsWithin (node_event word)
node_event_fits word =
    if_fits _ _ _ (some_fits Show tt)
    (if_fits _ _ _ (some_fits Crash tt)
    (if_fits _ _ _ (some_fits Restart tt) none_fits))

lone_task_fits : (word : List ℕ) → Fits TaskFits (lone_task word)
lone_task_fits word =
    if_fits _ _ _ (some_fits tasks.Refresh tt)
    (if_fits _ _ _ (some_fits (tasks.Step 1 None) (omega arith, omega arith, tt))
    (if_fits _ _ _ (some_fits (tasks.End None) tt)
    (if_fits _ _ _ (some_fits tasks.Sync tt)
    (if_fits _ _ _ (some_fits tasks.Drain tt)
    (if_fits _ _ _ (some_fits tasks.Discard tt)
    (if_fits _ _ _ (some_fits tasks.Queue tt) none_fits))))))

lone_event_fits : (word : List ℕ) → Fits EventFits (lone_event word)
lone_event_fits word =
    or_fits _ _ (map_fits _ (node_event word) (node_event_fits word) (λ what fit. fit))
    (or_fits _ _ (map_fits _ (link_event word) (any_fits (link_event word)) (λ what fit. tt))
    (map_fits _ (lone_task word) (lone_task_fits word) (λ what fit. fit)))

event_with_fits : (first word : List ℕ) → Fits EventFits (event_with first word)
event_with_fits first word =
    if_fits (bytes_eq first (codes "step")) _ _
    (map_fits (λ count. Does (tasks.Step count None)) _ (number_fits word STEP_LIMIT) (λ count fit. (fit.0, fit.1, tt)))
    (if_fits (bytes_eq first (codes "end")) _ _
    (map_fits (λ number. Does (tasks.End (Some number))) _ (number_fits word TRANSACTION_LIMIT) (λ number fit. fit))
    (if_fits (bytes_eq first (codes "reads")) _ _
    (map_fits (λ item. Does (tasks.Reads item)) _ (number_fits word READS_LIMIT) (λ item fit. fit))
    (if_fits (bytes_eq first (codes "lose")) _ _
    (map_fits (λ loss. Link (Lose loss)) _ (any_fits (loss_of word)) (λ loss any. tt))
    (if_fits (bytes_eq first (codes "repair")) _ _
    (if_fits (is_name word) _ _ (some_fits (Does (tasks.Repair word)) tt) none_fits) none_fits))))

event_of_words_fits : (first word : List ℕ) → Fits EventFits (event_of_words first word)
event_of_words_fits first word =
    if_fits _ _ _ (map_fits _ _ (path_fits word (path_of word) refl) (λ path fit. fit)) (event_with_fits first word)

script_task_fits : (first script : List ℕ) (option : Choice (List ℕ)) → Fits TaskFits (script_task first script option)
script_task_fits first script option =
    if_fits _ _ _ (some_fits (tasks.Run script option) tt) (if_fits _ _ _ (some_fits (tasks.Begin script option) tt) none_fits)

choosing_fits : (first client script : List ℕ) (option : Option (Choice (List ℕ)))
    → Fits FormFits (choosing_form first client script option)
choosing_fits first client script option =
    if_fits _ _ _
    (then_fits _ option (any_fits option) (λ choice any. map_fits _ _ (script_task_fits first script choice) (λ what fit. fit)))
    none_fits

one_word_fits : (word : List ℕ) → Fits FormFits (one_word word)
one_word_fits word = if_fits _ _ _ (some_fits forms.Log tt) (if_fits _ _ _ (some_fits forms.Promote tt) none_fits)

stop_form_fits : (node : List ℕ) (calls : ℕ) (pick : Pick) → IsCall calls → Fits FormFits (stop_form node calls pick)
stop_form_fits node calls pick within =
    if_fits _ _ _ (some_fits (forms.Server (Stop calls pick)) within)
    (if_fits _ _ _ (some_fits (forms.StopBackup calls pick) within)
    (if_fits _ _ _ (some_fits (forms.At node (Node (Stop calls pick))) within) none_fits))

two_words_fits : (first second : List ℕ) → Fits FormFits (two_words first second)
two_words_fits first second =
    or_fits _ _ (if_fits _ _ _ (map_fits _ _ (node_event_fits first) (λ what fit. fit)) none_fits)
    (if_fits _ _ _
    (if_fits _ _ _ (some_fits (forms.Client second) tt) (map_fits _ _ (lone_event_fits first) (λ what fit. fit)))
    none_fits)

three_words_fits : (first second third : List ℕ) → Fits FormFits (three_words first second third)
three_words_fits first second third =
    if_fits _ _ _ none_fits
    (if_fits _ _ _ (some_fits (forms.Script second) tt)
    (if_fits _ _ _ (some_fits (forms.Profile second) tt) (map_fits _ _ (event_of_words_fits first third) (λ what fit. fit))))

stop_words_fits : (node calls pick : List ℕ) → Fits FormFits (stop_words node calls pick)
stop_words_fits node calls pick =
    then_fits _ _ (number_fits calls STOP_LIMIT)
    (λ k within. then_fits _ _ (any_fits (pick_of pick)) (λ p any. stop_form_fits node k p within))

step_words_fits : (client count transaction : List ℕ) → Fits FormFits (step_words client count transaction)
step_words_fits client count transaction =
    if_fits _ _ _
    (then_fits _ _ (number_fits count STEP_LIMIT)
    (λ k few. map_fits _ _ (number_fits transaction TRANSACTION_LIMIT) (λ n within. (few.0, few.1, within))))
    none_fits

walk_words_fits : (client profile limit : List ℕ) → Fits FormFits (walk_words client profile limit)
walk_words_fits client profile limit =
    if_fits _ _ _
    (map_fits _ _ (number_fits limit WALK_LIMIT) (λ n within. record { least = within.0; most = within.1 }))
    none_fits

pub form_fits : (found : List (List ℕ)) → Fits FormFits (form_of found)
form_fits [] = none_fits
form_fits (a ∷ []) = one_word_fits a
form_fits (a ∷ b ∷ []) = two_words_fits a b
form_fits (a ∷ b ∷ c ∷ []) = three_words_fits a b c
form_fits (a ∷ b ∷ c ∷ d ∷ []) =
    if_fits _ _ _ (stop_words_fits b c d)
    (if_fits _ _ _ (step_words_fits b c d) (if_fits _ _ _ (walk_words_fits b c d) (choosing_fits a b c (plain_choice d))))
form_fits (a ∷ b ∷ c ∷ d ∷ e ∷ []) = choosing_fits a b c (resolver_choice d e)
form_fits (a ∷ b ∷ c ∷ d ∷ e ∷ f ∷ more) = none_fits
