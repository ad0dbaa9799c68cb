-- What a client of the machine does alone, and how a call ends its event.
use Rattle.std.specs.Prelude.{◌+◌, ◌≡◌}
use Rattle.iot_laptop.specs.Below.{Bool, Call, ClientState}
use Rattle.iot_laptop.specs.Below.{Compared, Declared, Differs, List, None, Option, Same, Some, Try, false, has_any, true, view, ℕ, []}
use Rattle.iot_machine.specs.Calls.{Answers, Asks, At, Does, Gets, Goes, Part, Then}
use Rattle.iot_machine.specs.Clients.{ReadsSame, Running, again, begin, end, numbered, reads_here, reads_on}
use Rattle.iot_machine.specs.{Machine.Client, Machine.classed, Machine.node, Options.OnConflict}
use Rattle.iot_machine.specs.{Serving.Conflict, Serving.Parts, Stops.OpensNode, Transactions.Writes, Transactions.unless_stopped}
use Rattle.iot_tree.specs.declared.questions.Question.{Question}

-- ---- its record

-- the same; if it stops in that, its event is over
abbrev pub NotesAlone : (ClientState → ClientState) → Try Client (Unit {0})
NotesAlone change = Then (Writes change) (λ on. Answers (unless_stopped on))

-- its running transaction with this number is first class from now on, or second class
abbrev pub set_class : (number : ℕ) → (first : Bool) → Client → Client
set_class number first client = record client { first = classed number first client.first }

-- its next transaction begins, first class or not, and has this number
abbrev pub StartsAlone : Declared → OnConflict Declared → (first : Bool) → Try Client ℕ
StartsAlone script option first =
    Then (Asks (λ client. client.node.durable.last + 1)) (λ number.
    Goes (NotesAlone (begin script option)) (λ _. Gets (λ _. Some number) (set_class number first)))

-- if transactions wait, the running one with this number is second class from now on
abbrev pub yields_by : (number : ℕ) → (pends : Bool) → List ℕ → List ℕ
yields_by number true first = classed number false first
yields_by number false first = first

abbrev pub yielding : (number : ℕ) → Client → Client
yielding number client = record client { first = yields_by number (has_any client.node.durable.items) client.first }

abbrev pub YieldsAlone : (number : ℕ) → Part Client
YieldsAlone number = Does (λ _. []) (yielding number)

-- and then it notes this change
abbrev pub YieldsAndNotes : (number : ℕ) → (ClientState → ClientState) → Try Client (Unit {0})
YieldsAndNotes number change = Then (YieldsAlone number) (λ _. NotesAlone change)

-- ---- the end

-- a running transaction is certified on the view
pub data ComparesAlone (it : Running) (client : Client) (text : List ℕ) (found : Compared) (n : Client) : Type 0 where
  same : ReadsSame (view client.node.durable) it → text ≡ [] → found ≡ Same → n ≡ client → ComparesAlone it client text found n
  parts : (read : ℕ) (question : Question) → Parts (reads_here it) (reads_on (view client.node.durable) it) (Some (Conflict read question))
      → text ≡ [] → found ≡ Differs read question → n ≡ client → ComparesAlone it client text found n

-- it ends, or begins anew
abbrev pub change_by : (number : ℕ) → Compared → ClientState → ClientState
change_by number Same = end number
change_by number (Differs read question) = again number

abbrev pub certify_alone : Option Running → Try Client Compared
certify_alone None = Answers None
certify_alone (Some it) =
    Then (YieldsAlone it.number) (λ _. Then (ComparesAlone it) (λ found.
    Goes (NotesAlone (change_by it.number found)) (λ _. Answers (Some found))))

-- the one with this number is certified, and what was found is noted
abbrev pub CertifiesAlone : (number : ℕ) → Try Client Compared
CertifiesAlone number = Then (Asks (λ client. numbered number client.node.durable)) certify_alone

-- ---- its node

-- it starts for the first time, or stops in that
abbrev pub OpensClient : Call Client Bool
OpensClient client text on n = At node (OpensNode client.name) client text on n
