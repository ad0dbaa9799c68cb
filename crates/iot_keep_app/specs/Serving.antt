-- What a server that serves frames answers, and how it ends.
use Rattle.std.specs.Prelude.{◌≡◌, ◌≤◌, ◌⊎◌, ℕ, ◌-◌, ◌^◌, List, [], ◌∷◌, ◌++◌, length, Result, Ok, Err}
use Rattle.iot_disk.specs.Disk.{Medium}
use Rattle.iot_durable.specs.Standing.{EachGoes}
use Rattle.iot_server.specs.Replies.{IsHandled}
use Rattle.iot_server.specs.Servers as servers
use Rattle.iot_server.specs.declared.server.Server.{Server}
use Rattle.iot_slots.specs.Decoding.{State as Encoded}
use Rattle.iot_store.specs.Rules.{rules}
use Rattle.iot_store.specs.Standing.{EachStands, EachStandsEither}
use Rattle.iot_store.specs.States.{State, CanFollow, after_commit}
use Rattle.iot_tree.specs.declared.access.Access.{Access}
use Rattle.iot_tree.specs.declared.labels.Label.{Label}
use Rattle.iot_wire.specs.Messages.{IsMessage}
use Rattle.iot_wire.specs.Rules.{IsRequest}
use Rattle.iot_wire.specs.Spelling.{request_spelling}
use Rattle.iot_wire.specs.declared.requests.Request.{Request}
use Rattle.iot_wire.specs.declared.requests.Request.TheVariants.{Commit}
use Rattle.iot_keep_app.specs.Frames.{frame, FrameFails, TookFrame, WroteFront}
use Rattle.iot_keep_app.specs.declared.fault.ServeFault.{ServeFault}
use Rattle.iot_keep_app.specs.declared.fault.ServeFault.TheVariants.{NoMemory, Foreign, Damaged, Stopped, ReadFailed, Cut}
use Rattle.iot_keep_app.specs.declared.fault.ServeFault.TheVariants.{TooLong, WriteFailed, TooMany}
use Rattle.iot_keep_app.specs.declared.frames.TheConstants.{FRAME_LIMIT}
use Rattle.iot_keep_app.specs.declared.serving.Next.{Next}
use Rattle.iot_keep_app.specs.declared.serving.Next.TheVariants.{Answered, AtEnd as NoMore}

-- what a server keeps: its state, and what its disk encodes
pub record Kept : Type 0 where
  pub state : State
  pub encoded : Encoded

-- what this server keeps
abbrev pub kept_on : {D : Type 0} → Medium D → Server D → Kept
kept_on medium server = record { state = servers.state_of server; encoded = servers.encoded_on medium server }

-- the bytes of a frame that was read, and of the frame that was written for it
pub record Exchange : Type 0 where
  pub request : List ℕ
  pub reply : List ℕ

-- the bytes are the spelling of no request
pub record IsNoRequest (bytes : List ℕ) : Type 0 where
  pub none : (it : Request) → IsMessage IsRequest request_spelling bytes it → ⊥

-- bytes that are no request are answered by none, and change nothing
pub record IsTurnedDown (before : Kept) (it : Exchange) (after : Kept) : Type 0 where
  pub no_request : IsNoRequest it.request
  pub empty : it.reply ≡ []
  pub same : after ≡ before

-- a request is answered as the server handles it, and bytes that are none by an empty frame
abbrev pub IsAnswered : Kept → Exchange → Kept → Type 0
IsAnswered before it after =
    IsHandled before.state before.encoded it.request it.reply after.state after.encoded ⊎ IsTurnedDown before it after

-- a request within the limit of a frame was answered so
pub record IsServed (before : Kept) (it : Exchange) (after : Kept) : Type 0 where
  pub limit : length it.request ≤ FRAME_LIMIT
  pub answered : IsAnswered before it after

-- each in turn was, from what was kept first to what is kept last
abbrev pub Leads : Kept → List Exchange → Kept → Type 0
Leads before [] after = after ≡ before
Leads before (it ∷ later) after = (mid : Kept) × IsServed before it mid × Leads mid later after

-- the frames of the requests, one after another
abbrev pub asked : List Exchange → List ℕ
asked [] = []
asked (it ∷ later) = frame it.request ++ asked later

-- the frames of the replies, one after another
abbrev pub told : List Exchange → List ℕ
told [] = []
told (it ∷ later) = frame it.reply ++ told later

-- each image stands for the state
pub record EachKeeps (images : List ℕ → Type 0) (state : State) : Type 0 where
  pub count : ℕ
  pub stands : EachStands images count state

-- The bytes are a request for a commit that can follow, whose append the disk cut off: each image stands for the state before it, or for
-- the state with it. Each encodes what was there, or a checkpoint of the state before alone; or such with the record of the commit.
pub record IsInDoubt (images : List ℕ → Type 0) (before : Kept) (request : List ℕ) : Type 0 where
  pub count : ℕ
  pub label : Label
  pub access : Access
  pub lines : List (List ℕ)
  pub asked : IsMessage IsRequest request_spelling request (Commit label access lines)
  pub follows : CanFollow before.state label access
  pub either : EachStandsEither images count before.state (after_commit before.state label access)
  pub encodes : EachGoes rules images before.encoded before.state (record { label = label; access = access; lines = lines })

-- What can be seen of serving: which bytes were taken from the source, and whether nothing is left there; which bytes were written to the
-- sink; which images the disk has now.
pub record Effects : Type 1 where
  pub took : List ℕ → Type 0
  pub at_end : Type 0
  pub wrote : List ℕ → Type 0
  pub images : List ℕ → Type 0

-- the same after these exchanges
abbrev pub after : Effects → List Exchange → Effects
after it done = record {
  took = λ bytes. it.took (asked done ++ bytes);
  at_end = it.at_end;
  wrote = λ bytes. it.wrote (told done ++ bytes);
  images = it.images;
}

-- nothing was taken and nothing written, and each image stands for the state
pub record Rests (it : Effects) (kept : Kept) : Type 0 where
  pub took : it.took []
  pub wrote : it.wrote []
  pub keeps : EachKeeps it.images kept.state

-- one request was read and its reply was written, and each image stands for the state after it
pub record Exchanged (it : Effects) (before after : Kept) : Type 0 where
  pub exchange : Exchange
  pub took : it.took (frame exchange.request)
  pub served : IsServed before exchange after
  pub wrote : it.wrote (frame exchange.reply)
  pub keeps : EachKeeps it.images after.state

-- a request was answered, its reply was written in part, and each image stands for the state after it
pub record CutsReply (wrote images : List ℕ → Type 0) (before : Kept) (request : List ℕ) : Type 0 where
  pub reply : List ℕ
  pub after : Kept
  pub answered : IsAnswered before (record { request = request; reply = reply }) after
  pub front : WroteFront wrote (frame reply)
  pub keeps : EachKeeps images after.state

-- by the fault, how answering a request fails
abbrev pub AnswerFails : (wrote images : List ℕ → Type 0) → Kept → (request : List ℕ) → ServeFault → Type 0
AnswerFails wrote images before request NoMemory = wrote [] × EachKeeps images before.state
AnswerFails wrote images before request Stopped = wrote [] × IsInDoubt images before request
AnswerFails wrote images before request WriteFailed = CutsReply wrote images before request
AnswerFails wrote images before request other = ⊥

-- a request was answered by these bytes, whose frame was written, and each image stands for the state after it
pub record WroteReply (wrote images : List ℕ → Type 0) (before : Kept) (request : List ℕ) (after : Kept) : Type 0 where
  pub reply : List ℕ
  pub answered : IsAnswered before (record { request = request; reply = reply }) after
  pub written : wrote (frame reply)
  pub keeps : EachKeeps images after.state

-- how answering a request ends
abbrev pub AnswerEnds : {T : Type 0} → (wrote images : List ℕ → Type 0) → Kept → (request : List ℕ) → Kept → Result T ServeFault → Type 0
AnswerEnds wrote images before request after (Ok _) = WroteReply wrote images before request after
AnswerEnds wrote images before request after (Err fault) = AnswerFails wrote images before request fault

-- a frame was not read to its end, nothing was written for it, and each image stands for the state
pub record AtFrame (it : Effects) (kept : Kept) (fault : ServeFault) : Type 0 where
  pub fails : FrameFails it.took it.at_end fault
  pub wrote : it.wrote []
  pub keeps : EachKeeps it.images kept.state

-- a request was read, and answering it failed
pub record AtReply (it : Effects) (kept : Kept) (fault : ServeFault) : Type 0 where
  pub request : List ℕ
  pub took : TookFrame it.took request
  pub fails : AnswerFails it.wrote it.images kept request fault

-- by the fault, what was done of the request that was not answered in full
abbrev pub Fails : Effects → Kept → ServeFault → Type 0
Fails it kept NoMemory = AtFrame it kept NoMemory ⊎ AtReply it kept NoMemory
Fails it kept Stopped = AtReply it kept Stopped
Fails it kept WriteFailed = AtReply it kept WriteFailed
Fails it kept ReadFailed = AtFrame it kept ReadFailed
Fails it kept Cut = AtFrame it kept Cut
Fails it kept TooLong = AtFrame it kept TooLong
Fails it kept TooMany = ⊥
Fails it kept Foreign = ⊥
Fails it kept (Damaged at) = ⊥

-- how one step ends: with one request more, at the end of the input, or with a fault
abbrev pub StepEnds : Effects → (before after : Kept) → Result Next ServeFault → Type 0
StepEnds it before after (Ok Answered) = Exchanged it before after
StepEnds it before after (Ok NoMore) = Rests it before × it.at_end
StepEnds it before after (Err fault) = Fails it before fault

-- after some exchanges, from what was kept at the start, this is so of how many they are, of the rest, and of what is kept then
pub record Served (it : Effects) (start : Kept) (Last : ℕ → Effects → Kept → Type 0) : Type 0 where
  pub exchanges : List Exchange
  pub last : Kept
  pub leads : Leads start exchanges last
  pub ends : Last (length exchanges) (after it exchanges) last

-- all frames of the input were answered
abbrev pub ServesAll : Effects → Kept → Type 0
ServesAll it start = Served it start (λ count rest last. Rests rest last) × it.at_end

-- how serving fails after so many exchanges: in the next one, or as no more are answered
abbrev pub FailsAfter : ℕ → Effects → Kept → ServeFault → Type 0
FailsAfter count it kept TooMany = Rests it kept × (count ≡ 2 ^ 64 - 1)
FailsAfter count it kept other = Fails it kept other

-- some frames were answered, and then serving failed
abbrev pub ServeFails : Effects → Kept → ServeFault → Type 0
ServeFails it start fault = Served it start (λ count rest last. FailsAfter count rest last fault)

-- how serving ends
abbrev pub ServeEnds : {T : Type 0} → Effects → Kept → Result T ServeFault → Type 0
ServeEnds it start (Ok _) = ServesAll it start
ServeEnds it start (Err fault) = ServeFails it start fault
