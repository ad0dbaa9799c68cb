-- Which job the words of the command name.
use Rattle.std.specs.Prelude.{ℕ, Bool, true, false, List, [], ◌∷◌, drop, nat_eq, Option, Some, None, option_map, codes, if◌then◌else◌}
use Rattle.std.specs.List.{starts_with}
use Rattle.std.specs.Str.{bytes_eq}
use Rattle.iot_words.specs.Numbers.{number_of}
use Rattle.iot_words.specs.declared.jobs.Job.{Job}
use Rattle.iot_words.specs.declared.jobs.Job.TheVariants.{Run, Image, Upgrade, Audit}
use Rattle.iot_words.specs.declared.jobs.Run.TheVariants.{Transcript, Json, Generate, Save}

abbrev pub generate_of : List ℕ → Option Job
generate_of text = option_map Run (option_map Generate (number_of text))

-- the words name one job or none: `--json`, `--save`, `--image`, `--upgrade`, `--audit`, `--gen N` or `--gen=N`,
-- each alone
abbrev pub named : List (List ℕ) → Option Job
named [] = Some (Run Transcript)
named (word ∷ []) =
    if bytes_eq word (codes "--json") then Some (Run Json)
    else if bytes_eq word (codes "--save") then Some (Run Save)
    else if bytes_eq word (codes "--image") then Some Image
    else if bytes_eq word (codes "--upgrade") then Some Upgrade
    else if bytes_eq word (codes "--audit") then Some Audit
    else if starts_with nat_eq word (codes "--gen=") then generate_of (drop 6 word)
    else None
named (word ∷ number ∷ []) = if bytes_eq word (codes "--gen") then generate_of number else None
named (word ∷ number ∷ more ∷ rest) = None

-- the words, but for a last `--`, which says that no flag follows
abbrev pub without_end : List (List ℕ) → List (List ℕ)
without_end [] = []
without_end (word ∷ []) = if bytes_eq word (codes "--") then [] else word ∷ []
without_end (word ∷ next ∷ rest) = word ∷ without_end (next ∷ rest)

-- the job that the words name, if the command takes them
abbrev pub job_of : List (List ℕ) → Option Job
job_of words = named (without_end words)

-- the job, by which flags were given and the text that `--gen` was given
abbrev pub chosen : (json save image upgrade audit : Bool) → (text : Option (List ℕ)) → Option Job
chosen false false false false false None = Some (Run Transcript)
chosen true false false false false None = Some (Run Json)
chosen false true false false false None = Some (Run Save)
chosen false false true false false None = Some Image
chosen false false false true false None = Some Upgrade
chosen false false false false true None = Some Audit
chosen false false false false false (Some text) = generate_of text
chosen json save image upgrade audit text = None
