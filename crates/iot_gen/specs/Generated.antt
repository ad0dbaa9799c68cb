-- The generated text.
use Rattle.std.specs.Prelude.{ℕ, List, [], ◌∷◌, ◌++◌, map, codes, decimal}
use Rattle.std.specs.List.{flat_map}
use Rattle.iot_gen.specs.Turns.{turns, turn_line}
use Rattle.iot_gen.specs.declared.generating.TheConstants.{TURNS}

-- a line ends with a newline
abbrev pub line : List ℕ → List ℕ
line text = text ++ 10 ∷ []

abbrev pub text_of : List (List ℕ) → List ℕ
text_of lines = flat_map line lines

-- clients count from 1, files from 0
abbrev pub clients : List ℕ
clients = 1 ∷ 2 ∷ 3 ∷ 4 ∷ []

abbrev pub files : List ℕ
files = 0 ∷ 1 ∷ 2 ∷ 3 ∷ 4 ∷ 5 ∷ 6 ∷ 7 ∷ []

abbrev pub client_line : ℕ → List ℕ
client_line c = codes "client c" ++ decimal c

abbrev pub file_line : ℕ → List ℕ
file_line i = codes "write /d/f" ++ decimal i ++ codes " 0"

-- the script that makes a directory with the files
unfoldable pub init_lines : List (List ℕ)
init_lines = codes "script init {" ∷ codes "mkdir /d" ∷ map file_line files ++ codes "}" ∷ []

-- the script that adds to a file, and prints it
abbrev pub add_lines : ℕ → List (List ℕ)
add_lines i =
    (codes "script add" ++ decimal i ++ codes " {")
    ∷ (codes "append /d/f" ++ decimal i ++ codes " \"+\"")
    ∷ (codes "cat /d/f" ++ decimal i)
    ∷ codes "}"
    ∷ []

-- the script that prints what the directory has
abbrev pub look_lines : List (List ℕ)
look_lines = codes "script look {" ∷ codes "ls /d" ∷ codes "}" ∷ []

-- the clients and the scripts are declared
unfoldable pub declarations : List (List ℕ)
declarations = map client_line clients ++ init_lines ++ flat_map add_lines files ++ look_lines

abbrev pub hoard_line : ℕ → List ℕ
hoard_line c = codes "hoard c" ++ decimal c ++ codes " /d"

-- the files are made, and each client fetches them
unfoldable pub start_lines : List (List ℕ)
start_lines = codes "run c1 init abort" ∷ map hoard_line clients

-- so many turns, drawn from x on
abbrev pub turn_lines : (count : ℕ) (x : ℕ) → List (List ℕ)
turn_lines count x = map turn_line (turns count x)

abbrev pub last_lines : ℕ → List (List ℕ)
last_lines c = (codes "connect c" ++ decimal c) ∷ (codes "drain c" ++ decimal c) ∷ []

-- at the end each client is connected, and sends what it has
unfoldable pub end_lines : List (List ℕ)
end_lines = flat_map last_lines clients

-- the lines of the generated text
abbrev pub generated_lines : (n : ℕ) → List (List ℕ)
generated_lines n = declarations ++ start_lines ++ turn_lines TURNS n ++ end_lines

-- the generated text
abbrev pub generated : (n : ℕ) → List ℕ
generated n = text_of (generated_lines n)
