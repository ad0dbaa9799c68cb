-- Scripts by their names.
use Rattle.std.specs.Prelude.{◌≡◌, ℕ, List, Option, Some, bytes_eq, slice_get}
use Rattle.std.specs.List.{find, AllByRecursion}
use Rattle.iot_machine.specs.Clients.{Declared, ClientState, Item, Running}
use Rattle.iot_machine.specs.Options.{OnConflict}
use Rattle.iot_lang.specs.Code.{Code}
use Rattle.iot_machine.specs.Options as options
use Rattle.iot_tree.specs.declared.labels.OnConflict as named
pub use Rattle.iot_machine.specs.Recorded.{option_named}

-- the first script of this name
abbrev pub script_named : List ℕ → List Declared → Option Declared
script_named name scripts = find (λ script. bytes_eq name script.name) scripts

-- the script is the one that its name names
abbrev pub IsNamed : List Declared → Declared → Type 0
IsNamed scripts script = script_named script.name scripts ≡ Some script

-- so is the resolver of an option, if it has one
abbrev pub HasNamed : List Declared → OnConflict Declared → Type 0
HasNamed scripts (options.Resolver script) = IsNamed scripts script
HasNamed scripts other = Unit {0}

-- the script of this name is declared, with this code
pub record IsCodeOf (name : List ℕ) (scripts : List Declared) (code : Code) : Type 0 where
  pub script : Declared
  pub is : script_named name scripts ≡ Some script
  pub has : script.code ≡ code

-- no two of these scripts have the same name
abbrev pub AreApart : List Declared → Type 0
AreApart scripts = (place : ℕ) (script : Declared) → slice_get scripts place ≡ Some script → IsNamed scripts script

-- among these scripts this one is the one that its name names, and the option means this
pub record Means (scripts : List Declared) (script : Declared) (option : named.OnConflict) (on_conflict : OnConflict Declared) : Type
    0 where
  pub script_is : IsNamed scripts script
  pub resolver : HasNamed scripts on_conflict
  pub option_is : option ≡ option_named on_conflict

-- it means something
pub record IsMeant (scripts : List Declared) (script : Declared) (option : named.OnConflict) : Type 0 where
  pub on_conflict : OnConflict Declared
  pub means : Means scripts script option on_conflict

-- ---- the scripts of a client's transactions

pub record ItemIsNamed (scripts : List Declared) (item : Item) : Type 0 where
  pub script : IsNamed scripts item.script
  pub resolver : HasNamed scripts item.option

pub record RunIsNamed (scripts : List Declared) (it : Running) : Type 0 where
  pub script : IsNamed scripts it.script
  pub resolver : HasNamed scripts it.option

-- each is the one that its name names
pub record AreNamed (scripts : List Declared) (state : ClientState) : Type 0 where
  pub items : AllByRecursion (ItemIsNamed scripts) state.items
  pub running : AllByRecursion (RunIsNamed scripts) state.running
