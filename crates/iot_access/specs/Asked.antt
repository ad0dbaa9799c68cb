-- Base reads without those whose question was asked before.
use Rattle.std.specs.Prelude.{Bool, true, false, List, [], ◌∷◌, if◌then◌else◌}
use Rattle.std.specs.BTreeSet.{contains}
use Rattle.std.specs.Ordering.{is_eq}
use Rattle.iot_text.specs.Paths.{path_cmp}
use Rattle.iot_tree.specs.declared.questions.Question.{Question}
use Rattle.iot_tree.specs.declared.questions.Question.TheVariants.{Kind, Content, Names, Mode}
use Rattle.iot_access.specs.BaseReads.{Base}
use Rattle.iot_access.specs.declared.asked.Asked.{Asked}

-- whether the questions are the same
abbrev pub same_question : Question → Question → Bool
same_question (Kind p) (Kind q) = is_eq (path_cmp p q)
same_question (Content p) (Content q) = is_eq (path_cmp p q)
same_question (Names p) (Names q) = is_eq (path_cmp p q)
same_question (Mode p) (Mode q) = is_eq (path_cmp p q)
same_question one other = false

-- whether one was asked, if this one was asked besides
abbrev pub or_asked : (Question → Bool) → Question → Question → Bool
or_asked asked question other = if same_question question other then true else asked other

-- none was
abbrev pub none_asked : Question → Bool
none_asked question = false

-- a base read before others, unless its question was asked
abbrev pub cons_unless : Bool → Base → List Base → List Base
cons_unless true base rest = rest
cons_unless false base rest = base ∷ rest

-- the base reads that ask a question for the first time
abbrev pub first_asked : (Question → Bool) → List Base → List Base
first_asked asked [] = []
first_asked asked (base ∷ bases) =
    cons_unless (asked base.1.question) base (first_asked (or_asked asked base.1.question) bases)

-- whether a question was asked, by its path and by what it asks for
abbrev pub is_asked : Asked → Question → Bool
is_asked asked (Kind p) = contains path_cmp asked.kinds p
is_asked asked (Content p) = contains path_cmp asked.contents p
is_asked asked (Names p) = contains path_cmp asked.names p
is_asked asked (Mode p) = contains path_cmp asked.modes p
