-- What acts ask of the tree before them.
use Rattle.std.specs.Prelude.{ℕ, suc, ◌+◌, List, [], ◌∷◌, length, Option, Some, None}
use Rattle.iot_tree.specs.Tree.{Nodes, Path}
use Rattle.iot_tree.specs.Questions.{answer_of}
use Rattle.iot_tree.specs.declared.updates.Update.{Update}
use Rattle.iot_tree.specs.declared.acts.Act.{Act}
use Rattle.iot_tree.specs.declared.acts.Read.{Read}
use Rattle.iot_tree.specs.declared.questions.Question.{Question}
use Rattle.iot_tree.specs.declared.questions.Question.TheVariants.{Kind, Content, Names as AskNames, Mode as AskMode}
use Rattle.iot_tree.specs.declared.questions.Answer.{Answer}
use Rattle.iot_tree.specs.declared.questions.Answer.TheVariants.{Away, Absent, IsDir, IsFile, Bytes, Names, On, Off}
use Rattle.iot_access.specs.Sources.{source, mode_source}

-- a base read with the place of the read of the run from which it comes
abbrev pub Base : Type 0
Base = ℕ × Read

-- the path of the tree before from which what the question asks for comes, after these updates, the last one first
abbrev pub origin : List Update → Question → Option Path
origin done (Kind p) = source done p
origin done (Content p) = source done p
origin done (AskNames p) = source done p
origin done (AskMode p) = mode_source done p

-- names that were read become those of the tree before, since the run itself may have changed them; another answer stays
abbrev pub base_names : Nodes → Path → Answer → Answer
base_names before o (Names children) = answer_of before (AskNames o)
base_names before o Away = Away
base_names before o Absent = Absent
base_names before o IsDir = IsDir
base_names before o IsFile = IsFile
base_names before o (Bytes bytes) = Bytes bytes
base_names before o On = On
base_names before o Off = Off

-- a mode that was read becomes what the tree before answers, since the run itself may have put the file; an answer that was Away stays
abbrev pub base_mode : Nodes → Path → Answer → Answer
base_mode before o Away = Away
base_mode before o Absent = answer_of before (AskMode o)
base_mode before o IsDir = answer_of before (AskMode o)
base_mode before o IsFile = answer_of before (AskMode o)
base_mode before o (Bytes bytes) = answer_of before (AskMode o)
base_mode before o (Names children) = answer_of before (AskMode o)
base_mode before o On = answer_of before (AskMode o)
base_mode before o Off = answer_of before (AskMode o)

-- the base read of a question, if what it asks for comes from o
abbrev pub base_at : Nodes → Question → Path → Answer → Read
base_at before (Kind p) o answer = record { question = Kind o; answer = answer }
base_at before (Content p) o answer = record { question = Content o; answer = answer }
base_at before (AskNames p) o answer = record { question = AskNames o; answer = base_names before o answer }
base_at before (AskMode p) o answer = record { question = AskMode o; answer = base_mode before o answer }

-- if the run itself made what the question asks for, no tree before is asked; only an answer that was Away stays, which no whole tree gives
abbrev pub settled : Question → Answer → Option Read
settled question Away = Some (record { question = question; answer = Away })
settled question Absent = None
settled question IsDir = None
settled question IsFile = None
settled question (Bytes bytes) = None
settled question (Names children) = None
settled question On = None
settled question Off = None

-- the base read, given where what the question asks for comes from
abbrev pub base_from : Nodes → Question → Answer → Option Path → Option Read
base_from before question answer (Some o) = Some (base_at before question o answer)
base_from before question answer None = settled question answer

-- the base read of a read that was made after these updates, the last one first
abbrev pub base_of : Nodes → List Update → Read → Option Read
base_of before done read = base_from before read.question read.answer (origin done read.question)

-- a base read of this place, if there is one, before the others
abbrev pub cons_base : ℕ → Option Read → List Base → List Base
cons_base place None rest = rest
cons_base place (Some read) rest = (place, read) ∷ rest

-- the base reads of these reads, of which the first has this place, before those that follow
abbrev pub based_reads : List Read → Nodes → List Update → ℕ → List Base → List Base
based_reads [] before done place rest = rest
based_reads (read ∷ reads) before done place rest =
    cons_base place (base_of before done read) (based_reads reads before done (suc place) rest)

-- the updates done, after one more if there is one
abbrev pub done_more : List Update → Option Update → List Update
done_more done None = done
done_more done (Some update) = update ∷ done

-- the base reads of acts, each with its place, after these updates
abbrev pub based : List Act → Nodes → List Update → ℕ → List Base
based [] before done place = []
based (act ∷ acts) before done place =
    based_reads act.reads before done place (based acts before (done_more done act.update) (length act.reads + place))
