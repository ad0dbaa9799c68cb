-- Which values version 1 has a spelling for: no mode is on, none is asked for or changed, and contents are few.
use Rattle.std.specs.Prelude.{ℕ, Bool, true, false, nat_le, ◌&&◌, List, length}
use Rattle.std.specs.FinMap.{entries}
use Rattle.std.specs.List.{list_all}
use Rattle.iot_tree.specs.Tree.{Nodes, Path, Row}
use Rattle.iot_tree.specs.declared.access.Access.{Access}
use Rattle.iot_tree.specs.declared.acts.Read.{Read}
use Rattle.iot_tree.specs.declared.labels.Label.{Label}
use Rattle.iot_tree.specs.declared.nodes.Mode.{Mode}
use Rattle.iot_tree.specs.declared.nodes.Mode.TheVariants.{On, Off}
use Rattle.iot_tree.specs.declared.nodes.Node.{Node}
use Rattle.iot_tree.specs.declared.nodes.Node.TheVariants.{Dir, File, FarDir, FarFile}
use Rattle.iot_tree.specs.declared.questions.Answer.{Answer}
use Rattle.iot_tree.specs.declared.questions.Answer.TheVariants as answers
use Rattle.iot_tree.specs.declared.questions.Question.{Question}
use Rattle.iot_tree.specs.declared.questions.Question.TheVariants as asks
use Rattle.iot_tree.specs.declared.updates.Update.{Update}
use Rattle.iot_tree.specs.declared.updates.Update.TheVariants.{Put, MakeDir, Remove, Move, SetMode}
use Rattle.iot_bodies.specs.declared.server.ServerBody.{ServerBody}
use Rattle.iot_versions.specs.declared.values.TheConstants.{OLD_CONTENTS}

abbrev pub is_old_contents : List ℕ → Bool
is_old_contents contents = nat_le (length contents) OLD_CONTENTS

abbrev pub is_old_file : Path × List ℕ → Bool
is_old_file file = is_old_contents file.1

-- ---- trees

abbrev pub is_off : Mode → Bool
is_off Off = true
is_off On = false

abbrev pub is_old_node : Node → Bool
is_old_node Dir = true
is_old_node (File contents mode) = is_off mode && is_old_contents contents
is_old_node FarDir = true
is_old_node (FarFile mode) = is_off mode

abbrev pub is_old_row : Row → Bool
is_old_row row = is_old_node row.1

abbrev pub is_old_tree : Nodes → Bool
is_old_tree tree = list_all is_old_row (entries tree)

-- ---- what was run

abbrev pub is_old_question : Question → Bool
is_old_question (asks.Kind path) = true
is_old_question (asks.Content path) = true
is_old_question (asks.Names path) = true
is_old_question (asks.Mode path) = false

abbrev pub is_old_answer : Answer → Bool
is_old_answer answers.Away = true
is_old_answer answers.Absent = true
is_old_answer answers.IsDir = true
is_old_answer answers.IsFile = true
is_old_answer (answers.Bytes contents) = is_old_contents contents
is_old_answer (answers.Names children) = true
is_old_answer answers.On = false
is_old_answer answers.Off = false

abbrev pub is_old_read : Read → Bool
is_old_read read = is_old_question read.question && is_old_answer read.answer

abbrev pub is_old_update : Update → Bool
is_old_update (Put path contents) = is_old_contents contents
is_old_update (MakeDir path) = true
is_old_update (Remove path) = true
is_old_update (Move path other) = true
is_old_update (SetMode path mode) = false

abbrev pub is_old_access : Access → Bool
is_old_access access = list_all is_old_read access.reads && list_all is_old_update access.updates

abbrev pub is_old_label : Label → Bool
is_old_label label = list_all is_old_file label.kept

abbrev pub is_old_commit : Label → Access → Bool
is_old_commit label access = is_old_label label && is_old_access access

abbrev pub is_old_server : ServerBody → Bool
is_old_server body = is_old_tree body.tree && list_all is_old_label body.labels
