use Rattle.std.proofs.Common.{sym, ap, ◌∙◌}
use Rattle.iot_tree.specs.Questions.{kind_answer}
use Rattle.iot_tree.specs.declared.questions.Question.TheVariants.{Kind}
use Rattle.iot_tree.specs.declared.questions.Answer.TheVariants.{IsDir}
use Rattle.iot_exec.specs.Commands.{dir_target, at_dir_target, empty_dir}
use Rattle.iot_exec.proofs.AskingLaws.{passes_from, ask_leads}
use Rattle.iot_exec.proofs.asking.Asking.directory_target.Goals as goal

pub returns-in-IsDir : goal.returns-in-IsDir
returns-in-IsDir c =
    passes_from _ (dir_target c.args.to.now) _ (empty_dir c.args.to.now) _ _
    (λ good. ask_leads _ _ (Kind c.args.to.now) (at_dir_target c.args.to.now good) IsDir c.in_ok-kind.ensures.asked
    (ap kind_answer (sym c.in-IsDir.is ∙ c.in_ok-kind.ensures.kind)))
    c.empty_directory.ensures
