-- Decoding a value of each type that was decoded before: no byte of a name or of contents is tested, and no order.
use Rattle.std.specs.Prelude.{ℕ, List, [], ◌∷◌}
use Rattle.iot_tree.specs.declared.kinds.Kind.{Kind}
use Rattle.iot_tree.specs.declared.questions.Question.{Question}
use Rattle.iot_tree.specs.declared.questions.Question.TheVariants as asks
use Rattle.iot_tree.specs.declared.questions.Answer.{Answer}
use Rattle.iot_tree.specs.declared.questions.Answer.TheVariants as answers
use Rattle.iot_tree.specs.declared.updates.Update.{Update}
use Rattle.iot_tree.specs.declared.updates.Update.TheVariants.{Put, MakeDir, Remove, Move, SetMode}
use Rattle.iot_tree.specs.declared.acts.Read.{Read}
use Rattle.iot_views.specs.Decoders.{Decoder, ◌>>=◌, done, number_at, list_at, tagged}
use Rattle.iot_views.specs.Decoding.{kind_at, mode_at}
use Rattle.iot_views.specs.Listed.{counted_at, loose_pair_at}

unfoldable pub path_again : Decoder (List (List ℕ))
path_again = list_at counted_at

unfoldable pub children_again : Decoder (List (List ℕ × Kind))
children_again = list_at (loose_pair_at counted_at kind_at)

unfoldable pub question_again : Decoder Question
question_again =
    tagged
    ((1, (do path ← path_again; done (asks.Kind path)))
    ∷ (2, (do path ← path_again; done (asks.Content path)))
    ∷ (3, (do path ← path_again; done (asks.Names path)))
    ∷ (4, (do path ← path_again; done (asks.Mode path)))
    ∷ [])

unfoldable pub answer_again : Decoder Answer
answer_again =
    tagged
    ((1, done answers.Away)
    ∷ (2, done answers.Absent)
    ∷ (3, done answers.IsDir)
    ∷ (4, done answers.IsFile)
    ∷ (5, (do contents ← counted_at; done (answers.Bytes contents)))
    ∷ (6, (do children ← children_again; done (answers.Names children)))
    ∷ (7, done answers.On)
    ∷ (8, done answers.Off)
    ∷ [])

unfoldable pub read_again : Decoder Read
read_again = do
  question ← question_again
  answer ← answer_again
  done (record { question = question; answer = answer })

unfoldable pub base_again : Decoder (Read × ℕ)
base_again = do
  read ← read_again
  place ← number_at
  done (read, place)

unfoldable pub update_again : Decoder Update
update_again =
    tagged
    ((1, (do path ← path_again; contents ← counted_at; done (Put path contents)))
    ∷ (2, (do path ← path_again; done (MakeDir path)))
    ∷ (3, (do path ← path_again; done (Remove path)))
    ∷ (4, (do path ← path_again; other ← path_again; done (Move path other)))
    ∷ (5, (do path ← path_again; mode ← mode_at; done (SetMode path mode)))
    ∷ [])
