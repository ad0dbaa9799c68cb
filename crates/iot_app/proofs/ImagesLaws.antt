-- How an image is shown, by how its steps end.
use Rattle.std.proofs.Common.{◌≤◌, ℕ, List, [], length, refl, sym, subst, inl, inr}
use Rattle.iot_count.specs.Counts.{Counted}
use Rattle.iot_app.specs.Images.{TookImage, IsNoImage, foreign, damaged, Showed, ShowsNothing}
use Rattle.iot_app.specs.Images.{damaged_line, foreign_line}
use Rattle.iot_app.specs.Job.{TextEnds, NothingEnds, RefusalEnds, ImageShows}
use Rattle.iot_app.specs.Job as step
use Rattle.iot_app.specs.declared.image.Telling.{Telling}
use Rattle.iot_app.specs.declared.image.TheConstants.{IMAGE_LIMIT}
use Rattle.iot_app.specs.declared.status.Status.{Status}
use Rattle.iot_app.specs.declared.status.Status.TheVariants as statuses
use Rattle.iot_app.proofs.EndingsLaws.{by_text}

module _ (took : List ℕ → Type 0) (at_end : Type 0) (telling : Telling) (wrote : List ℕ → Type 0) (f e : Counted) where
  -- a line that says why an image shows nothing
  none_shown : (text : List ℕ) (status : Status) → IsNoImage took at_end text → TextEnds statuses.Refused text status wrote f e
      → Showed took at_end telling wrote status
  none_shown text status refused line =
      by_text statuses.Refused text status wrote f e (Showed took at_end telling wrote) line
      (λ written. record { text = text; refused = refused; written = written })
      (λ cut. inr (record { text = text; refused = refused; written = cut }))

  nothing_shown : (front : List ℕ) → took front → length front ≤ IMAGE_LIMIT → wrote [] → ShowsNothing took at_end wrote
  nothing_shown front taken within written = record {
    some = record { front = front; taken = taken; within = within };
    written = written;
  }

  -- an image that was read
  pub image_shown : (image : List ℕ) (status : Status) → TookImage took at_end image → ImageShows telling image status wrote f e
      → Showed took at_end telling wrote status
  image_shown image status given (step.shows text shown line) =
      by_text statuses.Done text status wrote f e (Showed took at_end telling wrote) line
      (λ written. record { image = image; given = given; text = text; shown = shown; written = written })
      (λ cut. inl (record { image = image; given = given; text = text; shown = shown; written = cut }))
  image_shown image status given (step.foreign is line) = none_shown foreign_line status (foreign image given is refl) line
  image_shown image status given (step.damaged at is line) =
      none_shown (damaged_line at) status (damaged image at given is refl) line
  image_shown image status given (step.nothing ends) =
      subst (Showed took at_end telling wrote) (sym ends.is) (nothing_shown image given.taken given.within ends.written)
