use Rattle.iot_image.proofs.PlacesLaws.{places_parsed}
use Rattle.iot_image.proofs.shown.places.Goals as goal

pub returns-in-Ok : goal.returns-in-Ok
returns-in-Ok c = places_parsed c.in-Ok.path c.in-Ok.ensures.found
