use Rattle.std.proofs.Common.{◌∙◌}
use Rattle.iot_client.specs.Ties.{state_of}
use Rattle.iot_tests.proofs.PlacesLaws.{cut_stays}
use Rattle.iot_tests.proofs.embeds.cut_all.Goals as goal

pub cuts-preserved : goal.cuts-preserved
cuts-preserved g c =
    let is = c.in_ok-cut.ensures in record {
      tied = is.tied;
      place = cut_stays c.cuts.client c.cut.new.self (state_of c.cuts.client).running c.in_ok-cut.field-0 is.cuts ∙ c.cuts.invariant.place;
    }
