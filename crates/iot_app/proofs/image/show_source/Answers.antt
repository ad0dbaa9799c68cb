use Rattle.std.proofs.Common.{◌≤◌, ℕ, sym, subst}
use Rattle.std.specs.Io.KnownBytes.{IsAtEnd}
use Rattle.iot_io.specs.ReadAll.{Took}
use Rattle.iot_app.specs.Images.{TookImage}
use Rattle.iot_app.specs.declared.image.TheConstants.{IMAGE_LIMIT}
use Rattle.iot_app.proofs.ImagesLaws.{image_shown}
use Rattle.iot_app.proofs.image.show_source.Goals as goal

pub returns-in-Ok-clause-showed : goal.returns-in-Ok-clause-showed
returns-in-Ok-clause-showed g c =
    let took = Took g.S.Source.left g.S.Source.taken c.args.source.now c.read_all.new.source in
    let at_end = IsAtEnd (g.S.Source.left c.read_all.new.source) in
    let given : TookImage took at_end c.deref.result.now = record {
      taken = subst took (sym c.deref.ensures.value) c.in-Ok.ensures.took;
      whole = c.in-Ok.ensures.end;
      within = subst (λ (n : ℕ). n ≤ IMAGE_LIMIT) (sym c.deref.ensures.len) c.in-Ok.ensures.within;
    } in
    image_shown took at_end c.args.telling _ _ _ c.deref.result.now c.show_bytes.result given c.show_bytes.ensures
