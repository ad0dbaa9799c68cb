-- The eight places of clients, as names.
use Rattle.std.proofs.Common.{◌≡◌, ◌<◌, ℕ, List, [], ◌∷◌, length, Some, refl, sym, ◌∙◌, arith}
use Rattle.std.specs.List.{AllByRecursion}
use Rattle.std.specs.Prelude.{codes}
use Rattle.std.proofs.lemmas.List.Elements.{All-cons, All-nil}
use Rattle.iot_inspect.specs.Texts.{AreOf}
use Rattle.iot_text.specs.Names.{is_name}
use Rattle.iot_text.specs.Paths.{path_of}
use Rattle.iot_tree.specs.declared.labels.Label.{Label}
use Rattle.iot_views.specs.Rules.{IsLabel}
use Rattle.iot_image.specs.Shown.{places}

-- each label is of one of them
pub labels_of : (labels : List Label) → AllByRecursion IsLabel labels → AreOf places labels
labels_of [] all = All-nil (λ label. label.client < length places)
labels_of (label ∷ labels) all =
    All-cons (λ label. label.client < length places) label labels (omega (arith, all.0.client)) (labels_of labels all.1)

-- the path of this text has them for names
pub places_parsed : (path : List (List ℕ)) → path_of (codes "/0/1/2/3/4/5/6/7") ≡ Some path → path ≡ places
unfolding is_name path_of
places_parsed path found =
    let is : path_of (codes "/0/1/2/3/4/5/6/7") ≡ Some places = refl in
    let same : Some path ≡ Some places = sym found ∙ is in
    cc
