mod PlacesLaws
mod StartsLaws
