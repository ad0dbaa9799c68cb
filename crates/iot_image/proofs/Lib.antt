mod PlacesLaws
