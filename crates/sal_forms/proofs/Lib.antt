pub mod PlacesEquations
