pub mod Fitting
pub mod Parcels
pub mod Rising
