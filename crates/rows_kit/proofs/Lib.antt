mod Fitting
mod Overlaid
