mod WordCuts
mod LineCuts
mod PartLengths
