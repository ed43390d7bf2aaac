mod Dropping
mod Matching
mod Places
mod SameSymbols
mod Samples
mod Solving
mod Telling
