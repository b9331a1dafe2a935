mod Actors
mod KeyWords
mod HexNumbers
mod SpelledActs
