pub mod Words
mod HexDigits
pub mod VectorLanes
mod EncodedDigits
mod PrintableBlocks
