mod Alignments
pub mod Offsets
