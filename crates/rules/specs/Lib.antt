-- The definitions of document 01 as document 02 amends it, a file for each part and in its order, each over those above it; Reuse is E4, Check E7,
-- Storing E1, Longest and Settings E12, Panel E9, Pair E13, Editions E11, Packed E10. Bytes has the words that all share, Views the plain types as the sections'
-- own, Values the numbers that a host reads, Opened what a worked example computes with.
pub mod Bytes
pub mod Letters
pub mod Codons
pub mod Translation
pub mod Names
pub mod Complement
pub mod Trims
pub mod Reference
pub mod Position
pub mod Edit
pub mod Altered
pub mod Exceptions
pub mod Protein
pub mod Reuse
pub mod Record
pub mod Refusal
pub mod Refusals
pub mod Packed
pub mod Views
pub mod Answer
pub mod Check
pub mod Pair
pub mod Editions
pub mod Longest
pub mod Panel
pub mod Values
pub mod Stored
pub mod Storing
pub mod Settings
pub mod Number
pub mod Line
pub mod Run
pub mod Opened
