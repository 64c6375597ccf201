-- Document 01 as definitions, in its order; the lines between them are its headings.
-- Records
pub mod Types
pub mod Sizes
pub mod Words
pub mod Records
pub mod Kinds
pub mod Trees
pub mod TargetTrees
pub mod Nodes
-- Running
pub mod Numbers
pub mod Memory
pub mod Evaluation
pub mod Flow
pub mod Plain
pub mod Observation
pub mod Watched
pub mod Layout
pub mod Fits
-- Translating
pub mod Translation
pub mod Emission
pub mod Origins
pub mod RecordTrees
pub mod SourceRecords
pub mod Relabelling
-- Turned away because of the input
pub mod Checker
-- Turned away or ended because of the state
pub mod Answers
-- Demand 3 in full
pub mod Past
pub mod Demand3
-- Worked on paper
pub mod Listing
pub mod Cases
pub mod CommonErrors
pub mod PointerCases
