-- Source statements written as records and read back; programs with other statement numbers.
pub mod Writable
pub mod AcceptedWritable
pub mod SourceFitting
pub mod SourceReadBack
pub mod LevelsKept
pub mod SourceAccepted
pub mod Relabelled
pub mod RelabelledRuns
