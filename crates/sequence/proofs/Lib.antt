pub mod SequenceCode
