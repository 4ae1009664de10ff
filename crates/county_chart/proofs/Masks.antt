pub mod MaskedReads
pub mod JoinedPieces
