-- What names stand for, after synonyms.
pub mod MeaningLaws
pub mod EndLaws
