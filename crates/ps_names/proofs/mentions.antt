-- What a name mentions, itself and through other names.
pub mod ReachLaw
pub mod LevelLaws
pub mod MergedLaws
pub mod FlattenLaws
