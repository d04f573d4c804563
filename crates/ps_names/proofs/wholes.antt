-- The layers, and the sections put together.
pub mod LayerLaw
pub mod WholeSteps
pub mod SectionLaws
pub mod Reading
