pub mod FewDigits
pub mod HeadingsTold
pub mod LineSteps
pub mod SectionEnds
pub mod SectionLines
pub mod SectionsTold
