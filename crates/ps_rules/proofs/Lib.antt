pub mod TokenLines
pub mod Loops
pub mod Cuts
pub mod SameRules
pub mod Rows
pub mod Words
pub mod Repeats
pub mod ItemSteps
pub mod Founds
pub mod Adds
pub mod LooseProperties
pub mod RuleSteps
pub mod FormSteps
pub mod LineSteps
pub mod TwoParts
mod WholeLines
pub mod ToldSteps
