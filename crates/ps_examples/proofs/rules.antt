mod RuleShapeRows
mod RuleNameRows
mod RuleGroupRows
mod RuleTreeRows
mod ReadingFaultRows
mod FaultRows
mod OddRuleRows
pub mod RuleTexts
