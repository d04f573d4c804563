mod ObjectRows
mod LegendRows
mod LayerRows
mod NameRows
pub mod NameTexts
