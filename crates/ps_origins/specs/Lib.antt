pub mod Besides
pub mod Origins
