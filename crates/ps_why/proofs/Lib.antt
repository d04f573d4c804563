pub mod LineTexts
pub mod Numbers
pub mod Pages
