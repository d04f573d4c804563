mod LineRows
mod CommentRows
mod SectionRows
mod OddTextRows
