pub mod Grammar
pub mod Reading
pub mod Answer
pub mod Within
