pub mod Signs
pub mod Headings
pub mod Bodies
pub mod Definitions
pub mod Grammar
pub mod Texts
pub mod Numbered
pub mod Contents
