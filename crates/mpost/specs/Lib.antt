pub mod CommandWords
pub mod CommandLines
pub mod ReadWords
pub mod Delivery
pub mod Headline
