-- What the departure operation answers.
pub mod Answer
pub mod inner
