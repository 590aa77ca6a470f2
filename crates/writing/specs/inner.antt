-- What it means that text was written into a lent buffer, the law that joins what two calls wrote, and both for a page.
pub mod Writing
pub mod Page
