-- No public promise rests on what this crate defines: its inner contracts' words and its laws are below.
pub mod inner
