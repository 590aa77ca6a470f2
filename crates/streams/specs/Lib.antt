-- No public promise rests on what this crate defines: its inner contracts' words are below.
pub mod inner
