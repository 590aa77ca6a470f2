-- What growth without loss means. The theory's own words and laws are below.
pub mod Growth
pub mod inner
