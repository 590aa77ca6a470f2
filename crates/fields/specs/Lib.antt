-- What the register's grammar is made of: parts of a run of bytes, then lines, fields, numbers, names and words of methods.
pub mod Grammar
pub mod inner
