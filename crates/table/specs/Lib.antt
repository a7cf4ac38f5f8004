-- What every table of records has in common.

-- the paper's definitions: the rules of a table, its judge and its writer
pub mod Table
-- for code: that its constants are the table's, and that the laws of tables hold of its record
pub mod Sizes
pub mod Facts
-- for statements: what both round trips say of a table
pub mod RoundTrip
