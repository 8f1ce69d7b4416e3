-- What only clauses of private functions cite, and what laws tie to the definitions: nothing of it needs to be believed.
pub mod RowBuilder
pub mod ParserResults
