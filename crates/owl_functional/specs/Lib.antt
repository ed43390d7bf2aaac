pub mod Tokens
pub mod Runs
pub mod Grammar
pub mod Following
pub mod Rules
pub mod Ontology
pub mod Lookup
pub mod Sound
