pub mod CommandFacts
pub mod HelpFacts
pub mod OptionFacts
