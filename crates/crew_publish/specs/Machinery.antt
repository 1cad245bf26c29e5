-- What the rule over the two copies needs.
pub mod Rule
