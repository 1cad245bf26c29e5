pub mod PlayFacts
