pub mod CoinLaws
pub mod CoinSteps
pub mod CutSteps
pub mod EachSteps
pub mod FigureLaws
pub mod Refused
pub mod RoundTrips
pub mod WordSteps
