mod DepthsKept
mod LoanExamples
mod Outcomes
