pub mod ProgramWords
pub mod CommandLine
pub mod Devices
pub mod Hexadecimal
pub mod CommandLineSteps
pub mod FileCommandLine
pub mod FileOptions
pub mod FileCommandLineSteps
