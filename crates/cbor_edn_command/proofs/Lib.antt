mod ReadCommandLine
mod Lines
mod ReadFileCommandLine
