mod Lines
mod Listed
