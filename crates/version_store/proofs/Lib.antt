mod Finding
mod Applying
mod Counted
mod Listed
mod Trimmed
