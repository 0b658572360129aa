mod Searching
mod Names
