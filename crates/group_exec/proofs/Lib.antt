mod Answers
mod Making
mod Numbers
mod Running
mod Runs
mod Sides
