mod PlayLemmas
mod ReadLemmas
mod Meanings
