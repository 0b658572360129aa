-- Inner: words of this crate's own bodies and proofs. Of public clauses one has such a word, the law `nets_have_last_changes`, which ties
-- `net_of` to `IsNet`.
pub mod Entrants
pub mod Gathering
pub mod LastChanges
pub mod Nets
pub mod Places
