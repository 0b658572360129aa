-- Inner: how readers go, step by step. The calls for fields name their steps in the clause `exact`, for the readers above that are
-- chains of such steps, and the laws that tie the steps to what stands in the bytes speak of them.
pub mod Fields
pub mod Things
pub mod Reading
