-- What the words of the command line ask for.
use Rattle.std.specs.Prelude.{◌≡◌, ℕ, false, None, List, [], ◌∷◌, codes, String, drop, map, string_bytes}
use Rattle.geo_base.specs.declared.limits.TheConstants.{LAST_EPOCH}
use Rattle.geogauss.specs.declared.command.PlayOpts.{PlayOpts}

-- the arguments of a process without the first, which is the program's name
abbrev pub words_behind_name : {A : Type 0} → List (String A) → List (List ℕ)
words_behind_name args = drop 1 (map string_bytes args)

-- the words are the one word `play`
abbrev pub IsPlay : List (List ℕ) → Type 0
IsPlay words = words ≡ codes "play" ∷ []

-- a play without logs that prints every line and may open every epoch
abbrev pub plain_play : PlayOpts
plain_play = record { logs = None; summary = false; last_epoch = LAST_EPOCH }
