-- Inner: how a first word is looked up among the verbs.
use Rattle.std.specs.Prelude.{ℕ, List, [], ◌∷◌, map, if◌then◌else◌, Option, Some, None}
use Rattle.std.specs.Str.{bytes_eq}
use Rattle.geo_script.specs.declared.verb.Verb.{Verb}
use Rattle.geo_script.specs.declared.verb.TheConstants.{VERBS}

-- each verb with its word
unfoldable pub verbs : List (List ℕ × Verb)
verbs = map (λ entry. (entry.0.now, entry.1)) VERBS

-- the verb of the table that the word is
abbrev pub verb_in : List (List ℕ × Verb) → List ℕ → Option Verb
verb_in [] word = None
verb_in (entry ∷ table) word = if bytes_eq entry.0 word then Some entry.1 else verb_in table word

-- the verb that the word is
unfoldable pub verb_of : List ℕ → Option Verb
verb_of word = verb_in verbs word
