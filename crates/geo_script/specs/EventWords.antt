-- How many words the lines of events have.
use Rattle.std.specs.Prelude.{◌≡◌, ◌⊎◌, ℕ, ◌≤◌, List, ◌++◌, length, codes}
use Rattle.geo_script.specs.declared.script.Form.{Form}
use Rattle.geo_script.specs.declared.script.Form.TheVariants.{Play, Run}
use Rattle.geo_script.specs.declared.verb.Verb.{Verb}
use Rattle.geo_script.specs.declared.verb.Verb.TheVariants.{Sql, Outcome, Seal, Deliver, Fetch, Work, Publish, Show, Crash, Restart}
use Rattle.geo_script.specs.Words.{IsWord}

-- the verb as it is written
abbrev pub verb_text : Verb → List ℕ
verb_text Sql = codes "sql"
verb_text Outcome = codes "outcome"
verb_text Seal = codes "seal"
verb_text Deliver = codes "deliver"
verb_text Fetch = codes "fetch"
verb_text Work = codes "work"
verb_text Publish = codes "publish"
verb_text Show = codes "show"
verb_text Crash = codes "crash"
verb_text Restart = codes "restart"

-- a word, a space, and a text of at least one byte
pub record HasStatement (bytes : List ℕ) : Type 0 where
  pub place : List ℕ
  pub text : List ℕ
  pub whole : bytes ≡ place ++ (codes " " ++ text)
  pub word : IsWord place
  pub some : 1 ≤ length text

-- two words, with one space between them
pub record HasTwoWords (bytes : List ℕ) : Type 0 where
  pub first : List ℕ
  pub second : List ℕ
  pub whole : bytes ≡ first ++ (codes " " ++ second)
  pub one : IsWord first
  pub other : IsWord second

-- three words, with one space between each two
pub record HasThreeWords (bytes : List ℕ) : Type 0 where
  pub first : List ℕ
  pub second : List ℕ
  pub third : List ℕ
  pub whole : bytes ≡ first ++ (codes " " ++ (second ++ (codes " " ++ third)))
  pub one : IsWord first
  pub other : IsWord second
  pub last : IsWord third

-- a word, and what becomes of an open epoch
pub record HasSealing (bytes : List ℕ) : Type 0 where
  pub region : List ℕ
  pub word : IsWord region
  pub fate : (bytes ≡ region ++ codes " sealing kept") ⊎ (bytes ≡ region ++ codes " sealing lost")

-- two words, with the word `after` between them
pub record HasAfter (bytes : List ℕ) : Type 0 where
  pub region : List ℕ
  pub epoch : List ℕ
  pub whole : bytes ≡ region ++ (codes " after " ++ epoch)
  pub one : IsWord region
  pub other : IsWord epoch

-- behind the verb and a space, the bytes are the words of an event of the form
abbrev pub HasWordsBehind : Form → Verb → List ℕ → Type 0
HasWordsBehind Play Sql rest = HasStatement rest
HasWordsBehind Play Outcome rest = IsWord rest
HasWordsBehind Play Seal rest = IsWord rest
HasWordsBehind Play Deliver rest = IsWord rest ⊎ HasTwoWords rest
HasWordsBehind Play Fetch rest = HasThreeWords rest
HasWordsBehind Play Work rest = HasTwoWords rest
HasWordsBehind Play Publish rest = IsWord rest
HasWordsBehind Play Show rest = IsWord rest
HasWordsBehind Play Crash rest = IsWord rest ⊎ HasSealing rest
HasWordsBehind Play Restart rest = IsWord rest
HasWordsBehind Run Sql rest = HasStatement rest
HasWordsBehind Run Crash rest = HasAfter rest
HasWordsBehind Run _ rest = ⊥

-- the line has the words of an event of the form: a verb, and as many words as go with it
pub record HasWords (form : Form) (line : List ℕ) : Type 0 where
  pub verb : Verb
  pub rest : List ℕ
  pub whole : line ≡ verb_text verb ++ (codes " " ++ rest)
  pub behind : HasWordsBehind form verb rest
