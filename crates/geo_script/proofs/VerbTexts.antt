-- The verbs that words are.
use Rattle.std.proofs.Common.{◌≡◌, ℕ, Bool, true, false, cond, List, [], ◌∷◌, ◌++◌, Some, refl, sym, ap, ◌∙◌}
use Rattle.std.specs.Str.{bytes_eq}
use Rattle.std.proofs.lemmas.Slice.Eq.{bytes_eq-Decides}
use Rattle.geo_script.specs.declared.verb.Verb.{Verb}
use Rattle.geo_script.specs.declared.verb.Verb.TheVariants.{Sql, Outcome, Seal, Deliver, Fetch, Work, Publish, Show, Crash, Restart}
use Rattle.geo_script.specs.inner.EventLines.{verb_and_rest}
use Rattle.geo_script.specs.EventWords.{verb_text}
use Rattle.geo_script.specs.inner.Verbs.{verbs, verb_in, verb_of}
use Rattle.geo_script.specs.inner.Words.{cut}
use Rattle.geo_script.proofs.Cuts.{Lacks, cut_at, cut_parts}
use Rattle.schema_text.specs.laws.Inversions.{then_some}

verb_read : (verb : Verb) → verb_of (verb_text verb) ≡ Some verb
unfolding verb_of verbs
verb_read Sql = refl
verb_read Outcome = refl
verb_read Seal = refl
verb_read Deliver = refl
verb_read Fetch = refl
verb_read Work = refl
verb_read Publish = refl
verb_read Show = refl
verb_read Crash = refl
verb_read Restart = refl

verb_lacks : (verb : Verb) → Lacks 32 (verb_text verb)
verb_lacks Sql = refl
verb_lacks Outcome = refl
verb_lacks Seal = refl
verb_lacks Deliver = refl
verb_lacks Fetch = refl
verb_lacks Work = refl
verb_lacks Publish = refl
verb_lacks Show = refl
verb_lacks Crash = refl
verb_lacks Restart = refl

-- each entry has its verb's text
abbrev AreWritten : List (List ℕ × Verb) → Type 0
AreWritten [] = Unit {0}
AreWritten (entry ∷ table) = (entry.0 ≡ verb_text entry.1) × AreWritten table

found_written : (table : List (List ℕ × Verb)) (word : List ℕ) (verb : Verb) → AreWritten table → verb_in table word ≡ Some verb → word ≡ verb_text verb
found_written [] word verb written is = cc
found_written (entry ∷ table) word verb written is = by (bytes_eq entry.0 word) refl (found_written table word verb written.1) is
  where
    by : (v : Bool) → bytes_eq entry.0 word ≡ v → (verb_in table word ≡ Some verb → word ≡ verb_text verb) → cond v (Some entry.1) (verb_in table word) ≡ Some verb →
        word ≡ verb_text verb
    by true same later found = let here : entry.1 ≡ verb = cc in sym ((bytes_eq-Decides entry.0 word).0 same) ∙ (written.0 ∙ ap verb_text here)
    by false other later found = later found

verbs_written : AreWritten verbs
unfolding verbs
verbs_written = (refl, (refl, (refl, (refl, (refl, (refl, (refl, (refl, (refl, (refl, tt))))))))))

verb_spelled : (word : List ℕ) (verb : Verb) → verb_of word ≡ Some verb → word ≡ verb_text verb
unfolding verb_of
verb_spelled word verb is = found_written verbs word verb verbs_written is

-- ---- lines that begin with a verb

pub behind_verb : (verb : Verb) (rest : List ℕ) → verb_and_rest (verb_text verb ++ 32 ∷ rest) ≡ Some (verb, rest)
unfolding verb_and_rest
behind_verb verb rest = rw (cut_at 32 (verb_text verb) rest (verb_lacks verb)) (rw (verb_read verb) refl)

pub verb_parts : (text : List ℕ) (parts : Verb × List ℕ) → verb_and_rest text ≡ Some parts → text ≡ verb_text parts.0 ++ 32 ∷ parts.1
unfolding verb_and_rest
verb_parts text parts is =
    let first = then_some _ (cut 32 text) parts is in
    let found = cut_parts 32 text first.0 first.1 in
    let second = then_some _ (verb_of first.0.0) parts first.2 in
    let same : (second.0, first.0.1) ≡ parts = cc in
    let word = verb_spelled first.0.0 second.0 second.1 in
    found.whole ∙ (ap (λ w. w ++ 32 ∷ first.0.1) word ∙ ap (λ (p : Verb × List ℕ). verb_text p.0 ++ 32 ∷ p.1) same)
