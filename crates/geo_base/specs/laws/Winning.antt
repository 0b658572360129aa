-- Laws: the order of winning is strict, total on claims that differ, and the order of the words.
use Rattle.std.proofs.Common.{◌≡◌, true, false, ◌∙◌, arith}
use Rattle.std.specs.Prelude.{nat_lt}
use Rattle.std.proofs.lemmas.Bool.Decides.{nat_tests}
use Rattle.geo_base.specs.declared.claim.Claim.{Claim}
use Rattle.geo_base.specs.Claims.{beats, word_of, IsClaim}

-- nothing beats itself
pub beats_irreflexive : (a : Claim) → beats a a ≡ false
unfolding beats
beats_irreflexive a = grind (arith, nat_tests)

-- what beats a claim that beats a third one beats that one
pub beats_transitive : (a b c : Claim) → beats a b ≡ true → beats b c ≡ true → beats a c ≡ true
unfolding beats
beats_transitive a b c h k = grind (arith, nat_tests)

-- of two claims of which neither beats the other, both are one
pub beats_total : (a b : Claim) → beats a b ≡ false → beats b a ≡ false → a ≡ b
unfolding beats
beats_total a b h k =
    let start : a.start ≡ b.start = grind (arith, nat_tests) in
    let csn : a.csn ≡ b.csn = grind (arith, nat_tests) in
    let region : a.region ≡ b.region = grind (arith, nat_tests) in
    λ i. record { start = start i; csn = csn i; region = region i }

-- the winner has the greater word
pub beats_word : (a b : Claim) → IsClaim a → IsClaim b → beats a b ≡ nat_lt (word_of b) (word_of a)
unfolding beats word_of
beats_word a b h k = grind (arith, nat_tests)

-- no two claims have one word
pub word_of_injective : (a b : Claim) → IsClaim a → IsClaim b → word_of a ≡ word_of b → a ≡ b
word_of_injective a b h k e =
    let below : nat_lt (word_of b) (word_of a) ≡ false = grind (arith, nat_tests) in
    let above : nat_lt (word_of a) (word_of b) ≡ false = grind (arith, nat_tests) in
    beats_total a b (beats_word a b h k ∙ below) (beats_word b a k h ∙ above)
