-- Laws: how the kinds of byte lie to each other.
use Rattle.std.proofs.Common.{◌≡◌, ◌<◌, ℕ, true, false, refl, arith}
use Rattle.std.proofs.lemmas.Bool.Decides.{nat_tests}
use Rattle.std.specs.Char.{is_ascii_digit}
use Rattle.sql_lex.specs.Bytes.{begins_word, is_in_word}

pub in_word_ascii : (b : ℕ) → is_in_word b ≡ true → b < 128
unfolding is_in_word
in_word_ascii b h = grind (arith, nat_tests)

pub begins-in_word : (b : ℕ) → begins_word b ≡ true → is_in_word b ≡ true
unfolding begins_word is_in_word
begins-in_word b h = grind (arith, nat_tests)

pub digit-begins_no_word : (b : ℕ) → is_ascii_digit b ≡ true → begins_word b ≡ false
unfolding begins_word
digit-begins_no_word b h = grind (arith, nat_tests)

pub outside_words : (b : ℕ) → begins_word b ≡ false → is_ascii_digit b ≡ false → is_in_word b ≡ false
unfolding begins_word is_in_word
outside_words b h k = grind (arith, nat_tests)

pub outside-begins_no_word : (b : ℕ) → is_in_word b ≡ false → begins_word b ≡ false
unfolding begins_word is_in_word
outside-begins_no_word b h = grind (arith, nat_tests)

pub outside-no_digit : (b : ℕ) → is_in_word b ≡ false → is_ascii_digit b ≡ false
unfolding is_in_word
outside-no_digit b h = grind (arith, nat_tests)

pub zero-no_word : is_in_word 0 ≡ false
unfolding is_in_word
zero-no_word = refl
