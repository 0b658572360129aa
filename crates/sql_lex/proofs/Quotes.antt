-- The content of a text between quotes, read run by run.
use Rattle.std.proofs.Common.{◌≡◌, ◌<◌, ◌≤◌, ◌+◌, ◌-◌, ◌==◌, ℕ, suc, Bool, true, false, cond, not, List, [], ◌∷◌, ◌++◌, length, take, drop, get_or, Option, Some, None, nat_le, refl, sym, ap, ◌∙◌, subst, arith, append_assoc, length-append, length-drop, append-nil}
use Rattle.std.proofs.lemmas.Bool.Decides.{nat_tests}
use Rattle.std.proofs.lemmas.List.Sums.{prefix_len-le-length}
use Rattle.std.specs.List.{prefix_len}
use Rattle.geo_base.specs.declared.limits.TheConstants.{MAX_TEXT_BYTES}
use Rattle.sql_lex.specs.inner.Quoted.{is_plain, with_byte, content, if_short, short_content}
use Rattle.sql_lex.specs.laws.Quotes.{after, plain_first, quote_closes, quote_doubles}

after_none : (o : Option (List ℕ × ℕ)) → after [] 0 o ≡ o
after_none None = refl
after_none (Some t) = let e : t.1 + 0 ≡ t.1 = omega arith in ap (λ n. Some (t.0, n)) e

after_byte : (b : ℕ) (xs : List ℕ) (n : ℕ) (o : Option (List ℕ × ℕ)) → with_byte b 1 (after xs n o) ≡ after (b ∷ xs) (suc n) o
after_byte b xs n None = refl
after_byte b xs n (Some t) = let e : t.1 + n + 1 ≡ t.1 + suc n = omega arith in ap (λ m. Some (b ∷ (xs ++ t.0), m)) e

after_after : (xs ys : List ℕ) (n m : ℕ) (o : Option (List ℕ × ℕ)) → after xs n (after ys m o) ≡ after (xs ++ ys) (n + m) o
after_after xs ys n m None = refl
after_after xs ys n m (Some t) =
    let e : t.1 + m + n ≡ t.1 + (n + m) = omega arith in
    let f : xs ++ (ys ++ t.0) ≡ (xs ++ ys) ++ t.0 = sym (append_assoc xs ys t.0) in
    λ i. Some (f i, e i)

pub run_first : (z : List ℕ) → content z ≡ after (take (prefix_len is_plain z) z) (prefix_len is_plain z) (content (drop (prefix_len is_plain z) z))
run_first [] = sym (after_none (content []))
run_first (b ∷ z) = by (b == 39) refl (run_first z)
  where
    by : (v : Bool) → (b == 39) ≡ v
        → content z ≡ after (take (prefix_len is_plain z) z) (prefix_len is_plain z) (content (drop (prefix_len is_plain z) z))
        → content (b ∷ z) ≡ after (take (cond (not v) (1 + prefix_len is_plain z) 0) (b ∷ z)) (cond (not v) (1 + prefix_len is_plain z) 0) (content (drop (cond (not v) (1 + prefix_len is_plain z) 0) (b ∷ z)))
    by true e rest = sym (after_none (content (b ∷ z)))
    by false e rest =
        let n = prefix_len is_plain z in
        let one : suc n ≡ 1 + n = omega arith in
        subst (λ m. content (b ∷ z) ≡ after (take m (b ∷ z)) m (content (drop m (b ∷ z)))) one
        (plain_first b z e ∙ ap (with_byte b 1) rest ∙ after_byte b (take n z) n (content (drop n z)))

-- ---- the whole of it, some of which is read

-- of the whole these bytes of content are read, and the rest is left
pub record IsReadUpTo (whole done rest : List ℕ) : Type 0 where
  pub used : ℕ
  pub left : used + length rest ≡ length whole
  pub means : content whole ≡ after done used (content rest)

-- after the bytes up to the next quote
pub read_run : (whole done rest : List ℕ) → IsReadUpTo whole done rest → IsReadUpTo whole (done ++ take (prefix_len is_plain rest) rest) (drop (prefix_len is_plain rest) rest)
read_run whole done rest read =
    let n = prefix_len is_plain rest in
    let within : n ≤ length rest = prefix_len-le-length is_plain rest in
    record {
      used = read.used + n;
      left = omega (arith, length-drop n rest, read.left);
      means = read.means ∙ ap (after done read.used) (run_first rest) ∙ after_after done (take n rest) read.used n (content (drop n rest));
    }

-- the same, of lists that are those
pub read_run_at : (whole done rest plain from_quote : List ℕ) (n : ℕ) → IsReadUpTo whole done rest → n ≡ prefix_len is_plain rest → plain ≡ take n rest → from_quote ≡ drop n rest → IsReadUpTo whole (done ++ plain) from_quote
read_run_at whole done rest plain from_quote n read n-is plain-is from_quote-is =
    let front : plain ≡ take (prefix_len is_plain rest) rest = plain-is ∙ ap (λ m. take m rest) n-is in
    let back : from_quote ≡ drop (prefix_len is_plain rest) rest = from_quote-is ∙ ap (λ m. drop m rest) n-is in
    subst (λ l. IsReadUpTo whole (done ++ plain) l) (sym back) (subst (λ l. IsReadUpTo whole (done ++ l) (drop (prefix_len is_plain rest) rest)) (sym front) (read_run whole done rest read))

-- after a doubled quote
pub read_quotes : (whole done rest : List ℕ) → IsReadUpTo whole done rest → get_or rest 0 0 ≡ 39 → get_or (drop 1 rest) 0 0 ≡ 39 → IsReadUpTo whole (done ++ 39 ∷ []) (drop 1 (drop 1 rest))
read_quotes whole done [] read first second = absurd (omega arith)
read_quotes whole done (b ∷ []) read first second = absurd (omega arith)
read_quotes whole done (b ∷ c ∷ rest) read first second = record {
  used = read.used + 2;
  left = omega (arith, read.left);
  means = read.means ∙ ap (after done read.used) (quote_doubles (b ∷ c ∷ rest) first second) ∙ after_after done (39 ∷ []) read.used 2 (content rest);
}

-- nothing is left, and no quote came
pub unclosed : (whole done rest : List ℕ) → IsReadUpTo whole done rest → length rest ≡ 0 → short_content whole ≡ None
unfolding content
unclosed whole done [] read e = ap if_short read.means
unclosed whole done (b ∷ rest) read e = absurd (omega arith)

-- more was read than may be
pub too_long : (whole done rest : List ℕ) → IsReadUpTo whole done rest → MAX_TEXT_BYTES < length done → short_content whole ≡ None
too_long whole done rest read long = ap if_short read.means ∙ by (content rest)
  where
    by : (o : Option (List ℕ × ℕ)) → if_short (after done read.used o) ≡ None
    by None = refl
    by (Some t) =
        let over : nat_le (length (done ++ t.0)) MAX_TEXT_BYTES ≡ false = grind (arith, nat_tests, length-append done t.0) in
        rw over refl

-- the closing quote comes
pub closed : (whole done rest : List ℕ) → IsReadUpTo whole done rest → get_or rest 0 0 ≡ 39 → (get_or (drop 1 rest) 0 0 ≡ 39 → ⊥) → length done ≤ MAX_TEXT_BYTES → short_content whole ≡ Some (done, length whole - length (drop 1 rest))
closed whole done [] read first other few = absurd (omega arith)
closed whole done (b ∷ rest) read first other few =
    let means : content whole ≡ Some (done ++ [], 1 + read.used) = read.means ∙ ap (after done read.used) (quote_closes (b ∷ rest) first other) in
    let n : 1 + read.used ≡ length whole - length rest = omega (arith, read.left) in
    let short : nat_le (length done) MAX_TEXT_BYTES ≡ true = grind (arith, nat_tests) in
    ap if_short (means ∙ (λ i. Some (append-nil done i, n i))) ∙ rw short refl
