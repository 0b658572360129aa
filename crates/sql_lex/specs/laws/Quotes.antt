-- Laws: the content of a text between quotes is what its doubled quotes say.
use Rattle.std.proofs.Common.{◌≡◌, ◌+◌, ◌==◌, ℕ, suc, Bool, true, false, cond, List, [], ◌∷◌, ◌++◌, length, drop, get_or, Option, Some, None, option_map, refl, sym, ap, ◌∙◌, subst, arith, eqb-true, ne_eqb, false-eqb}
use Rattle.sql_lex.specs.inner.Quoted.{with_byte, content}
use Rattle.geo_base.specs.Texts.{doubled}

-- these bytes of content, which take n bytes, and then more
abbrev pub after : List ℕ → ℕ → Option (List ℕ × ℕ) → Option (List ℕ × ℕ)
after xs n = option_map (λ t. (xs ++ t.0, t.1 + n))

-- ---- one step of reading

pub plain_first : (b : ℕ) (z : List ℕ) → (b == 39) ≡ false → content (b ∷ z) ≡ with_byte b 1 (content z)
unfolding content
plain_first b [] e = rw e refl
plain_first b (c ∷ z) e = rw e refl

pub quote_closes : (z : List ℕ) → get_or z 0 0 ≡ 39 → (get_or (drop 1 z) 0 0 ≡ 39 → ⊥) → content z ≡ Some ([], 1)
unfolding content
quote_closes [] e other = absurd (omega arith)
quote_closes (b ∷ []) e other = rw e refl
quote_closes (b ∷ c ∷ z) e other = let f : (c == 39) ≡ false = ne_eqb c 39 other in rw (e, f) refl

pub quote_doubles : (z : List ℕ) → get_or z 0 0 ≡ 39 → get_or (drop 1 z) 0 0 ≡ 39 → content z ≡ after (39 ∷ []) 2 (content (drop 2 z))
unfolding content
quote_doubles [] e other = absurd (omega arith)
quote_doubles (b ∷ []) e other = absurd (omega arith)
quote_doubles (b ∷ c ∷ z) e other = rw (e, other) refl

-- ---- as it is spelled

-- the bytes are the content with its quotes doubled, a quote, and more that begins with no quote
pub record Closes (z : List ℕ) (t : List ℕ × ℕ) : Type 0 where
  pub more : List ℕ
  pub whole : z ≡ doubled t.0 ++ (39 ∷ more)
  pub len : t.1 ≡ length (doubled t.0) + 1
  pub stops : get_or more 0 0 ≡ 39 → ⊥

pub spelled : (bytes more : List ℕ) → (get_or more 0 0 ≡ 39 → ⊥) → content (doubled bytes ++ (39 ∷ more)) ≡ Some (bytes, length (doubled bytes) + 1)
spelled [] more other = quote_closes (39 ∷ more) refl other
spelled (b ∷ bytes) more other = by (b == 39) refl (spelled bytes more other)
  where
    by : (v : Bool) → (b == 39) ≡ v
        → content (doubled bytes ++ (39 ∷ more)) ≡ Some (bytes, length (doubled bytes) + 1)
        → content ((cond v (39 ∷ (39 ∷ [])) (b ∷ []) ++ doubled bytes) ++ (39 ∷ more)) ≡ Some (b ∷ bytes, length (cond v (39 ∷ (39 ∷ [])) (b ∷ []) ++ doubled bytes) + 1)
    by true e rest =
        let is : 39 ≡ b = sym (eqb-true b 39 e) in
        let n : length (doubled bytes) + 1 + 2 ≡ suc (suc (length (doubled bytes))) + 1 = omega arith in
        quote_doubles (39 ∷ (39 ∷ (doubled bytes ++ (39 ∷ more)))) refl refl ∙ ap (after (39 ∷ []) 2) rest ∙ (λ i. Some (is i ∷ bytes, n i))
    by false e rest =
        let n : length (doubled bytes) + 1 + 1 ≡ suc (length (doubled bytes)) + 1 = omega arith in
        plain_first b (doubled bytes ++ (39 ∷ more)) e ∙ ap (with_byte b 1) rest ∙ ap (λ m. Some (b ∷ bytes, m)) n

closes_byte : (b : ℕ) (z : List ℕ) (t : List ℕ × ℕ) → (b == 39) ≡ false → Closes z t → Closes (b ∷ z) (b ∷ t.0, t.1 + 1)
closes_byte b z t e c = record {
  more = c.more;
  whole = ap (λ l. b ∷ l) c.whole ∙ rw e refl;
  len = rw e (omega (arith, c.len));
  stops = c.stops;
}

closes_quote : (z : List ℕ) (t : List ℕ × ℕ) → Closes z t → Closes (39 ∷ (39 ∷ z)) (39 ∷ t.0, t.1 + 2)
closes_quote z t c = record {
  more = c.more;
  whole = ap (λ l. 39 ∷ (39 ∷ l)) c.whole;
  len = omega (arith, c.len);
  stops = c.stops;
}

-- what is found is spelled so
pub closes : (z : List ℕ) (t : List ℕ × ℕ) → content z ≡ Some t → Closes z t
unfolding content
closes [] t e = cc
closes (b ∷ []) t e = by (b == 39) refl e
  where
    by : (v : Bool) → (b == 39) ≡ v → cond v (Some ([], 1)) None ≡ Some t → Closes (b ∷ []) t
    by true is found =
        let eq : b ≡ 39 = eqb-true b 39 is in
        let t-is : ([], 1) ≡ t = cc in
        subst (Closes (b ∷ [])) t-is (record { more = []; whole = ap (λ c. c ∷ []) eq; len = refl; stops = λ h. omega arith })
    by false is found = cc
closes (b ∷ c ∷ z) t e = by (b == 39) refl (c == 39) refl e (closes z) (closes (c ∷ z))
  where
    doubles : (o : Option (List ℕ × ℕ)) → b ≡ 39 → c ≡ 39 → with_byte 39 2 o ≡ Some t → ((s : List ℕ × ℕ) → o ≡ Some s → Closes z s) → Closes (b ∷ c ∷ z) t
    doubles None b-is c-is found rest = cc
    doubles (Some s) b-is c-is found rest =
        let t-is : (39 ∷ s.0, s.1 + 2) ≡ t = cc in
        subst (Closes (b ∷ c ∷ z)) t-is (rw (b-is, c-is) (closes_quote z s (rest s refl)))

    goes_on : (o : Option (List ℕ × ℕ)) → (b == 39) ≡ false → with_byte b 1 o ≡ Some t → ((s : List ℕ × ℕ) → o ≡ Some s → Closes (c ∷ z) s) → Closes (b ∷ c ∷ z) t
    goes_on None is found rest = cc
    goes_on (Some s) is found rest =
        let t-is : (b ∷ s.0, s.1 + 1) ≡ t = cc in
        subst (Closes (b ∷ c ∷ z)) t-is (closes_byte b (c ∷ z) s is (rest s refl))

    by : (v : Bool) → (b == 39) ≡ v → (w : Bool) → (c == 39) ≡ w → cond v (cond w (with_byte 39 2 (content z)) (Some ([], 1))) (with_byte b 1 (content (c ∷ z))) ≡ Some t
        → ((s : List ℕ × ℕ) → content z ≡ Some s → Closes z s) → ((s : List ℕ × ℕ) → content (c ∷ z) ≡ Some s → Closes (c ∷ z) s) → Closes (b ∷ c ∷ z) t
    by true is true also found one other = doubles (content z) (eqb-true b 39 is) (eqb-true c 39 also) found one
    by true is false also found one other =
        let eq : b ≡ 39 = eqb-true b 39 is in
        let t-is : ([], 1) ≡ t = cc in
        subst (Closes (b ∷ c ∷ z)) t-is (record { more = c ∷ z; whole = ap (λ x. x ∷ (c ∷ z)) eq; len = refl; stops = false-eqb c 39 (sym also) })
    by false is w also found one other = goes_on (content (c ∷ z)) is found other
