-- Laws: a field that is read stands at the place, one that stands there is read, and one is cut off exactly where reading says so.
use Rattle.std.proofs.Common.{◌≡◌, ℕ, ◌+◌, ◌-◌, ◌*◌, ◌^◌, ◌<◌, ◌≤◌, ltb, List, [], ◌∷◌, ◌++◌, length, get_or, take, drop, Ok, refl, sym, ap, subst, ◌∙◌, ◌⊎◌, inl, inr, arith}
use Rattle.std.specs.Int.{Width, w16, w32, w64, byte_len, from_be_bytes, to_be_bytes}
use Rattle.std.proofs.lemmas.Bool.{cases_lt, ltb-true, ltb-false}
use Rattle.std.proofs.lemmas.List.{take_at, drop-drop, take-append-drop, length-append, length-take, length-drop}
use Rattle.std.proofs.lemmas.Nat.{be_bytes_2, be_bytes_4, be_bytes_8, from_be_bytes-to_be_bytes_2, from_be_bytes-to_be_bytes_4, from_be_bytes-to_be_bytes_8}
use Rattle.geo_base.specs.laws.Results.{done}
use Rattle.row_codec.specs.Fields.{IsCut, FieldStands, ByteStands, NumberStands}
use Rattle.row_codec.specs.inner.Fields.{field_at, byte_at, number_at}
use Rattle.row_codec.specs.Parts.{FirstOrLater}
use Rattle.row_codec.specs.Places.{AreBytes, StandsAt}
use Rattle.row_codec.specs.laws.Places.{part_of_bytes}
use Rattle.row_codec.specs.laws.Tells.{tells_as, tells_done, tells_then, tells_broken}
use Rattle.geo_base.specs.laws.Answers.{Tells}

single : (xs : List ℕ) → length xs ≡ 1 → xs ≡ get_or xs 0 0 ∷ []
single [] e = absurd (omega arith)
single (x ∷ []) e = refl
single (x ∷ y ∷ xs) e = absurd (omega arith)

-- ---- numbers

-- numbers of a width have one spelling each
pub record IsWide (w : Width) : Type 0 where
  pub len : (n : ℕ) → length (to_be_bytes w n) ≡ byte_len w
  pub back : (bytes : List ℕ) → length bytes ≡ byte_len w → AreBytes bytes → to_be_bytes w (from_be_bytes w bytes) ≡ bytes
  pub again : (n : ℕ) → n < 2 ^ (8 * byte_len w) → from_be_bytes w (to_be_bytes w n) ≡ n
  pub below : (bytes : List ℕ) → AreBytes bytes → from_be_bytes w bytes < 2 ^ (8 * byte_len w)

pub wide16 : IsWide w16
wide16 = record {
  len = λ n. refl;
  back = λ bytes len fits. be_bytes_2 bytes _ len fits refl;
  again = λ n lt. from_be_bytes-to_be_bytes_2 n lt;
  below = λ bytes fits. omega (arith, fits 0, fits 1);
}

pub wide32 : IsWide w32
wide32 = record {
  len = λ n. refl;
  back = λ bytes len fits. be_bytes_4 bytes _ len fits refl;
  again = λ n lt. from_be_bytes-to_be_bytes_4 n lt;
  below = λ bytes fits. omega (arith, fits 0, fits 1, fits 2, fits 3);
}

pub wide64 : IsWide w64
wide64 = record {
  len = λ n. refl;
  back = λ bytes len fits. be_bytes_8 bytes _ len fits refl;
  again = λ n lt. from_be_bytes-to_be_bytes_8 n lt;
  below = λ bytes fits. omega (arith, fits 0, fits 1, fits 2, fits 3, fits 4, fits 5, fits 6, fits 7);
}

-- ---- what reading tells

module _ {E : Type 0} (short : ℕ → E) (bytes : List ℕ) (at : ℕ) where
  -- a field, read where so many bytes are left
  taken : (count : ℕ) → List ℕ × ℕ
  taken count = (take count (drop at bytes), at + count)

  field_there : (count : ℕ) (x : List ℕ × ℕ) → count ≤ length bytes - at → taken count ≡ x → FieldStands count bytes at x
  unfolding taken
  field_there count x long e =
      let len : length (take count (drop at bytes)) ≡ count = omega (arith, length-take count (drop at bytes), length-drop at bytes) in
      let stands : StandsAt (take count (drop at bytes)) bytes at (at + count) = record {
        parts = sym (take-append-drop count (drop at bytes)) ∙ ap (λ (t : List ℕ). take count (drop at bytes) ++ t) (drop-drop count at bytes);
        behind = omega arith;
      } in
      subst (FieldStands count bytes at) e (stands, len)

  field_left : (count : ℕ) (x : List ℕ × ℕ) → FieldStands count bytes at x → count ≤ length bytes - at
  field_left count x field = omega (arith, length-drop at bytes, length-append x.0 (drop x.1 bytes), ap length field.0.parts, field.1)

  field_is : (count : ℕ) (x : List ℕ × ℕ) → FieldStands count bytes at x → taken count ≡ x
  unfolding taken
  field_is count x field =
      let front : take count (drop at bytes) ≡ x.0 = ap (take count) field.0.parts ∙ take_at x.0 (drop x.1 bytes) count field.1 in
      let behind : at + count ≡ x.1 = omega (arith, field.0.behind, field.1) in
      pair front behind
    where
      pair : {a c : List ℕ} {b d : ℕ} → a ≡ c → b ≡ d → ◌≡◌ {A = List ℕ × ℕ} (a, b) (c, d)
      pair e f = cc

  pub field_tells : (count : ℕ) → Tells (AreBytes bytes) (field_at short count bytes at) (FieldStands count bytes at) (IsCut short count bytes at)
  unfolding field_at taken
  field_tells count =
      tells_as (AreBytes bytes) (λ x. (count ≤ length bytes - at) × (taken count ≡ x)) (FieldStands count bytes at) (λ e. ((¬ (count ≤ length bytes - at)) × (e ≡ short (length bytes))) ⊎ ((count ≤ length bytes - at) × ⊥)) (IsCut short count bytes at)
      (tells_broken (AreBytes bytes) (ltb (length bytes - at) count) (count ≤ length bytes - at) (short (length bytes)) (done (taken count)) (λ x. taken count ≡ x) (λ _. ⊥)
      (λ h le. omega (arith, le, ltb-true _ _ h)) (λ h. ltb-false _ _ h) (tells_done (AreBytes bytes) (taken count)))
      (λ _ x s. field_there count x s.0 s.1) (λ x s. (field_left count x s, field_is count x s))
      (λ _ e h. elim h [ inl c ↦ (below c.0, c.1) | inr c ↦ absurd c.1 ]) (λ e h. inl (λ le. omega (arith, le, h.0), h.1))
    where
      below : ¬ (count ≤ length bytes - at) → length bytes - at < count
      below few = elim (cases_lt (length bytes - at) count) [ inl lt ↦ lt | inr le ↦ absurd (few le) ]

  pub byte_tells : Tells (AreBytes bytes) (byte_at short bytes at) (ByteStands bytes at) (IsCut short 1 bytes at)
  unfolding byte_at
  byte_tells =
      tells_as (AreBytes bytes) (λ y. (x : List ℕ × ℕ) × FieldStands 1 bytes at x × ((get_or x.0 0 0, x.1) ≡ y)) (ByteStands bytes at) (λ e. FirstOrLater (IsCut short 1 bytes at e) (FieldStands 1 bytes at) (λ x. ⊥)) (IsCut short 1 bytes at)
      (tells_then (AreBytes bytes) (field_at short 1 bytes at) (λ field. Ok (get_or field.0 0 0, field.1)) (FieldStands 1 bytes at) (IsCut short 1 bytes at) (λ x y. (get_or x.0 0 0, x.1) ≡ y) (λ _ _. ⊥)
      (field_tells 1) (λ x _. tells_done (AreBytes bytes) (get_or x.0 0 0, x.1)))
      (λ _ y s. subst (ByteStands bytes at) s.2 (subst (λ (t : List ℕ). StandsAt t bytes at s.0.1) (single s.0.0 s.1.1) s.1.0)) (λ y s. ((y.0 ∷ [], y.1), (s, refl), refl))
      (λ _ e h. elim h [ inl c ↦ c | inr c ↦ absurd c.2 ]) (λ e h. inl h)

  -- the number of a field that stands there
  pub number_of_field : (w : Width) → IsWide w → AreBytes bytes → (x : List ℕ × ℕ) → FieldStands (byte_len w) bytes at x → NumberStands w bytes at (from_be_bytes w x.0, x.1)
  unfolding taken
  number_of_field w wide fits x field =
      let whole : taken (byte_len w) ≡ x = field_is (byte_len w) x field in
      let are : AreBytes x.0 = subst (λ (y : List ℕ × ℕ). AreBytes y.0) whole (part_of_bytes (byte_len w) at bytes fits) in
      (subst (λ (t : List ℕ). StandsAt t bytes at x.1) (sym (wide.back x.0 field.1 are)) field.0, wide.below x.0 are)

  pub number_tells : (w : Width) → IsWide w → Tells (AreBytes bytes) (number_at short w bytes at) (NumberStands w bytes at) (IsCut short (byte_len w) bytes at)
  unfolding number_at
  number_tells w wide =
      tells_as (AreBytes bytes) (λ y. (x : List ℕ × ℕ) × FieldStands (byte_len w) bytes at x × ((from_be_bytes w x.0, x.1) ≡ y)) (NumberStands w bytes at) (λ e. FirstOrLater (IsCut short (byte_len w) bytes at e) (FieldStands (byte_len w) bytes at) (λ x. ⊥)) (IsCut short (byte_len w) bytes at)
      (tells_then (AreBytes bytes) (field_at short (byte_len w) bytes at) (λ field. Ok (from_be_bytes w field.0, field.1)) (FieldStands (byte_len w) bytes at) (IsCut short (byte_len w) bytes at) (λ x y. (from_be_bytes w x.0, x.1) ≡ y) (λ _ _. ⊥)
      (field_tells (byte_len w)) (λ x _. tells_done (AreBytes bytes) (from_be_bytes w x.0, x.1)))
      (λ fits y s. subst (NumberStands w bytes at) s.2 (number_of_field w wide fits s.0 s.1))
      (λ y s. ((to_be_bytes w y.0, y.1), (s.0, wide.len y.0), ap (λ (n : ℕ). (n, y.1)) (wide.again y.0 s.1)))
      (λ _ e h. elim h [ inl c ↦ c | inr c ↦ absurd c.2 ]) (λ e h. inl h)
