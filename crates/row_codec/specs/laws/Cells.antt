-- Laws: what reading cells tells.
use Rattle.std.proofs.Common.{◌≡◌, ℕ, ◌+◌, ◌<◌, ◌≤◌, true, false, eqb, ltb, List, [], ◌∷◌, ◌++◌, length, Ok, Err, refl, sym, ap, subst, inl, inr, arith}
use Rattle.std.specs.Prelude.{IsUtf8}
use Rattle.std.specs.Int.{w16, w64, cast_signed, cast_unsigned, to_be_bytes}
use Rattle.std.specs.Str.{is_utf8}
use Rattle.std.proofs.lemmas.Bool.{ltb-true, ltb-false, eqb-true, eqb-false, ne_eqb}
use Rattle.std.proofs.lemmas.Int.{to_z-of_z, of_z-to_z}
use Rattle.std.proofs.lemmas.Str.{IsUtf8-from_is_utf8, is_utf8-from_IsUtf8}
use Rattle.std.proofs.Math.Facts.{Fits-of_z, Fits-bits, sfits_to_z}
use Rattle.geo_base.specs.declared.cell.Cell.{Cell}
use Rattle.geo_base.specs.declared.cell.Cell.TheVariants.{Null, Int, Text, Truth}
use Rattle.geo_base.specs.declared.limits.TheConstants.{MAX_TEXT_BYTES}
use Rattle.geo_base.specs.Cells.{IsText}
use Rattle.geo_base.specs.laws.Results.{done, lost, ok_is, fault_is, not_done, bind_ok, failed, chosen}
use Rattle.row_codec.specs.declared.fault.CellReadFault.{CellReadFault}
use Rattle.row_codec.specs.declared.fault.CellReadFault.TheVariants.{Short, BadTag, BadUtf8, TooLong}
use Rattle.row_codec.specs.Faults.{IsTextFault, IsTaggedFault, IsFaultAt, IsFaultOfCells}
use Rattle.row_codec.specs.Fields.{IsCut, FieldStands, NumberStands}
use Rattle.row_codec.specs.inner.Fields.{field_at, byte_at, number_at}
use Rattle.row_codec.specs.Parts.{Keeps, Breaks}
use Rattle.row_codec.specs.Places.{AreBytes, StandsAt}
use Rattle.row_codec.specs.Spelling.{cell_spelling, cells_spelling, IsCell, CellStands, CellsStand}
use Rattle.row_codec.specs.inner.Reading.{length_at, content_at, text_at, int_cell_at, text_cell_at, tagged_at, cell_at, cells_at}
use Rattle.row_codec.specs.laws.Fields.{wide16, wide64, field_tells, byte_tells, number_tells}
use Rattle.row_codec.specs.laws.Places.{stands_together, front_stands, rest_stands, nothing_stands, nothing_between}
use Rattle.row_codec.specs.laws.Tells.{tells_done, tells_then, tells_kept, tells_broken, tells_rule}
use Rattle.geo_base.specs.laws.Answers.{Tells}
use Rattle.row_codec.specs.laws.Things.{IsList, IsBehind, things_tell}

module _ (bytes : List ℕ) where
  -- ---- texts

  abbrev IsShort : ℕ → Type 0
  IsShort count = count ≤ MAX_TEXT_BYTES

  abbrev LengthStands : ℕ → ℕ × ℕ → Type 0
  LengthStands at = Keeps (NumberStands w16 bytes at) IsShort

  abbrev ContentStands : ℕ → ℕ → List ℕ × ℕ → Type 0
  ContentStands count at = Keeps (FieldStands count bytes at) IsUtf8

  length_tells : (at : ℕ) → Tells (AreBytes bytes) (length_at bytes at) (LengthStands at) (Breaks (IsCut Short 2 bytes at) (NumberStands w16 bytes at) IsShort (TooLong at))
  unfolding length_at
  length_tells at =
      tells_rule (AreBytes bytes) (number_at Short w16 bytes at) _ (NumberStands w16 bytes at) (IsCut Short 2 bytes at) IsShort (TooLong at) (number_tells Short bytes at w16 wide16) (λ x.
      tells_broken (AreBytes bytes) (ltb MAX_TEXT_BYTES x.0) (IsShort x.0) (TooLong at) (done x) (λ y. x ≡ y) (λ _. ⊥) (λ h le. omega (arith, le, ltb-true _ _ h)) (λ h. ltb-false _ _ h) (tells_done (AreBytes bytes) x))

  content_tells : (count at : ℕ) → Tells (AreBytes bytes) (content_at count bytes at) (ContentStands count at) (Breaks (IsCut Short count bytes at) (FieldStands count bytes at) IsUtf8 (BadUtf8 at))
  unfolding content_at
  content_tells count at =
      tells_rule (AreBytes bytes) (field_at Short count bytes at) _ (FieldStands count bytes at) (IsCut Short count bytes at) IsUtf8 (BadUtf8 at) (field_tells Short bytes at count) (λ x.
      tells_kept (AreBytes bytes) (is_utf8 x.0) (IsUtf8 x.0) (BadUtf8 at) (done x) (λ y. x ≡ y) (λ _. ⊥) (λ h. IsUtf8-from_is_utf8 x.0 h) (λ h u. no_text x.0 h u) (tells_done (AreBytes bytes) x))
    where
      no_text : (text : List ℕ) → is_utf8 text ≡ false → IsUtf8 text → ⊥
      no_text text fails u = let holds = is_utf8-from_IsUtf8 text u in cc

  text_tells : (at : ℕ) → Tells (AreBytes bytes) (text_at bytes at) (λ y. (count : ℕ × ℕ) × LengthStands at count × ContentStands count.0 count.1 y) (IsTextFault bytes at)
  unfolding text_at
  text_tells at =
      tells_then (AreBytes bytes) (length_at bytes at) (λ count. content_at count.0 bytes count.1) (LengthStands at) (Breaks (IsCut Short 2 bytes at) (NumberStands w16 bytes at) IsShort (TooLong at))
      (λ count. ContentStands count.0 count.1) (λ count. Breaks (IsCut Short count.0 bytes count.1) (FieldStands count.0 bytes count.1) IsUtf8 (BadUtf8 count.1)) (length_tells at) (λ count _. content_tells count.0 count.1)

  text_stands : (at : ℕ) (x : List ℕ × ℕ) → AreBytes bytes → text_at bytes at ≡ Ok x → StandsAt (to_be_bytes w16 (length x.0) ++ x.0) bytes at x.1 × IsText x.0
  text_stands at x fits e =
      let (count, number, content) = (text_tells at).found fits x e in
      let together = stands_together (to_be_bytes w16 count.0) x.0 bytes at count.1 x.1 number.0.0 content.0.0 in
      (subst (λ (k : ℕ). StandsAt (to_be_bytes w16 k ++ x.0) bytes at x.1) (sym content.0.1) together, record { utf8 = content.1; few = omega (arith, number.1, content.0.1) })

  text_again : (text : List ℕ) (at next : ℕ) → IsText text → StandsAt (to_be_bytes w16 (length text) ++ text) bytes at next → text_at bytes at ≡ Ok (text, next)
  text_again text at next is_text stands =
      let number = front_stands (to_be_bytes w16 (length text)) text bytes at next stands in
      let content = rest_stands (to_be_bytes w16 (length text)) text bytes at next stands in
      let few : length text ≤ MAX_TEXT_BYTES = is_text.few in
      (text_tells at).only (text, next) ((length text, at + 2), ((number, omega (arith, few)), few), ((content, refl), is_text.utf8))

  -- ---- cells by tag

  int_stands : (at next : ℕ) (x : Cell × ℕ) → AreBytes bytes → StandsAt (1 ∷ []) bytes at next → int_cell_at bytes next ≡ Ok x → CellStands bytes at x
  unfolding int_cell_at
  int_stands at next x fits tag e =
      let b = bind_ok (number_at Short w64 bytes next) (λ number. Ok (Int (cast_signed w64 number.0), number.1)) x e in
      let number = (number_tells Short bytes next w64 wide64).found fits b.0 b.1 in
      let back : cast_unsigned w64 (cast_signed w64 b.0.0) ≡ b.0.0 = of_z-to_z w64 b.0.0 number.1 in
      let together = stands_together (1 ∷ []) (to_be_bytes w64 b.0.0) bytes at next b.0.1 tag number.0 in
      subst (CellStands bytes at) (ok_is (Int (cast_signed w64 b.0.0), b.0.1) x b.2)
      (sfits_to_z (Fits-bits 64 tt number.1), subst (λ (k : ℕ). StandsAt (1 ∷ to_be_bytes w64 k) bytes at b.0.1) (sym back) together)

  text_cell_stands : (at next : ℕ) (x : Cell × ℕ) → AreBytes bytes → StandsAt (2 ∷ []) bytes at next → text_cell_at bytes next ≡ Ok x → CellStands bytes at x
  unfolding text_cell_at
  text_cell_stands at next x fits tag e =
      let b = bind_ok (text_at bytes next) (λ text. Ok (Text text.0, text.1)) x e in
      let text = text_stands next b.0 fits b.1 in
      subst (CellStands bytes at) (ok_is (Text b.0.0, b.0.1) x b.2) (text.1, stands_together (2 ∷ []) _ bytes at next b.0.1 tag text.0)

  tagged_stands : (tag at next : ℕ) (x : Cell × ℕ) → AreBytes bytes → StandsAt (tag ∷ []) bytes at next → tagged_at tag bytes at next ≡ Ok x → CellStands bytes at x
  unfolding tagged_at
  tagged_stands tag at next x fits stands e =
      elim (chosen (eqb tag 0) _ _ _ e) [
        | inl h ↦ subst (CellStands bytes at) (ok_is (Null, next) x h.1) (tt, at_tag 0 h.0)
        | inr e1 ↦ elim (chosen (eqb tag 1) _ _ _ e1.1) [
          | inl h ↦ int_stands at next x fits (at_tag 1 h.0) h.1
          | inr e2 ↦ elim (chosen (eqb tag 2) _ _ _ e2.1) [
            | inl h ↦ text_cell_stands at next x fits (at_tag 2 h.0) h.1
            | inr e3 ↦ elim (chosen (eqb tag 3) _ _ _ e3.1) [
              | inl h ↦ subst (CellStands bytes at) (ok_is (Truth false, next) x h.1) (tt, at_tag 3 h.0)
              | inr e4 ↦ elim (chosen (eqb tag 4) _ _ _ e4.1) [
                | inl h ↦ subst (CellStands bytes at) (ok_is (Truth true, next) x h.1) (tt, at_tag 4 h.0)
                | inr e5 ↦ not_done x (BadTag at) (sym e5.1)
              ]
            ]
          ]
        ]
      ]
    where
      at_tag : (k : ℕ) → eqb tag k ≡ true → StandsAt (k ∷ []) bytes at next
      at_tag k h = subst (λ (n : ℕ). StandsAt (n ∷ []) bytes at next) (eqb-true tag k h) stands

  tagged_fault : (tag at next : ℕ) (e : CellReadFault) → AreBytes bytes → tagged_at tag bytes at next ≡ Err e → IsTaggedFault tag bytes at next e
  unfolding tagged_at int_cell_at text_cell_at
  tagged_fault tag at next e fits h =
      elim (chosen (eqb tag 0) _ _ _ h) [
        | inl c0 ↦ not_done (Null, next) e c0.1
        | inr c0 ↦ elim (chosen (eqb tag 1) _ _ _ c0.1) [
          | inl c1 ↦ inl (eqb-true tag 1 c1.0, elim (failed (number_at Short w64 bytes next) _ e c1.1) [ inl c ↦ (number_tells Short bytes next w64 wide64).cause fits e c | inr c ↦ not_done (Int (cast_signed w64 c.0.0), c.0.1) e c.2 ])
          | inr c1 ↦ elim (chosen (eqb tag 2) _ _ _ c1.1) [
            | inl c2 ↦ inr (inl (eqb-true tag 2 c2.0, elim (failed (text_at bytes next) _ e c2.1) [ inl c ↦ (text_tells next).cause fits e c | inr c ↦ not_done (Text c.0.0, c.0.1) e c.2 ]))
            | inr c2 ↦ elim (chosen (eqb tag 3) _ _ _ c2.1) [
              | inl c3 ↦ not_done (Truth false, next) e c3.1
              | inr c3 ↦ elim (chosen (eqb tag 4) _ _ _ c3.1) [
                | inl c4 ↦ not_done (Truth true, next) e c4.1
                | inr c4 ↦ inr (inr (above_four tag (eqb-false tag 0 c0.0) (eqb-false tag 1 c1.0) (eqb-false tag 2 c2.0) (eqb-false tag 3 c3.0) (eqb-false tag 4 c4.0), sym (fault_is {A = Cell × ℕ} (BadTag at) e c4.1)))
              ]
            ]
          ]
        ]
      ]
    where
      above_four : (n : ℕ) → (n ≡ 0 → ⊥) → (n ≡ 1 → ⊥) → (n ≡ 2 → ⊥) → (n ≡ 3 → ⊥) → (n ≡ 4 → ⊥) → 4 < n
      above_four n h0 h1 h2 h3 h4 = omega arith

  tagged_refused : (tag at next : ℕ) (e : CellReadFault) → IsTaggedFault tag bytes at next e → tagged_at tag bytes at next ≡ Err e
  unfolding tagged_at int_cell_at text_cell_at
  tagged_refused tag at next e (inl h) = rw (h.0, (number_tells Short bytes next w64 wide64).refused e h.1) refl
  tagged_refused tag at next e (inr (inl h)) = rw (h.0, (text_tells next).refused e h.1) refl
  tagged_refused tag at next e (inr (inr h)) =
      let no : (k : ℕ) → k ≤ 4 → eqb tag k ≡ false = λ k le. ne_eqb tag k (λ same. omega (arith, h.0, same, le)) in
      rw (no 0 (omega arith), no 1 (omega arith), no 2 (omega arith), no 3 (omega arith), no 4 (omega arith)) (ap lost (sym h.1))

  -- ---- whole cells

  cell_again : (at next : ℕ) (c : Cell) → IsCell c → StandsAt (cell_spelling c) bytes at next → cell_at bytes at ≡ Ok (c, next)
  unfolding cell_at tagged_at int_cell_at text_cell_at
  cell_again at next Null is_cell stands = rw ((byte_tells Short bytes at).only (0, next) stands) refl
  cell_again at next (Truth false) is_cell stands = rw ((byte_tells Short bytes at).only (3, next) stands) refl
  cell_again at next (Truth true) is_cell stands = rw ((byte_tells Short bytes at).only (4, next) stands) refl
  cell_again at next (Int z) is_cell stands =
      let spelled = to_be_bytes w64 (cast_unsigned w64 z) in
      let tag = (byte_tells Short bytes at).only (1, at + 1) (front_stands (1 ∷ []) spelled bytes at next stands) in
      let number = (number_tells Short bytes (at + 1) w64 wide64).only (cast_unsigned w64 z, next) (rest_stands (1 ∷ []) spelled bytes at next stands, omega (arith, Fits-of_z {w = w64} is_cell)) in
      rw (tag, number) (ap (λ y. done (Int y, next)) (to_z-of_z w64 z is_cell))
  cell_again at next (Text text) is_cell stands =
      let tag = (byte_tells Short bytes at).only (2, at + 1) (front_stands (2 ∷ []) _ bytes at next stands) in
      rw (tag, text_again text (at + 1) next is_cell (rest_stands (2 ∷ []) _ bytes at next stands)) refl

  -- a cell is read exactly where it stands, and a fault is given exactly where the bytes have it
  pub cell_tells : (at : ℕ) → Tells (AreBytes bytes) (cell_at bytes at) (CellStands bytes at) (IsFaultAt bytes at)
  unfolding cell_at
  cell_tells at = record {
    found = λ fits x e. let b = bind_ok (byte_at Short bytes at) (λ tag. tagged_at tag.0 bytes at tag.1) x e in tagged_stands b.0.0 at b.0.1 x fits ((byte_tells Short bytes at).found fits b.0 b.1) b.2;
    only = λ x s. cell_again at x.1 x.0 s.0 s.1;
    cause = λ fits e h. elim (failed (byte_at Short bytes at) (λ tag. tagged_at tag.0 bytes at tag.1) e h) [
      | inl c ↦ inl ((byte_tells Short bytes at).cause fits e c)
      | inr c ↦ inr (c.0, (byte_tells Short bytes at).found fits c.0 c.1, tagged_fault c.0.0 at c.0.1 e fits c.2)
    ];
    refused = λ e h. elim h [
      | inl c ↦ rw ((byte_tells Short bytes at).refused e c) refl
      | inr c ↦ rw ((byte_tells Short bytes at).only c.0 c.1) (tagged_refused c.0.0 at c.0.1 e c.2)
    ];
  }

  -- ---- cells one after another

  cells_list : IsList {S = Unit {0}} (λ state _. state) (λ _. CellStands bytes) (λ _. CellsStand bytes)
  cells_list = record {
    none = λ _ at. (tt, nothing_stands bytes at);
    no_more = λ _ at next s. nothing_between bytes at next s.1;
    some = λ _ at middle next x xs first others. ((first.0, others.0), stands_together (cell_spelling x) (cells_spelling xs) bytes at middle next first.1 others.1);
    parts = λ _ at next x xs s. (at + length (cell_spelling x), (s.0.0, front_stands (cell_spelling x) (cells_spelling xs) bytes at next s.1), (s.0.1, rest_stands (cell_spelling x) (cells_spelling xs) bytes at next s.1));
  }

  nothing_behind : IsBehind {S = Unit {0}} {A = Cell} (λ state _. state) (λ state _. state)
  nothing_behind = record { none = λ state. refl; some = λ state x xs. refl }

  pub cells_tell : (at count : ℕ) → Tells (AreBytes bytes) (cells_at bytes at count) (λ x. (length x.0 ≡ count) × CellsStand bytes at x) (IsFaultOfCells bytes at count)
  cells_tell at count = things_tell (λ _. cell_at) (λ state _. state) (λ state _. state) bytes (AreBytes bytes) (λ _. CellStands bytes) (λ _. IsFaultAt bytes) (λ _. CellsStand bytes) (λ _ place. cell_tells place) cells_list nothing_behind count (tt {0}) at
