-- Laws: what reading fields that have a rule tells.
use Rattle.std.proofs.Common.{◌≡◌, ℕ, ◌+◌, ◌≤◌, Bool, false, true, ◌&&◌, cond, eqb, ltb, leb, nat_eq, Option, Some, None, is_some, List, length, Ok, Err, refl, sym, ap, subst, ◌⊎◌, inl, inr}
use Rattle.std.specs.Bool.{Decides}
use Rattle.std.specs.Cmp.Lexicographic.{pointwise}
use Rattle.std.specs.Int.{w32}
use Rattle.std.proofs.lemmas.Bool.{both_ways, eqb-true, leb-true, le-leb}
use Rattle.std.proofs.lemmas.Bool.Decides.{Decides-ltb, Decides-eqb, Decides-and, Decides-not, not_from_Decides}
use Rattle.std.proofs.lemmas.Option.{none-some, same_Some}
use Rattle.geo_base.specs.declared.limits.TheConstants.{MAX_AGE, MAX_CANDIDATES, MAX_SET_ROWS, LAST_EPOCH}
use Rattle.geo_base.specs.Results.{Read, ◌>>=◌}
use Rattle.geo_base.specs.laws.Orders.{text_eq_decides}
use Rattle.geo_base.specs.laws.Results.{done, lost, ok_is, fault_is, not_done, chosen}
use Rattle.geo_schema.specs.Schemas.{Tables, table_numbered}
use Rattle.row_codec.specs.Fields.{IsCut, FieldStands, ByteStands, NumberStands}
use Rattle.row_codec.specs.inner.Fields.{field_at, byte_at, number_at}
use Rattle.row_codec.specs.Parts.{Keeps, Breaks}
use Rattle.row_codec.specs.Places.{AreBytes}
use Rattle.row_codec.specs.laws.Fields.{wide32, field_tells, byte_tells, number_tells}
use Rattle.row_codec.specs.laws.Tells.{tells_as, tells_done, tells_then, tells_kept, tells_rule}
use Rattle.geo_base.specs.laws.Answers.{Tells}
use Rattle.write_set.specs.Bounds.{IsCandidateCount, IsStartOf, IsRowCount}
use Rattle.set_codec.specs.declared.fault.CodecFault.{CodecFault}
use Rattle.set_codec.specs.declared.fault.CodecFault.TheVariants.{Short, BadTag, BadRow, BadStart, OverLimit, Trailing}
use Rattle.set_codec.specs.declared.fault.Limit.TheVariants as limit
use Rattle.set_codec.specs.declared.format.Format.{Format}
use Rattle.set_codec.specs.declared.format.Format.TheVariants as format
use Rattle.set_codec.specs.declared.kind.Kind.{Kind}
use Rattle.set_codec.specs.declared.kind.Kind.TheVariants as kind
use Rattle.set_codec.specs.Faults.{IsMarkFault, IsRegionFault, IsOtherFault, IsEpochFault, IsCountFault, IsStartFault, IsRowsFault, IsTableFault, IsKindFault, IsTrailing}
use Rattle.set_codec.specs.Rules.{IsMark, IsRegionOf, IsOther, IsSealable, IsTableOf, has_kind, IsKindByte, IsEnd}
use Rattle.set_codec.specs.Spelling.{mark}
use Rattle.set_codec.specs.Standing.{Names, MarkStands, RegionStands, OtherStands, EpochStands, CountStands, StartStands, RowsStand, TableStands, KindStands}
use Rattle.set_codec.specs.inner.Reading.{named_at, format_named, touch_in, kind_named, mark_at, region_at, is_other, other_at, epoch_at, count_at, start_at, rows_at, table_no_at, kind_at, end_at}

pub decides_le : (a b : ℕ) → Decides (leb a b) (a ≤ b)
decides_le a b = (leb-true a b, le-leb a b)

-- a rule that a test decides
pub decided : {A : Type 0} (Sound : Type 0) (x : A × ℕ) (b : Bool) (Rule : Type 0) (fault : CodecFault) → Decides b Rule →
    Tells Sound (cond b (done x) (lost fault)) (λ y. Rule × (x ≡ y)) (λ e. ((¬ Rule) × (e ≡ fault)) ⊎ (Rule × ⊥))
decided Sound x b Rule fault d = tells_kept Sound b Rule fault (done x) (λ y. x ≡ y) (λ _. ⊥) d.0 (not_from_Decides b d) (tells_done Sound x)

-- ---- what parts name

-- a search finds what keeps the rule
record Finds {B : Type 0} (found : Option B) (Rule : B → Type 0) : Type 0 where
  is : (x : B) → found ≡ Some x → Rule x
  only : (x : B) → Rule x → found ≡ Some x

-- a part that names something, or nothing
names_tell : {A B : Type 0} (Sound : Type 0) (r : Read CodecFault A) (P : A × ℕ → Type 0) (F : CodecFault → Type 0) (find : A → Option B) (Rule : A → B → Type 0) (fault : CodecFault) → Tells Sound r P F → ((part : A) → Finds (find part) (Rule part)) →
    Tells Sound (r >>= λ part. named_at (find part.0) part.1 fault) (Names P Rule) (Breaks F P (λ part. (x : B) × Rule part x) fault)
names_tell {A} {B} Sound r P F find Rule fault t finds =
    tells_as Sound (λ x. (part : A × ℕ) × P part × (Rule part.0 x.0 × (part.1 ≡ x.1))) (Names P Rule) (Breaks F P (λ part. (x : B) × Rule part x) fault) (Breaks F P (λ part. (x : B) × Rule part x) fault)
    (tells_then Sound r (λ part. named_at (find part.0) part.1 fault) P F (λ part x. Rule part.0 x.0 × (part.1 ≡ x.1)) (λ part e. (¬ ((x : B) × Rule part.0 x)) × (e ≡ fault)) t (λ part _. named part.1 (find part.0) (Rule part.0) (finds part.0)))
    (λ _ x s. (s.0.0, subst (λ (n : ℕ). P (s.0.0, n)) s.2.1 s.1, s.2.0)) (λ x s. ((s.0, x.1), s.1, (s.2, refl))) (λ _ e h. h) (λ e h. h)
  where
    named : (next : ℕ) (found : Option B) (Is : B → Type 0) → Finds found Is → Tells Sound (named_at found next fault) (λ x. Is x.0 × (next ≡ x.1)) (λ e. (¬ ((x : B) × Is x)) × (e ≡ fault))
    named next (Some b) Is f = record {
      found = λ _ x e. subst (λ (y : B × ℕ). Is y.0 × (next ≡ y.1)) (ok_is (b, next) x e) (f.is b refl, refl);
      only = λ x s. pair (same_Some b x.0 (f.only x.0 s.0)) s.1;
      cause = λ _ e h. not_done (b, next) e h;
      refused = λ e h. absurd (h.0 (b, f.is b refl));
    }
      where
        pair : {x : B × ℕ} → b ≡ x.0 → next ≡ x.1 → done {E = CodecFault} (b, next) ≡ done x
        pair e h = rw (e, h) refl
    named next None Is f = record {
      found = λ _ x e. not_done x fault (sym e);
      only = λ x s. absurd (none-some x.0 (f.only x.0 s.0));
      cause = λ _ e h. (λ s. none-some s.0 (f.only s.0 s.1), sym (fault_is {A = B × ℕ} fault e h));
      refused = λ e h. ap lost (sym h.1);
    }

-- each mark is that of one format
mark_found : (field : List ℕ) → Finds (format_named field) (IsMark field)
mark_found field = record { is = is; only = only }
  where
    is : (x : Format) → format_named field ≡ Some x → IsMark field x
    is x e = elim (chosen (pointwise nat_eq field (mark format.Ggb1)) _ _ _ e) [
      | inl h ↦ subst (IsMark field) (same_Some format.Ggb1 x h.1) ((text_eq_decides field (mark format.Ggb1)).0 h.0)
      | inr h ↦ elim (chosen (pointwise nat_eq field (mark format.Ggb2)) _ _ _ h.1) [
        | inl g ↦ subst (IsMark field) (same_Some format.Ggb2 x g.1) ((text_eq_decides field (mark format.Ggb2)).0 g.0)
        | inr g ↦ absurd (none-some x g.1)
      ]
    ]

    only : (x : Format) → IsMark field x → format_named field ≡ Some x
    only format.Ggb1 e = rw e refl
    only format.Ggb2 e = rw e refl

-- each byte is that of one kind, if the format has the kind
kind_found : (format : Format) (byte : ℕ) → Finds (kind_named format byte) (IsKindByte format byte)
kind_found of byte = record { is = is; only = only of }
  where
    puts : (f : Format) → has_kind f kind.Put ≡ true
    puts format.Ggb1 = refl
    puts format.Ggb2 = refl

    removes : (f : Format) → has_kind f kind.Remove ≡ true
    removes format.Ggb1 = refl
    removes format.Ggb2 = refl

    touches : (f : Format) (x : Kind) → byte ≡ 3 → touch_in f ≡ Some x → IsKindByte f byte x
    touches format.Ggb1 x h e = absurd (none-some x e)
    touches format.Ggb2 x h e = subst (IsKindByte format.Ggb2 byte) (same_Some kind.Touch x e) (h, refl)

    is : (x : Kind) → kind_named of byte ≡ Some x → IsKindByte of byte x
    is x e = elim (chosen (eqb byte 1) _ _ _ e) [
      | inl h ↦ subst (IsKindByte of byte) (same_Some kind.Put x h.1) (eqb-true byte 1 h.0, puts of)
      | inr h ↦ elim (chosen (eqb byte 2) _ _ _ h.1) [
        | inl g ↦ subst (IsKindByte of byte) (same_Some kind.Remove x g.1) (eqb-true byte 2 g.0, removes of)
        | inr g ↦ elim (chosen (eqb byte 3) _ _ _ g.1) [
          | inl d ↦ touches of x (eqb-true byte 3 d.0) d.1
          | inr d ↦ absurd (none-some x d.1)
        ]
      ]
    ]

    only : (f : Format) (x : Kind) → IsKindByte f byte x → kind_named f byte ≡ Some x
    only f kind.Put h = rw h.0 refl
    only f kind.Remove h = rw h.0 refl
    only format.Ggb1 kind.Touch h = absurd (both_ways false refl h.1)
    only format.Ggb2 kind.Touch h = rw h.0 refl

decides_other : (one : Option ℕ) (region : ℕ) → Decides (is_other one region) (IsOther one region)
decides_other None region = (λ _. tt, λ _. refl)
decides_other (Some one) region = Decides-not (eqb region one) (Decides-eqb region one)

module _ (bytes : List ℕ) where
  number_rule : (at : ℕ) (test : ℕ → Bool) (Rule : ℕ → Type 0) (fault : CodecFault) → ((n : ℕ) → Decides (test n) (Rule n)) →
      Tells (AreBytes bytes) (number_at Short w32 bytes at >>= λ x. cond (test x.0) (Ok x) (Err fault)) (Keeps (NumberStands w32 bytes at) Rule) (Breaks (IsCut Short 4 bytes at) (NumberStands w32 bytes at) Rule fault)
  number_rule at test Rule fault d =
      tells_rule (AreBytes bytes) (number_at Short w32 bytes at) (λ x. cond (test x.0) (Ok x) (Err fault)) (NumberStands w32 bytes at) (IsCut Short 4 bytes at) Rule fault (number_tells Short bytes at w32 wide32)
      (λ x. decided (AreBytes bytes) x (test x.0) (Rule x.0) fault (d x.0))

  byte_rule : (at : ℕ) (test : ℕ → Bool) (Rule : ℕ → Type 0) (fault : CodecFault) → ((n : ℕ) → Decides (test n) (Rule n)) →
      Tells (AreBytes bytes) (byte_at Short bytes at >>= λ x. cond (test x.0) (Ok x) (Err fault)) (Keeps (ByteStands bytes at) Rule) (Breaks (IsCut Short 1 bytes at) (ByteStands bytes at) Rule fault)
  byte_rule at test Rule fault d =
      tells_rule (AreBytes bytes) (byte_at Short bytes at) (λ x. cond (test x.0) (Ok x) (Err fault)) (ByteStands bytes at) (IsCut Short 1 bytes at) Rule fault (byte_tells Short bytes at)
      (λ x. decided (AreBytes bytes) x (test x.0) (Rule x.0) fault (d x.0))

  pub mark_tells : (at : ℕ) → Tells (AreBytes bytes) (mark_at bytes at) (MarkStands bytes at) (IsMarkFault bytes at)
  unfolding mark_at
  mark_tells at = names_tell (AreBytes bytes) (field_at Short 4 bytes at) (FieldStands 4 bytes at) (IsCut Short 4 bytes at) format_named IsMark (BadTag at) (field_tells Short bytes at 4) mark_found

  pub kind_tells : (format : Format) (at : ℕ) → Tells (AreBytes bytes) (kind_at format bytes at) (KindStands format bytes at) (IsKindFault format bytes at)
  unfolding kind_at
  kind_tells format at =
      names_tell (AreBytes bytes) (byte_at Short bytes at) (ByteStands bytes at) (IsCut Short 1 bytes at) (kind_named format) (IsKindByte format) (BadTag at) (byte_tells Short bytes at) (kind_found format)

  pub region_tells : (regions at : ℕ) → Tells (AreBytes bytes) (region_at regions bytes at) (RegionStands regions bytes at) (IsRegionFault regions bytes at)
  unfolding region_at
  region_tells regions at = byte_rule at (λ n. ltb n regions) (IsRegionOf regions) (BadTag at) (λ n. Decides-ltb n regions)

  pub other_tells : (regions : ℕ) (one : Option ℕ) (blamed at : ℕ) → Tells (AreBytes bytes) (other_at regions one blamed bytes at) (OtherStands regions one bytes at) (IsOtherFault regions one blamed bytes at)
  unfolding other_at
  other_tells regions one blamed at =
      tells_rule (AreBytes bytes) (region_at regions bytes at) (λ x. cond (is_other one x.0) (Ok x) (Err (BadTag blamed))) (RegionStands regions bytes at) (IsRegionFault regions bytes at) (IsOther one) (BadTag blamed) (region_tells regions at)
      (λ x. decided (AreBytes bytes) x (is_other one x.0) (IsOther one x.0) (BadTag blamed) (decides_other one x.0))

  pub epoch_tells : (at : ℕ) → Tells (AreBytes bytes) (epoch_at bytes at) (EpochStands bytes at) (IsEpochFault bytes at)
  unfolding epoch_at
  epoch_tells at = number_rule at (λ n. leb 1 n && ltb n LAST_EPOCH) IsSealable (BadTag at) (λ n. Decides-and (leb 1 n) (ltb n LAST_EPOCH) (decides_le 1 n) (Decides-ltb n LAST_EPOCH))

  pub count_tells : (at : ℕ) → Tells (AreBytes bytes) (count_at bytes at) (CountStands bytes at) (IsCountFault bytes at)
  unfolding count_at
  count_tells at = number_rule at (λ n. leb n MAX_CANDIDATES) IsCandidateCount (OverLimit at limit.Candidates) (λ n. decides_le n MAX_CANDIDATES)

  pub start_tells : (epoch at : ℕ) → Tells (AreBytes bytes) (start_at epoch bytes at) (StartStands epoch bytes at) (IsStartFault epoch bytes at)
  unfolding start_at
  start_tells epoch at =
      number_rule at (λ n. ltb n epoch && leb epoch (n + MAX_AGE)) (IsStartOf epoch) (BadStart at) (λ n. Decides-and (ltb n epoch) (leb epoch (n + MAX_AGE)) (Decides-ltb n epoch) (decides_le epoch (n + MAX_AGE)))

  pub rows_tell : (at : ℕ) → Tells (AreBytes bytes) (rows_at bytes at) (RowsStand bytes at) (IsRowsFault bytes at)
  unfolding rows_at
  rows_tell at = number_rule at (λ n. leb 1 n && leb n MAX_SET_ROWS) IsRowCount (OverLimit at limit.Rows) (λ n. Decides-and (leb 1 n) (leb n MAX_SET_ROWS) (decides_le 1 n) (decides_le n MAX_SET_ROWS))

  pub table_tells : (tables : Tables) (at : ℕ) → Tells (AreBytes bytes) (table_no_at tables bytes at) (TableStands tables bytes at) (IsTableFault tables bytes at)
  unfolding table_no_at
  table_tells tables at = byte_rule at (λ n. is_some (table_numbered tables n)) (IsTableOf tables) (BadRow at) (λ n. (λ h. h, λ h. h))

  -- ---- the end

  pub end_tells : {A : Type 0} (x : A) (at : ℕ) → Tells (AreBytes bytes) (end_at x bytes at) (λ y. IsEnd bytes at × (x ≡ y)) (IsTrailing bytes at)
  unfolding end_at
  end_tells x at =
      tells_as (AreBytes bytes) (λ y. IsEnd bytes at × (x ≡ y)) (λ y. IsEnd bytes at × (x ≡ y)) (λ e. ((¬ (IsEnd bytes at)) × (e ≡ Trailing at)) ⊎ (IsEnd bytes at × ⊥)) (IsTrailing bytes at)
      (tells_kept (AreBytes bytes) (leb (length bytes) at) (IsEnd bytes at) (Trailing at) (done x) (λ y. x ≡ y) (λ _. ⊥) (leb-true (length bytes) at) (not_from_Decides (leb (length bytes) at) (decides_le (length bytes) at)) (tells_done (AreBytes bytes) x))
      (λ _ y s. s) (λ y s. s) (λ _ e h. elim h [ inl c ↦ c | inr c ↦ absurd c.1 ]) (λ e h. inl h)
