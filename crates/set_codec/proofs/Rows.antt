-- The row of the last change, and the change that is read behind it.
use Rattle.std.proofs.Common.{◌≡◌, ℕ, ◌-◌, Option, Some, List, [], ◌∷◌, ◌++◌, length, suc, Ok, refl, sym, ap, subst, ◌∙◌, arith}
use Rattle.std.specs.Option.{option_map}
use Rattle.std.specs.List.{slice_get}
use Rattle.geo_base.specs.declared.row_id.RowId.{RowId}
use Rattle.geo_base.specs.Results.{Fails}
use Rattle.geo_schema.specs.Schemas.{Tables}
use Rattle.write_set.specs.Sets.{ChangeOfRow}
use Rattle.set_codec.specs.declared.fault.CodecFault.{CodecFault}
use Rattle.set_codec.specs.declared.format.Format.{Format}
use Rattle.set_codec.specs.inner.Reading.{last_row, change_at}

pub last_pushed : (front : List ChangeOfRow) (c : ChangeOfRow) → last_row (front ++ c ∷ []) ≡ Some c.0
last_pushed [] c = refl
last_pushed (a ∷ []) c = refl
last_pushed (a ∷ b ∷ front) c = last_pushed (b ∷ front) c

pub last_got : (changes : List ChangeOfRow) → option_map (λ c. c.0) (slice_get changes (length changes - 1)) ≡ last_row changes
last_got [] = refl
last_got (a ∷ []) = refl
last_got (a ∷ b ∷ cs) =
    let one : length (a ∷ b ∷ cs) - 1 ≡ suc (length (b ∷ cs) - 1) = omega arith in
    subst (λ (n : ℕ). option_map (λ (c : ChangeOfRow). c.0) (slice_get (a ∷ b ∷ cs) n) ≡ last_row (b ∷ cs)) (sym one) (last_got (b ∷ cs))

pub last_is : (changes : List ChangeOfRow) (c : ChangeOfRow) → slice_get changes (length changes - 1) ≡ Some c → Some c.0 ≡ last_row changes
last_is changes c e = sym (ap (option_map (λ (d : ChangeOfRow). d.0)) e) ∙ last_got changes

module _ (format : Format) (tables : Tables) (bytes : List ℕ) (next : ℕ) (last : Option RowId) (front : List ChangeOfRow) where
  pub read_behind : (x : ChangeOfRow × ℕ) → last ≡ last_row front → change_at format tables last bytes next ≡ Ok x → change_at format tables (last_row front) bytes next ≡ Ok x
  read_behind x is e = subst (λ (o : Option RowId). change_at format tables o bytes next ≡ Ok x) is e

  pub fails_behind : (no_memory e : CodecFault) → last ≡ last_row front → Fails no_memory e (change_at format tables last bytes next) → Fails no_memory e (change_at format tables (last_row front) bytes next)
  fails_behind no_memory e is h = subst (λ (o : Option RowId). Fails no_memory e (change_at format tables o bytes next)) is h
