use Rattle.std.proofs.Common.{◌≡◌, ℕ, sym, subst, arith}
use Rattle.std.specs.Int.{w64, from_be_bytes}
use Rattle.row_codec.specs.Fields.{NumberStands}
use Rattle.row_codec.specs.laws.Fields.{wide64, number_of_field}
use Rattle.row_codec.proofs.fields.read_u64.Goals as goal

pub returns-clause-stands : goal.returns-clause-stands
returns-clause-stands g c =
    let stands : NumberStands w64 c.args.bytes.now c.args.at (from_be_bytes w64 c.in_ok-field.field.now, c.in_ok-field.next) =
    number_of_field (λ n. n) c.args.bytes.now c.args.at w64 wide64 (λ i. omega (arith, c.type_inv.bytes i)) (c.in_ok-field.field.now, c.in_ok-field.next) c.in_ok-field.ensures.stands in
    let same : from_be_bytes w64 c.in_ok-field.field.now ≡ c.from_be_bytes-number.result = sym c.from_be_bytes-number.ensures in
    subst (λ (n : ℕ). NumberStands w64 c.args.bytes.now c.args.at (n, c.in_ok-field.next)) same stands
