-- Laws: what reading packets tells, and that no spelling of one begins another's.
use Rattle.std.proofs.Common.{◌≡◌, ℕ, ◌<◌, ◌≤◌, cond, eqb, Some, List, [], ◌∷◌, ◌++◌, length, get_or, take, drop, Ok, Err, refl, sym, ap, subst, ◌∙◌, ◌⊎◌, inl, inr, arith}
use Rattle.std.specs.Int.{w32, from_be_bytes}
use Rattle.std.proofs.lemmas.Bool.{eqb-true, eqb-false, ne_eqb}
use Rattle.std.proofs.lemmas.Nat.{from_be_bytes-to_be_bytes_4}
use Rattle.geo_base.specs.declared.limits.TheConstants.{MAX_REGIONS, LAST_EPOCH}
use Rattle.geo_base.specs.laws.Results.{lost, fault_is, not_done, chosen}
use Rattle.geo_schema.specs.Schemas.{Tables, IsSchema}
use Rattle.row_codec.specs.Fields.{IsCut, ByteStands}
use Rattle.row_codec.specs.inner.Fields.{byte_at}
use Rattle.row_codec.specs.Parts.{FirstOrLater}
use Rattle.row_codec.specs.Places.{AreBytes, StandsAt}
use Rattle.row_codec.specs.laws.Fields.{byte_tells}
use Rattle.row_codec.specs.laws.Places.{stands_together, front_stands, rest_stands, whole_stands, rest_is}
use Rattle.row_codec.specs.laws.Tells.{tells_as, tells_done, tells_then}
use Rattle.geo_base.specs.laws.Answers.{Tells, one_answer}
use Rattle.write_set.specs.declared.batch.Batch.{Batch}
use Rattle.set_codec.specs.declared.fault.CodecFault.{CodecFault}
use Rattle.set_codec.specs.declared.fault.CodecFault.TheVariants.{Short, BadTag}
use Rattle.set_codec.specs.declared.packet.Packet.{Packet}
use Rattle.set_codec.specs.declared.packet.Packet.TheVariants as packet
use Rattle.set_codec.specs.Alone.{SpellsPacket, OnePacketOrFault, NoPacketBeginsAnother}
use Rattle.set_codec.specs.Faults.{IsRegionFault, IsOtherFault, IsEpochFault, IsTrailing, IsBatchFaultAt, IsFetchFault, IsPacketFaultAt, IsPacketFault}
use Rattle.set_codec.specs.Fits.{FitsPacket}
use Rattle.set_codec.specs.Rules.{IsEnd, IsPacketKind}
use Rattle.set_codec.specs.Spelling.{number_spelling, packet_spelling}
use Rattle.set_codec.specs.Standing.{RegionStands, OtherStands, EpochStands}
use Rattle.set_codec.specs.inner.Reading.{region_at, other_at, epoch_at, end_at, batch_at, batch_packet_at, fetch_packet_at, packet_at}
use Rattle.set_codec.specs.laws.Fields.{region_tells, other_tells, epoch_tells, end_tells}
use Rattle.set_codec.specs.laws.Batches.{LastStands, batch_tells, last_lawful, lawful_last, batch_alone}

module _ (bytes : List ℕ) (tables : Tables) (schema : IsSchema tables) (regions : ℕ) where
  -- ---- packets with a batch

  abbrev BatchStandsIn : ℕ → Packet → Type 0
  BatchStandsIn at p = (to : ℕ × ℕ) × RegionStands regions bytes at to × ((b : Batch) × LastStands bytes tables schema regions (Some to.0) to.1 b × (packet.Batch to.0 (drop to.1 bytes) ≡ p))

  abbrev BatchFaultIn : ℕ → CodecFault → Type 0
  BatchFaultIn at e = FirstOrLater (IsRegionFault regions bytes at e) (RegionStands regions bytes at) (λ to. IsBatchFaultAt tables regions (Some to.0) bytes to.1 e)

  batch_packet_tells : (at : ℕ) → Tells (AreBytes bytes) (batch_packet_at tables regions bytes at) (BatchStandsIn at) (BatchFaultIn at)
  unfolding batch_packet_at
  batch_packet_tells at =
      tells_then (AreBytes bytes) (region_at regions bytes at) _ (RegionStands regions bytes at) (IsRegionFault regions bytes at)
      (λ to p. (b : Batch) × LastStands bytes tables schema regions (Some to.0) to.1 b × (packet.Batch to.0 (drop to.1 bytes) ≡ p)) (λ to. IsBatchFaultAt tables regions (Some to.0) bytes to.1) (region_tells bytes regions at) (λ to _.
      tells_as (AreBytes bytes) (λ p. (b : Batch) × LastStands bytes tables schema regions (Some to.0) to.1 b × (packet.Batch to.0 (drop to.1 bytes) ≡ p)) (λ p. (b : Batch) × LastStands bytes tables schema regions (Some to.0) to.1 b × (packet.Batch to.0 (drop to.1 bytes) ≡ p))
      (λ e. FirstOrLater (IsBatchFaultAt tables regions (Some to.0) bytes to.1 e) (LastStands bytes tables schema regions (Some to.0) to.1) (λ _. ⊥)) (IsBatchFaultAt tables regions (Some to.0) bytes to.1)
      (tells_then (AreBytes bytes) (batch_at tables regions (Some to.0) bytes to.1) (λ _. Ok (packet.Batch to.0 (drop to.1 bytes))) (LastStands bytes tables schema regions (Some to.0) to.1) (IsBatchFaultAt tables regions (Some to.0) bytes to.1)
      (λ _ p. packet.Batch to.0 (drop to.1 bytes) ≡ p) (λ _ _. ⊥) (batch_tells bytes tables schema regions (Some to.0) to.1) (λ _ _. tells_done (AreBytes bytes) (packet.Batch to.0 (drop to.1 bytes))))
      (λ _ p s. s) (λ p s. s) (λ _ e h. elim h [ inl c ↦ c | inr c ↦ absurd c.2 ]) (λ e h. inl h))

  -- ---- questions

  abbrev FetchStandsAt : ℕ → Packet → Type 0
  FetchStandsAt at p =
      (from : ℕ × ℕ) × RegionStands regions bytes at from × ((to : ℕ × ℕ) × OtherStands regions (Some from.0) bytes from.1 to × ((epoch : ℕ × ℕ) × EpochStands bytes to.1 epoch × (IsEnd bytes epoch.1 × (packet.Fetch from.0 to.0 epoch.0 ≡ p))))

  fetch_packet_tells : (at : ℕ) → Tells (AreBytes bytes) (fetch_packet_at regions bytes at) (FetchStandsAt at) (IsFetchFault regions bytes at)
  unfolding fetch_packet_at
  fetch_packet_tells at =
      tells_then (AreBytes bytes) (region_at regions bytes at) _ (RegionStands regions bytes at) (IsRegionFault regions bytes at)
      (λ from p. (to : ℕ × ℕ) × OtherStands regions (Some from.0) bytes from.1 to × ((epoch : ℕ × ℕ) × EpochStands bytes to.1 epoch × (IsEnd bytes epoch.1 × (packet.Fetch from.0 to.0 epoch.0 ≡ p))))
      (λ from e. FirstOrLater (IsOtherFault regions (Some from.0) from.1 bytes from.1 e) (OtherStands regions (Some from.0) bytes from.1) (λ to. FirstOrLater (IsEpochFault bytes to.1 e) (EpochStands bytes to.1) (λ epoch. IsTrailing bytes epoch.1 e)))
      (region_tells bytes regions at) (λ from _.
      tells_then (AreBytes bytes) (other_at regions (Some from.0) from.1 bytes from.1) _ (OtherStands regions (Some from.0) bytes from.1) (IsOtherFault regions (Some from.0) from.1 bytes from.1)
      (λ to p. (epoch : ℕ × ℕ) × EpochStands bytes to.1 epoch × (IsEnd bytes epoch.1 × (packet.Fetch from.0 to.0 epoch.0 ≡ p))) (λ to e. FirstOrLater (IsEpochFault bytes to.1 e) (EpochStands bytes to.1) (λ epoch. IsTrailing bytes epoch.1 e))
      (other_tells bytes regions (Some from.0) from.1 from.1) (λ to _.
      tells_then (AreBytes bytes) (epoch_at bytes to.1) (λ epoch. end_at (packet.Fetch from.0 to.0 epoch.0) bytes epoch.1) (EpochStands bytes to.1) (IsEpochFault bytes to.1)
      (λ epoch p. IsEnd bytes epoch.1 × (packet.Fetch from.0 to.0 epoch.0 ≡ p)) (λ epoch. IsTrailing bytes epoch.1) (epoch_tells bytes to.1) (λ epoch _. end_tells bytes (packet.Fetch from.0 to.0 epoch.0) epoch.1)))

  -- ---- by kind

  abbrev StandsOfKind : ℕ → ℕ → Packet → Type 0
  StandsOfKind kind at p = ((kind ≡ 1) × BatchStandsIn at p) ⊎ ((kind ≡ 2) × FetchStandsAt at p)

  abbrev FaultOfKind : ℕ → ℕ → CodecFault → Type 0
  FaultOfKind kind at e = ((¬ (IsPacketKind kind)) × (e ≡ BadTag 0)) ⊎ (IsPacketKind kind × IsPacketFaultAt tables regions kind bytes at e)

  kind_tells : (kind at : ℕ) → Tells (AreBytes bytes) (cond (eqb kind 1) (batch_packet_at tables regions bytes at) (cond (eqb kind 2) (fetch_packet_at regions bytes at) (lost (BadTag 0)))) (StandsOfKind kind at) (FaultOfKind kind at)
  kind_tells kind at = record {
    found = λ fits p e. elim (chosen (eqb kind 1) _ _ _ e) [
      | inl h ↦ inl (eqb-true kind 1 h.0, (batch_packet_tells at).found fits p h.1)
      | inr h ↦ elim (chosen (eqb kind 2) _ _ _ h.1) [
        | inl g ↦ inr (eqb-true kind 2 g.0, (fetch_packet_tells at).found fits p g.1)
        | inr g ↦ not_done p (BadTag 0) (sym g.1)
      ]
    ];
    only = λ p s. elim s [
      | inl h ↦ rw h.0 ((batch_packet_tells at).only p h.1)
      | inr h ↦ rw h.0 ((fetch_packet_tells at).only p h.1)
    ];
    cause = λ fits f e. elim (chosen (eqb kind 1) _ _ _ e) [
      | inl h ↦ let is = eqb-true kind 1 h.0 in inr (inl is, inl (is, (batch_packet_tells at).cause fits f h.1))
      | inr h ↦ elim (chosen (eqb kind 2) _ _ _ h.1) [
        | inl g ↦ let is = eqb-true kind 2 g.0 in inr (inr is, inr (is, (fetch_packet_tells at).cause fits f g.1))
        | inr g ↦ inl (λ k. elim k [ inl a ↦ eqb-false kind 1 h.0 a | inr a ↦ eqb-false kind 2 g.0 a ], sym (fault_is {A = Packet} (BadTag 0) f g.1))
      ]
    ];
    refused = λ f s. elim s [
      | inl h ↦ rw (ne_eqb kind 1 (λ a. h.0 (inl a)), ne_eqb kind 2 (λ a. h.0 (inr a))) (ap lost (sym h.1))
      | inr h ↦ elim h.1 [
        | inl g ↦ rw g.0 ((batch_packet_tells at).refused f g.1)
        | inr g ↦ rw g.0 ((fetch_packet_tells at).refused f g.1)
      ]
    ];
  }

  abbrev pub PartsStand : Packet → Type 0
  PartsStand p = (kind : ℕ × ℕ) × ByteStands bytes 0 kind × StandsOfKind kind.0 kind.1 p

  pub packet_tells : Tells (AreBytes bytes) (packet_at tables regions bytes) PartsStand (IsPacketFault tables regions bytes)
  unfolding packet_at
  packet_tells =
      tells_as (AreBytes bytes) PartsStand PartsStand (λ e. FirstOrLater (IsCut Short 1 bytes 0 e) (ByteStands bytes 0) (λ kind. FaultOfKind kind.0 kind.1 e)) (IsPacketFault tables regions bytes)
      (tells_then (AreBytes bytes) (byte_at Short bytes 0) (λ kind. cond (eqb kind.0 1) (batch_packet_at tables regions bytes kind.1) (cond (eqb kind.0 2) (fetch_packet_at regions bytes kind.1) (Err (BadTag 0)))) (ByteStands bytes 0) (IsCut Short 1 bytes 0)
      (λ kind. StandsOfKind kind.0 kind.1) (λ kind. FaultOfKind kind.0 kind.1) (byte_tells Short bytes 0) (λ kind _. kind_tells kind.0 kind.1))
      (λ _ p s. s) (λ p s. s)
      (λ _ e h. elim h [ inl c ↦ inl (inl c) | inr c ↦ elim c.2 [ inl d ↦ inl (inr (c.0, c.1, d)) | inr d ↦ inr (c.0, (c.1, d.0), d.1) ] ])
      (λ e h. elim h [ inl c ↦ elim c [ inl d ↦ inl d | inr d ↦ inr (d.0, d.1, inl d.2) ] | inr c ↦ inr (c.0, c.1.0, inr (c.1.1, c.2)) ])

  -- ---- whole packets

  -- what was read is all of the bytes, and a lawful packet
  pub packet_lawful : (p : Packet) → PartsStand p → (packet_spelling p ≡ bytes) × (regions ≤ MAX_REGIONS → FitsPacket tables regions p)
  packet_lawful p (kind, kind_there, inl (is_one, (to, to_there, (b, last, is)))) =
      let l = last_lawful bytes tables schema regions (Some to.0) to.1 b last in
      let kind_one : StandsAt (1 ∷ []) bytes 0 kind.1 = subst (λ (n : ℕ). StandsAt (n ∷ []) bytes 0 kind.1) is_one kind_there in
      let front = stands_together (1 ∷ []) (to.0 ∷ []) bytes 0 kind.1 to.1 kind_one to_there.0 in
      subst (λ (q : Packet). (packet_spelling q ≡ bytes) × (regions ≤ MAX_REGIONS → FitsPacket tables regions q)) is
      (sym front.parts, λ within. (to_there.1, (b, l.1 within, l.2, l.0)))
  packet_lawful p (kind, kind_there, inr (is_two, (from, from_there, (to, to_there, (epoch, epoch_there, (end, is)))))) =
      let kind_two : StandsAt (2 ∷ []) bytes 0 kind.1 = subst (λ (n : ℕ). StandsAt (n ∷ []) bytes 0 kind.1) is_two kind_there in
      let number = number_spelling epoch.0 in
      let all = stands_together (2 ∷ []) (from.0 ∷ to.0 ∷ number) bytes 0 kind.1 epoch.1 kind_two
      (stands_together (from.0 ∷ []) (to.0 ∷ number) bytes kind.1 from.1 epoch.1 from_there.0 (stands_together (to.0 ∷ []) number bytes from.1 to.1 epoch.1 to_there.0.0 epoch_there.0.0)) in
      subst (λ (q : Packet). (packet_spelling q ≡ bytes) × (regions ≤ MAX_REGIONS → FitsPacket tables regions q)) is
      (sym (rest_is (2 ∷ from.0 ∷ to.0 ∷ number) bytes 0 epoch.1 all end), λ within. (from_there.1, to_there.0.1, to_there.1, epoch_there.1))

-- what the bytes spell stands there
pub spelled_parts : (tables : Tables) (regions : ℕ) (bytes : List ℕ) (p : Packet) → (schema : IsSchema tables) → SpellsPacket tables regions bytes p → PartsStand bytes tables schema regions p
spelled_parts tables regions bytes (packet.Batch to bs) schema (fits, e) =
    let b = fits.1.0 in
    let n = length bytes in
    let all : StandsAt (1 ∷ to ∷ bs) bytes 0 n = subst (λ (t : List ℕ). StandsAt (1 ∷ to ∷ bs) t 0 (length t)) e (whole_stands (1 ∷ to ∷ bs)) in
    let behind_kind = rest_stands (1 ∷ []) (to ∷ bs) bytes 0 n all in
    let behind_to = rest_stands (to ∷ []) bs bytes 1 n behind_kind in
    let rest : drop 2 bytes ≡ bs = ap (drop 2) (sym e) in (
      (1, 1),
      front_stands (1 ∷ []) (to ∷ bs) bytes 0 n all,
      inl (
        refl,
        (
          (to, 2),
          (front_stands (to ∷ []) bs bytes 1 n behind_kind, fits.0),
          (b, lawful_last bytes tables schema regions (Some to) 2 n b bs fits.1.1 fits.1.2 fits.1.3 behind_to (omega arith), ap (packet.Batch to) rest),
        ),
      ),
    )
spelled_parts tables regions bytes (packet.Fetch from to epoch) schema (fits, e) =
    let number = number_spelling epoch in
    let n = length bytes in
    let sealed : epoch < LAST_EPOCH = fits.3.1 in
    let all : StandsAt (2 ∷ from ∷ to ∷ number) bytes 0 n = subst (λ (t : List ℕ). StandsAt (2 ∷ from ∷ to ∷ number) t 0 (length t)) e (whole_stands (2 ∷ from ∷ to ∷ number)) in
    let behind_kind = rest_stands (2 ∷ []) (from ∷ to ∷ number) bytes 0 n all in
    let behind_from = rest_stands (from ∷ []) (to ∷ number) bytes 1 n behind_kind in (
      (2, 1),
      front_stands (2 ∷ []) (from ∷ to ∷ number) bytes 0 n all,
      inr (
        refl,
        (
          (from, 2),
          (front_stands (from ∷ []) (to ∷ number) bytes 1 n behind_kind, fits.0),
          (
            (to, 3),
            ((front_stands (to ∷ []) number bytes 2 n behind_from, fits.1), fits.2),
            ((epoch, n), ((rest_stands (to ∷ []) number bytes 2 n behind_from, omega (arith, sealed)), fits.3), (omega arith, refl)),
          ),
        ),
      ),
    )

pub one_packet : OnePacketOrFault
one_packet tables regions bytes schema within fits =
    one_answer (AreBytes bytes) (packet_at tables regions bytes) (SpellsPacket tables regions bytes) (IsPacketFault tables regions bytes)
    (tells_as (AreBytes bytes) (PartsStand bytes tables schema regions) (SpellsPacket tables regions bytes) (IsPacketFault tables regions bytes) (IsPacketFault tables regions bytes) (packet_tells bytes tables schema regions)
    (λ _ p s. let l = packet_lawful bytes tables schema regions p s in (l.1 within, l.0)) (λ p s. spelled_parts tables regions bytes p schema s) (λ _ e h. h) (λ e h. h))
    fits

-- ---- beginnings

abbrev head_of : List ℕ → ℕ → ℕ
head_of bytes i = get_or bytes i 0

pub packet_alone : NoPacketBeginsAnother
packet_alone tables regions (packet.Batch to_a bs_a) (packet.Batch to_b bs_b) after_a after_b schema fits_a fits_b e =
    let to : to_a ≡ to_b = ap (λ (t : List ℕ). head_of t 1) e in
    let rest : bs_a ++ after_a ≡ bs_b ++ after_b = ap (drop 2) e in
    let same = batch_alone tables regions fits_a.1.0 fits_b.1.0 bs_a bs_b after_a after_b schema (fits_a.1.1, fits_a.1.3) (fits_b.1.1, fits_b.1.3) rest in
    (ap (λ (t : ℕ). packet.Batch t bs_a) to ∙ ap (packet.Batch to_b) same.1, same.2)
packet_alone tables regions (packet.Batch to_a bs_a) (packet.Fetch from_b to_b epoch_b) after_a after_b schema fits_a fits_b e =
    let kinds : ◌≡◌ {A = ℕ} 1 2 = ap (λ (t : List ℕ). head_of t 0) e in
    absurd (omega (arith, kinds))
packet_alone tables regions (packet.Fetch from_a to_a epoch_a) (packet.Batch to_b bs_b) after_a after_b schema fits_a fits_b e =
    let kinds : ◌≡◌ {A = ℕ} 2 1 = ap (λ (t : List ℕ). head_of t 0) e in
    absurd (omega (arith, kinds))
packet_alone tables regions (packet.Fetch from_a to_a epoch_a) (packet.Fetch from_b to_b epoch_b) after_a after_b schema fits_a fits_b e =
    let from : from_a ≡ from_b = ap (λ (t : List ℕ). head_of t 1) e in
    let to : to_a ≡ to_b = ap (λ (t : List ℕ). head_of t 2) e in
    let rest : number_spelling epoch_a ++ after_a ≡ number_spelling epoch_b ++ after_b = ap (drop 3) e in
    let numbers : number_spelling epoch_a ≡ number_spelling epoch_b = ap (take 4) rest in
    let sealed_a : epoch_a < LAST_EPOCH = fits_a.3.1 in
    let sealed_b : epoch_b < LAST_EPOCH = fits_b.3.1 in
    let epoch : epoch_a ≡ epoch_b = sym (from_be_bytes-to_be_bytes_4 epoch_a (omega (arith, sealed_a))) ∙ ap (from_be_bytes w32) numbers ∙ from_be_bytes-to_be_bytes_4 epoch_b (omega (arith, sealed_b)) in
    (ap (λ (f : ℕ). packet.Fetch f to_a epoch_a) from ∙ ap (λ (t : ℕ). packet.Fetch from_b t epoch_a) to ∙ ap (packet.Fetch from_b to_b) epoch, ap (drop 4) rest)
