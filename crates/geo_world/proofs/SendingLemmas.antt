-- What a region sends to the others, one after another.
use Rattle.std.proofs.Common.{◌≡◌, ℕ, suc, ◌+◌, Bool, not, cond, ◌==◌, List, [], ◌∷◌, ◌++◌, map, filter, length, sym, ap, ap₂, ◌∙◌, arith, append_assoc, add-one, eq-eqb, ne_eqb, length-append}
use Rattle.std.proofs.lemmas.List.{append-nil, map-append, length-map}
use Rattle.std.proofs.lemmas.List.Elements.{filter-append}
use Rattle.write_set.specs.declared.batch.Batch.{Batch}
use Rattle.geo_world.specs.declared.packet.Packet.{Packet as KeptPacket}
use Rattle.geo_world.specs.Lines.{sent}
use Rattle.geo_world.specs.inner.Sending.{packet_with}
use Rattle.geo_world.specs.Step.{numbers_below, others, sent_lines}

others-suc : (n region : ℕ) → others (n + 1) region ≡ others n region ++ filter (λ q. not (q == region)) (n ∷ [])
others-suc n region = ap (λ (m : ℕ). others m region) (add-one n) ∙ filter-append (λ q. not (q == region)) (numbers_below n) (n ∷ [])

-- a region of which another is the next
pub others_more : (n region : ℕ) → (n ≡ region → ⊥) → others (n + 1) region ≡ others n region ++ n ∷ []
others_more n region other =
    others-suc n region ∙ ap (λ (b : Bool). others n region ++ cond (not b) (n ∷ []) []) (ne_eqb n region other)

pub others_own : (n region : ℕ) → n ≡ region → others (n + 1) region ≡ others n region
others_own n region same =
    others-suc n region ∙ (ap (λ (b : Bool). others n region ++ cond (not b) (n ∷ []) []) (eq-eqb n region same) ∙ append-nil (others n region))

plus_zero : (n : ℕ) → n + 0 ≡ n
plus_zero n = omega arith

next_one : (p n : ℕ) → p + 1 + n ≡ p + suc n
next_one p n = omega arith

pub sent_lines_push : (packet : ℕ) (tos : List ℕ) (to : ℕ) → sent_lines packet (tos ++ to ∷ []) ≡ sent_lines packet tos ++ sent (packet + length tos) to
sent_lines_push packet [] to = append-nil (sent packet to) ∙ ap (λ (n : ℕ). sent n to) (sym (plus_zero packet))
sent_lines_push packet (t ∷ tos) to =
    ap (λ (text : List ℕ). sent packet t ++ text) (sent_lines_push (packet + 1) tos to)
    ∙ (sym (append_assoc (sent packet t) (sent_lines (packet + 1) tos) (sent (packet + 1 + length tos) to))
    ∙ ap (λ (n : ℕ). (sent packet t ++ sent_lines (packet + 1) tos) ++ sent n to) (next_one packet (length tos)))

pub packets_more : (start now later : List KeptPacket) (batch : Batch) (to : ℕ) → (to ≡ batch.region → ⊥) →
    now ≡ start ++ map (packet_with batch) (others to batch.region) → later ≡ now ++ packet_with batch to ∷ [] →
    later ≡ start ++ map (packet_with batch) (others (to + 1) batch.region)
packets_more start now later batch to other was pushed =
    pushed ∙ (ap (λ (ps : List KeptPacket). ps ++ packet_with batch to ∷ []) was
    ∙ (append_assoc start (map (packet_with batch) (others to batch.region)) (packet_with batch to ∷ [])
    ∙ ap (λ (ps : List KeptPacket). start ++ ps)
    (sym (map-append (packet_with batch) (others to batch.region) (to ∷ []))
    ∙ ap (map (packet_with batch)) (sym (others_more to batch.region other)))))

pub lines_more : (start now later : List ℕ) (packet number to region : ℕ) → (to ≡ region → ⊥) → number ≡ packet + length (others to region) →
    now ≡ start ++ sent_lines packet (others to region) → later ≡ now ++ sent number to →
    later ≡ start ++ sent_lines packet (others (to + 1) region)
lines_more start now later packet number to region other count was pushed =
    pushed ∙ (ap₂ (λ (text : List ℕ) (n : ℕ). text ++ sent n to) was count
    ∙ (append_assoc start (sent_lines packet (others to region)) (sent (packet + length (others to region)) to)
    ∙ ap (λ (text : List ℕ). start ++ text)
    (sym (sent_lines_push packet (others to region) to) ∙ ap (sent_lines packet) (sym (others_more to region other)))))

count_sum : (n a b c : ℕ) → n ≡ c → c ≡ a + b → n ≡ a + b
count_sum n a b c p q = omega arith

pub packets_count : (start now : List KeptPacket) (n m : ℕ) (batch : Batch) (to : ℕ) → n ≡ length now → m ≡ length start →
    now ≡ start ++ map (packet_with batch) (others to batch.region) → n ≡ m + length (others to batch.region)
packets_count start now n m batch to count first was =
    count ∙ (ap (λ (ps : List KeptPacket). length ps) was ∙ (length-append start (map (packet_with batch) (others to batch.region))
    ∙ ap₂ (λ (x y : ℕ). x + y) (sym first) (length-map (others to batch.region) (packet_with batch))))
