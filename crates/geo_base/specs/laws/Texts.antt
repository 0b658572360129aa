-- Laws: texts that are written piece by piece, and what doubling does to a text.
use Rattle.std.proofs.Common.{◌≡◌, ℕ, ◌+◌, ◌<◌, ◌≤◌, ◌≢◌, List, [], ◌∷◌, ◌++◌, length, get_or, take, refl, ap, ◌∙◌, append_assoc, take_all, suc, arith, ◌==◌, if◌then◌else◌}
use Rattle.std.specs.Prelude.{codes, Some, None}
use Rattle.std.specs.List.{flat_map}
use Rattle.std.proofs.lemmas.List.Concat.{flat_map-append}
use Rattle.std.specs.Char.{len_utf8}
use Rattle.std.specs.Str.{IsUtf8}
use Rattle.std.proofs.lemmas.Str.{IsUtf8-drop}
use Rattle.std.proofs.lemmas.Str.Pattern.{IsSplitOnceResult, split_parts}
use Rattle.geo_base.specs.Texts.{commas, doubled}
use denote.Ref.{Bor}

-- an item behind others: a comma and a space come before it
abbrev pub next : {T : Type 0} → (T → List ℕ) → T → List ℕ
next text item = codes ", " ++ text item

-- items that were written one after another are written whole
pub commas-joined : {T : Type 0} (text : T → List ℕ) (out now : List ℕ) (items others : List T) (first : T) (i : ℕ) → items ≡ first ∷ others →
    length others ≤ i → now ≡ (out ++ text first) ++ flat_map (next text) (take i others) → now ≡ out ++ commas text items
commas-joined text out now items others first i e all h =
    let whole : take i others ≡ others = take_all i others all in
    let k : now ≡ (out ++ text first) ++ flat_map (next text) others = rw whole at h in
    rw e (k ∙ append_assoc out (text first) (flat_map (next text) others))

-- a byte that is no quote stays one byte
plain-byte : (b : ℕ) → b ≢ 39 → (if b == 39 then 39 ∷ 39 ∷ [] else b ∷ []) ≡ b ∷ []
plain-byte b ne = grind arith

-- a text without a quote stays as it is
pub doubled-plain : (text : List ℕ) → ((i : ℕ) → i < length text → get_or text i 0 ≢ 39) → doubled text ≡ text
doubled-plain [] none = refl
doubled-plain (b ∷ text) none =
    let here : b ≢ 39 = none 0 (omega arith) in
    let rest : doubled text ≡ text = doubled-plain text (λ i h. none (suc i) (omega arith)) in
    rw (plain-byte b here) (ap (λ t. b ∷ t) rest)

-- a text is doubled up to its first quote, and behind it
pub doubled-split : (before after : List ℕ) → ((i : ℕ) → i < length before → get_or before i 0 ≢ 39) →
    doubled (before ++ 39 ∷ after) ≡ before ++ 39 ∷ 39 ∷ doubled after
doubled-split before after none =
    flat_map-append _ before (39 ∷ after) ∙ ap (λ t. t ++ (39 ∷ 39 ∷ doubled after)) (doubled-plain before none)

-- what stands behind the first such character is text
pub utf8-after : (c : ℕ) (text : List ℕ) (x : Bor (List ℕ) × Bor (List ℕ)) → IsSplitOnceResult c text (Some x) → IsUtf8 text →
    IsUtf8 x.1.now
utf8-after c text x split utf8 =
    let (i, j, found, before, after, order, front, back) = split in
    let ends : j ≡ i + len_utf8 c = found.1.ends in
    rw after (rw ends (IsUtf8-drop text (i + len_utf8 c) utf8 found.1.after))

-- one more quote is doubled, with what stands before it
pub doubled-more : (rest out now whole : List ℕ) (x : Bor (List ℕ) × Bor (List ℕ)) → IsSplitOnceResult 39 rest (Some x) →
    now ≡ (out ++ x.0.now) ++ 39 ∷ 39 ∷ [] → out ++ doubled rest ≡ whole → now ++ doubled x.1.now ≡ whole
doubled-more rest out now whole x split h e =
    let parts = split_parts 39 rest (Some x) split (omega arith) in
    let cut : doubled rest ≡ x.0.now ++ 39 ∷ 39 ∷ doubled x.1.now = rw parts.0 (doubled-split x.0.now x.1.now parts.1) in
    rw h (simp append_assoc (rw cut at e))

-- the rest without a quote is written as it is
pub doubled-last : (rest out whole : List ℕ) → IsSplitOnceResult 39 rest None → out ++ doubled rest ≡ whole → out ++ rest ≡ whole
doubled-last rest out whole split e =
    let plain : doubled rest ≡ rest = doubled-plain rest (split_parts 39 rest None split (omega arith)) in rw plain at e
