-- Lists of items that are each read, and lists in parentheses.
use Rattle.std.proofs.Common.{◌≡◌, ℕ, ◌+◌, ◌<◌, List, [], ◌∷◌, ◌++◌, length, drop, get_or, map, Option, Some, None, refl, sym, ap, ◌∙◌, arith, append_assoc, Bor}
use Rattle.std.proofs.lemmas.List.{drop_more, get_or-map, length-map}
use Rattle.std.specs.Option.{option_map}
use Rattle.schema_text.specs.inner.Texts.{all_read}

-- what was read of the first items, and then what each of the others is
abbrev pub behind : {B : Type 0} → List B → Option (List B) → Option (List B)
behind read more = option_map (λ items. read ++ items) more

behind_one : {B : Type 0} (read : List B) (x : B) (more : Option (List B)) → behind read (option_map (λ items. x ∷ items) more) ≡ behind (read ++ x ∷ []) more
behind_one read x None = refl
behind_one read x (Some items) = ap Some (sym (append_assoc read (x ∷ []) items))

-- the first items were read, and these are what they are
abbrev pub AreRead : {A B : Type 0} → (A → Option B) → List A → List B → ℕ → Type 0
AreRead of items read place = all_read of items ≡ behind read (all_read of (drop place items))

pub one_read : {A B : Type 0} (of : A → Option B) (items : List A) (read : List B) (place : ℕ) (item : A) (x : B) → place < length items →
    AreRead of items read place → get_or items place item ≡ item → of item ≡ Some x → AreRead of items (read ++ x ∷ []) (place + 1)
one_read of items read place item x within before at is =
    before
    ∙ (ap (λ rest. behind read (all_read of rest)) (drop_more items place item within)
    ∙ (rw (at, is) (behind_one read x (all_read of (drop (place + 1) items)))))

pub not_read : {A B : Type 0} (of : A → Option B) (items : List A) (read : List B) (place : ℕ) (item : A) → place < length items →
    AreRead of items read place → get_or items place item ≡ item → of item ≡ None → all_read of items ≡ None
not_read of items read place item within before at is =
    before ∙ (ap (λ rest. behind read (all_read of rest)) (drop_more items place item within) ∙ rw (at, is) refl)

-- ---- the same of items that are lent

lent_at : {A : Type 0} (items : List (Bor A)) (place : ℕ) (item : Bor A) → place < length items → item ≡ get_or items place item →
    (place < length (map (λ (r : Bor A). r.now) items)) × (get_or (map (λ (r : Bor A). r.now) items) place item.now ≡ item.now)
lent_at {A} items place item within at =
    (omega (arith, length-map items (λ (r : Bor A). r.now)), get_or-map (λ (r : Bor A). r.now) items place item item.now within ∙ ap (λ (r : Bor A). r.now) (sym at))

pub one_lent : {A B : Type 0} (of : A → Option B) (items : List (Bor A)) (read : List B) (place : ℕ) (item : Bor A) (x : B) → place < length items →
    AreRead of (map (λ (r : Bor A). r.now) items) read place → item ≡ get_or items place item → of item.now ≡ Some x →
    AreRead of (map (λ (r : Bor A). r.now) items) (read ++ x ∷ []) (place + 1)
one_lent {A} of items read place item x within before at is =
    let there = lent_at items place item within at in
    one_read of (map (λ (r : Bor A). r.now) items) read place item.now x there.0 before there.1 is

pub not_lent : {A B : Type 0} (of : A → Option B) (items : List (Bor A)) (read : List B) (place : ℕ) (item : Bor A) → place < length items →
    AreRead of (map (λ (r : Bor A). r.now) items) read place → item ≡ get_or items place item → of item.now ≡ None → all_read of (map (λ (r : Bor A). r.now) items) ≡ None
not_lent {A} of items read place item within before at is =
    let there = lent_at items place item within at in
    not_read of (map (λ (r : Bor A). r.now) items) read place item.now there.0 before there.1 is
