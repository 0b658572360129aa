-- Parts that stand one after another, of which the first that breaks a rule is at fault.
use Rattle.std.specs.Prelude.{◌≡◌, ◌⊎◌, ℕ, ◌<◌, List, length}

-- the first part is at fault; or it stands there, and what is behind it is at fault
abbrev pub FirstOrLater : {A : Type 0} → Type 0 → (A → Type 0) → (A → Type 0) → Type 0
FirstOrLater {A} First Stands Later = First ⊎ ((x : A) × Stands x × Later x)

-- a part stands there, and keeps a rule
abbrev pub Keeps : {A : Type 0} → (A × ℕ → Type 0) → (A → Type 0) → A × ℕ → Type 0
Keeps Stands Rule x = Stands x × Rule x.0

-- a part is at fault; or it stands there and breaks a rule, which is this fault
abbrev pub Breaks : {A E : Type 0} → (E → Type 0) → (A × ℕ → Type 0) → (A → Type 0) → E → E → Type 0
Breaks First Stands Rule fault e = FirstOrLater (First e) Stands (λ x. (¬ (Rule x.0)) × (e ≡ fault))

-- of so many things the first ones stand one after another from the place on, and what is at their end is at fault
pub record IsFaultOfThings {A E : Type 0} (Stand : List A × ℕ → Type 0) (Fault : List A → ℕ → E → Type 0) (count : ℕ) (e : E) : Type 0 where
  pub front : List A
  pub place : ℕ
  pub few : length front < count
  pub stand : Stand (front, place)
  pub fault : Fault front place e
