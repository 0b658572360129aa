-- Laws: what stands in a list of one item, in a list of what a function gives, and in lists that are put together.
use Rattle.std.proofs.Common.{◌≡◌, ⊎_elim, List, [], ◌∷◌, map, flat_map, Contains, sym, subst}
use Rattle.std.proofs.lemmas.List.Elements.{Contains-append_left, Contains-append_right, Contains-append_cases}
use Rattle.write_set.specs.laws.Among.{among_none, among_first, among_later, among_cases}

pub alone : {X : Type 0} (y x : X) → Contains (y ∷ []) x → y ≡ x
alone y x c = ⊎_elim (λ same. same) (λ later. absurd (among_none x later)) (among_cases y [] x c)

module _ {X Y : Type 0} where
  pub in_map : (f : X → Y) (xs : List X) (x : X) → Contains xs x → Contains (map f xs) (f x)
  in_map f [] x c = absurd (among_none x c)
  in_map f (y ∷ ys) x c =
      ⊎_elim
      (λ same. subst (λ z. Contains (f y ∷ map f ys) (f z)) same (among_first (f y) (map f ys)))
      (λ later. among_later (f y) (f x) (map f ys) (in_map f ys x later))
      (among_cases y ys x c)

  pub from_map : (f : X → Y) (xs : List X) (y : Y) → Contains (map f xs) y → (x : X) × Contains xs x × (f x ≡ y)
  from_map f [] y c = absurd (among_none y c)
  from_map f (x ∷ xs) y c =
      ⊎_elim
      (λ same. (x, among_first x xs, same))
      (λ later. let rest = from_map f xs y later in (rest.0, among_later x rest.0 xs rest.1, rest.2))
      (among_cases (f x) (map f xs) y c)

  pub in_flat_map : (f : X → List Y) (xs : List X) (x : X) (y : Y) → Contains xs x → Contains (f x) y → Contains (flat_map f xs) y
  in_flat_map f [] x y c d = absurd (among_none x c)
  in_flat_map f (z ∷ zs) x y c d =
      ⊎_elim
      (λ same. Contains-append_left (f z) (flat_map f zs) y (subst (λ w. Contains (f w) y) (sym same) d))
      (λ later. Contains-append_right (f z) (flat_map f zs) y (in_flat_map f zs x y later d))
      (among_cases z zs x c)

  pub from_flat_map : (f : X → List Y) (xs : List X) (y : Y) → Contains (flat_map f xs) y → (x : X) × Contains xs x × Contains (f x) y
  from_flat_map f [] y c = absurd (among_none y c)
  from_flat_map f (z ∷ zs) y c =
      ⊎_elim
      (λ now. (z, among_first z zs, now))
      (λ later. let rest = from_flat_map f zs y later in (rest.0, among_later z rest.0 zs rest.1, rest.2))
      (Contains-append_cases (f z) (flat_map f zs) y c)
