-- The numbers drawn from one counter.
use Rattle.std.proofs.Common.{◌≡◌, ℕ, ◌+◌, ◌<◌, ◌≤◌, min, List, [], ◌∷◌, ◌++◌, length, set, refl, sym, ap, ◌∙◌, arith, length-append}
use Rattle.std.specs.Prelude.{sum_by, All, Some, None}
use Rattle.std.proofs.lemmas.Bool.Decides.{nat_tests}
use Rattle.std.proofs.lemmas.List.Elements.{All-weaker}
use mathlib.Core.Option.{some}
use lib.ListN.{get_elem?}
use Rattle.claim_rule.specs.declared.view.Draws.{Draws}
use Rattle.claim_rule.specs.declared.view.ClaimView.{ClaimView}
use Rattle.claim_rule.specs.Views.{times, no_draws, draws_after, draws_joined}
use Rattle.claim_rule.specs.Rule.{once_below, AreDrawn}
use Rattle.claim_rule.proofs.Sums.{sum_set, sum_set_same, sum_at, sum_alone, sum_joined, sum_split, sum_both, sum_each}
use Rattle.claim_rule.specs.laws.Times.{times-append}

once_more : (x c : ℕ) → once_below x (c + 1) ≡ once_below x c + times x (c ∷ [])
once_more x c = grind (arith, nat_tests)

once_itself : (c : ℕ) → once_below c c ≡ 0
once_itself c = grind (arith, nat_tests)

once_few : (x n : ℕ) → once_below x n ≤ 1
once_few x n = grind (arith, nat_tests)

pub once_there : (x n : ℕ) → x < n → once_below x n ≡ 1
once_there x n below = grind (arith, nat_tests)

module _ (counter n : ℕ) (draws : ClaimView → Draws) (views : List ClaimView) (drawn : AreDrawn counter n draws views) where
  -- a view changes, and not in what it has drawn
  pub drawn_same : (id : ℕ) (v w : ClaimView) → get_elem? views id ≡ some v → draws w ≡ draws v → AreDrawn counter n draws (set views id w)
  drawn_same id v w at same = record {
    once = λ x. sum_set_same (λ u. times x (draws u).numbers) views id v w at (ap (λ (d : Draws). times x d.numbers) same) ∙ drawn.once x;
    drawn = sum_set_same (λ u. length (draws u).numbers) views id v w at (ap (λ (d : Draws). length d.numbers) same) ∙ drawn.drawn;
    counted = sum_set_same (λ u. length (draws u).numbers + length (draws u).late) views id v w at (ap (λ (d : Draws). length d.numbers + length d.late) same) ∙ drawn.counted;
  }

  -- a draw that gives the number of the counter
  pub drawn_some : (id : ℕ) (v w : ClaimView) → get_elem? views id ≡ some v → counter < n → draws w ≡ draws_after (Some counter) counter (draws v) → AreDrawn (counter + 1) n draws (set views id w)
  drawn_some id v w at below next = record {
    once = λ x.
        let moved = sum_set (λ u. times x (draws u).numbers) views id v w at in
        let now : times x (draws w).numbers ≡ times x ((draws v).numbers ++ counter ∷ []) = ap (λ (d : Draws). times x d.numbers) next in
        let more = times-append x (draws v).numbers (counter ∷ []) in
        let was : sum_by (λ u. times x (draws u).numbers) views ≡ once_below x counter = drawn.once x ∙ ap (once_below x) (let m : min counter n ≡ counter = omega arith in m) in
        let one = once_more x counter in
        let is : once_below x (min (counter + 1) n) ≡ once_below x (counter + 1) = ap (once_below x) (omega arith) in
        omega arith;
    drawn =
        let moved = sum_set (λ u. length (draws u).numbers) views id v w at in
        let now : length (draws w).numbers ≡ length ((draws v).numbers ++ counter ∷ []) = ap (λ (d : Draws). length d.numbers) next in
        let more : length ((draws v).numbers ++ counter ∷ []) ≡ length (draws v).numbers + 1 = length-append (draws v).numbers (counter ∷ []) in
        let was = drawn.drawn in
        omega arith;
    counted =
        let moved = sum_set (λ u. length (draws u).numbers + length (draws u).late) views id v w at in
        let now : length (draws w).numbers + length (draws w).late ≡ length ((draws v).numbers ++ counter ∷ []) + length (draws v).late = ap (λ (d : Draws). length d.numbers + length d.late) next in
        let more : length ((draws v).numbers ++ counter ∷ []) ≡ length (draws v).numbers + 1 = length-append (draws v).numbers (counter ∷ []) in
        let was = drawn.counted in
        omega arith;
  }

  -- a draw that comes too late
  pub drawn_none : (id : ℕ) (v w : ClaimView) → get_elem? views id ≡ some v → n ≤ counter → draws w ≡ draws_after None counter (draws v) → AreDrawn (counter + 1) n draws (set views id w)
  drawn_none id v w at above next = record {
    once = λ x.
        let same = sum_set_same (λ u. times x (draws u).numbers) views id v w at (ap (λ (d : Draws). times x d.numbers) next) in
        same ∙ drawn.once x ∙ ap (once_below x) (let m : min counter n ≡ min (counter + 1) n = omega arith in m);
    drawn =
        let same = sum_set_same (λ u. length (draws u).numbers) views id v w at (ap (λ (d : Draws). length d.numbers) next) in
        let was = drawn.drawn in
        omega arith;
    counted =
        let moved = sum_set (λ u. length (draws u).numbers + length (draws u).late) views id v w at in
        let now : length (draws w).numbers + length (draws w).late ≡ length (draws v).numbers + length ((draws v).late ++ counter ∷ []) = ap (λ (d : Draws). length d.numbers + length d.late) next in
        let more : length ((draws v).late ++ counter ∷ []) ≡ length (draws v).late + 1 = length-append (draws v).late (counter ∷ []) in
        let was = drawn.counted in
        omega arith;
  }

  pub drawn_joined : (id other : ℕ) (v w both spent : ClaimView) → get_elem? views id ≡ some v → get_elem? (set views id both) other ≡ some w → draws both ≡ draws_joined (draws v) (draws w)
      → (draws spent).numbers ≡ [] → (draws spent).late ≡ [] → AreDrawn counter n draws (set (set views id both) other spent)
  drawn_joined id other v w both spent at there adds none timely = record {
    once = λ x. sum_joined (λ u. times x (draws u).numbers) views id other v w both spent at there
        (ap (λ (d : Draws). times x d.numbers) adds ∙ times-append x (draws v).numbers (draws w).numbers)
        (ap (times x) none) ∙ drawn.once x;
    drawn = sum_joined (λ u. length (draws u).numbers) views id other v w both spent at there
        (ap (λ (d : Draws). length d.numbers) adds ∙ length-append (draws v).numbers (draws w).numbers)
        (ap length none) ∙ drawn.drawn;
    counted = sum_joined (λ u. length (draws u).numbers + length (draws u).late) views id other v w both spent at there
        (let now = ap (λ (d : Draws). length d.numbers + length d.late) adds in let more = length-append (draws v).numbers (draws w).numbers in let late = length-append (draws v).late (draws w).late in omega arith)
        (let empty = ap length none in let bare = ap length timely in omega arith) ∙ drawn.counted;
  }

  pub drawn_split : (id : ℕ) (v left right : ClaimView) → get_elem? views id ≡ some v → draws left ≡ draws v → (draws right).numbers ≡ [] → (draws right).late ≡ [] → AreDrawn counter n draws (set views id left ++ right ∷ [])
  drawn_split id v left right at same none timely = record {
    once = λ x. sum_split (λ u. times x (draws u).numbers) views id v left right at
        (let a = ap (λ (d : Draws). times x d.numbers) same in let b = ap (times x) none in omega arith) ∙ drawn.once x;
    drawn = sum_split (λ u. length (draws u).numbers) views id v left right at
        (let a = ap (λ (d : Draws). length d.numbers) same in let b = ap length none in omega arith) ∙ drawn.drawn;
    counted = sum_split (λ u. length (draws u).numbers + length (draws u).late) views id v left right at
        (let a = ap (λ (d : Draws). length d.numbers + length d.late) same in let b = ap length none in let c = ap length timely in omega arith) ∙ drawn.counted;
  }

  -- the number of the counter is one that no view has, and each view has at most as many numbers as were drawn
  pub drawn_new : (id : ℕ) (v : ClaimView) → get_elem? views id ≡ some v → counter < n → times counter (draws v).numbers ≡ 0
  drawn_new id v at below =
      let here : times counter (draws v).numbers ≤ sum_by (λ u. times counter (draws u).numbers) views = sum_at (λ u. times counter (draws u).numbers) views id v at in
      let all : sum_by (λ u. times counter (draws u).numbers) views ≡ once_below counter counter = drawn.once counter ∙ ap (once_below counter) (let m : min counter n ≡ counter = omega arith in m) in
      let none = once_itself counter in
      omega arith

  pub drawn_room : (id : ℕ) (v : ClaimView) → get_elem? views id ≡ some v → counter < n → length (draws v).numbers < n
  drawn_room id v at below =
      let here = sum_at (λ u. length (draws u).numbers) views id v at in
      let all = drawn.drawn in
      omega arith

  pub drawn_once : (id : ℕ) (v : ClaimView) → get_elem? views id ≡ some v → (x : ℕ) → times x (draws v).numbers ≤ 1
  drawn_once id v at x =
      let here : times x (draws v).numbers ≤ sum_by (λ u. times x (draws u).numbers) views = sum_at (λ u. times x (draws u).numbers) views id v at in
      let all = drawn.once x in
      let few = once_few x (min counter n) in
      omega arith

  -- a view that has all shares has all that was drawn
  module _ (id : ℕ) (v : ClaimView) (at : get_elem? views id ≡ some v) (bare : All (λ u. u.shares ≡ 0 → draws u ≡ no_draws) views) (whole : sum_by (λ u. u.shares) views ≡ v.shares) where
    mine_alone : (f : Draws → ℕ) → f no_draws ≡ 0 → sum_by (λ u. f (draws u)) views ≡ f (draws v)
    mine_alone f none = sum_alone (λ u. u.shares) (λ u. f (draws u)) views id v at
        (All-weaker (λ u. u.shares ≡ 0 → draws u ≡ no_draws) (λ u. u.shares ≡ 0 → f (draws u) ≡ 0) (λ u is shareless. ap f (is shareless) ∙ none) views bare) whole

    -- where a draw of it came too late, these are all numbers below n
    over : 0 < length (draws v).late → n ≤ counter
    over late =
        let numbers = mine_alone (λ d. length d.numbers) refl in
        let both = mine_alone (λ d. length d.numbers + length d.late) refl in
        let all = drawn.drawn in
        let count = drawn.counted in
        omega arith

    pub drawn_all : 0 < length (draws v).late → length (draws v).numbers ≡ n
    drawn_all late =
        let numbers = mine_alone (λ d. length d.numbers) refl in
        let all = drawn.drawn in
        let most = over late in
        omega arith

    pub drawn_each : 0 < length (draws v).late → (x : ℕ) → x < n → times x (draws v).numbers ≡ 1
    drawn_each late x below =
        let most = over late in
        sym (mine_alone (λ d. times x d.numbers) refl) ∙ drawn.once x ∙ ap (once_below x) (let m : min counter n ≡ n = omega arith in m) ∙ once_there x n below

  -- the counter is at most 8 above n, so that it doesn't wrap
  pub drawn_small : All (λ u. length (draws u).late ≤ u.shares) views → sum_by (λ u. u.shares) views ≤ 8 → counter ≤ n + 8
  drawn_small late few =
      let two = sum_both (λ u. length (draws u).numbers) (λ u. length (draws u).late) views in
      let less = sum_each (λ u. length (draws u).late) (λ u. u.shares) views late in
      let all = drawn.drawn in
      let count = drawn.counted in
      omega arith
