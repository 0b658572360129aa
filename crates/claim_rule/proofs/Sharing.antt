-- A split and a join of seats keep the rule, and a table that is opened has it.
use Rattle.std.proofs.Common.{◌≡◌, ◌≢◌, ℕ, zero, suc, ◌+◌, ◌-◌, ◌<◌, ◌≤◌, ◌^◌, min, Bool, true, false, ◌||◌, true≢false, List, [], ◌∷◌, ◌++◌, length, set, replicate, refl, sym, ap, ◌∙◌, subst, ⊎_elim, arith, length-append}
use Rattle.std.specs.Prelude.{All, Contains}
use Rattle.std.proofs.lemmas.List.Elements.{All-set, All-weaker, All-push, All-append, All-nil, All-cons, Contains-append_left, Contains-append_right}
use Rattle.std.proofs.lemmas.Bool.Decides.{nat_tests}
use mathlib.Core.Option.{some, some-ne-none}
use lib.ListN.{get_elem?, get_or-replicate, length-replicate}
use Rattle.atomic_table.proofs.Lists.{at_set, set_here}
use Rattle.claim_rule.specs.declared.view.Draws.{Draws}
use Rattle.claim_rule.specs.declared.view.ClaimView.{ClaimView}
use Rattle.claim_rule.specs.declared.size.TableSize.{TableSize}
use Rattle.claim_rule.specs.Plan.{Pieces, piece_of, word_on, best}
use Rattle.claim_rule.specs.Views.{times, no_draws, new_view, spent_view, shares_kept, shares_given, views_joined}
use Rattle.claim_rule.specs.Rule.{once_below, IsFinished, IsPlanned, AreLate, Fits, AreDrawn, IsRuled}
use Rattle.claim_rule.proofs.Sums.{each_at, sum_joined, sum_split}
use Rattle.claim_rule.specs.laws.Times.{times-append}
use Rattle.claim_rule.specs.laws.Tops.{top-append}
use Rattle.claim_rule.proofs.Tops.{top_joined, top_split}
use Rattle.claim_rule.proofs.Drawing.{drawn_joined, drawn_split}

-- draws that came too late: none, those of a view with fewer shares, and those of two views
none_late : (n shares : ℕ) → AreLate n shares []
none_late n shares = record { few = omega arith; beyond = All-nil (λ x. n ≤ x) }

fewer_late : (n shares less : ℕ) (late : List ℕ) → AreLate n shares late → length late ≤ less → AreLate n less late
fewer_late n shares less late are few = record { few = few; beyond = are.beyond }

both_late : (n shares more : ℕ) (late later : List ℕ) → AreLate n shares late → AreLate n more later → AreLate n (shares + more) (late ++ later)
both_late n shares more late later are too = record {
  few = let all = length-append late later in let a = are.few in let b = too.few in omega arith;
  beyond = All-append (λ x. n ≤ x) late later are.beyond too.beyond;
}

-- a view that has done nothing
fresh_fits : (plan : Pieces) (done shares : ℕ) (flag : Bool) → 0 < shares → (flag ≡ true → done ≡ length plan) → Fits plan done (new_view plan shares flag)
fresh_fits plan done shares flag some_share stable = record {
  opened = refl;
  same = λ _. refl;
  empty = λ none. absurd (omega arith);
  joined = All-nil (λ p. p ≡ plan);
  drawn = λ x. omega arith;
  made = λ x f. let has : 0 < 0 = f.drawn in absurd (omega arith);
  planned = All-nil (IsPlanned plan (new_view plan shares flag));
  looked = All-nil (λ seen. seen ≤ done);
  stable = stable;
  judging = λ _. refl;
  late_claiming = none_late (length plan) shares;
  late_judging = none_late (length plan) shares;
}

spent_fits : (plan : Pieces) (done : ℕ) → Fits plan done spent_view
spent_fits plan done = record {
  opened = refl;
  same = λ more. absurd (omega arith);
  empty = λ _. refl;
  joined = All-nil (λ p. p ≡ plan);
  drawn = λ x. omega arith;
  made = λ x f. let has : 0 < 0 = f.drawn in absurd (omega arith);
  planned = All-nil (IsPlanned plan spent_view);
  looked = All-nil (λ seen. seen ≤ done);
  stable = λ on. absurd (true≢false (sym on));
  judging = λ _. refl;
  late_claiming = none_late (length plan) 0;
  late_judging = none_late (length plan) 0;
}

module _ (size : TableSize) (plan : Pieces) (claimed done judged : ℕ) (headers : List ℕ) (views : List ClaimView) (r : IsRuled size plan claimed done judged headers views) (id : ℕ) (v : ClaimView) (at : get_elem? views id ≡ some v) where
  mine : Fits plan done v
  mine = each_at (Fits plan done) views id v r.fits at

  pub split : (part : ℕ) → 0 < part → part < v.shares → length v.claiming.late + part ≤ v.shares → length v.judging.late + part ≤ v.shares
      → IsRuled size plan claimed done judged headers (set views id (shares_kept part v) ++ shares_given part v ∷ [])
  split part some_part less claims_late judges_late =
      let left = shares_kept part v in
      let right = shares_given part v in
      let some_share : 0 < v.shares = omega arith in
      record {
        fits = All-push (Fits plan done) (set views id left) right
            (All-set (Fits plan done) views id left record {
              opened = mine.opened;
              same = λ _. mine.same some_share;
              empty = λ none. absurd (omega arith);
              joined = mine.joined;
              drawn = mine.drawn;
              made = λ x f. mine.made x record { drawn = f.drawn; over = f.over };
              planned = mine.planned;
              looked = mine.looked;
              stable = mine.stable;
              judging = mine.judging;
              late_claiming = fewer_late (length plan) v.shares (v.shares - part) v.claiming.late mine.late_claiming (omega arith);
              late_judging = fewer_late (length plan) v.shares (v.shares - part) v.judging.late mine.late_judging (omega arith);
            } r.fits)
            (subst (λ (p : Pieces). Fits plan done (new_view p part v.stable)) (sym (mine.same some_share)) (fresh_fits plan done part v.stable some_part mine.stable));
        claiming = drawn_split claimed (length plan) (λ u. u.claiming) views r.claiming id v left right at refl refl refl;
        judging = drawn_split judged (length plan) (λ u. u.judging) views r.judging id v left right at refl refl refl;
        finished =
            let one = sum_split (λ u. length u.pending) views id v left right at (omega arith) in
            let two = sum_split (λ u. length u.claiming.numbers) views id v left right at (omega arith) in
            let count = r.finished in
            omega arith;
        greatest = λ row within. r.greatest row within ∙ sym (top_split (λ u. best row u.claims) views id v left right at refl refl);
        shares = let same = sum_split (λ u. u.shares) views id v left right at (omega arith) in let all = r.shares in omega arith;
        workers = r.workers;
        few = r.few;
        long = r.long;
      }

  pub join : (other : ℕ) (w : ClaimView) → other ≢ id → get_elem? (set views id (views_joined v w)) other ≡ some w → 0 < v.shares → 0 < w.shares
      → IsRuled size plan claimed done judged headers (set (set views id (views_joined v w)) other spent_view)
  join other w apart there some_share other_share =
      let both = views_joined v w in
      let was = was_there in
      record {
        fits = All-set (Fits plan done) (set views id both) other spent_view (spent_fits plan done) (All-set (Fits plan done) views id both fits r.fits);
        claiming = drawn_joined claimed (length plan) (λ u. u.claiming) views r.claiming id other v w both spent_view at there refl refl refl;
        judging = drawn_joined judged (length plan) (λ u. u.judging) views r.judging id other v w both spent_view at there refl refl refl;
        finished =
            let one = sum_joined (λ u. length u.pending) views id other v w both spent_view at there (length-append v.pending w.pending) refl in
            let two = sum_joined (λ u. length u.claiming.numbers) views id other v w both spent_view at there (length-append v.claiming.numbers w.claiming.numbers) refl in
            let count = r.finished in
            omega arith;
        greatest = λ row within. r.greatest row within ∙ sym (top_joined (λ u. best row u.claims) views id other v w both spent_view (λ e. apart (sym e)) at (set_here views id both (there_is views id v at)) there was
            (top-append (word_on row) v.claims w.claims) refl);
        shares = let same = sum_joined (λ u. u.shares) views id other v w both spent_view at there refl refl in let all = r.shares in omega arith;
        workers = r.workers;
        few = r.few;
        long = r.long;
      }
    where
      there_is : (vs : List ClaimView) (i : ℕ) (u : ClaimView) → get_elem? vs i ≡ some u → i < length vs
      there_is [] i u e = absurd (some-ne-none u (sym e))
      there_is (x ∷ xs) zero u e = omega arith
      there_is (x ∷ xs) (suc i) u e = let rest = there_is xs i u e in omega arith

      was_there : get_elem? views other ≡ some w
      was_there = ⊎_elim (λ (t : (other ≡ id) × (views_joined v w ≡ w)). absurd (apart t.0)) (λ (t : (other ≢ id) × (get_elem? views other ≡ some w)). t.1) (at_set views id other (views_joined v w) w there)

      theirs : Fits plan done w
      theirs = each_at (Fits plan done) views other w r.fits was_there

      -- what either has finished
      either : (x : ℕ) → IsFinished (views_joined v w) x → All (Contains (v.claims ++ w.claims)) (piece_of plan x)
      either x f = by (times x v.claiming.numbers) refl
        where
          a : times x (v.claiming.numbers ++ w.claiming.numbers) ≡ times x v.claiming.numbers + times x w.claiming.numbers
          a = times-append x v.claiming.numbers w.claiming.numbers

          b : times x (v.pending ++ w.pending) ≡ times x v.pending + times x w.pending
          b = times-append x v.pending w.pending

          by : (n : ℕ) → times x v.claiming.numbers ≡ n → All (Contains (v.claims ++ w.claims)) (piece_of plan x)
          by zero none =
              let has = f.drawn in
              let over = f.over in
              let p = a in
              let q = b in
              All-weaker (Contains w.claims) (Contains (v.claims ++ w.claims)) (λ pair c. Contains-append_right v.claims w.claims pair c) (piece_of plan x) (theirs.made x record { drawn = omega arith; over = omega arith })
          by (suc n) is =
              let over = f.over in
              let q = b in
              All-weaker (Contains v.claims) (Contains (v.claims ++ w.claims)) (λ pair c. Contains-append_left v.claims w.claims pair c) (piece_of plan x) (mine.made x record { drawn = omega arith; over = omega arith })

      planned_in : (u : ClaimView) → ((x : ℕ) → times x u.claiming.numbers ≤ times x (views_joined v w).claiming.numbers) → All (IsPlanned plan u) u.claims → All (IsPlanned plan (views_joined v w)) u.claims
      planned_in u more all = All-weaker (IsPlanned plan u) (IsPlanned plan (views_joined v w)) (λ pair p. (p.0, (let m = more p.0 in let d = p.1 in omega arith), p.2)) u.claims all

      flag : (b c : Bool) → (b ≡ true → done ≡ length plan) → (c ≡ true → done ≡ length plan) → (b || c) ≡ true → done ≡ length plan
      flag true c f g on = f refl
      flag false c f g on = g on

      unflagged : (b c : Bool) (xs ys : List ℕ) → (b ≡ false → xs ≡ []) → (c ≡ false → ys ≡ []) → (b || c) ≡ false → xs ++ ys ≡ []
      unflagged true c xs ys f g off = absurd (true≢false off)
      unflagged false c xs ys f g off = ap (λ (l : List ℕ). l ++ ys) (f refl) ∙ g off

      fits : Fits plan done (views_joined v w)
      fits = record {
        opened = mine.opened;
        same = λ _. mine.same some_share;
        empty = λ none. absurd (omega arith);
        joined = All-cons (λ p. p ≡ plan) w.plan (v.joined ++ w.joined) (theirs.same other_share) (All-append (λ p. p ≡ plan) v.joined w.joined mine.joined theirs.joined);
        drawn = λ x.
            let a = times-append x v.pending w.pending in
            let b = times-append x v.claiming.numbers w.claiming.numbers in
            let c = mine.drawn x in
            let d = theirs.drawn x in
            omega arith;
        made = either;
        planned = All-append (IsPlanned plan (views_joined v w)) v.claims w.claims
            (planned_in v (λ x. let e = times-append x v.claiming.numbers w.claiming.numbers in omega arith) mine.planned)
            (planned_in w (λ x. let e = times-append x v.claiming.numbers w.claiming.numbers in omega arith) theirs.planned);
        looked = All-append (λ seen. seen ≤ done) v.looks w.looks mine.looked theirs.looked;
        stable = flag v.stable w.stable mine.stable theirs.stable;
        judging = unflagged v.stable w.stable v.judging.numbers w.judging.numbers mine.judging theirs.judging;
        late_claiming = both_late (length plan) v.shares w.shares v.claiming.late w.claiming.late mine.late_claiming theirs.late_claiming;
        late_judging = both_late (length plan) v.shares w.shares v.judging.late w.judging.late mine.late_judging theirs.late_judging;
      }

-- the table with its first view
pub opens : (size : TableSize) (plan : Pieces) (shares : ℕ) → length plan < 2 ^ 32 → 0 < shares → shares ≡ size.workers → size.workers ≤ 8 → IsRuled size plan 0 0 0 (replicate size.rows 0) (new_view plan shares false ∷ [])
opens size plan shares few some_share are most =
    let drawn : (draws : ClaimView → Draws) → draws (new_view plan shares false) ≡ no_draws → AreDrawn 0 (length plan) draws (new_view plan shares false ∷ []) =
    (λ (draws : ClaimView → Draws) (none : draws (new_view plan shares false) ≡ no_draws). record {
      once = λ x. ap (λ (d : Draws). 0 + times x d.numbers) none ∙ none_below x;
      drawn = ap (λ (d : Draws). 0 + length d.numbers) none ∙ (omega arith);
      counted = ap (λ (d : Draws). 0 + (length d.numbers + length d.late)) none;
    }) in
    record {
      fits = All-cons (Fits plan 0) (new_view plan shares false) [] (fresh_fits plan 0 shares false some_share (λ on. absurd (true≢false (sym on)))) (All-nil (Fits plan 0));
      claiming = drawn (λ v. v.claiming) refl;
      judging = drawn (λ v. v.judging) refl;
      finished = refl;
      greatest = λ row within. get_or-replicate size.rows row 0 0 within;
      shares = omega arith;
      workers = most;
      few = few;
      long = length-replicate size.rows 0;
    }
  where
    nothing : (x : ℕ) → once_below x 0 ≡ 0
    nothing x = grind (arith, nat_tests)

    none_below : (x : ℕ) → 0 ≡ once_below x (min 0 (length plan))
    none_below x = sym (ap (once_below x) (let m : min 0 (length plan) ≡ 0 = omega arith in m) ∙ nothing x)
