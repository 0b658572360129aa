-- What a table knows in which all pieces are finished, or one isn't.
use Rattle.std.proofs.Common.{◌≡◌, ℕ, ◌<◌, ◌≤◌, min, List, [], length, ap, ◌∙◌, subst, arith}
use Rattle.std.specs.Prelude.{sum_by, All, Contains, slice_index}
use Rattle.std.proofs.lemmas.List.Elements.{All-weaker}
use mathlib.Core.Option.{some}
use lib.ListN.{get_elem?}
use Rattle.claim_rule.specs.declared.view.ClaimView.{ClaimView}
use Rattle.claim_rule.specs.declared.size.TableSize.{TableSize}
use Rattle.claim_rule.specs.Plan.{Pieces, piece_of, top, word_on, best, final_of}
use Rattle.claim_rule.specs.Views.{times, spent_view}
use Rattle.claim_rule.specs.Rule.{once_below, IsPlanned, Fits, IsRuled}
use Rattle.claim_rule.specs.Seats.{HasAllNumbers}
use Rattle.claim_rule.proofs.Sums.{each_at, sum_at, sum_alone, sum_some}
use Rattle.claim_rule.specs.laws.Times.{times_none}
use Rattle.claim_rule.specs.laws.Tops.{top_at, top_least, best_at, piece_below, piece_at}
use Rattle.claim_rule.proofs.Drawing.{once_there, drawn_all, drawn_each}

-- pairs that are among others have at most their best
best_among : (row : ℕ) (pairs claims : List (ℕ × ℕ)) → All (Contains claims) pairs → best row pairs ≤ best row claims
best_among row pairs claims among = top_least (word_on row) pairs (best row claims) (λ i pair at. best_at claims row pair (each_at (Contains claims) pairs i pair among at))

module _ (size : TableSize) (plan : Pieces) (claimed done judged : ℕ) (headers : List ℕ) (views : List ClaimView) (r : IsRuled size plan claimed done judged headers views) where
  pub fits_at : (id : ℕ) (v : ClaimView) → get_elem? views id ≡ some v → Fits plan done v
  fits_at id v at = each_at (Fits plan done) views id v r.fits at

  -- while a view has a number that isn't finished, not all are
  pub undone : (id : ℕ) (v : ClaimView) → get_elem? views id ≡ some v → 0 < length v.pending → done < length plan
  undone id v at some_pending =
      let here = sum_at (λ u. length u.pending) views id v at in
      let count = r.finished in
      let all = r.claiming.drawn in
      omega arith

  -- at most as many are finished as there are
  pub done_within : done ≤ length plan
  done_within =
      let count = r.finished in
      let all = r.claiming.drawn in
      omega arith

  -- a word of a claim is at most the final word of its row
  planned_below : (v : ClaimView) → Fits plan done v → (row : ℕ) → best row v.claims ≤ final_of plan row
  planned_below v fits row = top_least (word_on row) v.claims (final_of plan row)
      (λ i pair at.
      let p = each_at (IsPlanned plan v) v.claims i pair fits.planned at in
      let low = best_at (piece_of plan p.0) row pair p.2 in
      let high = piece_below plan p.0 row in
      omega arith)

  header_below : (row : ℕ) → top (λ v. best row v.claims) views ≤ final_of plan row
  header_below row = top_least (λ v. best row v.claims) views (final_of plan row) (λ i v at. planned_below v (fits_at i v at) row)

  -- once all pieces are finished, each has all its claims among those of a view
  header_above : done ≡ length plan → (row : ℕ) → final_of plan row ≤ top (λ v. best row v.claims) views
  header_above all row = top_least (best row) plan (top (λ v. best row v.claims) views)
      (λ x pairs at.
      let piece = piece_at plan x pairs at in
      let count = r.finished in
      let drawn = r.claiming.drawn in
      let most : min claimed (length plan) ≡ length plan = omega arith in
      let none : sum_by (λ v. length v.pending) views ≡ 0 = omega arith in
      let one : sum_by (λ v. times x v.claiming.numbers) views ≡ 1 = r.claiming.once x ∙ ap (once_below x) most ∙ once_there x (length plan) piece.1 in
      let some_one : 0 < sum_by (λ v. times x v.claiming.numbers) views = omega arith in
      let seat = sum_some (λ v. times x v.claiming.numbers) views some_one in
      let fits = fits_at seat.0 seat.1 seat.2 in
      let few = sum_at (λ v. length v.pending) views seat.0 seat.1 seat.2 in
      let bare : length seat.1.pending ≡ 0 = omega arith in
      let made = fits.made x record { drawn = seat.3; over = times_none x seat.1.pending bare } in
      let low : best row pairs ≤ best row seat.1.claims = best_among row pairs seat.1.claims (subst (λ (l : List (ℕ × ℕ)). All (Contains seat.1.claims) l) piece.0 made) in
      let high = top_at (λ v. best row v.claims) views seat.0 seat.1 seat.2 in
      omega arith)

  -- a header that is read once all pieces are finished is the final word
  pub header_final : done ≡ length plan → (row : ℕ) → row < size.rows → slice_index headers row ≡ final_of plan row
  header_final all row within =
      let is = r.greatest row within in
      let low = header_below row in
      let high = header_above all row in
      omega arith

  -- ---- a view with the shares of all workers has all that was drawn
  module _ (id : ℕ) (v : ClaimView) (at : get_elem? views id ≡ some v) (all : v.shares ≡ size.workers) where
    whole : sum_by (λ u. u.shares) views ≡ v.shares
    whole = let shares = r.shares in omega arith

    bare : {A : Type 0} → (f : ClaimView → A) → All (λ u. u.shares ≡ 0 → f u ≡ f spent_view) views
    bare f = All-weaker (Fits plan done) (λ u. u.shares ≡ 0 → f u ≡ f spent_view) (λ u fits none. ap f (fits.empty none)) views r.fits

    -- where a draw of a claim piece came too late and nothing is pending, all pieces are finished
    pub done_all : 0 < length v.claiming.late → v.pending ≡ [] → done ≡ length plan
    done_all late none =
        let numbers = drawn_all claimed (length plan) (λ u. u.claiming) views r.claiming id v at (bare (λ u. u.claiming)) whole late in
        let drawn = sum_alone (λ u. u.shares) (λ u. length u.claiming.numbers) views id v at (bare (λ u. length u.claiming.numbers)) whole in
        let pending = sum_alone (λ u. u.shares) (λ u. length u.pending) views id v at (bare (λ u. length u.pending)) whole in
        let nothing : length v.pending ≡ 0 = ap length none in
        let count = r.finished in
        omega arith

    pub all_numbers : v.plan ≡ plan → HasAllNumbers v
    all_numbers known = record {
      claiming = λ late x below. drawn_each claimed (length plan) (λ u. u.claiming) views r.claiming id v at (bare (λ u. u.claiming)) whole late x (subst (λ (p : Pieces). x < length p) known below);
      judging = λ late x below. drawn_each judged (length plan) (λ u. u.judging) views r.judging id v at (bare (λ u. u.judging)) whole late x (subst (λ (p : Pieces). x < length p) known below);
    }
