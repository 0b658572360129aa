-- What each call owes for its step, by the rule.
use Rattle.std.proofs.Common.{◌≡◌, inl, inr, ℕ, zero, suc, ◌+◌, ◌-◌, ◌%◌, ◌^◌, ◌<◌, ◌≤◌, max, Bool, true, false, true≢false, List, [], ◌∷◌, length, set, replicate, refl, sym, ap, ◌∙◌, subst, ⊎_elim, arith, ltb-true, ltb-false}
use Rattle.std.specs.Prelude.{All, Contains, sum_by, slice_index, nat_lt, Some, None, if◌then◌else◌}
use Rattle.std.proofs.Math.Nat.{mod-eq_of_lt}
use Rattle.std.proofs.lemmas.List.Elements.{All-weaker}
use mathlib.Core.Option.{none, some, some-ne-none}
use lib.ListN.{get_elem?}
use lib.Seq.{set-get_or}
use Rattle.atomic_table.specs.Table.{step, keeps, Allows, Splits, Joins, opening}
use Rattle.atomic_table.proofs.Lists.{set_again}
use Rattle.claim_rule.specs.declared.view.ClaimView.{ClaimView}
use Rattle.claim_rule.specs.declared.size.TableSize.{TableSize}
use Rattle.claim_rule.specs.Plan.{Pieces, piece_of, final_of}
use Rattle.claim_rule.specs.Views.{new_view, closed_view, spent_view, claim_drawn, row_claimed, piece_finished, done_seen, judge_drawn, shares_kept, shares_given, views_joined}
use Rattle.claim_rule.specs.Rule.{Fits, IsRuled, IsClosed, IsOpen, Holds}
use Rattle.claim_rule.specs.Seats.{CanClaim, IsClaimed}
use Rattle.claim_rule.specs.inner.Steps.{Seated, drawn_at, DrawsFrom, SeesDone, Settles}
use Rattle.claim_rule.proofs.Drawing.{drawn_new, drawn_room, drawn_once, drawn_small}
use Rattle.claim_rule.proofs.Finals.{fits_at, done_within, header_final, done_all, all_numbers}
use Rattle.claim_rule.proofs.Moves.{draw_claim_some, draw_claim_none, draw_judge_some, draw_judge_none, see_done, claim_row, finish}
use Rattle.claim_rule.proofs.Sharing.{split, join, opens}
use Rattle.claim_rule.proofs.Words.{on_claimed, on_done, on_judged, on_header, splits_by, joins_by}

wraps_not : (x y : ℕ) → x ≤ y + 8 → y < 2 ^ 32 → (x + 1) % 2 ^ 64 ≡ x + 1
wraps_not x y low few = mod-eq_of_lt (omega arith)

-- a load leaves the header that it reads
unmoved : (headers : List ℕ) (row : ℕ) → set headers row (slice_index headers row) ≡ headers
unmoved headers row = set-get_or headers row 0

module _ (size : TableSize) (slots id : ℕ) (me : Seated) (opened : me.0.closed ≡ false) (some_share : 0 < me.0.shares) where
  module _ (views : List ClaimView) (plan : Pieces) (claimed done judged : ℕ) (headers : List ℕ) (r : IsRuled size plan claimed done judged headers views) (at : get_elem? views id ≡ some me.0) where
    fits : Fits plan done me.0
    fits = fits_at size plan claimed done judged headers views r id me.0 at

    known : me.0.plan ≡ plan
    known = fits.same some_share

    few_shares : sum_by (λ u. u.shares) views ≤ 8
    few_shares = let shares = r.shares in let workers = r.workers in omega arith

    claimed_small : claimed ≤ length plan + 8
    claimed_small = drawn_small claimed (length plan) (λ u. u.claiming) views r.claiming (All-weaker (Fits plan done) (λ u. length u.claiming.late ≤ u.shares) (λ u f. f.late_claiming.few) views r.fits) few_shares

    judged_small : judged ≤ length plan + 8
    judged_small = drawn_small judged (length plan) (λ u. u.judging) views r.judging (All-weaker (Fits plan done) (λ u. length u.judging.late ≤ u.shares) (λ u f. f.late_judging.few) views r.fits) few_shares

    claim_ruled : length me.0.claiming.late < me.0.shares → (b : Bool) → nat_lt claimed (length plan) ≡ b → IsRuled size plan (claimed + 1) done judged headers (set views id (claim_drawn (if b then Some claimed else None) claimed me.0))
    claim_ruled unspent true is = draw_claim_some size plan claimed done judged headers views r id me.0 at some_share (ltb-true claimed (length plan) is)
    claim_ruled unspent false is = draw_claim_none size plan claimed done judged headers views r id me.0 at some_share (ltb-false claimed (length plan) is) unspent

    judge_ruled : me.0.stable ≡ true → length me.0.judging.late < me.0.shares → (b : Bool) → nat_lt judged (length plan) ≡ b → IsRuled size plan claimed done (judged + 1) headers (set views id (judge_drawn (if b then Some judged else None) judged me.0))
    judge_ruled flag unspent true is = draw_judge_some size plan claimed done judged headers views r id me.0 at some_share flag (ltb-true judged (length plan) is)
    judge_ruled flag unspent false is = draw_judge_none size plan claimed done judged headers views r id me.0 at some_share flag (ltb-false judged (length plan) is) unspent

    pub claim_told : length me.0.claiming.late < me.0.shares → (w : ClaimView) × IsRuled size plan ((claimed + 1) % 2 ^ 64) done judged headers (set views id w) × DrawsFrom (λ u. u.claiming) claim_drawn me claimed (w, me.1)
    claim_told unspent = (
      claim_drawn (drawn_at claimed (length me.0.plan)) claimed me.0,
      subst (λ (n : ℕ). IsRuled size plan n done judged headers (set views id (claim_drawn (drawn_at claimed (length me.0.plan)) claimed me.0))) (sym (wraps_not claimed (length plan) claimed_small r.few))
          (subst (λ (p : Pieces). IsRuled size plan (claimed + 1) done judged headers (set views id (claim_drawn (drawn_at claimed (length p)) claimed me.0))) (sym known) (claim_ruled unspent (nat_lt claimed (length plan)) refl)),
      record {
        leaves = refl;
        new = λ below. drawn_new claimed (length plan) (λ u. u.claiming) views r.claiming id me.0 at (subst (λ (p : Pieces). claimed < length p) known below);
        room = λ below. subst (λ (p : Pieces). length me.0.claiming.numbers < length p) (sym known) (drawn_room claimed (length plan) (λ u. u.claiming) views r.claiming id me.0 at (subst (λ (p : Pieces). claimed < length p) known below));
      },
    )

    pub judge_told : me.0.stable ≡ true → length me.0.judging.late < me.0.shares → (w : ClaimView) × IsRuled size plan claimed done ((judged + 1) % 2 ^ 64) headers (set views id w) × DrawsFrom (λ u. u.judging) judge_drawn me judged (w, me.1)
    judge_told flag unspent = (
      judge_drawn (drawn_at judged (length me.0.plan)) judged me.0,
      subst (λ (n : ℕ). IsRuled size plan claimed done n headers (set views id (judge_drawn (drawn_at judged (length me.0.plan)) judged me.0))) (sym (wraps_not judged (length plan) judged_small r.few))
          (subst (λ (p : Pieces). IsRuled size plan claimed done (judged + 1) headers (set views id (judge_drawn (drawn_at judged (length p)) judged me.0))) (sym known) (judge_ruled flag unspent (nat_lt judged (length plan)) refl)),
      record {
        leaves = refl;
        new = λ below. drawn_new judged (length plan) (λ u. u.judging) views r.judging id me.0 at (subst (λ (p : Pieces). judged < length p) known below);
        room = λ below. subst (λ (p : Pieces). length me.0.judging.numbers < length p) (sym known) (drawn_room judged (length plan) (λ u. u.judging) views r.judging id me.0 at (subst (λ (p : Pieces). judged < length p) known below));
      },
    )

    pub finish_told : (piece : ℕ) → IsClaimed me.0 piece → (w : ClaimView) × IsRuled size plan claimed ((done + 1) % 2 ^ 64) judged headers (set views id w) × ◌≡◌ {A = Seated} (w, me.1) (piece_finished piece me.0, me.1)
    finish_told piece claims = (
      piece_finished piece me.0,
      subst (λ (n : ℕ). IsRuled size plan claimed n judged headers (set views id (piece_finished piece me.0)))
          (sym (wraps_not done (length plan) (let most = done_within size plan claimed done judged headers views r in omega arith) r.few))
          (finish size plan claimed done judged headers views r id me.0 at piece claims.pending (subst (λ (p : Pieces). All (Contains me.0.claims) (piece_of p piece)) known claims.made)),
      refl,
    )

    pub row_told : (row word : ℕ) → row < size.rows → CanClaim me.0 row word → (w : ClaimView) × IsRuled size plan claimed done judged (set headers row (max (slice_index headers row) word)) (set views id w) × ◌≡◌ {A = Seated} (w, me.1) (row_claimed row word me.0, me.1)
    row_told row word within can = (
      row_claimed row word me.0,
      claim_row size plan claimed done judged headers views r id me.0 at row word within can.piece can.pending (subst (λ (p : Pieces). Contains (piece_of p can.piece) (row, word)) known can.planned),
      refl,
    )

    pub done_told : (w : ClaimView) × IsRuled size plan claimed done judged headers (set views id w) × SeesDone size.workers (step slots 1 0 0 none) me done (w, me.1)
    done_told =
        let most : done ≤ length plan = done_within size plan claimed done judged headers views r in
        let few = r.few in (
          done_seen done me.0,
          see_done size plan claimed done judged headers views r id me.0 at some_share,
          record {
            leaves = refl;
            within = subst (λ (p : Pieces). done ≤ length p) (sym known) most;
            small = omega arith;
            still = λ on. fits.stable on ∙ ap length (sym known);
            risen = fits.looked;
            last = λ all late none_left. done_all size plan claimed done judged headers views r id me.0 at all late none_left ∙ ap length (sym known);
          },
        )

    same_views : IsRuled size plan claimed done judged headers (set views id me.0)
    same_views = subst (IsRuled size plan claimed done judged headers) (sym (set_again views id me.0 at)) r

    pub header_told : (row : ℕ) → row < size.rows → me.0.stable ≡ true → (w : ClaimView) × IsRuled size plan claimed done judged (set headers row (slice_index headers row)) (set views id w) × ((◌≡◌ {A = Seated} (w, me.1) me) × (slice_index headers row ≡ final_of me.0.plan row))
    header_told row within flag = (
      me.0,
      subst (λ (hs : List ℕ). IsRuled size plan claimed done judged hs (set views id me.0)) (sym (unmoved headers row)) same_views,
      (refl, header_final size plan claimed done judged headers views r (fits.stable flag) row within ∙ ap (λ (p : Pieces). final_of p row) (sym known)),
    )

    pub once_told : (w : ClaimView) × IsRuled size plan claimed done judged headers (set views id w) × Settles size.workers (step slots 0 0 0 none) me claimed (w, me.1)
    once_told = (
      me.0,
      same_views,
      record {
        leaves = refl;
        joined = subst (λ (mine : Pieces). All (λ p. p ≡ mine) me.0.joined) (sym known) fits.joined;
        once = record {
          claiming = drawn_once claimed (length plan) (λ u. u.claiming) views r.claiming id me.0 at;
          judging = drawn_once judged (length plan) (λ u. u.judging) views r.judging id me.0 at;
        };
        all = λ all. all_numbers size plan claimed done judged headers views r id me.0 at all known;
      },
    )

  -- ---- the goals of the calls

  pub draws_claim : length me.0.claiming.late < me.0.shares → Allows (Holds size) slots id me 0 (λ n. (n + 1) % 2 ^ 64) (DrawsFrom (λ u. u.claiming) claim_drawn me)
  draws_claim unspent = on_claimed size id me slots 0 (λ n. (n + 1) % 2 ^ 64) (DrawsFrom (λ u. u.claiming) claim_drawn me) refl opened
      (λ views plan claimed done judged headers r at. claim_told views plan claimed done judged headers r at unspent)

  pub draws_judge : me.0.stable ≡ true → length me.0.judging.late < me.0.shares → Allows (Holds size) slots id me 2 (λ n. (n + 1) % 2 ^ 64) (DrawsFrom (λ u. u.judging) judge_drawn me)
  draws_judge flag unspent = on_judged size id me slots 2 (λ n. (n + 1) % 2 ^ 64) (DrawsFrom (λ u. u.judging) judge_drawn me) refl opened
      (λ views plan claimed done judged headers r at. judge_told views plan claimed done judged headers r at flag unspent)

  pub finishes : (piece : ℕ) → IsClaimed me.0 piece → Allows (Holds size) slots id me 1 (λ n. (n + 1) % 2 ^ 64) (λ found now. now ≡ (piece_finished piece me.0, me.1))
  finishes piece claims = on_done size id me slots 1 (λ n. (n + 1) % 2 ^ 64) (λ found now. now ≡ (piece_finished piece me.0, me.1)) refl opened
      (λ views plan claimed done judged headers r at. finish_told views plan claimed done judged headers r at piece claims)

  pub claims_row : (row word : ℕ) → row < size.rows → CanClaim me.0 row word → Allows (Holds size) slots id me (row + 3) (λ n. max n word) (λ found now. now ≡ (row_claimed (row + 3 - 3) word me.0, me.1))
  claims_row row word within can = subst (λ (k : ℕ). Allows (Holds size) slots id me (row + 3) (λ n. max n word) (λ found now. now ≡ (row_claimed k word me.0, me.1))) (let e : row ≡ row + 3 - 3 = omega arith in e)
      (on_header size id me slots (row + 3) row (λ n. max n word) (λ found now. now ≡ (row_claimed row word me.0, me.1)) refl opened
      (λ views plan claimed done judged headers r at. row_told views plan claimed done judged headers r at row word within can))

  pub sees_done : Allows (Holds size) slots id me 1 (λ n. n) (SeesDone size.workers (step slots 1 0 0 none) me)
  sees_done = on_done size id me slots 1 (λ n. n) (SeesDone size.workers (step slots 1 0 0 none) me) refl opened
      (λ views plan claimed done judged headers r at. done_told views plan claimed done judged headers r at)

  pub reads_header : (row : ℕ) → row < size.rows → me.0.stable ≡ true → Allows (Holds size) slots id me (row + 3) (λ n. n) (λ found now. (now ≡ me) × (found ≡ final_of me.0.plan (row + 3 - 3)))
  reads_header row within flag = subst (λ (k : ℕ). Allows (Holds size) slots id me (row + 3) (λ n. n) (λ found now. (now ≡ me) × (found ≡ final_of me.0.plan k))) (let e : row ≡ row + 3 - 3 = omega arith in e)
      (on_header size id me slots (row + 3) row (λ n. n) (λ found now. (now ≡ me) × (found ≡ final_of me.0.plan row)) refl opened
      (λ views plan claimed done judged headers r at. header_told views plan claimed done judged headers r at row within flag))

  pub settles : Allows (Holds size) slots id me 0 (λ n. n) (Settles size.workers (step slots 0 0 0 none) me)
  settles = on_claimed size id me slots 0 (λ n. n) (Settles size.workers (step slots 0 0 0 none) me) refl opened
      (λ views plan claimed done judged headers r at. once_told views plan claimed done judged headers r at)

pub splits : (size : TableSize) (id : ℕ) (v : ClaimView) (part : ℕ) → v.closed ≡ false → 0 < part → part < v.shares → length v.claiming.late + part ≤ v.shares → length v.judging.late + part ≤ v.shares
    → Splits (Holds size) id v (shares_kept part v) (shares_given part v)
splits size id v part opened some_part less claims_late judges_late = splits_by size id v (shares_kept part v) (shares_given part v) opened
    (λ views plan claimed done judged headers r at. split size plan claimed done judged headers views r id v at part some_part less claims_late judges_late)

pub joins : (size : TableSize) (id : ℕ) (v : ClaimView) (other : ℕ) (w : ClaimView) → v.closed ≡ false → 0 < v.shares → 0 < w.shares → Joins (Holds size) id v other w (views_joined v w) spent_view
joins size id v other w opened some_share other_share = joins_by size id v other w (views_joined v w) spent_view opened
    (λ views plan claimed done judged headers r at apart there. join size plan claimed done judged headers views r id v at other w apart there some_share other_share)

-- the table as it is made, and the step that gives it its plan
pub begins : (size : TableSize) (words : List ℕ) → words ≡ 0 ∷ 0 ∷ 0 ∷ replicate size.rows 0 → Holds size (opening words [] closed_view)
begins size words are = inl record { words = are; views = refl }

pub opens_as : (size : TableSize) (slots id : ℕ) (me : Seated) (plan : Pieces) (shares : ℕ) → me.0 ≡ closed_view → length plan < 2 ^ 32 → 0 < shares → shares ≡ size.workers → size.workers ≤ 8
    → Allows (Holds size) slots id me 0 (λ n. n) (λ found now. now ≡ (new_view plan shares false, me.1))
opens_as size slots id me plan shares closed few some_share are most s holds deep at small = ⊎_elim
    (λ (c : IsClosed size s).
    let w = new_view plan shares false in
    let first : (views : List ClaimView) → views ≡ closed_view ∷ [] → get_elem? views id ≡ some me.0 → set views id w ≡ w ∷ [] =
    (λ (views : List ClaimView) (only : views ≡ closed_view ∷ []) (here : get_elem? views id ≡ some me.0). ap (λ (l : List ClaimView). set l id w) only ∙ alone id w me.0 (sym (ap (λ (l : List ClaimView). get_elem? l id) only) ∙ here)) in (
      w,
      keeps,
      tt,
      inr record {
        plan = plan;
        claimed = 0;
        done = 0;
        judged = 0;
        headers = replicate size.rows 0;
        words = set-get_or s.words 0 0 ∙ c.words;
        ruled = subst (IsRuled size plan 0 0 0 (replicate size.rows 0)) (sym (first s.views c.views at)) (opens size plan shares few some_share are most);
      },
      refl,
    ))
    (λ (o : IsOpen size s).
    let ruled = o.ruled in
    let fits = fits_at size o.plan o.claimed o.done o.judged o.headers s.views ruled id me.0 at in
    absurd (true≢false (sym (ap (λ (u : ClaimView). u.closed) closed) ∙ fits.opened)))
    holds
  where
    alone : (k : ℕ) (w v : ClaimView) → get_elem? (closed_view ∷ []) k ≡ some v → set (closed_view ∷ []) k w ≡ w ∷ []
    alone zero w v e = refl
    alone (suc k) w v e = absurd (some-ne-none v (sym e))
