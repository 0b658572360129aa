-- Each kind of step keeps the rule.
use Rattle.std.proofs.Common.{◌≡◌, ◌≢◌, ℕ, zero, suc, ◌+◌, ◌<◌, ◌≤◌, max, Bool, true, false, cond, true≢false, List, [], ◌∷◌, ◌++◌, length, set, refl, sym, ap, ◌∙◌, subst, arith, length-append, length-set, get_or-set_other, get_or-set_same, eq-eqb, ne_eqb, eqb-true}
use Rattle.std.specs.Prelude.{All, Contains, slice_index, Some, None, ◌==◌}
use Rattle.std.proofs.lemmas.List.Elements.{All-set, All-weaker, All-push, Contains-append_left}
use mathlib.Core.Option.{some}
use mathlib.Core.Logic.{dite}
use native.Mathlib.Decide.{ℕ_discrete}
use lib.ListN.{get_elem?}
use Rattle.claim_rule.specs.declared.view.Draws.{Draws}
use Rattle.claim_rule.specs.declared.view.ClaimView.{ClaimView}
use Rattle.claim_rule.specs.declared.size.TableSize.{TableSize}
use Rattle.claim_rule.specs.Plan.{Pieces, piece_of, word_on, best}
use Rattle.claim_rule.specs.Views.{times, claim_drawn, row_claimed, piece_finished, done_seen, judge_drawn}
use Rattle.claim_rule.specs.Rule.{IsPlanned, AreLate, Fits, AreDrawn, IsRuled}
use Rattle.claim_rule.proofs.Sums.{each_at, sum_set, sum_set_same}
use Rattle.claim_rule.specs.laws.Times.{times-append, times-le-length, length-without, times-without_other, times-without-le}
use Rattle.claim_rule.specs.laws.Tops.{top_at, top-append}
use Rattle.claim_rule.proofs.Tops.{top_set, top_set_same}
use Rattle.claim_rule.proofs.Drawing.{drawn_same, drawn_some, drawn_none, drawn_once}
use Rattle.claim_rule.proofs.Finals.{undone}

-- a view with shares isn't the spent one
pub some_shares : (v : ClaimView) (plan : Pieces) (done : ℕ) → Fits plan done v → 0 < length v.pending → 0 < v.shares
some_shares v plan done fits pending = by v.shares refl
  where
    by : (n : ℕ) → v.shares ≡ n → 0 < v.shares
    by zero none = let same = ap (λ (u : ClaimView). length u.pending) (fits.empty none) in absurd (omega arith)
    by (suc n) is = omega arith

-- a pair stays planned where more is drawn
planned_more : (plan : Pieces) (v w : ClaimView) → ((x : ℕ) → times x v.claiming.numbers ≤ times x w.claiming.numbers) → (claims : List (ℕ × ℕ)) → All (IsPlanned plan v) claims → All (IsPlanned plan w) claims
planned_more plan v w more claims all = All-weaker (IsPlanned plan v) (IsPlanned plan w) (λ pair p. (p.0, (let m = more p.0 in let d = p.1 in omega arith), p.2)) claims all

-- one more draw that came too late
late_more : (n shares : ℕ) (late : List ℕ) (x : ℕ) → AreLate n shares late → length late < shares → n ≤ x → AreLate n shares (late ++ x ∷ [])
late_more n shares late x are unspent above = record {
  few = let more : length (late ++ x ∷ []) ≡ length late + 1 = length-append late (x ∷ []) in omega arith;
  beyond = All-push (λ y. n ≤ y) late x are.beyond above;
}

-- what was seen of the done word before it counts one more
looked_more : (done : ℕ) (looks : List ℕ) → All (λ seen. seen ≤ done) looks → All (λ seen. seen ≤ done + 1) looks
looked_more done looks all = All-weaker (λ seen. seen ≤ done) (λ seen. seen ≤ done + 1) (λ seen (low : seen ≤ done). omega arith) looks all

module _ (size : TableSize) (plan : Pieces) (claimed done judged : ℕ) (headers : List ℕ) (views : List ClaimView) (r : IsRuled size plan claimed done judged headers views) (id : ℕ) (v : ClaimView) (at : get_elem? views id ≡ some v) where
  mine : Fits plan done v
  mine = each_at (Fits plan done) views id v r.fits at

  -- ---- draw a claim piece

  pub draw_claim_some : 0 < v.shares → claimed < length plan → IsRuled size plan (claimed + 1) done judged headers (set views id (claim_drawn (Some claimed) claimed v))
  draw_claim_some some_share below =
      let w = claim_drawn (Some claimed) claimed v in
      record {
        fits = All-set (Fits plan done) views id w fits r.fits;
        claiming = drawn_some claimed (length plan) (λ u. u.claiming) views r.claiming id v w at below refl;
        judging = drawn_same judged (length plan) (λ u. u.judging) views r.judging id v w at refl;
        finished =
            let one = sum_set (λ u. length u.pending) views id v w at in
            let two = sum_set (λ u. length u.claiming.numbers) views id v w at in
            let a : length (v.pending ++ claimed ∷ []) ≡ length v.pending + 1 = length-append v.pending (claimed ∷ []) in
            let b : length (v.claiming.numbers ++ claimed ∷ []) ≡ length v.claiming.numbers + 1 = length-append v.claiming.numbers (claimed ∷ []) in
            let count = r.finished in
            omega arith;
        greatest = λ row within. r.greatest row within ∙ sym (top_set_same (λ u. best row u.claims) views id v w at refl);
        shares = let same = sum_set_same (λ u. u.shares) views id v w at refl in let all = r.shares in omega arith;
        workers = r.workers;
        few = r.few;
        long = r.long;
      }
    where
      more : (x : ℕ) → times x v.claiming.numbers ≤ times x (v.claiming.numbers ++ claimed ∷ [])
      more x = let e = times-append x v.claiming.numbers (claimed ∷ []) in omega arith

      fits : Fits plan done (claim_drawn (Some claimed) claimed v)
      fits = record {
        opened = mine.opened;
        same = mine.same;
        empty = λ none. absurd (omega arith);
        joined = mine.joined;
        drawn = λ x. let a = times-append x v.pending (claimed ∷ []) in let b = times-append x v.claiming.numbers (claimed ∷ []) in let c = mine.drawn x in omega arith;
        made = λ x f.
            let a = times-append x v.pending (claimed ∷ []) in
            let b = times-append x v.claiming.numbers (claimed ∷ []) in
            let over = f.over in
            let has = f.drawn in
            mine.made x record { drawn = omega arith; over = omega arith };
        planned = planned_more plan v (claim_drawn (Some claimed) claimed v) more v.claims mine.planned;
        looked = mine.looked;
        stable = mine.stable;
        judging = mine.judging;
        late_claiming = mine.late_claiming;
        late_judging = mine.late_judging;
      }

  pub draw_claim_none : 0 < v.shares → length plan ≤ claimed → length v.claiming.late < v.shares → IsRuled size plan (claimed + 1) done judged headers (set views id (claim_drawn None claimed v))
  draw_claim_none some_share above unspent =
      let w = claim_drawn None claimed v in
      record {
        fits = All-set (Fits plan done) views id w record {
          opened = mine.opened;
          same = mine.same;
          empty = λ none. absurd (omega arith);
          joined = mine.joined;
          drawn = mine.drawn;
          made = λ x f. mine.made x record { drawn = f.drawn; over = f.over };
          planned = planned_more plan v w (λ x. let e : times x v.claiming.numbers ≡ times x w.claiming.numbers = refl in omega arith) v.claims mine.planned;
          looked = mine.looked;
          stable = mine.stable;
          judging = mine.judging;
          late_claiming = late_more (length plan) v.shares v.claiming.late claimed mine.late_claiming unspent above;
          late_judging = mine.late_judging;
        } r.fits;
        claiming = drawn_none claimed (length plan) (λ u. u.claiming) views r.claiming id v w at above refl;
        judging = drawn_same judged (length plan) (λ u. u.judging) views r.judging id v w at refl;
        finished =
            let one = sum_set_same (λ u. length u.pending) views id v w at refl in
            let two = sum_set_same (λ u. length u.claiming.numbers) views id v w at refl in
            let count = r.finished in
            omega arith;
        greatest = λ row within. r.greatest row within ∙ sym (top_set_same (λ u. best row u.claims) views id v w at refl);
        shares = let same = sum_set_same (λ u. u.shares) views id v w at refl in let all = r.shares in omega arith;
        workers = r.workers;
        few = r.few;
        long = r.long;
      }

  -- ---- draw a judging piece, and look at done: the views keep what they have for claiming

  -- the rule where the view changes in its flag and in what it has drawn for judging
  judged_so : (w : ClaimView) (judged' : ℕ) → w.closed ≡ v.closed → w.plan ≡ v.plan → w.shares ≡ v.shares → w.claiming ≡ v.claiming → w.pending ≡ v.pending → w.claims ≡ v.claims
      → Fits plan done w → AreDrawn judged' (length plan) (λ u. u.judging) (set views id w) → IsRuled size plan claimed done judged' headers (set views id w)
  judged_so w judged' a b c d e f fits drawn = record {
    fits = All-set (Fits plan done) views id w fits r.fits;
    claiming = drawn_same claimed (length plan) (λ u. u.claiming) views r.claiming id v w at d;
    judging = drawn;
    finished =
        let one = sum_set_same (λ u. length u.pending) views id v w at (ap length e) in
        let two = sum_set_same (λ u. length u.claiming.numbers) views id v w at (ap (λ (x : Draws). length x.numbers) d) in
        let count = r.finished in
        omega arith;
    greatest = λ row within. r.greatest row within ∙ sym (top_set_same (λ u. best row u.claims) views id v w at (ap (best row) f));
    shares = let same = sum_set_same (λ u. u.shares) views id v w at c in let all = r.shares in omega arith;
    workers = r.workers;
    few = r.few;
    long = r.long;
  }

  pub draw_judge_some : 0 < v.shares → v.stable ≡ true → judged < length plan → IsRuled size plan claimed done (judged + 1) headers (set views id (judge_drawn (Some judged) judged v))
  draw_judge_some some_share flag below =
      let w = judge_drawn (Some judged) judged v in
      judged_so w (judged + 1) refl refl refl refl refl refl
      record {
        opened = mine.opened;
        same = mine.same;
        empty = λ none. absurd (omega arith);
        joined = mine.joined;
        drawn = mine.drawn;
        made = λ x f. mine.made x record { drawn = f.drawn; over = f.over };
        planned = planned_more plan v w (λ x. let e : times x v.claiming.numbers ≡ times x w.claiming.numbers = refl in omega arith) v.claims mine.planned;
        looked = mine.looked;
        stable = mine.stable;
        judging = λ off. absurd (true≢false (sym flag ∙ off));
        late_claiming = mine.late_claiming;
        late_judging = mine.late_judging;
      }
      (drawn_some judged (length plan) (λ u. u.judging) views r.judging id v w at below refl)

  pub draw_judge_none : 0 < v.shares → v.stable ≡ true → length plan ≤ judged → length v.judging.late < v.shares → IsRuled size plan claimed done (judged + 1) headers (set views id (judge_drawn None judged v))
  draw_judge_none some_share flag above unspent =
      let w = judge_drawn None judged v in
      judged_so w (judged + 1) refl refl refl refl refl refl
      record {
        opened = mine.opened;
        same = mine.same;
        empty = λ none. absurd (omega arith);
        joined = mine.joined;
        drawn = mine.drawn;
        made = λ x f. mine.made x record { drawn = f.drawn; over = f.over };
        planned = planned_more plan v w (λ x. let e : times x v.claiming.numbers ≡ times x w.claiming.numbers = refl in omega arith) v.claims mine.planned;
        looked = mine.looked;
        stable = mine.stable;
        judging = mine.judging;
        late_claiming = mine.late_claiming;
        late_judging = late_more (length plan) v.shares v.judging.late judged mine.late_judging unspent above;
      }
      (drawn_none judged (length plan) (λ u. u.judging) views r.judging id v w at above refl)

  pub see_done : 0 < v.shares → IsRuled size plan claimed done judged headers (set views id (done_seen done v))
  see_done some_share =
      let w = done_seen done v in
      let known : v.plan ≡ plan = mine.same some_share in
      judged_so w judged refl refl refl refl refl refl
      record {
        opened = mine.opened;
        same = mine.same;
        empty = λ none. absurd (omega arith);
        joined = mine.joined;
        drawn = mine.drawn;
        made = λ x f. mine.made x record { drawn = f.drawn; over = f.over };
        planned = planned_more plan v w (λ x. let e : times x v.claiming.numbers ≡ times x w.claiming.numbers = refl in omega arith) v.claims mine.planned;
        looked = All-push (λ seen. seen ≤ done) v.looks done mine.looked (omega arith);
        stable = λ on. eqb-true done (length v.plan) on ∙ ap length known;
        judging = λ off. by v.stable refl off;
        late_claiming = mine.late_claiming;
        late_judging = mine.late_judging;
      }
      (drawn_same judged (length plan) (λ u. u.judging) views r.judging id v w at refl)
    where
      by : (b : Bool) → v.stable ≡ b → (done == length v.plan) ≡ false → v.judging.numbers ≡ []
      by true on off = absurd (true≢false (sym (eq-eqb done (length v.plan) (mine.stable on ∙ sym (ap length (mine.same some_share)))) ∙ off))
      by false was off = mine.judging was

  -- ---- claim a row

  pub claim_row : (row word : ℕ) → row < size.rows → (x : ℕ) → 0 < times x v.pending → Contains (piece_of plan x) (row, word)
      → IsRuled size plan claimed done judged (set headers row (max (slice_index headers row) word)) (set views id (row_claimed row word v))
  claim_row row word within x pending has =
      let w = row_claimed row word v in
      let much = times-le-length x v.pending in
      let some_pending : 0 < length v.pending = omega arith in
      let some_share = some_shares v plan done mine some_pending in
      let drawn : 0 < times x v.claiming.numbers = (let d = mine.drawn x in omega arith) in
      record {
        fits = All-set (Fits plan done) views id w record {
          opened = mine.opened;
          same = mine.same;
          empty = λ none. absurd (omega arith);
          joined = mine.joined;
          drawn = mine.drawn;
          made = λ y f. All-weaker (Contains v.claims) (Contains w.claims) (λ pair c. Contains-append_left v.claims ((row, word) ∷ []) pair c) (piece_of plan y) (mine.made y record { drawn = f.drawn; over = f.over });
          planned = All-push (IsPlanned plan w) v.claims (row, word)
              (planned_more plan v w (λ y. let e : times y v.claiming.numbers ≡ times y w.claiming.numbers = refl in omega arith) v.claims mine.planned)
              (x, drawn, has);
          looked = mine.looked;
          stable = mine.stable;
          judging = mine.judging;
          late_claiming = mine.late_claiming;
          late_judging = mine.late_judging;
        } r.fits;
        claiming = drawn_same claimed (length plan) (λ u. u.claiming) views r.claiming id v w at refl;
        judging = drawn_same judged (length plan) (λ u. u.judging) views r.judging id v w at refl;
        finished =
            let one = sum_set_same (λ u. length u.pending) views id v w at refl in
            let two = sum_set_same (λ u. length u.claiming.numbers) views id v w at refl in
            let count = r.finished in
            omega arith;
        greatest = λ other inside.
            let was = r.greatest other inside in
            let here = top_at (λ u. best other u.claims) views id v at in
            let adds : best other (v.claims ++ (row, word) ∷ []) ≡ max (best other v.claims) (max (word_on other (row, word)) 0) = top-append (word_on other) v.claims ((row, word) ∷ []) in
            let more : best other v.claims ≤ best other w.claims = omega arith in
            let now = top_set (λ u. best other u.claims) views id v w at more in
            let header = raised other (omega arith) in
            omega arith;
        shares = let same = sum_set_same (λ u. u.shares) views id v w at refl in let all = r.shares in omega arith;
        workers = r.workers;
        few = r.few;
        long = length-set headers row (max (slice_index headers row) word) ∙ r.long;
      }
    where
      raised : (other : ℕ) → row < length headers → slice_index (set headers row (max (slice_index headers row) word)) other ≡ max (slice_index headers other) (word_on other (row, word))
      raised other inside = dite (ℕ_discrete other row)
          (λ (same : other ≡ row).
          let on : word_on other (row, word) ≡ word = ap (λ (b : Bool). cond b word 0) (eq-eqb row other (sym same)) in
          let put : slice_index (set headers row (max (slice_index headers row) word)) row ≡ max (slice_index headers row) word = get_or-set_same headers row (max (slice_index headers row) word) 0 inside in
          ap (slice_index (set headers row (max (slice_index headers row) word))) same ∙ put ∙ (let there = ap (slice_index headers) same in omega arith))
          (λ (apart : other ≢ row).
          let off : word_on other (row, word) ≡ 0 = ap (λ (b : Bool). cond b word 0) (ne_eqb row other (λ e. apart (sym e))) in
          get_or-set_other headers row other (max (slice_index headers row) word) 0 apart ∙ (omega arith))

  -- ---- finish a piece

  pub finish : (x : ℕ) → 0 < times x v.pending → All (Contains v.claims) (piece_of plan x) → IsRuled size plan claimed (done + 1) judged headers (set views id (piece_finished x v))
  finish x pending made =
      let w = piece_finished x v in
      let much = times-le-length x v.pending in
      let some_pending : 0 < length v.pending = omega arith in
      let some_share = some_shares v plan done mine some_pending in
      let open_still = undone size plan claimed done judged headers views r id v at some_pending in
      let others : (u : ClaimView) → Fits plan done u → Fits plan (done + 1) u =
      (λ (u : ClaimView) (f : Fits plan done u). record {
        opened = f.opened;
        same = f.same;
        empty = f.empty;
        joined = f.joined;
        drawn = f.drawn;
        made = f.made;
        planned = f.planned;
        looked = looked_more done u.looks f.looked;
        stable = λ on. let all = f.stable on in absurd (omega arith);
        judging = f.judging;
        late_claiming = f.late_claiming;
        late_judging = f.late_judging;
      }) in
      let one_only : times x v.pending ≤ 1 = (let d = mine.drawn x in let o = drawn_once claimed (length plan) (λ u. u.claiming) views r.claiming id v at x in omega arith) in
      record {
        fits = All-set (Fits plan (done + 1)) views id w record {
          opened = mine.opened;
          same = mine.same;
          empty = λ none. absurd (omega arith);
          joined = mine.joined;
          drawn = λ y. let a = times-without-le x y v.pending in let b = mine.drawn y in omega arith;
          made = λ y f. dite (ℕ_discrete y x)
              (λ (same : y ≡ x). subst (λ (n : ℕ). All (Contains v.claims) (piece_of plan n)) (sym same) made)
              (λ (other : y ≢ x). mine.made y record { drawn = f.drawn; over = sym (times-without_other x y v.pending other) ∙ f.over });
          planned = planned_more plan v w (λ y. let e : times y v.claiming.numbers ≡ times y w.claiming.numbers = refl in omega arith) v.claims mine.planned;
          looked = looked_more done v.looks mine.looked;
          stable = λ on. let all = mine.stable on in absurd (omega arith);
          judging = mine.judging;
          late_claiming = mine.late_claiming;
          late_judging = mine.late_judging;
        } (All-weaker (Fits plan done) (Fits plan (done + 1)) others views r.fits);
        claiming = drawn_same claimed (length plan) (λ u. u.claiming) views r.claiming id v w at refl;
        judging = drawn_same judged (length plan) (λ u. u.judging) views r.judging id v w at refl;
        finished =
            let one = sum_set (λ u. length u.pending) views id v w at in
            let two = sum_set_same (λ u. length u.claiming.numbers) views id v w at refl in
            let less = length-without x v.pending in
            let count = r.finished in
            omega arith;
        greatest = λ row within. r.greatest row within ∙ sym (top_set_same (λ u. best row u.claims) views id v w at refl);
        shares = let same = sum_set_same (λ u. u.shares) views id v w at refl in let all = r.shares in omega arith;
        workers = r.workers;
        few = r.few;
        long = r.long;
      }
