-- What the tests know of the plan that they play.
use Rattle.std.proofs.Common.{◌≡◌, ℕ, ◌<◌, ◌++◌, sym, subst}
use Rattle.std.specs.Prelude.{All, Contains}
use Rattle.std.proofs.lemmas.List.Elements.{All-weaker, All-contains_itself, Contains-append_right}
use Rattle.claim_rule.specs.declared.view.ClaimView.{ClaimView}
use Rattle.claim_rule.specs.Plan.{Pieces, piece_of}
use Rattle.claim_rule.specs.Views.{times}
use Rattle.claim_rule.specs.Seats.{CanClaim, IsClaimed}
use Rattle.claim_rule.specs.inner.Trial.{three_pieces, pairs_claimed}

-- the seat can claim a pair of a piece at which it works
pub may_claim : (v : ClaimView) (piece row word : ℕ) → v.plan ≡ three_pieces → 0 < times piece v.pending → Contains (piece_of three_pieces piece) (row, word) → CanClaim v row word
may_claim v piece row word planned pending has = record { piece = piece; pending = pending; planned = subst (λ (p : Pieces). Contains (piece_of p piece) (row, word)) (sym planned) has }

-- once all its claims are made, it may be finished
pub claimed : (v w : ClaimView) (piece : ℕ) → v.plan ≡ three_pieces → 0 < times piece v.pending → w ≡ pairs_claimed piece v → IsClaimed w piece
claimed v w piece planned pending is = subst (λ (u : ClaimView). IsClaimed u piece) (sym is) record {
  pending = pending;
  made = subst (λ (p : Pieces). All (Contains (v.claims ++ piece_of three_pieces piece)) (piece_of p piece)) (sym planned)
      (All-weaker (Contains (piece_of three_pieces piece)) (Contains (v.claims ++ piece_of three_pieces piece)) (λ pair c. Contains-append_right v.claims (piece_of three_pieces piece) pair c) (piece_of three_pieces piece) (All-contains_itself (piece_of three_pieces piece)));
}
