-- What a seat knows, and how each kind of step changes it.
use Rattle.std.specs.Prelude.{ℕ, ◌+◌, ◌-◌, Bool, true, false, not, ◌==◌, ◌||◌, Option, Some, None, List, [], ◌∷◌, ◌++◌, length, count_by, filter}
use Rattle.claim_rule.specs.declared.view.Draws.{Draws}
use Rattle.claim_rule.specs.declared.view.ClaimView.{ClaimView}
use Rattle.claim_rule.specs.Plan.{Pieces}

-- how often the number stands in the list
abbrev pub times : ℕ → List ℕ → ℕ
times x xs = count_by (λ y. y == x) xs

-- the list without the number
abbrev pub without : ℕ → List ℕ → List ℕ
without x xs = filter (λ y. not (y == x)) xs

-- before the first draw
abbrev pub no_draws : Draws
no_draws = record { numbers = []; late = [] }

-- a seat that knows the plan and has done nothing; it may have the flag, from the seat that it was split from
abbrev pub new_view : Pieces → ℕ → Bool → ClaimView
new_view plan shares stable = record { closed = false; plan = plan; shares = shares; claiming = no_draws; pending = []; claims = []; looks = []; stable = stable; judging = no_draws; joined = [] }

-- what a join leaves of the seat that was joined
abbrev pub spent_view : ClaimView
spent_view = new_view [] 0 false

-- the only view of a table that has no plan yet
abbrev pub closed_view : ClaimView
closed_view = record { closed = true; plan = []; shares = 0; claiming = no_draws; pending = []; claims = []; looks = []; stable = false; judging = no_draws; joined = [] }

-- draws after one more, which is of a piece, or came too late and gave this number
abbrev pub draws_after : Option ℕ → ℕ → Draws → Draws
draws_after (Some x) found d = record { numbers = d.numbers ++ x ∷ []; late = d.late }
draws_after None found d = record { numbers = d.numbers; late = d.late ++ found ∷ [] }

-- the pieces that aren't finished after a draw, which is of one more or came too late
abbrev pub pending_after : Option ℕ → List ℕ → List ℕ
pending_after (Some x) xs = xs ++ x ∷ []
pending_after None xs = xs

-- draw a claim piece, where the draw gave the number found
abbrev pub claim_drawn : Option ℕ → ℕ → ClaimView → ClaimView
claim_drawn drawn found v = record v { claiming = draws_after drawn found v.claiming; pending = pending_after drawn v.pending }

-- claim a row
abbrev pub row_claimed : ℕ → ℕ → ClaimView → ClaimView
row_claimed row word v = record v { claims = v.claims ++ (row, word) ∷ [] }

-- finish a piece
abbrev pub piece_finished : ℕ → ClaimView → ClaimView
piece_finished piece v = record v { pending = without piece v.pending }

-- look at the done word, which gave this count of pieces; the view has the flag exactly where these are all
abbrev pub done_seen : ℕ → ClaimView → ClaimView
done_seen done v = record v { looks = v.looks ++ done ∷ []; stable = done == length v.plan }

-- draw a judging piece, where the draw gave the number found
abbrev pub judge_drawn : Option ℕ → ℕ → ClaimView → ClaimView
judge_drawn drawn found v = record v { judging = draws_after drawn found v.judging }

-- split a seat: the caller's keeps the other shares
abbrev pub shares_kept : ℕ → ClaimView → ClaimView
shares_kept part v = record v { shares = v.shares - part }

-- and the new one has the plan, the flag and a part of the shares
abbrev pub shares_given : ℕ → ClaimView → ClaimView
shares_given part v = new_view v.plan part v.stable

-- what both have drawn from a counter
abbrev pub draws_joined : Draws → Draws → Draws
draws_joined d e = record { numbers = d.numbers ++ e.numbers; late = d.late ++ e.late }

-- join a seat, whose plan is kept beside the caller's
abbrev pub views_joined : ClaimView → ClaimView → ClaimView
views_joined v w = record {
  closed = v.closed;
  plan = v.plan;
  shares = v.shares + w.shares;
  claiming = draws_joined v.claiming w.claiming;
  pending = v.pending ++ w.pending;
  claims = v.claims ++ w.claims;
  looks = v.looks ++ w.looks;
  stable = v.stable || w.stable;
  judging = draws_joined v.judging w.judging;
  joined = w.plan ∷ (v.joined ++ w.joined);
}
