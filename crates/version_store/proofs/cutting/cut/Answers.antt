use Rattle.std.proofs.Common.{◌≡◌, ◌⊎◌, ◌≢◌, inl, inr, length, ◌∙◌, sym, ap, arith}
use Rattle.std.specs.Option.{option_copied}
use Rattle.std.proofs.lemmas.Result.{MatchResult-weaker}
use Rattle.version_store.proofs.Counted.{front_replaces, left_within}
use Rattle.version_store.proofs.cutting.cut.Goals as goal
use Rattle.version_store.proofs.cutting.cut.Goals.{else-count-gt0-via-then-count-gt0+else-count-len, else-count-gt0-via-else-count-gt0}

pub front-requires : goal.front-requires
front-requires c = omega (arith, c.count_left-count.ensures, left_within c.args.horizon c.in-Some.chain.now)

pub returns : goal.returns
returns c =
    MatchResult-weaker c.replace.result c.replace.ensures
    (λ done is.
    is
    ∙ front_replaces c.args.horizon c.args.row.now c.in-Some.chain.now c.in_ok-left-in-Some.left c.count_left-count.result c.args.rows.now
    (sym (ap option_copied c.in-Some.is) ∙ c.get.ensures) c.count_left-count.ensures c.in_ok-left-in-Some.ensures fewer)
    (λ e none. none)
  where
    fewer : (c.count_left-count.result ≡ 0) ⊎ (c.count_left-count.result ≢ length c.in-Some.chain.now)
    fewer = elim c.else-count-gt0.branch [
      | else-count-gt0-via-then-count-gt0+else-count-len w ↦ inr (λ all. w.if-count-len.false (all ∙ sym w.len.ensures))
      | else-count-gt0-via-else-count-gt0 w ↦ inl (omega (arith, w.if-count-gt0.false))
    ]
