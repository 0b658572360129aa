use Rattle.std.proofs.Common.{◌≡◌, true, false}
use Rattle.sql_lex.specs.declared.symbol.Symbol.TheVariants.{Comma}
use Rattle.sql_parse.specs.inner.Kinds.{is_symbol}
use Rattle.sql_parse.specs.inner.Reading.{begins}
use Rattle.sql_parse.proofs.CodeLists.{one_turn, no_turn, read_all, read_ended, read_more}
use Rattle.sql_parse.proofs.list.read_separated.Goals as goal
use Rattle.sql_parse.proofs.list.read_separated.Goals.{else-loop-turn-test, then-loop-turn-test+then-not-eat_symbol}

pub loop-turn-preserved : goal.loop-turn-preserved
loop-turn-preserved g c =
    let comma : begins (is_symbol Comma) c.loop-turn.cursor ≡ true = cc in
    let so_far = one_turn g.T.Part.reader _ _ _ _ _ c.loop-turn-test.true c.loop-turn.invariant in
    rw c.in_ok-push-2.ensures.items (read_more g.T.Part.reader _ _ _ _ c.eat_symbol.new.self _ _ so_far comma (c.eat_symbol.ensures.eaten (cc)) c.in_ok-read-2.ensures)

pub returns : goal.returns
returns g c = elim c.loop-turn-test.branch [
  | else-loop-turn-test w ↦
      let whole = read_all g.T.Part.reader _ _ _ (no_turn g.T.Part.reader _ _ _ _ _ w.loop-turn-test.false c.loop-turn.invariant) in
      cc
  | then-loop-turn-test+then-not-eat_symbol w ↦
      let none : begins (is_symbol Comma) c.loop-turn.cursor ≡ false = cc in
      let whole = read_ended g.T.Part.reader _ _ _ _ (one_turn g.T.Part.reader _ _ _ _ _ w.loop-turn-test.true c.loop-turn.invariant) none in
      let kept = w.eat_symbol.ensures.kept (cc) in
      cc
]
