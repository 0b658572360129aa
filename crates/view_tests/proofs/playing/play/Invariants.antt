use Rattle.view_tests.proofs.playing.play.Given as goal

-- the ledger of the blank that is handed on
abbrev pub ghosts-play_counted : goal.ghosts-play_counted
ghosts-play_counted a = record { name = a.blank.name; parts = a.blank.parts }
