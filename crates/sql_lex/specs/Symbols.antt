-- The bytes of each symbol.
use Rattle.std.specs.Prelude.{ℕ, List, [], ◌∷◌}
use Rattle.sql_lex.specs.declared.symbol.Symbol.{Symbol}
use Rattle.sql_lex.specs.declared.symbol.Symbol.TheVariants.{Open, Close, Comma, Dot, Star, Plus, Minus, Slash, Equal, Differ, Less, LessEqual, More, MoreEqual}

-- the bytes of a symbol
abbrev pub symbol_bytes : Symbol → List ℕ
symbol_bytes Open = 40 ∷ []
symbol_bytes Close = 41 ∷ []
symbol_bytes Comma = 44 ∷ []
symbol_bytes Dot = 46 ∷ []
symbol_bytes Star = 42 ∷ []
symbol_bytes Plus = 43 ∷ []
symbol_bytes Minus = 45 ∷ []
symbol_bytes Slash = 47 ∷ []
symbol_bytes Equal = 61 ∷ []
symbol_bytes Differ = 60 ∷ 62 ∷ []
symbol_bytes Less = 60 ∷ []
symbol_bytes LessEqual = 60 ∷ 61 ∷ []
symbol_bytes More = 62 ∷ []
symbol_bytes MoreEqual = 62 ∷ 61 ∷ []
