-- Inner: the symbol that the code takes, by the first two bytes.
use Rattle.std.specs.Prelude.{ℕ, ◌==◌, if◌then◌else◌, Option, Some, None}
use Rattle.sql_lex.specs.declared.symbol.Symbol.{Symbol}
use Rattle.sql_lex.specs.declared.symbol.Symbol.TheVariants.{Open, Close, Comma, Dot, Star, Plus, Minus, Slash, Equal, Differ, Less, LessEqual, More, MoreEqual}

-- the symbol that `<` begins
abbrev pub after_less : ℕ → Symbol
after_less next = if next == 62 then Differ else (if next == 61 then LessEqual else Less)

-- the symbol that `>` begins
abbrev pub after_more : ℕ → Symbol
after_more next = if next == 61 then MoreEqual else More

-- the symbol that the byte is alone
abbrev pub single : ℕ → Option Symbol
single first =
    if first == 40 then Some Open else (if first == 41 then Some Close else (if first == 44 then Some Comma else (if first == 46 then Some Dot
    else (if first == 42 then Some Star else (if first == 43 then Some Plus else (if first == 45 then Some Minus else (if first == 47 then Some Slash
    else (if first == 61 then Some Equal else None))))))))

-- the longest symbol that begins with the first byte, where the next one follows
abbrev pub symbol_of : ℕ → ℕ → Option Symbol
symbol_of first next =
    if first == 60 then Some (after_less next) else (if first == 62 then Some (after_more next) else single first)
