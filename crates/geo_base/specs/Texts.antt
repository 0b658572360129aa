-- How values are written: in the canonical text of a statement, and in what the program prints.
use Rattle.std.specs.Prelude.{ℕ, ◌==◌, true, false, if◌then◌else◌, List, [], ◌∷◌, ◌++◌, codes}
use Rattle.std.specs.List.{flat_map}
use Rattle.std.specs.Fmt.{signed_decimal}
use Rattle.geo_base.specs.declared.cell.Cell.{Cell}
use Rattle.geo_base.specs.declared.cell.Cell.TheVariants.{Null, Int, Text, Truth}

-- the text with each quote in it doubled
abbrev pub doubled : List ℕ → List ℕ
doubled text = flat_map (λ b. if b == 39 then 39 ∷ 39 ∷ [] else b ∷ []) text

-- a text in quotes, with each quote in it doubled
abbrev pub quoted : List ℕ → List ℕ
quoted text = codes "'" ++ doubled text ++ codes "'"

-- A cell: a number in decimal digits, behind a minus where it is below 0, and a text in quotes.
abbrev pub cell_text : Cell → List ℕ
cell_text Null = codes "NULL"
cell_text (Int number) = signed_decimal number
cell_text (Text text) = quoted text
cell_text (Truth true) = codes "TRUE"
cell_text (Truth false) = codes "FALSE"

-- the texts of the items, with a comma and a space between
abbrev pub commas : {T : Type 0} → (T → List ℕ) → List T → List ℕ
commas text [] = []
commas text (first ∷ others) = text first ++ flat_map (λ other. codes ", " ++ text other) others

-- a row: its cells in parentheses, with a comma and a space between
abbrev pub row_text : List Cell → List ℕ
row_text cells = codes "(" ++ commas cell_text cells ++ codes ")"
