-- Why statements and seals are refused: the number of each refusal, its word, and what it names.
use Rattle.std.specs.Prelude.{ℕ, List, [], ◌++◌, codes}
use Rattle.std.specs.Fmt.{decimal}
use Rattle.geo_schema.specs.Schemas.{Tables}
use Rattle.geo_report.specs.Words.{id_text, row_name}
use Rattle.geo_report.specs.declared.refusal.Refusal.{Refusal}
use Rattle.geo_report.specs.declared.refusal.Refusal.TheVariants as refusal
use Rattle.geo_report.specs.declared.notice.SealWhy.{SealWhy}
use Rattle.geo_report.specs.declared.notice.SealWhy.TheVariants as seal

-- the number of a refusal
abbrev pub number_of : Refusal → ℕ
number_of (refusal.BadText _) = 10
number_of (refusal.BadSyntax _) = 11
number_of (refusal.TooDeep _) = 12
number_of (refusal.NoTable _) = 20
number_of (refusal.NoColumn _) = 21
number_of (refusal.Ambiguous _) = 22
number_of refusal.TypeClash = 23
number_of refusal.WrongCount = 24
number_of (refusal.KeyColumn _) = 25
number_of (refusal.NotGrouped _) = 26
number_of refusal.NotLockable = 27
number_of (refusal.Duplicate _) = 30
number_of (refusal.NullNotAllowed _) = 31
number_of refusal.Overflow = 32
number_of refusal.DivideByZero = 33
number_of (refusal.TextTooLong _) = 34
number_of refusal.ResultTooLong = 37
number_of refusal.NotInTransaction = 40
number_of refusal.AlreadyIn = 41
number_of refusal.ReadOnly = 42
number_of (refusal.TooOldHorizon _) = 43
number_of (refusal.TooOldStart _ _) = 43
number_of (refusal.NotPublished _) = 44
number_of refusal.Gone = 45
number_of (refusal.Waiting _) = 46
number_of refusal.BatchFull = 47
number_of refusal.TooManyRows = 48
number_of refusal.TooLarge = 49
number_of refusal.Down = 52
number_of refusal.NotBuilt = 90

-- the word of a refusal
abbrev pub word_of : Refusal → List ℕ
word_of (refusal.BadText _) = codes "BadText"
word_of (refusal.BadSyntax _) = codes "BadSyntax"
word_of (refusal.TooDeep _) = codes "TooDeep"
word_of (refusal.NoTable _) = codes "NoTable"
word_of (refusal.NoColumn _) = codes "NoColumn"
word_of (refusal.Ambiguous _) = codes "Ambiguous"
word_of refusal.TypeClash = codes "TypeClash"
word_of refusal.WrongCount = codes "WrongCount"
word_of (refusal.KeyColumn _) = codes "KeyColumn"
word_of (refusal.NotGrouped _) = codes "NotGrouped"
word_of refusal.NotLockable = codes "NotLockable"
word_of (refusal.Duplicate _) = codes "Duplicate"
word_of (refusal.NullNotAllowed _) = codes "NullNotAllowed"
word_of refusal.Overflow = codes "Overflow"
word_of refusal.DivideByZero = codes "DivideByZero"
word_of (refusal.TextTooLong _) = codes "TextTooLong"
word_of refusal.ResultTooLong = codes "ResultTooLong"
word_of refusal.NotInTransaction = codes "NotInTransaction"
word_of refusal.AlreadyIn = codes "AlreadyIn"
word_of refusal.ReadOnly = codes "ReadOnly"
word_of (refusal.TooOldHorizon _) = codes "TooOld"
word_of (refusal.TooOldStart _ _) = codes "TooOld"
word_of (refusal.NotPublished _) = codes "NotPublished"
word_of refusal.Gone = codes "Gone"
word_of (refusal.Waiting _) = codes "Waiting"
word_of refusal.BatchFull = codes "BatchFull"
word_of refusal.TooManyRows = codes "TooManyRows"
word_of refusal.TooLarge = codes "TooLarge"
word_of refusal.Down = codes "Down"
word_of refusal.NotBuilt = codes "NotBuilt"

-- what a refusal names, behind its word
abbrev pub named_by : Tables → Refusal → List ℕ
named_by tables (refusal.BadText at) = codes " " ++ decimal at
named_by tables (refusal.BadSyntax at) = codes " " ++ decimal at
named_by tables (refusal.TooDeep at) = codes " " ++ decimal at
named_by tables (refusal.NoTable name) = codes " " ++ name
named_by tables (refusal.NoColumn name) = codes " " ++ name
named_by tables (refusal.Ambiguous name) = codes " " ++ name
named_by tables (refusal.KeyColumn name) = codes " " ++ name
named_by tables (refusal.NotGrouped name) = codes " " ++ name
named_by tables (refusal.Duplicate row) = codes " " ++ row_name tables row
named_by tables (refusal.NullNotAllowed name) = codes " " ++ name
named_by tables (refusal.TextTooLong name) = codes " " ++ name
named_by tables (refusal.TooOldHorizon horizon) = codes " horizon " ++ decimal horizon
named_by tables (refusal.TooOldStart start open_epoch) = codes " start " ++ decimal start ++ codes " open " ++ decimal open_epoch
named_by tables (refusal.NotPublished published) = codes " published " ++ decimal published
named_by tables (refusal.Waiting id) = codes " " ++ id_text id
named_by tables _ = []

-- a refusal: its number, its word, and what it names
abbrev pub refusal_text : Tables → Refusal → List ℕ
refusal_text tables why = decimal (number_of why) ++ codes " " ++ word_of why ++ named_by tables why

-- the number of a refused seal
abbrev pub seal_number : SealWhy → ℕ
seal_number seal.Ahead = 50
seal_number seal.LastEpoch = 51

-- the word of a refused seal
abbrev pub seal_word : SealWhy → List ℕ
seal_word seal.Ahead = codes "Ahead"
seal_word seal.LastEpoch = codes "LastEpoch"

-- a refused seal: its number and its word
abbrev pub seal_text : SealWhy → List ℕ
seal_text why = decimal (seal_number why) ++ codes " " ++ seal_word why
