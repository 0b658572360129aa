-- What moving the horizon makes of what is kept.
use Rattle.std.proofs.Common.{◌≡◌, ℕ, ◌+◌, ◌<◌, ◌≤◌, Bool, true, false, cond, ◌&&◌, ◌||◌, nat_eq, nat_le, nat_lt, Option, None, Some, unwrap_or, List, [], ◌∷◌, ◌++◌, length, drop, get_or, All, filter, refl, sym, ap, ◌∙◌, subst, arith}
use Rattle.std.specs.List.{list_any}
use Rattle.std.specs.Option.{is_some}
use Rattle.std.proofs.lemmas.Bool.Decides.{nat_tests}
use Rattle.std.proofs.lemmas.List.{drop_more}
use Rattle.std.proofs.lemmas.List.Folds.{list_any-append}
use Rattle.std.proofs.lemmas.List.Elements.{All-nil, All-cons, All-head, All-tail, All-weaker}
use Rattle.geo_base.specs.declared.row_id.RowId.{RowId}
use Rattle.geo_base.specs.Order.{row_cmp, row_eq}
use Rattle.geo_base.specs.laws.Orders.{row_cmp_total}
use Rattle.write_set.specs.laws.Rivals.{row_same}
use Rattle.page_map.specs.Pairs.{IsRising, found_at, put_in}
use Rattle.page_map.specs.laws.Orders.{rising_put, rising_without}
use Rattle.version_store.specs.Chains.{Version, Chain, FallsBelow, standing, kept_at}
use Rattle.version_store.specs.History.{Kept, IsKeptChain, IsKept, IsTrimmed}
use Rattle.version_store.specs.laws.Trimming.{kept_again}
use Rattle.version_store.specs.inner.Writing.{Rows, settled, cut_by, cut, all_cut}
use Rattle.version_store.specs.inner.Noting.{Note, is_noted, rows_upto, AreNoted, Notes}
use Rattle.version_store.specs.laws.Sameness.{some_of}
use Rattle.version_store.proofs.Finding.{found_settled}

-- ---- one row

is_same : (a b : ℕ) → nat_eq a b ≡ true → a ≡ b
is_same a b h = grind (arith, nat_tests, h)

-- what is found of a row after the horizon was moved to the epoch
abbrev left_of : ℕ → Option Chain → Option Chain
left_of horizon None = None
left_of horizon (Some chain) = some_of (kept_at horizon chain)

-- where as many are left as there were, all are
all_left : (horizon : ℕ) (chain : Chain) → length (kept_at horizon chain) ≡ length chain → kept_at horizon chain ≡ chain
all_left horizon [] same = refl
all_left horizon (version ∷ older) same = by (nat_lt horizon version.epoch) (is_some version.image) same (all_left horizon older)
  where
    alone : (rest : Chain) → 1 ≡ length (version ∷ rest) → version ∷ [] ≡ version ∷ rest
    alone [] one = refl
    alone (next ∷ rest) one = absurd (omega (arith, one))

    by : (b c : Bool) → length (cond b (version ∷ kept_at horizon older) (cond c (version ∷ []) [])) ≡ length (version ∷ older) →
        (length (kept_at horizon older) ≡ length older → kept_at horizon older ≡ older) →
        cond b (version ∷ kept_at horizon older) (cond c (version ∷ []) []) ≡ version ∷ older
    by true c as_many rest = ap (λ chain. version ∷ chain) (rest (omega (arith, as_many)))
    by false true as_many rest = alone older as_many
    by false false as_many rest = absurd (omega (arith, as_many))

found_cut : (horizon : ℕ) (row at : RowId) (rows : Rows) →
    found_at row_cmp at (cut horizon row rows) ≡ cond (row_eq at row) (left_of horizon (found_at row_cmp at rows)) (found_at row_cmp at rows)
found_cut horizon row at rows = by (found_at row_cmp row rows) refl
  where
    there : (held : Option Chain) → found_at row_cmp row rows ≡ held → row_eq at row ≡ true → held ≡ found_at row_cmp at rows
    there held is same = sym is ∙ ap (λ r. found_at row_cmp r rows) (sym (row_same at row same))

    inside : (held : Option Chain) → found_at row_cmp row rows ≡ held → (b : Bool) → row_eq at row ≡ b →
        cond b (left_of horizon held) (found_at row_cmp at rows) ≡ cond b (left_of horizon (found_at row_cmp at rows)) (found_at row_cmp at rows)
    inside held is true same = ap (left_of horizon) (there held is same)
    inside held is false same = refl

    nothing : (b : Bool) → row_eq at row ≡ b → found_at row_cmp row rows ≡ None → found_at row_cmp at rows ≡ cond b None (found_at row_cmp at rows)
    nothing true same is = sym (there None is same)
    nothing false same is = refl

    by : (held : Option Chain) → found_at row_cmp row rows ≡ held →
        found_at row_cmp at (cut_by horizon row held rows) ≡ cond (row_eq at row) (left_of horizon (found_at row_cmp at rows)) (found_at row_cmp at rows)
    by None is = nothing (row_eq at row) refl is ∙ inside None is (row_eq at row) refl
    by (Some chain) is =
        found_settled (length chain) row at (kept_at horizon chain) rows
        (λ as_many. is ∙ ap Some (sym (all_left horizon chain (is_same (length (kept_at horizon chain)) (length chain) as_many))))
        ∙ inside (Some chain) is (row_eq at row) refl

left_again : (horizon : ℕ) (chain : Chain) → kept_at horizon chain ≡ chain → left_of horizon (some_of chain) ≡ some_of chain
left_again horizon [] same = refl
left_again horizon (version ∷ older) same = ap some_of same

left_twice : (horizon : ℕ) (held : Option Chain) → left_of horizon (left_of horizon held) ≡ left_of horizon held
left_twice horizon None = refl
left_twice horizon (Some chain) = left_again horizon (kept_at horizon chain) (kept_again horizon horizon chain (omega arith))

-- ---- one row after all are cut

-- the rows of two lists are cut list by list
pub cut_append : (horizon : ℕ) (names more : List RowId) (rows : Rows) →
    all_cut horizon (names ++ more) rows ≡ all_cut horizon more (all_cut horizon names rows)
cut_append horizon [] more rows = refl
cut_append horizon (row ∷ names) more rows = cut_append horizon names more (cut horizon row rows)

found_all_cut : (horizon : ℕ) (names : List RowId) (rows : Rows) (at : RowId) →
    found_at row_cmp at (all_cut horizon names rows)
    ≡ cond (list_any (row_eq at) names) (left_of horizon (found_at row_cmp at rows)) (found_at row_cmp at rows)
found_all_cut horizon [] rows at = refl
found_all_cut horizon (row ∷ more) rows at =
    found_all_cut horizon more (cut horizon row rows) at
    ∙ ap (λ held. cond (list_any (row_eq at) more) (left_of horizon held) held) (found_cut horizon row at rows)
    ∙ by (row_eq at row) (list_any (row_eq at) more) (found_at row_cmp at rows)
  where
    by : (b c : Bool) (held : Option Chain) →
        cond c (left_of horizon (cond b (left_of horizon held) held)) (cond b (left_of horizon held) held) ≡ cond (b || c) (left_of horizon held) held
    by true true held = left_twice horizon held
    by true false held = refl
    by false c held = refl

-- ---- a row that isn't noted up to the horizon

is_upto : (a b : ℕ) → a ≤ b → nat_le a b ≡ true
is_upto a b h = grind (arith, nat_tests, h)

isnt_upto : (a b : ℕ) → b < a → nat_le a b ≡ false
isnt_upto a b h = grind (arith, nat_tests, h)

is_later : (a b : ℕ) → a < b → nat_lt a b ≡ true
is_later a b h = grind (arith, nat_tests, h)

is_not_later : (a b : ℕ) → b ≤ a → nat_lt a b ≡ false
is_not_later a b h = grind (arith, nat_tests, h)

later_is : (a b : ℕ) → nat_lt a b ≡ true → a < b
later_is a b h = grind (arith, nat_tests, h)

upto_is : (a b : ℕ) → nat_lt a b ≡ false → b ≤ a
upto_is a b h = grind (arith, nat_tests, h)

noted_upto : (notes : List Note) (epoch horizon : ℕ) (row : RowId) → epoch ≤ horizon → is_noted notes epoch row ≡ true →
    list_any (row_eq row) (rows_upto horizon notes) ≡ true
noted_upto [] epoch horizon row upto is = cc
noted_upto (n ∷ notes) epoch horizon row upto is =
    by (nat_eq n.epoch epoch) (list_any (row_eq row) n.rows) refl refl is (noted_upto notes epoch horizon row upto)
  where
    front : list_any (row_eq row) n.rows ≡ true → list_any (row_eq row) (n.rows ++ rows_upto horizon notes) ≡ true
    front has = list_any-append (row_eq row) n.rows (rows_upto horizon notes) ∙ ap (λ b. b || list_any (row_eq row) (rows_upto horizon notes)) has

    or_true : (b : Bool) → (b || true) ≡ true
    or_true true = refl
    or_true false = refl

    behind : (b : Bool) → list_any (row_eq row) (rows_upto horizon notes) ≡ true →
        list_any (row_eq row) (cond b (n.rows ++ rows_upto horizon notes) (rows_upto horizon notes)) ≡ true
    behind true has =
        list_any-append (row_eq row) n.rows (rows_upto horizon notes) ∙ (ap (λ b. list_any (row_eq row) n.rows || b) has ∙ or_true (list_any (row_eq row) n.rows))
    behind false has = has

    by : (b c : Bool) → nat_eq n.epoch epoch ≡ b → list_any (row_eq row) n.rows ≡ c → ((b && c) || is_noted notes epoch row) ≡ true →
        (is_noted notes epoch row ≡ true → list_any (row_eq row) (rows_upto horizon notes) ≡ true) →
        list_any (row_eq row) (cond (nat_le n.epoch horizon) (n.rows ++ rows_upto horizon notes) (rows_upto horizon notes)) ≡ true
    by true true same has is rest =
        let number : n.epoch ≡ epoch = is_same n.epoch epoch same in
        ap (λ b. list_any (row_eq row) (cond b (n.rows ++ rows_upto horizon notes) (rows_upto horizon notes))) (is_upto n.epoch horizon (omega (arith, number, upto)))
        ∙ front has
    by true false same has is rest = behind (nat_le n.epoch horizon) (rest is)
    by false c same has is rest = behind (nat_le n.epoch horizon) (rest is)

same_left : (earlier later : ℕ) (chain : Chain) → earlier ≤ later → All (λ v. earlier < v.epoch → later < v.epoch) chain →
    kept_at later chain ≡ kept_at earlier chain
same_left earlier later [] order all = refl
same_left earlier later (version ∷ older) order all =
    by (nat_lt earlier version.epoch) refl
    (same_left earlier later older order (All-tail (λ v. earlier < v.epoch → later < v.epoch) version older all))
  where
    by : (b : Bool) → nat_lt earlier version.epoch ≡ b → kept_at later older ≡ kept_at earlier older →
        kept_at later (version ∷ older) ≡ cond b (version ∷ kept_at earlier older) (standing version)
    by true is rest =
        ap (λ b. cond b (version ∷ kept_at later older) (standing version))
        (is_later later version.epoch (All-head (λ v. earlier < v.epoch → later < v.epoch) version older all (later_is earlier version.epoch is)))
        ∙ ap (λ chain. version ∷ chain) rest
    by false is rest =
        let within : version.epoch ≤ earlier = upto_is earlier version.epoch is in
        ap (λ b. cond b (version ∷ kept_at later older) (standing version)) (is_not_later later version.epoch (omega (arith, within, order)))

-- ---- what holds of all versions holds of those that are left

falls_standing : (bound : ℕ) (version : Version) → (1 ≤ version.epoch) → version.epoch < bound → FallsBelow bound (standing version)
falls_standing bound version some below = by (is_some version.image)
  where
    by : (b : Bool) → FallsBelow bound (cond b (version ∷ []) [])
    by true = (some, below, tt)
    by false = tt

falls_kept : (horizon bound : ℕ) (chain : Chain) → FallsBelow bound chain → FallsBelow bound (kept_at horizon chain)
falls_kept horizon bound [] falls = tt
falls_kept horizon bound (version ∷ older) falls = by (nat_lt horizon version.epoch) (falls_kept horizon version.epoch older falls.2)
  where
    by : (b : Bool) → FallsBelow version.epoch (kept_at horizon older) → FallsBelow bound (cond b (version ∷ kept_at horizon older) (standing version))
    by true rest = (falls.0, falls.1, rest)
    by false rest = falls_standing bound version falls.0 falls.1

all_kept : (P : Version → Type 0) (horizon : ℕ) (chain : Chain) → All P chain → All P (kept_at horizon chain)
all_kept P horizon [] all = all
all_kept P horizon (version ∷ older) all =
    by (nat_lt horizon version.epoch) (is_some version.image) (all_kept P horizon older (All-tail P version older all))
  where
    by : (b c : Bool) → All P (kept_at horizon older) → All P (cond b (version ∷ kept_at horizon older) (cond c (version ∷ []) []))
    by true c rest = All-cons P version (kept_at horizon older) (All-head P version older all) rest
    by false true rest = All-cons P version [] (All-head P version older all) (All-nil P)
    by false false rest = All-nil P

-- ---- what is kept

rising_settled : (before : ℕ) (row : RowId) (chain : Chain) (rows : Rows) → IsRising row_cmp rows → IsRising row_cmp (settled before row chain rows)
rising_settled before row [] rows rising = rising_without row_cmp row_cmp_total row rows rising
rising_settled before row (version ∷ older) rows rising = by (nat_eq (length (version ∷ older)) before)
  where
    by : (b : Bool) → IsRising row_cmp (cond b rows (put_in row_cmp row (version ∷ older) rows))
    by true = rising
    by false = rising_put row_cmp row_cmp_total row (version ∷ older) rows rising

rising_cut : (horizon : ℕ) (row : RowId) (held : Option Chain) (rows : Rows) → IsRising row_cmp rows → IsRising row_cmp (cut_by horizon row held rows)
rising_cut horizon row None rows rising = rising
rising_cut horizon row (Some chain) rows rising = rising_settled (length chain) row (kept_at horizon chain) rows rising

rising_all_cut : (horizon : ℕ) (names : List RowId) (rows : Rows) → IsRising row_cmp rows → IsRising row_cmp (all_cut horizon names rows)
rising_all_cut horizon [] rows rising = rising
rising_all_cut horizon (row ∷ more) rows rising =
    rising_all_cut horizon more (cut horizon row rows) (rising_cut horizon row (found_at row_cmp row rows) rows rising)

left_some : (chain : Chain) → 1 ≤ length chain → some_of chain ≡ Some chain
left_some [] some = absurd (omega (arith, some))
left_some (version ∷ older) some = refl

some_length : (chain found : Chain) → some_of chain ≡ Some found → (chain ≡ found) × (1 ≤ length chain)
some_length [] found is = cc
some_length (version ∷ older) found is =
    let same : version ∷ older ≡ found = cc in
    (same, omega arith)

unwrapped : (chain : Chain) → unwrap_or (some_of chain) [] ≡ chain
unwrapped [] = refl
unwrapped (version ∷ older) = refl

module _ (old : Kept) (lawful : IsKept old) (notes : List Note) (noted : Notes notes old.horizon old.rows) (horizon : ℕ) (from : old.horizon ≤ horizon) where
  -- a row that no epoch up to the horizon changed keeps its versions
  unchanged : (row : RowId) (chain : Chain) → found_at row_cmp row old.rows ≡ Some chain → list_any (row_eq row) (rows_upto horizon notes) ≡ false →
      kept_at horizon chain ≡ chain
  unchanged row chain found none =
      same_left old.horizon horizon chain from
      (All-weaker (λ v. old.horizon < v.epoch → is_noted notes v.epoch row ≡ true) (λ v. old.horizon < v.epoch → horizon < v.epoch)
      (λ v has later. beyond v.epoch (has later)) chain (noted row chain found))
      ∙ (lawful.chains row chain found).whole
    where
      beyond : (epoch : ℕ) → is_noted notes epoch row ≡ true → horizon < epoch
      beyond epoch is = by (nat_lt horizon epoch) refl
        where
          by : (b : Bool) → nat_lt horizon epoch ≡ b → horizon < epoch
          by true later = later_is horizon epoch later
          by false later =
              let has : list_any (row_eq row) (rows_upto horizon notes) ≡ true = noted_upto notes epoch horizon row (upto_is horizon epoch later) is in
              let wrong : false ≡ true = sym none ∙ has in
              cc

  pub found_left : (row : RowId) →
      found_at row_cmp row (all_cut horizon (rows_upto horizon notes) old.rows) ≡ left_of horizon (found_at row_cmp row old.rows)
  found_left row =
      found_all_cut horizon (rows_upto horizon notes) old.rows row
      ∙ by (list_any (row_eq row) (rows_upto horizon notes)) (found_at row_cmp row old.rows) refl refl
    where
      by : (b : Bool) (held : Option Chain) → list_any (row_eq row) (rows_upto horizon notes) ≡ b → found_at row_cmp row old.rows ≡ held →
          cond b (left_of horizon held) held ≡ left_of horizon held
      by true held is found = refl
      by false None is found = refl
      by false (Some chain) is found =
          sym (ap some_of (unchanged row chain found is) ∙ left_some chain (lawful.chains row chain found).some)

  -- what is found then
  found_kept : (row : RowId) (chain : Chain) → found_at row_cmp row (all_cut horizon (rows_upto horizon notes) old.rows) ≡ Some chain →
      (whole : Chain) × (found_at row_cmp row old.rows ≡ Some whole) × (kept_at horizon whole ≡ chain) × (1 ≤ length (kept_at horizon whole))
  found_kept row chain found = by (found_at row_cmp row old.rows) refl (sym (found_left row) ∙ found)
    where
      by : (held : Option Chain) → found_at row_cmp row old.rows ≡ held → left_of horizon held ≡ Some chain →
          (whole : Chain) × (found_at row_cmp row old.rows ≡ Some whole) × (kept_at horizon whole ≡ chain) × (1 ≤ length (kept_at horizon whole))
      by None is left = cc
      by (Some whole) is left =
          let both = some_length (kept_at horizon whole) chain left in
          (whole, is, both.0, both.1)

  pub trimmed_kept : horizon ≤ old.applied → IsKept (record { horizon = horizon; applied = old.applied; rows = all_cut horizon (rows_upto horizon notes) old.rows })
  trimmed_kept upto = record {
    within = upto;
    rising = rising_all_cut horizon (rows_upto horizon notes) old.rows lawful.rising;
    chains = λ row chain found.
        let was = found_kept row chain found in
        subst (IsKeptChain horizon old.applied) was.2
        (record {
          some = was.3;
          falls = falls_kept horizon (old.applied + 1) was.0 (lawful.chains row was.0 was.1).falls;
          whole = kept_again horizon horizon was.0 (omega arith);
        });
  }

  noted_later : (more : List Note) (epoch : ℕ) (row : RowId) → horizon < epoch → is_noted more epoch row ≡ true →
      is_noted (filter (λ n. nat_lt horizon n.epoch) more) epoch row ≡ true
  noted_later [] epoch row later is = is
  noted_later (n ∷ more) epoch row later is =
      by (nat_lt horizon n.epoch) (nat_eq n.epoch epoch) (list_any (row_eq row) n.rows) refl refl refl is (noted_later more epoch row later)
    where
      by : (b c d : Bool) → nat_lt horizon n.epoch ≡ b → nat_eq n.epoch epoch ≡ c → list_any (row_eq row) n.rows ≡ d →
          ((c && d) || is_noted more epoch row) ≡ true → (is_noted more epoch row ≡ true → is_noted (filter (λ m. nat_lt horizon m.epoch) more) epoch row ≡ true) →
          is_noted (cond b (n ∷ filter (λ m. nat_lt horizon m.epoch) more) (filter (λ m. nat_lt horizon m.epoch) more)) epoch row ≡ true
      by true true true e same has noted rest =
          ap (λ c. (c && list_any (row_eq row) n.rows) || is_noted (filter (λ m. nat_lt horizon m.epoch) more) epoch row) same
          ∙ ap (λ d. d || is_noted (filter (λ m. nat_lt horizon m.epoch) more) epoch row) has
      by true true false e same has noted rest =
          ap (λ c. (c && list_any (row_eq row) n.rows) || is_noted (filter (λ m. nat_lt horizon m.epoch) more) epoch row) same
          ∙ (ap (λ d. d || is_noted (filter (λ m. nat_lt horizon m.epoch) more) epoch row) has ∙ rest noted)
      by true false d e same has noted rest =
          ap (λ c. (c && list_any (row_eq row) n.rows) || is_noted (filter (λ m. nat_lt horizon m.epoch) more) epoch row) same ∙ rest noted
      by false true d e same has noted rest =
          let number : n.epoch ≡ epoch = is_same n.epoch epoch same in
          absurd (omega (arith, later, upto_is horizon n.epoch e, number))
      by false false d e same has noted rest = rest noted

  pub trimmed_noted : Notes (filter (λ n. nat_lt horizon n.epoch) notes) horizon (all_cut horizon (rows_upto horizon notes) old.rows)
  trimmed_noted row chain found =
      let was = found_kept row chain found in
      subst (AreNoted (filter (λ n. nat_lt horizon n.epoch) notes) horizon row) was.2
      (all_kept (λ v. horizon < v.epoch → is_noted (filter (λ n. nat_lt horizon n.epoch) notes) v.epoch row ≡ true) horizon was.0
      (All-weaker (λ v. old.horizon < v.epoch → is_noted notes v.epoch row ≡ true) (λ v. horizon < v.epoch → is_noted (filter (λ n. nat_lt horizon n.epoch) notes) v.epoch row ≡ true)
      (λ v has later. noted_later notes v.epoch row later (has (omega (arith, from, later)))) was.0 (noted row was.0 was.1)))

  pub is_trimmed : IsTrimmed horizon old (record { horizon = horizon; applied = old.applied; rows = all_cut horizon (rows_upto horizon notes) old.rows })
  is_trimmed = record {
    horizon = refl;
    applied = refl;
    chains = λ row. ap (λ held. unwrap_or held []) (found_left row) ∙ by (found_at row_cmp row old.rows);
  }
    where
      by : (held : Option Chain) → unwrap_or (left_of horizon held) [] ≡ kept_at horizon (unwrap_or held [])
      by None = refl
      by (Some chain) = unwrapped (kept_at horizon chain)

-- the same, where the rows and the notes were computed
pub trimmed_by : (old : Kept) → IsKept old → (notes : List Note) → Notes notes old.horizon old.rows → (horizon : ℕ) → old.horizon ≤ horizon →
    (rows : Rows) → rows ≡ all_cut horizon (rows_upto horizon notes) old.rows →
    IsTrimmed horizon old (record { horizon = horizon; applied = old.applied; rows = rows })
trimmed_by old lawful notes noted horizon from rows whole =
    subst (λ (k : Kept). IsTrimmed horizon old k) (sym (λ i. record { horizon = horizon; applied = old.applied; rows = whole i }))
    (is_trimmed old lawful notes noted horizon from)

pub trimmed_whole : (old : Kept) → IsKept old → (notes : List Note) → Notes notes old.horizon old.rows → (horizon : ℕ) → old.horizon ≤ horizon → horizon ≤ old.applied →
    (rows : Rows) → rows ≡ all_cut horizon (rows_upto horizon notes) old.rows →
    (later : List Note) → later ≡ filter (λ n. nat_lt horizon n.epoch) notes →
    IsKept (record { horizon = horizon; applied = old.applied; rows = rows }) × Notes later horizon rows
trimmed_whole old lawful notes noted horizon from upto rows whole later left = (
  subst (λ (r : Rows). IsKept (record { horizon = horizon; applied = old.applied; rows = r })) (sym whole) (trimmed_kept old lawful notes noted horizon from upto),
  subst (λ (ns : List Note). Notes ns horizon rows) (sym left)
      (subst (λ (r : Rows). Notes (filter (λ n. nat_lt horizon n.epoch) notes) horizon r) (sym whole) (trimmed_noted old lawful notes noted horizon from)),
)

-- ---- the rows of the notes from one on

module _ (horizon : ℕ) (notes : List Note) (place : ℕ) (n : Note) (within : place < length notes) (read : n ≡ get_or notes place n) (rows : Rows) where
  abbrev rest : List Note
  rest = drop (place + 1) notes

  one_on : drop place notes ≡ n ∷ rest
  one_on = drop_more notes place n within ∙ ap (λ m. m ∷ rest) (sym read)

  -- those of a note up to the horizon are cut first
  pub cut_in : n.epoch ≤ horizon →
      all_cut horizon (rows_upto horizon (drop (place + 1) notes)) (all_cut horizon n.rows rows) ≡ all_cut horizon (rows_upto horizon (drop place notes)) rows
  cut_in upto =
      sym (cut_append horizon n.rows (rows_upto horizon rest) rows)
      ∙ (ap (λ b. all_cut horizon (cond b (n.rows ++ rows_upto horizon rest) (rows_upto horizon rest)) rows) (sym (is_upto n.epoch horizon upto))
      ∙ ap (λ ns. all_cut horizon (rows_upto horizon ns) rows) (sym one_on))

  -- those of a later note stay
  pub cut_out : horizon < n.epoch → all_cut horizon (rows_upto horizon (drop (place + 1) notes)) rows ≡ all_cut horizon (rows_upto horizon (drop place notes)) rows
  cut_out later =
      ap (λ b. all_cut horizon (cond b (n.rows ++ rows_upto horizon rest) (rows_upto horizon rest)) rows) (sym (isnt_upto n.epoch horizon later))
      ∙ ap (λ ns. all_cut horizon (rows_upto horizon ns) rows) (sym one_on)
