-- What a seat finds as it works on a candidate is what the definitions say of it.
use Rattle.std.proofs.Common.{◌≡◌, ℕ, zero, suc, ◌^◌, ◌<◌, ◌≤◌, nat_lt, nat_le, Bool, true, false, cond, not, ◌&&◌, Option, None, Some, List, [], ◌∷◌, ◌++◌, length, map, Contains, All, refl, sym, ap, ◌∙◌, subst, arith}
use Rattle.std.specs.Prelude.{find, unwrap_or, slice_index_or}
use Rattle.std.specs.List.{slice_get, AllByRecursion}
use Rattle.std.specs.Option.{option_map}
use Rattle.std.specs.Map.{keys_of}
use Rattle.std.proofs.lemmas.Bool.Decides.{nat_tests}
use Rattle.std.proofs.lemmas.Option.{none-some, same_Some, slice_get-map, slice_get-get_or}
use Rattle.std.proofs.lemmas.List.{append-nil, length-map}
use Rattle.std.proofs.lemmas.List.Elements.{All-contains, All-from_recursion}
use Rattle.geo_base.specs.declared.row_id.RowId.{RowId}
use Rattle.geo_base.specs.declared.claim.Claim.{Claim}
use Rattle.geo_base.specs.declared.numbers.CandId.{CandId}
use Rattle.geo_base.specs.Claims.{word_of, IsClaim}
use Rattle.write_set.specs.Sets.{ChangeOfRow, has_row}
use Rattle.write_set.specs.Journal.{Placed}
use Rattle.write_set.specs.Merge.{claim_of, id_of, is_fresh, is_beaten_on, contenders, winner_of, first_changed, first_beaten, changed_or, beaten_or_committed, verdict_of}
use Rattle.write_set.specs.laws.Among.{among_first, among_later, filtered_among, all_among}
use Rattle.write_set.specs.laws.Rivals.{fresh_unchanged}
use Rattle.claim_rule.specs.Plan.{Pieces, piece_of, final_of}
use Rattle.claim_rule.specs.declared.view.ClaimView.{ClaimView}
use Rattle.claim_rule.specs.declared.table.ClaimTable.{ClaimTable}
use Rattle.claim_rule.specs.Seats.{rows_of}
use Rattle.merge_round.specs.declared.numbering.Entry.{Entry}
use Rattle.merge_round.specs.declared.verdict.Verdict.{Verdict}
use Rattle.merge_round.specs.declared.verdict.Verdict.TheVariants.{Committed, Changed, Beaten}
use Rattle.merge_round.specs.Rounds.{Round, rows_in, number_in, claims_of, plan_by, plan_of, final_word, numbered, verdict_on, AreClaims}
use Rattle.merge_round.specs.inner.Entries.{entry_of, first_above, last_at, claim_in, claims_made, IsEntry}
use Rattle.merge_round.proofs.Numbers.{number_named, row_known}
use Rattle.merge_round.proofs.Finals.{beaten_word, winner_word, no_winner_word}
use Rattle.merge_round.specs.laws.Judging.{find_same, found_passes}

-- ---- a candidate by its number

pub get_among : {X : Type 0} → (xs : List X) (i : ℕ) (x : X) → slice_get xs i ≡ Some x → Contains xs x
get_among [] i x at = absurd (none-some _ at)
get_among (y ∷ ys) zero x at = subst (Contains (y ∷ ys)) (same_Some _ _ at) (among_first y ys)
get_among (y ∷ ys) (suc i) x at = among_later y x ys (get_among ys i x at)

pub entry_at : (all : List Placed) (rows : List RowId) (entries : List Entry) (number : ℕ) (e : Entry) → rows ≡ rows_in all → entries ≡ map (entry_of rows) all →
    number < length all → e ≡ slice_index_or entries number e → IsEntry all number e
entry_at all rows entries number e named is within at =
    let long : length entries ≡ length all = ap length is ∙ length-map all (entry_of rows) in
    let here : slice_get entries number ≡ Some e = slice_get-get_or entries number e (omega arith) ∙ ap Some (sym at) in
    by (slice_get all number) refl (sym (slice_get-map (entry_of rows) all number) ∙ (ap (λ (l : List Entry). slice_get l number) (sym is) ∙ here))
  where
    by : (o : Option Placed) → slice_get all number ≡ o → option_map (entry_of rows) o ≡ Some e → IsEntry all number e
    by None is bad = absurd (none-some _ bad)
    by (Some c) is same = record { candidate = c; at = is; among = get_among all number c is; is = sym (same_Some _ _ same) ∙ ap (λ (rs : List RowId). entry_of rs c) named }

-- the plan's piece of its number
piece_at : (last : RowId → ℕ) (rows : List RowId) (cs : List Placed) (number : ℕ) (c : Placed) → slice_get cs number ≡ Some c →
    piece_of (map (claims_of last rows) cs) number ≡ claims_of last rows c
piece_at last rows [] number c at = absurd (none-some _ at)
piece_at last rows (d ∷ ds) zero c at = ap (claims_of last rows) (same_Some _ _ at)
piece_at last rows (d ∷ ds) (suc number) c at = piece_at last rows ds number c at

-- ---- searches of rows, by their numbers

-- a number with its value, as found
abbrev found_pair : ℕ → ℕ → Option (ℕ × ℕ)
found_pair n value = Some (n, value)

-- the number of the row, and its value
abbrev pair_of : List RowId → (RowId → ℕ) → ChangeOfRow → ℕ × ℕ
pair_of rows f p = (number_in rows p.0, f p.0)

module _ (rows : List RowId) (value : ℕ → ℕ) (f : RowId → ℕ) (low : ℕ) where
  pub above_is : (set : List ChangeOfRow) → ((r : RowId) → Contains (keys_of set) r → value (number_in rows r) ≡ f r) →
      first_above value low (map (number_in rows) (keys_of set)) ≡ option_map (pair_of rows f) (find (λ p. nat_lt low (f p.0)) set)
  above_is [] same = refl
  above_is (p ∷ ps) same =
      let here = same p.0 (among_first p.0 (keys_of ps)) in
      let rest = above_is ps (λ r h. same r (among_later p.0 r (keys_of ps) h)) in
      rw here (by (nat_lt low (f p.0)) rest)
    where
      by : (b : Bool) → first_above value low (map (number_in rows) (keys_of ps)) ≡ option_map (pair_of rows f) (find (λ p. nat_lt low (f p.0)) ps) →
          cond b (Some (number_in rows p.0, f p.0)) (first_above value low (map (number_in rows) (keys_of ps)))
          ≡ option_map (pair_of rows f) (cond b (Some p) (find (λ p. nat_lt low (f p.0)) ps))
      by true rest = refl
      by false rest = rest

-- what is found is above
pub above_low : (value : ℕ → ℕ) (low : ℕ) (ns : List ℕ) (found : ℕ × ℕ) → first_above value low ns ≡ Some found → low < found.1
above_low value low [] found e = absurd (none-some _ e)
above_low value low (n ∷ ns) found e = by (nat_lt low (value n)) refl e (above_low value low ns found)
  where
    by : (b : Bool) → nat_lt low (value n) ≡ b → cond b (Some (n, value n)) (first_above value low ns) ≡ Some found → (first_above value low ns ≡ Some found → low < found.1) → low < found.1
    by true is e rest = let same = ap (λ (p : ℕ × ℕ). p.1) (same_Some _ _ e) in let more : low < value n = grind (arith, nat_tests) in omega arith
    by false is e rest = rest e

-- each word of a claim is that much
pub word_large : (claim : Claim) → 2 ^ 32 ≤ word_of claim
unfolding word_of
word_large claim = omega arith

map_twice : {A : Type 0} → (w : ℕ) (f : A → ℕ) (xs : List A) → map {B = ℕ × ℕ} (λ x. (f x, w)) xs ≡ map {B = ℕ × ℕ} (λ (n : ℕ). (n, w)) (map f xs)
map_twice w f [] = refl
map_twice w f (x ∷ xs) = ap (λ (l : List (ℕ × ℕ)). (f x, w) ∷ l) (map_twice w f xs)

-- ---- one candidate

module _ (last : RowId → ℕ) (all : List Placed) (claims : AreClaims all) (c : Placed) (among : Contains all c) where
  last_known : (r : RowId) → Contains (keys_of c.set) r → last_at last (rows_in all) (number_in (rows_in all) r) ≡ last r
  last_known r h = ap (λ o. unwrap_or (option_map last o) 0) (number_named (rows_in all) r (row_known all c r among h)).1

  changed_is : first_above (last_at last (rows_in all)) c.start (map (number_in (rows_in all)) (keys_of c.set))
      ≡ option_map (pair_of (rows_in all) last) (first_changed last c)
  changed_is = above_is (rows_in all) (last_at last (rows_in all)) last c.start c.set last_known

  beaten_is : first_above (final_of (plan_by last all)) (word_of (claim_of c)) (map (number_in (rows_in all)) (keys_of c.set))
      ≡ option_map (pair_of (rows_in all) (final_word last all)) (first_beaten last all c)
  beaten_is =
      above_is (rows_in all) (final_of (plan_by last all)) (final_word last all) (word_of (claim_of c)) c.set (λ r h. refl)
      ∙ ap (option_map (pair_of (rows_in all) (final_word last all)))
      (find_same (λ p. nat_lt (word_of (claim_of c)) (final_word last all p.0)) (λ p. is_beaten_on last all c p.0) c.set (λ p h. sym (beaten_word last all claims c p.0 among)))

  -- ---- what it claims

  stale : (p : ChangeOfRow) → first_changed last c ≡ Some p → is_fresh last c ≡ false
  stale p is = by (is_fresh last c) refl
    where
      by : (b : Bool) → is_fresh last c ≡ b → b ≡ false
      by false e = refl
      by true e =
          let found = found_passes (λ q. nat_lt c.start (last q.0)) c.set p is in
          let below = all_among (λ q. nat_le (last q.0) c.start) c.set p e found.0 in
          let above = found.1 in
          absurd (grind (arith, nat_tests))

  pub claims_fresh : None ≡ first_above (last_at last (rows_in all)) c.start (map (number_in (rows_in all)) (keys_of c.set)) →
      claims_of last (rows_in all) c ≡ map {B = ℕ × ℕ} (λ (n : ℕ). (n, word_of (claim_of c))) (map (number_in (rows_in all)) (keys_of c.set))
  claims_fresh e = by (first_changed last c) refl (e ∙ changed_is)
    where
      by : (o : Option ChangeOfRow) → first_changed last c ≡ o → None ≡ option_map (pair_of (rows_in all) last) o →
          claims_of last (rows_in all) c ≡ map {B = ℕ × ℕ} (λ (n : ℕ). (n, word_of (claim_of c))) (map (number_in (rows_in all)) (keys_of c.set))
      by None is none = rw (fresh_unchanged last c is) (map_twice (word_of (claim_of c)) (number_in (rows_in all)) (keys_of c.set))
      by (Some p) is none = absurd (none-some _ none)

  pub claims_stale : (found : ℕ × ℕ) → Some found ≡ first_above (last_at last (rows_in all)) c.start (map (number_in (rows_in all)) (keys_of c.set)) →
      claims_of last (rows_in all) c ≡ []
  claims_stale found e = by (first_changed last c) refl (e ∙ changed_is)
    where
      by : (o : Option ChangeOfRow) → first_changed last c ≡ o → Some found ≡ option_map (pair_of (rows_in all) last) o → claims_of last (rows_in all) c ≡ []
      by None is found_is = absurd (none-some _ (sym found_is))
      by (Some p) is found_is = rw (stale p is) refl

  -- ---- what becomes of it
  module _ (epoch : ℕ) where
    pub changed_verdict : (n f : ℕ) → found_pair n f ≡ first_above (last_at last (rows_in all)) c.start (map (number_in (rows_in all)) (keys_of c.set)) →
        numbered (rows_in all) (verdict_of last epoch all c) ≡ Changed n f
    changed_verdict n f e = by (first_changed last c) (e ∙ changed_is)
      where
        by : (o : Option ChangeOfRow) → found_pair n f ≡ option_map (pair_of (rows_in all) last) o →
            numbered (rows_in all) (changed_or last (beaten_or_committed last epoch all c (first_beaten last all c)) o) ≡ Changed n f
        by None is = absurd (none-some _ (sym is))
        by (Some p) is = ap (λ (q : ℕ × ℕ). Changed q.0 q.1) (sym (same_Some _ _ is))

    winner_named : (p : ChangeOfRow) (word : ℕ) (id : CandId) → first_beaten last all c ≡ Some p → word ≡ final_word last all p.0 →
        ((claim : Claim) → IsClaim claim → word_of claim ≡ word → id ≡ record { epoch = epoch; region = claim.region; csn = claim.csn }) →
        id_of epoch (unwrap_or (winner_of last all p.0) c) ≡ id
    winner_named p word id is same names = by (winner_of last all p.0) refl
      where
        by : (o : Option Placed) → winner_of last all p.0 ≡ o → id_of epoch (unwrap_or o c) ≡ id
        by None none =
            let beaten = (found_passes (λ q. is_beaten_on last all c q.0) c.set p is).1 in
            let above : nat_lt (word_of (claim_of c)) (final_word last all p.0) ≡ true = sym (beaten_word last all claims c p.0 among) ∙ beaten in
            let zero_is = no_winner_word last all claims p.0 none in
            absurd (grind (arith, nat_tests))
        by (Some w) won =
            let found = found_passes (λ d. not (is_beaten_on last all d p.0)) (contenders last all p.0) w won in
            let of_all = (filtered_among (λ d. is_fresh last d && has_row p.0 d.set) all w found.0).0 in
            sym (names (claim_of w) (All-contains (λ x. IsClaim (claim_of x)) all w claims of_all) (sym (winner_word last all claims w p.0 won) ∙ sym same))

    pub beaten_verdict : (n word : ℕ) (id : CandId) →
        None ≡ first_above (last_at last (rows_in all)) c.start (map (number_in (rows_in all)) (keys_of c.set)) →
        found_pair n word ≡ first_above (final_of (plan_by last all)) (word_of (claim_of c)) (map (number_in (rows_in all)) (keys_of c.set)) →
        ((claim : Claim) → IsClaim claim → word_of claim ≡ word → id ≡ record { epoch = epoch; region = claim.region; csn = claim.csn }) →
        numbered (rows_in all) (verdict_of last epoch all c) ≡ Beaten n id
    beaten_verdict n word id e f names = by (first_changed last c) (first_beaten last all c) refl (e ∙ changed_is) (f ∙ beaten_is)
      where
        by : (o b : Option ChangeOfRow) → first_beaten last all c ≡ b → None ≡ option_map (pair_of (rows_in all) last) o →
            found_pair n word ≡ option_map (pair_of (rows_in all) (final_word last all)) b →
            numbered (rows_in all) (changed_or last (beaten_or_committed last epoch all c b) o) ≡ Beaten n id
        by (Some p) b is none lost = absurd (none-some _ none)
        by None None is none lost = absurd (none-some _ (sym lost))
        by None (Some p) is none lost =
            let same = same_Some _ _ lost in
            ap (λ (i : CandId). Beaten (number_in (rows_in all) p.0) i) (winner_named p word id is (ap (λ (q : ℕ × ℕ). q.1) same) names)
            ∙ ap (λ (m : ℕ). Beaten m id) (sym (ap (λ (q : ℕ × ℕ). q.0) same))

    pub committed_verdict :
        None ≡ first_above (last_at last (rows_in all)) c.start (map (number_in (rows_in all)) (keys_of c.set)) →
        None ≡ first_above (final_of (plan_by last all)) (word_of (claim_of c)) (map (number_in (rows_in all)) (keys_of c.set)) →
        numbered (rows_in all) (verdict_of last epoch all c) ≡ Committed
    committed_verdict e f = by (first_changed last c) (first_beaten last all c) (e ∙ changed_is) (f ∙ beaten_is)
      where
        by : (o b : Option ChangeOfRow) → None ≡ option_map (pair_of (rows_in all) last) o →
            None ≡ option_map (pair_of (rows_in all) (final_word last all)) b →
            numbered (rows_in all) (changed_or last (beaten_or_committed last epoch all c b) o) ≡ Committed
        by (Some p) b none lost = absurd (none-some _ none)
        by None (Some p) none lost = absurd (none-some _ lost)
        by None None none lost = refl

numbers_bounded : (rows names : List RowId) → ((r : RowId) → Contains names r → Contains rows r) → All (λ n. n < length rows) (map (number_in rows) names)
numbers_bounded rows names known = All-from_recursion (λ n. n < length rows) (map (number_in rows) names) (by names known)
  where
    by : (ns : List RowId) → ((r : RowId) → Contains ns r → Contains rows r) → AllByRecursion (λ n. n < length rows) (map (number_in rows) ns)
    by [] known = tt
    by (n ∷ ns) known = ((number_named rows n (known n (among_first n ns))).0, by ns (λ r h. known r (among_later n r ns h)))

-- the rows of an entry are the round's
pub entry_rows : (all : List Placed) (number : ℕ) (e : Entry) → IsEntry all number e → All (λ row. row < length (rows_in all)) e.rows
entry_rows all number e entry =
    let c = entry.candidate in
    subst (λ (x : Entry). All (λ row. row < length (rows_in all)) x.rows) (sym entry.is)
    (numbers_bounded (rows_in all) (keys_of c.set) (λ r h. row_known all c r entry.among h))

-- ---- the same of an entry, in a round

module _ (round : Round) (claims : AreClaims round.all) (number : ℕ) (e : Entry) (entry : IsEntry round.all number e) where
  pub entry_claim : IsClaim (claim_in e)
  entry_claim = subst (λ (x : Entry). IsClaim (claim_in x)) (sym entry.is) (All-contains (λ x. IsClaim (claim_of x)) round.all entry.candidate claims entry.among)

  pub entry_planned : (plan : Pieces) (word : ℕ) → plan ≡ plan_of round → word ≡ word_of (claim_in e) →
      None ≡ first_above (last_at round.last (rows_in round.all)) e.start e.rows → piece_of plan number ≡ map {B = ℕ × ℕ} (λ (row : ℕ). (row, word)) e.rows
  entry_planned plan word is word_is none =
      let c = entry.candidate in
      ap (λ (pl : Pieces). piece_of pl number) is
      ∙ piece_at round.last (rows_in round.all) round.all number c entry.at
      ∙ claims_fresh round.last round.all claims c entry.among (none ∙ ap (λ (x : Entry). first_above (last_at round.last (rows_in round.all)) x.start x.rows) entry.is)
      ∙ ap (λ (x : Entry). map {B = ℕ × ℕ} (λ (row : ℕ). (row, word_of (claim_in x))) x.rows) (sym entry.is)
      ∙ ap (λ (w : ℕ). map {B = ℕ × ℕ} (λ (row : ℕ). (row, w)) e.rows) (sym word_is)

  pub entry_unplanned : (found : ℕ × ℕ) → Some found ≡ first_above (last_at round.last (rows_in round.all)) e.start e.rows → piece_of (plan_of round) number ≡ []
  entry_unplanned found found_is =
      let c = entry.candidate in
      piece_at round.last (rows_in round.all) round.all number c entry.at
      ∙ claims_stale round.last round.all claims c entry.among found
      (found_is ∙ ap (λ (x : Entry). first_above (last_at round.last (rows_in round.all)) x.start x.rows) entry.is)

  entry_verdict : (v : Verdict) → numbered (rows_in round.all) (verdict_of round.last round.epoch round.all entry.candidate) ≡ v → Some v ≡ verdict_on round number
  entry_verdict v is = sym (ap (option_map (λ c. numbered (rows_in round.all) (verdict_of round.last round.epoch round.all c))) entry.at ∙ ap Some is)

  pub entry_changed : (n f : ℕ) → found_pair n f ≡ first_above (last_at round.last (rows_in round.all)) e.start e.rows → Some (Changed n f) ≡ verdict_on round number
  entry_changed n f found_is =
      entry_verdict (Changed n f) (changed_verdict round.last round.all claims entry.candidate entry.among round.epoch n f
      (found_is ∙ ap (λ (x : Entry). first_above (last_at round.last (rows_in round.all)) x.start x.rows) entry.is))

  module _ (plan : Pieces) (word : ℕ) (is : plan ≡ plan_of round) (word_is : word ≡ word_of (claim_in e))
      (none : None ≡ first_above (last_at round.last (rows_in round.all)) e.start e.rows) where
    unchanged : None ≡ first_above (last_at round.last (rows_in round.all)) entry.candidate.start (map (number_in (rows_in round.all)) (keys_of entry.candidate.set))
    unchanged = none ∙ ap (λ (x : Entry). first_above (last_at round.last (rows_in round.all)) x.start x.rows) entry.is

    words_are : first_above (final_of plan) word e.rows
        ≡ first_above (final_of (plan_of round)) (word_of (claim_of entry.candidate)) (map (number_in (rows_in round.all)) (keys_of entry.candidate.set))
    words_are =
        ap (λ (pl : Pieces). first_above (final_of pl) word e.rows) is
        ∙ ap (λ (w : ℕ). first_above (final_of (plan_of round)) w e.rows) word_is
        ∙ ap (λ (x : Entry). first_above (final_of (plan_of round)) (word_of (claim_in x)) x.rows) entry.is

    pub entry_beaten : (n found : ℕ) (id : CandId) → found_pair n found ≡ first_above (final_of plan) word e.rows →
        ((claim : Claim) → IsClaim claim → word_of claim ≡ found → id ≡ record { epoch = round.epoch; region = claim.region; csn = claim.csn }) →
        Some (Beaten n id) ≡ verdict_on round number
    entry_beaten n found id lost names =
        entry_verdict (Beaten n id) (beaten_verdict round.last round.all claims entry.candidate entry.among round.epoch n found id unchanged (lost ∙ words_are) names)

    pub entry_committed : None ≡ first_above (final_of plan) word e.rows → Some Committed ≡ verdict_on round number
    entry_committed kept =
        entry_verdict Committed (committed_verdict round.last round.all claims entry.candidate entry.among round.epoch unchanged (kept ∙ words_are))

  pub entry_bounded : (rows : List RowId) (table : ClaimTable) → rows ≡ rows_in round.all → rows_of table ≡ length rows → All (λ row. row < rows_of table) e.rows
  entry_bounded rows table named tabled =
      subst (λ (n : ℕ). All (λ row. row < n) e.rows) (sym (tabled ∙ ap length named)) (entry_rows round.all number e entry)

  pub entry_large : (word n found : ℕ) (plan : Pieces) → word ≡ word_of (claim_in e) → found_pair n found ≡ first_above (final_of plan) word e.rows → 2 ^ 32 ≤ found
  entry_large word n found plan word_is lost =
      let above = above_low (final_of plan) word e.rows (n, found) (sym lost) in
      let large = word_large (claim_in e) in
      omega arith

pub none_made : (pairs : List (ℕ × ℕ)) (v : ClaimView) → pairs ≡ [] → v ≡ claims_made pairs v
none_made pairs v is = ap (λ (l : List (ℕ × ℕ)). record v { claims = l }) (sym (ap (λ (l : List (ℕ × ℕ)). v.claims ++ l) is ∙ append-nil v.claims))
