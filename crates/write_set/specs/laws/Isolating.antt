-- Laws: the transactions that commit are a snapshot-isolated history, in the rows that they touch too.
use Rattle.std.proofs.Common.{◌≡◌, inl, inr, ⊎_elim, ℕ, zero, suc, ◌+◌, ◌<◌, ◌≤◌, Bool, true, false, cond, ◌&&◌, ◌||◌, Option, List, [], ◌∷◌, ◌++◌, length, Contains, refl, sym, ap, ◌∙◌, subst, arith}
use Rattle.std.specs.List.{list_any}
use Rattle.std.specs.List.Sorted.{IsStrictlySortedBy}
use Rattle.std.specs.Ordering.{is_eq}
use Rattle.std.specs.declared.cmp.Ordering.TheVariants.{Less}
use Rattle.std.proofs.lemmas.Bool.{false≢true, cases_lt}
use Rattle.geo_base.specs.declared.row_id.RowId.{RowId}
use Rattle.geo_base.specs.declared.row_image.RowImage.{RowImage}
use Rattle.geo_base.specs.Order.{row_cmp, row_eq}
use Rattle.geo_base.specs.laws.Orders.{row_cmp_total, row_eq_ties, row_eq_equiv}
use Rattle.write_set.specs.declared.change.Change.{Change}
use Rattle.write_set.specs.declared.change.Change.TheVariants.{Put, Remove, Touch}
use Rattle.write_set.specs.Sets.{ChangeOfRow, has_row, alters, changes_row, Rises}
use Rattle.write_set.specs.Journal.{Journal, Placed, candidates_of, batches_at, epochs_of, last_sealed, IsJournal}
use Rattle.write_set.specs.Merge.{committed, last_change, verdict_of, is_committed}
use Rattle.write_set.specs.Snapshot.{changes_of, image_left, image_after, snap_at}
use Rattle.write_set.specs.Isolation.{Commits, AppliesEpoch, AreApart, IsOutside, IsSnapshotIsolated}
use Rattle.write_set.specs.laws.Among.{or_false, true_or_false, among_none, among_first, among_later, among_cases, any_among, filtered_among}
use Rattle.write_set.specs.laws.Rivals.{fresh_bound, fresh_unchanged, committed_is, row_among, row_same}
use Rattle.write_set.specs.laws.Placing.{length_epochs, committed_lawful, committed_same}

-- ---- one set of changes

apart_from_less : (row other : RowId) → row_cmp row other ≡ Less → row_eq row other ≡ false
apart_from_less row other less = row_eq_ties row other ∙ ap is_eq less

pub row_above : (row : RowId) (p : ChangeOfRow) (ps : List ChangeOfRow) → Rises (p ∷ ps) → row_cmp row p.0 ≡ Less → has_row row (p ∷ ps) ≡ false
unfolding IsStrictlySortedBy
row_above row p [] rise less = ap (λ b. b || false) (apart_from_less row p.0 less)
row_above row p (q ∷ qs) rise less =
    ap (λ b. b || has_row row (q ∷ qs)) (apart_from_less row p.0 less)
    ∙ row_above row q qs rise.1 (row_cmp_total.trans row p.0 q.0 less rise.0.0)

pub row_once : (p : ChangeOfRow) (ps : List ChangeOfRow) → Rises (p ∷ ps) → has_row p.0 ps ≡ false
unfolding IsStrictlySortedBy
row_once p [] rise = refl
row_once p (q ∷ qs) rise = row_above p.0 q qs rise.1 rise.0.0

pub rise_rest : (p : ChangeOfRow) (ps : List ChangeOfRow) → Rises (p ∷ ps) → Rises ps
unfolding IsStrictlySortedBy
rise_rest p ps rise = rise.1

-- a set that changes a row has it
pub changed_has : (row : RowId) (set : List ChangeOfRow) → changes_row row set ≡ true → has_row row set ≡ true
changed_has row [] h = h
changed_has row (p ∷ ps) h = by (row_eq row p.0) (alters p.1) h (changed_has row ps)
  where
    by : (e a : Bool) → (e && a || changes_row row ps) ≡ true → (changes_row row ps ≡ true → has_row row ps ≡ true) → (e || has_row row ps) ≡ true
    by true a both rest = refl
    by false a both rest = rest both

pub not_changed : (row : RowId) (set : List ChangeOfRow) → has_row row set ≡ false → changes_row row set ≡ false
not_changed row set none =
    ⊎_elim (λ t. absurd (false≢true (sym none ∙ changed_has row set t))) (λ f. f) (true_or_false (changes_row row set))

-- a change that isn't of the row, or that doesn't change it, leaves its image
left_alone : (e : Bool) (change : Change) (image : Option RowImage) → (e && alters change) ≡ false → cond e (image_left change image) image ≡ image
left_alone false change image h = refl
left_alone true (Put new) image h = absurd (false≢true (sym h))
left_alone true Remove image h = absurd (false≢true (sym h))
left_alone true Touch image h = refl

pub after_none : (ps : List ChangeOfRow) (row : RowId) (image : Option RowImage) → changes_row row ps ≡ false → image_after ps row image ≡ image
after_none [] row image h = refl
after_none (p ∷ ps) row image h =
    let both = or_false (row_eq row p.0 && alters p.1) (changes_row row ps) h in
    ap (image_after ps row) (left_alone (row_eq row p.0) p.1 image both.0) ∙ after_none ps row image both.1

after_append : (ps qs : List ChangeOfRow) (row : RowId) (image : Option RowImage) →
    image_after (ps ++ qs) row image ≡ image_after qs row (image_after ps row image)
after_append [] qs row image = refl
after_append (p ∷ ps) qs row image = after_append ps qs row (cond (row_eq row p.0) (image_left p.1 image) image)

after_written : (ps : List ChangeOfRow) (row : RowId) (change : Change) (image : Option RowImage) → Rises ps → Contains ps (row, change) →
    image_after ps row image ≡ image_left change image
after_written [] row change image rise h = absurd (among_none (row, change) h)
after_written (p ∷ ps) row change image rise h =
    ⊎_elim
    (λ same.
    let at : p.0 ≡ row = ap (λ (q : ChangeOfRow). q.0) same in
    let is : row_eq row p.0 ≡ true = subst (λ r. row_eq r p.0 ≡ true) at (row_eq_equiv.refl p.0) in
    let once : has_row row ps ≡ false = subst (λ r. has_row r ps ≡ false) at (row_once p ps rise) in
    ap (λ b. image_after ps row (cond b (image_left p.1 image) image)) is
    ∙ after_none ps row (image_left p.1 image) (not_changed row ps once) ∙ ap (λ (q : ChangeOfRow). image_left q.1 image) same)
    (λ later.
    ap (λ b. image_after ps row (cond b (image_left p.1 image) image)) (other later)
    ∙ after_written ps row change image (rise_rest p ps rise) later)
    (among_cases p ps (row, change) h)
  where
    other : Contains ps (row, change) → row_eq row p.0 ≡ false
    other later = ⊎_elim
        (λ t. absurd (false≢true (sym (row_once p ps rise) ∙ subst (λ r. has_row r ps ≡ true) (row_same row p.0 t) (row_among (row, change) ps later))))
        (λ f. f)
        (true_or_false (row_eq row p.0))

-- ---- the changes of several candidates

after_unchanged : (cs : List Placed) (row : RowId) (image : Option RowImage) →
    ((c : Placed) → Contains cs c → changes_row row c.set ≡ false) → image_after (changes_of cs) row image ≡ image
after_unchanged [] row image h = refl
after_unchanged (c ∷ cs) row image h =
    after_append c.set (changes_of cs) row image
    ∙ ap (image_after (changes_of cs) row) (after_none c.set row image (h c (among_first c cs)))
    ∙ after_unchanged cs row image (λ d later. h d (among_later c d cs later))

-- each of the candidates that has the row does this to it
abbrev Leave : List Placed → RowId → Change → Type 0
Leave cs row change = (c : Placed) → Contains cs c → has_row row c.set ≡ true →
    (image : Option RowImage) → image_after c.set row image ≡ image_left change image

-- a change that is made twice leaves what it leaves once
left_twice : (change : Change) (image : Option RowImage) → image_left change (image_left change image) ≡ image_left change image
left_twice (Put new) image = refl
left_twice Remove image = refl
left_twice Touch image = refl

after_left : (cs : List Placed) (row : RowId) (change : Change) (image : Option RowImage) → Leave cs row change →
    image_after (changes_of cs) row (image_left change image) ≡ image_left change image
after_left [] row change image h = refl
after_left (c ∷ cs) row change image h =
    let left = image_left change image in
    let here : image_after c.set row left ≡ left = ⊎_elim
    (λ t. h c (among_first c cs) t left ∙ left_twice change image)
    (λ f. after_none c.set row left (not_changed row c.set f))
    (true_or_false (has_row row c.set)) in
    after_append c.set (changes_of cs) row left
    ∙ ap (image_after (changes_of cs) row) here
    ∙ after_left cs row change image (λ d later. h d (among_later c d cs later))

after_set : (cs : List Placed) (c : Placed) (row : RowId) (change : Change) (image : Option RowImage) → Leave cs row change →
    Contains cs c → has_row row c.set ≡ true → image_after (changes_of cs) row image ≡ image_left change image
after_set [] c row change image h among has = absurd (among_none c among)
after_set (d ∷ ds) c row change image h among has =
    after_append d.set (changes_of ds) row image
    ∙ ⊎_elim
    (λ t. ap (image_after (changes_of ds) row) (h d (among_first d ds) t image) ∙ after_left ds row change image rest)
    (λ f. ap (image_after (changes_of ds) row) (after_none d.set row image (not_changed row d.set f)) ∙ ⊎_elim
    (λ same. absurd (false≢true (sym f ∙ subst (λ x. has_row row x.set ≡ true) (sym same) has)))
    (λ later. after_set ds c row change image rest later has)
    (among_cases d ds c among))
    (true_or_false (has_row row d.set))
  where
    rest : Leave ds row change
    rest x later = h x (among_later d x ds later)

-- ---- the snapshots

applies : (journal : Journal) (epoch : ℕ) → IsJournal journal → suc epoch ≤ last_sealed journal → AppliesEpoch journal epoch
applies journal epoch lawful sealed = record {
  written = λ c row change commits has.
      let isset = (committed_lawful journal epoch c lawful commits.among).lawful in
      let left = λ (image : Option RowImage). after_written c.set row change image isset.rising has in
      let has_it : has_row row c.set ≡ true = row_among (row, change) c.set has in
      after_set now c row change (snap_at (epochs_of journal epoch) row)
      (λ d among rd image. subst (λ x. image_after x.set row image ≡ image_left change image)
      (committed_same journal epoch c d row lawful commits.among among has_it rd) (left image))
      commits.among has_it;
  kept = λ row none.
      after_unchanged now row (snap_at (epochs_of journal epoch) row) (λ c among. none c (record { sealed = sealed; among = among }));
}
  where
    now : List Placed
    now = committed (epochs_of journal (suc epoch))

-- ---- overlapping transactions

-- the last change of a row is no earlier than any epoch in which one that commits changes the row
pub changed_since : (journal : Journal) (e n : ℕ) (c : Placed) (row : RowId) → e ≤ n → Contains (committed (epochs_of journal e)) c → changes_row row c.set ≡ true →
    e ≤ last_change (epochs_of journal n) row
changed_since journal e zero c row below among has = below
changed_since journal e (suc n) c row below among has =
    by (list_any (λ x. changes_row row x.set) (committed (epochs_of journal (suc n)))) refl
    (λ earlier. changed_since journal e n c row earlier among has)
  where
    at : e ≡ suc n → list_any (λ x. changes_row row x.set) (committed (epochs_of journal (suc n))) ≡ true
    at same = any_among (λ x. changes_row row x.set) (committed (epochs_of journal (suc n))) c (subst (λ k. Contains (committed (epochs_of journal k)) c) same among) has

    by : (b : Bool) → list_any (λ x. changes_row row x.set) (committed (epochs_of journal (suc n))) ≡ b →
        (e ≤ n → e ≤ last_change (epochs_of journal n) row) →
        e ≤ cond b (length (epochs_of journal n) + 1) (last_change (epochs_of journal n) row)
    by true is rest = omega (arith, length_epochs journal n)
    by false is rest = ⊎_elim (λ less. rest (omega arith)) (λ more. absurd (false≢true (sym is ∙ at (omega arith)))) (cases_lt e (suc n))

-- a candidate that commits starts no earlier than the last change of each of its rows
changed_before : (journal : Journal) (n : ℕ) (d : Placed) (row : RowId) → Contains (committed (epochs_of journal (suc n))) d → has_row row d.set ≡ true →
    last_change (epochs_of journal n) row ≤ d.start
changed_before journal n d row among has =
    let older = epochs_of journal n in
    let all = candidates_of (batches_at journal n) in
    let parts = filtered_among (λ x. is_committed (verdict_of (last_change older) (length older + 1) all x)) all d among in
    fresh_bound (last_change older) d row
    (fresh_unchanged (last_change older) d (committed_is (last_change older) all (length older + 1) d parts.1).0) has

later_starts : (journal : Journal) (e f : ℕ) (c d : Placed) (row : RowId) → e < f → Contains (committed (epochs_of journal e)) c →
    Contains (committed (epochs_of journal f)) d → changes_row row c.set ≡ true → has_row row d.set ≡ true → e ≤ d.start
later_starts journal e zero c d row less hc hd rc rd = absurd (among_none d hd)
later_starts journal e (suc n) c d row less hc hd rc rd =
    let since = changed_since journal e n c row (omega arith) hc rc in
    let before = changed_before journal n d row hd rd in
    omega (arith, since, before)

same_epoch : (journal : Journal) (e : ℕ) (c d : Placed) (row : RowId) → IsJournal journal →
    Contains (committed (epochs_of journal e)) c → Contains (committed (epochs_of journal e)) d → has_row row c.set ≡ true → has_row row d.set ≡ true → c ≡ d
same_epoch journal zero c d row lawful hc hd rc rd = absurd (among_none c hc)
same_epoch journal (suc n) c d row lawful hc hd rc rd = committed_same journal n c d row lawful hc hd rc rd

pub commit_once : (journal : Journal) (epoch : ℕ) (c d : Placed) (row : RowId) → IsJournal journal → Commits journal epoch c → Commits journal epoch d →
    has_row row c.set ≡ true → has_row row d.set ≡ true → c ≡ d
commit_once journal epoch c d row lawful hc hd rc rd = same_epoch journal epoch c d row lawful hc.among hd.among rc rd

starts_before : (journal : Journal) (epoch : ℕ) (c : Placed) → IsJournal journal → Commits journal epoch c → c.start < epoch
starts_before journal zero c lawful commits = absurd (among_none c commits.among)
starts_before journal (suc n) c lawful commits =
    let placed = committed_lawful journal n c lawful commits.among in
    omega (arith, placed.earlier)

one_level : (journal : Journal) → IsJournal journal → (e f : ℕ) (c d : Placed) (row : RowId) → e ≡ f → Commits journal e c → Commits journal f d →
    has_row row c.set ≡ true → has_row row d.set ≡ true → (e ≡ f) × (c ≡ d)
one_level journal lawful e f c d row same hc hd rc rd =
    let among : Contains (committed (epochs_of journal e)) d = subst (λ k. Contains (committed (epochs_of journal k)) d) (sym same) hd.among in
    (same, same_epoch journal e c d row lawful hc.among among rc rd)

apart : (journal : Journal) → IsJournal journal → (e f : ℕ) (c d : Placed) (row : RowId) → Commits journal e c → Commits journal f d →
    changes_row row c.set ≡ true → changes_row row d.set ≡ true → AreApart e c f d
apart journal lawful e f c d row hc hd rc rd =
    let has_c : has_row row c.set ≡ true = changed_has row c.set rc in
    let has_d : has_row row d.set ≡ true = changed_has row d.set rd in
    ⊎_elim
    (λ less. inr (inl (later_starts journal e f c d row less hc.among hd.among rc has_d)))
    (λ upto. ⊎_elim
    (λ more. inr (inr (later_starts journal f e d c row more hd.among hc.among rd has_c)))
    (λ level. inl (one_level journal lawful e f c d row (omega arith) hc hd has_c has_d))
    (cases_lt f e))
    (cases_lt e f)

-- a row that one has, if only touched, is changed by no other between the start and the epoch of that one
claimed : (journal : Journal) → IsJournal journal → (e f : ℕ) (c d : Placed) (row : RowId) → Commits journal e c → Commits journal f d →
    has_row row c.set ≡ true → changes_row row d.set ≡ true → IsOutside e c f d
claimed journal lawful e f c d row hc hd rc rd =
    ⊎_elim
    (λ less. inr (inr less))
    (λ upto. ⊎_elim
    (λ more. inr (inl (later_starts journal f e d c row more hd.among hc.among rd rc)))
    (λ level. inl (one_level journal lawful e f c d row (omega arith) hc hd rc (changed_has row d.set rd)))
    (cases_lt f e))
    (cases_lt e f)

pub is_isolated : (journal : Journal) → IsJournal journal → IsSnapshotIsolated journal
is_isolated journal lawful = record {
  starts = λ epoch c commits. starts_before journal epoch c lawful commits;
  applies = λ epoch sealed. applies journal epoch lawful sealed;
  apart = apart journal lawful;
  claimed = claimed journal lawful;
}
