-- Laws: the candidates of an epoch stand once each, and each is lawful.
use Rattle.std.proofs.Common.{◌≡◌, true, ⊎_elim, ℕ, zero, suc, ◌+◌, ◌≤◌, Option, None, Some, List, [], ◌∷◌, length, All, Contains, refl, sym, ap, ◌∙◌, subst, arith}
use Rattle.std.specs.List.{slice_get, cons_option}
use Rattle.std.proofs.lemmas.List.Elements.{All-head, All-tail, Contains-append_cases}
use Rattle.geo_base.specs.declared.claim.Claim.{Claim}
use Rattle.geo_base.specs.declared.row_id.RowId.{RowId}
use Rattle.write_set.specs.declared.candidate.Candidate.{Candidate}
use Rattle.write_set.specs.declared.batch.Batch.{Batch}
use Rattle.write_set.specs.Bounds.{IsEarlier, IsYoung, AreSomeRows}
use Rattle.write_set.specs.Sets.{has_row, IsWriteSet}
use Rattle.write_set.specs.Journal.{Journal, Placed, placed_from, candidates_of, batch_at, batches_at, epochs_of, IsCandidate, IsBatch, IsJournal}
use Rattle.write_set.specs.Merge.{claim_of, committed, last_change, verdict_of, is_committed}
use Rattle.write_set.specs.laws.Among.{among_none, among_cases, filtered_among}
use Rattle.write_set.specs.laws.Rivals.{committed_claim}

-- a candidate of the epoch, as it stands in its place
pub record IsPlaced (epoch : ℕ) (c : Placed) : Type 0 where
  pub earlier : IsEarlier epoch c.start
  pub young : IsYoung epoch c.start
  pub some : AreSomeRows (length c.set)
  pub lawful : IsWriteSet c.set

-- ---- one region's candidates

placed_region : (region csn : ℕ) (cs : List Candidate) (c : Placed) → Contains (placed_from region csn cs) c → (c.region ≡ region) × (csn ≤ c.csn)
placed_region region csn [] c h = absurd (among_none c h)
placed_region region csn (d ∷ ds) c h =
    ⊎_elim
    (λ same. (ap (λ (x : Placed). x.region) (sym same), subst (λ (x : Placed). csn ≤ x.csn) same (omega arith)))
    (λ later. let rest = placed_region region (csn + 1) ds c later in (rest.0, omega (arith, rest.1)))
    (among_cases (record { region = region; csn = csn; start = d.start; set = d.set }) (placed_from region (csn + 1) ds) c h)

placed_same : (region csn : ℕ) (cs : List Candidate) (c d : Placed) → Contains (placed_from region csn cs) c → Contains (placed_from region csn cs) d →
    c.csn ≡ d.csn → c ≡ d
placed_same region csn [] c d hc hd e = absurd (among_none c hc)
placed_same region csn (x ∷ xs) c d hc hd e =
    ⊎_elim
    (λ samec. ⊎_elim (λ samed. sym samec ∙ samed)
    (λ laterd. let above = placed_region region (csn + 1) xs d laterd in
    let at : csn ≡ c.csn = ap (λ (y : Placed). y.csn) samec in absurd (omega (arith, above.1)))
    (among_cases first rest d hd))
    (λ laterc. ⊎_elim
    (λ samed. let above = placed_region region (csn + 1) xs c laterc in
    let at : csn ≡ d.csn = ap (λ (y : Placed). y.csn) samed in absurd (omega (arith, above.1)))
    (λ laterd. placed_same region (csn + 1) xs c d laterc laterd e)
    (among_cases first rest d hd))
    (among_cases first rest c hc)
  where
    first : Placed
    first = record { region = region; csn = csn; start = x.start; set = x.set }

    rest : List Placed
    rest = placed_from region (csn + 1) xs

placed_lawful : (epoch region csn : ℕ) (cs : List Candidate) (c : Placed) → All (IsCandidate epoch) cs → Contains (placed_from region csn cs) c → IsPlaced epoch c
placed_lawful epoch region csn [] c lawful h = absurd (among_none c h)
placed_lawful epoch region csn (x ∷ xs) c lawful h =
    let here : IsCandidate epoch x = All-head (IsCandidate epoch) x xs lawful in
    ⊎_elim
    (λ same. subst (IsPlaced epoch) same (record { earlier = here.earlier; young = here.young; some = here.some; lawful = here.lawful }))
    (λ later. placed_lawful epoch region (csn + 1) xs c (All-tail (IsCandidate epoch) x xs lawful) later)
    (among_cases (record { region = region; csn = csn; start = x.start; set = x.set }) (placed_from region (csn + 1) xs) c h)

-- ---- the batches of an epoch

-- batches of the epoch, in the order of their regions, from this region on
abbrev pub BatchesRise : ℕ → ℕ → List Batch → Type 0
BatchesRise region epoch [] = Unit {0}
BatchesRise region epoch (b ∷ bs) = (region ≤ b.region) × IsBatch b.region epoch b × BatchesRise (b.region + 1) epoch bs

rise_lower : (region epoch : ℕ) (bs : List Batch) → BatchesRise (region + 1) epoch bs → BatchesRise region epoch bs
rise_lower region epoch [] rise = tt
rise_lower region epoch (b ∷ bs) rise = (omega (arith, rise.0), rise.1, rise.2)

rise_from : (journal : Journal) (place first : ℕ) →
    ((region : ℕ) (b : Batch) → batch_at journal region place ≡ Some b → IsBatch (first + region) (place + 1) b) →
    BatchesRise first (place + 1) (batches_at journal place)
rise_from [] place first lawful = tt
rise_from (log ∷ logs) place first lawful =
    by (slice_get log place) refl
    (rise_from logs place (first + 1) (λ region b e. subst (λ r. IsBatch r (place + 1) b) (omega arith) (lawful (suc region) b e)))
  where
    by : (o : Option Batch) → slice_get log place ≡ o → BatchesRise (first + 1) (place + 1) (batches_at logs place) →
        BatchesRise first (place + 1) (cons_option o (batches_at logs place))
    by None is rest = rise_lower first (place + 1) (batches_at logs place) rest
    by (Some b) is rest =
        let here = lawful zero b is in
        let at : b.region ≡ first = omega (arith, here.region) in (
          omega (arith, at),
          record { region = refl; epoch = here.epoch; few = here.few; lawful = here.lawful },
          subst (λ r. BatchesRise (r + 1) (place + 1) (batches_at logs place)) (sym at) rest,
        )

pub batches_rise : (journal : Journal) (place : ℕ) → IsJournal journal → BatchesRise 0 (place + 1) (batches_at journal place)
batches_rise journal place lawful =
    rise_from journal place 0 (λ region b e. subst (λ r. IsBatch r (place + 1) b) (omega arith) (lawful.lawful region place b e))

-- ---- all regions' candidates

candidates_region : (region epoch : ℕ) (bs : List Batch) (c : Placed) → BatchesRise region epoch bs → Contains (candidates_of bs) c → region ≤ c.region
candidates_region region epoch [] c lawful h = absurd (among_none c h)
candidates_region region epoch (b ∷ bs) c lawful h =
    ⊎_elim
    (λ here. let at = placed_region b.region 0 b.items c here in omega (arith, at.0, lawful.0))
    (λ later. let rest = candidates_region (b.region + 1) epoch bs c lawful.2 later in omega (arith, rest, lawful.0))
    (Contains-append_cases (placed_from b.region 0 b.items) (candidates_of bs) c h)

-- the region and the commit number tell which candidate it is
pub candidates_same : (region epoch : ℕ) (bs : List Batch) (c d : Placed) → BatchesRise region epoch bs →
    Contains (candidates_of bs) c → Contains (candidates_of bs) d → c.region ≡ d.region → c.csn ≡ d.csn → c ≡ d
candidates_same region epoch [] c d lawful hc hd r n = absurd (among_none c hc)
candidates_same region epoch (b ∷ bs) c d lawful hc hd r n =
    ⊎_elim
    (λ herec. ⊎_elim
    (λ hered. placed_same b.region 0 b.items c d herec hered n)
    (λ laterd. absurd (apart c d herec laterd r))
    (Contains-append_cases first rest d hd))
    (λ laterc. ⊎_elim
    (λ hered. absurd (apart d c hered laterc (sym r)))
    (λ laterd. candidates_same (b.region + 1) epoch bs c d lawful.2 laterc laterd r n)
    (Contains-append_cases first rest d hd))
    (Contains-append_cases first rest c hc)
  where
    first : List Placed
    first = placed_from b.region 0 b.items

    rest : List Placed
    rest = candidates_of bs

    apart : (x y : Placed) → Contains first x → Contains rest y → x.region ≡ y.region → ⊥
    apart x y hx hy e =
        let here = placed_region b.region 0 b.items x hx in
        let later = candidates_region (b.region + 1) epoch bs y lawful.2 hy in
        omega (arith, here.0, later)

pub candidates_lawful : (region epoch : ℕ) (bs : List Batch) (c : Placed) → BatchesRise region epoch bs → Contains (candidates_of bs) c → IsPlaced epoch c
candidates_lawful region epoch [] c lawful h = absurd (among_none c h)
candidates_lawful region epoch (b ∷ bs) c lawful h =
    ⊎_elim
    (placed_lawful epoch b.region 0 b.items c lawful.1.lawful)
    (candidates_lawful (b.region + 1) epoch bs c lawful.2)
    (Contains-append_cases (placed_from b.region 0 b.items) (candidates_of bs) c h)

-- ---- what commits

-- how many epochs there are
pub length_epochs : (journal : Journal) (epoch : ℕ) → length (epochs_of journal epoch) ≡ epoch
length_epochs journal zero = refl
length_epochs journal (suc epoch) = ap suc (length_epochs journal epoch)

-- a candidate that commits is one of its epoch
committed_among : (journal : Journal) (place : ℕ) (c : Placed) → Contains (committed (epochs_of journal (suc place))) c →
    Contains (candidates_of (batches_at journal place)) c
committed_among journal place c h =
    let older = epochs_of journal place in
    let all = candidates_of (batches_at journal place) in
    (filtered_among (λ x. is_committed (verdict_of (last_change older) (length older + 1) all x)) all c h).0

pub committed_lawful : (journal : Journal) (place : ℕ) (c : Placed) → IsJournal journal →
    Contains (committed (epochs_of journal (suc place))) c → IsPlaced (place + 1) c
committed_lawful journal place c lawful h =
    candidates_lawful 0 (place + 1) (batches_at journal place) c (batches_rise journal place lawful) (committed_among journal place c h)

-- two that commit in one epoch and share a row are one
pub committed_same : (journal : Journal) (place : ℕ) (c d : Placed) (row : RowId) → IsJournal journal →
    Contains (committed (epochs_of journal (suc place))) c → Contains (committed (epochs_of journal (suc place))) d →
    has_row row c.set ≡ true → has_row row d.set ≡ true → c ≡ d
committed_same journal place c d row lawful hc hd rc rd =
    let older = epochs_of journal place in
    let claim : claim_of c ≡ claim_of d = committed_claim (last_change older) (candidates_of (batches_at journal place)) (length older + 1) c d row hc hd rc rd in
    candidates_same 0 (place + 1) (batches_at journal place) c d (batches_rise journal place lawful)
    (committed_among journal place c hc) (committed_among journal place d hd)
    (ap (λ (x : Claim). x.region) claim) (ap (λ (x : Claim). x.csn) claim)
