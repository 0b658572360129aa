-- What a region is with one candidate more.
use Rattle.std.proofs.Common.{◌≡◌, ℕ, ◌+◌, cond, Result, Ok, List, [], ◌∷◌, ◌++◌, refl, sym, ap, ◌∙◌, subst, arith}
use Rattle.std.specs.Prelude.{is_ok}
use Rattle.std.proofs.lemmas.List.Sums.{sum_by_push}
use Rattle.write_set.specs.declared.candidate.Candidate.{Candidate}
use Rattle.write_set.specs.BatchSizes.{batch_size, candidate_size}
use Rattle.epoch_inbox.specs.Inbox.{Holding}
use Rattle.index_store.specs.Store.{Stored}
use Rattle.region_core.specs.Region.{RegionValue, with_standing}
use Rattle.region_core.specs.Entries.{Txn, after}
use Rattle.region_core.specs.Lawful.{IsRegion, Accepts}
use Rattle.region_core.specs.inner.Fields.{AreFields}
use Rattle.region_core.specs.laws.Regions.{makes_region}

-- the bytes of a batch with one candidate more
batch_more : (open_candidates : List Candidate) (c : Candidate) → batch_size (open_candidates ++ c ∷ []) ≡ batch_size open_candidates + candidate_size c
batch_more open_candidates c = ap (λ (n : ℕ). 13 + n) (sum_by_push candidate_size open_candidates c) ∙ omega arith

-- the fields, where the region took the candidate
pub taken_in : {T E : Type 0} → (size bytes : ℕ) (inbox : Holding) (index : Stored) (old value : RegionValue) (c : Candidate) (room open_candidates : List Candidate) (pushed : Result T E) (done : T) →
    AreFields size inbox index old → old ≡ value → room ≡ old.standing.open_candidates → open_candidates ≡ cond (is_ok pushed) (room ++ c ∷ []) room → pushed ≡ Ok done →
    bytes ≡ candidate_size c → Accepts value.standing (Txn c) →
    AreFields (size + bytes) inbox index (with_standing (record old.standing { open_candidates = open_candidates }) old)
taken_in size bytes inbox index old value c room open_candidates pushed done fields view same left ok sum accepts = record {
  lawful = subst (λ (cs : List Candidate). IsRegion (with_standing (record old.standing { open_candidates = cs }) old)) (sym is)
      (makes_region old (with_standing (after (Txn c) old.standing) old) (Txn c) fields.lawful (subst (λ (r : RegionValue). Accepts r.standing (Txn c)) (sym view) accepts) refl);
  counted = (λ i. fields.counted i + sum i) ∙ sym (batch_more old.standing.open_candidates c) ∙ ap batch_size (sym is);
  inbox_regions = fields.inbox_regions;
  follows = fields.follows;
}
  where
    is : open_candidates ≡ old.standing.open_candidates ++ c ∷ []
    is = left ∙ ap (λ o. cond (is_ok o) (room ++ c ∷ []) room) ok ∙ ap (λ (cs : List Candidate). cs ++ c ∷ []) same
