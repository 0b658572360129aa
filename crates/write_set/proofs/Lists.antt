-- One more element at the end of a list that a loop goes over.
use Rattle.std.proofs.Common.{◌≡◌, ℕ, ◌+◌, ◌<◌, List, [], ◌∷◌, ◌++◌, length, take, get_or, sym, ap, ◌∙◌, append_assoc, arith}
use Rattle.std.proofs.lemmas.List.{append-nil, length-take-le, take_more}
use Rattle.write_set.specs.declared.candidate.Candidate.{Candidate}
use Rattle.write_set.specs.declared.batch.Batch.{Batch}
use Rattle.write_set.specs.Journal.{placed_from, candidates_of}

placed_from-append : (region csn : ℕ) (xs : List Candidate) (x : Candidate) → placed_from region csn (xs ++ x ∷ []) ≡ placed_from region csn xs ++ record { region = region; csn = csn + length xs; start = x.start; set = x.set } ∷ []
placed_from-append region csn [] x = grind arith
placed_from-append region csn (y ∷ ys) x = grind (arith, placed_from-append region (csn + 1) ys x)

candidates_of-append : (bs : List Batch) (b : Batch) → candidates_of (bs ++ b ∷ []) ≡ candidates_of bs ++ placed_from b.region 0 b.items
candidates_of-append [] b = append-nil (placed_from b.region 0 b.items)
candidates_of-append (c ∷ cs) b = ap (λ l. placed_from c.region 0 c.items ++ l) (candidates_of-append cs b) ∙ sym (append_assoc (placed_from c.region 0 c.items) (candidates_of cs) (placed_from b.region 0 b.items))

pub placed_from_more : (region : ℕ) (xs : List Candidate) (i : ℕ) (d : Candidate) → i < length xs → placed_from region 0 (take (i + 1) xs) ≡ placed_from region 0 (take i xs) ++ record { region = region; csn = i; start = (get_or xs i d).start; set = (get_or xs i d).set } ∷ []
placed_from_more region xs i d within =
    let x = get_or xs i d in
    let last = λ (csn : ℕ). placed_from region 0 (take i xs) ++ record { region = region; csn = csn; start = x.start; set = x.set } ∷ [] in
    let count : 0 + length (take i xs) ≡ i = grind (arith, length-take-le i xs) in
    ap (placed_from region 0) (take_more xs i d within) ∙ placed_from-append region 0 (take i xs) x ∙ ap last count

pub candidates_of_more : (bs : List Batch) (i : ℕ) (d : Batch) → i < length bs → candidates_of (take (i + 1) bs) ≡ candidates_of (take i bs) ++ placed_from (get_or bs i d).region 0 (get_or bs i d).items
candidates_of_more bs i d within = ap candidates_of (take_more bs i d within) ∙ candidates_of-append (take i bs) (get_or bs i d)
