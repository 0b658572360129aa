-- Laws: what stands in bytes one after another.
use Rattle.std.proofs.Common.{◌≡◌, ℕ, ◌+◌, ◌≤◌, List, [], ◌++◌, length, take, drop, refl, sym, ap, subst, ◌∙◌, inl, inr, append_assoc, zero-add, add-zero, arith}
use Rattle.std.proofs.lemmas.Bool.{cases_lt}
use Rattle.std.proofs.lemmas.List.{length-append, length-take, drop_at, drop-drop, drop_all, append-nil, get_or-drop, get_or-take, get_or_past}
use Rattle.row_codec.specs.Places.{AreBytes, StandsAt}

-- what stands behind another stands with it
pub stands_together : (a b bytes : List ℕ) (at middle next : ℕ) → StandsAt a bytes at middle → StandsAt b bytes middle next → StandsAt (a ++ b) bytes at next
stands_together a b bytes at middle next front rest = record {
  parts = front.parts ∙ ap (λ (t : List ℕ). a ++ t) rest.parts ∙ sym (append_assoc a b (drop next bytes));
  behind = omega (arith, length-append a b);
}

behind_front : (a b bytes : List ℕ) (at next : ℕ) → StandsAt (a ++ b) bytes at next → drop (at + length a) bytes ≡ b ++ drop next bytes
behind_front a b bytes at next both =
    sym (drop-drop (length a) at bytes) ∙ ap (drop (length a)) (both.parts ∙ append_assoc a b (drop next bytes)) ∙ drop_at a (b ++ drop next bytes) (length a) refl

pub front_stands : (a b bytes : List ℕ) (at next : ℕ) → StandsAt (a ++ b) bytes at next → StandsAt a bytes at (at + length a)
front_stands a b bytes at next both = record {
  parts = both.parts ∙ append_assoc a b (drop next bytes) ∙ ap (λ (t : List ℕ). a ++ t) (sym (behind_front a b bytes at next both));
  behind = refl;
}

pub rest_stands : (a b bytes : List ℕ) (at next : ℕ) → StandsAt (a ++ b) bytes at next → StandsAt b bytes (at + length a) next
rest_stands a b bytes at next both = record { parts = behind_front a b bytes at next both; behind = omega (arith, length-append a b, both.behind) }

-- what bytes begin with stands at 0
pub begin_stands : (a rest : List ℕ) → StandsAt a (a ++ rest) 0 (length a)
begin_stands a rest = record { parts = ap (λ (t : List ℕ). a ++ t) (sym (drop_at a rest (length a) refl)); behind = sym (zero-add (length a)) }

-- nothing stands between a place and itself
pub nothing_stands : (bytes : List ℕ) (at : ℕ) → StandsAt [] bytes at at
nothing_stands bytes at = record { parts = refl; behind = sym (add-zero at) }

pub nothing_between : (bytes : List ℕ) (at next : ℕ) → StandsAt [] bytes at next → next ≡ at
nothing_between bytes at next stands = stands.behind ∙ add-zero at

-- what stands there whole is all of the bytes
pub whole_stands : (bytes : List ℕ) → StandsAt bytes bytes 0 (length bytes)
whole_stands bytes = subst (λ (bs : List ℕ). StandsAt bytes bs 0 (length bytes)) (append-nil bytes) (begin_stands bytes [])

-- what stands up to the end is the rest of the bytes
pub rest_is : (spelled bytes : List ℕ) (at next : ℕ) → StandsAt spelled bytes at next → length bytes ≤ next → drop at bytes ≡ spelled
rest_is spelled bytes at next stands end = stands.parts ∙ ap (λ (rest : List ℕ). spelled ++ rest) (drop_all next bytes end) ∙ append-nil spelled

are_bytes-drop : (n : ℕ) (bytes : List ℕ) → AreBytes bytes → AreBytes (drop n bytes)
are_bytes-drop n bytes h i = rw get_or-drop (h (n + i))

are_bytes-take : (n : ℕ) (bytes : List ℕ) → AreBytes bytes → AreBytes (take n bytes)
are_bytes-take n bytes h i =
    elim (cases_lt i n) [
      | inl lt ↦ rw (get_or-take n bytes i 0 lt) (h i)
      | inr le ↦ rw (get_or_past (take n bytes) i 0 (omega (arith, length-take n bytes))) (omega arith)
    ]

-- bytes within bytes are bytes
pub part_of_bytes : (count at : ℕ) (bytes : List ℕ) → AreBytes bytes → AreBytes (take count (drop at bytes))
part_of_bytes count at bytes fits = are_bytes-take count (drop at bytes) (are_bytes-drop at bytes fits)
