use Rattle.std.proofs.Common.{arith, ◌≡◌, ℕ, List, ◌+◌, ◌-◌, ◌++◌, ◌≤◌, length, take, drop, length-take, length-drop, take-append-drop, ◌∙◌, ap, sym}
use Rattle.std.proofs.lemmas.List.{drop-drop, take_at, take_rest}
use Rattle.geo_io.proofs.mem_source.CleanSource.give.Goals as goal

-- the part that was copied, and what lies behind it
given_and_left : (at count : ℕ) (bytes buf copied left : List ℕ) → left ≡ drop at bytes
    → copied ≡ take count (drop at bytes) → count ≤ length bytes - at
    → left ≡ take count (copied ++ drop count buf) ++ drop (at + count) bytes
given_and_left at count bytes buf copied left was part fits =
    let long : length copied ≡ count = omega (arith, ap length part, length-take {A = ℕ}, length-drop {A = ℕ}) in
    was ∙ sym (take-append-drop count (drop at bytes))
    ∙ ap (λ l. take count (drop at bytes) ++ l) (drop-drop count at bytes)
    ∙ ap (λ l. l ++ drop (at + count) bytes) (sym part ∙ sym (take_at copied (drop count buf) count long))

pub returns-clause-bytes : goal.returns-clause-bytes
returns-clause-bytes c =
    given_and_left c.self.inside.at c.min-count.result c.self.inside.bytes.items c.args.buf.now c.copy_from_slice.new.self _
    (ap (λ v. v.left) (sym c.self.view_is))
    (cc (c.copy_from_slice.ensures.after, take_rest c.deref.result.now c.self.inside.at, c.deref.ensures.value))
    (omega (arith, c.min-count.ensures, c.min.ensures, ap length c.deref.ensures.value, length-take {A = ℕ}, length-drop {A = ℕ}))
