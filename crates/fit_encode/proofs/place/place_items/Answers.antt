use Rattle.fit_encode.proofs.Common.{◌≡◌, ℕ, ◌<◌, ◌≤◌, List, [], ◌∷◌, ◌++◌, length}
use Rattle.fit_encode.proofs.Common.{take, get_or, sym, ap, ◌∙◌, subst, append-nil, arith, flat_map, AllByRecursion}
use Rattle.fit_encode.proofs.Common.{Order, number_bytes, length-number_bytes}
use Rattle.std.proofs.Common.{◌+◌, ◌^◌}
use Rattle.fit_encode.proofs.place.place_items.Goals as goal

-- what holds of all holds of the first
of_first : (P : ℕ → Type 0) (ns : List ℕ) → 1 ≤ length ns → AllByRecursion P ns → P (get_or ns 0 0)
of_first P [] some all = absurd (omega arith)
of_first P (n ∷ ns) some all = all.0

-- the bytes of a lone number are those of its list
alone : (o : Order) (w : ℕ) (ns bits : List ℕ) → 1 ≤ length ns → length ns < 2 → ns ≡ bits
    → number_bytes o w (get_or ns 0 0) ≡ flat_map (number_bytes o w) bits
alone o w [] bits some one same = absurd (omega arith)
alone o w (n ∷ []) bits some one same = sym (append-nil (number_bytes o w n)) ∙ ap (flat_map (number_bytes o w)) same
alone o w (n ∷ m ∷ ns) bits some one same = absurd (omega arith)

pub place_number-requires-clause-bits : goal.place_number-requires-clause-bits
place_number-requires-clause-bits g c =
    of_first (λ n. n < 256 ^ c.args.items.now.width) c.as_slice.result.now c.in-len1.len_at_least
    (subst (AllByRecursion (λ n. n < 256 ^ c.args.items.now.width)) (sym c.as_slice.ensures) c.requires.items.fit)

pub place_numbers-requires-clause-fit : goal.place_numbers-requires-clause-fit
place_numbers-requires-clause-fit g c =
    subst (AllByRecursion (λ n. n < 256 ^ c.args.items.now.width)) (sym c.as_slice.ensures) c.requires.items.fit

pub returns-in-len1-clause-end : goal.returns-in-len1-clause-end
returns-in-len1-clause-end g c =
    let ns = c.as_slice.result.now in
    c.place_number.ensures.end ∙ ap (λ n. c.args.at + n) (sym (length-number_bytes c.args.order c.args.items.now.width (get_or ns 0 0)))
    ∙ ap (λ l. c.args.at + length l)
    (alone c.args.order c.args.items.now.width ns c.args.items.now.bits c.in-len1.len_at_least c.in-len1.len_below c.as_slice.ensures)

pub returns-in-len1-clause-text : goal.returns-in-len1-clause-text
returns-in-len1-clause-text g c =
    c.place_number.ensures.text ∙ ap (λ l. take c.args.at c.args.bytes.now ++ l)
    (alone c.args.order c.args.items.now.width c.as_slice.result.now c.args.items.now.bits c.in-len1.len_at_least c.in-len1.len_below c.as_slice.ensures)
