use Rattle.fit_cells.proofs.Common.{◌≡◌, ◌∙◌, ◌<◌, ◌≤◌, ◌^◌, ◌⊎◌, inl, inr, ℕ, ℤ, pos, neg_ℤ, ◌-ℤ◌, ◌≤ℤ◌, sym, ap, subst, cond, arith, ints, rules}
use Rattle.fit_cells.proofs.Common.{to_z, of_z, to_z-of_z, w64, twos_complement}
use Rattle.fit_cells.proofs.NumberFacts.{complement-is}
use Rattle.fit_cells.proofs.form.raw.Goals as goal

known : (w : ℕ) → (w ≡ 1) ⊎ (w ≡ 2) ⊎ (w ≡ 4) → (w ≡ 1) ⊎ (w ≡ 2) ⊎ (w ≡ 4) ⊎ (w ≡ 8)
known w (inl is) = inl is
known w (inr (inl is)) = inr (inl is)
known w (inr (inr is)) = inr (inr (inl is))

limit : (w : ℕ) → (w ≡ 1) ⊎ (w ≡ 2) ⊎ (w ≡ 4) → 256 ^ w ≤ 2 ^ 32
limit w (inl is) = rw is (omega arith)
limit w (inr (inl is)) = rw is (omega arith)
limit w (inr (inr is)) = rw is (omega arith)

-- the number of bits that are few
least : (z : ℤ) (bits power : ℕ) → power ≤ 2 ^ 32 → (z ≡ pos bits) ⊎ (z ≡ pos bits -ℤ pos power) → neg_ℤ (pos (2 ^ 32)) ≤ℤ z
least z bits power small (inl is) = omega (arith, ints, is)
least z bits power small (inr is) = omega (arith, ints, is, small)

most : (z : ℤ) (bits power : ℕ) → power ≤ 2 ^ 32 → bits < power → (z ≡ pos bits) ⊎ (z ≡ pos bits -ℤ pos power) → z ≤ℤ pos (2 ^ 32)
most z bits power small below (inl is) = omega (arith, ints, is, small, below)
most z bits power small below (inr is) = omega (arith, ints, is, small, below)

pub signed-requires-clause-width : goal.signed-requires-clause-width
signed-requires-clause-width c = known c.args.form.width c.requires.small.width

pub returns-then-form-clause-value : goal.returns-then-form-clause-value
returns-then-form-clause-value c =
    to_z-of_z w64 c.signed.result (search (rules, c.signed.type_inv)) ∙ c.signed.ensures
    ∙ sym (ap (λ b. cond b (twos_complement c.args.form.width c.args.bits) (pos c.args.bits)) c.if-form.true)

pub returns-then-form-clause-least : goal.returns-then-form-clause-least
returns-then-form-clause-least c =
    let w = c.args.form.width in
    let is : to_z w64 (of_z w64 c.signed.result) ≡ twos_complement w c.args.bits =
    to_z-of_z w64 c.signed.result (search (rules, c.signed.type_inv)) ∙ c.signed.ensures in
    subst (λ (z : ℤ). neg_ℤ (pos (2 ^ 32)) ≤ℤ z) (sym is)
    (least (twos_complement w c.args.bits) c.args.bits (256 ^ w) (limit w c.requires.small.width) (complement-is w c.args.bits))

pub returns-then-form-clause-most : goal.returns-then-form-clause-most
returns-then-form-clause-most c =
    let w = c.args.form.width in
    let is : to_z w64 (of_z w64 c.signed.result) ≡ twos_complement w c.args.bits =
    to_z-of_z w64 c.signed.result (search (rules, c.signed.type_inv)) ∙ c.signed.ensures in
    subst (λ (z : ℤ). z ≤ℤ pos (2 ^ 32)) (sym is)
    (most (twos_complement w c.args.bits) c.args.bits (256 ^ w) (limit w c.requires.small.width) c.requires.bits (complement-is w c.args.bits))
