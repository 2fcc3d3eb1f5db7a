-- What tests of a field's items say.
use Rattle.fit_base.proofs.Common.{◌≡◌, ℕ, ◌*◌, ◌/◌, ◌%◌, Bool, true, false, cond, refl, arith}
use Rattle.fit_base.proofs.Common.{base_type, item_width}
use Rattle.std.specs.Prelude.{◌==◌}
use Rattle.std.proofs.lemmas.Nat.{div-add-mod'}
use borrow.Author.Tests.{eqb-true}

divides : (w size : ℕ) (b : Bool) → (size % w == 0) ≡ b → (size / cond b w 1) * cond b w 1 ≡ size
divides w size true h = let zero_rest : size % w ≡ 0 = eqb-true (size % w) 0 h in omega (arith, div-add-mod' size w, zero_rest)
divides w size false h = omega arith

pub item_width_divides : (code size : ℕ) → (size / item_width code size) * item_width code size ≡ size
item_width_divides code size = divides (base_type code).width size _ refl
