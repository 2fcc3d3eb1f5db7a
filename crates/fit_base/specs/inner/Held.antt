-- How a list of numbers is kept.
use Rattle.std.specs.Prelude.{ℕ, List, [], ◌∷◌}
use Rattle.fit_base.specs.declared.bits.Held.{Held}
use Rattle.fit_base.specs.declared.bits.Held.TheVariants.{None as Nothing, One, Many}

-- the numbers of each form, in their order
abbrev pub numbers : {A : Type 0} → Held A → List ℕ
numbers (Nothing alloc) = []
numbers (One number alloc) = number ∷ []
numbers (Many held) = held.items
