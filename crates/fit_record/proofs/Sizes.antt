-- A field of a struct takes no more memory than the struct.
use Rattle.std.proofs.Common.{ℕ, zero, ◌+◌, ◌<◌, ◌≤◌, arith, suc}
use mir.Syntax.{Ty, ty_unit, ty_struct, Tys, tnil, tcons}
use prog.Memory.{align, size, pad, end_of}

ends_after : (τs : Tys) (e : ℕ) → e ≤ end_of e τs
ends_after tnil e = omega arith
ends_after (tcons τ τs) e = omega (arith, ends_after τs (e + pad (align τ) e + size τ))

abbrev field_at : ℕ → Tys → Ty
field_at n tnil = ty_unit
field_at zero (tcons τ τs) = τ
field_at (suc n) (tcons τ τs) = field_at n τs

field_ends : (n : ℕ) (τs : Tys) (e : ℕ) → size (field_at n τs) ≤ end_of e τs
field_ends n tnil e = omega arith
field_ends zero (tcons τ τs) e = omega (arith, ends_after τs (e + pad (align τ) e + size τ))
field_ends (suc n) (tcons τ τs) e = field_ends n τs (e + pad (align τ) e + size τ)

-- the type of the field at a place, counted from 0
abbrev pub field_of : ℕ → Ty → Ty
field_of n (ty_struct name τs) = field_at n τs
field_of n τ = ty_unit

pub field_is_within : (n : ℕ) (τ : Ty) (limit : ℕ) → size τ < limit → size (field_of n τ) < limit
field_is_within n (ty_struct name τs) limit small = omega (arith, small, field_ends n τs zero)
field_is_within n τ limit small = omega (arith, small)
