-- The names of std, of the crates below and of this crate's specs that several proofs use: each proof takes them from here.
pub use Rattle.std.proofs.Common.{inl, inr, ◌≡◌, ◌∙◌, ℕ, pos, ◌≤ℤ◌, ◌<ℤ◌, List, ◌/◌, arith, refl, sym, ℤ, drop, drop-cons, get_or, ◌++◌, ◌∷◌, [], ◌+◌}
pub use Rattle.std.proofs.Common.{◌*◌, ◌%◌, ◌^◌, ◌<◌, ◌≤◌, zero, suc, negsuc, mul_assoc, unsigned_abs, decimal, ap, ap₂, add-one, length}
pub use Rattle.std.proofs.Common.{append_assoc, drop_of_length-le, false, Some, subst, Result, Ok, Err}
pub use Rattle.std.proofs.Common.{Bool, true, ◌*ℤ◌, Decides, FitsSigned, to_z, of_z, length-append, ◌+ℤ◌, w64, take}
pub use Rattle.std.proofs.Math.Nat.{pow-suc, pow-succ', div-lt_iff_lt-mul, div-le_self, mod-lt, mod-eq_of_lt, add-mul, mul_comm, div-div-eq-div-mul}
pub use Rattle.std.proofs.lemmas.Bool.{cases_lt, cases_Bool, ne_eqb, cases_eq, and_parts}
pub use Rattle.std.proofs.lemmas.Fmt.{decimal_by_steps_wide, decimal_step_wide, decimal_is_IsNumeral_wide, length-decimal-le_wide}
pub use Rattle.std.proofs.lemmas.Int.{by_lt_z, ints, to_z-of_z, to_z_pos}
pub use Rattle.std.proofs.lemmas.Str.{IsCharBoundary-from_ascii}
pub use Rattle.std.specs.Char.{is_ascii_digit, digit_value}
pub use Rattle.std.specs.Int.{w128}
pub use Rattle.std.specs.Prelude.{OnErr}
pub use Rattle.std.specs.Str.Parse.{starts_with_minus, AllDigits}
pub use Rattle.jiff.specs.Words.{epoch_day, IsOnly, IsEpochDay}
pub use Rattle.fit_numbers.specs.FixedText.{fixed_text, fraction, sign, StillBegins, IsIn128}
unfoldable pub use Rattle.fit_numbers.specs.FixedText.{last_digits}
pub use Rattle.fit_numbers.specs.Scaled.{IsDegrees, IsScale, IsScaled}
pub use Rattle.fit_numbers.specs.inner.Digits.{next_value, signed_value}
unfoldable pub use Rattle.fit_numbers.specs.inner.Digits.{digits_in, triple_byte}
