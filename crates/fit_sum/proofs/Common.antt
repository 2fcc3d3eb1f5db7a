-- The names of std, of the crates below and of this crate's specs that several proofs use: each proof takes them from here.
pub use Rattle.std.proofs.Common.{◌≡◌, ℕ, ◌+◌, ◌*◌, ◌^◌, ◌<◌, ◌≤◌, ◌-◌, List, [], ◌∷◌, ◌++◌, length, subst, refl, ap, sym, ◌∙◌, arith, length-append}
pub use Rattle.std.proofs.Common.{append_assoc, zero, suc, take, drop, get_or, drop-drop, take-add, add-one, drop-cons, ◌/◌, ◌%◌, ◌==◌, Bool, true}
pub use Rattle.std.proofs.Common.{false, lit<, zero-add, Fits, w8, ◌&&◌, rules}
pub use Rattle.std.proofs.Math.Nat.{pow-suc, mul_assoc}
pub use Rattle.std.proofs.Math.Seq.{take-suc}
pub use Rattle.std.proofs.lemmas.List.{take_all, take-append-drop, append-nil}
pub use Rattle.std.proofs.lemmas.List.Folds.{concat-append}
pub use Rattle.std.proofs.lemmas.Nat.{xor_lt, xor_block, xor_comm, xor_shr, xor_mod, pow_pos, shr_split, div-add-mod', mod_below}
pub use Rattle.std.proofs.lemmas.Nat.{from_le_bytes-to_le_bytes_8}
pub use Rattle.std.specs.Int.{to_le_bytes, w64}
pub use Rattle.std.specs.Int.Bits.{bit_xor, xor_assoc, xor_zero_l, xor_zero_r}
pub use Rattle.std.specs.List.{concat}
pub use Rattle.std.specs.Prelude.{flat_map, if◌then◌else◌}
pub use Rattle.std.specs.Simd.{first_chunks}
pub use Rattle.fit_sum.specs.Checksum.{add_to_front, divisor, remainder, low_bits, from_bits}
unfoldable pub use Rattle.fit_sum.specs.Checksum.{checksum}
pub use Rattle.fit_sum.specs.inner.Register.{AllBytes, IsSumOf}
unfoldable pub use Rattle.fit_sum.specs.inner.Register.{shifts, run, shift}
pub use Rattle.fit_sum.specs.inner.Words.{AllPairs}
unfoldable pub use Rattle.fit_sum.specs.inner.Words.{bytes_number, words_from, mix, turns, spelled, xor_into, turn}
