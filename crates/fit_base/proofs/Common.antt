-- The names of std, of the crates below and of this crate's specs that several proofs use: each proof takes them from here.
pub use Rattle.std.proofs.Common.{ℕ, zero, suc, ◌<◌, List, [], ◌∷◌, ◌++◌, length, take, drop, get_or, replicate, sym, subst, lit<, arith, Fits, w8}
pub use Rattle.std.proofs.Common.{◌≡◌, ◌+◌, ◌*◌, ◌^◌, refl, ap, ◌∙◌, ◌/◌, Bool, true, false, cond, ltb, append_assoc, ◌%◌, ◌↔◌, IsTrue, lt-ltb}
pub use Rattle.std.proofs.Common.{eq-eqb, length-append, ◌⊎◌, inl, inr, ltb-false, rules}
pub use Rattle.std.proofs.Math.Nat.{pow-suc, suc-mul, mul-div_cancel}
pub use Rattle.std.proofs.Math.Seq.{take-append_seam, drop-append_seam, drop-cons, drop-append-add}
pub use Rattle.std.proofs.lemmas.List.{reverse-append, length-reverse, reverse-reverse, take-append-drop, length-take-le, length-drop}
pub use Rattle.std.specs.List.{list_all, AllByRecursion}
pub use Rattle.std.specs.Prelude.{reverse, flat_map, Some, unwrap_or, find, slice_index, nat_lt, ℤ, pos, neg_ℤ, ◌+ℤ◌, ◌-ℤ◌, ◌≤ℤ◌, ◌<ℤ◌}
pub use Rattle.fit_base.specs.BaseTypes.{base_type, base_types, byte, item_width}
pub use Rattle.fit_base.specs.Fields.{HasShape, items_bytes, has_shape}
pub use Rattle.fit_base.specs.Laws.{ItemsAndBytes, NumbersAndBytes, SignedNumbers}
pub use Rattle.fit_base.specs.Numbers.{IsBytes, little, number, little_bytes, number_bytes}
pub use Rattle.fit_base.specs.declared.items.Items.{Items}
pub use Rattle.fit_base.specs.declared.number.Order.{Order}
pub use Rattle.fit_base.specs.declared.number.Order.TheVariants.{Little, Big}
