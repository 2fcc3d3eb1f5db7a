-- The names of std, of the crates below and of this crate's specs that several proofs use: each proof takes them from here.
pub use Rattle.std.proofs.Common.{◌≡◌, ◌<◌, ◌^◌, ℕ, List, [], ◌∷◌, refl, lit<, lit≤, zero, suc, ◌/◌, ◌%◌, ◌≤◌, ◌⊎◌, inl, inr, ◌++◌, length, take}
pub use Rattle.std.proofs.Common.{slice_index, length-append, sym, ap, ◌∙◌, subst, arith, append_assoc, ◌≢◌, Bool, true, false, eqb, drop}
pub use Rattle.std.proofs.Common.{length-drop, ◌+◌, ◌-◌, Some}
pub use Rattle.std.proofs.lemmas.List.{length-take-le, take-append-le, get_or_append_left, append-nil}
pub use Rattle.fit_base.specs.Numbers.{IsBytes}
pub use Rattle.fit_sum.proofs.SixteenBits.{checksum-below}
unfoldable pub use Rattle.fit_sum.specs.Checksum.{checksum}
pub use Rattle.fit_frame.specs.Beginning.{IsDataSize, IsWholeHeader, BeginsHeader, IsFileHeader, RefusesByte, header_reason, HeadersEndOnce, Seen}
pub use Rattle.fit_frame.specs.Header.{fixed_part, IsHeader, HeaderFits, SizeFits, sum_part, header_bytes, FormFits, HeadersHaveOneSpelling}
pub use Rattle.fit_frame.specs.Header.{HeadersHaveTheirSize, ZeroIsSum}
pub use Rattle.fit_frame.specs.declared.header.Header.{Header}
pub use Rattle.fit_frame.specs.declared.header.HeaderSum.{HeaderSum}
pub use Rattle.fit_frame.specs.declared.header.HeaderSum.TheVariants.{Absent, Zero, True}
pub use Rattle.fit_frame.specs.inner.Judgement.{two_bytes, four_bytes, MayFollow, AreJudged, HasItsSize, ReadsWord, ReadsAs, IsReading}
