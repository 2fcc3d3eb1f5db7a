-- The header that a block says has the form of one.
use Rattle.std.proofs.Common.{◌≡◌, ℕ, zero, suc, ◌+◌, ◌-◌, ◌≤◌, ◌^◌, Bool, true, List, length, take, drop, ap, arith, length-take, length-drop}
use Rattle.std.proofs.lemmas.Bool.{and_parts, eqb-true}
use Rattle.std.specs.Prelude.{◌==◌, ◌&&◌, if◌then◌else◌, nat_le, nat_lt}
use Rattle.fit_frame.specs.Header.{FormFits, SizeFits}
use Rattle.fit_from_messages.specs.Parts.{byte_at, header_in, header_stands, number_read, size_stands, sum_of_kind}

size_fits_by : (k size : ℕ) (block : List ℕ)
    → (if k == 0 then size == 12 else nat_lt k 3 && nat_le 14 size && nat_le (18 + size) (length block)) ≡ true
    → SizeFits (sum_of_kind k) size (take (size - 14) (drop 32 block))
size_fits_by zero size block stands =
    let twelve : size ≡ 12 = eqb-true size 12 stands in
    (twelve, ap (λ n. take (n - 14) (drop 32 block)) twelve)
size_fits_by (suc zero) size block stands =
    let least : 14 ≤ size = grind (arith, stands) in
    let room : 18 + size ≤ length block = grind (arith, stands) in
    omega (arith, least, room, length-take (size - 14) (drop 32 block), length-drop 32 block)
size_fits_by (suc (suc k)) size block stands =
    let least : 14 ≤ size = grind (arith, stands) in
    let room : 18 + size ≤ length block = grind (arith, stands) in
    omega (arith, least, room, length-take (size - 14) (drop 32 block), length-drop 32 block)

pub form_fits : (block : List ℕ) → header_stands block ≡ true → FormFits (header_in block)
form_fits block stands =
    let long : Bool = nat_le 32 (length block) in
    let size : Bool = size_stands block in
    let version : Bool = nat_lt (byte_at 6 block) 0x30 in
    let profile : Bool = nat_lt (number_read 8 24 block) (2 ^ 16) in
    let first = (and_parts (long && size && version) profile stands).0 in
    let second = and_parts (long && size) version first in record {
      size = size_fits_by (byte_at 7 block) (byte_at 5 block) block (and_parts long size second.0).1;
      version = grind (arith, second.1);
    }
