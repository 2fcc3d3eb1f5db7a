-- The bits of the record header of a data message, and the parts that it spells.
use Rattle.fit_record.proofs.Common.{◌≡◌, inl, inr, ℕ, ◌/◌, ◌%◌, ◌<◌, Bool, true, false, cond, List, ◌∷◌, refl, sym, arith, Some, None, Option, ◌&&◌}
use Rattle.fit_record.proofs.Common.{◌||◌, not, eqb-true, eqb-false, eq-eqb, ne_eqb, cases_lt, and_cases, or_parts, not-false, both_ways}
use Rattle.fit_record.proofs.Common.{bit, is_compressed, is_definition, has_reserved_bit, local_type, data_header, DataHeaderFits, ◌==◌, IsSomeAnd, Defined}
use Rattle.fit_record.proofs.Common.{Environment, Values, defined_at, DataFits, data_bytes, order_at}

pub off_is : (n : ℕ) → (n % 2 == 1) ≡ false → n % 2 ≡ 0
off_is n h = elim (cases_lt (n % 2) 1) [ inl less ↦ omega arith | inr over ↦ absurd (eqb-false (n % 2) 1 h (omega arith)) ]

pub on_is : (n : ℕ) → (n % 2 == 1) ≡ true → n % 2 ≡ 1
on_is n h = eqb-true (n % 2) 1 h

pub is_off : (n : ℕ) → n ≡ 0 → (n == 1) ≡ false
is_off n h = ne_eqb n 1 (λ e. omega arith)

pub is_on : (n : ℕ) → n ≡ 1 → (n == 1) ≡ true
is_on n h = eq-eqb n 1 h

-- ---- from the bits to the parts

pub not_reserved : (b : ℕ) → has_reserved_bit b ≡ false → bit 7 b ≡ false → (bit 4 b ≡ false) × ((bit 5 b && not (bit 6 b)) ≡ false)
not_reserved b h n =
    elim (and_cases (not (bit 7 b)) (bit 4 b || (bit 5 b && not (bit 6 b))) h) [
      | inl one ↦ absurd (both_ways (bit 7 b) n (not-false (bit 7 b) one))
      | inr rest ↦ or_parts (bit 4 b) (bit 5 b && not (bit 6 b)) rest
    ]

data_at : (b : ℕ) (c : Bool) → b < 256 → has_reserved_bit b ≡ false → is_definition b ≡ false → bit 7 b ≡ c
    → DataHeaderFits (cond c (b / 32 % 4) (b % 16)) (cond c (Some (b % 32)) None)
    × (data_header (cond c (b / 32 % 4) (b % 16)) (cond c (Some (b % 32)) None) ≡ b)
data_at b true l r h e = ((omega arith, omega arith), omega (arith, on_is (b / 128) e))
data_at b false l r h e =
    let clean = not_reserved b r e in
    let six : bit 6 b ≡ false = elim (and_cases (not (bit 7 b)) (bit 6 b) h) [ inl one ↦ absurd (both_ways (bit 7 b) e (not-false (bit 7 b) one)) | inr z ↦ z ]
    in
    let five : bit 5 b ≡ false = elim (and_cases (bit 5 b) (not (bit 6 b)) clean.1)
    [ inl z ↦ z | inr one ↦ absurd (both_ways (bit 6 b) six (not-false (bit 6 b) one)) ] in
    (omega arith, omega (arith, off_is (b / 128) e, off_is (b / 64) six, off_is (b / 32) five, off_is (b / 16) clean.0))

-- a data message's header
pub data_spelled : (b : ℕ) → b < 256 → has_reserved_bit b ≡ false → is_definition b ≡ false
    → DataHeaderFits (local_type b) (cond (is_compressed b) (Some (b % 32)) None)
    × (data_header (local_type b) (cond (is_compressed b) (Some (b % 32)) None) ≡ b)
data_spelled b l r h = data_at b (bit 7 b) l r h refl

-- ---- from the parts to the bits

pub record DataBits (b local : ℕ) : Type 0 where
  pub clean : has_reserved_bit b ≡ false
  pub kind : is_definition b ≡ false
  pub type : local_type b ≡ local

pub data_bits : (b l : ℕ) (offset : Option ℕ) → b ≡ data_header l offset → DataHeaderFits l offset → DataBits b l
data_bits b l None e h =
    let seven : bit 7 b ≡ false = is_off (b / 128 % 2) (omega arith) in
    let six : bit 6 b ≡ false = is_off (b / 64 % 2) (omega arith) in
    let five : bit 5 b ≡ false = is_off (b / 32 % 2) (omega arith) in
    let four : bit 4 b ≡ false = is_off (b / 16 % 2) (omega arith) in
    let low : b % 16 ≡ l = omega arith in
    record { clean = rw (seven, four, five) refl; kind = rw (seven, six) refl; type = rw seven low }
data_bits b l (Some s) e h =
    let seven : bit 7 b ≡ true = is_on (b / 128 % 2) (omega (arith, h.0, h.1)) in
    let low : b / 32 % 4 ≡ l = omega (arith, h.0, h.1) in
    record { clean = rw seven refl; kind = rw seven refl; type = rw seven low }

-- ---- what a data message says of its first byte

pub data_header_fits : {A : Type 0} (o : Option (Defined A)) (v : Values A) → IsSomeAnd o (DataFits v) → (p : Defined A) × (o ≡ Some p) × DataFits v p
data_header_fits None v h = absurd h
data_header_fits (Some p) v h = (p, refl, h)

pub record Messages {A : Type 0} (e : Environment A) (b : ℕ) (rest : List ℕ) (v : Values A) : Type 0 where
  pub bits : DataBits b v.local
  pub place : Defined A
  pub known : defined_at e v.local ≡ Some place
  pub fits : DataFits v place
  pub tail : data_bytes (order_at e v.local) v ≡ rest

pub message_first : {A : Type 0} (e : Environment A) (v : Values A) (b : ℕ) (rest : List ℕ) → IsSomeAnd (defined_at e v.local) (DataFits v)
    → data_header v.local v.offset ∷ data_bytes (order_at e v.local) v ≡ b ∷ rest → Messages e b rest v
message_first e v b rest h s =
    let first : data_header v.local v.offset ≡ b = cc in
    let others : data_bytes (order_at e v.local) v ≡ rest = cc in
    let k = data_header_fits (defined_at e v.local) v h in
    record { bits = data_bits b v.local v.offset (sym first) k.2.header; place = k.0; known = k.1; fits = k.2; tail = others }
