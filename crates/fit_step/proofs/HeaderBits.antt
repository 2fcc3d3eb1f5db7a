-- The bits of the record header of a definition message, and the parts that it spells.
use Rattle.fit_step.proofs.Common.{◌≡◌, ◌⊎◌, inl, inr, ℕ, ◌+◌, ◌/◌, ◌%◌, ◌<◌, Bool, true, false, List, refl, arith, Some, None, Option, ◌&&◌, ◌||◌, not}
use Rattle.fit_step.proofs.Common.{option_map, unwrap_or, and_parts, not-true, DevDef, bit, is_definition, has_developer_fields, has_reserved_bit, local_type}
use Rattle.fit_step.proofs.Common.{new_dev}
use Rattle.fit_record.proofs.DataHeaders.{off_is, on_is, is_off, is_on, not_reserved}
pub use Rattle.fit_record.proofs.DataHeaders.{data_spelled, DataBits, data_bits}

-- ---- from the bits to the parts

definition_at : (b : ℕ) (c : Bool) → b < 256 → bit 7 b ≡ false → bit 6 b ≡ true → bit 4 b ≡ false → bit 5 b ≡ c
    → 0x40 + b % 16 + unwrap_or (option_map (λ _. 0x20) (new_dev c)) 0 ≡ b
definition_at b true l h7 h6 h4 h5 = omega (arith, off_is (b / 128) h7, on_is (b / 64) h6, off_is (b / 16) h4, on_is (b / 32) h5)
definition_at b false l h7 h6 h4 h5 = omega (arith, off_is (b / 128) h7, on_is (b / 64) h6, off_is (b / 16) h4, off_is (b / 32) h5)

-- a definition's header
pub definition_spelled : (b : ℕ) → b < 256 → has_reserved_bit b ≡ false → is_definition b ≡ true
    → (local_type b < 16) × (0x40 + local_type b + unwrap_or (option_map (λ _. 0x20) (new_dev (has_developer_fields b))) 0 ≡ b)
definition_spelled b l r h =
    let parts = and_parts (not (bit 7 b)) (bit 6 b) h in
    let normal : bit 7 b ≡ false = not-true (bit 7 b) parts.0 in
    let clean = not_reserved b r normal in
    rw normal (omega arith, definition_at b (bit 5 b) l normal parts.1 clean.0 refl)

-- ---- from the parts to the bits

-- what the header of a definition says
pub record DefinitionBits (b local : ℕ) (dev : Bool) : Type 0 where
  pub clean : has_reserved_bit b ≡ false
  pub kind : is_definition b ≡ true
  pub with_dev : has_developer_fields b ≡ dev
  pub type : local_type b ≡ local

definition_bits_at : (b l x : ℕ) (dev : Bool) → b ≡ 0x40 + l + x → l < 16 → bit 5 b ≡ dev → (x ≡ 0) ⊎ (x ≡ 32) → DefinitionBits b l dev
definition_bits_at b l x dev e h d c =
    let seven : bit 7 b ≡ false = is_off (b / 128 % 2) (elim c [ inl z ↦ omega arith | inr z ↦ omega arith ]) in
    let six : bit 6 b ≡ true = is_on (b / 64 % 2) (elim c [ inl z ↦ omega arith | inr z ↦ omega arith ]) in
    let four : bit 4 b ≡ false = is_off (b / 16 % 2) (elim c [ inl z ↦ omega arith | inr z ↦ omega arith ]) in
    let low : b % 16 ≡ l = elim c [ inl z ↦ omega arith | inr z ↦ omega arith ] in
    record {
      clean = rw (seven, four, six) (and_no (bit 5 b));
      kind = rw (seven, six) refl;
      with_dev = d;
      type = rw seven low;
    }
  where
    and_no : (c : Bool) → (not false && (false || (c && not true))) ≡ false
    and_no true = refl
    and_no false = refl

abbrev pub is_some_dev : Option (List DevDef) → Bool
is_some_dev None = false
is_some_dev (Some _) = true

pub definition_bits : (b l : ℕ) (dev : Option (List DevDef)) → b ≡ 0x40 + l + unwrap_or (option_map (λ _. 0x20) dev) 0 → l < 16
    → DefinitionBits b l (is_some_dev dev)
definition_bits b l None e h = definition_bits_at b l 0 false e h (is_off (b / 32 % 2) (omega arith)) (inl refl)
definition_bits b l (Some fs) e h = definition_bits_at b l 32 true e h (is_on (b / 32 % 2) (omega arith)) (inr refl)
