-- The block of a message says the time of its compressed header where a reader is told one.
use Rattle.std.proofs.Common.{◌≡◌, ◌∙◌, ℕ, zero, suc, ◌+◌, ◌*◌, ◌-◌, ◌/◌, ◌%◌, ◌^◌, ◌<◌, ◌==◌, List, [], ◌∷◌, Bool, true, false, inl, inr}
use Rattle.std.proofs.Common.{refl, ap, ap₂, subst, arith, length}
use Rattle.std.proofs.lemmas.Bool.{eq-eqb, le-leb, ltb-true, ne_eqb}
use Rattle.std.specs.List.{range_with_len}
use Rattle.std.specs.Prelude.{◌&&◌, ◌⊎◌, Option, Some, None, IfSome, find, if◌then◌else◌, nat_le, nat_lt, not, option_and_then, option_map, unwrap_or}
use Rattle.std.specs.Option.{is_some}
use Rattle.fit_base.proofs.Bytes.{little-little_bytes}
use Rattle.fit_base.specs.Numbers.{little_bytes, number}
use Rattle.fit_base.specs.declared.items.Items.{Items}
use Rattle.fit_base.specs.declared.number.Order.TheVariants.{Little}
use Rattle.fit_messages.specs.Blocks.{flag, message_block, told_bits}
unfoldable use Rattle.fit_messages.specs.Blocks.{low}
use Rattle.fit_profile.specs.Least.{least_from}
use Rattle.fit_profile.specs.Looks.{first_field, known}
use Rattle.fit_profile.specs.Times.{field_time, header_time, in_32_bits, own_time, previous_time, time_in_field, time_of, valid_time}
use Rattle.fit_profile.specs.declared.told.Told.{Told}
use Rattle.std.specs.Global.{Global}
use Rattle.fit_record.specs.Environment.{Environment, defined_at, only}
use Rattle.fit_record.specs.Faults.{or_else}
use Rattle.fit_record.specs.HeaderByte.{bit}
use Rattle.fit_record.specs.Records.{DataHeaderFits}
use Rattle.fit_record.specs.declared.definition.FieldDef.{FieldDef}
use Rattle.fit_record.specs.declared.definition.MessageDef.{MessageDef}
use Rattle.fit_record.specs.declared.message.Record.{Record}
use Rattle.fit_record.specs.declared.message.Record.TheVariants.{Define, Values as Data}
use Rattle.fit_record.specs.declared.message.Values.{Values}
use Rattle.fit_from_messages.proofs.MessageBack.{offset_back}
use Rattle.fit_from_messages.specs.Parts.{offset_in}
use Rattle.fit_writer.specs.Reading.{header_time_in}

-- ---- times have 32 bits

abbrev pub IsShortTime : Option ℕ → Type 0
IsShortTime o = IfSome o (λ t. t < 2 ^ 32)

either_short : (a b : Option ℕ) → IsShortTime a → IsShortTime b → IsShortTime (or_else a b)
either_short None b first second = second
either_short (Some t) b first second = first

then_short : {X : Type 0} (f : X → Option ℕ) → ((x : X) → IsShortTime (f x)) → (o : Option X) → IsShortTime (option_and_then f o)
then_short f each None = tt
then_short f each (Some x) = each x

valid_short : (n : ℕ) → IsShortTime (valid_time n)
valid_short n = go (nat_lt n 0xFFFFFFFF) refl
  where
    go : (b : Bool) → nat_lt n 0xFFFFFFFF ≡ b → IsShortTime (if b then Some n else None)
    go true is = let less = ltb-true n 0xFFFFFFFF is in omega (arith, less)
    go false is = tt

in_field_short : {A : Type 0} (f : FieldDef) (i : Items A) → IsShortTime (time_in_field f i)
in_field_short f i = elim (f.code == 0x86 && f.size == 4) as (λ b. IsShortTime (if b then option_and_then valid_time (only i.bits) else None)) [
  | true ↦ then_short valid_time valid_short (only i.bits)
  | false ↦ tt
]

own_short : {A : Type 0} (e : Environment A) (v : Values A) → IsShortTime (own_time e v)
own_short e v =
    then_short (λ p. field_time p.definition v)
    (λ p. then_short (λ f. time_in_field f.0 f.1) (λ f. in_field_short f.0 f.1) (first_field p.definition.fields v.fields 253))
    (defined_at e v.local)

found_before : (p : ℕ → Bool) (n start : ℕ) → IfSome (find p (range_with_len start n)) (λ a. a < start + n)
found_before p zero start = tt
found_before p (suc n) start = elim (p start) as (λ b. IfSome (if b then Some start else find p (range_with_len (start + 1) n)) (λ a. a < start + suc n)) [
  | true ↦ omega arith
  | false ↦ subst (λ k. IfSome (find p (range_with_len (start + 1) n)) (λ a. a < k))
      (let same : start + 1 + n ≡ start + suc n = omega arith in same) (found_before p n (start + 1))
]

wraps_short : (a t : ℕ) → t < 2 ^ 32 → a < t + 32 → in_32_bits a < 2 ^ 32
wraps_short a t small near = go (nat_lt a (2 ^ 32)) refl
  where
    go : (b : Bool) → nat_lt a (2 ^ 32) ≡ b → (if b then a else a - 2 ^ 32) < 2 ^ 32
    go true is = ltb-true a (2 ^ 32) is
    go false is = omega (arith, small, near)

pub header_short : (previous offset : Option ℕ) → IsShortTime previous → IsShortTime (header_time previous offset)
header_short previous None small = tt
header_short None (Some o) small = tt
header_short (Some t) (Some o) small = go (least_from t o 32) (found_before (λ a. a % 32 == o) 32 t)
  where
    go : (found : Option ℕ) → IfSome found (λ a. a < t + 32) → IsShortTime (option_map in_32_bits found)
    go None near = tt
    go (Some a) near = wraps_short a t small near

pub previous_short : {A : Type 0} (before : List (Record A)) → IsShortTime (previous_time before)
previous_short [] = tt
previous_short (Define d ∷ before) = previous_short before
previous_short (Data v ∷ before) =
    either_short (time_of (known before) (previous_time before) (Data v)) (previous_time before)
    (either_short (own_time (known before) v) (header_time (previous_time before) v.offset) (own_short (known before) v)
    (header_short (previous_time before) v.offset (previous_short before))) (previous_short before)

-- ---- in a block

is_flag : (weight : ℕ) (o : Option ℕ) → (flag weight o ≡ 0) ⊎ (flag weight o ≡ weight)
is_flag weight None = inl refl
is_flag weight (Some x) = inr refl

two_flags : (a b : Option ℕ) (n : ℕ) → bit 1 (flag 1 a + flag 2 b + 4 * n) ≡ is_some b
two_flags a None n = ne_eqb ((flag 1 a + 0 + 4 * n) / 2 ^ 1 % 2) 1 (λ e. grind (arith, e, is_flag 1 a))
two_flags a (Some t) n = eq-eqb ((flag 1 a + 2 + 4 * n) / 2 ^ 1 % 2) 1 (grind (arith, is_flag 1 a))

times_four : (weight : ℕ) (o : Option ℕ) → flag (4 * weight) o ≡ 4 * flag weight o
times_four weight None = refl
times_four weight (Some x) = refl

pub header_bit : (t : Told) → bit 1 (told_bits t) ≡ is_some t.header_time
header_bit t =
    let others : ℕ = flag 1 t.speed + flag 2 t.distance + flag 4 t.total_cycles + flag 8 t.accumulated_power in
    let same : told_bits t ≡ flag 1 t.time + flag 2 t.header_time + 4 * others =
    omega (arith, times_four 1 t.speed, times_four 2 t.distance, times_four 4 t.total_cycles, times_four 8 t.accumulated_power) in
    ap (bit 1) same ∙ two_flags t.time t.header_time others

-- what is read, by the byte of the offset, the bit and the number
time_again : (local : ℕ) (previous offset : Option ℕ) → DataHeaderFits local offset → IsShortTime previous
    → (if (true && not (unwrap_or offset 0xFF == 0xFF)) && is_some (header_time previous offset)
    then Some (number Little (little_bytes 4 (unwrap_or (header_time previous offset) 0xFFFFFFFF))) else None) ≡ header_time previous offset
time_again local previous None fits small = refl
time_again local previous (Some o) fits small =
    let there : (o == 0xFF) ≡ false = ne_eqb o 0xFF (λ e. let less = fits.1 in omega (arith, e, less)) in
    rw there (go (header_time previous (Some o)) (header_short previous (Some o) small))
  where
    go : (h : Option ℕ) → IsShortTime h → (if is_some h then Some (number Little (little_bytes 4 (unwrap_or h 0xFFFFFFFF))) else None) ≡ h
    go None short = refl
    go (Some t) short = ap Some (little-little_bytes 4 t short)

module _ (file place nth : ℕ) (v : Values Global) (d : MessageDef Global) (t : Told) (fits : DataHeaderFits v.local v.offset) where
  pub offset_said : offset_in (message_block file place nth v d t) ≡ v.offset
  unfolding low
  offset_said = offset_back v.local v.offset fits

  long_block : nat_le 40 (length (message_block file place nth v d t)) ≡ true
  unfolding low
  long_block = le-leb 40 (length (message_block file place nth v d t)) (omega arith)

  -- the time of the header, where a reader that had this time before is told one
  pub header_said : (previous : Option ℕ) → IsShortTime previous → t.header_time ≡ header_time previous v.offset
      → header_time_in (message_block file place nth v d t) ≡ header_time previous v.offset
  unfolding low
  header_said previous short is =
      ap₂ (λ a c. if (a && not (unwrap_or v.offset 0xFF == 0xFF)) && c
      then Some (number Little (little_bytes 4 (unwrap_or t.header_time 0xFFFFFFFF))) else None) long_block (header_bit t)
      ∙ ap (λ (h : Option ℕ). if (true && not (unwrap_or v.offset 0xFF == 0xFF)) && is_some h
      then Some (number Little (little_bytes 4 (unwrap_or h 0xFFFFFFFF))) else None) is
      ∙ time_again v.local previous v.offset fits short
