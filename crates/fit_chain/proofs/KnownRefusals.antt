-- Reasons and counts that are known from outside.
use Rattle.fit_chain.proofs.Common.{◌≡◌, ℕ, List, [], ◌∷◌, take, refl, None, Some, Record, Define, Values, Progress, at_header, at_data, bound, reason_at}
use Rattle.fit_chain.proofs.Common.{chain_limit, header_of, field, both_architectures}
use Rattle.fit_record.specs.declared.definition.FieldDef.{FieldDef}
use Rattle.fit_base.specs.declared.number.Order.TheVariants as orders
use Rattle.fit_frame.specs.declared.header.HeaderSum.TheVariants as sums
use Rattle.fit_frame.specs.declared.reason.Reason.TheVariants as reasons

Bytes : Type 0
Bytes = List ℕ

-- a file of n bytes of data with zeros for its header's sum, after these records and some bytes
abbrev after : ℕ → List (Record (Unit {0})) → List ℕ → Progress (Unit {0})
after n records part = at_data (header_of 14 sums.Zero) n records part

abbrev definition : ℕ → List FieldDef → Record (Unit {0})
definition local fields = Define (record { local = local; reserved = 0; order = orders.Little; global = 20; fields = fields; dev = None })

header_size : reason_at {A = Unit {0}} chain_limit 0 (at_header []) 0x0D ≡ Some reasons.HeaderSize
header_size = refl

no_fit_in_header : reason_at {A = Unit {0}} chain_limit 0 (at_header (0x0E ∷ 0x20 ∷ 0 ∷ 0 ∷ 3 ∷ 0 ∷ 0 ∷ [])) 0 ≡ Some reasons.NoFit
no_fit_in_header = refl

-- messages of three bytes would leave one byte
size_leaves_one : reason_at chain_limit 0 (after 10 [] (0x40 ∷ 0 ∷ 0 ∷ 0x14 ∷ 0 ∷ 1 ∷ 5 ∷ [])) 2 ≡ Some reasons.NoFit
size_leaves_one = refl

dev_size_leaves_one : reason_at chain_limit 0 (after 11 [] (0x60 ∷ 0 ∷ 0 ∷ 0x14 ∷ 0 ∷ 0 ∷ 1 ∷ 5 ∷ [])) 2 ≡ Some reasons.NoFit
dev_size_leaves_one = refl

too_many_fields : reason_at chain_limit 0 (after 8 [] (0x40 ∷ 0 ∷ 0 ∷ 0x14 ∷ 0 ∷ [])) 1 ≡ Some reasons.Overrun
too_many_fields = refl

no_developer_fields : reason_at chain_limit 0 (after 13 [] (0x60 ∷ 0 ∷ 0 ∷ 0x14 ∷ 0 ∷ 1 ∷ 8 ∷ 3 ∷ 0x0D ∷ [])) 0 ≡ Some reasons.NoFit
no_developer_fields = refl

two_developer_fields : reason_at chain_limit 0 (after 13 [] (0x60 ∷ 0 ∷ 0 ∷ 0x14 ∷ 0 ∷ 1 ∷ 8 ∷ 3 ∷ 0x0D ∷ [])) 2 ≡ Some reasons.Overrun
two_developer_fields = refl

long_message : reason_at chain_limit 0 (after 19 (definition 0 (field 8 19 0x0D ∷ []) ∷ []) []) 0 ≡ Some reasons.Overrun
long_message = refl

undefined_local : reason_at chain_limit 0 (after 19 (definition 0 (field 8 19 0x0D ∷ []) ∷ []) []) 1 ≡ Some reasons.UndefinedLocal
undefined_local = refl

reserved_bits : (reason_at chain_limit 0 (after 19 (definition 0 (field 8 19 0x0D ∷ []) ∷ []) []) 0x50 ≡ Some reasons.ReservedBit)
    × (reason_at chain_limit 0 (after 19 (definition 0 (field 8 19 0x0D ∷ []) ∷ []) []) 0x20 ≡ Some reasons.ReservedBit)
reserved_bits = (refl, refl)

message_leaves_three : reason_at chain_limit 0 (after 16 (definition 0 (field 8 3 0x0D ∷ []) ∷ []) []) 0 ≡ Some reasons.NoFit
message_leaves_three = refl

architecture : reason_at chain_limit 0 (after 6 [] (0x40 ∷ 0 ∷ [])) 2 ≡ Some reasons.Architecture
architecture = refl

-- a whole file, a header, a definition, and data of no defined type
second_file : reason_at chain_limit 1 (after 7 [] []) 0 ≡ Some reasons.UndefinedLocal
second_file = refl

closing_sum : reason_at chain_limit 0 (after 7 (definition 0 [] ∷ Values (record { local = 0; offset = None; fields = []; dev = [] }) ∷ []) []) 1
    ≡ Some reasons.FileSum
closing_sum = refl

past_the_limit : reason_at {A = Unit {0}} chain_limit 16777215 (at_header []) 0 ≡ Some reasons.TooManyFiles
past_the_limit = refl

-- how much a reader holds after some records of a file with two definitions
abbrev of_two : ℕ → List ℕ → Progress (Unit {0})
of_two n part = at_data both_architectures.header 36 (take n both_architectures.records) part

held : (bound (of_two 1 []) ≡ 2) × (bound (of_two 2 []) ≡ 2) × (bound (of_two 3 []) ≡ 4) × (bound (of_two 4 []) ≡ 4)
    × (bound (of_two 1 (0 ∷ 0x1F ∷ 0xCA ∷ [])) ≡ 6)
held = (refl, refl, refl, refl, refl)
