-- Worked rooms, and worked records that aren't whole.
use Rattle.fit_record.proofs.Common.{◌≡◌, ℕ, true, false, [], ◌∷◌, refl, None, Little, MessageDef, Define, Environment, empty_environment, learn, can_fill}
use Rattle.fit_record.proofs.Common.{can_complete, can_complete_dev, can_carry, map}

abbrev sized : ℕ → ℕ → MessageDef ℕ
sized local size = record { local = local; reserved = 0; order = Little; global = 20; fields = record { number = 5; size = size; code = 2 } ∷ []; dev = None }

abbrev nothing : Environment ℕ
nothing = empty_environment

-- data messages of 4 bytes
abbrev fours : Environment ℕ
fours = learn nothing (Define (sized 0 3))

-- of 3 and of 4 bytes
abbrev threes_and_fours : Environment ℕ
threes_and_fours = learn fours (Define (sized 15 2))

-- of 2 bytes
abbrev twos : Environment ℕ
twos = learn nothing (Define (sized 0 1))

-- of 2 and of 3 bytes
abbrev twos_and_threes : Environment ℕ
twos_and_threes = learn twos (Define (sized 1 2))

-- ---- rooms

rooms_of_nothing : (map (can_fill nothing) (0 ∷ 1 ∷ 5 ∷ 6 ∷ 7 ∷ [])) ≡ true ∷ false ∷ false ∷ true ∷ true ∷ []
rooms_of_nothing = refl

rooms_of_fours : (map (can_fill fours) (0 ∷ 1 ∷ 4 ∷ 5 ∷ 6 ∷ [])) ≡ true ∷ false ∷ true ∷ false ∷ true ∷ []
rooms_of_fours = refl

rooms_of_threes_and_fours : (map (can_fill threes_and_fours) (1 ∷ 2 ∷ 5 ∷ [])) ≡ false ∷ false ∷ false ∷ []
rooms_of_threes_and_fours = refl

rooms_of_twos_and_threes : (map (can_fill twos_and_threes) (1 ∷ 2 ∷ 3 ∷ 4 ∷ 5 ∷ [])) ≡ false ∷ true ∷ true ∷ true ∷ true ∷ []
rooms_of_twos_and_threes = refl

-- ---- data messages

-- A message of 2 bytes leaves 3 of the 4 bytes after its record header, and no message fills them.
carried : (map (can_carry twos 0) (0 ∷ 1 ∷ 3 ∷ 4 ∷ [])) ≡ false ∷ true ∷ true ∷ false ∷ []
carried = refl

-- Local message type 1 isn't defined, and messages of 4 bytes leave 3 of 7.
not_carried : (can_carry twos 1 6 ∷ can_carry fours 0 6 ∷ []) ≡ false ∷ false ∷ []
not_carried = refl

-- ---- definition messages

-- One byte would be left, and messages would have three; none is left; the entry of a field would overrun.
at_the_end : (can_complete nothing 0 1 2 2 ∷ can_complete nothing 0 1 0 2 ∷ can_complete nothing 0 3 0 2 ∷ []) ≡ false ∷ true ∷ false ∷ []
at_the_end = refl

-- Three bytes would be left for messages of four, unless a developer field takes them. Two are too many.
with_developer_fields : map (λ to_come. can_complete nothing 0 to_come 3 3) (0 ∷ 3 ∷ 6 ∷ []) ≡ false ∷ true ∷ false ∷ []
with_developer_fields = refl

-- Messages of 2 bytes don't fill 5 bytes. While the number of developer fields is to come, one of them may.
number_open : can_complete_dev nothing 0 1 1 7 ≡ true
number_open = refl

-- none of them, and one of them
number_known : map (λ to_come. can_complete nothing 0 to_come 1 5) (0 ∷ 3 ∷ []) ≡ false ∷ true ∷ []
number_known = refl

-- The definition message that is replaced doesn't count, and one beside it does.
replaced : map (λ local. can_complete twos local 1 3 3) (0 ∷ 1 ∷ []) ≡ false ∷ true ∷ []
replaced = refl

-- a size that is still open, beside another of 1 or 3
open_size : map (λ size. can_complete nothing 0 4 size 6) (1 ∷ 3 ∷ []) ≡ true ∷ false ∷ []
open_size = refl
