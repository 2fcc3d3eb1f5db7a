-- The machine on some records.
use Rattle.fit_step.proofs.Common.{◌≡◌, ℕ, List, [], ◌∷◌, refl, Some, None, Ok, Err, Big, ReservedBit, UndefinedLocal, Overrun, Architecture, MessageDef}
use Rattle.fit_step.proofs.Common.{Define, Data, Environment, empty_environment, learn, Tests, Step, start, step, header_move, message_move, definition_move}
use Rattle.fit_step.proofs.Common.{field_move, dev_move}
use Rattle.fit_step.proofs.OneByte.{no_tests}

abbrev after : {A : Type 0} → Environment A → Tests A → Step A → List ℕ → Step A
after e tests (Ok (s, None)) (b ∷ bytes) = after e tests (step e tests s b) bytes
after e tests made bytes = made

-- what some bytes make of a room
abbrev made : {A : Type 0} → Environment A → ℕ → List ℕ → Step A
made e room bytes = after e no_tests (Ok (start room, None)) bytes

abbrev e0 : Environment (Unit {0})
e0 = empty_environment

-- field 8 of two bytes big endian, uint16, and a developer field of one byte
abbrev two : MessageDef (Unit {0})
two = record {
  local = 3;
  reserved = 7;
  order = Big;
  global = 20;
  fields =
      (record { number = 8; size = 2; code = 0x84 }) ∷ (record { number = 9; size = 0; code = 0x84 }) ∷ [];
  dev =
      Some ((record { number = 1; size = 1; index = 0 }) ∷ []);
}

a_definition : made e0 17 (0x63 ∷ 7 ∷ 1 ∷ 0 ∷ 20 ∷ 2 ∷ 8 ∷ 2 ∷ 0x84 ∷ 9 ∷ 0 ∷ 0x84 ∷ 1 ∷ 1 ∷ 1 ∷ 0 ∷ []) ≡ Ok (start 1, Some (Define two))
unfolding step header_move definition_move
a_definition = refl

a_message : made (learn e0 (Define two)) 9 (3 ∷ 1 ∷ 2 ∷ 5 ∷ [])
    ≡ Ok (
      start 5,
      Some (Data (record {
        local = 3;
        offset = None;
        fields =
            (record { width = 2; bits = 258 ∷ [] }) ∷ (record { width = 2; bits = [] }) ∷ [];
        dev = (record { width = 1; bits = 5 ∷ [] }) ∷ [];
      })),
    )
unfolding step header_move message_move field_move dev_move
a_message = refl

refused : (made e0 8 (0x40 ∷ 0 ∷ 0 ∷ 20 ∷ 0 ∷ 1 ∷ []) ≡ Err Overrun)
    × (made e0 6 (0x40 ∷ 0 ∷ 2 ∷ []) ≡ Err Architecture)
    × (made e0 19 (0x50 ∷ []) ≡ Err ReservedBit)
    × (made e0 19 (1 ∷ []) ≡ Err UndefinedLocal)
    × (made (learn e0 (Define two)) 3 (3 ∷ []) ≡ Err Overrun)
unfolding step header_move message_move definition_move
refused = (refl, refl, refl, refl, refl)
