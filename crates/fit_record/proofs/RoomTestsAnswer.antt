-- The room tests answer what they are for.
use Rattle.fit_record.proofs.Common.{◌≡◌, ℕ, ◌+◌, ◌<◌, ◌↔◌, IsTrue, Bool, length, sym, ap, ◌∙◌, subst, if◌then◌else◌, Environment, data_header, CanComplete}
use Rattle.fit_record.proofs.Common.{can_complete, can_complete_dev, can_complete_front, CanCarry, can_carry}
use Rattle.fit_record.specs.RoomAnswers.{AnswersFront, AnswersFields, AnswersDevNumber, AnswersDevFields, AnswersMessage}
use Rattle.fit_record.proofs.DefinitionFronts.{front_can_complete}
use Rattle.fit_record.proofs.DefinitionParts.{fields_can_complete, dev_can_complete, dev_fields_can_complete}
use Rattle.fit_record.proofs.CarriedMessages.{can_carry_is}

-- of numbers that are the test's
answered : (test : ℕ → ℕ → Bool) (answer : Bool) (l m s n : ℕ) {P : Type 0} → l ≡ m → s ≡ n → answer ≡ test m n → IsTrue (test l s) ↔ P → IsTrue answer ↔ P
answered test answer l m s n {P} p q h law = subst (λ b. IsTrue b ↔ P) (ap (λ k. test k s) p ∙ ap (test m) q ∙ sym h) law

pub front_answered : {A : Type 0} (e : Environment A) (dev : Bool) (come room : ℕ) (answer : Bool) → come < 5 → answer ≡ can_complete_front dev come room
    → length e.places ≡ 16
    → AnswersFront e dev come room answer
front_answered e dev come room answer few h sixteen local part low long arch are =
    let short : length part < 5 = subst (λ n. n < 5) (sym long) few in
    subst (λ b. IsTrue b ↔ CanComplete e (0x40 + local + (if dev then 0x20 else 0)) part room) (ap (λ n. can_complete_front dev n room) long ∙ sym h)
    (front_can_complete e local dev part room sixteen low short arch are)

module _ {A : Type 0} (e : Environment A) (local to_come size room : ℕ) (answer : Bool) (low : local < 16) (sixteen : length e.places ≡ 16) where
  pub fields_answered : answer ≡ can_complete e local to_come size room → AnswersFields e local to_come size room answer
  fields_answered h d count entry same sum global few cut none =
      answered (λ l s. can_complete e l to_come s room) answer d.local local _ size same sum h
      (fields_can_complete e d count entry to_come room sixteen (subst (λ l. l < 16) (sym same) low) global few cut none)

  pub dev_number_answered : answer ≡ can_complete_dev e local to_come size room → AnswersDevNumber e local to_come size room answer
  dev_number_answered h d count entry same sum global few cut some =
      answered (λ l s. can_complete_dev e l to_come s room) answer d.local local _ size same sum h
      (dev_can_complete e d count entry to_come room sixteen (subst (λ l. l < 16) (sym same) low) global few cut some)

  pub dev_fields_answered : answer ≡ can_complete e local to_come size room → AnswersDevFields e local to_come size room answer
  dev_fields_answered h d devs count entry same sum global short few some cut =
      answered (λ l s. can_complete e l to_come s room) answer d.local local _ size same sum h
      (dev_fields_can_complete e d devs count entry to_come room sixteen (subst (λ l. l < 16) (sym same) low) global short few some cut)

pub message_answered : {A : Type 0} (e : Environment A) (local room : ℕ) (answer : Bool) → length e.places ≡ 16 → answer ≡ can_carry e local room
    → AnswersMessage e local room answer
message_answered e local room answer sixteen h offset part left header are begun whole =
    subst (λ b. IsTrue b ↔ CanCarry e (data_header local offset) part left) (ap (can_carry e local) whole ∙ sym h)
    (can_carry_is e local offset part left sixteen header are begun)
