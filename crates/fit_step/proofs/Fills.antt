-- Where a test of rooms refuses.
use Rattle.fit_step.proofs.Common.{◌≡◌, ℕ, ◌+◌, ◌-◌, ◌*◌, false, refl, Some, None, Err, Option, nat_lt, cond_both, NoFit, MessageDef, Defined, DefinitionPhase}
use Rattle.fit_step.proofs.Common.{AtArchitecture, FieldCount, FieldSize, DevCount, DevSize, Environment, defined_at, is_definition, has_reserved_bit}
use Rattle.fit_step.proofs.Common.{local_type, least_definition, message_size, Tests, Step, step, header_move, message_move, definition_move, field_move}
use Rattle.fit_step.proofs.Common.{dev_move, dev_count_byte, nothing, in_definition, in_fields, in_dev_fields, Fails, NoFitFails, ◌==◌}

-- where a step refuses for want of records, P holds
abbrev Tells : {A : Type 0} → Type 0 → Step A → Type 0
Tells P n = n ≡ Err NoFit → P

message_tells : {A : Type 0} (e : Environment A) (tests : Tests A) (room b : ℕ) (o : Option (Defined A)) → is_definition b ≡ false
    → defined_at e (local_type b) ≡ o → Tells (Fails e tests room nothing b) (message_move tests room b o)
unfolding message_move
message_tells e tests room b None plain known = λ h. absurd cc
message_tells {A} e tests room b (Some p) plain known =
    cond_both (nat_lt room (1 + message_size p)) _ _ (Tells (Fails {A = A} e tests room nothing b)) (λ z h. absurd cc)
    (λ z. cond_both (tests.message (room - (1 + message_size p))) _ _ (Tells (Fails {A = A} e tests room nothing b))
    (λ y h. absurd cc) (λ y h. (plain, p, known, y)))

header_tells : {A : Type 0} (e : Environment A) (tests : Tests A) (room b : ℕ) → Tells (Fails e tests room nothing b) (header_move e tests room b)
unfolding header_move
header_tells {A} e tests room b =
    cond_both (has_reserved_bit b) _ _ (Tells (Fails {A = A} e tests room nothing b)) (λ z h. absurd cc)
    (λ z. cond_both (is_definition b) _ _ (Tells (Fails {A = A} e tests room nothing b))
    (λ y. cond_both (nat_lt room (least_definition b)) _ _ (Tells (Fails {A = A} e tests room nothing b)) (λ x h. absurd cc) (λ x h. absurd cc))
    (λ y. message_tells e tests room b (defined_at e (local_type b)) y refl))

definition_tells : {A : Type 0} (e : Environment A) (tests : Tests A) (room : ℕ) (k : DefinitionPhase) (d : MessageDef A) (b : ℕ)
    → Tells (Fails e tests room (in_definition k d) b) (definition_move tests k room d b)
unfolding definition_move
definition_tells e tests room AtArchitecture d b =
    cond_both (b == 0) _ _ (Tells ⊥) (λ z h. absurd cc) (λ z. cond_both (b == 1) _ _ (Tells ⊥) (λ y h. absurd cc) (λ y h. absurd cc))
definition_tells e tests room FieldCount d b = cond_both (nat_lt room (1 + 3 * b + dev_count_byte d.dev)) _ _ (Tells ⊥) (λ z h. absurd cc) (λ z h. absurd cc)
definition_tells e tests room (FieldSize left number) d b =
    cond_both (tests.field_size d (left - 1) (room - 1) b) _ _ (Tells (tests.field_size d (left - 1) (room - 1) b ≡ false)) (λ z h. absurd cc) (λ z h. z)
definition_tells e tests room DevCount d b =
    cond_both (nat_lt room (1 + 3 * b)) _ _ (Tells (tests.dev_count d (room - 1) b ≡ false)) (λ z h. absurd cc)
    (λ z. cond_both (tests.dev_count d (room - 1) b) _ _ (Tells (tests.dev_count d (room - 1) b ≡ false)) (λ y h. absurd cc) (λ y h. y))
definition_tells e tests room (DevSize left number) d b =
    cond_both (tests.dev_size d (left - 1) (room - 1) b) _ _ (Tells (tests.dev_size d (left - 1) (room - 1) b ≡ false)) (λ z h. absurd cc) (λ z h. z)
definition_tells e tests room k d b = λ h. absurd cc

pub no_fit_fails : {A : Type 0} → NoFitFails A
unfolding step field_move dev_move
no_fit_fails e tests room nothing b h = header_tells e tests room b h
no_fit_fails e tests room (in_definition k d) b h = definition_tells e tests room k d b h
no_fit_fails e tests room (in_fields local offset t dev) b h = cond_both (t.left == 1) _ _ (Tells ⊥) (λ z g. absurd cc) (λ z g. absurd cc) h
no_fit_fails e tests room (in_dev_fields local offset items t) b h = cond_both (t.left == 1) _ _ (Tells ⊥) (λ z g. absurd cc) (λ z g. absurd cc) h
