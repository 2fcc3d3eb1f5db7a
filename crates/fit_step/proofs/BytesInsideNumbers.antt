-- A byte that ends no number only moves on.
use Rattle.fit_step.proofs.Common.{◌≡◌, cond, false, ℕ, ◌+◌, ◌-◌, ◌<◌, List, [], ◌∷◌, ◌++◌, length, length-append, sym, ap, ◌∙◌, arith, Some, None, Ok, Option}
use Rattle.fit_step.proofs.Common.{cond-false, ne_eqb, number, Record, Data, Values, Environment, order_at, Phase, FieldItems, DevItems, Position, Tests}
use Rattle.fit_step.proofs.Common.{add_number, reading, field_move, dev_move, values_of, step, step_at, state_at, ◌==◌}

module _ {A : Type 0} (e : Environment A) (place width left room : ℕ) (v : Values A) (partial : List ℕ) (b : ℕ) (some : 1 < left)
    (short : length partial + 1 < width) where
  not_last : (left == 1) ≡ false
  not_last = ne_eqb left 1 (λ one. omega arith)

  no_number : (length (partial ++ b ∷ []) == width) ≡ false
  no_number = ne_eqb (length (partial ++ b ∷ [])) width (λ all. omega (arith, all, length-append partial (b ∷ [])))

  field_goes : field_move e place width left room v partial b ≡ Ok (reading (FieldItems place width (left - 1)) (room - 1) v (partial ++ b ∷ []), None)
  unfolding field_move
  field_goes =
      cond-false (left == 1) _ _ not_last
      ∙ ap (λ c. Ok (
        reading (FieldItems place width (left - 1)) (room - 1)
            (record v { fields = cond c (add_number place v.fields (number (order_at e v.local) (partial ++ b ∷ []))) v.fields })
            (cond c [] (partial ++ b ∷ [])),
        None,
      )) no_number

  dev_goes : dev_move e place width left room v partial b ≡ Ok (reading (DevItems place width (left - 1)) (room - 1) v (partial ++ b ∷ []), None)
  unfolding dev_move
  dev_goes =
      cond-false (left == 1) _ _ not_last
      ∙ ap (λ c. Ok (
        reading (DevItems place width (left - 1)) (room - 1)
            (record v { dev = cond c (add_number place v.dev (number (order_at e v.local) (partial ++ b ∷ []))) v.dev }) (cond c [] (partial ++ b ∷ [])),
        None,
      ))
      no_number

module _ {A : Type 0} (e : Environment A) (tests : Tests A) (p : Position) (o : Option (Record A)) (v : Values A) (b : ℕ) (is : o ≡ Some (Data v))
    (next : Phase) (more : List ℕ) (joined : more ≡ p.partial ++ b ∷ []) where
  pub inside_field : (place width left : ℕ) → p.phase ≡ FieldItems place width left → next ≡ FieldItems place width (left - 1) → 1 < left
      → length p.partial + 1 < width
      → step e tests (state_at p o) b ≡ Ok (state_at (record { phase = next; room = p.room - 1; partial = more }) o, None)
  unfolding step
  inside_field place width left at after some short =
      ap (λ k. step_at e tests k (state_at p o) b) at
      ∙ ap (λ r. field_move e place width left p.room (values_of r) p.partial b) is
      ∙ field_goes e place width left p.room v p.partial b some short
      ∙ (λ i. Ok (state_at (record { phase = sym after i; room = p.room - 1; partial = sym joined i }) (sym is i), None))

  pub inside_dev : (place width left : ℕ) → p.phase ≡ DevItems place width left → next ≡ DevItems place width (left - 1) → 1 < left
      → length p.partial + 1 < width
      → step e tests (state_at p o) b ≡ Ok (state_at (record { phase = next; room = p.room - 1; partial = more }) o, None)
  unfolding step
  inside_dev place width left at after some short =
      ap (λ k. step_at e tests k (state_at p o) b) at
      ∙ ap (λ r. dev_move e place width left p.room (values_of r) p.partial b) is
      ∙ dev_goes e place width left p.room v p.partial b some short
      ∙ (λ i. Ok (state_at (record { phase = sym after i; room = p.room - 1; partial = sym joined i }) (sym is i), None))
