use Rattle.fit_record.proofs.Common.{◌≡◌, ℕ, ◌+◌, ◌==◌, false, refl, ap, ◌∙◌, arith, Option, Some, None}
use Rattle.fit_record.proofs.Common.{option_map, option_map_or, Defined, message_size, has_length_at}
use Rattle.fit_record.proofs.environment.Env.has_length_at.Goals as goal

pub length-requires : goal.length-requires
length-requires g c = assumption

-- the length by the size that the code has
by_size : {A : Type 0} (o : Option (Defined A)) (n : ℕ) → option_map_or (λ size. 1 + size == n) (option_map message_size o) false ≡ has_length_at o n
by_size None n = refl
by_size (Some p) n = refl

pub returns-in-Some-clause-value : goal.returns-in-Some-clause-value
returns-in-Some-clause-value g c = ap (λ o. option_map_or (λ size. 1 + size == c.args.n) o false) c.in-Some.ensures.size ∙ by_size _ c.args.n

pub returns-in-None-clause-value : goal.returns-in-None-clause-value
returns-in-None-clause-value g c = ap (λ o. option_map_or (λ size. 1 + size == c.args.n) o false) c.in-None.ensures.size ∙ by_size _ c.args.n

pub overflow_add-result : goal.overflow_add-result
overflow_add-result g c = omega (arith, c.in-Some.ensures.small)
