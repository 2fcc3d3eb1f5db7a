use Rattle.fit_step.proofs.Common.{◌∙◌, ap, take, true, false, ◌+◌, if◌then◌else◌, has_reserved_bit, is_definition, has_developer_fields}
use Rattle.fit_step.proofs.Common.{◌≡◌, ◌∷◌, IsBytes, IsBytes-tail, slice_is_bytes, subst, rules, arith, length, lit<, refl, sym}
use Rattle.fit_step.proofs.ReadDefinitions.{byte_at, count_at, front_is, header_of}
use Rattle.std.proofs.lemmas.Grind.{common_steps}
use Rattle.fit_step.proofs.read_definition.front_bytes.Goals as goal

pub returns-in_err-header : goal.returns-in_err-header
returns-in_err-header c = rw c.from_residual.ensures (record {
  begins = tt;
  found = λ f entries begins. absurd (omega (arith, begins.within, c.in_err-header.ensures.cases));
})

pub returns-then-has_reserved_bit : goal.returns-then-has_reserved_bit
returns-then-has_reserved_bit c = record { begins = tt; found = grind (arith, common_steps) }

pub returns-then-rest-lt5 : goal.returns-then-rest-lt5
returns-then-rest-lt5 c = record {
  begins = tt;
  found = λ f entries begins. absurd (omega (arith, begins.within, c.if-rest-lt5.true, c.in_ok-header.ensures.cases.1));
}

pub bounds-five-0 : goal.bounds-five-0
bounds-five-0 c = omega (arith, c.split_at.ensures.front_len)

pub bounds-five-1 : goal.bounds-five-1
bounds-five-1 c = omega (arith, c.split_at.ensures.front_len)

pub bounds-five-2 : goal.bounds-five-2
bounds-five-2 c = omega (arith, c.split_at.ensures.front_len)

pub bounds-five-3 : goal.bounds-five-3
bounds-five-3 c = omega (arith, c.split_at.ensures.front_len)

pub bounds-five-4 : goal.bounds-five-4
bounds-five-4 c = omega (arith, c.split_at.ensures.front_len)

pub returns-in_err-order : goal.returns-in_err-order
returns-in_err-order c = rw c.from_residual-in_err-order.ensures (record {
  begins = tt;
  found = λ f entries begins.
      let first = c.in_ok-header.ensures.cases.0 in
      let rest = c.in_ok-header.rest.now in
      let named = byte_at f entries c.args.piece.now rest c.split_at.result.0.now _ 1 c.args.developer begins first c.split_at.ensures.front (lit< tt) in
      absurd (c.in_err-order.ensures.none refl f.order (sym named));
})

pub overflow_cast-size : goal.overflow_cast-size
overflow_cast-size c = grind (arith, common_steps)

pub overflow_mul-size : goal.overflow_mul-size
overflow_mul-size c = grind (arith, common_steps)

pub returns-then-after-size : goal.returns-then-after-size
returns-then-after-size c = record {
  begins = tt;
  found = λ f entries begins.
      let first = c.in_ok-header.ensures.cases.0 in
      let rest = c.in_ok-header.rest.now in
      let count = count_at f entries c.args.piece.now rest c.split_at.result.0.now _ c.args.developer begins first c.split_at.ensures.front in
      absurd (omega (arith, c.if-after-size.true, count, begins.long, begins.within, c.split_at.ensures.back_len, c.in_ok-header.ensures.cases.1));
}

pub returns-clause-found : goal.returns-clause-found
returns-clause-found c = λ f entries begins.
    let first = c.in_ok-header.ensures.cases.0 in
    let rest = c.in_ok-header.rest.now in
    let count = count_at f entries c.args.piece.now rest c.split_at.result.0.now _ c.args.developer begins first c.split_at.ensures.front in
    let is : length c.split_at-2.result.0.now ≡ length entries = omega (arith, c.split_at-2.ensures.front_len, count, begins.long) in is

pub returns-clause-begins : goal.returns-clause-begins
returns-clause-begins c =
    let b = c.in_ok-header.header.now in
    let rest = c.in_ok-header.rest.now in
    let five = c.split_at.result.0.now in
    let begins = c.in_ok-header.ensures.cases.0 in
    let all : IsBytes (b ∷ rest) = subst IsBytes begins (slice_is_bytes c.args.piece.now c.type_inv.piece) in
    let clean : has_reserved_bit b ≡ false = search rules in
    let kind : is_definition b ≡ true = search rules in
    let with : has_developer_fields b ≡ c.args.developer = search rules in
    let header = header_of c.args.developer b (all 0) clean kind with ∙ ap (λ n. (if c.args.developer then 0x60 else 0x40) + n) (sym c.local_type.ensures) in
    let split = c.split_at-2.ensures.front ∙ ap (λ n. take n c.split_at.result.1.now) (sym c.split_at-2.ensures.front_len) in
    record {
      local = search rules;
      global = search rules;
      count = search rules;
      long = search rules;
      within = search rules;
      is = front_is c.args.developer _ b c.args.piece.now rest five c.split_at.result.1.now c.split_at-2.result.0.now begins header
          c.split_at.ensures.front c.split_at.ensures.back c.split_at.ensures.front_len (IsBytes-tail b rest all) split refl c.in_ok-order.ensures.some
          c.global_of.ensures refl;
    }
