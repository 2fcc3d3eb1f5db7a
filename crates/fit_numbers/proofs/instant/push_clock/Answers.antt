use Rattle.fit_numbers.proofs.Common.{◌∷◌, [], ◌++◌, ◌/◌, ◌%◌, ℕ, List, arith}
use Rattle.fit_numbers.specs.Instant.{two_digits}
use Rattle.fit_numbers.proofs.PutFacts.{then_put}
use Rattle.fit_numbers.proofs.instant.push_clock.Goals as goal

pub returns : goal.returns
returns c =
    let text = c.args.text.now.bytes in
    let s = c.args.second in
    let colon : List ℕ = 58 ∷ [] in
    let hours = two_digits (s / 3600) in
    let minutes = two_digits (s / 60 % 60) in
    let t2 = then_put text c.push_two.new.text.bytes c.push.new.self.bytes hours colon c.push_two.ensures.bytes (c.push.ensures.ascii (omega arith)) in
    let t3 = then_put text c.push.new.self.bytes c.push_two-2.new.text.bytes (hours ++ colon) minutes t2 c.push_two-2.ensures.bytes in
    let t4 = then_put text c.push_two-2.new.text.bytes c.push-2.new.self.bytes ((hours ++ colon) ++ minutes) colon t3
    (c.push-2.ensures.ascii (omega arith)) in
    record {
      bytes = then_put text c.push-2.new.self.bytes c.push_two-3.new.text.bytes (((hours ++ colon) ++ minutes) ++ colon) (two_digits (s % 60)) t4
          c.push_two-3.ensures.bytes;
    }
