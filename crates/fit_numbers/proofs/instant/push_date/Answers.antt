use Rattle.fit_numbers.proofs.Common.{◌≡◌, ◌∙◌, ◌∷◌, [], ◌++◌, ◌/◌, ◌%◌, ℕ, List, ap, ap₂, arith}
use Rattle.std.proofs.Common.{rules, of_z, to_z, w8, w16}
use Rattle.std.proofs.lemmas.Int.{to_z-of_z}
use Rattle.std.specs.Prelude.{unsigned_abs}
use Rattle.fit_numbers.specs.Instant.{date_digits, four_digits, two_digits}
use Rattle.fit_numbers.proofs.PutFacts.{then_put}
use Rattle.fit_numbers.proofs.instant.push_date.Goals as goal

pub returns : goal.returns
returns c =
    let text = c.args.text.now.bytes in
    let date = c.args.date in
    let year = unsigned_abs (to_z w16 (of_z w16 c.year-year.result)) in
    let month = unsigned_abs (to_z w8 (of_z w8 c.month.result)) in
    let day = unsigned_abs (to_z w8 (of_z w8 c.day.result)) in
    let same_year : year ≡ unsigned_abs date.year =
    ap unsigned_abs (to_z-of_z w16 c.year-year.result (search (rules, c.year-year.type_inv)) ∙ c.year-year.ensures) in
    let same_month : month ≡ date.month = ap unsigned_abs (to_z-of_z w8 c.month.result (search (rules, c.month.type_inv)) ∙ c.month.ensures) in
    let same_day : day ≡ date.day = ap unsigned_abs (to_z-of_z w8 c.day.result (search (rules, c.day.type_inv)) ∙ c.day.ensures) in
    let dash : List ℕ = 45 ∷ [] in
    let y : List ℕ = four_digits year in
    let t2 = then_put text c.push_two.new.text.bytes c.push_two-2.new.text.bytes (two_digits (year / 100)) (two_digits (year % 100))
    c.push_two.ensures.bytes c.push_two-2.ensures.bytes in
    let t3 = then_put text c.push_two-2.new.text.bytes c.push.new.self.bytes y dash t2 (c.push.ensures.ascii (omega arith)) in
    let t4 = then_put text c.push.new.self.bytes c.push_two-3.new.text.bytes (y ++ dash) (two_digits month) t3 c.push_two-3.ensures.bytes in
    let t5 = then_put text c.push_two-3.new.text.bytes c.push-2.new.self.bytes ((y ++ dash) ++ two_digits month) dash t4
    (c.push-2.ensures.ascii (omega arith)) in
    let t6 : c.push_two-4.new.text.bytes ≡ text ++ date_digits year month day =
    then_put text c.push-2.new.self.bytes c.push_two-4.new.text.bytes (((y ++ dash) ++ two_digits month) ++ dash) (two_digits day) t5
    c.push_two-4.ensures.bytes in
    record {
      bytes = t6 ∙ ap (λ n. text ++ date_digits n month day) same_year
          ∙ ap₂ (λ m d. text ++ date_digits (unsigned_abs date.year) m d) same_month same_day;
    }
