use Rattle.fit_csv.proofs.Common.{◌∷◌, [], get_or, sym, ap, Row}
use Rattle.std.proofs.Common.{lit≤}
use Rattle.std.proofs.lemmas.Bool.{true≢false}
use Rattle.fit_csv.proofs.SevenCells.{same-cells}
use Rattle.fit_csv.proofs.from.cells.first_difference.Goals as goal

pub returns-then-not-same-clause-some : goal.returns-then-not-same-clause-some
returns-then-not-same-clause-some c =
    record {
      after_kind = lit≤ tt;
      before = λ i. c.requires i ∷ [];
      there = λ e. true≢false (sym (c.if-not-same.ensures.1 (ap (λ (r : Row). get_or r 1 []) e)));
    }

pub returns-then-not-same-2-clause-some : goal.returns-then-not-same-2-clause-some
returns-then-not-same-2-clause-some c =
    let a = c.same.ensures.0 c.if-not-same.false in
    record {
      after_kind = lit≤ tt;
      before = λ i. c.requires i ∷ a i ∷ [];
      there = λ e. true≢false (sym (c.if-not-same-2.ensures.1 (ap (λ (r : Row). get_or r 2 []) e)));
    }

pub returns-then-not-same-3-clause-some : goal.returns-then-not-same-3-clause-some
returns-then-not-same-3-clause-some c =
    let a = c.same.ensures.0 c.if-not-same.false in
    let b = c.same-2.ensures.0 c.if-not-same-2.false in
    record {
      after_kind = lit≤ tt;
      before = λ i. c.requires i ∷ a i ∷ b i ∷ [];
      there = λ e. true≢false (sym (c.if-not-same-3.ensures.1 (ap (λ (r : Row). get_or r 3 []) e)));
    }

pub returns-then-not-same-4-clause-some : goal.returns-then-not-same-4-clause-some
returns-then-not-same-4-clause-some c =
    let a = c.same.ensures.0 c.if-not-same.false in
    let b = c.same-2.ensures.0 c.if-not-same-2.false in
    let d = c.same-3.ensures.0 c.if-not-same-3.false in
    record {
      after_kind = lit≤ tt;
      before = λ i. c.requires i ∷ a i ∷ b i ∷ d i ∷ [];
      there = λ e. true≢false (sym (c.if-not-same-4.ensures.1 (ap (λ (r : Row). get_or r 4 []) e)));
    }

pub returns-then-not-same-5-clause-some : goal.returns-then-not-same-5-clause-some
returns-then-not-same-5-clause-some c =
    let a = c.same.ensures.0 c.if-not-same.false in
    let b = c.same-2.ensures.0 c.if-not-same-2.false in
    let d = c.same-3.ensures.0 c.if-not-same-3.false in
    let e = c.same-4.ensures.0 c.if-not-same-4.false in
    record {
      after_kind = lit≤ tt;
      before = λ i. c.requires i ∷ a i ∷ b i ∷ d i ∷ e i ∷ [];
      there = λ e. true≢false (sym (c.if-not-same-5.ensures.1 (ap (λ (r : Row). get_or r 5 []) e)));
    }

pub returns-then-not-same-6-clause-some : goal.returns-then-not-same-6-clause-some
returns-then-not-same-6-clause-some c =
    let a = c.same.ensures.0 c.if-not-same.false in
    let b = c.same-2.ensures.0 c.if-not-same-2.false in
    let d = c.same-3.ensures.0 c.if-not-same-3.false in
    let e = c.same-4.ensures.0 c.if-not-same-4.false in
    let f = c.same-5.ensures.0 c.if-not-same-5.false in
    record {
      after_kind = lit≤ tt;
      before = λ i. c.requires i ∷ a i ∷ b i ∷ d i ∷ e i ∷ f i ∷ [];
      there = λ e. true≢false (sym (c.if-not-same-6.ensures.1 (ap (λ (r : Row). get_or r 6 []) e)));
    }

pub returns-clause-none : goal.returns-clause-none
returns-clause-none c none =
    same-cells c.requires (c.same.ensures.0 c.if-not-same.false) (c.same-2.ensures.0 c.if-not-same-2.false) (c.same-3.ensures.0 c.if-not-same-3.false)
    (c.same-4.ensures.0 c.if-not-same-4.false) (c.same-5.ensures.0 c.if-not-same-5.false) (c.same-6.ensures.0 c.if-not-same-6.false)
