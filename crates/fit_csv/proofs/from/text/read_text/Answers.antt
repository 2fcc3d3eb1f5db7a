use Rattle.fit_csv.proofs.Common.{◌≡◌, ◌++◌, inr, take, arith, sym, subst, Consumes, Consumes-trans}
use Rattle.std.proofs.Common.{List, ℕ}
use Rattle.fit_report.proofs.Outcomes.{ate_nothing}
use Rattle.fit_csv.proofs.from.text.read_text.Goals as goal

pub returns-then-is_err-clause-err : goal.returns-then-is_err-clause-err
returns-then-is_err-clause-err g c = (
  c.loop-count.text.items ++ take c.in-Ok.got c.take.new.buffer,
  Consumes-trans (g.S.Source.remaining c.args.source.now) (g.S.Source.remaining c.loop-count.source) (g.S.Source.remaining c.take.new.self)
      c.loop-count.text.items (take c.in-Ok.got c.take.new.buffer)
      c.loop-count.invariant.taken c.in-Ok.ensures.bytes.0,
  c.in-Ok.ensures.good,
)

pub returns-then-len-gt-MOST-clause-err : goal.returns-then-len-gt-MOST-clause-err
returns-then-len-gt-MOST-clause-err g c =
    let items : c.extend_from_slice.new.self.items ≡ c.loop-count.text.items ++ take c.in-Ok.got c.take.new.buffer =
    rw c.if-is_err.ensures.negation at c.extend_from_slice.ensures.items in
    let both = Consumes-trans (g.S.Source.remaining c.args.source.now) (g.S.Source.remaining c.loop-count.source) (g.S.Source.remaining c.take.new.self)
    c.loop-count.text.items (take c.in-Ok.got c.take.new.buffer)
    c.loop-count.invariant.taken c.in-Ok.ensures.bytes.0 in (
      c.extend_from_slice.new.self.items,
      subst (λ (bytes : List ℕ). Consumes (g.S.Source.remaining c.args.source.now) (g.S.Source.remaining c.take.new.self) bytes) (sym items) both,
      inr (omega (arith, c.len.ensures, c.if-len-gt-MOST.true)),
    )

pub returns-then-got-eq0-clause-all : goal.returns-then-got-eq0-clause-all
returns-then-got-eq0-clause-all g c =
    ate_nothing (g.S.Source.remaining c.args.source.now) (g.S.Source.remaining c.loop-count.source) (g.S.Source.remaining c.take.new.self)
    c.loop-count.text.items c.take.new.buffer c.in-Ok.got c.loop-count.invariant.taken c.in-Ok.ensures.bytes.0 c.if-got-eq0.true

pub returns-then-got-eq0-clause-end : goal.returns-then-got-eq0-clause-end
returns-then-got-eq0-clause-end g c = c.in-Ok.ensures.bytes.1 c.if-got-eq0.true (omega arith)
