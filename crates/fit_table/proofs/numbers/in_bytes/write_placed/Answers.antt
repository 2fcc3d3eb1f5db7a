use denote.Enum.Bare.{same_true, sameb}
use Rattle.std.proofs.Common.{rules}
use Rattle.fit_table.proofs.Common.{◌≡◌, ◌∙◌, false, true, not, take, sym, ap, subst}
use Rattle.fit_table.specs.contracts.kinds.Kind.{the_type}
use Rattle.fit_table.specs.declared.kinds.Kind.TheVariants.{Other}
use Rattle.fit_table.specs.declared.columns.FieldPlace.{FieldPlace}
use Rattle.fit_table.specs.inner.TableColumns.{IsIn, IsKnown, PutsValue}
use Rattle.fit_table.proofs.numbers.in_bytes.write_placed.Goals as goal

pub of_kind-requires-clause-known : goal.of_kind-requires-clause-known
of_kind-requires-clause-known c = c.requires.known.kind

pub of_kind-requires-clause-same : goal.of_kind-requires-clause-same
of_kind-requires-clause-same c = same_true the_type (search rules) _ _ (sym c.if-eq.ensures)

pub of_kind-requires-clause-some : goal.of_kind-requires-clause-some
of_kind-requires-clause-some c = λ is. let no : true ≡ false = c.if-ne.ensures ∙ ap (λ k. not (sameb the_type k Other)) is in cc

pub write_value_at-requires-clause-known : goal.write_value_at-requires-clause-known
write_value_at-requires-clause-known c = subst IsKnown (sym c.of_kind.ensures) c.requires.known

pub write_value_at-requires-clause-spot : goal.write_value_at-requires-clause-spot
write_value_at-requires-clause-spot c = subst (λ (p : FieldPlace). IsIn p.spot c.args.bytes.now) (sym c.of_kind.ensures) c.requires.spot

pub returns-then-eq-clause-cell : goal.returns-then-eq-clause-cell
returns-then-eq-clause-cell c =
    subst
    (λ (p : FieldPlace). PutsValue p c.args.order c.args.bytes.now c.write_value_at.result.0 (take c.args.at c.args.row.now)
    (take c.write_value_at.result.1 c.write_value_at.new.row))
    c.of_kind.ensures c.write_value_at.ensures.cell

pub returns-clause-cell : goal.returns-clause-cell
returns-clause-cell c = c.write_other_at.ensures.cell
