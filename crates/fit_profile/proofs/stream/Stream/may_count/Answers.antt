use Rattle.fit_profile.proofs.Common.{◌≡◌, ◌∙◌, ap, subst, sym, false, None, Environment, Defined, defined_at, known}
use Rattle.std.specs.Prelude.{◌==◌, ◌&&◌, IfSome, slice_index_or}
use Rattle.std.specs.Global.{Global}
use Rattle.std.specs.List.{list_any}
use Rattle.fit_record.specs.declared.definition.FieldDef.{FieldDef}
use Rattle.fit_profile.specs.Accumulated.{is_counter}
use Rattle.fit_profile.specs.inner.Plans.{IsPlanned}
use Rattle.fit_profile.proofs.Planned.{may_count_is, none_planned}
use Rattle.fit_profile.proofs.stream.Stream.may_count.Goals as goal

pub returns-in-Some : goal.returns-in-Some
returns-in-Some c =
    let s = c.self.inside in
    let local = c.args.local in
    let planned = subst (λ o. IsPlanned o (slice_index_or s.env.places local None)) (sym c.in-Some.ensures) (c.self.invariant.1 local) in
    let same = ap (λ (e : Environment Global). defined_at e local) c.self.invariant.0.env_is ∙ ap (λ xs. defined_at (known xs) local) c.self.view_is in
    subst (λ q. IfSome q (λ (p : Defined Global). c.may_count.result
    ≡ (p.definition.global == 20 && list_any (λ (f : FieldDef). is_counter f.number) p.definition.fields))) same
    (subst (λ b. IfSome (slice_index_or s.env.places local None) (λ (p : Defined Global). b
    ≡ (p.definition.global == 20 && list_any (λ (f : FieldDef). is_counter f.number) p.definition.fields))) (sym c.may_count.ensures)
    (may_count_is c.in-Some.plan.now (slice_index_or s.env.places local None) planned))

pub returns-in-None : goal.returns-in-None
returns-in-None c =
    let s = c.self.inside in
    let local = c.args.local in
    let planned = subst (λ o. IsPlanned o (slice_index_or s.env.places local None)) (sym c.in-None.ensures) (c.self.invariant.1 local) in
    let same = ap (λ (e : Environment Global). defined_at e local) c.self.invariant.0.env_is ∙ ap (λ xs. defined_at (known xs) local) c.self.view_is in
    subst (λ q. IfSome q (λ (p : Defined Global). false
    ≡ (p.definition.global == 20 && list_any (λ (f : FieldDef). is_counter f.number) p.definition.fields))) same
    (none_planned (slice_index_or s.env.places local None) _ planned)
