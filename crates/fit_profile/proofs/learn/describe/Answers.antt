use Rattle.fit_profile.proofs.Common.{◌∙◌, refl, subst, sym, defined_at, naming_in, namings_in}
use Rattle.std.proofs.lemmas.Result.{on_ok_weaker}
use Rattle.fit_numbers.proofs.KeptTexts.{on_err_always}
use Rattle.fit_record.specs.Environment.{DescribesNothing}
use Rattle.fit_profile.specs.inner.Keeps.{AreSameNames}
use Rattle.fit_profile.proofs.Kept.{one-described, none-described, no-definition, nothing-described}
use Rattle.fit_profile.proofs.learn.describe.Goals as goal

pub returns-clause-names : goal.returns-clause-names
returns-clause-names c =
    let names = c.args.names.now in (
      λ index number. one-described c.args.env.now c.args.record_.now c.args.values.now c.in-Some.described index number (naming_in names index number)
          (naming_in c.reserve.new.self index number) (naming_in c.set.new.self index number) c.requires.is (sym c.in-Some.is ∙ c.in_ok-described.ensures.ok)
          (c.reserve.ensures.naming index number) (c.set.ensures.naming index number),
      λ local. no-definition (naming_in names) c.args.record_.now c.args.values.now local (namings_in names local) (namings_in c.set.new.self local)
          c.requires.is (c.set.ensures.namings local ∙ c.reserve.ensures.namings local),
    )

pub returns-in_default-clause-names : goal.returns-in_default-clause-names
returns-in_default-clause-names c =
    let names = c.args.names.now in
    on_ok_weaker c.learn.result (λ _. (
      λ index number. none-described c.args.env.now c.args.record_.now c.args.values.now index number (naming_in names index number) c.requires.is
          (sym c.in_default.is ∙ c.in_ok-described.ensures.ok),
      λ local. no-definition (naming_in names) c.args.record_.now c.args.values.now local (namings_in names local) (namings_in names local) c.requires.is refl,
    )) c.learn.ensures.ok

pub returns-in_err-learn-clause-names_kept : goal.returns-in_err-learn-clause-names_kept
returns-in_err-learn-clause-names_kept c =
    on_err_always c.from_residual-in_err-learn.result (AreSameNames c.args.names.now c.reserve.new.self)
    (c.in_ok-reserve.ensures.naming, c.in_ok-reserve.ensures.namings)

pub returns-in_err-reserve-clause-free : goal.returns-in_err-reserve-clause-free
returns-in_err-reserve-clause-free c nothing =
    absurd (nothing-described c.args.values.now (defined_at c.args.env.now c.args.values.now.local) c.in-Some.described
    (subst (DescribesNothing c.args.env.now) c.requires.is nothing) (sym c.in-Some.is ∙ c.in_ok-described.ensures.ok))

pub returns-in_err-learn-clause-free : goal.returns-in_err-learn-clause-free
returns-in_err-learn-clause-free c nothing =
    absurd (nothing-described c.args.values.now (defined_at c.args.env.now c.args.values.now.local) c.in-Some.described
    (subst (DescribesNothing c.args.env.now) c.requires.is nothing) (sym c.in-Some.is ∙ c.in_ok-described.ensures.ok))
