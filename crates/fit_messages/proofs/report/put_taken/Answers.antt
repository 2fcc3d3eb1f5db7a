use Rattle.std.proofs.Common.{◌∙◌, ◌++◌, ap, ap₂, sym}
use Rattle.std.proofs.lemmas.Option.{none-some, same_Some}
use Rattle.std.proofs.lemmas.Result.{on_ok_weaker}
use Rattle.fit_profile.specs.Described.{namings_at}
use Rattle.fit_profile.specs.Looks.{known}
use Rattle.fit_record.specs.Environment.{defined_at}
use Rattle.fit_messages.specs.Blocks.{definition_block}
use Rattle.fit_messages.proofs.report.put_taken.Goals as goal

pub unreachable-requires : goal.unreachable-requires
unreachable-requires c =
    none-some c.requires.0 (c.in_default.ensures.place ∙ ap (λ e. defined_at e c.args.local) c.env.ensures ∙ c.requires.1)

pub put_definition-requires-clause-place : goal.put_definition-requires-clause-place
put_definition-requires-clause-place c =
    let p = c.in-Some.defined.now in
    let here = c.in-Some.ensures.place ∙ ap (λ e. defined_at e c.args.local) c.env.ensures in
    let same = same_Some p c.requires.0 (here ∙ c.requires.1) in
    ap (λ local. defined_at (known c.args.stream.now) local) (ap (λ q. q.definition.local) same ∙ c.requires.2) ∙ sym here

pub returns : goal.returns
returns c = on_ok_weaker c.put_definition.result (λ put p is.
    let q = c.in-Some.defined.now in
    let here = c.in-Some.ensures.place ∙ ap (λ e. defined_at e c.args.local) c.env.ensures in
    let one = same_Some q c.requires.0 (here ∙ c.requires.1) in
    let local = ap (λ x. x.definition.local) one ∙ c.requires.2 in
    put ∙ ap₂ (λ x l. c.args.text.now.items ++ definition_block c.args.place.file c.args.place.place c.args.number x (namings_at c.args.stream.now l))
    (same_Some q p (here ∙ is)) local) c.put_definition.ensures
