use Rattle.std.proofs.Common.{rules, ◌≡◌, ◌∙◌, length, sym, ap, Some}
use Rattle.fit_record.specs.Environment.{defined_at}
use Rattle.fit_profile.proofs.KnownFacts.{namings_long}
use Rattle.fit_profile.specs.Looks.{known}
use Rattle.fit_writer.proofs.places.says_same.Goals as goal

pub are_named-requires-clause-many : goal.are_named-requires-clause-many
are_named-requires-clause-many c =
    let p = c.in-Some.p.now in
    let there : defined_at (known c.args.stream.now) c.args.local ≡ Some p = search rules in
    let same = c.is_same.ensures.0 c.if-is_same.true in
    namings_long c.args.stream.now c.args.local p there ∙ ap length same.2 ∙ sym c.requires.many ∙ sym c.len.ensures
