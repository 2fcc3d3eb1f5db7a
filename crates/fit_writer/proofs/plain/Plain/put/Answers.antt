use Rattle.std.proofs.Common.{◌≡◌, ◌∙◌, [], length, refl, sym, ap, arith}
use Rattle.fit_writer.proofs.Adding.{err_plain, fresh_form, ok_plain, plain_definition, plain_lone}
use Rattle.fit_writer.proofs.PlainMessages.{made_length}
use Rattle.fit_writer.proofs.plain.Plain.put.Goals as goal

pub put_placed-requires-clause-lone : goal.put_placed-requires-clause-lone
put_placed-requires-clause-lone c =
    let many : length c.args.self ≡ length c.self.inside.fields =
    ap length (sym c.self.view_is) ∙ made_length c.self.inside.fields c.self.inside.slots c.self.inside.block.items c.self.invariant in
    plain_lone _ c.args.local c.args.global c.self.inside.fields c.self.inside.slots c.self.inside.block.items c.self.invariant c.requires.local
    (omega (arith, c.ranges.global)) (omega (arith, many, c.requires.few)) refl c.new.ensures refl

pub returns-clause-ok : goal.returns-clause-ok
returns-clause-ok c =
    ok_plain c.args.file.now c.put_placed.new.file _ c.args.local c.args.global c.self.inside.fields c.self.inside.slots c.self.inside.block.items
    c.as_slice.result.now c.args.self c.self.invariant
    (fresh_form c.args.local c.args.global c.self.inside.fields c.self.inside.slots c.new.result [] c.new.ensures) c.as_slice.ensures.value c.self.view_is
    c.put_placed.result c.put_placed.ensures.ok

pub returns-clause-err : goal.returns-clause-err
returns-clause-err c =
    err_plain c.args.file.now c.put_placed.new.file _ c.args.local c.args.global c.self.inside.fields c.self.inside.slots c.self.inside.block.items
    c.as_slice.result.now c.args.self c.self.invariant
    (fresh_form c.args.local c.args.global c.self.inside.fields c.self.inside.slots c.new.result [] c.new.ensures) c.as_slice.ensures.value c.self.view_is
    (plain_definition c.args.local c.args.global c.self.inside.fields) c.put_placed.result refl c.put_placed.ensures.err c.put_placed.ensures.refused
