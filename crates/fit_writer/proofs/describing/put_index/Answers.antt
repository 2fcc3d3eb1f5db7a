use Rattle.std.proofs.Common.{◌≡◌, ◌∙◌, ◌⊎◌, ◌∷◌, ◌++◌, [], List, inl, inr, refl, sym, ap, arith}
use Rattle.std.proofs.lemmas.Result.{err_from_is_err_and}
use Rattle.std.specs.Global.{Global}
use Rattle.fit_base.specs.declared.items.Items.{Items}
use Rattle.fit_record.specs.declared.definition.FieldDef.{FieldDef}
use Rattle.fit_writer.proofs.HalfDescribed.{err_added, half_none, ok_added_from}
use Rattle.fit_writer.specs.Describing.{AddsIndex, HasIndex, byte_field, index_reading, plain_reading}
use Rattle.fit_writer.proofs.describing.put_index.Goals as goal
use Rattle.fit_writer.proofs.describing.put_index.Goals.{Else-file-index, In_ok-message}

pub returns-then-file-index-clause-ok : goal.returns-then-file-index-clause-ok
returns-then-file-index-clause-ok c =
    (c.args.file.now.stream, inl ((c.requires.good.are_indices.1 c.args.index (omega (arith, c.ranges.index))).0 c.if-file-index.true, refl), refl)

pub returns-in_err-message-clause-err : goal.returns-in_err-message-clause-err
returns-in_err-message-clause-err c =
    let p = err_from_is_err_and c.from_residual.result c.from_residual.ensures.1 in
    rw (p.1, p.2) (half_none c.args.file.now (λ before after. (after ≡ before) ⊎ AddsIndex before after c.args.index) (inl refl))

-- no message says the index
other : (c : Else-file-index) → HasIndex c.args.file.now.stream c.args.index → ⊥
other c has = cc (sym c.if-file-index.false ∙ (c.requires.good.are_indices.1 c.args.index (omega (arith, c.ranges.index))).1 has)

read_as : (c : In_ok-message) → plain_reading 207 c.in_ok-message.message ≡ index_reading c.args.index
read_as c =
    ap (plain_reading 207) (c.in_ok-message.ensures ∙ ap (λ (xs : List (FieldDef × Items Global)). xs ++ byte_field 3 c.args.index ∷ []) c.new.ensures)

pub returns-clause-ok : goal.returns-clause-ok
returns-clause-ok c =
    let old = c.args.file.now in
    ok_added_from old old c.put.new.file 14 (plain_reading 207 c.in_ok-message.message) (index_reading c.args.index)
    (λ before after. AddsIndex before after c.args.index) c.put.result refl (read_as (goal.at.returns-clause-ok c).In_ok-message)
    (λ after added. inr (other (goal.at.returns-clause-ok c).Else-file-index, added)) c.put.ensures.ok

pub returns-clause-err : goal.returns-clause-err
returns-clause-err c =
    let old = c.args.file.now in
    err_added old old c.put.new.file 14 (plain_reading 207 c.in_ok-message.message) (index_reading c.args.index)
    (λ before after. (after ≡ before) ⊎ AddsIndex before after c.args.index) c.put.result refl (read_as (goal.at.returns-clause-err c).In_ok-message)
    (inr refl) (inl refl) (λ after added. inr (inr (other (goal.at.returns-clause-err c).Else-file-index, added))) c.put.ensures.err
